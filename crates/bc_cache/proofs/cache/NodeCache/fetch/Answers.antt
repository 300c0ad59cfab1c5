use Rattle.std.proofs.Common.{Ok, refl, sym, subst, ap}
use Rattle.bc_cache.specs.Fetch.{IsUsed}
use Rattle.bc_cache.proofs.cache.NodeCache.fetch.Goals as goal

pub returns-in-Some-clause-there : goal.returns-in-Some-clause-there
returns-in-Some-clause-there g c slot has =
    let same = c.in-Some.ensures.only slot has in
    (ap Ok (sym same), subst (λ n. IsUsed n c.args.self.now c.touch.new.self) (sym same) c.touch.ensures, refl)

pub returns-in-None-clause-there : goal.returns-in-None-clause-there
returns-in-None-clause-there g c slot has = absurd (c.in-None.ensures slot has)

pub returns-in-Some-clause-read : goal.returns-in-Some-clause-read
returns-in-Some-clause-read g c misses = absurd (misses c.in-Some.slot c.in-Some.ensures.has)
