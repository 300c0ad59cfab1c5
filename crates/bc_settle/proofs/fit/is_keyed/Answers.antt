use Rattle.std.proofs.Common.{sym, ap, ◌∙◌}
use Rattle.bc_extent.specs.LastKey.{last_key}
use Rattle.bc_reads.proofs.Said.{none_said}
use Rattle.bc_settle.proofs.Fitting.{is_said}
use Rattle.bc_settle.proofs.fit.is_keyed.Goals as goal

pub returns-in-None : goal.returns-in-None
returns-in-None c = none_said c.args.leaf.now c.args.sector c.keys.ensures.proper.order
    (sym c.in-None.is ∙ c.lookup.ensures.last
    ∙ ap (λ ks. last_key ks c.args.sector) c.keys.ensures.keys)

pub returns-in-Some : goal.returns-in-Some
returns-in-Some c = is_said c.args.leaf.now c.args.sector c.in-Some.key
    c.keys.ensures.proper.order
    (sym c.in-Some.is ∙ c.lookup.ensures.last
    ∙ ap (λ ks. last_key ks c.args.sector) c.keys.ensures.keys)
