use Rattle.std.proofs.Common.{rules, sym, ◌∙◌, subst, refl}
use Rattle.bc_parts.specs.Steps.{Rests, Takes}
use Rattle.bc_parts.proofs.Keeping.{claims}
use Rattle.bc_parts.proofs.steps.claim.Goals as goal

pub compare_exchange-requires : goal.compare_exchange-requires
compare_exchange-requires g c = let key = c.args.table.now.key in
    let rests : Rests g.M.Machine c.loop.place.me = subst (Rests g.M.Machine) (sym c.loop.invariant.2) c.requires.rests in
    (search rules, search rules, claims g.M.Machine key.parts.value.items key.seats g.met.M.Machine.frame _ c.loop.place.id c.args.slot c.loop.place.me rests.live rests.whole rests.home c.requires.slot)

pub loop-preserved : goal.loop-preserved
loop-preserved g c = let e = c.compare_exchange.ensures in let i = c.loop.invariant in
    (e.0 ∙ i.0, e.1 ∙ i.1, (e.2 c.args.slot refl).0 c.if-compare_exchange-eq0.false ∙ i.2)

pub returns-then-compare_exchange-eq0-clause-takes : goal.returns-then-compare_exchange-eq0-clause-takes
returns-then-compare_exchange-eq0-clause-takes g c =
    subst (λ me. Takes g.M.Machine c.args.slot me c.compare_exchange.new.seat.me) c.loop.invariant.2 ((c.compare_exchange.ensures.2 c.args.slot refl).1 c.if-compare_exchange-eq0.true)
