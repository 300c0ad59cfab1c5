use Rattle.std.proofs.Common.{inl, refl, sym, ap, ◌∙◌, subst}
use Rattle.bc_parts.specs.Machine.{state_after}
use Rattle.bc_parts.specs.Seat.{Holds}
use Rattle.bc_parts.specs.contracts.tests.CountersMachine.TheImpl as counters
use Rattle.bc_parts.proofs.tests.turn.Goals as goal

pub raise-low-requires-clause-value : goal.raise-low-requires-clause-value
raise-low-requires-clause-value g c = let held = subst (λ hs. Holds hs c.args.from) (sym (ap (λ v. v.parts) c.take-low.ensures.seat)) (inl refl) in
    c.take-high.ensures.later.stand c.args.from c.take-low.result held c.take-low.ensures.value ∙ ap (λ r. state_after counters.ghosts r.start c.take-high.new.seat.seen c.args.from) (sym (ap (λ v. v.run) c.take-high.ensures.seat))
