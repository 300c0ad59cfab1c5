use Rattle.std.proofs.Common.{◌+◌, false, refl, sym, ap, ◌∙◌, arith}
use Rattle.bc_parts.specs.Machine.{state_after}
use Rattle.bc_parts.specs.Counters.{raised-same, raised-else}
use Rattle.bc_parts.specs.declared.tests.Counter.{Counter}
use Rattle.bc_parts.specs.declared.tests.Tick.{Tick}
use Rattle.bc_parts.specs.contracts.tests.CountersMachine.TheImpl as counters
use Rattle.bc_parts.proofs.Interference.{state_after-push}
use Rattle.bc_parts.proofs.tests.raise.Goals as goal

pub commit-requires-clause-enabled : goal.commit-requires-clause-enabled
commit-requires-clause-enabled g c = λ es at _. let now = at.stand c.args.part c.args.counter c.requires.holds c.requires.value in let below = c.if-counter-ge18446744073709551615.false in omega (arith, now, below)

pub returns-in-Ok-clause-value : goal.returns-in-Ok-clause-value
returns-in-Ok-clause-value g c = let ok = c.in-Ok.ensures.ok in let start = c.args.seat.now.run.start in let x = state_after counters.ghosts start ok.0 in
    let tick : Tick = record { seat = c.number-seat_number.result; part = c.args.part; ends = false } in
    ap (λ n. n + 1) (ok.1.stand c.args.part c.args.counter c.requires.holds c.requires.value)
    ∙ (sym (raised-same x c.args.part) ∙ (ap (λ y. y c.args.part) (sym (state_after-push counters.ghosts start ok.0 tick)) ∙ ap (λ v. state_after counters.ghosts v.run.start v.seen c.args.part) (sym ok.2)))

pub returns-in-Ok-clause-others : goal.returns-in-Ok-clause-others
returns-in-Ok-clause-others g c = λ k held other. let ok = c.in-Ok.ensures.ok in let start = c.args.seat.now.run.start in let x = state_after counters.ghosts start ok.0 in
    let tick : Tick = record { seat = c.number-seat_number.result; part = c.args.part; ends = false } in
    let old : Counter = record { value = state_after counters.ghosts start c.args.seat.now.seen k } in
    ap (λ v. state_after counters.ghosts v.run.start v.seen k) ok.2
    ∙ (ap (λ y. y k) (state_after-push counters.ghosts start ok.0 tick) ∙ (raised-else x c.args.part k other ∙ sym (ok.1.stand k old held refl)))

pub returns-in-Err-clause-value : goal.returns-in-Err-clause-value
returns-in-Err-clause-value g c = let refused = c.in-Err.ensures.refused in
    refused.0.stand c.args.part c.args.counter c.requires.holds c.requires.value ∙ ap (λ r. state_after counters.ghosts r.start c.commit.new.seat.seen c.args.part) (sym (ap (λ v. v.run) refused.2))

pub returns-in-Err-clause-others : goal.returns-in-Err-clause-others
returns-in-Err-clause-others g c = λ k held other. let refused = c.in-Err.ensures.refused in
    let old : Counter = record { value = state_after counters.ghosts c.args.seat.now.run.start c.args.seat.now.seen k } in
    ap (λ r. state_after counters.ghosts r.start c.commit.new.seat.seen k) (ap (λ v. v.run) refused.2) ∙ sym (refused.0.stand k old held refl)
