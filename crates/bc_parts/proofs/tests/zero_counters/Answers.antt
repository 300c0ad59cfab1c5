use Rattle.std.proofs.Common.{◌+◌, [], ◌∷◌, length, refl, ap, sym, ◌∙◌, subst, length-append}
use Rattle.bc_parts.specs.Machine.{StandFrom}
use Rattle.bc_parts.specs.declared.tests.Counter.{Counter}
use Rattle.bc_parts.specs.contracts.tests.CountersMachine.TheImpl as counters
use Rattle.bc_parts.proofs.Opening.{StandFrom-push}
use Rattle.bc_parts.proofs.tests.zero_counters.Goals as goal

pub loop-preserved : goal.loop-preserved
loop-preserved c = let i = c.loop.invariant in let pushed = c.in_ok-push.ensures.items in let counter : Counter = record { value = 0 } in record {
  many = ap length pushed ∙ (length-append c.loop.counters.items (counter ∷ []) ∙ ap (λ n. n + 1) i.many);
  stand = subst (StandFrom counters.ghosts (λ _. 0) 0) (sym pushed) (StandFrom-push counters.ghosts (λ _. 0) 0 c.loop.counters.items counter i.stand refl);
}
