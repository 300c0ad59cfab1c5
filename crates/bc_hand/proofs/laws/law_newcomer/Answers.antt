use Rattle.std.proofs.Common.{inl, refl, arith}
use Rattle.bc_machine.proofs.Viewing.{new_view}
use Rattle.bc_hand.proofs.laws.law_newcomer.Goals as goal

pub returns : goal.returns
returns g c = λ parts all many. record {
  seat = record { live = omega arith; run = tt };
  numbers = omega arith;
  parts = many;
  fresh = λ none y view. (new_view g.C.Disk.facts g.B.Disk.facts parts.run.start y view).late 0;
  bare = λ told plain. record { index = refl; journal = refl; flushes = λ n. refl; writes = λ n. refl; sights = λ n s. inl refl };
}
