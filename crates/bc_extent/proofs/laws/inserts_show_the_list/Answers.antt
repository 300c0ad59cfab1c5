use Rattle.std.proofs.Common.{[], refl, arith}
use Rattle.bc_extent.proofs.Composed.{inserted_shows}
use Rattle.bc_extent.proofs.laws.inserts_show_the_list.Goals as goal

pub returns : goal.returns
returns c = λ keys new run. inserted_shows keys [] [] new (λ k d inside. absurd (omega arith), λ i j d before inside. absurd (omega arith)) (λ sector. refl) run
