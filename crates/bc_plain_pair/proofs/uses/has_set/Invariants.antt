use Rattle.std.proofs.Common.{◌≡◌, take}
use Rattle.std.specs.Prelude.{All}
use Rattle.bc_plain_pair.proofs.uses.has_set.Given as goal

abbrev pub invariant-loop-place : goal.invariant-loop-place
invariant-loop-place l = All (λ x. x ≡ l.bucket → ⊥) (take l.place-index l.chain)
