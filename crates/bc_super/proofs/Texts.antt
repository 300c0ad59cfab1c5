-- A text that is added to, one piece after another.
use Rattle.std.proofs.Common.{◌≡◌, ℕ, List, ◌++◌, ap, ◌∙◌, append_assoc}
use Rattle.std.specs.Prelude.{Result, Ok, Err, OnOk, if◌then◌else◌}
use Rattle.std.specs.Result.{is_ok}
use Rattle.bc_super.specs.Show.{pair}

-- one more pair behind what was added
pub added : (old so_far word v w before after : List ℕ) → before ≡ old ++ so_far → after ≡ before ++ pair word v → v ≡ w → after ≡ old ++ (so_far ++ pair word w)
added old so_far word v w before after is more same =
    more ∙ ap (λ t. t ++ pair word v) is ∙ ap (λ u. (old ++ so_far) ++ pair word u) same ∙ append_assoc old so_far (pair word w)

-- and the last piece
pub ended_so : {E : Type 0} (r : Result (Unit {0}) E) (old so_far last before after : List ℕ) → before ≡ old ++ so_far → after ≡ (if is_ok r then before ++ last else before) → OnOk r (after ≡ old ++ (so_far ++ last))
ended_so (Ok u) old so_far last before after is more = more ∙ ap (λ t. t ++ last) is ∙ append_assoc old so_far last
ended_so (Err e) old so_far last before after is more = tt
