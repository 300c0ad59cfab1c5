-- A text that is put together part by part.
use Rattle.std.proofs.Common.{◌≡◌, ℕ, List, ◌++◌, ap, ◌∙◌, append_assoc}
use Rattle.std.specs.Prelude.{Result, Ok, Err, OnOk}

pub on_ok : {E P Q : Type 0} (r : Result (Unit {0}) E) → (P → Q) → OnOk r P → OnOk r Q
on_ok (Ok u) so p = so p
on_ok (Err e) so p = tt

-- one part behind another
pub then_part : (old one other text more : List ℕ) → text ≡ old ++ one → more ≡ text ++ other → more ≡ old ++ (one ++ other)
then_part old one other text more first then = then ∙ ap (λ (bs : List ℕ). bs ++ other) first ∙ append_assoc old one other
