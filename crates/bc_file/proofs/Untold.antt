-- A disk of which a crash may leave any image goes on so after each write.
use Rattle.std.proofs.Common.{ℕ, List, refl, inl}
use Rattle.std.specs.Prelude.{Result, Ok, Err, OnOk, OnErr}
use Rattle.bc_disk.specs.Disk.{TornOutcomes, SomeTornOutcomes}

abbrev pub any_image : (ℕ → List ℕ) → Type 0
any_image image = Unit {0}

pub any_outcome : (at : ℕ) (values : List (List ℕ)) → TornOutcomes at values any_image any_image
any_outcome at values image = (λ _. (image, tt, λ s. inl refl), λ _. tt)

pub some_outcome : (at : ℕ) (values : List (List ℕ)) → SomeTornOutcomes at values any_image any_image
some_outcome at values = record { keeps = λ image old. tt; adds = λ image new. (image, tt, λ s. inl refl) }

-- what holds anyway holds after either outcome
pub on_ok : {T E P : Type 0} (r : Result T E) → P → OnOk r P
on_ok (Ok x) p = p
on_ok (Err e) p = tt

pub on_err : {T E P : Type 0} (r : Result T E) → P → OnErr r P
on_err (Ok x) p = tt
on_err (Err e) p = p
