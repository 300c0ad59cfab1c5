-- Values that an image has, as bytes.
use Rattle.std.proofs.Common.{◌≡◌, ℕ, suc, ◌*◌, List, [], ◌∷◌, ◌++◌, length, Some, refl, sym, ap, ◌∙◌, arith, if◌then◌else◌}
use Rattle.std.proofs.lemmas.List.{length-append}
use Rattle.bc_model.specs.Sector.{Value, Image, at_run}
use Rattle.bc_record.specs.Sectors.{bytes_in, sector_bytes, Has}
use Rattle.bc_record.proofs.Parts.{length-sector_bytes}
use Rattle.bc_meta.proofs.Lists.{by_test}
use Rattle.bc_meta.proofs.Runs.{at_range}
use Rattle.bc_facts.specs.Whole.{bytes_of_values}

has_tail : (image : Image) (p : ℕ) (x : Value) (vs : List Value) → Has image p (x ∷ vs) → Has image (suc p) vs
has_tail image p x vs h t v e =
    let high = (at_range (suc p) vs t v e).0 in
    h t v (by_test p t (λ b. (if b then Some x else at_run (suc p) vs t) ≡ Some v) (λ same. absurd (omega arith)) (λ _. e))

-- an image that has values has their bytes
pub bytes_had : (image : Image) (p : ℕ) (vs : List Value) → Has image p vs → bytes_in image p (length vs) ≡ bytes_of_values vs
unfolding bytes_in
bytes_had image p [] h = refl
bytes_had image p (x ∷ vs) h =
    let first : x ≡ image p = h p x (by_test p p (λ b. (if b then Some x else at_run (suc p) vs p) ≡ Some x) (λ _. refl) (λ ne. absurd (ne refl))) in
    ap (λ (v : Value). sector_bytes v ++ bytes_in image (suc p) (length vs)) (sym first)
    ∙ ap (λ (bs : List ℕ). sector_bytes x ++ bs) (bytes_had image (suc p) vs (has_tail image p x vs h))

pub values_long : (vs : List Value) → length (bytes_of_values vs) ≡ 512 * length vs
values_long [] = refl
values_long (x ∷ vs) = let rest = values_long vs in omega (arith, length-append (sector_bytes x) (bytes_of_values vs), length-sector_bytes x, rest)
