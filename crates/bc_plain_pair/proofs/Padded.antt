-- Sectors by bytes.
use Rattle.std.proofs.Common.{◌≡◌, ℕ, zero, suc, ◌+◌, ◌<◌, List, [], ◌∷◌, ◌++◌, length, get_or, take, replicate, refl, sym, ap, ◌∙◌, arith, append_assoc, length-append}
use Rattle.std.proofs.lemmas.List.{append-nil, take_more, length-replicate}
use Rattle.bc_model.specs.Sector.{Image, Value}
use Rattle.bc_record.specs.Sectors.{sector_bytes, bytes_in}
use Rattle.bc_record.proofs.Parts.{bytes_in-add}

none_at : (n i z : ℕ) → get_or (replicate n z) i z ≡ z
none_at zero i z = refl
none_at (suc n) zero z = refl
none_at (suc n) (suc i) z = none_at n i z

padded_at : (v : List ℕ) (n i z : ℕ) → get_or (v ++ replicate n z) i z ≡ get_or v i z
padded_at [] n i z = none_at n i z
padded_at (x ∷ xs) n zero z = refl
padded_at (x ∷ xs) n (suc i) z = padded_at xs n i z

long : (n z : ℕ) → length (replicate n z) ≡ n
long n z = length-replicate n z

more_at : (v ys old items new : List ℕ) (i byte : ℕ) → i < length (v ++ ys) → get_or (v ++ ys) i 0 ≡ get_or v i 0 → items ≡ old ++ take i (v ++ ys) → new ≡ items ++ byte ∷ [] → byte ≡ get_or v i 0 → new ≡ old ++ take (i + 1) (v ++ ys)
more_at v ys old items new i byte inside same so more is =
    more ∙ ap (λ (xs : List ℕ). xs ++ byte ∷ []) so ∙ append_assoc old (take i (v ++ ys)) (byte ∷ [])
    ∙ ap (λ (b : ℕ). old ++ (take i (v ++ ys) ++ b ∷ [])) (is ∙ sym same) ∙ ap (λ (xs : List ℕ). old ++ xs) (sym (take_more (v ++ ys) i 0 inside))

pub byte_more : (v old items new : List ℕ) (i byte : ℕ) → i < 512 → items ≡ old ++ take i (v ++ replicate 512 0) → new ≡ items ++ byte ∷ [] → byte ≡ get_or v i 0 → new ≡ old ++ take (i + 1) (v ++ replicate 512 0)
byte_more v old items new i byte low = more_at v (replicate 512 0) old items new i byte (omega (arith, low, length-append v (replicate 512 0), long 512 0)) (padded_at v 512 i 0)

pub all_bytes : (v old items : List ℕ) (i : ℕ) → i ≡ 512 → items ≡ old ++ take i (v ++ replicate 512 0) → items ≡ old ++ sector_bytes v
all_bytes v old items i end so = so ∙ ap (λ (n : ℕ). old ++ take n (v ++ replicate 512 0)) end

one_sector : (image : Image) (place : ℕ) → bytes_in image place 1 ≡ sector_bytes (image place)
unfolding bytes_in
one_sector image place = append-nil (sector_bytes (image place))

pub none_yet : (image : Image) (place : ℕ) → [] ≡ bytes_in image place 0
unfolding bytes_in
none_yet image place = refl

pub sector_more : (image : Image) (place i : ℕ) (old new : List ℕ) (v : Value) → old ≡ bytes_in image place i → new ≡ old ++ sector_bytes v → v ≡ image (place + i) → new ≡ bytes_in image place (i + 1)
sector_more image place i old new v so more is =
    more ∙ ap (λ xs. xs ++ sector_bytes v) so ∙ ap (λ w. bytes_in image place i ++ sector_bytes w) is
    ∙ ap (λ xs. bytes_in image place i ++ xs) (sym (one_sector image (place + i))) ∙ sym (bytes_in-add image place i 1)
