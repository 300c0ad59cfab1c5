-- Records in the bytes of a bucket, and in an image that has these bytes.
use Rattle.std.proofs.Common.{◌≡◌, ℕ, zero, suc, ◌+◌, ◌-◌, ◌*◌, ◌/◌, ◌<◌, ◌≤◌, List, [], ◌∷◌, ◌++◌, length, take, drop, refl, sym, subst, ap, ◌∙◌, append_assoc, arith}
use Rattle.std.specs.Prelude.{All}
use Rattle.std.proofs.lemmas.List.{length-drop, length-take-le}
use Rattle.std.proofs.lemmas.List.Elements.{All-nil, All-cons}
use Rattle.std.proofs.Math.Nat.{mul-add}
use Rattle.bc_model.proofs.Sectors.{values_whole}
use Rattle.bc_model.specs.Sector.{Image, values_of}
use Rattle.bc_disk.specs.Bytes.{image_of}
use Rattle.bc_disk.proofs.Sectors.{at_run-sectors}
use Rattle.bc_record.specs.Sectors.{Has, bytes_in, bytes_to, sector_bytes}
use Rattle.bc_record.specs.Kind.{Kind, sectors_of, IsFound, AreFound, behind}
use Rattle.bc_record.specs.Codec.{IsCodec}
use Rattle.bc_record.specs.Places.{at_place, placed, end_of}
use Rattle.bc_record.specs.declared.placed.Placed.{Placed}
use Rattle.bc_record.proofs.Found.{found_fits, next_blocks}
use Rattle.bc_record.proofs.Parts.{bytes_to-image_of}

shifted : (a b : Image) (p q n : ℕ) → ((j : ℕ) → j < n → a (p + j) ≡ b (q + j)) → bytes_in a p n ≡ bytes_in b q n
unfolding bytes_in
shifted a b p q zero same = refl
shifted a b p q (suc n) same =
    let here : a p ≡ b q = ap a (let e : p ≡ p + 0 = omega arith in e) ∙ same 0 (omega arith) ∙ ap b (let e : q + 0 ≡ q = omega arith in e) in
    let rest = shifted a b (suc p) (suc q) n (λ j low. ap a (let e : suc p + j ≡ p + suc j = omega arith in e) ∙ same (suc j) (omega arith) ∙ ap b (let e : q + suc j ≡ suc q + j = omega arith in e)) in
    ap (λ v. sector_bytes v ++ bytes_in a (suc p) n) here ∙ ap (λ bs. sector_bytes (b q) ++ bs) rest

-- what a reader of the bytes has before it at a place
abbrev pub part_at : List ℕ → ℕ → List ℕ
part_at bytes place = take (length bytes - 512 * place) (drop (512 * place) bytes)

pub length-part_at : (bytes : List ℕ) (place : ℕ) → length (part_at bytes place) ≡ length bytes - 512 * place
length-part_at bytes place =
    let long = length-drop (512 * place) bytes in
    length-take-le (length bytes - 512 * place) (drop (512 * place) bytes) (omega (arith, long))

pub part_here : (n : ℕ) (bytes : List ℕ) (place : ℕ) → length bytes ≡ 512 * n → place ≤ n → bytes_to (image_of bytes) n place ≡ part_at bytes place
part_here n bytes place whole within =
    let width : 512 * (n - place) ≡ length bytes - 512 * place = omega (arith, whole) in
    bytes_to-image_of bytes n place within (omega (arith, whole)) ∙ ap (λ m. take m (drop (512 * place) bytes)) width

there : (n : ℕ) (bytes : List ℕ) (image : Image) (from place : ℕ) → length bytes ≡ 512 * n → Has image from (values_of bytes) → bytes_to (image_of bytes) n place ≡ bytes_to image (from + n) (from + place)
there n bytes image from place whole has =
    let width : from + n - (from + place) ≡ n - place = omega arith in
    sym (ap (bytes_in image (from + place)) width
    ∙ shifted image (image_of bytes) (from + place) place (n - place)
    (λ j low. ap image (let e : from + place + j ≡ from + (place + j) = omega arith in e) ∙ sector_there (place + j) (omega (arith, low))))
  where
    sector_there : (k : ℕ) → k < n → image (from + k) ≡ image_of bytes k
    sector_there k low = sym (has (from + k) (image_of bytes k) (rw (values_whole n bytes whole) (at_run-sectors from n k (from + k) bytes low refl)))

-- what stands in the bytes stands in an image that has these bytes
pub run_there : {A : Type 0} → (kind : Kind A) (n : ℕ) (bytes : List ℕ) (image : Image) (from place : ℕ) (es : List A) → length bytes ≡ 512 * n → Has image from (values_of bytes)
    → AreFound kind (image_of bytes) n place es → AreFound kind image (from + n) (from + place) es
run_there kind n bytes image from place [] whole has p = λ e found. p e (subst (λ (bs : List ℕ). kind.Begins bs e) (sym (there n bytes image from place whole has)) found)
run_there {A} kind n bytes image from place (e ∷ es) whole has p =
    let next : from + (place + sectors_of kind e) ≡ from + place + sectors_of kind e = omega arith in (
      subst (λ (bs : List ℕ). kind.Begins bs e) (there n bytes image from place whole has) p.0,
      subst (λ q. AreFound kind image (from + n) q es) next (run_there kind n bytes image from (place + sectors_of kind e) es whole has p.1),
    )

-- ---- one record more is listed

abbrev pub ListsOn : {A : Type 0} → Kind A → Image → ℕ → ℕ → List A → ℕ → Type 0
ListsOn {A = A} kind image end from here place = (rest : List A) → AreFound kind image end place rest → AreFound kind image end from (here ++ rest)

pub lists_more : {A : Type 0} → (kind : Kind A) (image : Image) (end from place next : ℕ) (here : List A) (e : A) → ListsOn kind image end from here place → IsFound kind image end place e
    → next ≡ place + sectors_of kind e → ListsOn kind image end from (here ++ e ∷ []) next
lists_more {A} kind image end from place next here e so found is rest more =
    subst (λ (xs : List A). AreFound kind image end from xs) (sym (append_assoc here (e ∷ []) rest)) (so (e ∷ rest) (found, subst (λ p. AreFound kind image end p rest) is more))

pub behind_more : {A : Type 0} → (kind : Kind A) (place : ℕ) (here : List A) (e : A) → behind kind place (here ++ e ∷ []) ≡ behind kind place here + sectors_of kind e
behind_more kind place [] e = refl
behind_more kind place (d ∷ ds) e = behind_more kind (place + sectors_of kind d) ds e

pub placed_more : {A : Type 0} → (kind : Kind A) (place next : ℕ) (here : List A) (e : A) → behind kind place here ≡ next → placed kind place (here ++ e ∷ []) ≡ placed kind place here ++ at_place next e ∷ []
placed_more {A} kind place next [] e is = ap (λ n. at_place n e ∷ []) is
placed_more {A} kind place next (d ∷ ds) e is = ap (λ (ps : List (Placed A)). at_place place d ∷ ps) (placed_more kind (place + sectors_of kind d) next ds e is)

-- each of them ends before a bound, behind a sector from which their places are counted
pub ends_placed : {A : Type 0} → (kind : Kind A) (codec : IsCodec kind) (image : Image) (end place n start bound : ℕ) (es : List A) → end ≡ place + kind.block * n → start + end ≤ bound
    → AreFound kind image end place es → All (λ p. end_of kind p ≤ bound) (placed kind (start + place) es)
ends_placed {A} kind codec image end place n start bound [] ends within p = All-nil (λ (q : Placed A). end_of kind q ≤ bound)
ends_placed {A} kind codec image end place n start bound (e ∷ es) ends within p =
    let fits = found_fits kind codec image end place n e ends p.0 in
    let next = next_blocks kind codec e end place n ends fits in
    let rest = ends_placed kind codec image end (place + sectors_of kind e) next.0 start bound es next.1 within p.1 in
    let same : start + (place + sectors_of kind e) ≡ start + place + sectors_of kind e = omega arith in
    All-cons (λ (q : Placed A). end_of kind q ≤ bound) (at_place (start + place) e) (placed kind (start + place + sectors_of kind e) es) (omega (arith, fits, within))
    (subst (λ m. All (λ (q : Placed A). end_of kind q ≤ bound) (placed kind m es)) same rest)

-- a record of a run that was moved so far begins at a block, and ends with the run or before
abbrev pub IsWithin : {A : Type 0} → Kind A → ℕ → ℕ → Placed A → Type 0
IsWithin kind start end p =
    (k : ℕ) × (p.place ≡ start + kind.block * k) × (p.place + sectors_of kind p.item ≤ start + end)

pub stands_placed : {A : Type 0} → (kind : Kind A) (codec : IsCodec kind) (image : Image) (end place n m start : ℕ) (es : List A) → end ≡ place + kind.block * n → place ≡ kind.block * m
    → AreFound kind image end place es → All (IsWithin kind start end) (placed kind (start + place) es)
stands_placed {A} kind codec image end place n m start [] ends at p = All-nil (IsWithin kind start end)
stands_placed {A} kind codec image end place n m start (e ∷ es) ends at p =
    let q : ℕ = (kind.bytes e + (512 * kind.block - 1)) / (512 * kind.block) in
    let long : sectors_of kind e ≡ kind.block * q = refl in
    let sum : kind.block * (m + q) ≡ kind.block * m + kind.block * q = mul-add kind.block m q in
    let fits = found_fits kind codec image end place n e ends p.0 in
    let next = next_blocks kind codec e end place n ends fits in
    let rest = stands_placed kind codec image end (place + sectors_of kind e) next.0 (m + q) start es next.1 (omega (arith, at, long, sum)) p.1 in
    let same : start + (place + sectors_of kind e) ≡ start + place + sectors_of kind e = omega arith in
    All-cons (IsWithin kind start end) (at_place (start + place) e) (placed kind (start + place + sectors_of kind e) es) (m, omega (arith, at), omega (arith, fits))
    (subst (λ x. All (IsWithin kind start end) (placed kind x es)) same rest)
