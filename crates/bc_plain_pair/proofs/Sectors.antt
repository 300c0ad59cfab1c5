-- What holds of each sector below the end of data, holds of each sector.
use Rattle.std.proofs.Common.{◌≡◌, ◌≢◌, ◌⊎◌, inl, inr, ℕ, ◌<◌, ◌≤◌, Bool, true, false, List, Option, Some, None, refl, sym, subst, ap, ◌∙◌, arith}
use Rattle.std.specs.Prelude.{All, nat_eq, not}
use Rattle.std.specs.Bool.{MatchBool}
use Rattle.std.proofs.lemmas.Bool.{cases_lt, cases_eq, lt-ltb, le-ltb}
use Rattle.std.proofs.lemmas.Bool.Decides.{eqb_tells}
use Rattle.std.proofs.lemmas.List.Elements.{All-contains}
use Rattle.bc_disk.specs.Gens.{Gens}
use Rattle.bc_disk.specs.declared.geometry.Geometry.{Geometry}
use Rattle.bc_extent.specs.LastKey.{last_key}
use Rattle.bc_extent.proofs.LastKeys.{last_key_found}
use Rattle.bc_key.specs.declared.key.Key.{Key}
use Rattle.bc_key.specs.declared.ptr.Ptr.{Ptr}
use Rattle.bc_key.specs.Key.{ptr_at, pointer_of}
use Rattle.bc_image.specs.Pair.{Pair}
use Rattle.bc_image.specs.Reading.{View, key_of, keys_of}
use Rattle.bc_image.specs.Shown.{age_of, is_live}
use Rattle.bc_image.specs.Sound.{AgreesWhereClean, IsDataKey, IsWithinWindow}
use Rattle.bc_plain_pair.specs.Sectors.{Agrees, AgreesAt, IsAgedAt, IsAgedKey, IsApart, IsApartAt}

ptr_same : (a b : Ptr) → Some a ≡ Some b → a ≡ b
ptr_same a b e = cc

-- a pointer is the first one
pub first_pointer : (key : Key) (ptr : Ptr) → pointer_of key ≡ Some ptr → (0 < key.count) × (ptr_at key 0 ≡ ptr)
first_pointer key ptr points = elim (cases_lt 0 key.count) [
  | inl some ↦ (let test = lt-ltb 0 key.count some in let at : pointer_of key ≡ Some (ptr_at key 0) = rw test refl in (some, ptr_same (ptr_at key 0) ptr (sym at ∙ points)))
  | inr none ↦ (let test = le-ltb 0 key.count none in let at : pointer_of key ≡ None = rw test refl in absurd (cc))
]

-- what is live has one
pub live_some : (g : Geometry) (gens : Gens) (key : Key) → is_live g gens key ≡ true → 0 < key.count
live_some g gens key live = elim (cases_lt 0 key.count) [
  | inl some ↦ some
  | inr none ↦ (let test = le-ltb 0 key.count none in let at : pointer_of key ≡ None = rw test refl in let dead : is_live g gens key ≡ false = rw at refl in absurd (cc))
]

module _ (v : View) (size : ℕ) (ends : All (IsDataKey v.geometry size) (keys_of v.reading)) where
  pub inside : (sector : ℕ) (key : Key) → key_of v.reading sector ≡ Some key → 0 < key.count → sector < size
  inside sector key last some =
      let found = last_key_found (keys_of v.reading) sector key last in
      let by = (All-contains (IsDataKey v.geometry size) (keys_of v.reading) key ends found.0).end some in
      omega (arith, by, found.1.1)

  pub within : ((k : ℕ) → k < size → IsAgedAt v k → ⊥) → IsWithinWindow v.geometry v.reading
  within none sector key ptr last at =
      let low = inside sector key last (first_pointer key ptr at).0 in
      (near low, clean low)
    where
      near : sector < size → age_of v.geometry v.reading.gens ptr ≤ 96
      near low = elim (cases_lt 96 (age_of v.geometry v.reading.gens ptr)) [
        | inl far ↦ absurd (none sector low (key, last, (ptr, at, inl far)))
        | inr most ↦ most
      ]

      clean : sector < size → key.dirty ≡ true → age_of v.geometry v.reading.gens ptr ≡ 0
      clean low dirty = elim (cases_eq (age_of v.geometry v.reading.gens ptr) 0) [
        | inl same ↦ same
        | inr other ↦ absurd (none sector low (key, last, (ptr, at, inr (dirty, other))))
      ]

  pub agrees : (p : Pair) → ((k : ℕ) → k < size → AgreesAt p v k) → AgreesWhereClean p v
  agrees p each sector key last live = each sector (inside sector key last (live_some v.geometry v.reading.gens key live)) key last live

-- ---- one key

pub not_aged : (g : Geometry) (gens : Gens) (key : Key) (ptr : Ptr) → pointer_of key ≡ Some ptr → ((96 < age_of g gens ptr) ⊎ ((key.dirty ≡ true) × (age_of g gens ptr ≢ 0)) → ⊥) → IsAgedKey g gens key → ⊥
not_aged g gens key ptr is not (other, at, aged) =
    let same : other ≡ ptr = ptr_same other ptr (sym at ∙ is) in
    not (subst (λ (p : Ptr). (96 < age_of g gens p) ⊎ ((key.dirty ≡ true) × (age_of g gens p ≢ 0))) same aged)

pub aged_if_some : (g : Geometry) (gens : Gens) (key : Key) (ptr : Ptr) (age : ℕ) → pointer_of key ≡ Some ptr → age ≡ age_of g gens ptr → age ≤ 96 → key.dirty ≡ true → MatchBool (not (nat_eq age 0)) (IsAgedKey g gens key) (IsAgedKey g gens key → ⊥)
aged_if_some g gens key ptr age at is most dirty = elim (eqb_tells age 0) [
  | inl same ↦ subst (λ (b : Bool). MatchBool (not b) (IsAgedKey g gens key) (IsAgedKey g gens key → ⊥)) (sym same.0)
      (not_aged g gens key ptr at (λ aged. elim aged [ inl far ↦ absurd (omega (arith, far, most, is)) | inr some ↦ some.1 (sym is ∙ same.1) ]))
  | inr other ↦ subst (λ (b : Bool). MatchBool (not b) (IsAgedKey g gens key) (IsAgedKey g gens key → ⊥)) (sym other.0) (ptr, at, inr (dirty, λ none. other.1 (is ∙ none)))
]

-- ---- a sector's last key

key_same : (a b : Key) → Some a ≡ Some b → a ≡ b
key_same a b e = cc

module _ (v : View) (keys : List Key) (sector : ℕ) (key : Key) (found : Option Key) (are : keys ≡ keys_of v.reading) (is : found ≡ last_key keys sector) (some : found ≡ Some key) where
  last : key_of v.reading sector ≡ Some key
  last = ap (λ (ks : List Key). last_key ks sector) (sym are) ∙ sym is ∙ some

  only : (other : Key) → key_of v.reading sector ≡ Some other → other ≡ key
  only other at = key_same other key (sym at ∙ last)

  pub aged_by : (b : Bool) (g : Geometry) (gens : Gens) → g ≡ v.geometry → gens ≡ v.reading.gens → MatchBool b (IsAgedKey g gens key) (IsAgedKey g gens key → ⊥) → MatchBool b (IsAgedAt v sector) (IsAgedAt v sector → ⊥)
  aged_by true g gens here told aged = (key, last, subst (λ (h : Gens). IsAgedKey v.geometry h key) told (subst (λ (x : Geometry). IsAgedKey x gens key) here aged))
  aged_by false g gens here told not = λ (other, at, aged).
      not (subst (λ (x : Geometry). IsAgedKey x gens key) (sym here) (subst (λ (h : Gens). IsAgedKey v.geometry h key) (sym told) (subst (IsAgedKey v.geometry v.reading.gens) (only other at) aged)))

  pub apart_by : (b : Bool) (p : Pair) → MatchBool b (IsApart p v sector key) (Agrees p v sector key) → MatchBool b (IsApartAt p v sector) (AgreesAt p v sector)
  apart_by true p apart = (key, last, apart)
  apart_by false p here = λ other at. subst (Agrees p v sector) (sym (only other at)) here

-- ---- no last key

pub none_last : (v : View) (keys : List Key) (sector : ℕ) (found : Option Key) → keys ≡ keys_of v.reading → found ≡ last_key keys sector → found ≡ None → (key : Key) → key_of v.reading sector ≡ Some key → ⊥
none_last v keys sector found are is none key at =
    let here : key_of v.reading sector ≡ None = ap (λ (ks : List Key). last_key ks sector) (sym are) ∙ sym is ∙ none in
    absurd (cc)
