-- Runs of sectors that are compared, piece by piece.
use Rattle.std.proofs.Common.{◌≡◌, inl, inr, ℕ, ◌+◌, ◌-◌, ◌*◌, ◌/◌, ◌<◌, ◌≤◌, Bool, true, false, List, length, take, drop, Option, Some, None, refl, sym, subst, ap, ◌∙◌, arith}
use Rattle.std.specs.Prelude.{not, IfSome}
use Rattle.std.specs.Cmp.Lexicographic.{pointwise}
use Rattle.std.proofs.Math.Dec.{eqb}
use Rattle.std.proofs.lemmas.Bool.{cases_lt}
use Rattle.std.proofs.lemmas.Bool.Decides.{Decides-eqb}
use Rattle.std.proofs.lemmas.Slice.Eq.{slice_eq-Decides}
use Rattle.bc_disk.specs.Bytes.{image_of}
use Rattle.bc_disk.specs.Disk.{DiskFacts, IfTold, IsOnDisk, IsRead}
use Rattle.bc_disk.proofs.Sectors.{at_run-sectors}
use Rattle.bc_image.specs.Pair.{Pair}
use Rattle.bc_model.specs.Sector.{Image, Gives, values_of}
use Rattle.bc_model.proofs.Sectors.{values_whole}
use Rattle.bc_pair.specs.Found.{pair_of}
use Rattle.bc_replay.specs.Causes.{OfHeld}
use Rattle.bc_check.specs.Apart.{IsFirstNot, AreSame, AreSameIn}
use Rattle.bc_check.specs.Calls.{BothKept}
use Rattle.bc_check.proofs.Pairs.{held_back, held_two}

-- ---- the first one

pub first_map : (P Q : ℕ → Type 0) (n : ℕ) (o : Option ℕ) → ((k : ℕ) → k < n → P k → Q k) → ((k : ℕ) → k < n → Q k → P k) → IsFirstNot P n o → IsFirstNot Q n o
first_map P Q n None to from first = λ k low. to k low (first k low)
first_map P Q n (Some m) to from (low, not, before) = (low, (λ q. not (from m low q)), (λ k less. to k (omega (arith, low, less)) (before k less)))

-- behind some that hold come those of a piece
module _ (P : ℕ → Type 0) (done piece : ℕ) (all : IsFirstNot P done None) where
  above : (k : ℕ) → done ≤ k → done + (k - done) ≡ k
  above k most = omega (arith, most)

  pub first_later : (k count : ℕ) → done + piece ≤ count → IsFirstNot (λ j. P (done + j)) piece (Some k) → IsFirstNot P count (Some (done + k))
  first_later k count room (low, not, before) = (
    omega (arith, low, room),
    not,
    (λ j less. elim (cases_lt j done) [
      | inl old ↦ all j old
      | inr most ↦ subst P (above j most) (before (j - done) (omega (arith, less, most)))
    ]),
  )

  pub all_later : IsFirstNot (λ j. P (done + j)) piece None → IsFirstNot P (done + piece) None
  all_later here = λ j less. elim (cases_lt j done) [
    | inl old ↦ all j old
    | inr most ↦ subst P (above j most) (here (j - done) (omega (arith, less, most)))
  ]

-- ---- one sector of two pieces

sector_of : List ℕ → ℕ → List ℕ
sector_of bytes k = take (512 * k + 512 - 512 * k) (drop (512 * k) bytes)

same_sector : (bytes : List ℕ) (k : ℕ) → sector_of bytes k ≡ image_of bytes k
unfolding sector_of
same_sector bytes k = ap (λ n. take n (drop (512 * k) bytes)) (let width : 512 * k + 512 - 512 * k ≡ 512 = omega arith in width)

module _ (one other : List ℕ) (k : ℕ) where
  abbrev tested : Bool
  tested = not (pointwise eqb (take (512 * k + 512 - 512 * k) (drop (512 * k) one)) (take (512 * k + 512 - 512 * k) (drop (512 * k) other)))

  same_so : AreSameIn one other k → sector_of one k ≡ sector_of other k
  same_so same = same_sector one k ∙ same ∙ sym (same_sector other k)

  pub differs : tested ≡ true → ¬ (AreSameIn one other k)
  unfolding sector_of
  differs is same = absurd (let equal = (slice_eq-Decides Decides-eqb (sector_of one k) (sector_of other k) (pointwise eqb (sector_of one k) (sector_of other k)) refl).1 (same_so same) in cc)

  pub agrees : tested ≡ false → AreSameIn one other k
  unfolding sector_of
  agrees is =
      let equal : pointwise eqb (sector_of one k) (sector_of other k) ≡ true = by_not (pointwise eqb (sector_of one k) (sector_of other k)) is in
      sym (same_sector one k) ∙ (slice_eq-Decides Decides-eqb (sector_of one k) (sector_of other k) (pointwise eqb (sector_of one k) (sector_of other k)) refl).0 equal ∙ same_sector other k
    where
      by_not : (b : Bool) → not b ≡ false → b ≡ true
      by_not true is = refl
      by_not false is = absurd (cc)

-- ---- sectors that were read

sector_has : (n : ℕ) (bytes : List ℕ) (image : Image) (from k : ℕ) → length bytes ≡ 512 * n → Gives from (values_of bytes) (λ s v. v ≡ image s) → k < n → image_of bytes k ≡ image (from + k)
sector_has n bytes image from k whole has low = has (from + k) (image_of bytes k) (rw (values_whole n bytes whole) (at_run-sectors from n k (from + k) bytes low refl))

pub piece_told : (cache backing : DiskFacts) (place at n : ℕ) (one other : List ℕ) (o : Option ℕ) → length one ≡ 512 * n → length other ≡ 512 * n → IsRead place (values_of one) cache → IsRead at (values_of other) backing
    → IsFirstNot (AreSameIn one other) n o → OfHeld (λ p. IsFirstNot (AreSame p place at) n o) cache backing
piece_told cache backing place at n one other o long wide read read' first = go cache.holds backing.holds read read'
  where
    go : (x y : Option Image) → IfTold x (λ held. Gives place (values_of one) (λ s v. v ≡ held s)) → IfTold y (λ held. Gives at (values_of other) (λ s v. v ≡ held s))
        → IfTold x (λ c. IfTold y (λ b. IsFirstNot (AreSame (pair_of cache backing c b) place at) n o))
    go None y has has' = tt
    go (Some c) None has has' = tt
    go (Some c) (Some b) has has' =
        first_map (AreSameIn one other) (AreSame (pair_of cache backing c b) place at) n o
        (λ k low same. sym (sector_has n one c place k long has low) ∙ same ∙ sector_has n other b at k wide has' low)
        (λ k low same. sector_has n one c place k long has low ∙ same ∙ sym (sector_has n other b at k wide has' low)) first

-- bytes of whole sectors
pub sectors_in : (at bytes : ℕ) (d : DiskFacts) → IsOnDisk at bytes d → bytes ≡ 512 * (bytes / 512)
sectors_in at bytes d (n, some, whole, room) = omega (arith, whole)

-- counted from the run's first sector
pub piece_later : (p : Pair) (place at done k : ℕ) → AreSame p (place + done) (at + done) k ≡ AreSame p place at (done + k)
piece_later p place at done k =
    let one : place + done + k ≡ place + (done + k) = omega arith in
    let other : at + done + k ≡ at + (done + k) = omega arith in
    (λ i. p.cache (one i) ≡ p.backing (other i))

pub first_within : (P : ℕ → Type 0) (n : ℕ) (o : Option ℕ) → IsFirstNot P n o → IfSome o (λ k. k < n)
first_within P n None first = tt
first_within P n (Some k) first = first.0

-- ---- a piece behind others, of which none is apart

module _ (cache cache' backing backing' : DiskFacts) (place at done piece count bytes : ℕ) (kept : BothKept cache cache' backing backing') (long : bytes / 512 ≡ piece)
    (all : OfHeld (λ p. IsFirstNot (AreSame p place at) done None) cache backing) where
  Here : Option ℕ → Pair → Type 0
  Here o p = IsFirstNot (AreSame p (place + done) (at + done)) (bytes / 512) o

  behind_it : (o : Option ℕ) (p : Pair) → Here o p → IsFirstNot (λ j. AreSame p place at (done + j)) piece o
  unfolding Here
  behind_it o p here =
      first_map (AreSame p (place + done) (at + done)) (λ j. AreSame p place at (done + j)) piece o (λ k low same. to (piece_later p place at done k) same) (λ k low same. back (piece_later p place at done k) same)
      (subst (λ n. IsFirstNot (AreSame p (place + done) (at + done)) n o) long here)
    where
      to : {A B : Type 0} → A ≡ B → A → B
      to same a = subst (λ (T : Type 0). T) same a

      back : {A B : Type 0} → A ≡ B → B → A
      back same b = subst (λ (T : Type 0). T) (sym same) b

  pub run_some : (k : ℕ) → done + piece ≤ count → OfHeld (λ p. IsFirstNot (AreSame p (place + done) (at + done)) (bytes / 512) (Some k)) cache' backing' → OfHeld (λ p. IsFirstNot (AreSame p place at) count (Some (done + k))) cache backing
  unfolding Here
  run_some k room here =
      held_two (λ p. IsFirstNot (AreSame p place at) done None) (Here (Some k)) (λ p. IsFirstNot (AreSame p place at) count (Some (done + k))) cache backing
      (λ p before now. first_later (AreSame p place at) done piece before k count room (behind_it (Some k) p now)) all (held_back (Here (Some k)) cache cache' backing backing' kept here)

  pub run_none : OfHeld (λ p. IsFirstNot (AreSame p (place + done) (at + done)) (bytes / 512) None) cache' backing' → OfHeld (λ p. IsFirstNot (AreSame p place at) (done + piece) None) cache backing
  unfolding Here
  run_none here =
      held_two (λ p. IsFirstNot (AreSame p place at) done None) (Here None) (λ p. IsFirstNot (AreSame p place at) (done + piece) None) cache backing
      (λ p before now. all_later (AreSame p place at) done piece before (behind_it None p now)) all (held_back (Here None) cache cache' backing backing' kept here)
