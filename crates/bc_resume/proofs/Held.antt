-- What the entries that were read are like.
use Rattle.std.proofs.Common.{◌≡◌, ℕ, suc, ◌+◌, ◌-◌, ◌*◌, ◌/◌, ◌%◌, ◌^◌, ◌<◌, ◌≤◌, List, [], ◌∷◌, ◌++◌, length, Some, refl, sym, ap, ◌∙◌, subst, arith, length-append}
use Rattle.std.specs.Prelude.{All, Contains}
use Rattle.std.proofs.Math.Nat.{mul-add, mul-mod_right}
use Rattle.std.proofs.lemmas.Nat.{div-mul-add}
use Rattle.std.proofs.lemmas.List.Elements.{All-nil, All-cons, All-weaker, All-contains, Contains-push}
use Rattle.bc_disk.specs.declared.geometry.Geometry.{Geometry}
use Rattle.bc_record.specs.Places.{end_of}
use Rattle.bc_record.proofs.Blocks.{block_some, blocks_hold}
use Rattle.bc_record.proofs.Found.{takes_some}
use Rattle.bc_jset.specs.Entries.{FoundEntry, AreNumbered, bucket_start, bucket_end, first_with}
use Rattle.bc_jset.specs.Records.{entry_kind, entry_sectors}
use Rattle.bc_jset.specs.Ring.{IsNextPlace, bucket_of}
use Rattle.bc_jset.specs.EntryBytes.{bytes_of}
use Rattle.bc_jset.proofs.Records.{entry_codec}
use Rattle.bc_jset.proofs.Entries.{found_has}
use Rattle.bc_entries.specs.Lists.{IsFit}
use Rattle.bc_entries.specs.Reading.{EndsWithin, StandsWithin}
use Rattle.bc_entries.proofs.Held.{bucket_within}
use Rattle.bc_entries.proofs.Rooms.{few_sectors}
use Rattle.bc_resume.specs.Behind.{LiesInRing}
use Rattle.bc_resume.specs.Numbers.{AreNewest}
use Rattle.bc_resume.proofs.Greatest.{numbers_below}

-- what holds of all entries that are found holds of those that count
all_numbered : (P : FoundEntry → Type 0) (all : List FoundEntry) (low next : ℕ) (es : List FoundEntry) → All P all → AreNumbered all low es next → All P es
all_numbered P all low next [] each p = All-nil P
all_numbered P all low next (e ∷ es) each p = All-cons P e es (found_has P low all e each p.0) (all_numbered P all (suc low) next es each p.1)

pub all_counted : (P : FoundEntry → Type 0) (g : Geometry) (all es : List FoundEntry) → IsFit g all es → All P all → All P es
all_counted P g all es f each = all_numbered P all f.newest.item.last_seq (suc f.newest.item.seq) es each f.listed.numbered

ends_in : (g : Geometry) (e : FoundEntry) → StandsWithin g e → EndsWithin g e
ends_in g e s = let room = bucket_within g s.0 s.2 in let fits = s.4 in omega (arith, room, fits)

-- each entry ends within the device
pub ends_within : (g : Geometry) (es : List FoundEntry) → All (StandsWithin g) es → All (EndsWithin g) es
ends_within g es all = All-weaker (StandsWithin g) (EndsWithin g) (ends_in g) es all

-- two ends of a list are one entry
one_end : (xs ys : List FoundEntry) (a b : FoundEntry) → xs ++ a ∷ [] ≡ ys ++ b ∷ [] → a ≡ b
one_end [] [] a b same = cc
one_end [] (y ∷ []) a b same = absurd (cc)
one_end [] (y ∷ (z ∷ ys)) a b same = absurd (cc)
one_end (x ∷ []) [] a b same = absurd (cc)
one_end (x ∷ (z ∷ xs)) [] a b same = absurd (cc)
one_end (x ∷ xs) (y ∷ ys) a b same = one_end xs ys a b (tail_same x y (xs ++ a ∷ []) (ys ++ b ∷ []) same)
  where
    tail_same : (x y : FoundEntry) (xs ys : List FoundEntry) → x ∷ xs ≡ y ∷ ys → xs ≡ ys
    tail_same x y xs ys same = cc

numbered_length : (all : List FoundEntry) (low next : ℕ) (es : List FoundEntry) → AreNumbered all low es next → low + length es ≡ next
numbered_length all low next [] p = omega (arith, p)
numbered_length all low next (e ∷ es) p = omega (arith, numbered_length all (suc low) next es p.1)

some_same : (a b : FoundEntry) → Some a ≡ Some b → a ≡ b
some_same a b e = cc

last_numbered : (all : List FoundEntry) (low high : ℕ) (newest : FoundEntry) (es : List FoundEntry) → AreNumbered all low es (suc high) → low ≤ high → first_with high all ≡ Some newest
    → (older : List FoundEntry) × (es ≡ older ++ newest ∷ [])
last_numbered all low high newest [] p some counts = absurd (omega (arith, p))
last_numbered all low high newest (e ∷ []) p some counts =
    let here : high ≡ low = omega (arith, p.1) in
    ([], ap (λ (x : FoundEntry). x ∷ []) (some_same e newest (sym p.0 ∙ subst (λ n. first_with n all ≡ Some newest) here counts)))
last_numbered all low high newest (e ∷ d ∷ es) p some counts =
    let more = numbered_length all (suc low) (suc high) (d ∷ es) p.1 in
    let rest = last_numbered all (suc low) high newest (d ∷ es) p.1 (omega (arith, more)) counts in
    (e ∷ rest.0, ap (λ (xs : List FoundEntry). e ∷ xs) rest.1)

module _ (g : Geometry) (all es : List FoundEntry) (f : IsFit g all es) where
  pub not_empty : 0 < length es
  not_empty = let long = numbered_length all f.newest.item.last_seq (suc f.newest.item.seq) es f.listed.numbered in omega (arith, long, f.listed.reaches)

  -- the newest entry is the last one
  pub newest_of : (older : List FoundEntry) (newest : FoundEntry) → es ≡ older ++ newest ∷ [] → f.newest ≡ newest
  newest_of older newest parts =
      let last = last_numbered all f.newest.item.last_seq f.newest.item.seq f.newest es f.listed.numbered f.listed.reaches f.listed.is_newest.counts in
      one_end last.0 older f.newest newest (sym last.1 ∙ parts)

  -- no number of a bucket is above the newest one's
  pub below_newest : (newest : FoundEntry) (numbers : List ℕ) → f.newest ≡ newest → AreNewest g all numbers → All (λ n. n < newest.item.seq + 1) numbers
  below_newest newest numbers is are =
      subst (λ (e : FoundEntry). All (λ n. n < e.item.seq + 1) numbers) is
      (numbers_below g f.newest.item.seq all numbers are f.listed.is_newest.greatest)

module _ (g : Geometry) (e : FoundEntry) (i k : ℕ) (low : i < g.journal) (place : e.place ≡ bucket_start g i + g.block * k) (fits : e.place + entry_sectors g e.item ≤ bucket_end g i) where
  inside : g.block * k < g.bucket
  inside = let some = takes_some (entry_kind g) (entry_codec g) e.item in omega (arith, place, fits, some)

  bucket_is : bucket_of g e ≡ g.first_bucket + i
  bucket_is =
      ap (λ n. n / g.bucket) (place ∙ (let turned : g.bucket * (g.first_bucket + i) + g.block * k ≡ (g.first_bucket + i) * g.bucket + g.block * k = grind arith in turned))
      ∙ div-mul-add (g.first_bucket + i) g.bucket (g.block * k) inside

  whole_blocks : (next : ℕ) → end_of (entry_kind g) e ≡ next → (m : ℕ) → entry_sectors g e.item ≡ g.block * m → (next - bucket_start g i) % g.block ≡ 0
  whole_blocks next ends m is =
      let sum : g.block * k + g.block * m ≡ g.block * (k + m) = sym (mul-add g.block k m) in
      let rest : next - bucket_start g i ≡ g.block * (k + m) = omega (arith, ends, place, is, sum) in
      ap (λ n. n % g.block) rest ∙ mul-mod_right g.block (k + m)

  pub ring_at : (next : ℕ) → end_of (entry_kind g) e ≡ next → LiesInRing g (bucket_of g e) next
  ring_at next ends =
      subst (λ b. LiesInRing g b next) (sym bucket_is)
      (record {
        first = omega arith;
        last = omega (arith, low);
        from = omega (arith, ends, place);
        to = omega (arith, ends, fits);
        block = whole_blocks next ends ((bytes_of e.item + (512 * g.block - 1)) / (512 * g.block)) refl;
      })

pub in_ring : (g : Geometry) (es : List FoundEntry) (newest : FoundEntry) (next : ℕ) → All (StandsWithin g) es → IsNextPlace g es newest next → LiesInRing g (bucket_of g newest) next
in_ring g es newest next stand place =
    let last = place.last in
    let e = last.1 in
    let s = All-contains (StandsWithin g) es e stand (last.0, last.2, last.3) in
    subst (λ b. LiesInRing g b next) last.4.0 (ring_at g e s.0 s.1 s.2 s.3 s.4 next last.4.1)

-- the bytes of an entry that ends within the device are few
pub few_bytes : (g : Geometry) (e : FoundEntry) → EndsWithin g e → bytes_of e.item ≤ 2 ^ 60
few_bytes g e ends =
    let few = few_sectors g in
    let held = blocks_hold g.block (bytes_of e.item) (block_some g) in
    omega (arith, few, held, ends)

-- the last one is one of them
pub last_in : (es older : List FoundEntry) (newest : FoundEntry) → es ≡ older ++ newest ∷ [] → Contains es newest
last_in es older newest parts = subst (λ (xs : List FoundEntry). Contains xs newest) (sym parts) (Contains-push older newest)
