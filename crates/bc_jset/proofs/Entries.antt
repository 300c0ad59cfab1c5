-- The list of a device's entries.
use Rattle.std.proofs.Common.{◌≡◌, ◌==◌, inl, inr, ℕ, zero, suc, ◌+◌, ◌*◌, ◌<◌, ◌≤◌, List, [], ◌∷◌, ◌++◌, length, cond, Option, Some, refl, sym, subst, ap, ◌∙◌, arith}
use Rattle.std.specs.Prelude.{All, slice_index_or}
use Rattle.std.proofs.Math.Nat.{mul-add, mul-le-mul_left}
use Rattle.std.proofs.lemmas.Bool.{cases_Bool, eqb-true}
use Rattle.std.proofs.lemmas.List.Elements.{All-head, All-tail, All-nil, All-cons, All-append}
use Rattle.bc_model.specs.Sector.{Image}
use Rattle.bc_disk.specs.declared.geometry.Geometry.{Geometry}
use Rattle.bc_record.specs.Sectors.{AgreeOn}
use Rattle.bc_record.proofs.Blocks.{bucket_blocks}
use Rattle.bc_record.specs.Places.{placed}
use Rattle.bc_record.proofs.Found.{one_run, run_stays, run_placed, run_exists}
use Rattle.bc_jset.specs.declared.entry.JEntry.{JEntry}
use Rattle.bc_jset.specs.Records.{entry_kind, entry_sectors, EntryFound}
use Rattle.bc_jset.specs.Entries.{FoundEntry, bucket_start, bucket_end, StandIn, first_with, IsNewest, AreNumbered, AreEntries, CountUp, StandsInJournal}
use Rattle.bc_jset.proofs.Records.{entry_codec}

-- ---- one list

pub one_stand : (g : Geometry) (image : Image) (n : ℕ) (xs ys : List FoundEntry) → StandIn g image n xs → StandIn g image n ys → xs ≡ ys
one_stand g image zero xs ys p q = p ∙ sym q
one_stand g image (suc n) xs ys p q =
    let before : p.0 ≡ q.0 = one_stand g image n p.0 q.0 p.2 q.2 in
    let here : p.1 ≡ q.1 = one_run (entry_kind g) (entry_codec g) image (bucket_end g n) (bucket_start g n) p.1 q.1 p.3 q.3 in
    p.4 ∙ ap (λ (zs : List FoundEntry). zs ++ placed (entry_kind g) (bucket_start g n) p.1) before ∙ ap (λ (zs : List JEntry). q.0 ++ placed (entry_kind g) (bucket_start g n) zs) here ∙ sym q.4

-- what is found has the number, and what all have
pub found_number : (number : ℕ) (all : List FoundEntry) (e : FoundEntry) → first_with number all ≡ Some e → e.item.seq ≡ number
found_number number [] e is = absurd (cc)
found_number number (x ∷ xs) e is = elim (cases_Bool (x.item.seq == number)) [
  | inl same ↦ let first : x ≡ e = (let at : cond (x.item.seq == number) (Some x) (first_with number xs) ≡ Some x = rw same refl in cc) in ap (λ (y : FoundEntry). y.item.seq) (sym first) ∙ eqb-true x.item.seq number same
  | inr other ↦ found_number number xs e (let at : cond (x.item.seq == number) (Some x) (first_with number xs) ≡ first_with number xs = rw other refl in sym at ∙ is)
]

pub found_has : (P : FoundEntry → Type 0) (number : ℕ) (all : List FoundEntry) (e : FoundEntry) → All P all → first_with number all ≡ Some e → P e
found_has P number [] e each is = absurd (cc)
found_has P number (x ∷ xs) e each is = elim (cases_Bool (x.item.seq == number)) [
  | inl same ↦ let first : x ≡ e = (let at : cond (x.item.seq == number) (Some x) (first_with number xs) ≡ Some x = rw same refl in cc) in subst P first (All-head P x xs each)
  | inr other ↦ found_has P number xs e (All-tail P x xs each) (let at : cond (x.item.seq == number) (Some x) (first_with number xs) ≡ first_with number xs = rw other refl in sym at ∙ is)
]

one_of_two : {A : Type 0} (o : Option A) (d e : A) → o ≡ Some d → o ≡ Some e → d ≡ e
one_of_two o d e p q = cc

pub one_newest : (all : List FoundEntry) (a b : FoundEntry) → IsNewest all a → IsNewest all b → a ≡ b
one_newest all a b p q =
    let low = found_has (λ e. e.item.seq ≤ b.item.seq) a.item.seq all a q.greatest p.counts in
    let high = found_has (λ e. e.item.seq ≤ a.item.seq) b.item.seq all b p.greatest q.counts in
    let same : b.item.seq ≡ a.item.seq = omega (arith, low, high) in
    one_of_two (first_with a.item.seq all) a b p.counts (subst (λ n. first_with n all ≡ Some b) same q.counts)

numbered_length : (all : List FoundEntry) (low next : ℕ) (es : List FoundEntry) → AreNumbered all low es next → low + length es ≡ next
numbered_length all low next [] p = omega (arith, p)
numbered_length all low next (e ∷ es) p = omega (arith, numbered_length all (suc low) next es p.1)

one_numbered : (all : List FoundEntry) (low next : ℕ) (xs ys : List FoundEntry) → AreNumbered all low xs next → AreNumbered all low ys next → xs ≡ ys
one_numbered all low next [] [] p q = refl
one_numbered all low next [] (y ∷ ys) p q = absurd (omega (arith, p, numbered_length all (suc low) next ys q.1))
one_numbered all low next (x ∷ xs) [] p q = absurd (omega (arith, q, numbered_length all (suc low) next xs p.1))
one_numbered all low next (x ∷ xs) (y ∷ ys) p q =
    ap (λ (e : FoundEntry). e ∷ xs) (one_of_two (first_with low all) x y p.0 q.0) ∙ ap (λ (es : List FoundEntry). y ∷ es) (one_numbered all (suc low) next xs ys p.1 q.1)

pub one_list : (g : Geometry) (image : Image) (ds es : List FoundEntry) → AreEntries g image ds → AreEntries g image es → ds ≡ es
one_list g image ds es p q =
    let all : q.all ≡ p.all = one_stand g image g.journal q.all p.all q.stand p.stand in
    let newest : q.newest ≡ p.newest = one_newest p.all q.newest p.newest (subst (λ (xs : List FoundEntry). IsNewest xs q.newest) all q.is_newest) p.is_newest in
    let numbered = subst (λ (e : FoundEntry). AreNumbered p.all e.item.last_seq es (suc e.item.seq)) newest (subst (λ (xs : List FoundEntry). AreNumbered xs q.newest.item.last_seq es (suc q.newest.item.seq)) all q.numbered) in
    one_numbered p.all p.newest.item.last_seq (suc p.newest.item.seq) ds es p.numbered numbered

-- ---- the numbers

numbers_from : (all : List FoundEntry) (low next : ℕ) (es : List FoundEntry) → AreNumbered all low es next → (k : ℕ) (d : FoundEntry) → k < length es → (slice_index_or es k d).item.seq ≡ low + k
numbers_from all low next [] p k d inside = absurd (omega arith)
numbers_from all low next (e ∷ es) p zero d inside = omega (arith, found_number low all e p.0)
numbers_from all low next (e ∷ es) p (suc k) d inside = omega (arith, numbers_from all (suc low) next es p.1 k d (omega arith))

last_is : (all : List FoundEntry) (low high : ℕ) (newest : FoundEntry) (es : List FoundEntry) → AreNumbered all low es (suc high) → low ≤ high → first_with high all ≡ Some newest
    → (older : List FoundEntry) × (es ≡ older ++ newest ∷ [])
last_is all low high newest [] p some counts = absurd (omega (arith, p))
last_is all low high newest (e ∷ []) p some counts =
    let here : high ≡ low = omega (arith, p.1) in
    ([], ap (λ (x : FoundEntry). x ∷ []) (one_of_two (first_with low all) e newest p.0 (subst (λ n. first_with n all ≡ Some newest) here counts)))
last_is all low high newest (e ∷ d ∷ es) p some counts =
    let more = numbered_length all (suc low) (suc high) (d ∷ es) p.1 in
    let rest = last_is all (suc low) high newest (d ∷ es) p.1 (omega (arith, more)) counts in
    (e ∷ rest.0, ap (λ (xs : List FoundEntry). e ∷ xs) rest.1)

pub newest_is_last : (g : Geometry) (image : Image) (es : List FoundEntry) (p : AreEntries g image es) → (older : List FoundEntry) × (es ≡ older ++ p.newest ∷ [])
newest_is_last g image es p = last_is p.all p.newest.item.last_seq p.newest.item.seq p.newest es p.numbered p.reaches p.is_newest.counts

pub count_up : (g : Geometry) (image : Image) (es : List FoundEntry) → AreEntries g image es → CountUp es
count_up g image es p =
    let last = newest_is_last g image es p in
    record { older = last.0; newest = p.newest; parts = last.1; numbers = numbers_from p.all p.newest.item.last_seq (suc p.newest.item.seq) es p.numbered }

-- ---- where they stand

-- in one of the first n journal buckets
abbrev StandsBelow : Geometry → Image → ℕ → FoundEntry → Type 0
StandsBelow g image n e =
    (i k : ℕ) × (i < n) × (e.place ≡ bucket_start g i + g.block * k) × EntryFound g image (bucket_end g i) e.place e.item
    × (e.place + entry_sectors g e.item ≤ bucket_end g i)

all_stand : (g : Geometry) (image : Image) (n : ℕ) (all : List FoundEntry) → StandIn g image n all → All (StandsBelow g image n) all
all_stand g image zero all p = subst (λ (xs : List FoundEntry). All (StandsBelow g image zero) xs) (sym p) (All-nil (StandsBelow g image zero))
all_stand g image (suc n) all p =
    let below = all_stand g image n p.0 p.2 in
    let blocks = bucket_blocks g in
    let found = run_placed (entry_kind g) (entry_codec g) image (bucket_end g n) (bucket_start g n) blocks.0 p.1 (ap (λ m. bucket_start g n + m) blocks.1) p.3 in
    let lower : All (StandsBelow g image (suc n)) p.0 = λ k d inside. (let x = below k d inside in (x.0, x.1, omega (arith, x.2), x.3, x.4, x.5)) in
    let here : All (StandsBelow g image (suc n)) (placed (entry_kind g) (bucket_start g n) p.1) = λ k d inside. (let x = found k d inside in (n, x.0, omega arith, x.1, x.2, x.3)) in
    subst (λ (xs : List FoundEntry). All (StandsBelow g image (suc n)) xs) (sym p.4) (All-append (StandsBelow g image (suc n)) p.0 (placed (entry_kind g) (bucket_start g n) p.1) lower here)

all_numbered : (P : FoundEntry → Type 0) (all : List FoundEntry) (low next : ℕ) (es : List FoundEntry) → All P all → AreNumbered all low es next → All P es
all_numbered P all low next [] each p = All-nil P
all_numbered P all low next (e ∷ es) each p = All-cons P e es (found_has P low all e each p.0) (all_numbered P all (suc low) next es each p.1)

pub stand_in_journal : (g : Geometry) (image : Image) (es : List FoundEntry) → AreEntries g image es → All (StandsInJournal g image) es
stand_in_journal g image es p =
    all_numbered (StandsInJournal g image) p.all p.newest.item.last_seq (suc p.newest.item.seq) es (all_stand g image g.journal p.all p.stand) p.numbered

-- ---- the journal alone

stand_stays : (g : Geometry) (a b : Image) (n : ℕ) (all : List FoundEntry) → n ≤ g.journal → AgreeOn a b (bucket_start g 0) (bucket_start g g.journal) → StandIn g a n all → StandIn g b n all
stand_stays g a b zero all inside same p = p
stand_stays g a b (suc n) all inside same p =
    let low : g.bucket * (g.first_bucket + 0) ≤ g.bucket * (g.first_bucket + n) = mul-le-mul_left g.bucket (omega arith) in
    let high : g.bucket * (g.first_bucket + n + 1) ≤ g.bucket * (g.first_bucket + g.journal) = mul-le-mul_left g.bucket (omega arith) in
    let last : g.bucket * (g.first_bucket + n + 1) ≡ g.bucket * (g.first_bucket + n) + g.bucket * 1 = mul-add g.bucket (g.first_bucket + n) 1 in (
      p.0,
      p.1,
      stand_stays g a b n p.0 (omega arith) same p.2,
      run_stays (entry_kind g) (entry_codec g) a b (bucket_start g 0) (bucket_end g n) (bucket_start g n) p.1 low (λ s after before. same s after (omega (arith, before, high, last))) p.3,
      p.4,
    )

pub entries_stay : (g : Geometry) (a b : Image) (es : List FoundEntry) → AreEntries g a es → AgreeOn a b (bucket_start g 0) (bucket_start g g.journal) → AreEntries g b es
entries_stay g a b es p same = record {
  all = p.all;
  stand = stand_stays g a b g.journal p.all (omega arith) same p.stand;
  newest = p.newest;
  is_newest = p.is_newest;
  reaches = p.reaches;
  numbered = p.numbered;
}

pub stay_newest : (g : Geometry) (a b : Image) (es : List FoundEntry) (p : AreEntries g a es) (same : AgreeOn a b (bucket_start g 0) (bucket_start g g.journal)) → (entries_stay g a b es p same).newest ≡ p.newest
unfolding entries_stay
stay_newest g a b es p same = refl
