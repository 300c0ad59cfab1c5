-- Where the ring goes on, of the first of the entries that count.
use Rattle.std.proofs.Common.{◌≡◌, ◌≢◌, ◌⊎◌, inl, inr, ℕ, zero, suc, ◌+◌, ◌*◌, ◌<◌, ◌≤◌, List, [], ◌∷◌, ◌++◌, length, max, Bool, true, false, Option, Some, None, refl, sym, subst, ap, ◌∙◌, arith, get_or, take}
use Rattle.std.specs.Prelude.{All, Any, Contains, slice_get}
use Rattle.std.specs.Bool.{MatchBool}
use Rattle.std.proofs.Math.Nat.{le-max_left, le-max_right, mul-le-mul_left}
use Rattle.std.proofs.lemmas.Bool.{cases_lt}
use Rattle.std.proofs.lemmas.Grind.{get_or_default_zero}
use Rattle.std.proofs.lemmas.List.{take_all, take_more}
use Rattle.std.proofs.lemmas.List.Elements.{All-nil, All-cons, All-append, All-weaker, All-contains, All-get_or}
use Rattle.std.proofs.lemmas.Option.{slice_get_within, get_or_from_slice_get}
use Rattle.bc_disk.specs.declared.geometry.Geometry.{Geometry}
use Rattle.bc_record.specs.Places.{end_of}
use Rattle.bc_jset.specs.Entries.{FoundEntry}
use Rattle.bc_jset.specs.Records.{entry_kind}
use Rattle.bc_jset.specs.Ring.{bucket_of, bucket_after, IsNextPlace, IsFree, HasRoom}
use Rattle.bc_jset.proofs.Ring.{one_next}
use Rattle.bc_entries.specs.Lists.{before, picked}
use Rattle.bc_entries.specs.Reading.{EndsWithin}
use Rattle.bc_entries.proofs.Lists.{picked_more, picked_none}

abbrev pub EndsAt : Geometry → FoundEntry → ℕ → FoundEntry → Type 0
EndsAt g newest next e = (bucket_of g e ≡ bucket_of g newest) × (end_of (entry_kind g) e ≡ next)

abbrev pub EndsBefore : Geometry → FoundEntry → ℕ → FoundEntry → Type 0
EndsBefore g newest next e = bucket_of g e ≡ bucket_of g newest → end_of (entry_kind g) e ≤ next

pub record NextSoFar (g : Geometry) (all : List FoundEntry) (order : List ℕ) (newest : FoundEntry) (next i : ℕ) : Type 0 where
  pub last : Any (EndsAt g newest next) (picked all order)
  pub behind : All (EndsBefore g newest next) (picked all (take i order))
  pub within : next ≤ g.bucket * g.nbuckets

pub any_at : {X : Type 0} (P : X → Type 0) (xs : List X) (x : X) → Contains xs x → P x → Any P xs
any_at P xs x has p = (has.0, x, has.1, has.2, p)

-- one more place, with an entry or none
taken_more : (order : List ℕ) (i : ℕ) → i < length order → take (i + 1) order ≡ take i order ++ get_or order i 0 ∷ []
taken_more order i inside = take_more order i 0 inside

one_more : (g : Geometry) (all : List FoundEntry) (order : List ℕ) (newest : FoundEntry) (next new i place : ℕ) (e : FoundEntry) → i < length order → place ≡ get_or order i 0 → slice_get all place ≡ Some e
    → All (EndsBefore g newest next) (picked all (take i order)) → next ≤ new → EndsBefore g newest new e → All (EndsBefore g newest new) (picked all (take (i + 1) order))
one_more g all order newest next new i place e inside is here so up last =
    let P = EndsBefore g newest new in
    let weaker = All-weaker (EndsBefore g newest next) P (λ (x : FoundEntry) below same. (let le = below same in omega (arith, le, up))) (picked all (take i order)) so in
    let split : picked all (take (i + 1) order) ≡ picked all (take i order) ++ e ∷ [] =
    ap (picked all) (taken_more order i inside ∙ ap (λ n. take i order ++ n ∷ []) (sym is)) ∙ picked_more all (take i order) place e here in
    subst (λ (xs : List FoundEntry). All P xs) (sym split) (All-append P (picked all (take i order)) (e ∷ []) weaker (All-cons P e [] last (All-nil P)))

-- the entry at one of the places is picked
pub picked_has : (all : List FoundEntry) (order : List ℕ) (place : ℕ) (e : FoundEntry) → Contains order place → slice_get all place ≡ Some e → Contains (picked all order) e
picked_has all [] place e has here = absurd (let low = has.1 in omega (arith, low))
picked_has all (p ∷ ps) place e has here = go has.0 has.1 has.2 (λ later. picked_has all ps place e later here)
  where
    behind_one : (o : Option FoundEntry) → Contains (picked all ps) e → Contains (before o (picked all ps)) e
    behind_one None later = later
    behind_one (Some x) later = (suc later.0, (let low = later.1 in omega (arith, low)), later.2)

    go : (k : ℕ) → k < length (p ∷ ps) → get_or (p ∷ ps) k place ≡ place → (Contains ps place → Contains (picked all ps) e) → Contains (before (slice_get all p) (picked all ps)) e
    go zero low is on = subst (λ (o : Option FoundEntry). Contains (before o (picked all ps)) e) (sym (ap (slice_get all) is ∙ here)) (0, omega arith, refl)
    go (suc k) low is on = behind_one (slice_get all p) (on (k, omega arith, is))

pub next_higher : (g : Geometry) (all : List FoundEntry) (order : List ℕ) (newest : FoundEntry) (next new end i place : ℕ) (e : FoundEntry) → NextSoFar g all order newest next i → i < length order → place ≡ get_or order i 0
    → slice_get all place ≡ Some e → All (EndsWithin g) all → bucket_of g e ≡ bucket_of g newest → end ≡ end_of (entry_kind g) e → new ≡ max next end → NextSoFar g all order newest new (i + 1)
next_higher g all order newest next new end i place e so inside is here ends same far most =
    let low : next ≤ new = subst (λ n. next ≤ n) (sym most) (le-max_left next end) in
    let high : end ≤ new = subst (λ n. end ≤ n) (sym most) (le-max_right next end) in
    let bound = subst (λ (x : FoundEntry). EndsWithin g x) (get_or_from_slice_get all place e e here) (All-get_or (EndsWithin g) all place e (slice_get_within all place e here) ends) in
    let member : Contains order place = (i, inside, subst (λ n. get_or order i n ≡ place) refl (get_same order i place inside ∙ sym is)) in
    elim (cases_lt next end) [
      | inl above ↦
          let what : new ≡ end = most ∙ (omega arith) in
          record {
            last = any_at (EndsAt g newest new) (picked all order) e (picked_has all order place e member here) (same, sym far ∙ sym what);
            behind = one_more g all order newest next new i place e inside is here so.behind low (λ _. omega (arith, far, high));
            within = omega (arith, what, far, bound);
          }
      | inr below ↦
          let what : new ≡ next = most ∙ (omega arith) in
          record {
            last = subst (λ n. Any (EndsAt g newest n) (picked all order)) (sym what) so.last;
            behind = one_more g all order newest next new i place e inside is here so.behind low (λ _. omega (arith, far, high));
            within = let w = so.within in omega (arith, what, w);
          }
    ]
  where
    get_same : (xs : List ℕ) (k d : ℕ) → k < length xs → get_or xs k d ≡ get_or xs k 0
    get_same xs k d low = get_or_default_zero xs k d low

pub next_kept : (g : Geometry) (all : List FoundEntry) (order : List ℕ) (newest : FoundEntry) (next new i place : ℕ) (e : FoundEntry) → NextSoFar g all order newest next i → i < length order → place ≡ get_or order i 0
    → slice_get all place ≡ Some e → bucket_of g e ≢ bucket_of g newest → new ≡ next → NextSoFar g all order newest new (i + 1)
next_kept g all order newest next new i place e so inside is here other same =
    subst (λ n. NextSoFar g all order newest n (i + 1)) (sym same)
    (record { last = so.last; behind = one_more g all order newest next next i place e inside is here so.behind (omega arith) (λ equal. absurd (other equal)); within = so.within })

pub next_none : (g : Geometry) (all : List FoundEntry) (order : List ℕ) (newest : FoundEntry) (next new i place : ℕ) → NextSoFar g all order newest next i → i < length order → place ≡ get_or order i 0
    → slice_get all place ≡ None → new ≡ next → NextSoFar g all order newest new (i + 1)
next_none g all order newest next new i place so inside is none same =
    let split : picked all (take (i + 1) order) ≡ picked all (take i order) =
    ap (picked all) (taken_more order i inside ∙ ap (λ n. take i order ++ n ∷ []) (sym is)) ∙ picked_none all (take i order) place none in
    subst (λ n. NextSoFar g all order newest n (i + 1)) (sym same)
    (record { last = so.last; behind = subst (λ (xs : List FoundEntry). All (EndsBefore g newest next) xs) (sym split) so.behind; within = so.within })

pub next_is : (g : Geometry) (all : List FoundEntry) (order : List ℕ) (newest : FoundEntry) (next i : ℕ) → length order ≤ i → NextSoFar g all order newest next i → IsNextPlace g (picked all order) newest next
next_is g all order newest next i done so = record { last = so.last; behind = subst (λ (xs : List ℕ). All (EndsBefore g newest next) (picked all xs)) (take_all i order done) so.behind }

-- ---- the room

-- what the device has is below 2 ^ 35
pub few_sectors : (g : Geometry) → g.bucket * g.nbuckets ≤ 34359738368
few_sectors g =
    let low = g.bucket_to in
    let high = g.buckets_to in
    let few : g.nbuckets ≤ 1048576 = omega (arith, high) in
    let one : g.bucket * g.nbuckets ≤ g.bucket * 1048576 = mul-le-mul_left g.bucket few in
    omega (arith, one, low)

pub room_by : (g : Geometry) (all es : List FoundEntry) (newest : FoundEntry) (next bucket after : ℕ) (b : Bool) → bucket ≡ bucket_of g newest → IsNextPlace g es newest next → after ≡ bucket_after g bucket
    → (next + g.block ≤ g.bucket * (bucket + 1) → ⊥) → MatchBool b (IsFree g all newest after) (¬ (IsFree g all newest after)) → MatchBool b (HasRoom g all es newest) (¬ (HasRoom g all es newest))
room_by g all es newest next bucket after true is place behind full free =
    let there : IsFree g all newest (bucket_after g (bucket_of g newest)) = subst (λ n. IsFree g all newest (bucket_after g n)) is (subst (λ n. IsFree g all newest n) behind free) in
    record { next = next; place = place; room = inr there }
room_by g all es newest next bucket after false is place behind full free = λ room. elim room.room [
  | inl here ↦ full (subst (λ n. next + g.block ≤ g.bucket * (n + 1)) (sym is) (subst (λ n. n + g.block ≤ g.bucket * (bucket_of g newest + 1)) (one_next g es newest room.next next room.place place) here))
  | inr there ↦ free (subst (λ n. IsFree g all newest n) (sym behind) (subst (λ n. IsFree g all newest (bucket_after g n)) (sym is) there))
]

pub room_same : (g : Geometry) (all all' : List FoundEntry) (order order' : List ℕ) (n n' : FoundEntry) → all' ≡ all → order' ≡ order → n' ≡ n → HasRoom g all' (picked all' order') n' → HasRoom g all (picked all order) n
room_same g all all' order order' n n' p q r room =
    subst (λ (xs : List FoundEntry). HasRoom g xs (picked xs order) n) p (subst (λ (os : List ℕ). HasRoom g all' (picked all' os) n) q (subst (λ (e : FoundEntry). HasRoom g all' (picked all' order') e) r room))

pub full_by : (g : Geometry) (next bucket block size : ℕ) → block ≡ g.block → size ≡ g.bucket → size * (bucket + 1) < next + block → next + g.block ≤ g.bucket * (bucket + 1) → ⊥
full_by g next bucket block size is same low fits =
    let wide : size * (bucket + 1) ≡ g.bucket * (bucket + 1) = ap (λ n. n * (bucket + 1)) same in
    absurd (omega (arith, wide, is, low, fits))
