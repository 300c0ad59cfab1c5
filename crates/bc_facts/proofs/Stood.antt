-- Where each entry stands that is found in the journal.
use Rattle.std.proofs.Common.{subst, ◌≡◌, ◌⊎◌, inl, inr, ℕ, zero, suc, ◌+◌, ◌*◌, ◌<◌, ◌≤◌, List, [], ◌∷◌, ◌++◌, length, Some, refl, sym, ap, ◌∙◌, arith, cond}
use Rattle.std.specs.Prelude.{All, Any, Contains, slice_index_or}
use Rattle.std.proofs.Math.Nat.{div-eq_of_lt-le, mul_comm, mul-add}
use Rattle.bc_model.specs.Sector.{Image}
use Rattle.bc_disk.specs.declared.geometry.Geometry.{Geometry}
use Rattle.bc_record.specs.Codec.{IsCodec}
use Rattle.bc_record.specs.Kind.{Kind, sectors_of, AreFound, behind}
use Rattle.bc_record.specs.declared.placed.Placed.{Placed}
use Rattle.bc_record.specs.Places.{placed, bucket_at}
use Rattle.bc_record.proofs.Blocks.{bucket_blocks}
use Rattle.bc_record.proofs.Found.{takes_some, found_fits, next_blocks}
use Rattle.bc_jset.specs.declared.entry.JEntry.{JEntry}
use Rattle.bc_jset.specs.Records.{entry_kind, entry_sectors}
use Rattle.bc_jset.specs.Entries.{FoundEntry, bucket_start, bucket_end, StandIn, first_with, AreNumbered}
use Rattle.bc_jset.specs.Ring.{bucket_of}
use Rattle.bc_jset.proofs.Records.{entry_codec}
use Rattle.bc_jset.proofs.Entries.{found_number}
use Rattle.bc_meta.specs.Facts.{In}
use Rattle.bc_meta.proofs.Lists.{by_test}
use Rattle.bc_facts.specs.Reads.{back}

-- ---- lists

pub in_either : {A : Type 0} (x : A) (xs ys : List A) → In x (xs ++ ys) → In x xs ⊎ In x ys
in_either x [] ys i = inr i
in_either x (y ∷ xs) ys (inl e) = inl (inl e)
in_either x (y ∷ xs) ys (inr i) = elim (in_either x xs ys i) [ inl j ↦ inl (inr j) | inr j ↦ inr j ]

pub in_front : {A : Type 0} (x : A) (xs ys : List A) → In x xs → In x (xs ++ ys)
in_front x [] ys i = absurd i
in_front x (y ∷ xs) ys (inl e) = inl e
in_front x (y ∷ xs) ys (inr i) = inr (in_front x xs ys i)

pub in_behind : {A : Type 0} (x : A) (xs ys : List A) → In x ys → In x (xs ++ ys)
in_behind x [] ys i = i
in_behind x (y ∷ xs) ys i = inr (in_behind x xs ys i)

pub index_in : {A : Type 0} (xs : List A) (k : ℕ) (d : A) → k < length xs → In (slice_index_or xs k d) xs
index_in [] k d lt = absurd (omega arith)
index_in (x ∷ xs) zero d lt = inl refl
index_in (x ∷ xs) (suc k) d lt = inr (index_in xs k d (omega arith))

pub contains_in : {A : Type 0} (xs : List A) (x : A) → Contains xs x → In x xs
contains_in xs x c = subst (λ y. In y xs) c.2 (index_in xs c.0 x c.1)

pub in_contains : {A : Type 0} (xs : List A) (x : A) → In x xs → Contains xs x
in_contains [] x i = absurd i
in_contains (y ∷ xs) x (inl e) = (0, omega arith, sym e)
in_contains (y ∷ xs) x (inr i) = let c = in_contains xs x i in (suc c.0, (let lt = c.1 in omega arith), c.2)

pub all_in : {A : Type 0} (P : A → Type 0) (xs : List A) (x : A) → All P xs → In x xs → P x
all_in P xs x all i = let c = in_contains xs x i in subst P c.2 (all c.0 x c.1)

pub in_all : {A : Type 0} (P : A → Type 0) (xs : List A) → ((x : A) → In x xs → P x) → All P xs
in_all P xs f k d lt = f (slice_index_or xs k d) (index_in xs k d lt)

pub any_in : {A : Type 0} (P : A → Type 0) (xs : List A) → Any P xs → (x : A) × In x xs × P x
any_in P xs a = (a.1, subst (λ y. In y xs) a.3 (index_in xs a.0 a.1 a.2), a.4)

-- ---- records one behind the other

module _ {R : Type 0} (kind : Kind R) (codec : IsCodec kind) where
  pub behind_on : (p : ℕ) (rs : List R) → p ≤ behind kind p rs
  behind_on p [] = omega arith
  behind_on p (r ∷ rs) = let ih = behind_on (p + sectors_of kind r) rs in omega (arith, ih)

  pub behind_more : (p : ℕ) (xs ys : List R) → behind kind p (xs ++ ys) ≡ behind kind (behind kind p xs) ys
  behind_more p [] ys = refl
  behind_more p (x ∷ xs) ys = behind_more (p + sectors_of kind x) xs ys

  pub behind_fits : (image : Image) (end p n : ℕ) (before after : List R) → end ≡ p + kind.block * n → AreFound kind image end p (before ++ after) → (m : ℕ) × (end ≡ behind kind p before + kind.block * m)
  behind_fits image end p n [] after ends are = (n, ends)
  behind_fits image end p n (r ∷ rs) after ends are =
      let fits = found_fits kind codec image end p n r ends are.0 in
      let next = next_blocks kind codec r end p n ends fits in
      behind_fits image end (p + sectors_of kind r) next.0 rs after next.1 are.1

  pub found_behind : (image : Image) (end p : ℕ) (before after : List R) → AreFound kind image end p (before ++ after) → AreFound kind image end (behind kind p before) after
  found_behind image end p [] after are = are
  found_behind image end p (r ∷ rs) after are = found_behind image end (p + sectors_of kind r) rs after are.1

  -- of the same records those that end in front of a place
  pub in_prefix : (p : ℕ) (front back_ before after : List R) (x : R) → before ++ (x ∷ after) ≡ front ++ back_ → behind kind p before + sectors_of kind x ≤ behind kind p front → In x front
  in_prefix p [] back_ before after x same le = let on = behind_on p before in let some = takes_some kind codec x in absurd (omega (arith, on, some, le))
  in_prefix p (y ∷ ys) back_ [] after x same le = inl (head_same same)
    where
      head_same : x ∷ after ≡ y ∷ (ys ++ back_) → x ≡ y
      head_same e = cc
  in_prefix p (y ∷ ys) back_ (z ∷ zs) after x same le =
      let first : z ≡ y = head_same same in
      inr (in_prefix (p + sectors_of kind y) ys back_ zs after x (tail_same same) (subst (λ (r : R). behind kind (p + sectors_of kind r) zs + sectors_of kind x ≤ behind kind (p + sectors_of kind y) ys) (head_same same) le))
    where
      head_same : z ∷ (zs ++ (x ∷ after)) ≡ y ∷ (ys ++ back_) → z ≡ y
      head_same e = cc

      tail_same : z ∷ (zs ++ (x ∷ after)) ≡ y ∷ (ys ++ back_) → zs ++ (x ∷ after) ≡ ys ++ back_
      tail_same e = cc

-- ---- entries

pub record Stood (g : Geometry) (image : Image) (n : ℕ) (e : FoundEntry) : Type 0 where
  pub bucket : ℕ
  pub low : bucket < n
  pub before : List JEntry
  pub after : List JEntry
  pub are : AreFound (entry_kind g) image (bucket_end g bucket) (bucket_start g bucket) (before ++ (e.item ∷ after))
  pub place : e.place ≡ behind (entry_kind g) (bucket_start g bucket) before

pub in_placed : {A : Type 0} (kind : Kind A) (place : ℕ) (es : List A) (e : Placed A) → In e (placed kind place es) → (before after : List A) × (es ≡ before ++ (e.item ∷ after)) × (e.place ≡ behind kind place before)
in_placed kind place [] e i = absurd i
in_placed {A} kind place (x ∷ xs) e (inl is) = ([], xs, ap (λ (y : A). y ∷ xs) (sym (ap (λ (p : Placed A). p.item) is)), ap (λ (p : Placed A). p.place) is)
in_placed {A} kind place (x ∷ xs) e (inr i) = let k = in_placed kind (place + sectors_of kind x) xs e i in (x ∷ k.0, k.1, ap (λ (l : List A). x ∷ l) k.2, k.3)

pub stood : (g : Geometry) (image : Image) (n : ℕ) (all : List FoundEntry) (e : FoundEntry) → StandIn g image n all → In e all → Stood g image n e
stood g image zero all e h i = absurd (subst (λ (l : List FoundEntry). In e l) h i)
stood g image (suc n) all e h i = elim (in_either e h.0 (placed (entry_kind g) (bucket_start g n) h.1) (subst (λ (l : List FoundEntry). In e l) h.4 i)) [
  | inl j ↦ (let k = stood g image n h.0 e h.2 j in record { bucket = k.bucket; low = (let lt = k.low in omega (arith, lt)); before = k.before; after = k.after; are = k.are; place = k.place })
  | inr j ↦
      (let k = in_placed (entry_kind g) (bucket_start g n) h.1 e j in
      record { bucket = n; low = omega arith; before = k.0; after = k.1; are = subst (λ (l : List JEntry). AreFound (entry_kind g) image (bucket_end g n) (bucket_start g n) l) k.2 h.3; place = k.3 })
]

-- it lies in its bucket
pub stood_within : (g : Geometry) (image : Image) (n : ℕ) (e : FoundEntry) (s : Stood g image n e) → (bucket_start g s.bucket ≤ e.place) × (e.place + entry_sectors g e.item ≤ bucket_end g s.bucket)
stood_within g image n e s =
    let whole = bucket_blocks g in
    let ends : bucket_end g s.bucket ≡ bucket_start g s.bucket + g.block * whole.0 = ap (λ (m : ℕ). bucket_start g s.bucket + m) whole.1 in
    let left = behind_fits (entry_kind g) (entry_codec g) image (bucket_end g s.bucket) (bucket_start g s.bucket) whole.0 s.before (e.item ∷ s.after) ends s.are in
    let here = found_behind (entry_kind g) (entry_codec g) image (bucket_end g s.bucket) (bucket_start g s.bucket) s.before (e.item ∷ s.after) s.are in
    let fits = found_fits (entry_kind g) (entry_codec g) image (bucket_end g s.bucket) (behind (entry_kind g) (bucket_start g s.bucket) s.before) left.0 e.item left.1 here.0 in
    let on = behind_on (entry_kind g) (entry_codec g) (bucket_start g s.bucket) s.before in
    let p = s.place in
    (omega (arith, on, p), omega (arith, fits, p))

pub bucket_lies : (g : Geometry) (bucket place : ℕ) → g.bucket * bucket ≤ place → place < g.bucket * bucket + g.bucket → bucket_at g place ≡ bucket
bucket_lies g bucket place low high =
    let turn : bucket * g.bucket ≡ g.bucket * bucket = mul_comm bucket g.bucket in
    let more : (bucket + 1) * g.bucket ≡ g.bucket * bucket + g.bucket * 1 = mul_comm (bucket + 1) g.bucket ∙ mul-add g.bucket bucket 1 in
    div-eq_of_lt-le g.bucket (omega (arith, turn, low)) (omega (arith, more, high))

pub stood_bucket : (g : Geometry) (image : Image) (n : ℕ) (e : FoundEntry) (s : Stood g image n e) → bucket_of g e ≡ back g s.bucket
stood_bucket g image n e s =
    let lies = stood_within g image n e s in
    let some = takes_some (entry_kind g) (entry_codec g) e.item in
    let low = lies.0 in
    let high = lies.1 in
    bucket_lies g (back g s.bucket) e.place (omega (arith, low)) (omega (arith, high, some))

-- ---- of a list of numbered entries

pub find_in : (n : ℕ) (all : List FoundEntry) (e : FoundEntry) → first_with n all ≡ Some e → In e all
find_in n [] e = λ h. absurd (cc)
find_in n (a ∷ rest) e =
    by_test a.item.seq n (λ b. cond b (Some a) (first_with n rest) ≡ Some e → (e ≡ a) ⊎ In e rest)
    (λ _ h. inl (sym (some_same a e h))) (λ _ h. inr (find_in n rest e h))
  where
    some_same : (a e : FoundEntry) → Some a ≡ Some e → a ≡ e
    some_same a e h = cc

pub numbered_first : (all : List FoundEntry) (low next : ℕ) (es : List FoundEntry) (e : FoundEntry) → AreNumbered all low es next → In e es → first_with e.item.seq all ≡ Some e
numbered_first all low next [] e h i = absurd i
numbered_first all low next (x ∷ xs) e h (inl is) =
    let n : e.item.seq ≡ low = found_number low all e (h.0 ∙ ap (λ (y : FoundEntry). Some y) (sym is)) in
    ap (λ m. first_with m all) n ∙ h.0 ∙ ap (λ (y : FoundEntry). Some y) (sym is)
numbered_first all low next (x ∷ xs) e h (inr i) = numbered_first all (suc low) next xs e h.1 i

pub numbered_in : (all : List FoundEntry) (low next : ℕ) (es : List FoundEntry) (e : FoundEntry) → AreNumbered all low es next → In e es → In e all
numbered_in all low next es e h i = find_in e.item.seq all e (numbered_first all low next es e h i)
