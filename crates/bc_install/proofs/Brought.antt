-- What a part of buckets knows stays where a node comes into a bucket, or goes out of one.
use Rattle.std.proofs.Common.{◌≡◌, inl, inr, ℕ, ◌+◌, ◌<◌, Bool, true, false, List, drop, length, get_or, refl, sym, ap, ◌∙◌, subst, arith}
use Rattle.std.specs.Prelude.{◌↔◌, IsTrue, slice_set}
use Rattle.std.proofs.lemmas.Bool.{cases_eq, cases_lt}
use Rattle.std.proofs.lemmas.List.{drop_more, get_or-map, length-map}
use Rattle.bc_alloc.proofs.Fits.{changed_twice, held_stays, other_stays, same_length, this_changes}
use Rattle.bc_alloc.proofs.Loops.{there}
use Rattle.bc_alloc.specs.Buckets.{AreFor}
use Rattle.bc_alloc.specs.Reserve.{times}
use Rattle.bc_alloc.specs.Reserves.{Reserves}
use Rattle.bc_bucket.specs.Bucket.{marked, with_held}
use Rattle.bc_bucket.specs.Buckets.{Buckets, bucket_of, changed}
use Rattle.bc_bucket.specs.declared.bucket.Bucket.{Bucket}
use Rattle.bc_bucket.specs.declared.bucket.Mark.TheVariants as marks
use Rattle.bc_change.specs.bc_machine.declared.part.BucketsPart.{BucketsPart}
use Rattle.bc_fill.specs.Fill.{AreOpen, HaveFree, bucket_numbers}
use Rattle.bc_fill.specs.declared.fill.Open.{Open}
use Rattle.bc_grouped.specs.Grouped.{made_at, unmade_at, with_node}
use Rattle.bc_install.specs.Buckets.{HaveMade, HaveUnmade, IfMade, IfUnmade}

-- one of the open ones
pub open_there : (fs : List Open) (i k : ℕ) (d : Open) → i < length fs
    → (get_or fs i d).bucket ≡ k → 0 < times k (bucket_numbers fs)
open_there fs i k d within is = subst (λ (n : ℕ). 0 < times n (bucket_numbers fs))
    (get_or-map (λ (o : Open). o.bucket) fs i d 0 within ∙ is)
    (there (bucket_numbers fs) i
    (let same = length-map fs (λ (o : Open). o.bucket) in omega (arith, within, same)))

pub none_open : (fs now : List Open) (k : ℕ) (b : Bool) → now ≡ fs
    → (IsTrue b ↔ (0 < times k (bucket_numbers now))) → b ≡ false
    → times k (bucket_numbers fs) ≡ 0
none_open fs now k b same says off = elim (cases_lt 0 (times k (bucket_numbers fs))) [
  | inl some ↦ absurd (true_false (sym (says.1
      (subst (λ (xs : List Open). 0 < times k (bucket_numbers xs)) (sym same) some)) ∙ off))
  | inr none ↦ omega (arith, none)
]
  where
    true_false : true ≡ false → ⊥
    true_false e = cc

-- ---- a node comes

was_free : (x : Bucket) → x.held ≡ false → x ≡ with_held false x
was_free x free = ap (λ h. with_held h x) free

module _ (used k : ℕ) (old first second : Buckets) (within : k < length old.records)
    (one : first ≡ changed (marked marks.Metadata used) k old)
    (two : second ≡ record first { touched = slice_set first.touched k true }) where
  abbrev both : Buckets
  both = record (changed (marked marks.Metadata used) k old) {
    touched = slice_set old.touched k true;
  }

  so_far : second ≡ both
  so_far = two ∙ ap (λ (x : Buckets). record x { touched = slice_set x.touched k true }) one

  pub brought_held : (third : Buckets) → third ≡ changed (with_held false) k second
      → third ≡ made_at used k old
  brought_held third three = three ∙ ap (λ (x : Buckets). changed (with_held false) k x) so_far
      ∙ ap (λ (x : Buckets). record x { touched = slice_set old.touched k true })
      (changed_twice (marked marks.Metadata used) (with_held false) k old within)

  pub brought_free : (bucket_of second k).held ≡ false → second ≡ made_at used k old
  brought_free free =
      let at = this_changes (marked marks.Metadata used) k old within in
      let none : (marked marks.Metadata used (bucket_of old k)).held ≡ false =
      sym (ap (λ (x : Bucket). x.held) at)
      ∙ sym (ap (λ (x : Buckets). (bucket_of x k).held) so_far) ∙ free in
      so_far ∙ ap (λ (x : Bucket). record old {
        records = slice_set old.records k x;
        touched = slice_set old.touched k true;
      }) (was_free (marked marks.Metadata used (bucket_of old k)) none)

-- ---- what stays

module _ (fs : List Open) (r : Reserves) (old new : Buckets)
    (count : length new.records ≡ length old.records) (size : new.size ≡ old.size) where
  fit_by : ((j : ℕ) → (bucket_of old j).held ≡ false → (bucket_of new j).held ≡ false)
      → AreFor r old → AreFor r new
  fit_by falls fit = record {
    same_count = count ∙ fit.same_count;
    not_held = λ j some. falls j (fit.not_held j some);
  }

  open_by : ((j : ℕ) → 0 < times j (bucket_numbers fs)
      → (bucket_of new j).held ≡ (bucket_of old j).held)
      → AreOpen fs r old → AreOpen fs r new
  open_by stays opens = record {
    distinct = opens.distinct;
    each = λ j there. let was = opens.each j there in
        (was.0, stays j there ∙ was.1, was.2);
    free = subst (λ n. HaveFree n fs) (sym size) opens.free;
  }

module _ (fs : List Open) (r : Reserves) (b : Buckets) (used k : ℕ)
    (within : k < length b.records) where
  made_falls : (j : ℕ) → (bucket_of b j).held ≡ false
      → (bucket_of (made_at used k b) j).held ≡ false
  made_falls j was = elim (cases_eq j k) [
    | inl e ↦ ap (λ i. (bucket_of (made_at used k b) i).held) e
        ∙ ap (λ (x : Bucket). x.held) (this_changes (with_node used) k b within)
    | inr ne ↦ ap (λ (x : Bucket). x.held) (other_stays (with_node used) k b j ne) ∙ was
  ]

  pub made_fit : AreFor r b → AreFor r (made_at used k b)
  made_fit fit = fit_by fs r b (made_at used k b) (same_length (with_node used) k b) refl made_falls
      fit

  pub made_open : times k (bucket_numbers fs) ≡ 0 → AreOpen fs r b
      → AreOpen fs r (made_at used k b)
  made_open none opens = open_by fs r b (made_at used k b) (same_length (with_node used) k b) refl
      (λ j there. ap (λ (x : Bucket). x.held) (other_stays (with_node used) k b j
      (λ e. let here = subst (λ (i : ℕ). 0 < times i (bucket_numbers fs)) e there in
      omega (arith, here, none)))) opens

module _ (fs : List Open) (r : Reserves) (b : Buckets) (k : ℕ) where
  unmade_held : (j : ℕ) → (bucket_of (unmade_at k b) j).held ≡ (bucket_of b j).held
  unmade_held j = held_stays (marked marks.None 0) (λ x. refl) k b j

  pub unmade_fit : AreFor r b → AreFor r (unmade_at k b)
  unmade_fit fit = fit_by fs r b (unmade_at k b) (same_length (marked marks.None 0) k b) refl
      (λ j was. unmade_held j ∙ was) fit

  pub unmade_open : AreOpen fs r b → AreOpen fs r (unmade_at k b)
  unmade_open opens = open_by fs r b (unmade_at k b) (same_length (marked marks.None 0) k b) refl
      (λ j there. unmade_held j) opens

-- ---- one more of these

pub made_next : (first : ℕ) (bs : List ℕ) (i b n : ℕ) (o p r : BucketsPart) → i < length bs
    → b ≡ get_or bs i 0 → n ≡ first + b
    → ((q : BucketsPart) → HaveMade first (drop i bs) p q → HaveMade first bs o q)
    → IfMade n p r → (q : BucketsPart) → HaveMade first (drop (i + 1) bs) r q
    → HaveMade first bs o q
made_next first bs i b n o p r within at is before one q rest =
    before q (subst (λ (xs : List ℕ). HaveMade first xs p q) (sym (drop_more bs i 0 within))
    (r, subst (λ m. IfMade m p r) (is ∙ ap (λ m. first + m) at) one, rest))

pub unmade_next : (first : ℕ) (bs : List ℕ) (i b n : ℕ) (o p r : BucketsPart) → i < length bs
    → b ≡ get_or bs i 0 → n ≡ first + b
    → ((q : BucketsPart) → HaveUnmade first (drop i bs) p q → HaveUnmade first bs o q)
    → IfUnmade n p r → (q : BucketsPart) → HaveUnmade first (drop (i + 1) bs) r q
    → HaveUnmade first bs o q
unmade_next first bs i b n o p r within at is before one q rest =
    before q (subst (λ (xs : List ℕ). HaveUnmade first xs p q) (sym (drop_more bs i 0 within))
    (r, subst (λ m. IfUnmade m p r) (is ∙ ap (λ m. first + m) at) one, rest))
