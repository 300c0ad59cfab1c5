-- The ring as an entry is sealed, written and durable.
use Rattle.std.proofs.Common.{◌≡◌, ◌≢◌, inl, inr, ℕ, ◌+◌, ◌<◌, ◌≤◌, List, [], ◌∷◌, length, Option, Some, None, refl, sym, ap, ◌∙◌, subst, arith}
use Rattle.std.specs.Prelude.{IfSome, slice_index, slice_set}
use Rattle.std.proofs.lemmas.Bool.{ltb-true}
use Rattle.std.proofs.lemmas.Grind.{get_or-set_at}
use Rattle.std.proofs.lemmas.List.{get_or-set_other}
use Rattle.bc_journal.specs.Ring.{Ring, with_entry}
use Rattle.bc_leaves.proofs.Chains.{put_else, put_there}
use Rattle.bc_machine.specs.Containers.{IsRingOf, behind_sealed}
use Rattle.bc_meta.specs.Entries.{Entry}
use Rattle.bc_meta.specs.Facts.{In}
use Rattle.bc_meta.specs.Layout.{Layout, entry_len}
use Rattle.bc_meta.specs.Records.{put}
use Rattle.bc_meta.proofs.Lists.{decide}
use Rattle.bc_shares.specs.Shares.{JournalShare}
use Rattle.bc_whole.specs.State.{Opening}
use Rattle.bc_sealing.specs.Laws.{Begins, Ends, IsNew, LawPlaces, LawRing, Seals, front_of}

-- ---- where the next entry goes

-- behind what was sealed, by what is sealed
behind_is : (w : Layout) (o : Option Entry) (e : Entry) (n : ℕ) → o ≡ Some e
    → behind_sealed w o n ≡ n + entry_len w e
behind_is w o e n is = ap (λ (x : Option Entry). behind_sealed w x n) is

behind_none : (w : Layout) (o : Option Entry) (n : ℕ) → o ≡ None → behind_sealed w o n ≡ n
behind_none w o n is = ap (λ (x : Option Entry). behind_sealed w x n) is

if_some : {A : Type 0} (P : A → Type 0) (o : Option A) (e : A) → o ≡ Some e → P e → IfSome o P
if_some P o e is p = subst (λ x. IfSome x P) (sym is) p

of_some : {A : Type 0} (P : A → Type 0) (o : Option A) (e : A) → o ≡ Some e → IfSome o P → P e
of_some P o e is p = subst (λ x. IfSome x P) is p

-- ---- numbers

set_there : (xs : List ℕ) (b n : ℕ) → b < length xs → slice_index (slice_set xs b n) b ≡ n
set_there xs b n inside = get_or-set_at xs b b n 0 refl inside

set_else : (xs : List ℕ) (b n k : ℕ) → k ≢ b → slice_index (slice_set xs b n) k ≡ slice_index xs k
set_else xs b n k ne = get_or-set_other xs b k n 0 ne

module _ (w : Opening) (x y : JournalShare) (r : Ring) (e : Entry) (sectors : ℕ)
    (h : IsRingOf w x r) (none : x.entries.sealed ≡ None) (s : Seals e x y)
    (new : IsNew w r r.next.bucket e sectors) where
  below : (b : ℕ) (d : Entry) → In d (y.entries.ring b)
      → d.number ≤ slice_index (slice_set r.newest r.next.bucket e.number) b
  below b d i =
      let old = h.newest b d (subst (λ (f : ℕ → List Entry). In d (f b)) s.ring i) in
      elim (decide b r.next.bucket) [
        | inl is ↦
            (let at = set_there r.newest r.next.bucket e.number new.within in
            let here = ap (slice_index (slice_set r.newest r.next.bucket e.number)) is in
            let was = ap (slice_index r.newest) is in
            let up = new.number in
            omega (arith, old, at, here, was, up))
        | inr ne ↦
            (let at = set_else r.newest r.next.bucket e.number b ne in omega (arith, old, at))
      ]

  behind : IsRingOf w y (with_entry r r.next sectors e.number)
  behind = record {
    layout = h.layout;
    before = h.before;
    bucket = h.bucket ∙ sym s.bucket;
    next =
        (let was = h.next in
        let no = behind_none w.layout x.entries.sealed (x.next x.entries.bucket) none in
        let now = behind_is w.layout y.entries.sealed e (y.next y.entries.bucket) s.sealed in
        let at = ap (λ (f : ℕ → ℕ). f y.entries.bucket) s.next in
        let bucket = ap x.next s.bucket in
        let long = new.long in
        omega (arith, was, no, now, at, bucket, long));
    newest = below;
    sealed = if_some (λ (d : Entry). d.number
        ≤ slice_index (slice_set r.newest r.next.bucket e.number) y.entries.bucket)
        y.entries.sealed e s.sealed
        (let at = set_there r.newest r.next.bucket e.number new.within in
        let here = ap (slice_index (slice_set r.newest r.next.bucket e.number))
        (h.bucket ∙ sym s.bucket) in
        omega (arith, at, here));
  }

module _ (w : Opening) (x y z : JournalShare) (r : Ring) (b : ℕ) (e : Entry) (sectors : ℕ)
    (h : IsRingOf w x r) (begins : Begins w b x y) (s : Seals e y z)
    (new : IsNew w r b e sectors) where
  -- in the bucket that is begun nothing stands
  emptied : (k : ℕ) (d : Entry) → In d (z.entries.ring k)
      → d.number ≤ slice_index (slice_set r.newest b e.number) k
  emptied k d i =
      let there = subst (λ (f : ℕ → List Entry). In d (f k)) (s.ring ∙ begins.ring) i in
      elim (decide k b) [
        | inl is ↦ absurd (subst (λ (l : List Entry). In d l)
            (ap (put x.entries.ring b []) is ∙ put_there x.entries.ring b []) there)
        | inr ne ↦
            (let at = set_else r.newest b e.number k ne in
            let old = h.newest k d
            (subst (λ (l : List Entry). In d l) (put_else x.entries.ring b [] k ne) there) in
            omega (arith, at, old))
      ]

  bucket_is : z.entries.bucket ≡ b
  bucket_is = s.bucket ∙ begins.bucket

  front : IsRingOf w z (with_entry r (front_of b) sectors e.number)
  front = record {
    layout = h.layout;
    before = h.before;
    bucket = sym bucket_is;
    next =
        (let now = behind_is w.layout z.entries.sealed e (z.next z.entries.bucket) s.sealed in
        let at = ap (λ (f : ℕ → ℕ). f z.entries.bucket) (s.next ∙ begins.next) in
        let bucket = ap (put x.next b (w.layout.first b)) bucket_is in
        let first = put_there x.next b (w.layout.first b) in
        let long = new.long in
        omega (arith, now, at, bucket, first, long));
    newest = emptied;
    sealed = if_some (λ (d : Entry). d.number
        ≤ slice_index (slice_set r.newest b e.number) z.entries.bucket) z.entries.sealed e s.sealed
        (let at = set_there r.newest b e.number new.within in
        let here = ap (slice_index (slice_set r.newest b e.number)) bucket_is in
        omega (arith, at, here));
  }

module _ (w : Opening) (x y : JournalShare) (r : Ring) (e : Entry) (h : IsRingOf w x r)
    (is : x.entries.sealed ≡ Some e) (ends : Ends w e x y) where
  abbrev b : ℕ
  b = x.entries.bucket

  kept : (k : ℕ) (d : Entry) → In d (y.entries.ring k) → d.number ≤ slice_index r.newest k
  kept k d i =
      let there = subst (λ (f : ℕ → List Entry). In d (f k)) ends.ring i in
      elim (decide k b) [
        | inl same ↦
            (let here = subst (λ (l : List Entry). In d l)
            (ap (put x.entries.ring b (e ∷ x.entries.ring b)) same
            ∙ put_there x.entries.ring b (e ∷ x.entries.ring b)) there in
            let at = ap (slice_index r.newest) same in
            elim here [
              | inl first ↦
                  (let up = of_some (λ (c : Entry). c.number ≤ slice_index r.newest b)
                  x.entries.sealed e is h.sealed in
                  let number = ap (λ (c : Entry). c.number) first in
                  omega (arith, up, number, at))
              | inr old ↦ (let up = h.newest b d old in omega (arith, up, at))
            ])
        | inr ne ↦ h.newest k d (subst (λ (l : List Entry). In d l)
            (put_else x.entries.ring b (e ∷ x.entries.ring b) k ne) there)
      ]

  durable : IsRingOf w y r
  durable = record {
    layout = h.layout;
    before = h.before;
    bucket = h.bucket ∙ sym ends.bucket;
    next =
        (let was = h.next in
        let some = behind_is w.layout x.entries.sealed e (x.next b) is in
        let now = behind_none w.layout y.entries.sealed (y.next y.entries.bucket) ends.sealed in
        let at = ap (λ (f : ℕ → ℕ). f y.entries.bucket) ends.next in
        let bucket = ap (put x.next b (x.next b + entry_len w.layout e)) ends.bucket in
        let there = put_there x.next b (x.next b + entry_len w.layout e) in
        omega (arith, was, some, now, at, bucket, there));
    newest = kept;
    sealed = subst (λ (o : Option Entry). IfSome o (λ (d : Entry).
        d.number ≤ slice_index r.newest y.entries.bucket)) (sym ends.sealed) tt;
  }

pub law_ring : LawRing
law_ring = record { behind = behind; front = front; durable = durable }

-- ---- what a seal and a write ask

pub law_places : LawPlaces
law_places = record {
  free = λ w x r b h is e i.
      let low = ltb-true (slice_index r.newest b) x.entries.newest.last_seq is in
      let up = h.newest b e i in
      omega (arith, low, up);
  place = λ w x r p e sectors h is long.
      let next = h.next in
      let some = behind_is w.layout x.entries.sealed e (x.next x.entries.bucket) is in
      let first = h.layout.first p.bucket in
      omega (arith, next, some, first, long);
  fits = λ w x r e h ring is.
      let next = h.next in
      let some = behind_is w.layout x.entries.sealed e (x.next x.entries.bucket) is in
      let bucket = ap w.layout.first h.bucket in
      let inside = ring.next.inside in
      let sectors = h.layout.bucket_sectors in
      omega (arith, next, some, bucket, inside, sectors);
  long = λ w x r e h. h.layout.entries.long tt e;
}
