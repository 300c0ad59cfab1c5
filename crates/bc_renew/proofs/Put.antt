-- A bucket gets another mark and goes to another shelf: what the records and the lists in hand
-- stand for then.
use Rattle.std.proofs.Common.{◌≡◌, ◌≢◌, ◌⊎◌, inl, inr, ℕ, ◌+◌, ◌-◌, ◌*◌, ◌<◌, ◌≤◌, List, length, Option, Some, None, refl, sym, ap, ◌∙◌, subst, arith}
use Rattle.std.proofs.lemmas.Bool.{cases_eq}
use Rattle.bc_alloc.proofs.Fits.{other_stays, same_length, this_changes}
use Rattle.bc_alloc.specs.Reserve.{times}
use Rattle.bc_alloc.specs.Reserves.{Reserves}
use Rattle.bc_alloc.specs.declared.purpose.Purpose.{Purpose}
use Rattle.bc_books.specs.Books.{Books}
use Rattle.bc_books.specs.Index.{put}
use Rattle.bc_books.specs.Marks as mark
use Rattle.bc_books.specs.Shelves.{Shelf, Loose, Listed, Raised, Open, Fresh, by_room}
use Rattle.bc_books.specs.Shelves as shelf
use Rattle.bc_bucket.specs.Buckets.{Buckets, bucket_of, changed}
use Rattle.bc_bucket.specs.declared.bucket.Bucket.{Bucket}
use Rattle.bc_events.specs.Acts as events
use Rattle.bc_events.specs.Acts.{purpose_of}
use Rattle.bc_fill.specs.Fill.{bucket_numbers}
use Rattle.bc_fill.specs.declared.fill.Open as fill
use Rattle.bc_leaves.proofs.Chains.{put_else, put_there}
use Rattle.bc_places.proofs.Lists.{apart, counted, not_there, without}
use Rattle.bc_places.specs.Stands.{AreJust, StandFor}
use Rattle.bc_machine.specs.Containers.{IsBucketFor, is_held, mark_of, pins_in}
use Rattle.bc_shares.specs.Shares.{buckets_in}
use Rattle.bc_whole.specs.State.{Opening}
use Rattle.bc_renew.proofs.Goes.{HasGone, list_in, same_list}
use Rattle.bc_renew.proofs.Joined.{joined}

-- the parts in memory of the buckets, of which the core has this
pub record Stands (w : Opening) (k : Books) (b : Buckets) (r : Reserves) (fs : List fill.Open) :
    Type 0 where
  pub records : (q : ℕ) → w.before + q < length b.records
      → IsBucketFor (w.flow.books.version q) q (buckets_in k)
      (pins_in k.owner ((w.before + q) * b.size) b.size) (bucket_of b (w.before + q))
  pub places : StandFor w.before b.size fs r k

-- the books with another mark and another shelf of one bucket
abbrev pub placed : ℕ → mark.Mark → Shelf → Books → Books
placed q m x k = record k { mark = put k.mark q m; shelf = put k.shelf q x }

-- where a bucket stands that goes to this list, or to none
abbrev pub goes : Option Purpose → Shelf
goes o = by_room (events.list_of o)

-- its record changes so
pub record IsPut (m : mark.Mark) (x : Shelf) (old new : Bucket) : Type 0 where
  pub generation : new.generation ≡ old.generation
  pub uses : new.uses ≡ old.uses
  pub last_gc : new.last_gc ≡ old.last_gc
  pub pins : new.pins ≡ old.pins
  pub mark : mark_of new.mark ≡ m
  pub held : new.held ≡ is_held x

-- it isn't open for data, and on no list
abbrev pub IsOff : Shelf → Type 0
IsOff x = (x ≡ Open → ⊥) × ((p : shelf.Purpose) → x ≡ Listed p → ⊥)

-- where it goes, it is neither open for data nor raised
goes_where : (o : Option Purpose) → (goes o ≡ Open → ⊥) × (goes o ≡ Raised → ⊥)
goes_where None = (λ e. absurd (cc), λ e. absurd (cc))
goes_where (Some p) = (λ e. absurd (cc), λ e. absurd (cc))

-- it is on this list, and on no other
goes_there : (o : Option Purpose) (p : Purpose)
    → ((o ≡ Some p) × (goes o ≡ Listed (purpose_of p)))
    ⊎ ((o ≡ Some p → ⊥) × (goes o ≡ Listed (purpose_of p) → ⊥))
goes_there None p = inr (λ e. absurd (cc), λ e. absurd (cc))
goes_there (Some r) p = go (same_list r p)
  where
    go : (r ≡ p) ⊎ (purpose_of r ≢ purpose_of p)
        → ((Some r ≡ Some p) × (goes (Some r) ≡ Listed (purpose_of p)))
        ⊎ ((Some r ≡ Some p → ⊥) × (goes (Some r) ≡ Listed (purpose_of p) → ⊥))
    go (inl e) = inl (ap Some e, ap (λ y. Listed (purpose_of y)) e)
    go (inr ne) = inr (
      λ e. ne (ap purpose_of (let is : r ≡ p = cc in is)),
      λ e. ne (let is : purpose_of r ≡ purpose_of p = cc in is),
    )

module _ (w : Opening) (k : Books) (b : Buckets) (r : Reserves) (fs : List fill.Open)
    (s : Stands w k b r fs) (n : ℕ) (low : w.before ≤ n) (there : n < length b.records)
    (m : mark.Mark) (o : Option Purpose) (f : Bucket → Bucket)
    (is : IsPut m (goes o) (bucket_of b n) (f (bucket_of b n)))
    (off : IsOff (k.shelf (n - w.before))) where
  abbrev q : ℕ
  q = n - w.before

  abbrev then_ : Books
  then_ = placed q m (goes o) k

  at : w.before + q ≡ n
  at = counted w.before n low

  mark_else : (j : ℕ) → j ≢ q → then_.mark j ≡ k.mark j
  mark_else j ne = put_else k.mark q m j ne

  shelf_else : (j : ℕ) → j ≢ q → then_.shelf j ≡ k.shelf j
  shelf_else j ne = put_else k.shelf q (goes o) j ne

  shelf_there : then_.shelf q ≡ goes o
  shelf_there = put_there k.shelf q (goes o)

  -- ---- records

  record_else : (j : ℕ) → w.before + j < length b.records → j ≢ q
      → IsBucketFor (w.flow.books.version j) j (buckets_in then_)
      (pins_in then_.owner ((w.before + j) * b.size) b.size) (bucket_of b (w.before + j))
  record_else j inside ne = let was = s.records j inside in record {
    generation = was.generation;
    uses = was.uses;
    last_gc = was.last_gc;
    mark = was.mark ∙ sym (mark_else j ne);
    pins = was.pins;
    held = was.held ∙ sym (ap is_held (shelf_else j ne));
  }

  record_there : IsBucketFor (w.flow.books.version q) q (buckets_in then_)
      (pins_in then_.owner ((w.before + q) * b.size) b.size) (f (bucket_of b n))
  record_there =
      let was : IsBucketFor (w.flow.books.version q) q (buckets_in k)
      (pins_in k.owner ((w.before + q) * b.size) b.size) (bucket_of b n) =
      subst (λ j. IsBucketFor (w.flow.books.version q) q (buckets_in k)
      (pins_in k.owner ((w.before + q) * b.size) b.size) (bucket_of b j)) at
      (s.records q (let e = at in omega (arith, there, e))) in record {
        generation = is.generation ∙ was.generation;
        uses = was.uses ∙ ap (λ u. w.flow.books.version q + u) (sym is.uses);
        last_gc = is.last_gc ∙ was.last_gc;
        mark = is.mark ∙ sym (put_there k.mark q m);
        pins = is.pins ∙ was.pins;
        held = is.held ∙ sym (ap is_held shelf_there);
      }

  record_then : (j : ℕ) → w.before + j < length b.records → (j ≡ q) ⊎ (j ≢ q)
      → IsBucketFor (w.flow.books.version j) j (buckets_in then_)
      (pins_in then_.owner ((w.before + j) * b.size) b.size)
      (bucket_of (changed f n b) (w.before + j))
  record_then j inside (inl e) =
      subst (λ i. IsBucketFor (w.flow.books.version i) i (buckets_in then_)
      (pins_in then_.owner ((w.before + i) * b.size) b.size)
      (bucket_of (changed f n b) (w.before + i))) (sym e)
      (subst (IsBucketFor (w.flow.books.version q) q (buckets_in then_)
      (pins_in then_.owner ((w.before + q) * b.size) b.size))
      (sym (ap (bucket_of (changed f n b)) at ∙ this_changes f n b there)) record_there)
  record_then j inside (inr ne) =
      subst (IsBucketFor (w.flow.books.version j) j (buckets_in then_)
      (pins_in then_.owner ((w.before + j) * b.size) b.size))
      (sym (other_stays f n b (w.before + j)
      (λ same. ne (let e = at in omega (arith, same, e)))))
      (record_else j inside ne)

  -- ---- lists

  module _ (r2 : Reserves) (gone : HasGone n r.lists r2.lists o)
      (raised : ((j : ℕ) → j ≢ n → times j r2.raised ≡ times j r.raised)
      × (times n r2.raised ≡ 0)) where
    list_then : (p : Purpose) → ((o ≡ Some p) × (goes o ≡ Listed (purpose_of p)))
        ⊎ ((o ≡ Some p → ⊥) × (goes o ≡ Listed (purpose_of p) → ⊥))
        → AreJust w.before (list_in p r2.lists) (λ j. then_.shelf j ≡ Listed (purpose_of p))
    list_then p (inl its) = joined w.before n (list_in p r.lists) (list_in p r2.lists)
        (λ j. k.shelf j ≡ Listed (purpose_of p)) (λ j. then_.shelf j ≡ Listed (purpose_of p)) low
        (s.places.lists.lists p) (gone.there p its.0) (λ j ne on. shelf_else j ne ∙ on)
        (λ j ne on. sym (shelf_else j ne) ∙ on) (shelf_there ∙ its.1)
    list_then p (inr not) = subst (λ ks. AreJust w.before ks
        (λ j. then_.shelf j ≡ Listed (purpose_of p))) (sym (gone.else_ p not.0))
        (apart w.before n (list_in p r.lists) (λ j. k.shelf j ≡ Listed (purpose_of p))
        (λ j. then_.shelf j ≡ Listed (purpose_of p)) low (s.places.lists.lists p)
        (off.1 (purpose_of p)) (λ j ne on. shelf_else j ne ∙ on)
        (λ j ne on. sym (shelf_else j ne) ∙ on) (λ on. not.1 (sym shelf_there ∙ on)))

    raised_then : AreJust w.before r2.raised (λ j. then_.shelf j ≡ Raised)
    raised_then = without w.before n r.raised r2.raised (λ j. k.shelf j ≡ Raised)
        (λ j. then_.shelf j ≡ Raised) low s.places.lists.raised raised.0 raised.1
        (λ j ne on. shelf_else j ne ∙ on) (λ j ne on. sym (shelf_else j ne) ∙ on)
        (λ on. (goes_where o).1 (sym shelf_there ∙ on))

    opens_then : AreJust w.before (bucket_numbers fs) (λ j. then_.shelf j ≡ Open)
    opens_then = apart w.before n (bucket_numbers fs) (λ j. k.shelf j ≡ Open)
        (λ j. then_.shelf j ≡ Open) low s.places.opens.buckets off.0
        (λ j ne on. shelf_else j ne ∙ on) (λ j ne on. sym (shelf_else j ne) ∙ on)
        (λ on. (goes_where o).0 (sym shelf_there ∙ on))

    pub put_stands : Stands w then_ (changed f n b) r2 fs
    put_stands = record {
      records = λ j inside. record_then j
          (let long = same_length f n b in omega (arith, long, inside)) (cases_eq j q);
      places = record {
        opens = record {
          buckets = opens_then;
          free = s.places.opens.free;
          given = s.places.opens.given;
        };
        lists = record {
          lists = λ p. list_then p (goes_there o p);
          raised = raised_then;
        };
      };
    }

-- no raised bucket is taken off
pub raised_stay : (before n : ℕ) (ks : List ℕ) (P : ℕ → Type 0) → AreJust before ks P
    → (P (n - before) → ⊥)
    → ((j : ℕ) → j ≢ n → times j ks ≡ times j ks) × (times n ks ≡ 0)
raised_stay before n ks P h never = (λ j ne. refl, not_there before n ks P h never)
