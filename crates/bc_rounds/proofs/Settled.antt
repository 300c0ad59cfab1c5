-- A bucket that is settled is the one of the books behind the round.
use Rattle.std.proofs.Common.{◌≡◌, ℕ, ◌%◌, Bool, true, false, sym, ap, ◌∙◌, refl}
use Rattle.std.specs.Prelude.{if◌then◌else◌}
use Rattle.bc_books.specs.After.{after}
use Rattle.bc_books.specs.Books.{Books, Setup, End}
use Rattle.bc_books.specs.Marks as books
use Rattle.bc_bucket.specs.Bucket.{is_metadata}
use Rattle.bc_bucket.specs.Buckets.{oldest_or, settled_unless}
use Rattle.bc_bucket.specs.declared.bucket.Bucket.{Bucket}
use Rattle.bc_bucket.specs.declared.bucket.Mark.{Mark}
use Rattle.bc_bucket.specs.declared.bucket.Mark.TheVariants as marks
use Rattle.bc_bucket.specs.declared.walk.Found.{Found}
use Rattle.bc_machine.specs.Containers.{IsBucketFor, IsFoundFor, mark_of}
use Rattle.bc_shares.specs.Shares.{buckets_in}
use Rattle.bc_rounds.proofs.Oldest.{AreUpTo, oldest_is}

-- the mark of metadata stays, and each other one falls to what was found
is_such : (m : Mark) → is_metadata m ≡ true → mark_of m ≡ books.Metadata
is_such marks.None is = absurd (cc)
is_such marks.Reclaimable is = absurd (cc)
is_such marks.Dirty is = absurd (cc)
is_such marks.Metadata is = refl

is_other : (m : Mark) → is_metadata m ≡ false → (n : books.Mark) → books.settled (mark_of m) n ≡ n
is_other marks.None is n = refl
is_other marks.Reclaimable is n = refl
is_other marks.Dirty is n = refl
is_other marks.Metadata is n = absurd (cc)

abbrev settled_if : Bool → Found → Bucket → Bucket
settled_if metadata f b = if metadata
    then record b { last_gc = oldest_or b.generation f.last_gc }
    else record b {
      last_gc = oldest_or b.generation f.last_gc;
      mark = f.mark;
      used = f.used;
    }

module _ (w : Setup) (k : Books) (opened q pinned : ℕ) (f : Found) (b : Bucket)
    (h : IsBucketFor opened q (buckets_in k) pinned b)
    (found : IsFoundFor w k.round.seen k.round.live q f)
    (up : AreUpTo w k.round.seen q (k.generations.version q)) where
  abbrev then_ : Books
  then_ = after w k End

  abbrev fell : books.Mark
  fell = books.found_mark w.bucket q k.round.seen k.round.live w.size

  abbrev least : ℕ
  least = books.oldest w.bucket q (k.generations.version q) k.round.seen w.size

  last_then : k.round.touched q ≡ false
      → oldest_or b.generation f.last_gc ≡ then_.generations.last_gc q % 256
  last_then off =
      oldest_is w k.round.seen q (k.generations.version q) up f.last_gc b.generation h.generation
      found.oldest
      ∙ ap (λ t. books.unless t (k.generations.last_gc q) least % 256) (sym off)

  mark_then : k.round.touched q ≡ false → books.settled (k.mark q) fell ≡ then_.mark q
  mark_then off = ap (λ t. books.unless t (k.mark q) (books.settled (k.mark q) fell)) (sym off)

  by_mark : k.round.touched q ≡ false → (c : Bool) → is_metadata b.mark ≡ c
      → IsBucketFor opened q (buckets_in then_) pinned (settled_if c f b)
  by_mark off true is = record {
    generation = h.generation;
    uses = h.uses;
    last_gc = last_then off;
    mark = let its = sym h.mark ∙ is_such b.mark is in
        h.mark ∙ its ∙ sym (ap (λ m. books.settled m fell) its) ∙ mark_then off;
    pins = h.pins;
    held = h.held;
  }
  by_mark off false is = record {
    generation = h.generation;
    uses = h.uses;
    last_gc = last_then off;
    mark = found.mark ∙ sym (is_other b.mark is fell)
        ∙ ap (λ m. books.settled m fell) h.mark ∙ mark_then off;
    pins = h.pins;
    held = h.held;
  }

  pub settled_stands : (t : Bool) → k.round.touched q ≡ t
      → IsBucketFor opened q (buckets_in then_) pinned (settled_unless t f b)
  settled_stands true on = record {
    generation = h.generation;
    uses = h.uses;
    last_gc = h.last_gc
        ∙ ap (λ t. books.unless t (k.generations.last_gc q) least % 256) (sym on);
    mark = h.mark ∙ ap (λ t. books.unless t (k.mark q) (books.settled (k.mark q) fell)) (sym on);
    pins = h.pins;
    held = h.held;
  }
  settled_stands false off = by_mark off (is_metadata b.mark) refl
