-- Keys that point nowhere leave each bucket as it was.
use Rattle.std.proofs.Common.{◌≡◌, ℕ, zero, suc, ◌+◌, ◌*◌, Bool, false, ◌||◌, List, [], ◌∷◌, length, Option, None, refl, sym, ap, ◌∙◌, if◌then◌else◌}
use Rattle.bc_books.specs.Books.{Books, Put}
use Rattle.bc_books.specs.After as books
use Rattle.bc_books.specs.Index as index
use Rattle.bc_books.specs.Index.{Kind, dirties, if_dirty, if_points, names, touches}
use Rattle.bc_books.specs.Marks.{Mark, Dirtied, Metadata, Reclaimable, Unmarked, with_key}
use Rattle.bc_books.specs.Shelves.{Owner, Spent}
use Rattle.bc_begun.proofs.of_bc_machine.Buckets.{touched_round}
use Rattle.bc_begun.specs.bc_machine.Containers.{AreBucketsOf, pins_in, pins_of}
use Rattle.bc_begun.specs.bc_machine.declared.part.BucketsPart.{BucketsPart}
use Rattle.bc_places.specs.Stands.{StandFor}
use Rattle.bc_shares.specs.Shares.{use_of}
use Rattle.bc_whole.specs.State.{Opening}
use Rattle.bc_keyed.specs.Parts.{LawNowhere, PointNowhere}

points_off : (o : Option Kind) (b rest : Bool) → o ≡ None → rest ≡ false
    → (if_points o b || rest) ≡ false
points_off o b rest none off =
    ap (λ (k : Option Kind). if_points k b || rest) none ∙ off

dirty_off : (o : Option Kind) (b rest : Bool) → o ≡ None → rest ≡ false
    → (if_dirty o b || rest) ≡ false
dirty_off o b rest none off = ap (λ (k : Option Kind). if_dirty k b || rest) none ∙ off

pub names_none : (keys : List index.Key) → PointNowhere keys → (t : ℕ) → names keys t ≡ false
names_none [] none t = refl
names_none (k ∷ ks) none t = points_off k.kind _ (names ks t) none.0 (names_none ks none.1 t)

dirties_none : (bucket : ℕ → ℕ) (keys : List index.Key) → PointNowhere keys → (b : ℕ)
    → dirties bucket keys b ≡ false
dirties_none bucket [] none b = refl
dirties_none bucket (k ∷ ks) none b =
    dirty_off k.kind _ (dirties bucket ks b) none.0 (dirties_none bucket ks none.1 b)

touches_none : (bucket : ℕ → ℕ) (keys : List index.Key) → PointNowhere keys → (b : ℕ)
    → touches bucket keys b ≡ false
touches_none bucket [] none b = refl
touches_none bucket (k ∷ ks) none b =
    points_off k.kind _ (touches bucket ks b) none.0 (touches_none bucket ks none.1 b)

same_mark : (m : Mark) → with_key false false m ≡ m
same_mark Unmarked = refl
same_mark Reclaimable = refl
same_mark Dirtied = refl
same_mark Metadata = refl

pins_same : (a b : ℕ → Owner) → ((t : ℕ) → b t ≡ a t) → (place n : ℕ)
    → pins_in b place n ≡ pins_in a place n
pins_same a b same place zero = refl
pins_same a b same place (suc n) =
    ap (λ (o : Owner). pins_of (use_of o) + pins_in b place n) (same (place + n))
    ∙ ap (λ m. pins_of (use_of (a (place + n))) + m) (pins_same a b same place n)

module _ (w : Opening) (k : Books) (p : BucketsPart) (leaf : ℕ) (keys : List index.Key)
    (none : PointNowhere keys) (h : AreBucketsOf w k p) where
  abbrev after : Books
  after = books.after w.flow.books k (Put leaf keys)

  owner_same : (t : ℕ) → after.owner t ≡ k.owner t
  owner_same t = ap (λ b. if b then Spent else k.owner t) (names_none keys none t)

  mark_same : (q : ℕ) → after.mark q ≡ k.mark q
  mark_same q =
      ap (λ b. with_key b (touches w.flow.books.bucket keys q) (k.mark q))
      (dirties_none w.flow.books.bucket keys none q)
      ∙ ap (λ b. with_key false b (k.mark q)) (touches_none w.flow.books.bucket keys none q)
      ∙ same_mark (k.mark q)

  places : StandFor w.before p.buckets.size p.fill p.reserves after
  places = record {
    opens = record {
      buckets = h.places.opens.buckets;
      free = λ t free. owner_same t ∙ h.places.opens.free t free;
      given = λ j t listed low high fresh.
          h.places.opens.given j t listed low high (sym (owner_same t) ∙ fresh);
    };
    lists = record { lists = h.places.lists.lists; raised = h.places.lists.raised };
  }

  pub stands : AreBucketsOf w after p
  stands = record {
    cut = h.cut;
    data_from = h.data_from;
    records = λ q low. (let r = h.records q low in record {
      generation = r.generation;
      uses = r.uses;
      last_gc = r.last_gc;
      mark = r.mark ∙ sym (mark_same q);
      pins = r.pins ∙ sym (pins_same k.owner after.owner owner_same
          ((w.before + q) * p.buckets.size) p.buckets.size);
      held = r.held;
    });
    places = places;
    outside = h.outside;
    room = h.room;
    chain = h.chain;
    round = touched_round w.flow.books w.before k.round p.round after.round.touched
        (length p.buckets.records) p.buckets.touched p.buckets.touched h.round.each
        (λ q inside. h.round.touches q inside ∙ sym (ap (λ b. b || k.round.touched q)
        (touches_none w.flow.books.bucket keys none q))) h.round;
  }

pub law_nowhere : LawNowhere
law_nowhere w k p leaf keys none h = stands w k p leaf keys none h
