-- The buckets in memory stand for the books behind each step of an install.
use Rattle.std.proofs.Common.{◌≡◌, ◌≢◌, inl, inr, ℕ, ◌+◌, ◌*◌, ◌<◌, Bool, true, false, List, length, refl, sym, ap, ◌∙◌, subst, arith}
use Rattle.std.specs.Prelude.{◌==◌, ◌&&◌, ◌||◌, if◌then◌else◌, slice_index_or, slice_set}
use Rattle.std.proofs.lemmas.List.{get_or-set_other, get_or-set_same, length-set}
use Rattle.bc_alloc.proofs.Fits.{other_stays, this_changes}
use Rattle.bc_alloc.specs.Reserves.{Reserves, list_of}
use Rattle.bc_alloc.specs.declared.purpose.Purpose.{Purpose}
use Rattle.bc_alloc.specs.declared.purpose.Purpose.TheVariants as lists
use Rattle.bc_books.specs.After.{after}
use Rattle.bc_books.specs.Books.{Books, DropNode, MakeNode, Regroup}
use Rattle.bc_books.specs.Index.{latest, put}
use Rattle.bc_books.specs.Marks.{Unmarked, any, points_into}
use Rattle.bc_books.specs.Marks as books
use Rattle.bc_books.specs.Shelves as books_
use Rattle.bc_books.specs.Shelves.{Held, Listed, Loose, Open, Raised, Shelf, Tree}
use Rattle.bc_bucket.specs.Bucket.{marked}
use Rattle.bc_bucket.specs.Buckets.{Buckets, bucket_of, changed}
use Rattle.bc_bucket.specs.declared.bucket.Bucket.{Bucket}
use Rattle.bc_bucket.specs.declared.bucket.Mark.TheVariants as marks
use Rattle.bc_events.specs.Acts.{purpose_of}
use Rattle.bc_fill.specs.declared.fill.Open as fill
use Rattle.bc_looks.proofs.of_bc_machine.Buckets.{chain_stays, touched_round}
use Rattle.bc_looks.specs.bc_machine.Containers.{AreBucketsOf, IsBucketFor, IsChainOf, IsRoundOf, is_held, mark_of, pins_in}
use Rattle.bc_looks.specs.bc_machine.declared.part.BucketsPart.{BucketsPart}
use Rattle.bc_looks.specs.bc_machine.declared.part.Tracing.{Tracing}
use Rattle.bc_meta.proofs.Lists.{by_test, decide}
use Rattle.bc_places.specs.Stands.{AreJust, IsCutInto, StandFor}
use Rattle.bc_shares.specs.Shares.{buckets_in}
use Rattle.bc_whole.specs.State.{Opening}
use Rattle.bc_grouped.specs.Grouped.{HasMade, HasRegrouped, HasUnmade, LawMade, LawRegrouped, LawUnmade, SameLists, made_at, unmade_at, with_node}

-- ---- one number of many

here : {A : Type 0} (f : ℕ → A) (b : ℕ) (v : A) (q : ℕ) → q ≡ b → put f b v q ≡ v
here f b v q is = by_test q b (λ t. (if t then v else f q) ≡ v) (λ _. refl)
    (λ ne. absurd (ne is))

other : {A : Type 0} (f : ℕ → A) (b : ℕ) (v : A) (q : ℕ) → q ≢ b → put f b v q ≡ f q
other f b v q ne = by_test q b (λ t. (if t then v else f q) ≡ f q) (λ is. absurd (ne is))
    (λ _. refl)

-- ---- a part whose buckets alone changed

module _ (w : Opening) (k new : Books) (p q : BucketsPart) (same : SameLists p q)
    (h : AreBucketsOf w k p) where
  room_stays : (list_of lists.Priorities q.reserves).room ≡ w.flow.books.sets
  room_stays = ap (λ (r : Reserves). (list_of lists.Priorities r).room) same.reserves ∙ h.room

  places_stay : (size : ℕ) → StandFor w.before size p.fill p.reserves new
      → StandFor w.before size q.fill q.reserves new
  places_stay size stand =
      subst (λ (fs : List fill.Open). StandFor w.before size fs q.reserves new) (sym same.fill)
      (subst (λ (r : Reserves). StandFor w.before size p.fill r new) (sym same.reserves) stand)

  module _ (b : Buckets) (is : q.buckets ≡ b) (size : b.size ≡ p.buckets.size)
      (data_from : b.data_from ≡ p.buckets.data_from)
      (long : length b.records ≡ length p.buckets.records) where
    pub stands : ((j : ℕ) → w.before + j < length b.records
        → IsBucketFor (w.flow.books.version j) j (buckets_in new)
        (pins_in new.owner ((w.before + j) * b.size) b.size) (bucket_of b (w.before + j)))
        → StandFor w.before p.buckets.size p.fill p.reserves new
        → ((n : ℕ) → n < w.before → (bucket_of b n).mark ≡ marks.Metadata)
        → new.chains ≡ k.chains
        → IsRoundOf w.flow.books w.before (length p.buckets.records) new.round b.touched p.round
        → AreBucketsOf w new q
    stands records places outside chains round = record {
      cut = subst (λ (x : Buckets). IsCutInto x.size (length x.records) w) (sym is)
          (subst (λ n. IsCutInto b.size n w) (sym long)
          (subst (λ n. IsCutInto n (length p.buckets.records) w) (sym size) h.cut));
      data_from = ap (λ (x : Buckets). x.data_from) is ∙ data_from ∙ h.data_from;
      records = subst (λ (x : Buckets). (j : ℕ) → w.before + j < length x.records
          → IsBucketFor (w.flow.books.version j) j (buckets_in new)
          (pins_in new.owner ((w.before + j) * x.size) x.size) (bucket_of x (w.before + j)))
          (sym is) records;
      places = subst (λ (x : Buckets). StandFor w.before x.size q.fill q.reserves new) (sym is)
          (subst (λ n. StandFor w.before n q.fill q.reserves new) (sym size)
          (places_stay p.buckets.size places));
      outside = λ n less. ap (λ (x : Buckets). (bucket_of x n).mark) is ∙ outside n less;
      room = room_stays;
      chain = subst (λ c. IsChainOf w.before w.flow.books.sets c.of c.ready c.sealed q.chain.items
          q.renewing) (sym chains)
          (chain_stays w.before w.flow.books.sets k.chains.of k.chains.ready k.chains.sealed p q
          same.rest h.chain);
      round = subst (λ (x : Buckets). IsRoundOf w.flow.books w.before (length x.records) new.round
          x.touched q.round) (sym is)
          (subst (λ (t : Tracing). IsRoundOf w.flow.books w.before (length b.records) new.round
          b.touched t) (sym same.rest.round)
          (subst (λ n. IsRoundOf w.flow.books w.before n new.round b.touched p.round) (sym long)
          round));
    }

-- ---- a node comes

from_held : (i : ℕ) (s t : Shelf) → s ≡ Held i Tree → s ≡ t → (t ≡ Held i Tree → ⊥) → ⊥
from_held i s t held is never = never (sym is ∙ held)

-- of buckets that stand as no held one and no loose one does, all are as before
module _ (shelf : ℕ → Shelf) (i b : ℕ) (held : shelf b ≡ Held i Tree) (s : Shelf)
    (no_held : s ≡ Held i Tree → ⊥) (no_loose : Loose ≡ s → ⊥) where
  was_so : (q : ℕ) → put shelf b Loose q ≡ s → shelf q ≡ s
  was_so q is = elim (decide q b) [
    | inl at ↦ absurd (no_loose (sym (here shelf b Loose q at) ∙ is))
    | inr ne ↦ sym (other shelf b Loose q ne) ∙ is
  ]

  is_so : (q : ℕ) → shelf q ≡ s → put shelf b Loose q ≡ s
  is_so q is = elim (decide q b) [
    | inl at ↦ absurd (no_held (sym is ∙ ap shelf at ∙ held))
    | inr ne ↦ other shelf b Loose q ne ∙ is
  ]

  just_so : (before : ℕ) (ks : List ℕ) → AreJust before ks (λ q. shelf q ≡ s)
      → AreJust before ks (λ q. put shelf b Loose q ≡ s)
  just_so before ks just = record {
    behind = just.behind;
    each = λ q some. is_so q (just.each q some);
    all = λ q is. just.all q (was_so q is);
  }

open_held : (i : ℕ) → Open ≡ Held i Tree → ⊥
open_held i e = cc

loose_open : Loose ≡ Open → ⊥
loose_open e = cc

raised_held : (i : ℕ) → Raised ≡ Held i Tree → ⊥
raised_held i e = cc

loose_raised : Loose ≡ Raised → ⊥
loose_raised e = cc

listed_held : (i : ℕ) (p : books_.Purpose) → Listed p ≡ Held i Tree → ⊥
listed_held i p e = cc

loose_listed : (p : books_.Purpose) → Loose ≡ Listed p → ⊥
loose_listed p e = cc

set_here : (xs : List Bool) (n : ℕ) → n < length xs
    → slice_index_or (slice_set xs n true) n false ≡ true
set_here xs n in_ = get_or-set_same xs n true false in_

module _ (w : Opening) (k : Books) (i b used : ℕ) (p q : BucketsPart) (h : AreBucketsOf w k p)
    (held : k.shelf b ≡ Held i Tree) (in_ : w.before + b < length p.buckets.records)
    (on : HasMade used (w.before + b) p q) where
  abbrev new : Books
  new = after w.flow.books k (MakeNode i b)

  abbrev old : Buckets
  old = p.buckets

  abbrev n : ℕ
  n = w.before + b

  long : length (made_at used n old).records ≡ length old.records
  long = length-set old.records n (with_node used (bucket_of old n))

  at_it : bucket_of (made_at used n old) n ≡ with_node used (bucket_of old n)
  at_it = this_changes (with_node used) n old in_

  made_record : (j : ℕ) → w.before + j < length (made_at used n old).records
      → IsBucketFor (w.flow.books.version j) j (buckets_in new)
      (pins_in new.owner ((w.before + j) * old.size) old.size)
      (bucket_of (made_at used n old) (w.before + j))
  made_record j inside =
      let was = h.records j (subst (λ m. w.before + j < m) long inside) in
      elim (decide j b) [
        | inl at ↦ (
            let now : bucket_of (made_at used n old) (w.before + j)
            ≡ with_node used (bucket_of old (w.before + j)) =
            subst (λ m. bucket_of (made_at used n old) (w.before + m)
            ≡ with_node used (bucket_of old (w.before + m))) (sym at) at_it in record {
              generation = ap (λ (x : Bucket). x.generation) now ∙ was.generation;
              uses = was.uses ∙ ap (λ (x : Bucket). w.flow.books.version j + x.uses) (sym now);
              last_gc = ap (λ (x : Bucket). x.last_gc) now ∙ was.last_gc;
              mark = ap (λ (x : Bucket). mark_of x.mark) now
                  ∙ sym (here k.mark b books.Metadata j at);
              pins = ap (λ (x : Bucket). x.pins) now ∙ was.pins;
              held = ap (λ (x : Bucket). x.held) now
                  ∙ ap is_held (sym (here k.shelf b Loose j at));
            })
        | inr ne ↦ (
            let now : bucket_of (made_at used n old) (w.before + j) ≡ bucket_of old (w.before + j) =
            other_stays (with_node used) n old (w.before + j) (λ e. ne (omega (arith, e))) in record {
              generation = ap (λ (x : Bucket). x.generation) now ∙ was.generation;
              uses = was.uses ∙ ap (λ (x : Bucket). w.flow.books.version j + x.uses) (sym now);
              last_gc = ap (λ (x : Bucket). x.last_gc) now ∙ was.last_gc;
              mark = ap (λ (x : Bucket). mark_of x.mark) now ∙ was.mark
                  ∙ sym (other k.mark b books.Metadata j ne);
              pins = ap (λ (x : Bucket). x.pins) now ∙ was.pins;
              held = ap (λ (x : Bucket). x.held) now ∙ was.held
                  ∙ ap is_held (sym (other k.shelf b Loose j ne));
            })
      ]

  made_places : StandFor w.before old.size p.fill p.reserves new
  made_places = record {
    opens = record {
      buckets = just_so k.shelf i b held Open (open_held i) loose_open w.before _
          h.places.opens.buckets;
      free = h.places.opens.free;
      given = h.places.opens.given;
    };
    lists = record {
      lists = λ x. just_so k.shelf i b held (Listed (purpose_of x)) (listed_held i (purpose_of x))
          (loose_listed (purpose_of x)) w.before _ (h.places.lists.lists x);
      raised = just_so k.shelf i b held Raised (raised_held i) loose_raised w.before _
          h.places.lists.raised;
    };
  }

  made_touches : (j : ℕ) → w.before + j < length old.records
      → slice_index_or (made_at used n old).touched (w.before + j) false
      ≡ (j == b) || k.round.touched j
  made_touches j inside = by_test j b
      (λ t. slice_index_or (slice_set old.touched n true) (w.before + j) false
      ≡ t || k.round.touched j)
      (λ at. subst (λ m. slice_index_or (slice_set old.touched n true) (w.before + m) false ≡ true)
      (sym at) (set_here old.touched n (subst (λ m. n < m) (sym h.round.each) in_)))
      (λ ne. get_or-set_other old.touched n (w.before + j) true false (λ e. ne (omega (arith, e)))
      ∙ h.round.touches j inside)

  pub made_stands : AreBucketsOf w new q
  made_stands = stands w k new p q on.beside h (made_at used n old) on.buckets refl refl long
      made_record made_places
      (λ m less. ap (λ (x : Bucket). x.mark) (other_stays (with_node used) n old m
      (λ e. omega (arith, e, less))) ∙ h.outside m less) refl
      (touched_round w.flow.books w.before k.round p.round (λ j. (j == b) || k.round.touched j)
      (length old.records) old.touched (slice_set old.touched n true)
      (length-set old.touched n true ∙ h.round.each) made_touches h.round)

pub law_made : LawMade
law_made w k i b used p q h held in_ on = made_stands w k i b used p q h held in_ on

-- ---- a node goes

module _ (w : Opening) (k : Books) (b : ℕ) (p q : BucketsPart) (h : AreBucketsOf w k p)
    (in_ : w.before + b < length p.buckets.records) (on : HasUnmade (w.before + b) p q) where
  abbrev new_ : Books
  new_ = after w.flow.books k (DropNode b)

  abbrev old_ : Buckets
  old_ = p.buckets

  abbrev n_ : ℕ
  n_ = w.before + b

  long_ : length (unmade_at n_ old_).records ≡ length old_.records
  long_ = length-set old_.records n_ (marked marks.None 0 (bucket_of old_ n_))

  at_it_ : bucket_of (unmade_at n_ old_) n_ ≡ marked marks.None 0 (bucket_of old_ n_)
  at_it_ = this_changes (marked marks.None 0) n_ old_ in_

  unmade_record : (j : ℕ) → w.before + j < length (unmade_at n_ old_).records
      → IsBucketFor (w.flow.books.version j) j (buckets_in new_)
      (pins_in new_.owner ((w.before + j) * old_.size) old_.size)
      (bucket_of (unmade_at n_ old_) (w.before + j))
  unmade_record j inside =
      let was = h.records j (subst (λ m. w.before + j < m) long_ inside) in
      elim (decide j b) [
        | inl at ↦ (
            let now : bucket_of (unmade_at n_ old_) (w.before + j)
            ≡ marked marks.None 0 (bucket_of old_ (w.before + j)) =
            subst (λ m. bucket_of (unmade_at n_ old_) (w.before + m)
            ≡ marked marks.None 0 (bucket_of old_ (w.before + m))) (sym at) at_it_ in record {
              generation = ap (λ (x : Bucket). x.generation) now ∙ was.generation;
              uses = was.uses ∙ ap (λ (x : Bucket). w.flow.books.version j + x.uses) (sym now);
              last_gc = ap (λ (x : Bucket). x.last_gc) now ∙ was.last_gc;
              mark = ap (λ (x : Bucket). mark_of x.mark) now ∙ sym (here k.mark b Unmarked j at);
              pins = ap (λ (x : Bucket). x.pins) now ∙ was.pins;
              held = ap (λ (x : Bucket). x.held) now ∙ was.held;
            })
        | inr ne ↦ (
            let now : bucket_of (unmade_at n_ old_) (w.before + j) ≡ bucket_of old_ (w.before + j) =
            other_stays (marked marks.None 0) n_ old_ (w.before + j) (λ e. ne (omega (arith, e)))
            in record {
              generation = ap (λ (x : Bucket). x.generation) now ∙ was.generation;
              uses = was.uses ∙ ap (λ (x : Bucket). w.flow.books.version j + x.uses) (sym now);
              last_gc = ap (λ (x : Bucket). x.last_gc) now ∙ was.last_gc;
              mark = ap (λ (x : Bucket). mark_of x.mark) now ∙ was.mark
                  ∙ sym (other k.mark b Unmarked j ne);
              pins = ap (λ (x : Bucket). x.pins) now ∙ was.pins;
              held = ap (λ (x : Bucket). x.held) now ∙ was.held;
            })
      ]

  unmade_places : StandFor w.before old_.size p.fill p.reserves new_
  unmade_places = record {
    opens = record {
      buckets = h.places.opens.buckets;
      free = h.places.opens.free;
      given = h.places.opens.given;
    };
    lists = record { lists = h.places.lists.lists; raised = h.places.lists.raised };
  }

  pub unmade_stands : AreBucketsOf w new_ q
  unmade_stands = stands w k new_ p q on.beside h (unmade_at n_ old_) on.buckets refl refl long_
      unmade_record unmade_places
      (λ m less. ap (λ (x : Bucket). x.mark) (other_stays (marked marks.None 0) n_ old_ m
      (λ e. omega (arith, e, less))) ∙ h.outside m less) refl h.round

pub law_unmade : LawUnmade
law_unmade w k b p q h in_ on = unmade_stands w k b p q h in_ on

-- ---- leaves come

module _ (w : Opening) (k : Books) (leaf change : ℕ → ℕ) (counts : ℕ → Bool) (last : ℕ)
    (p q : BucketsPart) (h : AreBucketsOf w k p) (on : HasRegrouped w k counts p q) where
  abbrev after_ : Books
  after_ = after w.flow.books k (Regroup leaf change counts last)

  abbrev touched_ : ℕ → Bool
  touched_ b = any w.flow.books.size (λ s. counts s
      && points_into w.flow.books.bucket b (latest k.index s)) || k.round.touched b

  same_record : (j : ℕ) → w.before + j < length p.buckets.records
      → IsBucketFor (w.flow.books.version j) j (buckets_in after_)
      (pins_in after_.owner ((w.before + j) * p.buckets.size) p.buckets.size)
      (bucket_of p.buckets (w.before + j))
  same_record j inside = let was = h.records j inside in record {
    generation = was.generation;
    uses = was.uses;
    last_gc = was.last_gc;
    mark = was.mark;
    pins = was.pins;
    held = was.held;
  }

  same_places : StandFor w.before p.buckets.size p.fill p.reserves after_
  same_places = record {
    opens = record {
      buckets = h.places.opens.buckets;
      free = h.places.opens.free;
      given = h.places.opens.given;
    };
    lists = record { lists = h.places.lists.lists; raised = h.places.lists.raised };
  }

  more_walked : (a b : Bool) → b ≡ true → (a || b) ≡ true
  more_walked true b is = refl
  more_walked false b is = is

  round_after : IsRoundOf w.flow.books w.before (length p.buckets.records) after_.round
      q.buckets.touched p.round
  round_after = record {
    going = h.round.going;
    each = on.each ∙ h.round.each;
    touches = λ b inside. on.touches b inside
        ∙ ap (λ t. any w.flow.books.size (λ s. counts s
        && points_into w.flow.books.bucket b (latest k.index s)) || t) (h.round.touches b inside);
    walked = λ s less. more_walked (counts s) (k.round.walked s) (h.round.walked s less);
    unseen = h.round.unseen;
    long = h.round.long;
    found = h.round.found;
  }

  pub regrouped_stands : AreBucketsOf w after_ q
  regrouped_stands = stands w k after_ p q on.beside h
      (record p.buckets { touched = q.buckets.touched }) on.buckets refl refl refl same_record
      same_places h.outside refl round_after

pub law_regrouped : LawRegrouped
law_regrouped w k leaf change counts last p q h on =
    regrouped_stands w k leaf change counts last p q h on
