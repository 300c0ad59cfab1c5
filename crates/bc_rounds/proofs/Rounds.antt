-- The buckets in memory stand for the books behind each step of a round but a walk.
use Rattle.std.proofs.Common.{◌≡◌, ℕ, zero, suc, ◌+◌, ◌*◌, ◌<◌, ◌≤◌, ◌⊎◌, inl, inr, Bool, true, false, List, Option, None, Some, length, refl, sym, ap, ◌∙◌, subst, arith}
use Rattle.std.specs.Prelude.{Vec, ◌==◌, ◌||◌, if◌then◌else◌, replicate, slice_index_or}
use Rattle.std.specs.declared.alloc.Global.{Global}
use Rattle.std.proofs.lemmas.List.{get_or-replicate, length-replicate}
use Rattle.bc_alloc.specs.Reserves.{Reserves, list_of}
use Rattle.bc_alloc.specs.declared.purpose.Purpose.TheVariants as lists
use Rattle.bc_books.specs.After.{after}
use Rattle.bc_books.specs.Books.{Books, Setup, Begin, Walk, Drop, End}
use Rattle.bc_books.specs.Index.{Pointer, latest}
use Rattle.bc_books.specs.Invariant.{IsInOrder}
use Rattle.bc_books.specs.Marks.{any, mark_by}
use Rattle.bc_books.specs.Round.{Round, ended, started}
use Rattle.bc_bucket.specs.Bucket.{is_metadata}
use Rattle.bc_bucket.specs.Buckets.{Buckets, bucket_of, oldest_or, settled_unless}
use Rattle.bc_bucket.specs.Walk.{found_at, none_found}
use Rattle.bc_bucket.specs.declared.bucket.Bucket.{Bucket}
use Rattle.bc_bucket.specs.declared.bucket.Mark.TheVariants as marks
use Rattle.bc_bucket.specs.declared.walk.Found.{Found}
use Rattle.bc_fill.specs.declared.fill.Open.{Open}
use Rattle.bc_machine.specs.Containers.{AreBucketsOf, IsBucketFor, IsChainOf, IsFoundFor, IsRoundOf, pins_in}
use Rattle.bc_machine.specs.declared.part.BucketsPart.{BucketsPart}
use Rattle.bc_machine.specs.declared.part.Tracing.{Tracing}
use Rattle.bc_model.proofs.Cases.{by_test}
use Rattle.bc_places.specs.Stands.{IsCutInto, StandFor}
use Rattle.bc_shares.specs.Shares.{buckets_in}
use Rattle.bc_whole.specs.State.{Opening}
use Rattle.bc_rounds.specs.Rounds.{HasBegun, HasDropped, HasEnded, HasWalked, LawBegun, LawDropped, LawEnded, LawWalked, SameBeside}
use Rattle.bc_rounds.proofs.Settled.{settled_stands}

-- ---- what no step of a round comes to

module _ (w : Opening) (p q : BucketsPart) (same : SameBeside p q) where
  room_stays : (list_of lists.Priorities p.reserves).room ≡ w.flow.books.sets
      → (list_of lists.Priorities q.reserves).room ≡ w.flow.books.sets
  room_stays h = ap (λ (r : Reserves). (list_of lists.Priorities r).room) same.reserves ∙ h

  chain_stays : (of : ℕ → Option ℕ) (ready sealed : ℕ)
      → IsChainOf w.before w.flow.books.sets of ready sealed p.chain.items p.renewing
      → IsChainOf w.before w.flow.books.sets of ready sealed q.chain.items q.renewing
  chain_stays of ready sealed h =
      subst (λ (b : Bool). IsChainOf w.before w.flow.books.sets of ready sealed q.chain.items b)
      (sym same.renewing)
      (subst (λ (c : Vec ℕ Global). IsChainOf w.before w.flow.books.sets of ready sealed c.items
      p.renewing) (sym same.chain) h)

  places_stay : (k : Books) (size : ℕ) → StandFor w.before size p.fill p.reserves k
      → StandFor w.before size q.fill q.reserves k
  places_stay k size h =
      subst (λ (fs : List Open). StandFor w.before size fs q.reserves k) (sym same.fill)
      (subst (λ (r : Reserves). StandFor w.before size p.fill r k) (sym same.reserves) h)

-- ---- the beginning

none_of : (n : ℕ) → any n (λ s. false) ≡ false
none_of zero = refl
none_of (suc n) = none_of n

none_some : (r : Pointer) → None ≡ Some r → ⊥
none_some r e = cc

nothing_found : (w : Setup) (q : ℕ) → IsFoundFor w (λ s. None) (λ s. false) q none_found
nothing_found w q = record {
  mark = sym (ap (λ b. mark_by b (any w.size (λ s. false))) (none_of w.size)
      ∙ ap (λ b. mark_by false b) (none_of w.size));
  oldest = λ s r seen. none_some r seen.saw;
}

cleared : (w : Setup) (before count n : ℕ) → n ≡ count
    → IsRoundOf w before count started (replicate count false)
    (record { walk = replicate n none_found; going = true; next = 0 })
cleared w before count n same = record {
  going = refl;
  each = length-replicate count false;
  touches = λ q inside. get_or-replicate count (before + q) false false inside;
  walked = λ s less. absurd (omega (arith, less));
  unseen = λ s from. refl;
  long = length-replicate n none_found ∙ same;
  found = λ q inside. subst (IsFoundFor w (λ s. None) (λ s. false) q)
      (sym (get_or-replicate n (before + q) none_found none_found (omega (arith, inside, same))))
      (nothing_found w q);
}

module _ (w : Opening) (k : Books) (p q : BucketsPart) (h : AreBucketsOf w k p)
    (on : HasBegun p q) where
  abbrev begun : Books
  begun = after w.flow.books k Begin

  begun_record : (j : ℕ) → w.before + j < length p.buckets.records
      → IsBucketFor (w.flow.books.version j) j (buckets_in begun)
      (pins_in begun.owner ((w.before + j) * p.buckets.size) p.buckets.size)
      (bucket_of p.buckets (w.before + j))
  begun_record j inside = let was = h.records j inside in record {
    generation = was.generation;
    uses = was.uses;
    last_gc = was.last_gc;
    mark = was.mark;
    pins = was.pins;
    held = was.held;
  }

  begun_places : StandFor w.before p.buckets.size p.fill p.reserves begun
  begun_places = record {
    opens = record {
      buckets = h.places.opens.buckets;
      free = h.places.opens.free;
      given = h.places.opens.given;
    };
    lists = record { lists = h.places.lists.lists; raised = h.places.lists.raised };
  }

  abbrev calm : Buckets
  calm = record p.buckets { touched = replicate (length p.buckets.records) false }

  pub begins : AreBucketsOf w begun q
  begins = record {
    cut = subst (λ (b : Buckets). IsCutInto b.size (length b.records) w) (sym on.buckets) h.cut;
    data_from = ap (λ (b : Buckets). b.data_from) on.buckets ∙ h.data_from;
    records = subst (λ (b : Buckets). (j : ℕ) → w.before + j < length b.records
        → IsBucketFor (w.flow.books.version j) j (buckets_in begun)
        (pins_in begun.owner ((w.before + j) * b.size) b.size) (bucket_of b (w.before + j)))
        (sym on.buckets) begun_record;
    places = subst (λ (b : Buckets). StandFor w.before b.size q.fill q.reserves begun)
        (sym on.buckets) (places_stay w p q on.beside begun p.buckets.size begun_places);
    outside = λ n less. ap (λ (b : Buckets). (bucket_of b n).mark) on.buckets ∙ h.outside n less;
    room = room_stays w p q on.beside h.room;
    chain = chain_stays w p q on.beside k.chains.of k.chains.ready k.chains.sealed h.chain;
    round = subst (λ (t : Tracing). IsRoundOf w.flow.books w.before (length q.buckets.records)
        started q.buckets.touched t) (sym on.round)
        (subst (λ (b : Buckets). IsRoundOf w.flow.books w.before (length b.records) started
        b.touched (record {
          walk = replicate (length p.round.walk) none_found;
          going = true;
          next = 0;
        })) (sym on.buckets)
        (cleared w.flow.books w.before (length p.buckets.records) (length p.round.walk)
        h.round.long));
  }

pub law_begun : LawBegun
law_begun w k p q h on = begins w k p q h on

-- ---- a leaf that was walked

module _ (w : Opening) (k : Books) (leaf end : ℕ) (p q : BucketsPart) (h : AreBucketsOf w k p)
    (on : HasWalked w k leaf end p q) where
  abbrev walked_ : Books
  walked_ = after w.flow.books k (Walk leaf)

  walked_record : (j : ℕ) → w.before + j < length p.buckets.records
      → IsBucketFor (w.flow.books.version j) j (buckets_in walked_)
      (pins_in walked_.owner ((w.before + j) * p.buckets.size) p.buckets.size)
      (bucket_of p.buckets (w.before + j))
  walked_record j inside = let was = h.records j inside in record {
    generation = was.generation;
    uses = was.uses;
    last_gc = was.last_gc;
    mark = was.mark;
    pins = was.pins;
    held = was.held;
  }

  walked_places : StandFor w.before p.buckets.size p.fill p.reserves walked_
  walked_places = record {
    opens = record {
      buckets = h.places.opens.buckets;
      free = h.places.opens.free;
      given = h.places.opens.given;
    };
    lists = record { lists = h.places.lists.lists; raised = h.places.lists.raised };
  }

  -- what the round says of a sector, by whether it is of the leaf
  of_leaf : (s : ℕ) (old : Bool) → k.index.leaf s ≡ leaf → ((k.index.leaf s == leaf) || old) ≡ true
  of_leaf s old is = by_test (k.index.leaf s) leaf (λ c. (c || old) ≡ true) (λ _. refl)
      (λ ne. absurd (ne is))

  was_walked : (leaf_ : Bool) (s : ℕ) → k.round.walked s ≡ true
      → (leaf_ || k.round.walked s) ≡ true
  was_walked true s is = refl
  was_walked false s is = is

  below_then : (s : ℕ) → s < end → walked_.round.walked s ≡ true
  below_then s less = go (on.its s less)
    where
      go : (s < p.round.next) ⊎ (k.index.leaf s ≡ leaf) → walked_.round.walked s ≡ true
      go (inl low) = was_walked (k.index.leaf s == leaf) s (h.round.walked s low)
      go (inr its) = of_leaf s (k.round.walked s) its

  unseen_then : (s : ℕ) → end ≤ s → walked_.round.seen s ≡ None
  unseen_then s from = by_test (k.index.leaf s) leaf
      (λ c. (if c then latest k.index s else k.round.seen s) ≡ None)
      (λ is. absurd (on.others s from is))
      (λ _. h.round.unseen s (let more = on.more in omega (arith, more, from)))

  round_then : IsRoundOf w.flow.books w.before (length p.buckets.records) walked_.round
      p.buckets.touched q.round
  round_then = record {
    going = h.round.going ∙ sym on.going;
    each = h.round.each;
    touches = h.round.touches;
    walked = λ s less. below_then s (let next = on.next in omega (arith, less, next));
    unseen = λ s from. unseen_then s (let next = on.next in omega (arith, from, next));
    long = on.long ∙ h.round.long;
    found = on.found;
  }

  pub walks : AreBucketsOf w walked_ q
  walks = record {
    cut = subst (λ (b : Buckets). IsCutInto b.size (length b.records) w) (sym on.buckets) h.cut;
    data_from = ap (λ (b : Buckets). b.data_from) on.buckets ∙ h.data_from;
    records = subst (λ (b : Buckets). (j : ℕ) → w.before + j < length b.records
        → IsBucketFor (w.flow.books.version j) j (buckets_in walked_)
        (pins_in walked_.owner ((w.before + j) * b.size) b.size) (bucket_of b (w.before + j)))
        (sym on.buckets) walked_record;
    places = subst (λ (b : Buckets). StandFor w.before b.size q.fill q.reserves walked_)
        (sym on.buckets) (places_stay w p q on.beside walked_ p.buckets.size walked_places);
    outside = λ n less. ap (λ (b : Buckets). (bucket_of b n).mark) on.buckets ∙ h.outside n less;
    room = room_stays w p q on.beside h.room;
    chain = chain_stays w p q on.beside k.chains.of k.chains.ready k.chains.sealed h.chain;
    round = subst (λ (b : Buckets). IsRoundOf w.flow.books w.before (length b.records)
        walked_.round b.touched q.round) (sym on.buckets) round_then;
  }

pub law_walked : LawWalked
law_walked w k leaf end p q h on = walks w k leaf end p q h on

-- ---- a round that is over

-- what is said of one that goes on is said of it still
stopped : (w : Setup) (before count : ℕ) (x : Round) (touched : List Bool) (t : Tracing)
    → IsRoundOf w before count x touched t
    → IsRoundOf w before count (ended x) touched (record t { going = false })
stopped w before count x touched t h = record {
  going = refl;
  each = h.each;
  touches = h.touches;
  walked = h.walked;
  unseen = h.unseen;
  long = h.long;
  found = h.found;
}

module _ (w : Opening) (k : Books) (p q : BucketsPart) (h : AreBucketsOf w k p)
    (on : HasDropped p q) where
  abbrev dropped : Books
  dropped = after w.flow.books k Drop

  dropped_record : (j : ℕ) → w.before + j < length p.buckets.records
      → IsBucketFor (w.flow.books.version j) j (buckets_in dropped)
      (pins_in dropped.owner ((w.before + j) * p.buckets.size) p.buckets.size)
      (bucket_of p.buckets (w.before + j))
  dropped_record j inside = let was = h.records j inside in record {
    generation = was.generation;
    uses = was.uses;
    last_gc = was.last_gc;
    mark = was.mark;
    pins = was.pins;
    held = was.held;
  }

  dropped_places : StandFor w.before p.buckets.size p.fill p.reserves dropped
  dropped_places = record {
    opens = record {
      buckets = h.places.opens.buckets;
      free = h.places.opens.free;
      given = h.places.opens.given;
    };
    lists = record { lists = h.places.lists.lists; raised = h.places.lists.raised };
  }

  pub drops : AreBucketsOf w dropped q
  drops = record {
    cut = subst (λ (b : Buckets). IsCutInto b.size (length b.records) w) (sym on.buckets) h.cut;
    data_from = ap (λ (b : Buckets). b.data_from) on.buckets ∙ h.data_from;
    records = subst (λ (b : Buckets). (j : ℕ) → w.before + j < length b.records
        → IsBucketFor (w.flow.books.version j) j (buckets_in dropped)
        (pins_in dropped.owner ((w.before + j) * b.size) b.size) (bucket_of b (w.before + j)))
        (sym on.buckets) dropped_record;
    places = subst (λ (b : Buckets). StandFor w.before b.size q.fill q.reserves dropped)
        (sym on.buckets) (places_stay w p q on.beside dropped p.buckets.size dropped_places);
    outside = λ n less. ap (λ (b : Buckets). (bucket_of b n).mark) on.buckets ∙ h.outside n less;
    room = room_stays w p q on.beside h.room;
    chain = chain_stays w p q on.beside k.chains.of k.chains.ready k.chains.sealed h.chain;
    round = subst (λ (t : Tracing). IsRoundOf w.flow.books w.before (length q.buckets.records)
        (ended k.round) q.buckets.touched t) (sym on.round)
        (subst (λ (b : Buckets). IsRoundOf w.flow.books w.before (length b.records)
        (ended k.round) b.touched (record p.round { going = false })) (sym on.buckets)
        (stopped w.flow.books w.before (length p.buckets.records) k.round p.buckets.touched
        p.round h.round));
  }

pub law_dropped : LawDropped
law_dropped w k p q h on = drops w k p q h on

-- ---- the end

metadata_stays : (t : Bool) (f : Found) (b : Bucket) → b.mark ≡ marks.Metadata
    → (settled_unless t f b).mark ≡ marks.Metadata
metadata_stays true f b is = is
metadata_stays false f b is = ap (λ c. (if c then record b {
  last_gc = oldest_or b.generation f.last_gc;
} else record b {
  last_gc = oldest_or b.generation f.last_gc;
  mark = f.mark;
  used = f.used;
}).mark) (ap is_metadata is) ∙ is

module _ (w : Opening) (k : Books) (p q : BucketsPart) (order : IsInOrder w.flow.books k)
    (going : k.round.going ≡ true) (h : AreBucketsOf w k p) (on : HasEnded p q) where
  abbrev done : Books
  done = after w.flow.books k End

  count : length q.buckets.records ≡ length p.buckets.records
  count = on.settled.same_count

  size : q.buckets.size ≡ p.buckets.size
  size = on.settled.same_size

  done_record : (j : ℕ) → w.before + j < length p.buckets.records
      → IsBucketFor (w.flow.books.version j) j (buckets_in done)
      (pins_in done.owner ((w.before + j) * p.buckets.size) p.buckets.size)
      (bucket_of q.buckets (w.before + j))
  done_record j inside = subst (IsBucketFor (w.flow.books.version j) j (buckets_in done)
      (pins_in done.owner ((w.before + j) * p.buckets.size) p.buckets.size))
      (sym (on.settled.each (w.before + j) inside))
      (settled_stands w.flow.books k (w.flow.books.version j) j
      (pins_in k.owner ((w.before + j) * p.buckets.size) p.buckets.size)
      (found_at p.round.walk (w.before + j)) (bucket_of p.buckets (w.before + j))
      (h.records j inside) (h.round.found j inside)
      (λ s r seen. subst (λ n. r.version ≤ k.generations.version n) seen.bucket
      (order.within.high s r seen.saw going))
      (slice_index_or p.buckets.touched (w.before + j) false)
      (sym (h.round.touches j inside)))

  done_places : StandFor w.before p.buckets.size p.fill p.reserves done
  done_places = record {
    opens = record {
      buckets = h.places.opens.buckets;
      free = h.places.opens.free;
      given = h.places.opens.given;
    };
    lists = record { lists = h.places.lists.lists; raised = h.places.lists.raised };
  }

  pub ends : AreBucketsOf w done q
  ends = record {
    cut = subst (λ n. IsCutInto n (length q.buckets.records) w) (sym size)
        (subst (λ n. IsCutInto p.buckets.size n w) (sym count) h.cut);
    data_from = on.settled.same_data ∙ h.data_from;
    records = λ j inside. subst (λ n. IsBucketFor (w.flow.books.version j) j (buckets_in done)
        (pins_in done.owner ((w.before + j) * n) n) (bucket_of q.buckets (w.before + j)))
        (sym size) (done_record j (let all = count in omega (arith, inside, all)));
    places = subst (λ n. StandFor w.before n q.fill q.reserves done) (sym size)
        (places_stay w p q on.beside done p.buckets.size done_places);
    outside = λ n less. ap (λ (b : Bucket). b.mark) (on.settled.each n
        (let all = h.cut.buckets in omega (arith, less, all)))
        ∙ metadata_stays (slice_index_or p.buckets.touched n false) (found_at p.round.walk n)
        (bucket_of p.buckets n) (h.outside n less);
    room = room_stays w p q on.beside h.room;
    chain = chain_stays w p q on.beside k.chains.of k.chains.ready k.chains.sealed h.chain;
    round = subst (λ (t : Tracing). IsRoundOf w.flow.books w.before (length q.buckets.records)
        (ended k.round) q.buckets.touched t) (sym on.round)
        (subst (λ (l : List Bool). IsRoundOf w.flow.books w.before (length q.buckets.records)
        (ended k.round) l (record p.round { going = false })) (sym on.settled.same_touched)
        (subst (λ n. IsRoundOf w.flow.books w.before n (ended k.round) p.buckets.touched
        (record p.round { going = false })) (sym count)
        (stopped w.flow.books w.before (length p.buckets.records) k.round p.buckets.touched
        p.round h.round)));
  }

pub law_ended : LawEnded
law_ended w k p q order going h on = ends w k p q order going h on
