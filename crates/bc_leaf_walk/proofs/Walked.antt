-- A leaf in hand that was counted is walked in the buckets in hand.
use Rattle.std.proofs.Common.{◌≡◌, inl, inr, ℕ, ◌+◌, ◌*◌, ◌^◌, ◌<◌, ◌≤◌, true, false, length, Some, refl, sym, ap, ◌∙◌, arith}
use Rattle.std.specs.Prelude.{◌==◌}
use Rattle.std.proofs.lemmas.Bool.{cases_lt}
use Rattle.bc_books.specs.Books.{Books}
use Rattle.bc_books.specs.Index.{Clean, Dirty, Kind, Pointer, is_dirty, latest}
use Rattle.bc_books.specs.Invariant.{IsInOrder}
use Rattle.bc_events.specs.Run.{State}
use Rattle.bc_leaf_walk.proofs.Exact.{exact}
use Rattle.bc_leaf_walk.proofs.Keyed.{IsList, keys_stand}
use Rattle.bc_leaf_walk.proofs.Sights.{Ground, between, by_between, up_first, up_last}
use Rattle.bc_leaf_walk.specs.Pieces.{HasCounted}
use Rattle.bc_looks.proofs.Law.{law_ages, law_keys, law_live, law_slots}
use Rattle.bc_mark.proofs.of_bc_place.Parts.{order_course}
use Rattle.bc_mark.specs.bc_machine.Containers.{AreBucketsOf, IsLeafFor}
use Rattle.bc_mark.specs.bc_machine.World.{IsCourseOf, IsOrigin, Origin, World, replay}
use Rattle.bc_mark.specs.bc_machine.declared.part.BucketsPart.{BucketsPart}
use Rattle.bc_mark.specs.bc_rounds.Rounds.{HasWalked}
use Rattle.bc_mark.specs.bc_rounds.Rows.{IsNear, sight_of}
use Rattle.bc_meta.proofs.Lists.{by_test}
use Rattle.bc_node.specs.Leaf.{AreProperKeys, Leaf}
use Rattle.bc_shares.specs.Shares.{books_of, leaf_share}
use Rattle.bc_whole.specs.State as whole

dirty_kind : (k : Kind) → is_dirty k ≡ true → k ≡ Dirty
dirty_kind Clean is = absurd (cc)
dirty_kind Dirty is = refl

module _ (x : World) (o : Origin) (is : IsOrigin x o) (course : IsCourseOf o x.log)
    (p : BucketsPart) (h : AreBucketsOf o.opening.machine (books_of (replay o x.log).machine) p)
    (going : p.round.going ≡ true) where
  abbrev w : whole.Opening
  w = o.opening.machine

  abbrev st : State
  st = replay o x.log

  abbrev k : Books
  k = books_of st.machine

  order : IsInOrder w.flow.books k
  order = order_course o is.sound x.log course

  some_size : 0 < w.layout.bucket_sectors
  some_size = let sized = p.sized in let same = h.cut.sectors in omega (arith, sized, same)

  in_bucket : (q t : ℕ) → q < w.layout.buckets → (w.before + q) * p.buckets.size ≤ t
      → t < (w.before + q) * p.buckets.size + p.buckets.size → w.flow.books.bucket t ≡ q
  in_bucket q t inside low high =
      let first = h.cut.first q in
      let size = h.cut.sectors in
      is.sound.laid.sector q t inside (omega (arith, first, low)) (omega (arith, first, size, high))

  in_front : (t : ℕ) → 0 < w.layout.buckets → t < w.before * p.buckets.size
      → w.flow.books.bucket t ≡ 0
  in_front t some less =
      let first = h.cut.first 0 ∙ ap (λ n. n * p.buckets.size)
      (let same : w.before + 0 ≡ w.before = omega arith in same) in
      let size = some_size in
      let zero_is = is.sound.laid.sector 0 (w.layout.first 0) some (omega arith)
      (omega (arith, size)) in
      let low = is.order t (w.layout.first 0) (omega (arith, first, less)) in
      omega (arith, low, zero_is)

  in_later : (q t : ℕ) → q < w.layout.buckets
      → (w.before + q) * p.buckets.size + p.buckets.size ≤ t → q < w.flow.books.bucket t
  in_later q t inside far =
      let first = h.cut.first q in
      let size = h.cut.sectors in
      is.ends some_size q t (omega (arith, first, size, far))

  -- what was seen was no newer than its bucket, and within the window
  near_seen : (s : ℕ) (r : Pointer) → k.round.seen s ≡ Some r
      → IsNear (k.generations.version (w.flow.books.bucket r.place)) r.version
  near_seen s r saw =
      let on = h.round.going ∙ going in
      let low = order.within.low s r saw on in
      let high = order.within.high s r saw on in
      let window = order.dated.window (w.flow.books.bucket r.place) in
      record { past = high; near = omega (arith, low, window) }

  module _ (from : ℕ) (next : p.round.next ≡ from) where
    ground : Ground w.flow.books w.before p.buckets.size w.layout.buckets from p.buckets
        (latest k.index) k.generations.version (sight_of k.round)
    ground = record {
      size_is = refl;
      count = h.cut.buckets;
      sector = in_bucket;
      ahead = in_front;
      behind = in_later;
      near = λ s r at. (let old = law_ages x o is course s r at in
          record { past = old.past; near = old.near });
      dirty = λ s r at dirty. (law_live x o is course s r at).dirty (dirty_kind r.kind dirty);
      inside = λ s r at. (order.known.keys k.index.count s
          (let low = order.counted.durable in let high = order.counted.sealed in
          omega (arith, low, high)) r at).inside;
      own = λ q inside. (h.records q inside).generation;
      seen_near = near_seen;
      unseen = λ s low. h.round.unseen s (omega (arith, next, low));
    }

  module _ (n : ℕ) (few : n < 2 ^ 32) (leaf : Leaf)
      (its : IsLeafFor w (leaf_share st.machine.whole.parts n) leaf)
      (proper : AreProperKeys leaf.from leaf.end leaf.keys) (more : leaf.from ≤ leaf.end)
      (next : p.round.next ≡ leaf.from) (q : BucketsPart) (counted : HasCounted w.before leaf p q) where
    in_leaf : (s : ℕ) → leaf.from ≤ s → s < leaf.end → k.index.leaf s ≡ n
    in_leaf s low high =
        let first = its.at.first in
        let end = its.at.end_is in
        law_slots x o is course n s its.at.role (omega (arith, first, low), omega (arith, end, high))

    of_leaf : (s : ℕ) → k.index.leaf s ≡ n → (leaf.from ≤ s) × (s < leaf.end)
    of_leaf s at =
        let inside = exact x o is course n s few its.at.role at in
        let first = its.at.first in
        let end = its.at.end_is in
        let low = inside.0 in
        let high = inside.1 in (omega (arith, first, low), omega (arith, end, high))

    same_test : (s : ℕ) → (k.index.leaf s == n) ≡ between leaf.from leaf.end s
    same_test s = by_between leaf.from leaf.end s (λ t. (k.index.leaf s == n) ≡ t)
        (λ low high. by_test (k.index.leaf s) n (λ t. t ≡ true) (λ _. refl)
        (λ ne. absurd (ne (in_leaf s low high))))
        (λ out. by_test (k.index.leaf s) n (λ t. t ≡ false)
        (λ at. absurd (let inside = of_leaf s at in
        let low = inside.0 in let high = inside.1 in elim out [
          | inl less ↦ omega (arith, less, low)
          | inr far ↦ omega (arith, far, high)
        ])) (λ _. refl))

    list : IsList (latest k.index) leaf.from leaf.end leaf.keys
    list = record {
      more = more;
      ranges = proper.order.0;
      order = proper.order.1;
      from = λ i d lt. (proper.within i d lt).0;
      to = λ i d lt. (proper.within i d lt).1;
      said = λ s low high. (let first = its.at.first in
          let end = its.at.end_is in
          sym (law_keys x o is course n s its.at.role
          (omega (arith, first, low), omega (arith, end, high))) ∙ sym (its.keys s low high));
    }

    pub has_walked : HasWalked w k n leaf.end p q
    has_walked =
        let all = keys_stand w.flow.books w.before p.buckets.size w.layout.buckets leaf.from p.buckets
        (latest k.index) k.generations.version (sight_of k.round) (ground leaf.from next) leaf.keys
        leaf.from leaf.end p.round.walk q.round.walk list (omega arith) counted.walk h.round.long
        (up_first w.flow.books w.before p.buckets.size w.layout.buckets leaf.from p.buckets
        (latest k.index) k.generations.version (sight_of k.round) (ground leaf.from next)
        (length p.buckets.records) p.round.walk h.round.found) in record {
          beside = counted.beside;
          buckets = counted.buckets;
          going = counted.going;
          next = counted.next;
          more = omega (arith, next, more);
          its = λ s high. elim (cases_lt s p.round.next) [
            | inl low ↦ inl low
            | inr from ↦ inr (in_leaf s (omega (arith, from, next)) high)
          ];
          others = λ s far at. (let inside = of_leaf s at in let high = inside.1 in
              omega (arith, far, high));
          long = all.1 ∙ sym h.round.long;
          found = up_last w.flow.books w.before p.buckets.size w.layout.buckets leaf.from p.buckets
              (latest k.index) k.generations.version (sight_of k.round) (ground leaf.from next)
              (length p.buckets.records) leaf.end (λ s. k.index.leaf s == n) q.round.walk same_test
              all.0;
        }
