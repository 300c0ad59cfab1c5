-- The chain in hand may go, and the next one with it: what the containers have of them.
use Rattle.std.proofs.Common.{◌≡◌, inl, ℕ, suc, ◌+◌, ◌-◌, ◌<◌, ◌≤◌, Bool, true, false, List, length, Option, Some, None, refl, sym, ap, ◌∙◌, subst, arith}
use Rattle.std.specs.Prelude.{slice_index_or, sum_by, take, Vec}
use Rattle.std.specs.declared.alloc.Global.{Global}
use Rattle.bc_alloc.specs.Reserve.{Reserve, no_reserve, times}
use Rattle.bc_alloc.specs.Reserves.{Reserves, list_of, times_listed}
use Rattle.bc_alloc.specs.declared.purpose.Purpose.{Purpose}
use Rattle.bc_alloc.specs.declared.purpose.Purpose.TheVariants as list
use Rattle.bc_books.specs.Books.{Books}
use Rattle.bc_books.specs.Invariant.{IsInOrder}
use Rattle.bc_books.specs.Shelves.{Shelf, Held, Listed, Loose, Open, Priorities, Raised}
use Rattle.bc_bucket.specs.Buckets.{bucket_of}
use Rattle.bc_events.specs.Acts.{purpose_of}
use Rattle.bc_fill.specs.Fill.{bucket_numbers}
use Rattle.bc_machine.specs.Containers.{AreBucketsOf, is_held}
use Rattle.bc_machine.specs.World.{IsCourseOf, IsOrigin, Origin, World, replay}
use Rattle.bc_machine.specs.declared.part.BucketsPart.{BucketsPart}
use Rattle.bc_places.proofs.Lists.{counted, not_there, there}
use Rattle.bc_renew.proofs.Goes.{FourOf, four_of}
use Rattle.bc_renew.proofs.Parts.{order_course}
use Rattle.bc_renew.proofs.Put.{IsOff}
use Rattle.bc_renew.specs.Ready.{AreTaken, CanGo, MayReady}
use Rattle.bc_shares.specs.Shares.{books_of}
use Rattle.bc_whole.specs.State as whole

off : (b : Bool) → (b ≡ true → ⊥) → b ≡ false
off true wrong = absurd (wrong refl)
off false wrong = refl

none_some : (o : Option ℕ) (c : ℕ) → o ≡ None → o ≡ Some c → ⊥
none_some o c none some = cc

loose_off : (x : Shelf) → x ≡ Loose → IsOff x
loose_off x is = (λ e. absurd (cc), λ p e. absurd (cc))

loose_raised : (x : Shelf) → x ≡ Loose → x ≡ Raised → ⊥
loose_raised x is e = cc

held_off : (x : Shelf) (i : ℕ) → x ≡ Held i Priorities → IsOff x
held_off x i is = (λ e. absurd (cc), λ p e. absurd (cc))

held_raised : (x : Shelf) (i : ℕ) → x ≡ Held i Priorities → x ≡ Raised → ⊥
held_raised x i is e = cc

-- on none of the four lists, and not raised
no_list : (r : Reserves) (j : ℕ) → length r.lists ≡ 4
    → ((p : Purpose) → times j (list_of p r).buckets ≡ 0) → times j r.raised ≡ 0
    → times_listed r j ≡ 0
no_list r j four none raised = go (four_of r.lists four)
  where
    go : FourOf r.lists → times_listed r j ≡ 0
    go f = subst (λ (ls : List Reserve). times j (slice_index_or ls 0 no_reserve).buckets ≡ 0
        → times j (slice_index_or ls 1 no_reserve).buckets ≡ 0
        → times j (slice_index_or ls 2 no_reserve).buckets ≡ 0
        → times j (slice_index_or ls 3 no_reserve).buckets ≡ 0
        → sum_by (λ (l : Reserve). times j l.buckets) ls + times j r.raised ≡ 0) (sym f.are)
        (λ a b c d. omega (arith, a, b, c, d, raised)) (none list.Priorities) (none list.Moving)
        (none list.Tree) (none list.Plain)

module _ (x : World) (o : Origin) (is : IsOrigin x o) (on : IsCourseOf o x.log) (p : BucketsPart)
    (h : AreBucketsOf o.opening.machine (books_of (replay o x.log).machine) p) where
  abbrev w : whole.Opening
  w = o.opening.machine

  abbrev k : Books
  k = books_of (replay o x.log).machine

  order : IsInOrder w.flow.books k
  order = order_course o is.sound x.log on

  -- a bucket of a chain
  module _ (j c : ℕ) (low : w.before ≤ j) (of : k.chains.of (j - w.before) ≡ Some c) where
    unfixed : w.flow.books.fixed (j - w.before) ≡ false
    unfixed = off (w.flow.books.fixed (j - w.before)) (λ fixed. none_some
        (k.chains.of (j - w.before)) c (order.marked.no_chain (j - w.before) (inl fixed)) of)

    -- is one of the device
    inside : j < length p.buckets.records
    inside =
        let below = (is.sound.laid.area (j - w.before) unfixed).1 in
        let count = h.cut.buckets in omega (arith, low, below, count)

    few : j < p.reserves.count
    few = let below = inside in let same = p.fit.same_count in omega (arith, below, same)

    -- on no list, if it is so to the core
    unlisted : IsOff (k.shelf (j - w.before)) → (k.shelf (j - w.before) ≡ Raised → ⊥)
        → times_listed p.reserves j ≡ 0
    unlisted none unraised = no_list p.reserves j p.order.four
        (λ r. not_there w.before j (list_of r p.reserves).buckets
        (λ q. k.shelf q ≡ Listed (purpose_of r)) (h.places.lists.lists r) (none.1 (purpose_of r)))
        (not_there w.before j p.reserves.raised (λ q. k.shelf q ≡ Raised) h.places.lists.raised
        unraised)

    its_hold : (bucket_of p.buckets j).held ≡ is_held (k.shelf (j - w.before))
    its_hold =
        let at = counted w.before j low in
        let within = inside in
        ap (λ m. (bucket_of p.buckets m).held) (sym at)
        ∙ (h.records (j - w.before) (omega (arith, at, within))).held

    shut : IsOff (k.shelf (j - w.before)) → times j (bucket_numbers p.fill) ≡ 0
    shut none = not_there w.before j (bucket_numbers p.fill) (λ q. k.shelf q ≡ Open)
        h.places.opens.buckets none.0

  module _ (i named : ℕ) (new : Vec ℕ Global)
      (its : MayReady i (take named p.reserves.raised) new.items o (replay o x.log)) where
    old_of : (j : ℕ) → 0 < times j p.chain.items
        → k.chains.of (j - w.before) ≡ Some k.chains.ready
    old_of j some = there w.before j p.chain.items (λ q. k.chains.of q ≡ Some k.chains.ready)
        h.chain.buckets some

    new_of : (j : ℕ) → 0 < times j new.items
        → k.chains.of (j - w.before) ≡ Some (suc k.chains.ready)
    new_of j some = there w.before j new.items (λ q. k.chains.of q ≡ Some (suc k.chains.ready))
        its.next.buckets some

    taken : AreTaken p new.items
    taken = record {
      distinct = its.next.once;
      each = λ j some.
          let low = its.next.buckets.behind j some in
          let of = new_of j some in
          let held = its.held (j - w.before) of in
          let is_off = held_off (k.shelf (j - w.before)) i held in record {
            there = few j (suc k.chains.ready) low of;
            held = its_hold j (suc k.chains.ready) low of ∙ ap is_held held;
            loose = unlisted j (suc k.chains.ready) low of is_off
                (held_raised (k.shelf (j - w.before)) i held);
            shut = shut j (suc k.chains.ready) low of is_off;
          };
    }

    pub can_go : CanGo p new.items
    can_go = record {
      distinct = h.chain.once;
      loose = λ j some.
          let low = h.chain.buckets.behind j some in
          let of = old_of j some in
          let loose = (order.chained.links (j - w.before) k.chains.ready of).loose refl in (
            few j k.chains.ready low of,
            unlisted j k.chains.ready low of (loose_off (k.shelf (j - w.before)) loose)
                (loose_raised (k.shelf (j - w.before)) loose),
            its_hold j k.chains.ready low of ∙ ap is_held loose,
          );
      taken = taken;
    }
