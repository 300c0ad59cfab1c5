-- What a seat may note as a candidate: what it read, and what it wrote around the cache.
use Rattle.std.proofs.Common.{◌≡◌, inl, inr, ℕ, ◌+◌, ◌<◌, ◌≤◌, Bool, false, List, Option, Some, None, refl, sym, ap, ◌∙◌, subst, arith}
use Rattle.bc_books.specs.Index.{Clean, Dirty, Kind, Pointer, is_dirty}
use Rattle.bc_data.proofs.Runs.{sector_range}
use Rattle.bc_data.specs.Data.{claim_of}
use Rattle.bc_data.specs.Enabled.{IsBacked}
use Rattle.bc_data.specs.Seats.{Seat}
use Rattle.bc_disk.specs.Disk.{DiskFacts}
use Rattle.bc_events.specs.Run as core
use Rattle.bc_events.specs.declared.event.Deed.TheVariants as deed
use Rattle.bc_meta.specs.Keys.{Ref}
use Rattle.bc_model.specs.Sector.{Value, at_run}
use Rattle.bc_node.specs.Leaf.{Leaf}
use Rattle.bc_place.proofs.Knowing.{known_committed}
use Rattle.bc_place.proofs.of_bc_deed.May.{did_nothing}
use Rattle.bc_place.proofs.of_bc_hand.Knowing.{note_since}
use Rattle.bc_place.specs.bc_deed.Asked.{IsWithin}
use Rattle.bc_place.specs.bc_hand.Seats.{note, world}
use Rattle.bc_place.specs.bc_machine.Frame.{Range, range_of}
use Rattle.bc_place.specs.bc_machine.World.{FromEach, replay, seen_from}
use Rattle.bc_sight.specs.Sight.{IsOnBacking, said_in}
use Rattle.bc_whole.specs.Together.{ref_of}
use Rattle.bc_candidate.specs.Laws.{LawRead, LawThrough}
use Rattle.bc_candidate.proofs.Flying.{put_here}

clean_kind : (k : Kind) → is_dirty k ≡ false → k ≡ Clean
clean_kind Clean off = refl
clean_kind Dirty off = absurd (cc)

-- the backing device has what the sector shows
is_backed : (leaf : Leaf) (s : ℕ) (o : Option Pointer) → ref_of o ≡ said_in leaf s
    → IsOnBacking leaf s → IsBacked o
is_backed leaf s None is on = tt
is_backed leaf s (Some r) is (inl none) =
    absurd (let same : ref_of (Some r) ≡ None = is ∙ none in cc)
is_backed leaf s (Some r) is (inr (ref, at, clean)) =
    clean_kind r.kind (ap dirty_in (is ∙ at) ∙ clean)
  where
    dirty_in : Option Ref → Bool
    dirty_in None = false
    dirty_in (Some x) = x.dirty

-- a sector of a place's run lies in what is claimed for it
covers_it : (a b : Range) (first at count s t : ℕ) → b ≡ a → IsWithin a first count
    → (first ≤ s) × (s < first + count) → (b.first ≤ s) × (s < b.first + b.count)
covers_it a b first at count s t is within run =
    let from = ap (λ (r : Range). r.first) is in
    let many = ap (λ (r : Range). r.count) is in
    let low = within.0 in
    let high = within.1 in
    let c = run.0 in
    let d = run.1 in (omega (arith, from, low, c), omega (arith, from, many, high, d))

module _ {C B : Type 0} (cache_facts : C → DiskFacts) (backing_facts : B → DiskFacts) where
  pub law_read : LawRead cache_facts backing_facts
  law_read v seat leaf looked shared first p within known wrote was o is course s t at =
      let x = world cache_facts backing_facts v in
      let look = looked o is course in
      let firm = note_since cache_facts backing_facts v x (seen_from o x) seat.seat.live
      (did_nothing cache_facts backing_facts v seat).is.since
      (inr (o, record { is = refl; origin = is; course = course })) in
      let run = sector_range first p.ptr.offset p.count s t at in
      let covers = covers_it (note cache_facts backing_facts v).range
      (range_of (claim_of (replay o x.log).machine.whole.flow v.first)) first p.ptr.offset p.count s
      t
      firm.range within run in
      let its = was s t at in
      record {
        covers = covers;
        value = its.1.0;
        placed = (wrote o is course t its.1.0 its.1.2).placed;
        source = inl (record {
          shared = ap (λ (r : Range). r.exclusive) firm.range ∙ shared;
          looked = look.looked;
          backed = is_backed leaf s
              ((claim_of (replay o x.log).machine.whole.flow v.first).sight s)
              (look.sight s covers) its.0;
          read = firm.read s ∙ its.1.1;
        });
      }

  -- the claim of a seat that wrote around the cache
  record IsThrough (from : ℕ) (values : List Value) (r : Range) (i : ℕ) (st : core.State) :
      Type 0 where
    through : (s : ℕ) → (claim_of st.machine.whole.flow i).through s ≡ at_run from values s
    range : range_of (claim_of st.machine.whole.flow i) ≡ r

  pub law_through : LawThrough cache_facts backing_facts
  law_through v w seat from of values did first p within known wrote was o is course s t at =
      let knows = subst (λ i. FromEach (world cache_facts backing_facts w)
      (λ o st. IsThrough from values
      (note cache_facts backing_facts v).range i st)) (sym did.is.same.first)
      (known_committed cache_facts backing_facts v w (deed.BackingWrite from (Some of) values)
      (λ o st. IsThrough from values (note cache_facts backing_facts v).range v.first st) did
      (λ o is course.
      let b = did.is.before in
      let st = replay o b.log in
      let firm = note_since cache_facts backing_facts v b (seen_from o b) seat.seat.live
      did.is.since
      (inr (o, record { is = refl; origin = is; course = course })) in
      record {
        through = λ s. ap (λ (x : Seat). x.claim.through s)
            (put_here st.machine.whole.flow.seats v.first _);
        range = ap (λ (x : Seat). range_of x.claim)
            (put_here st.machine.whole.flow.seats v.first _) ∙ firm.range;
      })) in
      let one = knows o is course in
      let run = sector_range first p.ptr.offset p.count s t at in
      let its = was s t at in
      record {
        covers = covers_it (note cache_facts backing_facts v).range _ first p.ptr.offset p.count s t
            one.range within run;
        value = its.0;
        placed = (wrote o is course t its.0 its.2).placed;
        source = inr (one.through s ∙ its.1);
      }
