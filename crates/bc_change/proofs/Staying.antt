-- What a seat knows of a change that is under way goes on to hold through its own steps.
use Rattle.std.proofs.Common.{◌≡◌, inl, inr, ℕ, ◌<◌, false, Some, None, sym, subst, arith}
use Rattle.bc_disk.specs.Disk.{DiskFacts}
use Rattle.bc_events.specs.declared.event.Change.{Change}
use Rattle.bc_events.specs.declared.event.Deed.{Deed}
use Rattle.bc_entry.specs.bc_hand.Seats.{Did, by, world}
use Rattle.bc_entry.proofs.of_bc_hand.Knowing.{View, m}
use Rattle.bc_entry.specs.bc_machine.World.{FromEach, World}
use Rattle.bc_parts.specs.Seat.{Holds}
use Rattle.bc_seats.specs.Seats.{Since}
use Rattle.bc_seats.proofs.Knowing.{still}
use Rattle.bc_shares.specs.Touched.{touches_buckets, touches_spine}
use Rattle.bc_tree.specs.declared.plan.Plan.{Plan}
use Rattle.bc_change.specs.Under.{IsByRoot}
use Rattle.bc_change.proofs.Going.{law_by_root}

module _ {C B : Type 0} (cache_facts : C → DiskFacts) (backing_facts : B → DiskFacts)
    (v : View cache_facts backing_facts) (spine : Holds v.parts 0) (live : v.first < v.end)
    (plan : Plan) (c : Change) (number slot : ℕ) where
  abbrev Known : World → Type 0
  Known x = FromEach x (IsByRoot v.first plan c number slot)

  -- while others act
  pub by_root_since : (x : World) → Since (m cache_facts backing_facts) v x
      → Known (world cache_facts backing_facts v) → Known x
  by_root_since x since h = still (m cache_facts backing_facts) v x Known
      (λ y e on foreign before. law_by_root y e v.first plan c number slot (foreign.1 0 spine)
      (inl (foreign.0 v.first (omega arith) live)) before) since h

  -- by a deed of its own that leaves the tree and the buckets alone
  pub by_root_did : (w : View cache_facts backing_facts) (d : Deed) → touches_spine d ≡ false
      → touches_buckets d ≡ false → Did cache_facts backing_facts (Some d) v w
      → Known (world cache_facts backing_facts v) → Known (world cache_facts backing_facts w)
  by_root_did w d off none did h = subst Known (sym did.is.state)
      (law_by_root did.is.before (by v.first d) v.first plan c number slot off (inr none)
      (by_root_since did.is.before did.is.since h))

  pub by_root_waited : (w : View cache_facts backing_facts)
      → Did cache_facts backing_facts None v w
      → Known (world cache_facts backing_facts v) → Known (world cache_facts backing_facts w)
  by_root_waited w did h = by_root_since (world cache_facts backing_facts w) did.is.since h
