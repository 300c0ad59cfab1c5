-- What a seat knows of a change that a set makes goes on to hold through its own steps.
use Rattle.std.proofs.Common.{◌≡◌, inl, inr, ℕ, ◌<◌, false, List, None, Some, sym, subst, arith}
use Rattle.bc_by_root.proofs.of_bc_install.of_bc_hand.Knowing.{View, m}
use Rattle.bc_by_root.specs.bc_install.bc_hand.Seats.{Did, by, world}
use Rattle.bc_by_root.specs.bc_install.bc_machine.World.{FromEach, World}
use Rattle.bc_disk.specs.Disk.{DiskFacts}
use Rattle.bc_events.specs.declared.event.Change.{Change}
use Rattle.bc_events.specs.declared.event.Deed.{Deed}
use Rattle.bc_events.specs.declared.event.Deed.TheVariants as deed
use Rattle.bc_inner.specs.Inner.{Inner}
use Rattle.bc_key.specs.declared.key.Key.{Key}
use Rattle.bc_by_root.proofs.of_bc_install.of_bc_parent_set.Keeping.{law_by_set, law_stays}
use Rattle.bc_by_root.specs.bc_install.bc_parent_set.BySet.{IsBySet, IsMadeSet, NamesThis}
use Rattle.bc_parts.specs.Seat.{Holds}
use Rattle.bc_seats.proofs.Knowing.{still}
use Rattle.bc_seats.specs.Seats.{Since, Waited}
use Rattle.bc_shares.specs.Touched.{touches_buckets, touches_spine}
use Rattle.bc_tree.specs.declared.plan.Plan.{Plan}

module _ {C B : Type 0} (cache_facts : C → DiskFacts) (backing_facts : B → DiskFacts)
    (v : View cache_facts backing_facts) (spine : Holds v.parts 0) (live : v.first < v.end) where
  -- while others act
  named_since : (root : Inner) (x : World) → Since (m cache_facts backing_facts) v x
      → FromEach (world cache_facts backing_facts v) (NamesThis root) → FromEach x (NamesThis root)
  named_since root x since h = still (m cache_facts backing_facts) v x
      (λ y. FromEach y (NamesThis root))
      (λ y e on foreign before. law_stays y e root (foreign.1 0 spine) before) since h

  pub named_lasts : (root : Inner) (w : View cache_facts backing_facts)
      → Waited (m cache_facts backing_facts) v w
      → FromEach (world cache_facts backing_facts v) (NamesThis root)
      → FromEach (world cache_facts backing_facts w) (NamesThis root)
  named_lasts root w wait h = named_since root (world cache_facts backing_facts w) wait.since h

  pub named_waited : (root : Inner) (w : View cache_facts backing_facts)
      → Did cache_facts backing_facts None v w
      → FromEach (world cache_facts backing_facts v) (NamesThis root)
      → FromEach (world cache_facts backing_facts w) (NamesThis root)
  named_waited root w did h = named_lasts root w did.is h

  -- by a deed of its own that leaves the tree alone
  pub named_did : (root : Inner) (w : View cache_facts backing_facts) (d : Deed)
      → touches_spine d ≡ false → Did cache_facts backing_facts (Some d) v w
      → FromEach (world cache_facts backing_facts v) (NamesThis root)
      → FromEach (world cache_facts backing_facts w) (NamesThis root)
  named_did root w d off did h = subst (λ (x : World). FromEach x (NamesThis root))
      (sym did.is.state) (law_stays did.is.before (by v.first d) root off
      (named_since root did.is.before did.is.since h))

  module _ (plan : Plan) (c : Change) (slot : ℕ) (children : List Key) where
    abbrev Known : World → Type 0
    Known x = FromEach x (IsBySet v.first plan c slot children)

    by_set_since : (x : World) → Since (m cache_facts backing_facts) v x
        → Known (world cache_facts backing_facts v) → Known x
    by_set_since x since h = still (m cache_facts backing_facts) v x Known
        (λ y e on foreign before. law_by_set.begun y e v.first plan c slot children
        (foreign.1 0 spine) (inl (foreign.0 v.first (omega arith) live)) before) since h

    pub by_set_waited : (w : View cache_facts backing_facts)
        → Did cache_facts backing_facts None v w
        → Known (world cache_facts backing_facts v) → Known (world cache_facts backing_facts w)
    by_set_waited w did h = by_set_since (world cache_facts backing_facts w) did.is.since h

    pub by_set_did : (w : View cache_facts backing_facts) (d : Deed) → touches_spine d ≡ false
        → touches_buckets d ≡ false → Did cache_facts backing_facts (Some d) v w
        → Known (world cache_facts backing_facts v) → Known (world cache_facts backing_facts w)
    by_set_did w d off none did h = subst Known (sym did.is.state)
        (law_by_set.begun did.is.before (by v.first d) v.first plan c slot children off (inr none)
        (by_set_since did.is.before did.is.since h))

    -- its barrier makes the change
    pub made_did : (w : View cache_facts backing_facts)
        → Did cache_facts backing_facts (Some deed.CacheBarrier) v w
        → Known (world cache_facts backing_facts v)
        → FromEach (world cache_facts backing_facts w) (IsMadeSet v.first plan c slot children)
    made_did w did h = subst
        (λ (x : World). FromEach x (IsMadeSet v.first plan c slot children)) (sym did.is.state)
        (law_by_set.makes did.is.before v.first v.first plan c slot children
        (by_set_since did.is.before did.is.since h))
