-- What a write of the entry leaves.
use Rattle.std.proofs.Common.{◌≡◌, ℕ, List, Option, Some, refl, sym, subst}
use Rattle.std.specs.Prelude.{◌==◌}
use Rattle.bc_model.specs.Sector.{Value}
use Rattle.bc_disk.specs.Disk.{DiskFacts}
use Rattle.bc_parts.specs.Seat.{Holds, PartsView}
use Rattle.bc_seats.specs.Seats.{Kept}
use Rattle.bc_events.specs.declared.event.Deed.TheVariants as deed
use Rattle.bc_events.specs.declared.event.Written.TheVariants as written
use Rattle.bc_deed.specs.bc_hand.Seats.{Did, IsCoreSeat, Works, by, world}
use Rattle.bc_deed.specs.bc_hand.declared.hand.Hand.{Hand}
use Rattle.bc_deed.proofs.of_bc_hand.Knowing.{View, m}
use Rattle.bc_deed.proofs.of_bc_hand.Lends.{works_cache}
use Rattle.bc_deed.proofs.May.{other_number}
use Rattle.bc_journal.specs.Sealed.{Sealed}
use Rattle.bc_sealing.specs.bc_machine.World.{FromEach, IsCache, replay}
use Rattle.bc_sealing.specs.bc_machine.declared.part.CorePart.{CorePart}
use Rattle.bc_shares.specs.Shares.{JournalShare}
use Rattle.bc_shares.proofs.Law.{law_journal}
use Rattle.bc_entry.specs.Entry.{IsReadyEntry, IsSealedAs, IsWrittenEntry}
use Rattle.bc_entry.proofs.Holding.{known_committed, known_uncalled, ready_kept}

module _ {C B : Type 0} (cache_facts : C → DiskFacts) (backing_facts : B → DiskFacts) where
  pub knows_written : (v w : View cache_facts backing_facts) → Holds v.parts 3 → Holds v.parts 4
      → (s : Sealed) (at : ℕ) (values : List Value)
      → FromEach (world cache_facts backing_facts v) (IsReadyEntry s)
      → Did cache_facts backing_facts (Some (deed.CacheWrite at written.Entry values)) v w
      → FromEach (world cache_facts backing_facts w) (IsWrittenEntry s)
  knows_written v w journal cache s at values knows did = known_committed cache_facts backing_facts
      v w (deed.CacheWrite at written.Entry values) (IsReadyEntry s) (IsWrittenEntry s) did
      (λ o is course on k. record {
        sealed = subst (λ (x : JournalShare). IsSealedAs s o.opening.machine x)
            (sym (law_journal o.opening (replay o did.is.before.log)
            (by v.first (deed.CacheWrite at written.Entry values)) on refl)) k.sealed;
        stage = tt;
      })
      (known_uncalled cache_facts backing_facts v did.is.before (IsReadyEntry s) journal cache
      (ready_kept s) did.is.since knows)

  -- the device in hand, behind a call of it
  pub works_called : (p : PartsView (CorePart C B)) (v w : View cache_facts backing_facts)
      (h : Hand C B) (old new : C) → h.cache ≡ Some old → Works cache_facts backing_facts p v h
      → IsCoreSeat cache_facts backing_facts w
      → Kept (m cache_facts backing_facts) v w (λ k. k == 4)
      → IsCache {C = C} {B = B} cache_facts backing_facts new (world cache_facts backing_facts w)
      → Works cache_facts backing_facts p w (record h { cache = Some new })
  works_called p v w h old new is works seat kept on = works_cache cache_facts backing_facts p v w h
      old new (λ k. k == 4)
      (subst (λ (o : Option C). Works cache_facts backing_facts p v (record h { cache = o })) is
      works)
      seat kept (other_number 4) on
