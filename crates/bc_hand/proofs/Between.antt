-- A step between borrowing a part and returning it.
use Rattle.std.proofs.Common.{◌≡◌, ℕ, Option, Some, None, subst}
use Rattle.bc_disk.specs.Disk.{DiskFacts}
use Rattle.bc_parts.specs.Seat.{Holds}
use Rattle.bc_seats.specs.Seats.{Waited, Committed}
use Rattle.bc_seats.proofs.Between.{waited_both, committed_behind, waited_given, committed_given}
use Rattle.bc_events.specs.declared.event.Deed.{Deed}
use Rattle.bc_hand.specs.Seats.{by, did, IsCoreSeat, Did}
use Rattle.bc_hand.proofs.Knowing.{View, m}

module _ {C B : Type 0} (cache_facts : C → DiskFacts) (backing_facts : B → DiskFacts) where
  did_both : (o : Option Deed) (u v w x : View cache_facts backing_facts)
      → ((k : ℕ) → Holds u.parts k → Holds v.parts k) → Waited (m cache_facts backing_facts) u v
      → did cache_facts backing_facts o v w → Waited (m cache_facts backing_facts) w x
      → x.seen ≡ w.seen → x.heard ≡ w.heard → did cache_facts backing_facts o u x
  did_both None u v w x still first done last seen heard = waited_given (m cache_facts backing_facts) u w x
      (waited_both (m cache_facts backing_facts) u v w still first done) last.same seen heard last.promises
  did_both (Some d) u v w x still first done last seen heard =
      committed_given (m cache_facts backing_facts) u (by u.first d) w x
      (committed_behind (m cache_facts backing_facts) u v (by u.first d) w still first
      (subst (λ n. Committed (m cache_facts backing_facts) v (by n d) w) first.same.first done))
      last.same seen heard last.promises

  pub did_between : (o : Option Deed) (u v w x : View cache_facts backing_facts)
      → ((k : ℕ) → Holds u.parts k → Holds v.parts k) → Waited (m cache_facts backing_facts) u v
      → Did cache_facts backing_facts o v w → Waited (m cache_facts backing_facts) w x
      → x.seen ≡ w.seen → x.heard ≡ w.heard → IsCoreSeat cache_facts backing_facts x
      → Did cache_facts backing_facts o u x
  did_between o u v w x still first done last seen heard seat = record {
    is = did_both o u v w x still first done.is last seen heard;
    seat = seat;
  }
