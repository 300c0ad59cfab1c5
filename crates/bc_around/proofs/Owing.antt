-- What the journal in hand tells of the index.
use Rattle.std.proofs.Common.{◌≡◌, ℕ, Bool, true, false, []}
use Rattle.std.specs.Prelude.{MatchBool}
use Rattle.bc_around.specs.Owed.{HasOwed, Owes, OwesNone}
use Rattle.bc_disk.specs.Disk.{DiskFacts}
use Rattle.bc_flush.specs.Durable.{AreDurable, HaveComeIn}
use Rattle.bc_flush.proofs.Counting.{come_lasts, durable_lasts}
use Rattle.bc_flush.proofs.Syncing.{as_waited, none_owed}
use Rattle.bc_flush.proofs.Walking.{lasts_done}
use Rattle.bc_flush.specs.bc_hand.Seats.{IsCoreSeat, world}
use Rattle.bc_flush.proofs.of_bc_hand.Knowing.{View, m}
use Rattle.bc_journal.specs.Journal.{Journal}
use Rattle.bc_flush.specs.bc_machine.World.{FromEach, IsJournal, Origin, World}
use Rattle.bc_seats.specs.Seats.{Waited}

pub if_true : (P Q : Type 0) (b : Bool) → MatchBool b P Q → b ≡ true → P
if_true P Q true h is = h
if_true P Q false h is = absurd (cc)

pub if_false : (P Q : Type 0) (b : Bool) → MatchBool b P Q → b ≡ false → Q
if_false P Q true h is = absurd (cc)
if_false P Q false h is = h

module _ {C B : Type 0} (cache_facts : C → DiskFacts) (backing_facts : B → DiskFacts) where
  abbrev seen : View cache_facts backing_facts → World
  seen v = world cache_facts backing_facts v

  -- t: before; u: with the journal in hand; v: now
  module _ (t u v : View cache_facts backing_facts) (j : Journal)
      (first : Waited (m cache_facts backing_facts) t u)
      (then : Waited (m cache_facts backing_facts) u v)
      (stands : IsJournal j (seen u)) where
    pub all_durable : IsCoreSeat cache_facts backing_facts u → OwesNone j → (n : Origin → ℕ)
        → FromEach (seen t) (HaveComeIn n) → FromEach (seen v) (AreDurable n)
    all_durable seat owes n come =
        let before = as_waited cache_facts backing_facts t u first in
        lasts_done cache_facts backing_facts (AreDurable n) (durable_lasts n) [] u v
        (as_waited cache_facts backing_facts u v then)
        (none_owed cache_facts backing_facts u seat j stands owes.none owes.empty n
        (lasts_done cache_facts backing_facts (HaveComeIn n) (come_lasts n) [] t u before come))

    pub still_owed : Owes j → HasOwed cache_facts backing_facts t v
    still_owed owes = record {
      journal = j;
      owes = owes;
      at = u;
      way = as_waited cache_facts backing_facts t u first;
      stands = stands;
      then = as_waited cache_facts backing_facts u v then;
    }
