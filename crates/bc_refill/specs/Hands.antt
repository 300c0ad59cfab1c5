-- What a refill has in hand.
use Rattle.std.specs.Prelude.{◌≡◌, true, is_some, Some}
use Rattle.bc_disk.specs.declared.geometry.Geometry.{Geometry}
use Rattle.bc_journal.specs.Journal.{Journal}
use Rattle.bc_new_chain.specs.bc_hand.declared.hand.Hand.{Hand}

-- Buckets, journal and cache device are in hand; and the journal's ring is of a device that is so
-- divided.
pub record HasAll {C B : Type 0} (g : Geometry) (h : Hand C B) : Type 0 where
  pub buckets : is_some h.buckets ≡ true
  pub journal : Journal
  pub is_journal : h.journal ≡ Some journal
  pub divided : journal.ring.geometry ≡ g
  pub cache : is_some h.cache ≡ true
