-- The memory of a whole refill.
use Rattle.std.specs.Prelude.{◌≡◌, ℕ, ◌≤◌, [], vec_capacity}
use Rattle.bc_disk.specs.Chain.{sets_in_chain}
use Rattle.bc_disk.specs.declared.geometry.Geometry.{Geometry}
use Rattle.bc_refill.specs.Named.{IsNamingRoom}
use Rattle.bc_refill.specs.declared.room.Room.{Room}

-- For a device that is so divided there is memory for all buckets of a chain and all victims, and
-- for so many buckets that are raised then, beside so many of the chain before.
pub record IsRoomFor (g : Geometry) (raised chained : ℕ) (r : Room) : Type 0 where
  pub none_taken : r.taken.items ≡ []
  pub taken : sets_in_chain g ≤ vec_capacity r.taken
  pub none_new : r.new.items ≡ []
  pub new : sets_in_chain g ≤ vec_capacity r.new
  pub victims : g.nbuckets ≤ vec_capacity r.victims
  pub naming : IsNamingRoom g (sets_in_chain g) raised chained r.naming
