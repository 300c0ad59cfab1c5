-- What a superblock says of how its device is used: the geometry of a cache device, and whether a backing device serves alone.
use Rattle.std.specs.Prelude.{◌≡◌}
use Rattle.bc_bytes.specs.Fields.{number_at}
use Rattle.bc_disk.specs.declared.geometry.Geometry.{Geometry}
use Rattle.bc_super.specs.Super.{IsMode, IsState, mode_number, state_number}
use Rattle.bc_super.specs.declared.backing.BackingSuper.{BackingSuper}
use Rattle.bc_super.specs.declared.cache.CacheSuper.{CacheSuper}
use Rattle.bc_mode.specs.declared.mode.Mode.TheVariants as modes
use Rattle.bc_super.specs.declared.state.BackingState.TheVariants as states

-- The geometry of a cache device is what its superblock says. The magic numbers of its records are made with the first word of the uuid
-- of its set.
pub record IsGeometryOf (s : CacheSuper) (g : Geometry) : Type 0 where
  pub block : g.block ≡ s.block
  pub bucket : g.bucket ≡ s.bucket
  pub nbuckets : g.nbuckets ≡ s.nbuckets
  pub first_bucket : g.first_bucket ≡ s.first_bucket
  pub journal : g.journal ≡ s.journal
  pub set_magic : g.set_magic ≡ number_at 8 s.set_uuid 0

-- without a state and with the mode none the backing device serves alone
abbrev pub IsPassThrough : BackingSuper → Type 0
IsPassThrough s = IsMode (mode_number s.flags) modes.None × IsState (state_number s.flags) states.None
