-- What a backing device says of itself while a cache serves it, and behind that.
use Rattle.std.specs.Prelude.{ℕ, ◌+◌, ◌*◌, ◌/◌, ◌%◌, ◌^◌, ◌==◌, if◌then◌else◌}
use Rattle.bc_model.specs.Sector.{Value}
use Rattle.bc_super.specs.declared.backing.BackingSuper.{BackingSuper}
use Rattle.bc_super.specs.declared.state.BackingState.{BackingState}
use Rattle.bc_super.specs.declared.state.BackingState.TheVariants as state
use Rattle.bc_image.specs.Pair.{Pair}
use Rattle.bc_image.specs.Reading.{View}

-- the number that names a state, in bits 61 and 62 of the flags
abbrev pub number_of : BackingState → ℕ
number_of state.None = 0
number_of state.Clean = 1
number_of state.Dirty = 2
number_of state.Stale = 3

-- what a device says that has a cache
abbrev pub IsCached : BackingState → Type 0
IsCached state.None = ⊥
IsCached state.Clean = Unit {0}
IsCached state.Dirty = Unit {0}
IsCached state.Stale = ⊥

-- flags with another number in these bits
abbrev pub flags_with : ℕ → ℕ → ℕ
flags_with n flags = flags % 2 ^ 61 + 2 ^ 61 * n + 2 ^ 63 * (flags / 2 ^ 63)

-- the superblock in this state, with all else as it was
abbrev pub super_in : BackingState → BackingSuper → BackingSuper
super_in state s = record s { flags = flags_with (number_of state) s.flags }

-- the pair with these bytes in the sector in which the backing device's superblock stands
abbrev pub with_sector : Pair → Value → Pair
with_sector p bytes = record {
  cache = p.cache;
  cache_sectors = p.cache_sectors;
  backing = λ s. if s == 8 then bytes else p.backing s;
  backing_sectors = p.backing_sectors;
}

abbrev pub view_in : BackingState → View → View
view_in state v = record {
  backing = super_in state v.backing;
  cache = v.cache;
  geometry = v.geometry;
  reading = v.reading;
}
