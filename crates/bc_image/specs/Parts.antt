-- The parts of soundness, each by its name.
use Rattle.std.specs.Prelude.{◌≢◌}
use Rattle.bc_super.specs.Super.{data_sectors}
use Rattle.bc_image.specs.Pair.{Pair}
use Rattle.bc_image.specs.Reading.{View}
use Rattle.bc_image.specs.Sound.{HasSuperblocks, NamesBacking, HasRanges, HasPointers, HasOneUse, AgreesWhereClean, IsWithinWindow, HasSpareBuckets, HasNoStrayEntry, HasRoomForEntry}

pub data Part : Type 0 where
  Superblocks Backing Ranges Pointers Uses Agreement Window Spare Strays Room : Part

abbrev pub HasPart : Pair → View → Part → Type 0
HasPart p v Superblocks = HasSuperblocks v.backing v.cache
HasPart p v Backing = NamesBacking v p.cache
HasPart p v Ranges = HasRanges v.reading
HasPart p v Pointers = HasPointers v.geometry (data_sectors p.backing_sectors v.backing) v.reading
HasPart p v Uses = HasOneUse v.geometry v.reading
HasPart p v Agreement = AgreesWhereClean p v
HasPart p v Window = IsWithinWindow v.geometry v.reading
HasPart p v Spare = HasSpareBuckets v.geometry v.reading
HasPart p v Strays = HasNoStrayEntry v.geometry p.cache v.reading
HasPart p v Room = HasRoomForEntry v.geometry p.cache v.reading

-- something that is seen as a pair has all parts, or all but this one
pub record HasAll : Type 0 where
  pub pair : Pair
  pub view : View
  pub parts : (part : Part) → HasPart pair view part

pub record LacksOnly (part : Part) : Type 0 where
  pub pair : Pair
  pub view : View
  pub lacks : HasPart pair view part → ⊥
  pub others : (other : Part) → other ≢ part → HasPart pair view other
