-- All parts of soundness, in the order in which they are looked at.
use Rattle.std.specs.Prelude.{ℕ}
use Rattle.bc_image.specs.Pair.{Pair}
use Rattle.bc_image.specs.Reading.{View}
use Rattle.bc_image.specs.Sound.{AgreesWhereClean, HasNoStrayEntry, HasOneUse, HasPointers, HasRanges, HasRoomForEntry, HasSoundParts, HasSpareBuckets, HasSuperblocks, IsWithinWindow, NamesBacking}
use Rattle.bc_model.specs.Sector.{Image}

-- what the superblocks, the nodes and the table of uuids say, where the backing device has so many sectors of data
pub record HasRecords (size : ℕ) (cache : Image) (v : View) : Type 0 where
  pub superblocks : HasSuperblocks v.backing v.cache
  pub ranges : HasRanges v.reading
  pub pointers : HasPointers v.geometry size v.reading
  pub backing : NamesBacking v cache

-- what the buckets are used for
pub record HasBuckets (v : View) : Type 0 where
  pub uses : HasOneUse v.geometry v.reading
  pub spare : HasSpareBuckets v.geometry v.reading

-- what stands in the journal
pub record HasJournal (cache : Image) (v : View) : Type 0 where
  pub room : HasRoomForEntry v.geometry cache v.reading
  pub no_stray : HasNoStrayEntry v.geometry cache v.reading

-- what each sector's last key says
pub record HasData (p : Pair) (v : View) : Type 0 where
  pub window : IsWithinWindow v.geometry v.reading
  pub agrees : AgreesWhereClean p v

pub record HasAllParts (p : Pair) (v : View) : Type 0 where
  pub parts : HasSoundParts p v
  pub room : HasRoomForEntry v.geometry p.cache v.reading
