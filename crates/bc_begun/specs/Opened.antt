-- A machine that is opened on a pair, by the parts that were read of it.
use Rattle.std.specs.Prelude.{ℕ, ◌<◌}
use Rattle.bc_bucket.specs.Buckets.{Buckets, bucket_of}
use Rattle.bc_chosen.specs.Parts.{ArePartsOf, Parts, choices_of}
use Rattle.bc_facts.specs.Layout.{IsLayoutOf}
use Rattle.bc_image.specs.Pair.{Pair}
use Rattle.bc_image.specs.Reading.{IsView, View}
use Rattle.bc_image.specs.Sound.{HasSoundParts}
use Rattle.bc_leaves.specs.Parts as parts
use Rattle.bc_meta.specs.Layout.{Layout}
use Rattle.bc_opening.specs.Opening.{IsOpeningOf}
use Rattle.bc_whole.specs.State.{Opening}

-- generations are bytes
pub record AreBytes (b : Buckets) : Type 0 where
  pub generation : (k : ℕ) → (bucket_of b k).generation < 256
  pub last_gc : (k : ℕ) → (bucket_of b k).last_gc < 256

-- the pair is sound, the parts were read of it, and the machine is opened by what they say
pub record IsOpenedWith (p : Pair) (v : View) (layout : Layout) (x : Parts) (w : Opening)
    (st : parts.State) : Type 0 where
  pub view : IsView p v
  pub sound : HasSoundParts p v
  pub divided : IsLayoutOf v.geometry layout
  pub read : ArePartsOf v.geometry v.reading x
  pub opening : IsOpeningOf p v layout (choices_of v.geometry v.reading x) w st
