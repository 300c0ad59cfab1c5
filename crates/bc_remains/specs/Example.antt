-- What an example of a run has to show, so that the laws speak of something.
use Rattle.std.specs.Prelude.{◌≡◌, List}
use Rattle.bc_model.specs.Sector.{Image}
use Rattle.bc_disk.specs.Device.{MayLeave}
use Rattle.bc_disk.specs.declared.geometry.Geometry.{Geometry}
use Rattle.bc_image.specs.NewPair.{new_cache}
use Rattle.bc_image.specs.Reading.{Reading, IsReading}
use Rattle.bc_meta.specs.Layout.{Layout}
use Rattle.bc_meta.specs.Acts.{Act}
use Rattle.bc_meta.specs.Laws.{Opening, reached}
use Rattle.bc_remains.specs.Laws.{IsRunOf}

-- From the cache device of the pair that was made anew, byte by byte, the run writes a second
-- entry. Behind it each image that a crash may leave has this one as its newest.
pub record IsExample (g : Geometry) (w : Layout) (o : Opening) (acts : List Act) : Type 0 where
  pub run : IsRunOf g w o acts
  pub image : o.image ≡ new_cache
  pub first : o.newest.number ≡ 1
  pub second : (image : Image) → MayLeave (reached w o acts).places.device image
      → (r : Reading) × IsReading g image r × (r.newest.item.seq ≡ 2)

abbrev pub HasExample : Type 0
HasExample = (g : Geometry) × (w : Layout) × (o : Opening)
    × ((acts : List Act) × IsExample g w o acts)
