-- What a reader finds in each image that a crash may leave.
use Rattle.std.specs.Prelude.{◌≡◌, ◌⊎◌, List, ◌∷◌, ◌++◌}
use Rattle.bc_model.specs.Sector.{Image}
use Rattle.bc_disk.specs.Device.{MayLeave}
use Rattle.bc_disk.specs.declared.geometry.Geometry.{Geometry}
use Rattle.bc_super.specs.declared.backing.BackingSuper.{BackingSuper}
use Rattle.bc_super.specs.declared.cache.CacheSuper.{CacheSuper}
use Rattle.bc_image.specs.Formatted.{IsFormatted}
use Rattle.bc_image.specs.Pair.{Pair}
use Rattle.bc_image.specs.Reading.{Reading, IsReading, View, IsView}
use Rattle.bc_image.specs.Sound.{HasNoStrayEntry, HasSoundParts, HasSuperblocks}
use Rattle.bc_meta.specs.Entries.{live}
use Rattle.bc_meta.specs.Layout.{Layout}
use Rattle.bc_meta.specs.Records.{IsReady}
use Rattle.bc_meta.specs.Acts.{State, Act, IsRun}
use Rattle.bc_meta.specs.Laws.{Opening, IsSound, opened, reached}
use Rattle.bc_facts.specs.Layout.{IsLayoutOf}
use Rattle.bc_facts.specs.Torn.{NoTornRecord}
use Rattle.bc_remains.specs.Means.{Means}
use Rattle.bc_remains.specs.Apart.{HasApartUses}
use Rattle.bc_remains.specs.Opens.{AreAlike, Opens}

-- it was read as the durable entry meant it, or as the sealed one, which a crash may find
abbrev pub IsLeft : Geometry → State → Reading → Type 0
IsLeft g st r =
    let a = st.places.records in
    Means g r a.newest a.older a.index (st.buckets st.durable_chain) (st.gens st.durable_chain)
    ⊎ (IsReady a.stage
    × Means g r a.entry (live a.entry.last_seq (a.newest ∷ a.older)) (a.entry.keys ++ a.index)
    (st.buckets st.sealed_chain) (st.gens st.sealed_chain))

-- the run of a device's metadata from an opening, of which no torn record matched by chance
pub record IsRunOf (g : Geometry) (w : Layout) (o : Opening) (acts : List Act) : Type 0 where
  pub layout : IsLayoutOf g w
  pub sound : IsSound w o
  pub run : IsRun w (opened w o) acts
  pub no_torn : NoTornRecord g o.image (reached w o acts).places

abbrev pub LawCrash : Type 0
LawCrash =
    (g : Geometry) (w : Layout) (o : Opening) (acts : List Act) → IsRunOf g w o acts
    → (image : Image) → MayLeave (reached w o acts).places.device image
    → (r : Reading) × IsReading g image r × IsLeft g (reached w o acts) r

-- there is an opening of the image that is what was read
pub record IsOpened (g : Geometry) (w : Layout) (image : Image) (r : Reading) : Type 0 where
  pub opening : Opening
  pub image_is : opening.image ≡ image
  pub sound : IsSound w opening
  pub opens : Opens g w r opening

-- so each such image is opened again, as what a reader finds there
abbrev pub LawNext : Type 0
LawNext =
    (g : Geometry) (w : Layout) (o : Opening) (acts : List Act) → IsRunOf g w o acts
    → (image : Image) → MayLeave (reached w o acts).places.device image
    → (r : Reading) × IsReading g image r × IsLeft g (reached w o acts) r × IsOpened g w image r

-- each sound pair with a cache is opened
abbrev pub LawOpened : Type 0
LawOpened =
    (p : Pair) (v : View) (w : Layout) → IsView p v → HasSoundParts p v → IsLayoutOf v.geometry w
    → IsOpened v.geometry w p.cache v.reading

-- in one way
abbrev pub LawOne : Type 0
LawOne = (g : Geometry) (w : Layout) (r : Reading) (a b : Opening) → Opens g w r a → Opens g w r b
    → AreAlike w a b

-- Where the opening's image has no entry that counts elsewhere than where it is read, no such image
-- has.
abbrev pub LawNoStray : Type 0
LawNoStray =
    (g : Geometry) (w : Layout) (o : Opening) (acts : List Act) → IsRunOf g w o acts
    → (before : Reading) → IsReading g o.image before → HasNoStrayEntry g o.image before
    → (image : Image) → MayLeave (reached w o acts).places.device image
    → (r : Reading) → IsReading g image r → HasNoStrayEntry g image r

-- the uses of buckets, as far as metadata tells of them
abbrev pub LawApart : Type 0
LawApart =
    (g : Geometry) (w : Layout) (o : Opening) (acts : List Act) → IsRunOf g w o acts
    → (image : Image) → MayLeave (reached w o acts).places.device image
    → (r : Reading) → IsReading g image r → HasApartUses g r

-- the pair that was made anew
abbrev pub LawFormatted : Type 0
LawFormatted =
    (p : Pair) (b : BackingSuper) (c : CacheSuper) (g : Geometry) (w : Layout) → IsFormatted p b c g
    → HasSuperblocks b c → IsLayoutOf g w
    → (r : Reading) × IsReading g p.cache r × IsOpened g w p.cache r
