-- The same in the order of time, oldest entry first, as the entries of a pass stand.
use Rattle.std.specs.Prelude.{List, [], ◌∷◌}
use Rattle.bc_model.specs.Sector.{Image, unless}
use Rattle.bc_model.specs.History.{gives, IsRight}
use Rattle.bc_model.specs.declared.history.Entry.{Entry}

-- the image after one entry
abbrev pub image_after : Image → Entry → Image
image_after image e s = unless (gives e s) (image s)

-- the image after all entries
abbrev pub now_of : Image → List Entry → Image
now_of opening [] = opening
now_of opening (e ∷ es) = now_of (image_after opening e) es

abbrev pub IsLegalOf : Image → List Entry → Type 0
IsLegalOf opening [] = Unit {0}
IsLegalOf opening (e ∷ es) = IsRight e opening × IsLegalOf (image_after opening e) es
