-- What follows of an opening's keys.
use Rattle.bc_key.specs.declared.key.Key.{Key}
use Rattle.bc_leaves.specs.Parts as parts
use Rattle.bc_super.specs.Super.{data_sectors}
use Rattle.bc_image.specs.Pair.{Pair}
use Rattle.bc_image.specs.Reading.{View}
use Rattle.bc_image.specs.Sound.{IsDataKey}
use Rattle.bc_whole.specs.State.{Opening}
use Rattle.bc_origin.specs.Keys.{WasThere}
use Rattle.bc_opened.specs.Opening.{IsSoundOpeningOf}

-- each lies in data whole, and is of data that the backing device has
abbrev pub LawOldKeys : Type 0
LawOldKeys =
    (p : Pair) (v : View) (w : Opening) (x : parts.State) → IsSoundOpeningOf p v w x
    → (key : Key) → WasThere w key
    → IsDataKey v.geometry (data_sectors p.backing_sectors v.backing) key
