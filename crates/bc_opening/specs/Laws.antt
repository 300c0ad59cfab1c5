-- Each sound pair with a cache is opened, in one way by each choice.
use Rattle.bc_meta.specs.Layout.{Layout}
use Rattle.bc_leaves.specs.Parts as parts
use Rattle.bc_facts.specs.Layout.{IsLayoutOf}
use Rattle.bc_image.specs.NewPair.{new_pair}
use Rattle.bc_image.specs.Pair.{Pair}
use Rattle.bc_image.specs.Reading.{View, IsView}
use Rattle.bc_image.specs.Sound.{HasSoundParts}
use Rattle.bc_whole.specs.State.{Opening}
use Rattle.bc_known.specs.Laws.{IsSound}
use Rattle.bc_opening.specs.Choices.{Choices, MayBeChosen}
use Rattle.bc_opening.specs.Opening.{IsOpeningOf}
use Rattle.bc_opening.specs.Alike.{AreSame}

abbrev pub LawOpening : Type 0
LawOpening =
    (p : Pair) (v : View) (layout : Layout) (c : Choices) → IsView p v → HasSoundParts p v
    → IsLayoutOf v.geometry layout → MayBeChosen v.geometry v.reading c
    → (w : Opening) × (x : parts.State) × IsOpeningOf p v layout c w x × IsSound w x

abbrev pub LawOne : Type 0
LawOne =
    (p : Pair) (v : View) (layout : Layout) (c : Choices) (a b : Opening) (x y : parts.State)
    → IsOpeningOf p v layout c a x → IsOpeningOf p v layout c b y
    → AreSame v.geometry v.reading layout a x b y

-- there always is something to choose
abbrev pub LawChoices : Type 0
LawChoices =
    (p : Pair) (v : View) → IsView p v → HasSoundParts p v
    → (c : Choices) × MayBeChosen v.geometry v.reading c

-- the machine opened on the small pair that was made anew
abbrev pub HasExample : Type 0
HasExample = (v : View) × (layout : Layout) × (c : Choices) × IsView new_pair v
    × MayBeChosen v.geometry v.reading c
    × ((w : Opening) × (x : parts.State) × IsOpeningOf new_pair v layout c w x × IsSound w x)
