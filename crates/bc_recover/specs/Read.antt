-- The pair of which a survey tells.
use Rattle.bc_image.specs.Pair.{Pair}
use Rattle.bc_replay.specs.Parts.{AreParts}
use Rattle.bc_replay.specs.Survey.{HasSurvey}
use Rattle.bc_replay.specs.declared.held.Survey.{Survey}

-- the survey has what was read of the pair
abbrev pub IsReadOf : Survey → Pair → Type 0
IsReadOf s p = HasSurvey p s.supers.backing s.supers.cache s.supers.geometry s.journal s.gens s.seen.items s.index.keys s.uses.items

-- the survey's parts fit each other, as each survey's do
abbrev pub HasParts : Survey → Type 0
HasParts s = AreParts s.supers.geometry s.journal s.gens s.uses.items
