-- What is read from words: the command that they spell; nothing only where they spell none, or where memory ran out.
use Rattle.std.specs.Prelude.{◌≡◌, List, [], Option, Some, None, Result, Ok, Err}
use Rattle.clap.specs.Words.{Row, Text, fault_of}
use Rattle.bc_words.specs.declared.command.Command.{Command}
use Rattle.bc_words.specs.declared.command.Options.{Options}
use Rattle.bc_words.specs.declared.error.WordsError.{WordsError}
use Rattle.bc_words.specs.declared.error.WordsError.TheVariants.{Usage, Memory}
use Rattle.bc_words.specs.Program.{program}
use Rattle.bc_words.specs.Words.{AreOptions, IsInRange, SaysOptions, SaysValues, Spells, name_of}

-- no command in range is spelled so
abbrev pub SpellsNone : List Text → Type 0
SpellsNone words = (command : Command) → IsInRange command → Spells words command → ⊥

abbrev pub IsCause : List Text → WordsError → Type 0
IsCause words Usage = SpellsNone words
IsCause words Memory = Unit {0}

abbrev pub Reads : List Text → Result Command WordsError → Type 0
Reads words (Ok command) = IsInRange command × Spells words command
Reads words (Err e) = IsCause words e

-- the same of one command's values
abbrev pub ReadsValues : Text → List Row → Option Command → Type 0
ReadsValues name rows None = (command : Command) → IsInRange command → name_of command ≡ name → SaysValues rows command → ⊥
ReadsValues name rows (Some command) = IsInRange command × (name_of command ≡ name) × SaysValues rows command

abbrev pub ReadsOptions : List Row → Option Options → Type 0
ReadsOptions rows None = (options : Options) → AreOptions options → SaysOptions rows options → ⊥
ReadsOptions rows (Some options) = AreOptions options × SaysOptions rows options

-- clap refuses the words, or memory ran out
abbrev pub IsParseCause : List Text → WordsError → Type 0
IsParseCause words Usage = fault_of program words ≡ [] → ⊥
IsParseCause words Memory = Unit {0}
