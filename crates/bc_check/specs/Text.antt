-- The text by which a checked pair is told.
use Rattle.std.specs.Prelude.{◌≡◌, ℕ, Bool, List, ◌++◌, codes}
use Rattle.std.specs.Fmt.{decimal}
use Rattle.std.specs.List.{flat_map}
use Rattle.bc_image.specs.Pair.{Pair}
use Rattle.bc_replay.specs.declared.uses.Use.{Use}
use Rattle.bc_replay.specs.declared.uses.Use.TheVariants as uses
use Rattle.bc_check.specs.declared.lines.BucketLine.{BucketLine}
use Rattle.bc_check.specs.declared.verdict.Verdict.{Verdict}
use Rattle.bc_check.specs.declared.verdict.Verdict.TheVariants as verdicts
use Rattle.bc_check.specs.Verdict.{IsVerdict, ListsIf}

-- a use, behind a space
abbrev pub use_text : Use → List ℕ
use_text uses.None = codes " none"
use_text uses.Super = codes " super"
use_text uses.Journal = codes " journal"
use_text uses.Priority = codes " priority"
use_text uses.Uuid = codes " uuid"
use_text uses.Node = codes " node"
use_text uses.Data = codes " data"

-- words and a number
abbrev pub number_text : List ℕ → ℕ → List ℕ
number_text words number = words ++ decimal number

abbrev pub used_text : ℕ → Use → List ℕ
used_text bucket kind = number_text (codes "bucket ") bucket ++ use_text kind

abbrev pub live_text : ℕ → ℕ → List ℕ
live_text live dirty = number_text (codes " live ") live ++ number_text (codes " dirty ") dirty

abbrev pub counts_text : BucketLine → List ℕ
counts_text line = number_text (codes " gen ") line.generation ++ live_text line.live line.dirty

-- `bucket N USE gen G live L dirty D`
abbrev pub line_text : BucketLine → List ℕ
line_text line = used_text line.bucket line.kind ++ counts_text line ++ codes "\n"

abbrev pub sound_text : ℕ → ℕ → List ℕ
sound_text dirty clean = number_text (codes "check sound dirty ") dirty ++ number_text (codes " clean ") clean

abbrev pub words_of : Verdict → List ℕ
words_of verdicts.PassThrough = codes "check pass-through"
words_of (verdicts.Sound dirty clean) = sound_text dirty clean
words_of (verdicts.Journal bucket) = number_text (codes "check journal ") bucket
words_of (verdicts.Age sector) = number_text (codes "check age ") sector
words_of (verdicts.Agree sector) = number_text (codes "check agree ") sector

abbrev pub verdict_text : Verdict → List ℕ
verdict_text verdict = words_of verdict ++ codes "\n"

-- a line for each bucket, and then the verdict's
abbrev pub report_text : List BucketLine → Verdict → List ℕ
report_text lines verdict = flat_map line_text lines ++ verdict_text verdict

-- the text says the pair's verdict, and what its buckets hold, where they are asked for
abbrev pub Reports : Bool → Pair → Verdict → List ℕ → Type 0
Reports list p verdict text = IsVerdict p verdict × ((lines : List BucketLine) × ListsIf list p verdict lines × (text ≡ report_text lines verdict))
