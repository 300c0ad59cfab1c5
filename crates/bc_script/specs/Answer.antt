-- The text of an answer, without a newline.
use Rattle.std.specs.Prelude.{◌≡◌, ℕ, ◌+◌, ◌<◌, ◌^◌, List, [], ◌++◌, length, codes}
use Rattle.bc_disk.specs.declared.disk.Device.{Device}
use Rattle.bc_disk.specs.declared.disk.Device.TheVariants.{Cache, Backing}
use Rattle.std.specs.Fmt.{decimal}
use Rattle.bc_script.specs.declared.answer.Asked.{Asked}
use Rattle.bc_script.specs.declared.answer.Asked.TheVariants.{Tree, Moving}
use Rattle.bc_script.specs.declared.answer.Answer.{Answer}
use Rattle.bc_script.specs.declared.answer.Answer.TheVariants.{Silent, Done, Runs, Refused}
use Rattle.bc_script.specs.declared.answer.Refusal.{Refusal}
use Rattle.bc_script.specs.declared.answer.Refusal.TheVariants.{OutOfRange, NoBucket, Fault, Halted, Memory, JournalEnd, Node}
use Rattle.bc_script.specs.declared.seen.Seen.{Seen}
use Rattle.bc_script.specs.Runs.{AreSeen, runs_text}

abbrev pub device_text : Device → List ℕ
device_text Cache = codes "cache"
device_text Backing = codes "backing"

abbrev pub asked_text : Asked → List ℕ
asked_text Tree = codes "tree"
asked_text Moving = codes "moving"

-- two numbers with a space between them
abbrev pub numbers_text : ℕ → ℕ → List ℕ
numbers_text a b = decimal a ++ (codes " " ++ decimal b)

abbrev pub refusal_text : Refusal → List ℕ
refusal_text OutOfRange = codes "out-of-range"
refusal_text (NoBucket purpose none_len own_len) = codes "no-bucket " ++ (asked_text purpose ++ (codes " " ++ numbers_text none_len own_len))
refusal_text (Fault device) = codes "fault " ++ device_text device
refusal_text (Halted device) = codes "halted " ++ device_text device
refusal_text Memory = codes "memory"
refusal_text JournalEnd = codes "journal-end"
refusal_text (Node bucket why) = codes "node " ++ numbers_text bucket why

-- the text says the answer; a line that asked for nothing has none
abbrev pub IsText : Answer → List ℕ → Type 0
IsText Silent text = text ≡ []
IsText Done text = text ≡ codes "done"
IsText (Runs first values) text = (seen : List Seen) × AreSeen first values seen × (text ≡ runs_text seen)
IsText (Refused refusal) text = text ≡ refusal_text refusal

-- its sectors have numbers
abbrev pub IsPrintable : Answer → Type 0
IsPrintable Silent = Unit {0}
IsPrintable Done = Unit {0}
IsPrintable (Runs first values) = first + length values < 2 ^ 64
IsPrintable (Refused refusal) = Unit {0}

-- the new bytes are the old ones and the text of the answer
abbrev pub AppendsText : Answer → List ℕ → List ℕ → Type 0
AppendsText answer old new = (text : List ℕ) × IsText answer text × (new ≡ old ++ text)

-- some bytes came behind the old ones, or none
abbrev pub IsGrown : List ℕ → List ℕ → Type 0
IsGrown old new = (more : List ℕ) × (new ≡ old ++ more)
