-- The text of a trace, and how it is read.
use Rattle.std.specs.Prelude.{◌≡◌, ◌≢◌, ◌⊎◌, ℕ, suc, ◌+◌, ◌*◌, ◌<◌, ◌≤◌, List, [], ◌∷◌, ◌++◌, length, All, if◌then◌else◌, ◌==◌, Ok, Err}
use Rattle.std.specs.List.{onto_first}
use Rattle.bc_disk.specs.Device.{HasRisen}
use Rattle.bc_disk.specs.Stream.{StreamFacts, BothToldText}
use Rattle.bc_script.specs.declared.form.Form.{Form}
use Rattle.bc_script.specs.declared.form.Form.TheVariants.{Quiet, PhaseEnd, Asked}
use Rattle.bc_script.specs.declared.line.Line.{Line}
use Rattle.bc_script.specs.declared.line.Line.TheVariants.{Silent, Request}
use Rattle.bc_script.specs.declared.reason.Reason.{Reason}
use Rattle.bc_script.specs.declared.reason.Reason.TheVariants.{TooMany}
use Rattle.bc_script.specs.declared.script.ScriptError.{ScriptError}
use Rattle.bc_script.specs.declared.script.TraceError.{TraceError}
use Rattle.bc_script.specs.declared.script.TraceError.TheVariants.{Script, Fault, Memory}
use Rattle.bc_script.specs.Proper.{IsLine}
use Rattle.bc_script.specs.Unserved.{line_in}

-- the lines of a text, each without its newline; the last may lack it
abbrev pub lines_of : List ℕ → List (List ℕ)
lines_of [] = []
lines_of (b ∷ bs) = if b == 10 then [] ∷ lines_of bs else onto_first b (lines_of bs)

-- a line with a newline behind it
abbrev pub ended : List ℕ → List ℕ
ended line = line ++ 10 ∷ []

abbrev pub HasNoNewline : List ℕ → Type 0
HasNoNewline [] = Unit {0}
HasNoNewline (b ∷ bs) = (b ≢ 10) × HasNoNewline bs

-- ---- phases: each `-` ends one

-- the line that has this form in this phase
abbrev pub line_of : ℕ → Form → Line
line_of phase Quiet = Silent
line_of phase PhaseEnd = Silent
line_of phase (Asked worker action) = Request worker phase action

abbrev pub phase_after : ℕ → Form → ℕ
phase_after phase Quiet = phase
phase_after phase PhaseEnd = suc phase
phase_after phase (Asked worker action) = phase

-- the texts spell these lines, from one phase to another
abbrev pub SpellTo : ℕ → List (List ℕ) → List Line → ℕ → Type 0
SpellTo phase [] [] end = phase ≡ end
SpellTo phase (text ∷ texts) (line ∷ lines) end = (form : Form) × (line_in text ≡ Ok form) × (line ≡ line_of phase form) × SpellTo (phase_after phase form) texts lines end
SpellTo phase [] (line ∷ lines) end = ⊥
SpellTo phase (text ∷ texts) [] end = ⊥

-- the texts spell these lines, one after the other
abbrev pub SpellAll : List (List ℕ) → List Line → Type 0
SpellAll texts lines = (end : ℕ) × SpellTo 0 texts lines end

-- ---- traces

-- the most lines of a trace
abbrev pub most_lines : ℕ
most_lines = 262144

-- the lines of a trace: not too many, and each of them one that may stand there
pub record IsTrace (lines : List Line) : Type 0 where
  pub few : length lines ≤ most_lines
  pub proper : All IsLine lines

-- behind so many lines this one is refused: it is one too many, or its text is refused
abbrev pub IsRefused : ℕ → List ℕ → Reason → Type 0
IsRefused before text why = ((before ≡ most_lines) × (why ≡ TooMany)) ⊎ ((before < most_lines) × (line_in text ≡ Err why))

-- of the lines of the text the one with this number, counted from 1, is the first that is refused
pub record IsFirstRefused (text : List ℕ) (e : ScriptError) : Type 0 where
  -- the lines before it, which spell these, the one that is refused, and those after it
  pub before : List (List ℕ)
  pub spelled : List Line
  pub refused : List ℕ
  pub after : List (List ℕ)
  pub parts : lines_of text ≡ before ++ refused ∷ after
  pub spells : SpellAll before spelled
  pub cause : IsRefused (length before) refused e.why
  pub line : e.line ≡ suc (length before)

-- so much of the old text was taken at most
abbrev pub TakesAtMost : ℕ → List ℕ → List ℕ → Type 0
TakesAtMost most old new = (taken : List ℕ) × (old ≡ taken ++ new) × (length taken ≤ most)

-- why no script was read
abbrev pub IsCause : StreamFacts → StreamFacts → TraceError → Type 0
IsCause old new (Script e) = BothToldText (λ text left. IsFirstRefused text e × TakesAtMost (81 * e.line + 4095) text left) old.text new.text × (new.faults ≡ old.faults)
IsCause old new Fault = HasRisen old.faults new.faults
IsCause old new Memory = new.faults ≡ old.faults

-- the source was read to its end, and its text spells these lines
abbrev pub IsWhole : StreamFacts → StreamFacts → List Line → Type 0
IsWhole old new lines = BothToldText (λ text left. (left ≡ []) × SpellAll (lines_of text) lines) old.text new.text × (new.faults ≡ old.faults)
