-- A trace as far as it was read.
use Rattle.std.specs.Prelude.{◌≡◌, ℕ, ◌+◌, ◌*◌, ◌<◌, ◌≤◌, List, [], ◌++◌, length}
use Rattle.bc_script.specs.declared.draft.Draft.{Draft}
use Rattle.bc_script.specs.declared.line.Line.{Line}
use Rattle.bc_script.specs.declared.script.TraceError.{TraceError}
use Rattle.bc_script.specs.declared.script.TraceError.TheVariants.{Script, Fault, Memory}
use Rattle.bc_script.specs.Trace.{lines_of, HasNoNewline, SpellTo, most_lines, IsTrace, IsFirstRefused}

-- whole lines, the phase behind them, and the front of the next line
pub record IsDraft (lines : List Line) (phase : ℕ) (part : List ℕ) : Type 0 where
  pub trace : IsTrace lines
  pub risen : phase ≤ length lines
  pub short : length part ≤ 80
  pub full : length lines ≡ most_lines → part ≡ []

-- what is still to be read of the text is the rest of the line that the part begins, and what follows it
abbrev pub IsSoFar : List ℕ → List Line → ℕ → List ℕ → List ℕ → Type 0
IsSoFar text lines phase part left = (front : List (List ℕ)) × (lines_of text ≡ front ++ lines_of (part ++ left)) × SpellTo 0 front lines phase × HasNoNewline part

-- at most so many bytes were read
abbrev pub bytes_read : List Line → List ℕ → ℕ
bytes_read lines part = 81 * length lines + length part

-- nothing has come
pub record IsEmpty (draft : Draft) : Type 0 where
  pub lines_are : draft.lines.items ≡ []
  pub phase_is : draft.phase ≡ 0
  pub part_is : draft.part.items ≡ []

-- the same of a draft
abbrev pub IsValid : Draft → Type 0
IsValid draft = IsDraft draft.lines.items draft.phase draft.part.items

-- the same where this is the part
abbrev pub Reaches : List ℕ → Draft → List ℕ → List ℕ → Type 0
Reaches text draft part left = IsSoFar text draft.lines.items draft.phase part left

abbrev pub Continues : List ℕ → Draft → List ℕ → Type 0
Continues text draft left = Reaches text draft draft.part.items left

abbrev pub size_of : Draft → ℕ
size_of draft = bytes_read draft.lines.items draft.part.items

abbrev pub line_count : Draft → ℕ
line_count draft = length draft.lines.items

-- why no more is read
abbrev pub Stops : List ℕ → TraceError → Type 0
Stops text (Script e) = IsFirstRefused text e
Stops text Fault = ⊥
Stops text Memory = Unit {0}

abbrev pub IsAfter : ℕ → TraceError → Type 0
IsAfter lines (Script e) = lines < e.line
IsAfter lines Fault = ⊥
IsAfter lines Memory = Unit {0}
