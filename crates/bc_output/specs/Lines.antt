-- The lines of answers.
use Rattle.std.specs.Prelude.{◌≡◌, ℕ, Bool, true, false, ◌||◌, List, [], ◌∷◌, ◌++◌, codes}
use Rattle.bc_disk.specs.Stream.{StreamFacts}
use Rattle.bc_script.specs.declared.answer.Answer.{Answer}
use Rattle.bc_script.specs.declared.answer.Answer.TheVariants.{Silent}
use Rattle.bc_script.specs.Answer.{IsText}
use Rattle.bc_script.specs.Trace.{ended}
use Rattle.bc_output.specs.declared.put.WriteFault.{WriteFault}
use Rattle.bc_output.specs.Put.{Takes, IsWriteFault}

-- the line of an answer: its text and a newline, and nothing where nothing was asked for
abbrev pub IsLineOf : Answer → List ℕ → Type 0
IsLineOf Silent line = line ≡ []
IsLineOf answer line = (text : List ℕ) × IsText answer text × (line ≡ ended text)

-- the lines of these answers, one behind the other
abbrev pub AreLines : List Answer → List ℕ → Type 0
AreLines [] text = text ≡ []
AreLines (answer ∷ answers) text = (line rest : List ℕ) × IsLineOf answer line
    × AreLines answers rest × (text ≡ line ++ rest)

-- the line that is put where no memory is found for the text of an answer
abbrev pub memory_line : List ℕ
memory_line = ended (codes "memory")

-- what is put for an answer: its line, or, where no memory was found for it, the other one
abbrev pub StandsFor : Bool → Answer → List ℕ → Type 0
StandsFor false answer line = IsLineOf answer line
StandsFor true answer line = (line ≡ memory_line) × (answer ≡ Silent → ⊥)

-- something is printed for the first of these answers
abbrev pub IsFirstLoud : List Answer → Type 0
IsFirstLoud [] = Unit {0}
IsFirstLoud (answer ∷ answers) = answer ≡ Silent → ⊥

-- what is put for these answers, one line behind the other, and whether no memory was found for one
-- of them
abbrev pub StandForAll : Bool → List Answer → List ℕ → Type 0
StandForAll missed [] text = (missed ≡ false) × (text ≡ [])
StandForAll missed (answer ∷ answers) text = (here behind : Bool) × (line rest : List ℕ)
    × StandsFor here answer line × StandForAll behind answers rest × (missed ≡ here || behind)
    × (text ≡ line ++ rest)

-- the lines of the first answers were taken whole, and a write fault came in what was put for the
-- next ones
pub record IsCut (missed : Bool) (cause : WriteFault) (answers : List Answer)
    (old new : StreamFacts) : Type 0 where
  pub first : List Answer
  pub next : List Answer
  pub others : List Answer
  pub split : answers ≡ first ++ (next ++ others)
  -- what was put for the first ones, and what for the next ones
  pub text : List ℕ
  pub line : List ℕ
  -- whether no memory was found for one of the first ones, and for one of the next ones
  pub before : Bool
  pub here : Bool
  pub lines : StandForAll before first text
  pub stands : StandForAll here next line
  pub either : missed ≡ before || here
  pub between : StreamFacts
  pub taken : Takes text old between
  pub fault : IsWriteFault cause line between new
