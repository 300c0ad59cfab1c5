-- What a trace is answered where nothing fails: a function of its lines and of what the sectors showed before it.
use Rattle.std.specs.Prelude.{◌≡◌, ◌⊎◌, ℕ, zero, suc, ◌+◌, List, [], ◌∷◌, if◌then◌else◌, nat_le}
use Rattle.bc_model.specs.Sector.{Value, Image, at_run, unless}
use Rattle.bc_model.specs.Values.{patterns}
use Rattle.bc_script.specs.declared.line.Action.{Action}
use Rattle.bc_script.specs.declared.line.Action.TheVariants.{Write, ForcedWrite, Read, Flush, Round}
use Rattle.bc_script.specs.declared.line.Line.{Line}
use Rattle.bc_script.specs.declared.line.Line.TheVariants as line
use Rattle.bc_script.specs.declared.answer.Answer.{Answer}
use Rattle.bc_script.specs.declared.answer.Answer.TheVariants.{Silent, Done, Runs, Refused}
use Rattle.bc_script.specs.declared.answer.Refusal.TheVariants.{OutOfRange}
use Rattle.bc_script.specs.Served.{IsInside, IsOutside}

-- a request in range was served, and one out of range is said to be so
abbrev pub IsAsked : ℕ → Action → Answer → Type 0
IsAsked size (Write first count stamp) answer = (IsInside size first count × (answer ≡ Done)) ⊎ (IsOutside size first count × (answer ≡ Refused OutOfRange))
IsAsked size (ForcedWrite first count stamp) answer = (IsInside size first count × (answer ≡ Done)) ⊎ (IsOutside size first count × (answer ≡ Refused OutOfRange))
IsAsked size (Read first count) answer = (IsInside size first count × ((values : List Value) × (answer ≡ Runs first values))) ⊎ (IsOutside size first count × (answer ≡ Refused OutOfRange))
IsAsked size Flush answer = answer ≡ Done
IsAsked size (Round round) answer = answer ≡ Done

-- so was a line
abbrev pub IsAnswered : ℕ → Line → Answer → Type 0
IsAnswered size line.Silent answer = answer ≡ Silent
IsAnswered size (line.Request worker phase action) answer = IsAsked size action answer

abbrev pub AllAnswered : ℕ → List Line → List Answer → Type 0
AllAnswered size [] [] = Unit {0}
AllAnswered size [] (answer ∷ answers) = ⊥
AllAnswered size (l ∷ lines) [] = ⊥
AllAnswered size (l ∷ lines) (answer ∷ answers) = IsAnswered size l answer × AllAnswered size lines answers

-- what so many sectors from the first on show
abbrev pub shown : Image → ℕ → ℕ → List Value
shown image first zero = []
shown image first (suc n) = image first ∷ shown image (suc first) n

-- what the sectors show once the patterns of a stamp were written to a range
abbrev pub written : ℕ → ℕ → ℕ → Image → Image
written stamp first count image s = unless (at_run first (patterns stamp first count) s) (image s)

-- what they show behind a request: one out of range writes nothing
abbrev pub shown_behind : ℕ → Action → Image → Image
shown_behind size (Write first count stamp) image = if nat_le (first + count) size then written stamp first count image else image
shown_behind size (ForcedWrite first count stamp) image = if nat_le (first + count) size then written stamp first count image else image
shown_behind size (Read first count) image = image
shown_behind size Flush image = image
shown_behind size (Round round) image = image

abbrev pub shown_after : ℕ → Line → Image → Image
shown_after size line.Silent image = image
shown_after size (line.Request worker phase action) image = shown_behind size action image

-- what a request is answered
abbrev pub asked_answer : ℕ → Action → Image → Answer
asked_answer size (Write first count stamp) image = if nat_le (first + count) size then Done else Refused OutOfRange
asked_answer size (ForcedWrite first count stamp) image = if nat_le (first + count) size then Done else Refused OutOfRange
asked_answer size (Read first count) image = if nat_le (first + count) size then Runs first (shown image first count) else Refused OutOfRange
asked_answer size Flush image = Done
asked_answer size (Round round) image = Done

abbrev pub answer_of : ℕ → Line → Image → Answer
answer_of size line.Silent image = Silent
answer_of size (line.Request worker phase action) image = asked_answer size action image

-- what all lines are, one after the other
abbrev pub answers_of : ℕ → List Line → Image → List Answer
answers_of size [] image = []
answers_of size (l ∷ lines) image = answer_of size l image ∷ answers_of size lines (shown_after size l image)
