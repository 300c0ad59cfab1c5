-- What is said of a trace that was served as a whole.
use Rattle.std.specs.Prelude.{◌≡◌, ℕ, ◌+◌, ◌%◌, ◌^◌, Bool, true, false, List, [], ◌∷◌, ◌++◌, length, count_by, sum_by, codes}
use Rattle.std.specs.Fmt.{decimal}
use Rattle.bc_script.specs.declared.line.Action.{Action}
use Rattle.bc_script.specs.declared.line.Action.TheVariants.{Write, ForcedWrite, Read, Flush, Round}
use Rattle.bc_script.specs.declared.line.Line.{Line}
use Rattle.bc_script.specs.declared.line.Line.TheVariants as line
use Rattle.bc_script.specs.declared.answer.Answer.{Answer}
use Rattle.bc_script.specs.declared.answer.Answer.TheVariants.{Silent, Done, Runs, Refused}
use Rattle.bc_script.specs.declared.seen.Seen.{Seen}
use Rattle.bc_script.specs.declared.seen.Seen.TheVariants.{Stamp, Zero, Other}
use Rattle.bc_script.specs.declared.summary.Summary.{Summary}
use Rattle.bc_script.specs.Runs.{AreSeen}

abbrev pub writes : Action → Bool
writes (Write first count stamp) = true
writes (ForcedWrite first count stamp) = true
writes (Read first count) = false
writes Flush = false
writes (Round round) = false

abbrev pub reads : Action → Bool
reads (Write first count stamp) = false
reads (ForcedWrite first count stamp) = false
reads (Read first count) = true
reads Flush = false
reads (Round round) = false

abbrev pub flushes : Action → Bool
flushes (Write first count stamp) = false
flushes (ForcedWrite first count stamp) = false
flushes (Read first count) = false
flushes Flush = true
flushes (Round round) = false

-- the line asks for such an action
abbrev pub asks : (Action → Bool) → Line → Bool
asks kind line.Silent = false
asks kind (line.Request worker phase action) = kind action

abbrev pub is_refused : Answer → Bool
is_refused Silent = false
is_refused Done = false
is_refused (Runs first values) = false
is_refused (Refused refusal) = true

-- the stamp where a sector holds its pattern
abbrev pub stamp_of : Seen → ℕ
stamp_of (Stamp stamp) = stamp
stamp_of Zero = 0
stamp_of (Other value) = 0

-- the stamps of the sectors that were read come to this
abbrev pub SumsTo : Answer → ℕ → Type 0
SumsTo Silent n = n ≡ 0
SumsTo Done n = n ≡ 0
SumsTo (Runs first values) n = (seen : List Seen) × AreSeen first values seen × (n ≡ sum_by stamp_of seen)
SumsTo (Refused refusal) n = n ≡ 0

abbrev pub AllSumTo : List Answer → ℕ → Type 0
AllSumTo [] n = n ≡ 0
AllSumTo (answer ∷ answers) n = (here behind : ℕ) × SumsTo answer here × AllSumTo answers behind × (n ≡ here + behind)

pub record IsSummary (lines : List Line) (answers : List Answer) (s : Summary) : Type 0 where
  pub lines_are : s.lines ≡ length lines
  pub writes_are : s.writes ≡ count_by (asks writes) lines
  pub reads_are : s.reads ≡ count_by (asks reads) lines
  pub flushes_are : s.flushes ≡ count_by (asks flushes) lines
  pub refused_are : s.refused ≡ count_by is_refused answers
  -- the sum counts modulo 2 ^ 64
  pub sum_is : (total : ℕ) × AllSumTo answers total × (s.sum ≡ total % 2 ^ 64)

abbrev pub summary_text : Summary → List ℕ
summary_text s = codes "lines " ++ (decimal s.lines ++ (codes " writes " ++ (decimal s.writes ++ (codes " reads " ++ (decimal s.reads
    ++ (codes " flushes " ++ (decimal s.flushes ++ (codes " refused " ++ (decimal s.refused ++ (codes " sum " ++ decimal s.sum))))))))))
