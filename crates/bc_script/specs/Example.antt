-- A trace of three lines over a device of 64 sectors of zeros: a write, a read that sees it, and a flush.
use Rattle.std.specs.Prelude.{ℕ, List, [], ◌∷◌, ◌++◌}
use Rattle.bc_model.specs.Sector.{Value}
use Rattle.bc_model.specs.Pattern.{zeros}
use Rattle.bc_model.specs.Values.{patterns}
use Rattle.bc_model.specs.declared.history.Entry.{Entry}
use Rattle.bc_model.specs.declared.history.Entry.TheVariants.{Write as WriteEntry, Read as ReadEntry, FlushFrom, FlushDone, Durable, Tried}
use Rattle.bc_disk.specs.declared.disk.Device.TheVariants.{Backing}
use Rattle.bc_script.specs.declared.line.Action.TheVariants.{Write, ForcedWrite, Read, Flush}
use Rattle.bc_script.specs.declared.line.Line.{Line}
use Rattle.bc_script.specs.declared.line.Line.TheVariants.{Silent as SilentLine, Request}
use Rattle.bc_script.specs.declared.answer.Answer.{Answer}
use Rattle.bc_script.specs.declared.answer.Answer.TheVariants.{Silent, Done, Runs, Refused}
use Rattle.bc_script.specs.declared.answer.Refusal.TheVariants.{Fault}

-- `1 w 0 8 7`, `1 r 0 10` and `1 f`
abbrev pub example_lines : List Line
example_lines = Request 1 0 (Write 0 8 7) ∷ Request 1 0 (Read 0 10) ∷ Request 1 0 Flush ∷ []

abbrev pub example_values : List Value
example_values = patterns 7 0 8 ++ zeros ∷ zeros ∷ []

abbrev pub example_answers : List Answer
example_answers = Done ∷ Runs 0 example_values ∷ Done ∷ []

-- up to the flush's end, and the whole
abbrev pub unfinished_history : List Entry
unfinished_history = WriteEntry 1 1 0 (patterns 7 0 8) ∷ ReadEntry 1 2 0 example_values ∷ FlushFrom 1 3 ∷ []

abbrev pub example_history : List Entry
example_history = WriteEntry 1 1 0 (patterns 7 0 8) ∷ ReadEntry 1 2 0 example_values ∷ FlushFrom 1 3 ∷ FlushDone 1 3 ∷ []

-- ---- two workers beside each other, and a phase behind them

-- `1 w 0 8 7`, `2 W 8 8 9`, `-` and `1 r 0 16`
abbrev pub beside_lines : List Line
beside_lines = Request 1 0 (Write 0 8 7) ∷ Request 2 0 (ForcedWrite 8 8 9) ∷ SilentLine ∷ Request 1 1 (Read 0 16) ∷ []

abbrev pub beside_values : List Value
beside_values = patterns 7 0 8 ++ patterns 9 8 8

abbrev pub beside_answers : List Answer
beside_answers = Done ∷ Done ∷ Silent ∷ Runs 0 beside_values ∷ []

-- the entries of line 2 stand round that of line 1
abbrev pub beside_history : List Entry
beside_history = WriteEntry 2 2 8 (patterns 9 8 8) ∷ WriteEntry 1 1 0 (patterns 7 0 8) ∷ Durable 2 2 8 8 ∷ ReadEntry 1 4 0 beside_values ∷ []

-- what was written isn't acknowledged
abbrev pub undurable_history : List Entry
undurable_history = WriteEntry 2 2 8 (patterns 9 8 8) ∷ WriteEntry 1 1 0 (patterns 7 0 8) ∷ ReadEntry 1 4 0 beside_values ∷ []

-- ---- phases

-- `1 w 0 8 7`, `-` and `2 r 0 8`
abbrev pub phase_lines : List Line
phase_lines = Request 1 0 (Write 0 8 7) ∷ SilentLine ∷ Request 2 1 (Read 0 8) ∷ []

abbrev pub phase_answers : List Answer
phase_answers = Done ∷ Silent ∷ Runs 0 (patterns 7 0 8) ∷ []

abbrev pub phase_history : List Entry
phase_history = WriteEntry 1 1 0 (patterns 7 0 8) ∷ ReadEntry 2 3 0 (patterns 7 0 8) ∷ []

-- the read of the second phase stands before the write of the first
abbrev pub broken_history : List Entry
broken_history = ReadEntry 2 3 0 (patterns 7 0 8) ∷ WriteEntry 1 1 0 (patterns 7 0 8) ∷ []

-- ---- a refused piece

-- `1 w 250 16 7`, whose second piece the backing device refused
abbrev pub refused_lines : List Line
refused_lines = Request 1 0 (Write 250 16 7) ∷ []

abbrev pub refused_answers : List Answer
refused_answers = Refused (Fault Backing) ∷ []

abbrev pub refused_history : List Entry
refused_history = WriteEntry 1 1 250 (patterns 7 250 6) ∷ Tried 256 (patterns 7 256 10) ∷ []

-- the piece before the refused one isn't there
abbrev pub missing_history : List Entry
missing_history = Tried 256 (patterns 7 256 10) ∷ []

-- ---- the generator

-- what is drawn from 1 on
abbrev pub ten_heights : List ℕ
ten_heights = 16838 ∷ 5758 ∷ 10113 ∷ 17515 ∷ 31051 ∷ 5627 ∷ 23010 ∷ 7419 ∷ 16212 ∷ 4086 ∷ []

-- and the lines that it makes for one worker over 64 sectors
abbrev pub ten_lines : List Line
ten_lines = Request 1 0 (Read 0 57) ∷ Request 1 0 (Read 0 16) ∷ Request 1 0 (Write 0 49 3) ∷ Request 1 0 (Write 0 14 4) ∷ Request 1 0 (Write 0 42 5)
    ∷ Request 1 0 (Write 0 64 6) ∷ Request 1 0 (Write 0 61 7) ∷ Request 1 0 (Write 0 32 8) ∷ Request 1 0 (Read 0 43) ∷ Request 1 0 (Read 0 63) ∷ []
