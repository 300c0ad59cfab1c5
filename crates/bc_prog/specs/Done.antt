-- What a command that was done has done.
use Rattle.std.specs.Prelude.{◌≡◌, ℕ, List}
use Rattle.bc_model.specs.declared.history.Entry.{Entry}
use Rattle.bc_disk.specs.Stream.{StreamFacts}
use Rattle.bc_script.specs.Trace.{IsTrace, IsWhole}
use Rattle.bc_script.specs.Served.{Served}
use Rattle.bc_script.specs.declared.line.Line.{Line}
use Rattle.bc_script.specs.declared.answer.Answer.{Answer}
use Rattle.bc_output.specs.Lines.{AreLines}
use Rattle.bc_output.specs.Put.{Takes}
use Rattle.bc_top.specs.Top.{AskNothing, WasReadAs}

-- the trace was read to its end, its lines were served over so many data sectors and with this
-- history, and the sink has taken the lines of the answers
pub record IsDone (source left before after : StreamFacts) : Type 0 where
  pub lines : List Line
  pub trace : IsTrace lines
  pub whole : IsWhole source left lines
  pub size : ℕ
  pub answers : List Answer
  pub history : List Entry
  pub served : Served size lines answers history
  pub text : List ℕ
  pub printed : AreLines answers text
  pub taken : Takes text before after

-- the trace was read to its end and asks for nothing, and nothing was put: a pair was opened and
-- closed
abbrev pub HasAskedNothing : StreamFacts → StreamFacts → StreamFacts → StreamFacts → Type 0
HasAskedNothing source left before after =
    WasReadAs AskNothing source left × (after ≡ before)
