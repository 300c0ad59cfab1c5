-- What a line may ask for.
use Rattle.std.specs.Prelude.{◌≡◌, ℕ, ◌≤◌, ◌<◌, ◌^◌}
use Rattle.bc_script.specs.declared.form.Form.{Form}
use Rattle.bc_script.specs.declared.form.Form.TheVariants.{Quiet, PhaseEnd, Asked}
use Rattle.bc_script.specs.declared.line.Action.{Action}
use Rattle.bc_script.specs.declared.line.Action.TheVariants.{Write, ForcedWrite, Read, Flush, Round}
use Rattle.bc_script.specs.declared.line.Line.{Line}
use Rattle.bc_script.specs.declared.line.Line.TheVariants.{Silent, Request}

abbrev pub IsRange : ℕ → ℕ → Type 0
IsRange first count = (first ≤ 2 ^ 40) × (1 ≤ count) × (count ≤ 2048)

abbrev pub IsProper : Action → Type 0
IsProper (Write first count stamp) = IsRange first count × (1 ≤ stamp) × (stamp < 2 ^ 64)
IsProper (ForcedWrite first count stamp) = IsRange first count × (1 ≤ stamp) × (stamp < 2 ^ 64)
IsProper (Read first count) = IsRange first count
IsProper Flush = Unit {0}
IsProper (Round round) = Unit {0}

abbrev pub IsProperForm : Form → Type 0
IsProperForm Quiet = Unit {0}
IsProperForm PhaseEnd = Unit {0}
IsProperForm (Asked worker action) = (1 ≤ worker) × (worker ≤ 16) × IsProper action

-- a request that is served: so far of the first worker
pub record IsRequest (worker : ℕ) (action : Action) : Type 0 where
  pub worker_is : worker ≡ 1
  pub proper : IsProper action

abbrev pub IsLine : Line → Type 0
IsLine Silent = Unit {0}
IsLine (Request worker phase action) = IsRequest worker action
