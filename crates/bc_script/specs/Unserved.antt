-- What of the grammar isn't served as yet. The test goes when what it finds is served.
use Rattle.std.specs.Prelude.{Bool, true, false, not, ◌==◌, if◌then◌else◌, Ok, Err, List, ℕ}
use Rattle.bc_script.specs.declared.form.Form.{Form}
use Rattle.bc_script.specs.declared.form.Form.TheVariants.{Quiet, PhaseEnd, Asked}
use Rattle.bc_script.specs.declared.reason.Reason.TheVariants.{Worker}
use Rattle.bc_script.specs.Line.{Reads, ◌>>=◌, form_in}

-- workers 2 to 16
abbrev pub is_of_other_worker : Form → Bool
is_of_other_worker Quiet = false
is_of_other_worker PhaseEnd = false
is_of_other_worker (Asked worker action) = not (worker == 1)

-- the form, where it is served
abbrev pub if_served : Form → Reads Form
if_served form = if is_of_other_worker form then Err Worker else Ok form

-- what the text of a line that is served says
unfoldable pub line_in : List ℕ → Reads Form
line_in text = form_in text >>= if_served
