use Rattle.bc_image.proofs.Unique.{one_reading, one_view, one_shown}
use Rattle.bc_image.proofs.laws.one_shown.Goals as goal

pub returns-clause-reading : goal.returns-clause-reading
returns-clause-reading c = one_reading

pub returns-clause-view : goal.returns-clause-view
returns-clause-view c = one_view

pub returns-clause-shown : goal.returns-clause-shown
returns-clause-shown c = one_shown
