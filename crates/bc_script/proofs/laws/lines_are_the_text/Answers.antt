use Rattle.bc_script.proofs.OneReading.{joined, apart}
use Rattle.bc_script.proofs.laws.lines_are_the_text.Goals as goal

pub returns-clause-joined : goal.returns-clause-joined
returns-clause-joined c = joined

pub returns-clause-apart : goal.returns-clause-apart
returns-clause-apart c = apart
