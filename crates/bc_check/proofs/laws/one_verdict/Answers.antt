use Rattle.bc_check.proofs.Verdicts.{one_verdict as only_one, never_refused as refuses_none}
use Rattle.bc_check.proofs.laws.one_verdict.Goals as goal

pub returns-clause-one : goal.returns-clause-one
returns-clause-one c = only_one

pub returns-clause-never_refused : goal.returns-clause-never_refused
returns-clause-never_refused c = refuses_none
