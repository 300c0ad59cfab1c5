use Rattle.bc_script.proofs.OneReading.{read_or_refused, one_refused, one_script}
use Rattle.bc_script.proofs.laws.one_reading.Goals as goal

pub returns-clause-read : goal.returns-clause-read
returns-clause-read c = λ text lines e spelled trace refused. read_or_refused text lines e spelled trace.few refused

pub returns-clause-one : goal.returns-clause-one
returns-clause-one c = one_script

pub returns-clause-refused : goal.returns-clause-refused
returns-clause-refused c = one_refused
