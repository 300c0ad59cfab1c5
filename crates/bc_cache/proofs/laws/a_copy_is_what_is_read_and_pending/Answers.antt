use Rattle.bc_cache.proofs.Copies.{copy_is_pending, copy_is_read, read_follows, torn_is_read}
use Rattle.bc_cache.proofs.laws.a_copy_is_what_is_read_and_pending.Goals as goal

pub returns-clause-read : goal.returns-clause-read
returns-clause-read c = copy_is_read

pub returns-clause-pending : goal.returns-clause-pending
returns-clause-pending c = copy_is_pending

pub returns-clause-again : goal.returns-clause-again
returns-clause-again c = read_follows

pub returns-clause-torn : goal.returns-clause-torn
returns-clause-torn c = torn_is_read
