use Rattle.bc_super.proofs.Readings.{either_cache, never_both_cache}
use Rattle.bc_super.proofs.laws.one_cache_reading.Goals as goal

pub returns-clause-either : goal.returns-clause-either
returns-clause-either c = either_cache

pub returns-clause-never_both : goal.returns-clause-never_both
returns-clause-never_both c = never_both_cache
