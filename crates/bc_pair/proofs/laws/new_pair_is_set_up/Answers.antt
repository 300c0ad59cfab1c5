use Rattle.std.proofs.Common.{refl}
use Rattle.bc_pair.proofs.Makings.{names_mode, new_backing_usable, says_clean}
use Rattle.bc_pair.proofs.laws.new_pair_is_set_up.Goals as goal

pub returns-clause-mode : goal.returns-clause-mode
returns-clause-mode c p = names_mode p.mode

pub returns-clause-state : goal.returns-clause-state
returns-clause-state c p = says_clean p.mode

pub returns-clause-data : goal.returns-clause-data
returns-clause-data c p sectors within = (new_backing_usable p sectors within, refl)
