use Rattle.bc_cache.proofs.Stands.{added_stands, loaded_stands}
use Rattle.bc_cache.proofs.laws.a_leaf_is_what_is_read_and_pending.Goals as goal

pub returns-clause-loaded : goal.returns-clause-loaded
returns-clause-loaded c = loaded_stands

pub returns-clause-added : goal.returns-clause-added
returns-clause-added c = added_stands
