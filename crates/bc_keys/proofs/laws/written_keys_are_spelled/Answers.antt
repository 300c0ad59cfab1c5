use Rattle.bc_keys.proofs.KeyLists.{SpellThen-words_of}
use Rattle.bc_keys.proofs.laws.written_keys_are_spelled.Goals as goal

pub returns : goal.returns
returns c = SpellThen-words_of
