use Rattle.bc_replay.proofs.Once.{never_both, never_sound}
use Rattle.bc_replay.proofs.laws.sound_pairs_are_opened.Goals as goal

pub returns-clause-openable : goal.returns-clause-openable
returns-clause-openable c = λ p v e view open_. never_both p v view open_ e

pub returns-clause-sound : goal.returns-clause-sound
returns-clause-sound c = never_sound
