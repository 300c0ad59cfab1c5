use Rattle.std.proofs.Common.{inl}
use Rattle.bc_check.proofs.Verdicts.{sound_so, says_sound as says}
use Rattle.bc_check.proofs.laws.says_sound.Goals as goal

pub returns-clause-through : goal.returns-clause-through
returns-clause-through c = λ p alone. inl alone

pub returns-clause-counted : goal.returns-clause-counted
returns-clause-counted c = sound_so

pub returns-clause-sound : goal.returns-clause-sound
returns-clause-sound c = says
