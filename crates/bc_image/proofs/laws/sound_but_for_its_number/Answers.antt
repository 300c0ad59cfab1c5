use Rattle.std.proofs.Common.{inl, inr}
use Rattle.bc_image.proofs.laws.sound_but_for_its_number.Goals as goal

pub returns : goal.returns
returns c = λ p sound. elim sound [ inl alone ↦ inl alone | inr v ↦ inr (v.0, v.1, v.2) ]
