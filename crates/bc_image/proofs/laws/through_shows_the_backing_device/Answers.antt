use Rattle.std.proofs.Common.{inl, refl}
use Rattle.bc_image.specs.Shown.{through}
use Rattle.bc_image.proofs.laws.through_shows_the_backing_device.Goals as goal

pub returns-clause-shown : goal.returns-clause-shown
returns-clause-shown c = λ p b has alone. through b has alone (λ s. refl)

pub returns-clause-sound : goal.returns-clause-sound
returns-clause-sound c = λ p b has alone. inl (b, has, alone)
