use Rattle.bc_image.proofs.Fresh.{fresh_is_sound, fresh_shows}
use Rattle.bc_image.proofs.laws.formatted_shows_the_backing_device.Goals as goal

pub returns-clause-sound : goal.returns-clause-sound
returns-clause-sound c = fresh_is_sound

pub returns-clause-shown : goal.returns-clause-shown
returns-clause-shown c = fresh_shows
