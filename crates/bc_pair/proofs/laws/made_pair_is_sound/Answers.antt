use Rattle.std.proofs.Common.{◌+◌}
use Rattle.bc_image.proofs.Fresh.{fresh_is_sound, fresh_shows}
use Rattle.bc_image.specs.Formatted.{IsFormatted}
use Rattle.bc_image.specs.Shown.{IsShown}
use Rattle.bc_image.specs.Sound.{IsSound}
use Rattle.bc_pair.proofs.Formatted.{each_weaker}
use Rattle.bc_pair.proofs.laws.made_pair_is_sound.Goals as goal

pub returns-clause-sound : goal.returns-clause-sound
returns-clause-sound at start g c b cache backing is =
    each_weaker (λ p. IsFormatted p b c g) IsSound (at.C.Disk.facts cache) (at.B.Disk.facts backing) (λ p formatted. fresh_is_sound p b c g formatted is.superblocks) is.formatted

pub returns-clause-shown : goal.returns-clause-shown
returns-clause-shown at start g c b cache backing is =
    each_weaker (λ p. IsFormatted p b c g) (λ p. IsShown p (λ s. p.backing (b.data_offset + s))) (at.C.Disk.facts cache) (at.B.Disk.facts backing) (λ p formatted. fresh_shows p b c g formatted is.superblocks) is.formatted
