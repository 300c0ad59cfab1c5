use Rattle.std.proofs.Common.{refl}
use Rattle.bc_resume.proofs.Held.{not_empty}
use Rattle.bc_session.proofs.odd.newest_number.Goals as goal

pub last_entry-requires : goal.last_entry-requires
last_entry-requires c = not_empty c.requires.0 c.args.read.now.all c.args.read.now.entries
    c.requires.1

pub returns : goal.returns
returns c = let last = c.last_entry.ensures in (last.0, c.last_entry.result.now, last.1, refl)
