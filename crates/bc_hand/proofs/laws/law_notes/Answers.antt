use Rattle.bc_hand.proofs.Knowing.{note_waited, note_committed}
use Rattle.bc_hand.proofs.laws.law_notes.Goals as goal

pub returns-clause-did : goal.returns-clause-did
returns-clause-did g c = λ v w d seat did. note_committed g.C.Disk.facts g.B.Disk.facts v w d seat did.is

pub returns-clause-waited : goal.returns-clause-waited
returns-clause-waited g c = λ v w seat did. note_waited g.C.Disk.facts g.B.Disk.facts v w seat did.is
