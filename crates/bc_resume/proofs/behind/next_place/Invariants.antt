use Rattle.bc_resume.proofs.Next.{NextSoFar}
use Rattle.bc_resume.proofs.behind.next_place.Given as goal

abbrev pub invariant-loop-i : goal.invariant-loop-i
invariant-loop-i l = NextSoFar l.g l.journal.entries l.newest l.next l.i
