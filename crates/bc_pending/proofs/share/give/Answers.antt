use Rattle.std.proofs.Common.{inr}
use Rattle.bc_pending.proofs.share.give.Goals as goal

pub returns-in_ok-push : goal.returns-in_ok-push
returns-in_ok-push c = inr (c.in-Some.piece, c.in-Some.ensures, c.in_ok-push.ensures)
