use Rattle.bc_check.proofs.Others.{other_by}
use Rattle.bc_check.proofs.strays.is_other.Goals as goal

pub returns : goal.returns
returns c =
    other_by c.args.magic c.args.bytes.now c.args.journal.now.entries c.args.low c.args.start c.args.sector c.in-Some.seq c.is_listed.result (rw c.in-Some.is at c.in_ok-seq.ensures) c.if-seq-low.false c.is_listed.ensures
