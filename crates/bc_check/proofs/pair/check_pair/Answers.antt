use Rattle.bc_check.specs.Verdict.{IsVerdict, ListsIf}
use Rattle.std.proofs.Common.{false}
use Rattle.bc_check.proofs.Checked.{verdict_alone}
use Rattle.bc_check.proofs.pair.check_pair.Goals as goal

pub returns-clause-found : goal.returns-clause-found
returns-clause-found g c =
    let r = c.in_ok-report.report in
    verdict_alone (λ p. IsVerdict p r.verdict) (λ p. ListsIf false p r.verdict r.lines.items) (g.C.Disk.facts c.args.cache.now) (g.B.Disk.facts c.args.backing.now) c.in_ok-report.ensures.found
