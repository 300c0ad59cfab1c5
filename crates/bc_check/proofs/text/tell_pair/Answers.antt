use Rattle.std.specs.String.{string_bytes}
use Rattle.bc_check.specs.Text.{Reports}
use Rattle.bc_check.specs.Verdict.{IsVerdict, ListsIf}
use Rattle.bc_check.proofs.Pairs.{held_map}
use Rattle.bc_check.proofs.text.tell_pair.Goals as goal

pub returns-clause-found : goal.returns-clause-found
returns-clause-found g c =
    let r = c.in_ok-report.report in
    let text = string_bytes c.in_ok-text.text in
    held_map (λ p. IsVerdict p r.verdict × ListsIf c.args.list p r.verdict r.lines.items) (λ p. Reports c.args.list p r.verdict text) (g.C.Disk.facts c.args.cache.now) (g.B.Disk.facts c.args.backing.now)
    (λ p x y so. (so.0, (r.lines.items, so.1, c.in_ok-text.ensures))) c.in_ok-report.ensures.found
