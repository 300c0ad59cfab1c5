use Rattle.std.proofs.Common.{◌≡◌, ◌++◌, [], ◌∷◌, get_or, arith, rules}
use Rattle.bc_disk.proofs.Logs.{noted_more}
use Rattle.bc_disk.proofs.log.append.Goals as goal

pub loop-value-preserved : goal.loop-value-preserved
loop-value-preserved c =
    let i = c.loop-value.value-index in
    let one : c.push.new.self.items ≡ c.loop-value.log.items ++ record { sector = c.loop-value.sector; value = get_or c.as_chunks.result.0.now i [] } ∷ [] = search rules in
    (omega arith, noted_more c.args.log.now.items c.loop-value.log.items _ c.args.at c.as_chunks.result.0.now i c.loop-value.sector c.loop-value-test.true c.loop-value.invariant.0 c.loop-value.invariant.1 one, search rules, omega arith)
