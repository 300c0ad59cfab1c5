use Rattle.std.proofs.Common.{rules, ap, ◌∙◌, length}
use Rattle.bc_parts_bench.specs.declared.TheConstants.{SEATS}
use Rattle.bc_parts_bench.specs.contracts.log.LoggingMachine.TheImpl as logging
use Rattle.bc_parts_bench.proofs.Counting.{length-each, count_below-run}
use Rattle.bc_parts_bench.proofs.in_parts.run_in_parts.Goals as goal

pub returns-in_ok-made-in-Ok-clause-all : goal.returns-in_ok-made-in-Ok-clause-all
returns-in_ok-made-in-Ok-clause-all g c = let run = c.close-log.ensures.run in let seen = c.crowd-seat.result.0.seen in
    let counted = count_below-run logging.ghosts SEATS (λ _ _ enabled. enabled) _ seen run in
    ap length c.close-log.ensures.events ∙ length-each SEATS c.args.events seen counted (search rules)
