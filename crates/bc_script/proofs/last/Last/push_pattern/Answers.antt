use Rattle.std.proofs.Common.{arith}
use Rattle.bc_script.proofs.Printed.{goes_pattern}
use Rattle.bc_script.proofs.last.Last.push_pattern.Goals as goal

pub returns : goal.returns
returns c = goes_pattern c.push.result c.args.first c.args.count c.args.stamp c.args.self.now c.push.new.self c.args.text.now.items c.push.new.text.items
    c.requires.stamp (omega arith) c.push.ensures.last c.push.ensures.few c.push.ensures.prints
