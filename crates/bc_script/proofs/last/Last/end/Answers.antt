use Rattle.std.proofs.Common.{arith}
use Rattle.bc_script.proofs.Printed.{ends, prints_nothing}
use Rattle.bc_script.proofs.last.Last.end.Goals as goal

pub returns-then-self-eq0 : goal.returns-then-self-eq0
returns-then-self-eq0 c = λ xs h. prints_nothing xs c.args.self.now c.args.text.now.items c.if-self-eq0.true h

pub returns : goal.returns
returns c = ends c.push_seen.result c.args.self.now c.args.text.now.items c.push_seen.new.text.items (omega arith) c.requires c.push_seen.ensures
