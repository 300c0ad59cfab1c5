use Rattle.std.proofs.Common.{arith}
use Rattle.bc_spine.proofs.Rows.{some_spans, one_spans}
use Rattle.bc_spine.proofs.laws.each_sector_has_one_leaf.Goals as goal

pub returns-clause-some : goal.returns-clause-some
returns-clause-some c leaves end sector all below =
    let found = some_spans 0 end leaves all.row sector (omega arith) below in
    (found.0, record { held = found.1; spans = found.2 })

pub returns-clause-one : goal.returns-clause-one
returns-clause-one c leaves end sector a b all one two = one_spans 0 end leaves all.row sector a b one.held two.held one.spans two.spans
