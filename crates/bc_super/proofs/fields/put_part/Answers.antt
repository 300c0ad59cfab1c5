use Rattle.std.proofs.Common.{◌+◌, ◌-◌, length, ap, ◌∙◌, arith}
use Rattle.bc_super.proofs.Fronts.{outside_put}
use Rattle.bc_super.proofs.fields.put_part.Goals as goal

pub returns-clause-others : goal.returns-clause-others
returns-clause-others c =
    let n = length c.args.part.now in
    outside_put c.args.bytes.now c.copy_from_slice.new.self c.args.at (c.args.at + n - c.args.at) n (omega arith) (ap length c.copy_from_slice.ensures.after ∙ omega arith) (omega arith)
