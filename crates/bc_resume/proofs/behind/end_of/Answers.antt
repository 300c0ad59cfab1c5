use Rattle.std.proofs.Common.{◌≤◌, ◌^◌, sym, subst}
use Rattle.bc_resume.proofs.Held.{few_bytes}
use Rattle.bc_resume.proofs.behind.end_of.Goals as goal

pub in_blocks-requires-clause-bytes : goal.in_blocks-requires-clause-bytes
in_blocks-requires-clause-bytes c = subst (λ n. n ≤ 2 ^ 60) (sym c.bytes.ensures) (few_bytes c.args.g.now c.args.e.now c.requires)
