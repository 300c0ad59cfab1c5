use Rattle.std.proofs.Common.{ap, arith}
use Rattle.bc_key.specs.declared.ptr.Ptr.{Ptr}
use Rattle.bc_tree_rows.proofs.plans.moves.Goals as goal

pub returns-then-end-sectors : goal.returns-then-end-sectors
returns-then-end-sectors c = λ _. (
  c.in-Move.node,
  c.in-Move.is,
  record {
    none = omega (arith, c.taken.ensures, c.if-taken-eq0.true);
    room = omega (arith, ap (λ (p : Ptr). p.offset) c.ptr.ensures, c.from.ensures, c.if-end-sectors.true);
  },
)
