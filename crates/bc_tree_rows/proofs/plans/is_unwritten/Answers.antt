use Rattle.std.proofs.Common.{◌≡◌, false, true, ap, arith, sym, ◌∙◌}
use Rattle.bc_key.specs.declared.ptr.Ptr.{Ptr}
use Rattle.bc_tree_rows.proofs.plans.is_unwritten.Goals as goal

pub returns-then-end-sectors : goal.returns-then-end-sectors
returns-then-end-sectors c = λ _. (
  c.in-Some.leaf,
  c.in-Some.is,
  record {
    none = omega (arith, c.taken.ensures, c.if-taken-eq0.true);
    fresh = sym c.is_loaded.ensures ∙ c.if-not-is_loaded.true;
    free = λ full. let two : false ≡ true = sym c.if-not-is_full.true ∙ c.is_full.ensures.1 full in absurd (cc);
    room = omega (arith, ap (λ (p : Ptr). p.offset) c.ptr.ensures, c.from.ensures, c.if-end-sectors.true);
  },
)
