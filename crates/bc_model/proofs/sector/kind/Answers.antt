use Rattle.std.proofs.Common.{List, ℕ, take, ap, ◌∙◌, arith}
use Rattle.std.specs.Int.{w64, from_le_bytes}
use Rattle.bc_model.proofs.Patterns.{not_pattern, not_true, zeros_first}
use Rattle.bc_model.proofs.sector.kind.Goals as goal

pub returns-else-is_zero : goal.returns-else-is_zero
returns-else-is_zero c = (
  λ is. not_true _ c.if-is_zero.false (c.is_zero.ensures.1 is),
  not_pattern c.args.value.now c.args.sector c.stamp_in-stamp.result c.stamp_in-stamp.ensures (λ some is. let none = c.if-stamp-eq0.true in omega (arith, some, none)),
)

pub returns-else-is_pattern : goal.returns-else-is_pattern
returns-else-is_pattern c = (
  λ is. (let none = c.stamp_in-stamp.ensures ∙ ap (λ (bs : List ℕ). from_le_bytes w64 (take 8 bs)) is ∙ zeros_first in let some = c.if-stamp-eq0.false in omega (arith, none, some)),
  not_pattern c.args.value.now c.args.sector c.stamp_in-stamp.result c.stamp_in-stamp.ensures (λ some is. not_true _ c.if-is_pattern.false (c.is_pattern.ensures.1 is)),
)
