use Rattle.std.proofs.Common.{ℕ, List, ◌/◌, sym, ap, ◌∙◌, length}
use Rattle.bc_model.proofs.Sectors.{length_raw}
use Rattle.bc_model.specs.declared.run.Run.{Run}
use Rattle.bc_model.specs.Values.{values_in}
use Rattle.bc_model.proofs.Lists.{length_patterns}
use Rattle.bc_model.proofs.run.Run.len.Goals as goal

pub returns-in-Pattern : goal.returns-in-Pattern
returns-in-Pattern c = sym (ap (λ (r : Run). length (values_in r)) c.in-Pattern.is ∙ length_patterns c.in-Pattern.stamp c.in-Pattern.first c.in-Pattern.count)

pub returns-in-Raw : goal.returns-in-Raw
returns-in-Raw c = ap (λ (bs : List ℕ). length bs / 512) c.as_slice.ensures.value ∙ sym (ap (λ (r : Run). length (values_in r)) c.in-Raw.is ∙ length_raw c.in-Raw.bytes.items)
