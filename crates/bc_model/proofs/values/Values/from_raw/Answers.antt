use Rattle.std.proofs.Common.{ℕ, List, ◌/◌, ◌∙◌, sym, ap, length, arith}
use Rattle.bc_model.specs.Sector.{Value}
use Rattle.bc_model.specs.declared.run.Run.TheVariants.{Raw}
use Rattle.bc_model.specs.Values.{IsRun}
use Rattle.bc_model.proofs.Apart.{joined_alone}
use Rattle.bc_model.proofs.Lists.{only_values, only_run}
use Rattle.bc_model.proofs.Sectors.{length_raw}
use Rattle.bc_model.proofs.values.Values.from_raw.Goals as goal

pub invariant_of-result : goal.invariant_of-result
invariant_of-result c =
    let values = ap (λ (vs : List Value). length vs) (only_values c.new.result.items (Raw c.args.bytes) c.new.ensures.items) ∙ length_raw c.args.bytes.items in
    let few = c.requires.few in (
      values ∙ sym (ap (λ (bs : List ℕ). length bs / 512) c.as_slice.ensures.value),
      omega arith,
      only_run IsRun c.new.result.items (Raw c.args.bytes) c.new.ensures.items (c.requires.whole, few),
      ((λ none. absurd (cc)), joined_alone c.new.result.items (Raw c.args.bytes) c.new.ensures.items),
    )
