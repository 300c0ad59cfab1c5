use Rattle.std.proofs.Common.{ap, ◌∙◌}
use Rattle.bc_spine.specs.Leaves.{Leaves}
use Rattle.bc_spine.proofs.Rows.{found_leaf}
use Rattle.bc_spine.proofs.leaves.Leaves.place.Goals as goal

pub returns : goal.returns
returns c =
    let found = c.place_of.ensures in
    found_leaf c.deref.result.now c.args.self.now.leaves c.args.sector c.place_of.result (c.deref.ensures.value ∙ ap (λ (v : Leaves). v.leaves) c.self.view_is) found.within found.begins found.ends
