use Rattle.std.proofs.Common.{ℕ, List, ◌++◌, ap, ◌∙◌}
use Rattle.bc_model.specs.Sector.{values_of}
use Rattle.bc_entry.proofs.room.EntryRoom.values.Goals as goal

pub returns : goal.returns
returns c = c.from_sectors.ensures
    ∙ ap (λ (bs : List ℕ). values_of bs) (c.in-Ok.ensures.items
    ∙ ap (λ (bs : List ℕ). bs ++ c.args.bytes.now) c.args.self.empty)
