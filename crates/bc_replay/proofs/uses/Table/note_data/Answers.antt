use Rattle.std.proofs.Common.{◌++◌, ◌<◌, List, subst, take}
use Rattle.std.specs.List.{flat_map}
use Rattle.bc_node.proofs.KeyLists.{key_here, taken_key}
use Rattle.bc_replay.specs.Marks.{Mark, AreMarked, row_marks}
use Rattle.bc_replay.proofs.Marks.{taken_marks}
use Rattle.bc_replay.proofs.uses.Table.note_data.Goals as goal

pub loop-i-preserved : goal.loop-i-preserved
loop-i-preserved c = λ marks are.
    let g = c.args.g.now in
    let gens = c.args.gens.now in
    let rows = c.args.index.now.keys in
    let i = c.loop-i.i in
    let row = c.key.result in
    let low = subst (λ n. i < n) c.len-i-end.ensures.count c.loop-i-test.true in
    subst (λ (ms : List Mark). AreMarked g ms c.note_row.new.self.uses.items c.note_row.new.self.mixed) (taken_marks (row_marks g gens) marks rows i row (taken_key rows i row low (key_here rows i row c.key.ensures.key)))
    (c.note_row.ensures (marks ++ flat_map (row_marks g gens) (take i rows)) (c.loop-i.invariant marks are))
