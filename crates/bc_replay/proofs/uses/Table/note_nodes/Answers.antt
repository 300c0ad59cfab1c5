use Rattle.std.proofs.Common.{◌++◌, List, subst, take}
use Rattle.std.specs.List.{flat_map}
use Rattle.std.proofs.lemmas.List.{take_more}
use Rattle.bc_replay.specs.Marks.{Mark, AreMarked, visit_marks}
use Rattle.bc_replay.proofs.Marks.{taken_marks}
use Rattle.bc_replay.proofs.Words.{taken_visit}
use Rattle.bc_replay.proofs.uses.Table.note_nodes.Goals as goal

pub loop-visit-preserved : goal.loop-visit-preserved
loop-visit-preserved c = λ marks are.
    let g = c.args.g.now in
    let seen = c.args.seen.now in
    let i = c.loop-visit.visit-index in
    let visit = c.visit-item.result in
    subst (λ (ms : List Mark). AreMarked g ms c.note_node.new.self.uses.items c.note_node.new.self.mixed) (taken_marks (visit_marks g) marks seen i visit (taken_visit seen i visit c.loop-visit-test.true c.visit-item.is))
    (c.note_node.ensures (marks ++ flat_map (visit_marks g) (take i seen)) (c.loop-visit.invariant marks are))
