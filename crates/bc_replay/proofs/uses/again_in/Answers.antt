use Rattle.std.proofs.Common.{List, [], ◌∷◌, Some, sym, subst, ◌∙◌}
use Rattle.bc_walk.specs.declared.visit.Visit.{Visit}
use Rattle.bc_replay.specs.Marks.{IsLeastOf}
use Rattle.bc_replay.specs.Used.{IsMetTwice}
use Rattle.bc_replay.proofs.Words.{one_twice}
use Rattle.bc_replay.proofs.uses.again_in.Goals as goal

pub returns-in-Some-clause-least : goal.returns-in-Some-clause-least
returns-in-Some-clause-least c = λ proper.
    let g = c.args.g.now in
    let bucket = c.in-Some.bucket in
    subst (λ n. IsLeastOf (IsMetTwice g (c.args.visit.now ∷ [])) (Some n)) (sym c.from.ensures)
    (subst (λ (v : Visit). IsLeastOf (IsMetTwice g (v ∷ [])) (Some bucket)) (sym c.in-Again.is) (one_twice g c.in-Again.key bucket c.in-Some.ensures.place))
