use Rattle.std.proofs.Common.{ℕ, ◌+◌, true, List, subst, sym, take}
use Rattle.std.specs.Prelude.{Option}
use Rattle.std.proofs.lemmas.List.{take_all}
use Rattle.bc_walk.specs.declared.visit.Visit.{Visit}
use Rattle.bc_replay.specs.Marks.{IsLeastOf}
use Rattle.bc_replay.specs.Used.{IsMetTwice}
use Rattle.bc_replay.proofs.Words.{more_twice, again_proper, taken_visit}
use Rattle.bc_replay.proofs.uses.met_twice.Goals as goal

pub loop-visit-preserved : goal.loop-visit-preserved
loop-visit-preserved c =
    let g = c.args.g.now in
    let seen = c.args.seen.now in
    let i = c.loop-visit.visit-index in
    let visit = c.visit-item.result in
    record {
      least = λ told.
          subst (λ (o : Option ℕ). IsLeastOf (IsMetTwice g (take (i + 1) seen)) o) (sym c.lower_of-least.ensures.lower)
          (more_twice g (take i seen) (take (i + 1) seen) visit c.loop-visit.least c.again_in.result (taken_visit seen i visit c.loop-visit-test.true c.visit-item.is) (c.loop-visit.invariant.least told)
          (c.again_in.ensures.least (again_proper g true seen i visit told c.loop-visit-test.true c.visit-item.is)));
      small = c.lower_of-least.ensures.small c.loop-visit.invariant.small c.again_in.ensures.small;
    }

pub returns-clause-least : goal.returns-clause-least
returns-clause-least c = λ told. subst (λ (vs : List Visit). IsLeastOf (IsMetTwice c.args.g.now vs) c.loop-visit.least) (take_all c.loop-visit.visit-index c.args.seen.now c.loop-visit-test.false) (c.loop-visit.invariant.least told)
