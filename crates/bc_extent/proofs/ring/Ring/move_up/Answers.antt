use Rattle.std.proofs.Common.{◌∙◌, List, ap, insert, arith}
use Rattle.bc_key.specs.declared.key.Key.{Key}
use Rattle.bc_extent.proofs.Moves.{shifted, across}
use Rattle.bc_extent.proofs.ring.Ring.move_up.Goals as goal

pub returns-then-a-b-clause-moved : goal.returns-then-a-b-clause-moved
returns-then-a-b-clause-moved c =
    let ring = c.self.inside in
    let long = c.self.invariant.1 in
    let shift = c.shift_up.ensures in
    shifted 512 ring.head c.args.from c.args.last c.place-a.result c.place-b.result ring.slots c.shift_up.new.self long (shift.length ∙ long) shift.moved c.args.slot c.shift_up.result c.requires.order c.requires.within c.self.invariant.0
    c.place-a.ensures.before_end c.place-a.ensures.behind_end c.place-b.ensures.before_end c.place-b.ensures.behind_end (omega arith) (shift.first c.args.slot) (shift.out c.args.slot)
    ∙ ap (λ (xs : List Key). insert xs c.args.from c.args.slot) c.self.view_is

pub returns-clause-moved : goal.returns-clause-moved
returns-clause-moved c =
    let ring = c.self.inside in
    let long = c.self.invariant.1 in
    let one = c.shift_up-carried in
    let two = c.shift_up-2 in
    across 512 ring.head c.args.from c.args.last c.place-a.result c.place-b.result ring.slots one.new.self two.new.self c.args.slot one.result two.result
    long (one.ensures.length ∙ long) (two.ensures.length ∙ one.ensures.length ∙ long) c.requires.order c.requires.within c.self.invariant.0
    c.place-a.ensures.before_end c.place-a.ensures.behind_end c.place-b.ensures.before_end c.place-b.ensures.behind_end (omega (arith, c.if-a-b.false))
    one.ensures.moved (one.ensures.first c.args.slot) (one.ensures.out c.args.slot) two.ensures.moved (two.ensures.first one.result) (two.ensures.out one.result)
    ∙ ap (λ (xs : List Key). insert xs c.args.from c.args.slot) c.self.view_is
