use Rattle.std.proofs.Common.{◌+◌, ◌∙◌, List, sym, ap, insert, arith}
use Rattle.bc_key.specs.declared.key.Key.{Key}
use Rattle.bc_extent.proofs.Moves.{shifted, across}
use Rattle.bc_extent.proofs.ring.Ring.move_down.Goals as goal

pub returns-then-a-b-clause-moved : goal.returns-then-a-b-clause-moved
returns-then-a-b-clause-moved c =
    let ring = c.self.inside in
    let out = c.shift_down.result in
    let long = c.self.invariant.1 in
    let shift = c.shift_down.ensures in
    sym (shifted 512 ring.head c.args.from c.args.last c.place-a.result c.place-b.result c.shift_down.new.self ring.slots (shift.length ∙ long) long shift.moved out c.args.slot c.requires.order c.requires.within c.self.invariant.0
    c.place-a.ensures.before_end c.place-a.ensures.behind_end c.place-b.ensures.before_end c.place-b.ensures.behind_end (omega arith) (sym (shift.out out)) (sym (shift.last out)))
    ∙ ap (λ (xs : List Key). insert xs (c.args.last + 1) c.args.slot) c.self.view_is

pub returns-clause-moved : goal.returns-clause-moved
returns-clause-moved c =
    let ring = c.self.inside in
    let long = c.self.invariant.1 in
    let one = c.shift_down-carried in
    let two = c.shift_down-2 in
    let mid = one.ensures.length ∙ long in
    sym (across 512 ring.head c.args.from c.args.last c.place-a.result c.place-b.result two.new.self one.new.self ring.slots two.result one.result c.args.slot
    (two.ensures.length ∙ mid) mid long c.requires.order c.requires.within c.self.invariant.0
    c.place-a.ensures.before_end c.place-a.ensures.behind_end c.place-b.ensures.before_end c.place-b.ensures.behind_end (omega (arith, c.if-a-b.false))
    two.ensures.moved (sym (two.ensures.out two.result)) (sym (two.ensures.last two.result)) one.ensures.moved (sym (one.ensures.out one.result)) (sym (one.ensures.last one.result)))
    ∙ ap (λ (xs : List Key). insert xs (c.args.last + 1) c.args.slot) c.self.view_is
