use Rattle.std.proofs.Common.{◌-◌, sym, ◌∙◌, refl, arith}
use Rattle.std.proofs.lemmas.List.Elements.{pair_read}
use Rattle.bc_set.specs.SetBytes.{Follows}
use Rattle.bc_set.proofs.SetLaws.{one_more, read_pair}
use Rattle.bc_set.proofs.order.are_in_order.Goals as goal

pub returns-then-not-follows : goal.returns-then-not-follows
returns-then-not-follows c =
    let i = c.loop-i.i in
    let a = c.index-keys-i.result in
    let b = c.index-keys-i-in-loop-i.result in
    (λ never. absurd cc, λ order. sym c.if-not-follows.true ∙ c.follows.ensures.1 (read_pair c.args.kind c.args.keys.now i a b c.loop-i-test.true c.index-keys-i.is c.index-keys-i-in-loop-i.is (order (i - 1) i a (omega arith) c.loop-i-test.true)))

pub loop-i-preserved : goal.loop-i-preserved
loop-i-preserved c =
    let i = c.loop-i.i in
    one_more c.args.kind c.args.keys.now i c.loop-i.invariant (λ d some.
    pair_read c.args.keys.now (Follows c.args.kind) (i - 1) i c.index-keys-i.result c.index-keys-i-in-loop-i.result (omega arith) c.loop-i-test.true c.index-keys-i.is c.index-keys-i-in-loop-i.is (c.follows.ensures.0 c.if-not-follows.false) d)

pub returns : goal.returns
returns c = (λ t i j d low high. c.loop-i.invariant i j d low (omega (arith, c.loop-i-test.false)), λ order. refl)
