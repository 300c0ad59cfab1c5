use Rattle.std.proofs.Common.{subst, sym, take}
use Rattle.std.proofs.lemmas.List.{take_all}
use Rattle.std.proofs.lemmas.List.Elements.{All-nil, All-more, All-same}
use Rattle.bc_image.specs.Sound.{LiesWithin}
use Rattle.bc_inner.proofs.ranges.are_within.Goals as goal

pub loop-key-init : goal.loop-key-init
loop-key-init c = All-nil (LiesWithin 1 c.args.from c.args.end)

pub returns-then-not-lies_within : goal.returns-then-not-lies_within
returns-then-not-lies_within c = (c.loop-key.key-index, c.key-item.result, c.loop-key-test.true, sym c.key-item.is, (λ is. (let never = c.if-not-lies_within.ensures.1 is in absurd (cc))))

pub loop-key-preserved : goal.loop-key-preserved
loop-key-preserved c =
    let P = LiesWithin 1 c.args.from c.args.end in
    All-more P c.args.keys.now c.loop-key.key-index c.key-item.result c.loop-key-test.true c.loop-key.invariant (subst P c.key-item.is (c.lies_within.ensures.0 c.if-not-lies_within.false))

pub returns : goal.returns
returns c =
    All-same (LiesWithin 1 c.args.from c.args.end) c.args.keys.now (take c.loop-key.key-index c.args.keys.now) (sym (take_all c.loop-key.key-index c.args.keys.now c.loop-key-test.false)) c.loop-key.invariant
