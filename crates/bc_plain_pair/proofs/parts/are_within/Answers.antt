use Rattle.std.proofs.lemmas.Bool.{iff_false}
use Rattle.std.proofs.lemmas.List.Elements.{All-nil}
use Rattle.bc_image.specs.Sound.{LiesWithin}
use Rattle.bc_plain_pair.proofs.Alls.{all_not, all_more, all_so}
use Rattle.bc_plain_pair.proofs.parts.are_within.Goals as goal

pub loop-key-init : goal.loop-key-init
loop-key-init c = All-nil (LiesWithin c.args.level c.args.from c.args.end)

pub returns-then-not-lies_within : goal.returns-then-not-lies_within
returns-then-not-lies_within c =
    all_not (LiesWithin c.args.level c.args.from c.args.end) c.args.keys.now c.loop-key.key-index c.key-item.result c.loop-key-test.true c.key-item.is (iff_false c.lies_within.ensures c.if-not-lies_within.true)

pub loop-key-preserved : goal.loop-key-preserved
loop-key-preserved c =
    all_more (LiesWithin c.args.level c.args.from c.args.end) c.args.keys.now c.loop-key.key-index c.key-item.result c.loop-key-test.true c.key-item.is (c.lies_within.ensures.0 c.if-not-lies_within.false) c.loop-key.invariant

pub returns : goal.returns
returns c = all_so (LiesWithin c.args.level c.args.from c.args.end) c.args.keys.now c.loop-key.key-index c.loop-key-test.false c.loop-key.invariant
