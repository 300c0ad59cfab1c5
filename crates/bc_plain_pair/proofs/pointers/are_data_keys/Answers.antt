use Rattle.bc_image.specs.Sound.{IsDataKey}
use Rattle.bc_plain_pair.proofs.Alls.{all_fails, all_more, all_ends}
use Rattle.bc_plain_pair.proofs.pointers.are_data_keys.Goals as goal

pub returns-then-not-is_data_key : goal.returns-then-not-is_data_key
returns-then-not-is_data_key c =
    all_fails (IsDataKey c.args.g.now c.args.size) c.args.keys.now c.loop-key.key-index c.key-item.result c.loop-key-test.true c.key-item.is c.if-not-is_data_key.ensures

pub loop-key-preserved : goal.loop-key-preserved
loop-key-preserved c =
    all_more (IsDataKey c.args.g.now c.args.size) c.args.keys.now c.loop-key.key-index c.key-item.result c.loop-key-test.true c.key-item.is c.if-not-is_data_key.ensures c.loop-key.invariant

pub returns : goal.returns
returns c = all_ends (IsDataKey c.args.g.now c.args.size) c.args.keys.now c.loop-key.key-index c.loop-key-test.false c.loop-key.invariant
