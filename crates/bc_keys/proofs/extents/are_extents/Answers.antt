use Rattle.std.proofs.Common.{sym}
use Rattle.bc_keys.proofs.KeyLists.{is_over}
use Rattle.bc_keys.proofs.extents.are_extents.Goals as goal

pub returns-then-is_err : goal.returns-then-is_err
returns-then-is_err c =
    (c.loop-key.key-index, c.key-item.result, c.loop-key-test.true, sym c.key-item.is, is_over c.check_extent.result c.key-item.result c.check_extent.ensures.err (sym c.if-is_err.ensures.value))
