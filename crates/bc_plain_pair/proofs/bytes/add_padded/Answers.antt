use Rattle.std.proofs.Common.{sym, arith}
use Rattle.std.proofs.lemmas.List.{append-nil}
use Rattle.bc_plain_pair.proofs.Padded.{byte_more, all_bytes}
use Rattle.bc_plain_pair.proofs.bytes.add_padded.Goals as goal

pub loop-i-init : goal.loop-i-init
loop-i-init c = sym (append-nil c.args.all.now.items)

pub loop-i-preserved : goal.loop-i-preserved
loop-i-preserved c =
    byte_more c.args.value.now c.args.all.now.items c.loop-i.all.items c.push.new.self.items c.loop-i.i c.byte_of.result c.loop-i-test.true c.loop-i.invariant c.in_ok-push.ensures.items c.byte_of.ensures

pub returns : goal.returns
returns c = all_bytes c.args.value.now c.args.all.now.items c.loop-i.all.items c.loop-i.i (omega arith) c.loop-i.invariant
