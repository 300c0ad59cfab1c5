use Rattle.std.proofs.Common.{◌<◌, length, arith}
use Rattle.bc_model.specs.Values.{values_in}
use Rattle.bc_script.proofs.Printed.{goes_one}
use Rattle.bc_script.proofs.last.Last.push_each.Goals as goal

pub loop-place-preserved : goal.loop-place-preserved
loop-place-preserved c =
    let values = values_in c.args.run.now in
    let long = c.len-place-end.ensures in
    let inside : c.loop-place.place < length values = omega arith in
    goes_one c.args.first c.loop-place.place values c.get.result c.new-seen.result c.args.self.now c.loop-place.self c.push.new.self c.args.text.now.items c.loop-place.text.items c.push.new.text.items
    inside c.get.ensures c.new-seen.ensures c.in_ok-push.ensures.last c.in_ok-push.ensures.few c.in_ok-push.ensures.prints c.loop-place.invariant
