use Rattle.bc_plain.proofs.Devices.{among_more}
use Rattle.bc_plain.proofs.Told.{either, equals}
use Rattle.bc_plain.proofs.slot.is_among.Goals as goal

pub loop-other-preserved : goal.loop-other-preserved
loop-other-preserved c =
    either c.loop-other.found c.eq-found.result c.loop-other.invariant (equals c.as_slice.result.now c.args.value.now c.eq-found.result c.eq-found.ensures)
    (among_more c.args.value.now c.as_slice.result.now c.loop-other.other-index c.args.values.now c.loop-other-test.true c.as_slice.ensures)
