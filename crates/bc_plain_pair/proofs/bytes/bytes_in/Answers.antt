use Rattle.std.proofs.Common.{◌≡◌, ◌+◌, ap, ◌∙◌, arith}
use Rattle.bc_disk.specs.Bytes.{image_of}
use Rattle.bc_plain_pair.proofs.Padded.{none_yet, sector_more}
use Rattle.bc_plain_pair.proofs.bytes.bytes_in.Goals as goal

pub loop-i-init : goal.loop-i-init
loop-i-init c = c.new-all.ensures.items ∙ none_yet (image_of c.args.bytes.now) c.args.place

pub loop-i-preserved : goal.loop-i-preserved
loop-i-preserved c =
    let image = image_of c.args.bytes.now in
    let sum : c.from.result + c.from-in-loop-i.result ≡ c.args.place + c.loop-i.i = omega arith in
    sector_more image c.args.place c.loop-i.i c.loop-i.all.items c.add_padded.new.all.items c.sector_of-sector.result.now c.loop-i.invariant c.in_ok-add_padded.ensures
    (c.sector_of-sector.ensures ∙ ap image sum)
