use Rattle.std.proofs.Common.{◌∙◌, sym, arith}
use Rattle.bc_disk.specs.Bytes.{image_of}
use Rattle.bc_plain.proofs.Entries.{now_more}
use Rattle.bc_plain.proofs.Told.{given_tells, kept_tells}
use Rattle.bc_plain.proofs.history.is_now.Goals as goal
use Rattle.bc_plain.proofs.history.is_now.Goals.{in-Some, in_default}

pub loop-entry-preserved : goal.loop-entry-preserved
loop-entry-preserved c =
    let more = now_more (image_of c.args.opening.now) c.args.entries.now c.loop-entry.entry-index c.entry-item.result c.args.sector (omega arith) c.entry-item.is in
    elim c.match-given.branch [
      | in-Some w ↦ given_tells c.args.value.now w.in-Some.new _ _ _ c.match-given.same (sym c.given.ensures ∙ w.in-Some.is) (w.same-is ∙ w.eq-same-in-Some.ensures) more
      | in_default w ↦ kept_tells c.args.value.now _ _ _ c.loop-entry.same c.match-given.same (sym c.given.ensures ∙ w.in_default.is) w.same-is more c.loop-entry.invariant
    ]
