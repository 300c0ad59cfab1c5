use Rattle.std.proofs.Common.{◌+◌, ◌∙◌, [], take, get_or, arith, length-set}
use Rattle.std.proofs.lemmas.List.{length-take-le, get_or_read}
use Rattle.bc_disk.specs.declared.log.Logged.{Logged}
use Rattle.bc_disk.proofs.Sectors.{length-values_at}
use Rattle.bc_disk.proofs.Steps.{counted_more}
use Rattle.bc_disk.proofs.crash.counts.Goals as goal

abbrev none : Logged
none = record { sector = 0; value = [] }

pub overflow_add-index_mut : goal.overflow_add-index_mut
overflow_add-index_mut c =
    let i = c.loop-written.written-index in
    let log = c.args.log.now in
    let at = (get_or log i none).sector in
    let fits = c.requires i none c.loop-written-test.true in
    let so_far = c.loop-written.invariant.1 at (omega arith) in
    let read = get_or_read c.loop-written.counts.items at c.index_mut.result.now (omega arith) c.index_mut.ensures.value 0 in
    omega (arith, read, so_far, length-values_at at (take i log), length-take-le i log (omega arith))

pub loop-written-preserved : goal.loop-written-preserved
loop-written-preserved c =
    let i = c.loop-written.written-index in
    let log = c.args.log.now in
    let counts = c.loop-written.counts.items in
    let at = (get_or log i none).sector in
    let fits = c.requires i none c.loop-written-test.true in
    let read = get_or_read counts at c.index_mut.result.now (omega arith) c.index_mut.ensures.value 0 in (
      length-set counts at (c.index_mut.result.now + 1) ∙ c.loop-written.invariant.0,
      λ s low. counted_more counts log i c.index_mut.result.now none c.loop-written-test.true (omega arith) read s (c.loop-written.invariant.1 s low),
    )
