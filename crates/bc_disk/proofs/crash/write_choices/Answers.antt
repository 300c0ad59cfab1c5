use Rattle.std.proofs.Common.{◌≡◌, ◌+◌, ◌-◌, ◌∙◌, [], drop, get_or, set, sym, ap, arith}
use Rattle.std.proofs.lemmas.List.{drop_all}
use Rattle.bc_disk.specs.declared.log.Logged.{Logged}
use Rattle.bc_disk.specs.Bytes.{image_of}
use Rattle.bc_disk.specs.Log.{values_at}
use Rattle.bc_disk.proofs.Choices.{advance, advance-none, advance-get_or}
use Rattle.bc_disk.proofs.Steps.{advanced_taken, advanced_passed}
use Rattle.bc_disk.proofs.crash.write_choices.Goals as goal
use Rattle.bc_disk.proofs.crash.write_choices.Goals.{then-wanted-sector-gt0, else-wanted-sector-gt0}

abbrev none : Logged
none = record { sector = 0; value = [] }

pub loop-written-preserved : goal.loop-written-preserved
loop-written-preserved c =
    let i = c.loop-written.written-index in
    let log = c.args.log.now in
    let bytes = c.loop-written.bytes in
    let wanted = c.loop-written.wanted in
    let x = get_or log i none in
    let low = c.loop-written-test.true in
    let fits = c.requires.within i none low in
    elim c.if-wanted-sector-gt0.branch [
      | then-wanted-sector-gt0 w ↦ λ s.
          ap (λ l. advance (get_or l s 0) (image_of c.if-wanted-sector-gt0.bytes s) (values_at s (drop (i + 1) log))) w.wanted-is
          ∙ ap (λ l. advance (get_or (set wanted x.sector (get_or wanted x.sector 0 - 1)) s 0) (image_of l s) (values_at s (drop (i + 1) log))) (w.bytes-is ∙ w.put.ensures)
          ∙ advanced_taken wanted bytes log i none low (omega arith) (omega arith) (omega (arith, c.requires.wanted)) w.if-wanted-sector-gt0.true s ∙ c.loop-written.invariant s
      | else-wanted-sector-gt0 w ↦ λ s.
          ap (λ l. advance (get_or l s 0) (image_of c.if-wanted-sector-gt0.bytes s) (values_at s (drop (i + 1) log))) w.wanted-is
          ∙ ap (λ l. advance (get_or wanted s 0) (image_of l s) (values_at s (drop (i + 1) log))) w.bytes-is
          ∙ advanced_passed wanted bytes log i none low w.if-wanted-sector-gt0.false s ∙ c.loop-written.invariant s
    ]

pub returns : goal.returns
returns c = λ s low.
    let end : drop c.loop-written.written-index c.args.log.now ≡ [] = drop_all c.loop-written.written-index c.args.log.now (omega arith) in
    sym (advance-none (get_or c.loop-written.wanted s 0) (image_of c.loop-written.bytes s))
    ∙ sym (ap (λ l. advance (get_or c.loop-written.wanted s 0) (image_of c.loop-written.bytes s) (values_at s l)) end)
    ∙ c.loop-written.invariant s ∙ advance-get_or (get_or c.args.wanted.now s 0) (image_of c.args.bytes.now s) (values_at s c.args.log.now) low
