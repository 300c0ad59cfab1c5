use Rattle.std.proofs.Common.{◌+◌, length, refl, arith}
use Rattle.std.specs.Prelude.{All}
use Rattle.std.proofs.lemmas.List.Elements.{All-nil}
use Rattle.std.proofs.lemmas.Option.{slice_get_read}
use Rattle.bc_entries.proofs.Lists.{NoneBetween, LeastSoFar, least_here, least_kept, least_is}
use Rattle.bc_entries.proofs.list.last_missing.Goals as goal
use Rattle.bc_entries.proofs.list.last_missing.Goals.{then-from-entry+then-entry-next, else-from-entry, else-from-entry-via-then-from-entry+else-entry-next, else-from-entry-via-else-from-entry}

pub loop-entry-init : goal.loop-entry-init
loop-entry-init c = record { there = c.requires.newest; above = c.requires.behind; none = All-nil (NoneBetween c.args.from c.args.newest) }

pub loop-entry-preserved : goal.loop-entry-preserved
loop-entry-preserved c =
    let all = c.args.all.now in
    let i = c.loop-entry.entry-index in
    let e = c.entry-item.result in
    let here = slice_get_read all (length all) i e refl c.loop-entry-test.true c.entry-item.is in
    elim c.if-from-entry.branch [
      | then-from-entry+then-entry-next w ↦ least_here all c.args.from c.loop-entry.next c.if-from-entry.next i (i + 1) e c.loop-entry.invariant here w.if-from-entry.true w.if-entry-next.true w.next-is refl
      | else-from-entry w ↦ elim w.else-from-entry.branch [
        | else-from-entry-via-then-from-entry+else-entry-next v ↦ least_kept all c.args.from c.loop-entry.next c.if-from-entry.next i (i + 1) e c.loop-entry.invariant here (λ _. v.if-entry-next.false) w.next-is refl
        | else-from-entry-via-else-from-entry v ↦ least_kept all c.args.from c.loop-entry.next c.if-from-entry.next i (i + 1) e c.loop-entry.invariant here (λ above. absurd (let low = v.if-from-entry.false in omega (arith, above, low))) w.next-is refl
      ]
    ]

pub returns : goal.returns
returns c = least_is c.args.all.now c.args.from c.loop-entry.next c.loop-entry.entry-index c.requires.missing c.loop-entry-test.false c.loop-entry.invariant
