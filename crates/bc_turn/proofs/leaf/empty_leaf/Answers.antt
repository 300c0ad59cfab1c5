use Rattle.std.proofs.Common.{ℕ, Err, refl, sym, ap, ◌∙◌, subst, arith}
use Rattle.std.specs.Prelude.{Result, length}
use Rattle.bc_append.specs.Append.{CanAppend, HasAnswered}
use Rattle.bc_append.specs.Durable.{IsDurableTo}
use Rattle.bc_append.specs.declared.error.NoRoom.{NoRoom}
use Rattle.bc_append.specs.bc_hand.Seats.{world}
use Rattle.bc_append.specs.bc_machine.World.{FromEach, cache_among}
use Rattle.bc_turn.specs.Empty.{IsClosedBy}
use Rattle.bc_turn.specs.declared.error.Why.{Why}
use Rattle.bc_turn.proofs.Hearing.{append_answered, none_heard}
use Rattle.bc_turn.proofs.Leaving.{appended_in, back_journal, closed_told, closed_why, failed_since, full_since, keeps_since, outside_since, waited_did}
use Rattle.bc_append.proofs.of_bc_place.of_bc_deed.May.{did_nothing}
use Rattle.bc_append.proofs.of_bc_place.Keeping.{keeps_waited}
use Rattle.bc_append.specs.bc_hand.declared.hand.Hand.{Hand}
use Rattle.bc_turn.proofs.leaf.empty_leaf.Goals as goal

pub returns-in-Err-clause-ok : goal.returns-in-Err-clause-ok
returns-in-Err-clause-ok g c slot x =
    let told = c.last_entry.ensures (length c.args.parts.now.run.start) slot x in
    record {
      cause = closed_why c.args.hand.now (length c.args.parts.now.run.start) slot
          c.args.leaf _ c.in-Err.why x
          (subst (λ (r : Result ℕ Why). IsClosedBy r x) c.in-Err.is told.0);
      did = did_nothing g.C.Disk.facts g.B.Disk.facts c.args.seat.now c.requires.works.seat;
      same = refl;
      told = closed_told c.args.hand.now (length c.args.parts.now.run.start) slot c.args.leaf
          c.in-Err.why x (world g.C.Disk.facts g.B.Disk.facts c.args.seat.now)
          (subst (λ (r : Result ℕ Why). IsClosedBy r x) c.in-Err.is told.0);
    }

pub returns-then-durable-last-clause-ok : goal.returns-then-durable-last-clause-ok
returns-then-durable-last-clause-ok g c slot x =
    let cf = g.C.Disk.facts in
    let bf = g.B.Disk.facts in
    let h = c.args.hand.now in
    let told = c.last_entry.ensures (length c.args.parts.now.run.start) slot x in
    let closed = subst (λ (r : Result ℕ Why). IsClosedBy r x) c.in-Ok.is told.0 in
    let same = back_journal h c.durable_entry-durable.new.hand c.durable_entry-durable.ensures.rest
    c.durable_entry-durable.ensures.hand c.requires.alone.journal in
    record {
      cause = let less = c.if-durable-last.true in let last = closed.2 in omega (arith, less, last);
      did = waited_did cf bf c.args.parts.now c.args.seat.now c.durable_entry-durable.new.seat h
          c.durable_entry-durable.new.hand c.requires.works c.durable_entry-durable.ensures.works
          c.durable_entry-durable.ensures.waited same;
      same = same;
      told = c.durable_entry-durable.ensures.told;
    }

pub returns-then-durable-last-clause-keeps : goal.returns-then-durable-last-clause-keeps
returns-then-durable-last-clause-keeps g c =
    keeps_waited g.C.Disk.facts g.B.Disk.facts c.args.seat.now c.durable_entry-durable.new.seat
    c.requires.works.seat c.durable_entry-durable.ensures.waited

pub append_set-requires-clause-can : goal.append_set-requires-clause-can
append_set-requires-clause-can g c =
    let cf = g.C.Disk.facts in
    let bf = g.B.Disk.facts in
    let n = length c.args.parts.now.run.start in
    let h = c.args.hand.now in
    let x = c.requires.pending.1 in
    let told = c.last_entry.ensures n c.requires.pending.0 x in
    let closed = subst (λ (r : Result ℕ Why). IsClosedBy r x) c.in-Ok.is told.0 in
    let same = back_journal h c.durable_entry-durable.new.hand c.durable_entry-durable.ensures.rest
    c.durable_entry-durable.ensures.hand c.requires.alone.journal in
    subst (λ (k : Hand _ _). (slot : ℕ) × (can : CanAppend k n slot c.args.leaf)
    × FromEach (world cf bf c.durable_entry-durable.new.seat) (IsDurableTo can.entries.last))
    (sym same) (
      c.requires.pending.0,
      record {
        at = x.own.at;
        its_part = x.own.its_part;
        free = closed.0;
        own = closed.1;
        entries = x.entries;
        pending = x.pending;
      },
      (λ o is course. (
          let up = c.durable_entry-durable.ensures.knows o is course in
          let last = closed.2 in
          let most = c.if-durable-last.false in
          omega (arith, up, last, most))),
    )

pub returns-in-Ok-Ok-clause-ok : goal.returns-in-Ok-Ok-clause-ok
returns-in-Ok-Ok-clause-ok g c slot x =
    let cf = g.C.Disk.facts in
    let bf = g.B.Disk.facts in
    let sectors = (cache_among cf bf c.args.parts.now.run.start).sectors in
    let h = c.args.hand.now in
    let same = back_journal h c.durable_entry-durable.new.hand c.durable_entry-durable.ensures.rest
    c.durable_entry-durable.ensures.hand c.requires.alone.journal in
    let n = length c.args.parts.now.run.start in
    appended_in g.C.Disk.facts g.B.Disk.facts c.args.parts.now c.args.seat.now
    c.durable_entry-durable.new.seat h c.durable_entry-durable.new.hand c.requires.works
    c.durable_entry-durable.ensures.works c.durable_entry-durable.ensures.waited same n
    c.args.leaf 0 c.requires.alone.cache c.append_set.new.hand c.append_set.new.seat
    c.append_set.ensures.kinds slot x (c.last_entry.ensures n slot x).1
    (subst (λ (r : Result (Unit {0}) NoRoom). HasAnswered cf bf sectors c.args.leaf r
    c.durable_entry-durable.new.hand c.append_set.new.hand c.durable_entry-durable.new.seat
    c.append_set.new.seat) c.in-Ok-Ok.field-0-is c.in-Ok-Ok.ensures.ok)

pub returns-in-Ok-Ok-clause-keeps : goal.returns-in-Ok-Ok-clause-keeps
returns-in-Ok-Ok-clause-keeps g c =
    let h = c.args.hand.now in
    let same = back_journal h c.durable_entry-durable.new.hand c.durable_entry-durable.ensures.rest
    c.durable_entry-durable.ensures.hand c.requires.alone.journal in
    keeps_since g.C.Disk.facts g.B.Disk.facts c.args.parts.now c.args.seat.now
    c.durable_entry-durable.new.seat h c.durable_entry-durable.new.hand c.requires.works
    c.durable_entry-durable.ensures.works c.durable_entry-durable.ensures.waited same
    c.append_set.new.seat c.append_set.ensures.keeps

pub returns-in-Ok-Err-Full-clause-ok : goal.returns-in-Ok-Err-Full-clause-ok
returns-in-Ok-Err-Full-clause-ok g c slot x =
    let cf = g.C.Disk.facts in
    let bf = g.B.Disk.facts in
    let sectors = (cache_among cf bf c.args.parts.now.run.start).sectors in
    let h = c.args.hand.now in
    let n = length c.args.parts.now.run.start in
    let told = c.last_entry.ensures n slot x in
    let same = back_journal h c.durable_entry-durable.new.hand c.durable_entry-durable.ensures.rest
    c.durable_entry-durable.ensures.hand c.requires.alone.journal in
    full_since g.C.Disk.facts g.B.Disk.facts c.args.parts.now c.args.seat.now
    c.durable_entry-durable.new.seat h c.durable_entry-durable.new.hand c.requires.works
    c.durable_entry-durable.ensures.works c.durable_entry-durable.ensures.waited same n
    c.args.leaf _ c.requires.alone.cache c.append_set.new.hand c.append_set.new.seat
    c.append_set.ensures.kinds slot x told.1
    (subst (λ (r : Result (Unit {0}) NoRoom). HasAnswered cf bf sectors c.args.leaf r
    c.durable_entry-durable.new.hand c.append_set.new.hand c.durable_entry-durable.new.seat
    c.append_set.new.seat) (c.in-Ok-Err-Full.field-0-is ∙ ap Err c.in-Ok-Err-Full.field-0-0-is)
    c.in-Ok-Err-Full.ensures.ok)

pub returns-in-Ok-Err-Full-clause-keeps : goal.returns-in-Ok-Err-Full-clause-keeps
returns-in-Ok-Err-Full-clause-keeps g c =
    let h = c.args.hand.now in
    let same = back_journal h c.durable_entry-durable.new.hand c.durable_entry-durable.ensures.rest
    c.durable_entry-durable.ensures.hand c.requires.alone.journal in
    keeps_since g.C.Disk.facts g.B.Disk.facts c.args.parts.now c.args.seat.now
    c.durable_entry-durable.new.seat h c.durable_entry-durable.new.hand c.requires.works
    c.durable_entry-durable.ensures.works c.durable_entry-durable.ensures.waited same
    c.append_set.new.seat c.append_set.ensures.keeps

pub returns-in-Ok-Err-Outside-clause-ok : goal.returns-in-Ok-Err-Outside-clause-ok
returns-in-Ok-Err-Outside-clause-ok g c slot x =
    let cf = g.C.Disk.facts in
    let bf = g.B.Disk.facts in
    let sectors = (cache_among cf bf c.args.parts.now.run.start).sectors in
    let h = c.args.hand.now in
    let n = length c.args.parts.now.run.start in
    let told = c.last_entry.ensures n slot x in
    let same = back_journal h c.durable_entry-durable.new.hand c.durable_entry-durable.ensures.rest
    c.durable_entry-durable.ensures.hand c.requires.alone.journal in
    outside_since g.C.Disk.facts g.B.Disk.facts c.args.parts.now c.args.seat.now
    c.durable_entry-durable.new.seat h c.durable_entry-durable.new.hand c.requires.works
    c.durable_entry-durable.ensures.works c.durable_entry-durable.ensures.waited same n
    c.args.leaf _ c.requires.alone.cache c.append_set.new.hand c.append_set.new.seat
    c.append_set.ensures.kinds slot x told.1
    (subst (λ (r : Result (Unit {0}) NoRoom). HasAnswered cf bf sectors c.args.leaf r
    c.durable_entry-durable.new.hand c.append_set.new.hand c.durable_entry-durable.new.seat
    c.append_set.new.seat) (c.in-Ok-Err-Outside.field-0-is ∙ ap Err c.in-Ok-Err-Outside.field-0-0-is)
    c.in-Ok-Err-Outside.ensures.ok)

pub returns-in-Ok-Err-Outside-clause-keeps : goal.returns-in-Ok-Err-Outside-clause-keeps
returns-in-Ok-Err-Outside-clause-keeps g c =
    let h = c.args.hand.now in
    let same = back_journal h c.durable_entry-durable.new.hand c.durable_entry-durable.ensures.rest
    c.durable_entry-durable.ensures.hand c.requires.alone.journal in
    keeps_since g.C.Disk.facts g.B.Disk.facts c.args.parts.now c.args.seat.now
    c.durable_entry-durable.new.seat h c.durable_entry-durable.new.hand c.requires.works
    c.durable_entry-durable.ensures.works c.durable_entry-durable.ensures.waited same
    c.append_set.new.seat c.append_set.ensures.keeps

pub returns-in-Err-append_set-clause-err : goal.returns-in-Err-append_set-clause-err
returns-in-Err-append_set-clause-err g c =
    let cf = g.C.Disk.facts in
    let bf = g.B.Disk.facts in
    let h = c.args.hand.now in
    let same = back_journal h c.durable_entry-durable.new.hand c.durable_entry-durable.ensures.rest
    c.durable_entry-durable.ensures.hand c.requires.alone.journal in
    append_answered cf bf c.in-Err-append_set.error c.or_halt.result c.args.leaf h
    c.append_set.new.hand c.args.seat.now c.append_set.new.seat c.or_halt.ensures
    (failed_since cf bf c.args.parts.now c.args.seat.now
    c.durable_entry-durable.new.seat h c.durable_entry-durable.new.hand c.requires.works
    c.durable_entry-durable.ensures.works c.durable_entry-durable.ensures.waited same
    c.in-Err-append_set.error c.args.leaf c.append_set.new.hand c.append_set.new.seat
    c.in-Err-append_set.ensures.err)

pub returns-in-Err-append_set-clause-memory : goal.returns-in-Err-append_set-clause-memory
returns-in-Err-append_set-clause-memory g c memory = none_heard c.in-Err-append_set.error
    c.or_halt.result c.append_set.new.seat.heard c.append_set.new.seat.seen c.or_halt.ensures memory

pub returns-in-Err-append_set-clause-keeps : goal.returns-in-Err-append_set-clause-keeps
returns-in-Err-append_set-clause-keeps g c =
    let h = c.args.hand.now in
    let same = back_journal h c.durable_entry-durable.new.hand c.durable_entry-durable.ensures.rest
    c.durable_entry-durable.ensures.hand c.requires.alone.journal in
    keeps_since g.C.Disk.facts g.B.Disk.facts c.args.parts.now c.args.seat.now
    c.durable_entry-durable.new.seat h c.durable_entry-durable.new.hand c.requires.works
    c.durable_entry-durable.ensures.works c.durable_entry-durable.ensures.waited same
    c.append_set.new.seat c.append_set.ensures.keeps
