use Rattle.std.proofs.Common.{◌+◌, ap, ◌∙◌, sym, subst, arith}
use Rattle.bc_fetch.specs.bc_hand.Seats.{note}
use Rattle.bc_fetch.specs.bc_hand.declared.hand.Hand.{Hand}
use Rattle.bc_fetch.specs.bc_machine.World.{cache_among}
use Rattle.bc_reader.specs.Look.{LookStop}
use Rattle.bc_reader.specs.Runs.{LieWithin}
use Rattle.bc_reader.specs.declared.error.ReadError.{ReadError}
use Rattle.bc_reader.proofs.Finding.{both_moved, found_moved, leaf_moved}
use Rattle.bc_reader.proofs.Looking.{leaf_over, look_halted, looked_done, none_done, over_leaf, over_still, waited_twice}
use Rattle.bc_reader.proofs.Series.{runs_few}
use Rattle.bc_reader.proofs.look.look_in.Goals as goal

pub find_runs-requires-clause-both : goal.find_runs-requires-clause-both
find_runs-requires-clause-both g c = both_moved c.args.hand.now c.cache_sectors-sectors.new.hand
    c.args.number c.args.first c.args.count
    (ap (λ (h : Hand _ _). h.leaves) c.cache_sectors-sectors.ensures.hand.rest)
    (ap (λ (h : Hand _ _). h.buckets) c.cache_sectors-sectors.ensures.hand.rest) c.requires.both

pub overflow_cast-len : goal.overflow_cast-len
overflow_cast-len g c =
    let found = c.in-Ok.ensures.ok.0 in
    let most = runs_few found.both.cached.leaf found.both.buckets.part.buckets c.args.first
    (c.args.first + c.args.count) c.in-Ok.seen.runs.items found.by.runs in
    let piece = c.requires.piece in omega (arith, most, piece, c.len.ensures)

pub overflow_mul-len : goal.overflow_mul-len
overflow_mul-len g c =
    let found = c.in-Ok.ensures.ok.0 in
    let most = runs_few found.both.cached.leaf found.both.buckets.part.buckets c.args.first
    (c.args.first + c.args.count) c.in-Ok.seen.runs.items found.by.runs in
    let piece = c.requires.piece in omega (arith, most, piece, c.len.ensures)

pub returns-in_default-clause-err : goal.returns-in_default-clause-err
returns-in_default-clause-err g c = subst (λ (e : ReadError). LookStop g.C.Disk.facts g.B.Disk.facts
    c.promise.new.hand c.args.number c.args.first c.args.count
    (cache_among g.C.Disk.facts g.B.Disk.facts c.args.parts.now.run.start).sectors e c.args.seat.now
    c.promise.new.seat) (sym c.of_step.ensures)
    (waited_twice g.C.Disk.facts g.B.Disk.facts c.args.seat.now
    c.cache_sectors-sectors.new.seat c.promise.new.seat c.cache_sectors-sectors.ensures.works.seat
    c.cache_sectors-sectors.ensures.waited c.promise.ensures.done)

pub look-requires-clause-leaf : goal.look-requires-clause-leaf
look-requires-clause-leaf g c =
    let both = both_moved c.args.hand.now c.promise.new.hand c.args.number c.args.first c.args.count
    (ap (λ (h : Hand _ _). h.leaves) (c.promise.ensures.hand ∙ c.cache_sectors-sectors.ensures.hand.rest))
    (ap (λ (h : Hand _ _). h.buckets) (c.promise.ensures.hand ∙ c.cache_sectors-sectors.ensures.hand.rest))
    c.requires.both in
    over_leaf c.promise.new.hand (note g.C.Disk.facts g.B.Disk.facts c.promise.new.seat).range
    c.args.number c.args.first c.args.count both.slot both.cached
    (over_still g.C.Disk.facts g.B.Disk.facts c.args.first c.args.count c.args.seat.now c.promise.new.seat
    (waited_twice g.C.Disk.facts g.B.Disk.facts c.args.seat.now
    c.cache_sectors-sectors.new.seat c.promise.new.seat c.cache_sectors-sectors.ensures.works.seat
    c.cache_sectors-sectors.ensures.waited c.promise.ensures.done) c.requires.range) both.leaf

pub returns-in-Ok-look-clause-ok : goal.returns-in-Ok-look-clause-ok
returns-in-Ok-look-clause-ok g c = (
  found_moved c.cache_sectors-sectors.new.hand c.look.new.hand c.args.number c.args.first
      c.args.count c.in-Ok.seen
      (ap (λ (h : Hand _ _). h.leaves) (c.look.ensures.hand ∙ c.promise.ensures.hand))
      (ap (λ (h : Hand _ _). h.buckets) (c.look.ensures.hand ∙ c.promise.ensures.hand))
      c.in-Ok.ensures.ok.0,
  subst (λ n. LieWithin c.in-Ok.seen.runs.items n) c.cache_sectors-sectors.ensures.sectors
      c.in-Ok.ensures.ok.1,
  (let room = c.in-Ok-promise.ensures.ok in let one = c.in-Ok-look.ensures.ok.is.promises in
      let before = c.cache_sectors-sectors.ensures.waited.promises in
      let long = c.len.ensures in omega (arith, room, one, before, long)),
)

pub returns-in-Ok-look-clause-did : goal.returns-in-Ok-look-clause-did
returns-in-Ok-look-clause-did g c = looked_done g.C.Disk.facts g.B.Disk.facts c.args.number
    c.args.seat.now c.cache_sectors-sectors.new.seat c.promise.new.seat c.look.new.seat
    c.cache_sectors-sectors.ensures.works.seat c.cache_sectors-sectors.ensures.waited
    c.promise.ensures.done c.in-Ok-look.ensures.ok

pub returns-in-Ok-look-clause-knows : goal.returns-in-Ok-look-clause-knows
returns-in-Ok-look-clause-knows g c slot cached b has is = c.in-Ok-look.ensures.knows slot cached b
    (leaf_over c.promise.new.hand (note g.C.Disk.facts g.B.Disk.facts c.promise.new.seat).range
    c.args.number c.args.first c.args.count slot cached
    (over_still g.C.Disk.facts g.B.Disk.facts c.args.first c.args.count c.args.seat.now c.promise.new.seat
    (waited_twice g.C.Disk.facts g.B.Disk.facts c.args.seat.now
    c.cache_sectors-sectors.new.seat c.promise.new.seat c.cache_sectors-sectors.ensures.works.seat
    c.cache_sectors-sectors.ensures.waited c.promise.ensures.done) c.requires.range)
    (leaf_moved c.look.new.hand c.promise.new.hand c.args.number c.args.first c.args.count slot cached
    (sym (ap (λ (h : Hand _ _). h.leaves) c.look.ensures.hand)) has))
    (sym (ap (λ (h : Hand _ _). h.buckets) c.look.ensures.hand) ∙ is)

pub returns-in-Err-look-clause-err : goal.returns-in-Err-look-clause-err
returns-in-Err-look-clause-err g c = subst (λ (e : ReadError). LookStop g.C.Disk.facts
    g.B.Disk.facts c.look.new.hand c.args.number c.args.first c.args.count
    (cache_among g.C.Disk.facts g.B.Disk.facts c.args.parts.now.run.start).sectors e c.args.seat.now
    c.look.new.seat) (sym c.of_step-in-Err-look.ensures)
    (look_halted g.C.Disk.facts g.B.Disk.facts c.look.new.hand c.args.number c.args.first c.args.count
    (cache_among g.C.Disk.facts g.B.Disk.facts c.args.parts.now.run.start).sectors c.in-Err-look.error
    c.args.seat.now c.look.new.seat c.in-Err-look.ensures.halted
    (none_done g.C.Disk.facts g.B.Disk.facts c.args.seat.now c.cache_sectors-sectors.new.seat
    c.promise.new.seat c.look.new.seat c.cache_sectors-sectors.ensures.works.seat
    c.cache_sectors-sectors.ensures.waited c.promise.ensures.done c.in-Err-look.ensures.err))
