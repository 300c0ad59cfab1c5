use Rattle.std.specs.Prelude.{All}
use Rattle.std.proofs.Common.{◌≡◌, ◌*◌, length, List, ap, ◌∙◌, sym, subst, arith}
use Rattle.bc_fetch.specs.bc_hand.Seats.{note}
use Rattle.bc_fetch.specs.bc_deed.Asked.{IsWithin}
use Rattle.bc_fetch.specs.bc_machine.Plain.{worker_of}
use Rattle.bc_model.proofs.Sectors.{length_values_of}
use Rattle.bc_model.specs.Sector.{values_of}
use Rattle.bc_reader.specs.Claimed.{HasStoppedAtOnce}
use Rattle.bc_reader.specs.Noted.{IsUnchanged}
use Rattle.bc_reader.specs.declared.noted.Noted.{Noted}
use Rattle.bc_reader.specs.declared.error.ReadError.{ReadError}
use Rattle.bc_reader.proofs.Looking.{over_same}
use Rattle.bc_reader.proofs.Finding.{waited_done}
use Rattle.bc_reader.proofs.Going.{first_still, on_read_seen}
use Rattle.bc_reader.proofs.Running.{long_of}
use Rattle.bc_reader.proofs.Turning.{answered, has_buckets, is_false, is_true, may_with_read, not_seen, read_only, tried_of, turned, within_over}
use Rattle.bc_reader.proofs.claimed.read_once.Goals as goal

pub returns-in-Err-clause-err : goal.returns-in-Err-clause-err
returns-in-Err-clause-err g c = not_seen g.C.Disk.facts g.B.Disk.facts c.args.parts.now c.args.first
    c.args.count c.in-Err.error c.args.seat.now c.look_at.new.seat c.look_at.ensures.works.seat
    c.in-Err.ensures.err

pub read_seen-requires-clause-range : goal.read_seen-requires-clause-range
read_seen-requires-clause-range g c = over_same
    (note g.C.Disk.facts g.B.Disk.facts c.args.seat.now).range
    (note g.C.Disk.facts g.B.Disk.facts c.look_at.new.seat).range c.args.first c.args.count
    c.look_at.ensures.claim c.requires.range

pub read_seen-requires-clause-has : goal.read_seen-requires-clause-has
read_seen-requires-clause-has g c = has_buckets g.C.Disk.facts g.B.Disk.facts c.args.parts.now
    c.args.first c.args.count c.in-Ok.seen c.args.seat.now c.look_at.new.seat c.look_at.new.hand
    c.in-Ok.ensures.ok.0

pub read_seen-requires-clause-saw : goal.read_seen-requires-clause-saw
read_seen-requires-clause-saw g c = (c.args.seat.now, c.in-Ok.ensures.ok.0)

pub returns-then-not-is_current-clause-ok : goal.returns-then-not-is_current-clause-ok
returns-then-not-is_current-clause-ok g c = turned g.C.Disk.facts g.B.Disk.facts c.args.parts.now
    c.args.first c.args.count c.in-Ok.seen (values_of c.read_seen.new.bytes) c.args.seat.now
    c.read_seen.new.seat c.give_buckets.new.seat c.read_seen.new.hand
    (c.in-Ok-read_seen.ensures.ok c.args.seat.now c.in-Ok.ensures.ok.0)
    c.read_seen.ensures.works c.in-Ok-read_seen.ensures.has
    (subst (λ (ns : List Noted). ¬ (All (IsUnchanged c.in-Ok-read_seen.ensures.has.part.buckets) ns))
    c.deref.ensures.value
    (is_false c.is_current.result
    (All (IsUnchanged c.in-Ok-read_seen.ensures.has.part.buckets) c.deref.result.now)
    (¬ (All (IsUnchanged c.in-Ok-read_seen.ensures.has.part.buckets) c.deref.result.now))
    c.if-not-is_current.true (c.is_current.ensures c.in-Ok-read_seen.ensures.has)))
    (waited_done g.C.Disk.facts g.B.Disk.facts c.read_seen.new.seat c.give_buckets.new.seat
    c.give_buckets.ensures.works.seat c.give_buckets.ensures.waited)

pub answer_with-answered-requires-clause-line : goal.answer_with-answered-requires-clause-line
answer_with-answered-requires-clause-line g c = ap worker_of
    (first_still g.C.Disk.facts g.B.Disk.facts c.args.seat.now c.read_seen.new.seat
    (on_read_seen g.C.Disk.facts g.B.Disk.facts c.args.parts.now c.args.first c.args.count
    c.in-Ok.seen (values_of c.read_seen.new.bytes) c.args.seat.now c.read_seen.new.seat
    (c.in-Ok-read_seen.ensures.ok c.args.seat.now c.in-Ok.ensures.ok.0))) ∙ c.requires.line

pub answer_with-answered-requires-clause-covered : goal.answer_with-answered-requires-clause-covered
answer_with-answered-requires-clause-covered g c =
    let range = (note g.C.Disk.facts g.B.Disk.facts c.read_seen.new.seat).range in
    let long : length c.read_seen.new.bytes ≡ 512 * c.args.count =
    omega (arith, c.read_seen.auto.bytes, c.requires.length) in
    subst (λ n. IsWithin range c.args.first n) (sym (long_of (length c.read_seen.new.bytes) c.args.count long))
    (within_over c.args.first c.args.count range
    (over_same (note g.C.Disk.facts g.B.Disk.facts c.args.seat.now).range range c.args.first
    c.args.count (c.read_seen.ensures.claim ∙ c.look_at.ensures.claim) c.requires.range))

pub answer_with-answered-requires-clause-known : goal.answer_with-answered-requires-clause-known
answer_with-answered-requires-clause-known g c =
    let long : length c.read_seen.new.bytes ≡ 512 * c.args.count =
    omega (arith, c.read_seen.auto.bytes, c.requires.length) in
    may_with_read g.C.Disk.facts g.B.Disk.facts c.args.parts.now c.args.first c.args.count
    c.in-Ok.seen (values_of c.read_seen.new.bytes) c.args.seat.now c.read_seen.new.seat
    c.read_seen.new.hand
    (c.in-Ok-read_seen.ensures.ok c.args.seat.now c.in-Ok.ensures.ok.0)
    c.in-Ok-read_seen.ensures.has
    (subst (λ (ns : List Noted). All (IsUnchanged c.in-Ok-read_seen.ensures.has.part.buckets) ns)
    c.deref.ensures.value
    (is_true c.is_current.result
    (All (IsUnchanged c.in-Ok-read_seen.ensures.has.part.buckets) c.deref.result.now)
    (¬ (All (IsUnchanged c.in-Ok-read_seen.ensures.has.part.buckets) c.deref.result.now))
    c.if-not-is_current.false (c.is_current.ensures c.in-Ok-read_seen.ensures.has)))
    (length_values_of c.read_seen.new.bytes
    ∙ long_of (length c.read_seen.new.bytes) c.args.count long)

pub returns-in-Ok-answered-clause-ok : goal.returns-in-Ok-answered-clause-ok
returns-in-Ok-answered-clause-ok g c = answered g.C.Disk.facts g.B.Disk.facts c.args.parts.now
    c.args.first c.args.count c.args.of (values_of c.read_seen.new.bytes) c.args.seat.now
    c.read_seen.new.seat c.answer_with-answered.new.seat c.give_buckets-2.new.seat
    (tried_of g.C.Disk.facts g.B.Disk.facts c.args.parts.now c.args.first c.args.count c.in-Ok.seen
    (values_of c.read_seen.new.bytes) c.args.seat.now c.read_seen.new.seat
    (c.in-Ok-read_seen.ensures.ok c.args.seat.now c.in-Ok.ensures.ok.0))
    c.in-Ok-answered.ensures.ok
    (waited_done g.C.Disk.facts g.B.Disk.facts c.answer_with-answered.new.seat
    c.give_buckets-2.new.seat c.give_buckets-2.ensures.works.seat c.give_buckets-2.ensures.waited)

pub returns-clause-err : goal.returns-clause-err
returns-clause-err g c = subst (λ (e : ReadError). HasStoppedAtOnce g.C.Disk.facts g.B.Disk.facts
    c.args.parts.now c.args.first c.args.count e c.args.seat.now c.give_buckets-2.new.seat)
    (sym c.of_step-in-Err-answered.ensures)
    (read_only g.C.Disk.facts g.B.Disk.facts c.args.parts.now c.args.first c.args.count
    (values_of c.read_seen.new.bytes) c.in-Err-answered.error c.args.seat.now c.read_seen.new.seat
    c.answer_with-answered.new.seat c.give_buckets-2.new.seat
    (tried_of g.C.Disk.facts g.B.Disk.facts c.args.parts.now c.args.first c.args.count c.in-Ok.seen
    (values_of c.read_seen.new.bytes) c.args.seat.now c.read_seen.new.seat
    (c.in-Ok-read_seen.ensures.ok c.args.seat.now c.in-Ok.ensures.ok.0))
    c.in-Err-answered.ensures.cause c.in-Err-answered.ensures.err
    (waited_done g.C.Disk.facts g.B.Disk.facts c.answer_with-answered.new.seat
    c.give_buckets-2.new.seat c.give_buckets-2.ensures.works.seat c.give_buckets-2.ensures.waited))
