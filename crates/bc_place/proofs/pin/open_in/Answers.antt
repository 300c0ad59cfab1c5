use Rattle.std.proofs.Common.{List, length, refl, sym, ap, ◌∙◌, arith}
use Rattle.std.proofs.lemmas.List.{nil_from_length}
use Rattle.bc_alloc.specs.Reserves.{list_of}
use Rattle.bc_alloc.specs.declared.purpose.Purpose.TheVariants as list
use Rattle.bc_deed.proofs.May.{did_nothing}
use Rattle.bc_events.specs.declared.event.Deed.TheVariants as deed
use Rattle.bc_fill.proofs.Opens.{is_none}
use Rattle.bc_fill.specs.declared.fill.Open.{Open}
use Rattle.bc_deed.specs.bc_hand.Seats.{world}
use Rattle.bc_place.proofs.Keeping.{keeps_deed, keeps_waited}
use Rattle.bc_place.proofs.Knowing.{buckets_since}
use Rattle.bc_place.proofs.Steps.{knows_none, may_open, opened_after}
use Rattle.bc_place.proofs.Storing.{cached_by}
use Rattle.bc_place.proofs.pin.open_in.Goals as goal

pub returns-then-len-eq0-clause-ok : goal.returns-then-len-eq0-clause-ok
returns-then-len-eq0-clause-ok g c = (
  refl,
  did_nothing g.C.Disk.facts g.B.Disk.facts c.args.seat.now c.requires.seat,
  knows_none g.C.Disk.facts g.B.Disk.facts c.args.seat.now c.requires.seat
      (cached_by g.C.Disk.facts g.B.Disk.facts c.args.parts.now c.args.seat.now c.requires.run
      c.requires.cached) c.requires.holds c.args.part.now c.requires.buckets
      (nil_from_length c.args.part.now.fill
      (ap (λ (fs : List Open). length fs) (sym c.open.ensures.value)
      ∙ is_none (length c.open.result.now) (sym c.is_empty.ensures ∙ c.if-not-is_empty.false)))
      (nil_from_length (list_of list.Plain c.args.part.now.reserves).buckets
      (sym c.len.ensures.len ∙ c.if-len-eq0.true)),
)

pub commit-requires-clause-may : goal.commit-requires-clause-may
commit-requires-clause-may g c =
    let some = c.if-len-eq0.false in
    let len = c.len.ensures.len in
    may_open g.C.Disk.facts g.B.Disk.facts c.args.seat.now
    c.requires.seat (cached_by g.C.Disk.facts g.B.Disk.facts c.args.parts.now c.args.seat.now
    c.requires.run c.requires.cached) c.requires.holds c.args.part.now c.requires.buckets
    c.args.before c.requires.before c.get-bucket.result c.saturating_sub.result
    c.get-bucket.ensures (omega (arith, some, len)) c.saturating_sub.ensures

pub returns-in-Err-clause-buckets : goal.returns-in-Err-clause-buckets
returns-in-Err-clause-buckets g c = buckets_since g.C.Disk.facts g.B.Disk.facts c.args.seat.now
    c.requires.seat c.requires.holds c.args.part.now c.requires.buckets
    (world g.C.Disk.facts g.B.Disk.facts c.commit.new.seat) c.in-Err.ensures.err.is.since

pub returns-in-Err-clause-keeps : goal.returns-in-Err-clause-keeps
returns-in-Err-clause-keeps g c = keeps_waited g.C.Disk.facts g.B.Disk.facts c.args.seat.now
    c.commit.new.seat c.requires.seat c.in-Err.ensures.err.is

pub returns-clause-buckets : goal.returns-clause-buckets
returns-clause-buckets g c = opened_after g.C.Disk.facts g.B.Disk.facts c.args.seat.now
    c.requires.seat (cached_by g.C.Disk.facts g.B.Disk.facts c.args.parts.now c.args.seat.now
    c.requires.run c.requires.cached) c.requires.holds c.args.part.now c.requires.buckets
    c.args.before c.requires.before c.commit.new.seat c.get-bucket.result c.saturating_sub.result
    c.get-bucket.ensures c.saturating_sub.ensures c.in_default.ensures.ok
    (nil_from_length c.args.part.now.fill
    (ap (λ (fs : List Open). length fs) (sym c.open.ensures.value)
    ∙ is_none (length c.open.result.now) (sym c.is_empty.ensures ∙ c.if-not-is_empty.false)))
    c.open_first.new.part c.open_first.ensures

pub returns-clause-keeps : goal.returns-clause-keeps
returns-clause-keeps g c = keeps_deed g.C.Disk.facts g.B.Disk.facts c.args.seat.now
    c.commit.new.seat (deed.Take list.Plain c.saturating_sub.result) c.requires.seat refl
    c.in_default.ensures.ok
