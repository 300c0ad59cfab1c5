use Rattle.std.proofs.Common.{◌≡◌, ℕ, ◌/◌, List, length, Option, Some, refl, ap, ◌∙◌, subst}
use Rattle.std.specs.Prelude.{IfSome}
use Rattle.bc_model.specs.Sector.{Value, values_of}
use Rattle.bc_model.proofs.Sectors.{length_values_of}
use Rattle.bc_events.specs.declared.event.Deed.TheVariants as deed
use Rattle.bc_events.specs.declared.event.Failure.TheVariants as failure
use Rattle.bc_disk.specs.declared.disk.Device.TheVariants.{Backing}
use Rattle.bc_deed.proofs.Sequence.{done_first}
use Rattle.bc_deed.proofs.Noting.{range_failed, range_either}
use Rattle.bc_job.proofs.Under.{read_failed, read_noted, read_only, read_there, read_answered, within_same}
use Rattle.bc_job.proofs.piece.read_under.Goals as goal

same : (found : Option (List Value)) (values : List Value) (bytes : List ℕ)
    → IfSome found (λ vs. vs ≡ values_of bytes) → found ≡ Some values → values ≡ values_of bytes
same found values bytes h is =
    subst (λ (o : Option (List Value)). IfSome o (λ vs. vs ≡ values_of bytes)) is h

pub returns-in-Err-clause-claim : goal.returns-in-Err-clause-claim
returns-in-Err-clause-claim g c = range_failed g.C.Disk.facts g.B.Disk.facts c.in-Err.error
    (deed.DeviceFault (failure.Read Backing)) c.args.seat.now c.backing_read.new.seat c.requires.works.seat
    (λ plain. refl) c.in-Err.ensures.err

pub returns-in-Err-clause-err : goal.returns-in-Err-clause-err
returns-in-Err-clause-err g c = read_failed g.C.Disk.facts g.B.Disk.facts c.in-Err.error c.args.first
    c.args.seat.now c.backing_read.new.seat c.in-Err.ensures.err

pub returns-in_default-clause-claim : goal.returns-in_default-clause-claim
returns-in_default-clause-claim g c = (read_noted g.C.Disk.facts g.B.Disk.facts c.args.first _ c.args.seat.now
    c.backing_read.new.seat c.requires.works.seat c.in-Ok.ensures.ok).range

pub returns-in_default-clause-err : goal.returns-in_default-clause-err
returns-in_default-clause-err g c = Rattle.std.proofs.Common.inr (
  _,
  done_first g.C.Disk.facts g.B.Disk.facts
      (Some (deed.BackingRead c.args.first _)) c.args.seat.now c.backing_read.new.seat
      c.in-Ok.ensures.ok,
)

pub answer-requires-clause-looked : goal.answer-requires-clause-looked
answer-requires-clause-looked g c = (read_noted g.C.Disk.facts g.B.Disk.facts c.args.first _ c.args.seat.now
    c.backing_read.new.seat c.requires.works.seat c.in-Ok.ensures.ok).looked ∙ c.requires.looked

pub answer-requires-clause-covered : goal.answer-requires-clause-covered
answer-requires-clause-covered g c =
    let long : length c.in-Some.values ≡ length c.args.into.now / 512 =
    ap (λ (vs : List Value). length vs) (same _ c.in-Some.values c.backing_read.new.into c.in-Ok.ensures.values c.in-Some.is) ∙ length_values_of c.backing_read.new.into
    ∙ ap (λ n. n / 512) c.backing_read.auto.into in
    within_same _ _ c.args.first _ _
    (read_noted g.C.Disk.facts g.B.Disk.facts c.args.first _ c.args.seat.now
    c.backing_read.new.seat c.requires.works.seat c.in-Ok.ensures.ok).range long c.requires.covered

pub answer-requires-clause-read : goal.answer-requires-clause-read
answer-requires-clause-read g c = read_there g.C.Disk.facts g.B.Disk.facts c.args.first _ c.in-Some.values
    c.args.seat.now c.backing_read.new.seat c.requires.works.seat (same _ c.in-Some.values c.backing_read.new.into c.in-Ok.ensures.values c.in-Some.is) c.in-Ok.ensures.ok

pub returns-in-Ok-answer-clause-claim : goal.returns-in-Ok-answer-clause-claim
returns-in-Ok-answer-clause-claim g c = range_either g.C.Disk.facts g.B.Disk.facts c.answer.result
    (deed.Answer c.args.of c.args.first c.in-Some.values) c.backing_read.new.seat c.answer.new.seat
    c.backing_read.ensures.works.seat (λ plain. refl) c.answer.ensures.ok c.answer.ensures.err
    ∙ (read_noted g.C.Disk.facts g.B.Disk.facts c.args.first _ c.args.seat.now
    c.backing_read.new.seat c.requires.works.seat c.in-Ok.ensures.ok).range

pub returns-in-Err-answer-clause-claim : goal.returns-in-Err-answer-clause-claim
returns-in-Err-answer-clause-claim g c = range_either g.C.Disk.facts g.B.Disk.facts c.answer.result
    (deed.Answer c.args.of c.args.first c.in-Some.values) c.backing_read.new.seat c.answer.new.seat
    c.backing_read.ensures.works.seat (λ plain. refl) c.answer.ensures.ok c.answer.ensures.err
    ∙ (read_noted g.C.Disk.facts g.B.Disk.facts c.args.first _ c.args.seat.now
    c.backing_read.new.seat c.requires.works.seat c.in-Ok.ensures.ok).range

pub returns-in-Ok-answer-clause-ok : goal.returns-in-Ok-answer-clause-ok
returns-in-Ok-answer-clause-ok g c =
    read_answered g.C.Disk.facts g.B.Disk.facts c.args.of c.args.first _ c.in-Some.values
    c.args.seat.now c.backing_read.new.seat c.answer.new.seat
    (same _ c.in-Some.values c.backing_read.new.into c.in-Ok.ensures.values c.in-Some.is) c.in-Ok.ensures.ok
    c.in-Ok-answer.ensures.ok

pub returns-in-Ok-answer-clause-values : goal.returns-in-Ok-answer-clause-values
returns-in-Ok-answer-clause-values g c =
    same _ c.in-Some.values c.backing_read.new.into c.in-Ok.ensures.values c.in-Some.is

pub returns-in-Err-answer-clause-err : goal.returns-in-Err-answer-clause-err
returns-in-Err-answer-clause-err g c = read_only g.C.Disk.facts g.B.Disk.facts c.in-Err-answer.error c.args.first _
    c.args.seat.now c.backing_read.new.seat c.answer.new.seat c.in-Ok.ensures.ok c.in-Err-answer.ensures.cause
    c.in-Err-answer.ensures.err
