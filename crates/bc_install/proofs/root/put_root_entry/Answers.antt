use Rattle.std.proofs.Common.{inl, ap, ◌∙◌}
use Rattle.std.specs.Prelude.{is_some}
use Rattle.bc_change.specs.bc_hand.declared.hand.Hand.{Hand}
use Rattle.bc_change.specs.bc_hand.declared.error.StepError.TheVariants as error
use Rattle.bc_change.proofs.of_bc_entry.Putting.{if_err, sealed_hand, sealed_kinds}
use Rattle.bc_append.proofs.of_bc_place.Keeping.{keeps_waited}
use Rattle.bc_change.proofs.of_bc_hand.Knowing.{map_ok}
use Rattle.bc_install.proofs.Keeping.{keeps_nothing, keeps_put}
use Rattle.bc_install.proofs.Rooted.{cause_seal, cut_behind, cut_seal, has_put, journal_put, rest_none, rest_then, same_journal, same_sectors, same_spine, sealed_numbers_are, unheard_put, unsealed}
use Rattle.bc_install.proofs.root.put_root_entry.Goals as goal

pub returns-in-Some-clause-err : goal.returns-in-Some-clause-err
returns-in-Some-clause-err g c = (
  c.requires.disk.0,
  c.requires.disk.1,
  inl (unsealed g.C.Disk.facts g.B.Disk.facts (error.Halted c.in-Some.device) c.args.seat.now
      c.args.hand.now tt c.requires.works.seat),
)

pub returns-in-Some-clause-places : goal.returns-in-Some-clause-places
returns-in-Some-clause-places g c = keeps_nothing g.C.Disk.facts g.B.Disk.facts c.args.seat.now
    c.requires.works.seat

pub returns-in_default-new-clause-err : goal.returns-in_default-new-clause-err
returns-in_default-new-clause-err g c = (
  c.requires.disk.0,
  c.requires.disk.1,
  inl (unsealed g.C.Disk.facts g.B.Disk.facts error.Memory c.args.seat.now c.args.hand.now tt
      c.requires.works.seat),
)

pub returns-in_default-new-clause-places : goal.returns-in_default-new-clause-places
returns-in_default-new-clause-places g c = keeps_nothing g.C.Disk.facts g.B.Disk.facts
    c.args.seat.now c.requires.works.seat

pub returns-in-Err-clause-err : goal.returns-in-Err-clause-err
returns-in-Err-clause-err g c = (
  c.requires.disk.0,
  c.requires.disk.1,
  cut_seal g.C.Disk.facts g.B.Disk.facts c.requires.disk.0 c.args.heads.now c.args.root
      c.args.change c.args.seat.now c.in-Err.error c.seal_root.new.seat c.args.hand.now
      c.seal_root.new.hand c.in-Err.ensures.cause c.in-Err.ensures.err c.in-Err.ensures.same,
)

pub returns-in-Err-clause-places : goal.returns-in-Err-clause-places
returns-in-Err-clause-places g c = keeps_waited g.C.Disk.facts g.B.Disk.facts c.args.seat.now
    c.seal_root.new.seat c.requires.works.seat c.in-Err.ensures.err.is

pub returns-in-Err-clause-cause : goal.returns-in-Err-clause-cause
returns-in-Err-clause-cause g c = cause_seal g.C.Disk.facts g.B.Disk.facts c.requires.disk.0
    c.args.heads.now c.args.root c.args.change c.args.seat.now c.in-Err.error
    c.seal_root.new.seat.seen c.in-Err.ensures.cause

pub returns-in-Err-clause-rest : goal.returns-in-Err-clause-rest
returns-in-Err-clause-rest g c = rest_none c.args.hand.now c.seal_root.new.hand
    c.in-Err.ensures.same

pub put_sealed-requires-clause-hand : goal.put_sealed-requires-clause-hand
put_sealed-requires-clause-hand g c = let ok = c.in-Ok-seal_root.ensures.ok in
    sealed_hand c.args.hand.now c.seal_root.new.hand ok.1 ok.3 c.requires.hand

pub put_sealed-requires-clause-tree : goal.put_sealed-requires-clause-tree
put_sealed-requires-clause-tree g c = let ok = c.in-Ok-seal_root.ensures.ok in
    same_spine c.args.hand.now c.seal_root.new.hand ok.1 ok.3
    (ap is_some c.requires.may.can.is_spine)

pub put_sealed-requires-clause-journal : goal.put_sealed-requires-clause-journal
put_sealed-requires-clause-journal g c = let ok = c.in-Ok-seal_root.ensures.ok in (
  ok.1,
  ap (λ (x : Hand _ _). x.journal) ok.3,
  sealed_numbers_are ok.0 c.args.heads.now c.in-Ok-seal_root.entry ok.1 ok.4,
)

pub put_sealed-requires-clause-disk : goal.put_sealed-requires-clause-disk
put_sealed-requires-clause-disk g c = let ok = c.in-Ok-seal_root.ensures.ok in
    same_sectors c.requires.disk.0.ring.geometry c.in-Ok-seal_root.entry.geometry _
    (ok.4.geometry ∙ ap (λ j. j.ring.geometry)
    (same_journal c.args.hand.now.journal ok.0 c.requires.disk.0 ok.2 c.requires.disk.1))
    c.requires.disk.2

pub returns-clause-kinds : goal.returns-clause-kinds
returns-clause-kinds g c = let ok = c.in-Ok-seal_root.ensures.ok in
    c.put_sealed.ensures.kinds
    ∙ sealed_kinds c.args.hand.now c.seal_root.new.hand ok.1 ok.3 c.requires.hand.journal

pub returns-clause-rest : goal.returns-clause-rest
returns-clause-rest g c = let ok = c.in-Ok-seal_root.ensures.ok in
    rest_then c.args.hand.now c.seal_root.new.hand c.put_sealed.new.hand ok.1 ok.3
    c.put_sealed.ensures.rest

pub returns-clause-journal : goal.returns-clause-journal
returns-clause-journal g c = let ok = c.in-Ok-seal_root.ensures.ok in
    journal_put c.put_sealed.result c.args.hand.now.journal c.seal_root.new.hand.journal
    c.put_sealed.new.hand.journal ok.0 c.args.heads.now c.in-Ok-seal_root.entry ok.1 ok.2 ok.4
    (ap (λ (x : Hand _ _). x.journal) ok.3) c.put_sealed.ensures.journal

pub returns-clause-ok : goal.returns-clause-ok
returns-clause-ok g c = let ok = c.in-Ok-seal_root.ensures.ok in
    map_ok c.put_sealed.result (λ put. (ok.0, ok.2, put))
    (has_put g.C.Disk.facts g.B.Disk.facts ok.0 c.args.heads.now c.args.root c.args.change
    c.args.seat.now c.seal_root.new.seat c.put_sealed.new.seat c.in-Ok-seal_root.entry ok.1 ok.4
    ok.5 c.args.plan.now c.put_sealed.ensures.under c.in-Ok-seal_root.ensures.under
    c.put_sealed.result c.put_sealed.ensures.ok c.put_sealed.ensures.newest)

pub returns-clause-err : goal.returns-clause-err
returns-clause-err g c = let ok = c.in-Ok-seal_root.ensures.ok in
    if_err c.put_sealed.result (λ e cut. (ok.0, ok.2, cut))
    (cut_behind g.C.Disk.facts g.B.Disk.facts ok.0 c.args.heads.now c.args.root c.args.change
    c.args.seat.now c.seal_root.new.seat c.put_sealed.new.seat c.in-Ok-seal_root.entry ok.1 ok.4
    ok.5 c.put_sealed.result c.args.hand.now c.put_sealed.new.hand c.put_sealed.ensures.err)

pub returns-clause-memory : goal.returns-clause-memory
returns-clause-memory g c = let ok = c.in-Ok-seal_root.ensures.ok in
    unheard_put g.C.Disk.facts g.B.Disk.facts ok.0 c.args.heads.now c.args.root c.args.change
    c.args.seat.now c.put_sealed.result c.in-Ok-seal_root.entry c.seal_root.new.seat
    c.put_sealed.new.seat c.put_sealed.new.seat.heard c.put_sealed.ensures.err

pub returns-clause-places : goal.returns-clause-places
returns-clause-places g c = let ok = c.in-Ok-seal_root.ensures.ok in
    keeps_put g.C.Disk.facts g.B.Disk.facts c.args.seat.now c.seal_root.new.seat
    c.put_sealed.new.seat c.requires.works.seat ok.0 c.in-Ok-seal_root.entry c.args.root
    c.args.change ok.5 c.put_sealed.result c.put_sealed.ensures.ok c.put_sealed.ensures.err
