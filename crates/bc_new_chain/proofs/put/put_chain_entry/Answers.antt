use Rattle.std.proofs.Common.{◌*◌, ◌≤◌, sym, ap, ◌∙◌, subst}
use Rattle.bc_chain.proofs.of_bc_place.Keeping.{keeps_both as places_both}
use Rattle.bc_chain.specs.bc_machine.World.{cache_among}
use Rattle.bc_disk.specs.declared.geometry.Geometry.{Geometry}
use Rattle.bc_new_chain.proofs.Behind.{cause_halt}
use Rattle.bc_new_chain.proofs.Keeping.{beside_then, holds_on}
use Rattle.bc_new_chain.proofs.Putting.{cut_all, cut_first, has_both, journal_put, next_all, numbers_are, put_all, renewing_in, rest_put, rest_same, same_hand, sealed_buckets, sealed_hand, sealed_journal, sealed_kinds}
use Rattle.bc_new_chain.proofs.put.put_chain_entry.Goals as goal
use Rattle.std.specs.Prelude.{is_some}

pub returns-in-Err-clause-hand : goal.returns-in-Err-clause-hand
returns-in-Err-clause-hand g c = let may = c.requires.may in
    same_hand c.args.hand.now c.seal_chain.new.hand c.in-Err.ensures.same
    (has_both c.args.hand.now may.journal may.cache may.is_journal may.is_cache)

pub returns-in-Err-clause-err : goal.returns-in-Err-clause-err
returns-in-Err-clause-err g c = (
  c.requires.may.journal,
  c.requires.may.is_journal,
  cut_first g.C.Disk.facts g.B.Disk.facts c.in-Err.error c.requires.may.journal c.args.new.now
      c.args.hand.now c.seal_chain.new.hand c.args.seat.now c.seal_chain.new.seat
      c.in-Err.ensures.cause c.in-Err.ensures.same c.in-Err.ensures.err,
)

pub returns-in-Err-clause-rest : goal.returns-in-Err-clause-rest
returns-in-Err-clause-rest g c = rest_same c.args.hand.now c.seal_chain.new.hand
    c.in-Err.ensures.same

pub returns-in-Err-clause-cause : goal.returns-in-Err-clause-cause
returns-in-Err-clause-cause g c = cause_halt c.in-Err.error c.seal_chain.new.seat.seen
    c.in-Err.ensures.cause

pub put_behind-requires-clause-hand : goal.put_behind-requires-clause-hand
put_behind-requires-clause-hand g c =
    let ok = c.in-Ok.ensures.ok in
    sealed_hand c.args.hand.now c.seal_chain.new.hand c.args.new.now c.in-Ok.entry ok.0
    ok.1 ok.2 (ap is_some c.requires.may.is_cache)

pub put_behind-requires-clause-buckets : goal.put_behind-requires-clause-buckets
put_behind-requires-clause-buckets g c =
    let ok = c.in-Ok.ensures.ok in
    sealed_buckets c.args.hand.now c.seal_chain.new.hand c.args.new.now c.in-Ok.entry
    ok.0 ok.1 ok.2

pub put_behind-requires-clause-journal : goal.put_behind-requires-clause-journal
put_behind-requires-clause-journal g c =
    let ok = c.in-Ok.ensures.ok in (
      ok.1,
      sealed_journal c.args.hand.now c.seal_chain.new.hand c.args.new.now
          c.in-Ok.entry ok.0 ok.1 ok.2,
      numbers_are ok.0 c.args.new.now c.in-Ok.entry ok.1 ok.2.sealed,
    )

pub put_behind-requires-clause-disk : goal.put_behind-requires-clause-disk
put_behind-requires-clause-disk g c =
    let ok = c.in-Ok.ensures.ok in
    subst (λ (k : Geometry). k.bucket * k.nbuckets
    ≤ (cache_among g.C.Disk.facts g.B.Disk.facts c.args.parts.now.run.start).sectors)
    (sym ok.2.sealed.geometry) (c.requires.disk ok.0 ok.2.is_journal)

pub returns-clause-kinds : goal.returns-clause-kinds
returns-clause-kinds g c =
    let ok = c.in-Ok.ensures.ok in
    c.put_behind.ensures.kinds ∙ sealed_kinds c.args.hand.now c.seal_chain.new.hand c.args.new.now
    c.in-Ok.entry ok.0 ok.1 ok.2

pub returns-clause-buckets : goal.returns-clause-buckets
returns-clause-buckets g c =
    let ok = c.in-Ok.ensures.ok in
    renewing_in c.put_behind.result c.args.hand.now c.seal_chain.new.hand c.put_behind.new.hand
    c.args.new.now c.in-Ok.entry ok.0 ok.1 ok.2 c.put_behind.ensures.rest

pub returns-clause-rest : goal.returns-clause-rest
returns-clause-rest g c =
    let ok = c.in-Ok.ensures.ok in
    rest_put c.args.hand.now c.seal_chain.new.hand c.put_behind.new.hand
    c.args.new.now c.in-Ok.entry ok.0 ok.1 ok.2 c.put_behind.ensures.rest

pub returns-clause-journal : goal.returns-clause-journal
returns-clause-journal g c =
    let ok = c.in-Ok.ensures.ok in
    journal_put c.put_behind.result c.args.hand.now c.seal_chain.new.hand c.put_behind.new.hand
    c.args.new.now c.in-Ok.entry ok.0 ok.1 ok.2 c.put_behind.ensures.journal

pub returns-clause-ok : goal.returns-clause-ok
returns-clause-ok g c =
    let ok = c.in-Ok.ensures.ok in
    put_all g.C.Disk.facts g.B.Disk.facts c.args.hand.now c.seal_chain.new.hand c.args.new.now
    c.in-Ok.entry ok.0 ok.1 ok.2 c.args.seat.now c.seal_chain.new.seat
    c.put_behind.new.seat ok.3 c.put_behind.result c.put_behind.ensures.ok
    c.put_behind.ensures.newest

pub returns-clause-next : goal.returns-clause-next
returns-clause-next g c =
    let ok = c.in-Ok.ensures.ok in
    next_all g.C.Disk.facts g.B.Disk.facts c.args.seat.now c.seal_chain.new.seat
    c.put_behind.new.seat c.args.new.now ok.3.did.is.same.first c.in-Ok.ensures.chain
    c.put_behind.result c.put_behind.ensures.next

pub returns-clause-err : goal.returns-clause-err
returns-clause-err g c =
    let ok = c.in-Ok.ensures.ok in
    cut_all g.C.Disk.facts g.B.Disk.facts c.args.hand.now c.seal_chain.new.hand c.args.new.now
    c.in-Ok.entry ok.0 ok.1 ok.2 c.args.seat.now c.seal_chain.new.seat
    c.put_behind.new.seat ok.3 c.put_behind.new.hand c.put_behind.ensures.rest
    c.put_behind.result c.put_behind.ensures.still c.put_behind.ensures.err

pub returns-clause-keeps : goal.returns-clause-keeps
returns-clause-keeps g c = places_both g.C.Disk.facts g.B.Disk.facts c.args.seat.now
    c.seal_chain.new.seat c.put_behind.new.seat c.seal_chain.ensures.keeps
    c.put_behind.ensures.keeps

pub returns-clause-held : goal.returns-clause-held
returns-clause-held g c =
    let cf = g.C.Disk.facts in
    let bf = g.B.Disk.facts in
    let ok = c.in-Ok.ensures.ok in
    beside_then cf bf c.args.new.now c.args.seat.now c.seal_chain.new.seat c.put_behind.new.seat
    (holds_on cf bf c.args.parts.now c.args.seat.now c.seal_chain.new.seat c.args.hand.now
    c.seal_chain.new.hand c.requires.works c.seal_chain.ensures.works
    (sealed_kinds c.args.hand.now c.seal_chain.new.hand c.args.new.now c.in-Ok.entry ok.0
    ok.1 ok.2)) c.seal_chain.ensures.held c.put_behind.ensures.held
