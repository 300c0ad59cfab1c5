use Rattle.std.proofs.Common.{◌≤◌, List, Result, ap, length, subst, sym, ◌∙◌}
use Rattle.std.specs.Prelude.{All, IfErr, IfOk}
use Rattle.bc_fill.specs.declared.fill.Placed.{Placed}
use Rattle.bc_stored.specs.All.{AreOwnApart, unpins}
use Rattle.bc_stored.specs.bc_deed.Flushed.{HasDone}
use Rattle.bc_stored.specs.bc_hand.Seats.{world}
use Rattle.bc_stored.specs.bc_machine.Plain.{worker_of}
use Rattle.bc_stored.specs.bc_machine.World.{FromEach}
use Rattle.bc_stored.proofs.Letting.{ready_own}
use Rattle.bc_stored.proofs.Storing.{keeps_own}
use Rattle.bc_write_back.specs.Claimed.{HasComeTo, HasNotWritten}
use Rattle.bc_write_back.specs.Put.{HasLacked}
use Rattle.bc_write_back.specs.declared.error.Put.{Put}
use Rattle.bc_write_back.specs.declared.error.WriteError.{WriteError}
use Rattle.bc_write_back.proofs.Coming.{lacked_of, may_still, stored_some, taken_back, unstored_err, unstored_ok}
use Rattle.bc_write_back.proofs.Going.{as_claimed, as_leaving, as_unnoted, lacked_went, let_go_went, not_put_went, not_stored_went, put_or_went, stored_went, three}
use Rattle.bc_write_back.proofs.Walking.{LeavesClaim, claim_went, keeps_went, went_both}
use Rattle.bc_write_back.proofs.claimed.write_claimed.Goals as goal

pub returns-in-Err-clause-claim : goal.returns-in-Err-clause-claim
returns-in-Err-clause-claim g c =
    let cf = g.C.Disk.facts in
    let bf = g.B.Disk.facts in
    claim_went cf bf c.args.seat.now c.store.new.seat
    (as_claimed cf bf c.args.seat.now c.store.new.seat
    (not_stored_went cf bf c.args.before c.args.sectors c.in-Err.error c.args.values.now
    c.args.seat.now c.store.new.seat c.requires.works.seat c.in-Err.ensures.err))

pub returns-in-Err-clause-ok : goal.returns-in-Err-clause-ok
returns-in-Err-clause-ok g c =
    let cf = g.C.Disk.facts in
    let bf = g.B.Disk.facts in
    subst (λ (r : Result Put WriteError). IfOk r (λ what. HasComeTo cf bf c.args.before
    c.args.sectors
    c.args.first c.args.values.now what c.args.of c.args.seat.now c.store.new.seat))
    (sym c.unstored.ensures)
    (unstored_ok cf bf c.args.before c.args.sectors c.args.first c.args.values.now c.args.seat.now
    c.store.new.seat c.in-Err.error c.args.of c.in-Err.ensures.err)

pub returns-in-Err-clause-err : goal.returns-in-Err-clause-err
returns-in-Err-clause-err g c =
    let cf = g.C.Disk.facts in
    let bf = g.B.Disk.facts in
    subst (λ (r : Result Put WriteError). IfErr r (λ e. HasNotWritten cf bf c.args.before
    c.args.sectors c.args.first c.args.values.now e c.args.seat.now c.store.new.seat))
    (sym c.unstored.ensures)
    (unstored_err cf bf c.args.before c.args.sectors c.args.first c.args.values.now c.args.seat.now
    c.store.new.seat c.in-Err.error c.in-Err.ensures.err)

pub put_stored-requires-clause-may : goal.put_stored-requires-clause-may
put_stored-requires-clause-may g c =
    let cf = g.C.Disk.facts in
    let bf = g.B.Disk.facts in
    may_still cf bf c.args.first (length c.args.values.now) c.args.seat.now c.store.new.seat
    (stored_went cf bf c.args.before c.args.sectors c.in-Ok.places.items c.args.values.now
    c.args.seat.now c.store.new.seat c.requires.works.seat c.in-Ok.ensures.ok) c.requires.may

pub put_stored-requires-clause-line : goal.put_stored-requires-clause-line
put_stored-requires-clause-line g c =
    let cf = g.C.Disk.facts in
    let bf = g.B.Disk.facts in
    ap worker_of (stored_went cf bf c.args.before c.args.sectors c.in-Ok.places.items
    c.args.values.now c.args.seat.now c.store.new.seat c.requires.works.seat
    c.in-Ok.ensures.ok).done.same.first ∙ c.requires.line

pub put_stored-requires-clause-filled : goal.put_stored-requires-clause-filled
put_stored-requires-clause-filled g c =
    let cf = g.C.Disk.facts in
    let bf = g.B.Disk.facts in
    subst (All (λ (p : Placed). 1 ≤ p.count)) (sym c.deref.ensures.value)
    (stored_some cf bf c.args.before c.args.sectors c.in-Ok.places.items c.args.values.now
    c.args.seat.now c.store.new.seat c.in-Ok.ensures.ok)

pub returns-in-Ok-Written-clause-claim : goal.returns-in-Ok-Written-clause-claim
returns-in-Ok-Written-clause-claim g c =
    let cf = g.C.Disk.facts in
    let bf = g.B.Disk.facts in
    let ps = c.in-Ok.places.items in
    let vs = c.args.values.now in
    let v = c.args.seat.now in
    let u = c.store.new.seat in
    let w = c.put_stored.new.seat in
    claim_went cf bf v w (went_both cf bf LeavesClaim v u w
    (as_claimed cf bf v u (stored_went cf bf c.args.before c.args.sectors ps vs v u
    c.requires.works.seat c.in-Ok.ensures.ok))
    (put_or_went cf bf c.in-Ok-Written.field-0 c.deref.result.now c.args.of c.args.first vs u w
    c.in-Ok-Written.ensures.ok))

pub let_go-requires-clause-own : goal.let_go-requires-clause-own
let_go-requires-clause-own g c =
    let cf = g.C.Disk.facts in
    let bf = g.B.Disk.facts in
    let ps = c.in-Ok.places.items in
    let vs = c.args.values.now in
    let u = c.store.new.seat in
    let w = c.put_stored.new.seat in
    let lacked = lacked_of cf bf c.in-Ok-Lacks.field-0 c.in-Ok-Lacks.lack c.deref.result.now
    c.args.of c.args.first vs u w c.in-Ok-Lacks.field-0-is c.in-Ok-Lacks.ensures.ok in
    subst (λ (qs : List Placed). FromEach (world cf bf w) (AreOwnApart w.first qs))
    (sym c.deref-in-Ok-Lacks.ensures.value)
    (ready_own cf bf c.args.first vs ps u w (keeps_own cf bf u w (keeps_went cf bf u w
    (as_leaving cf bf u w (lacked_went cf bf c.in-Ok-Lacks.lack c.deref.result.now c.args.first
    (length vs) u w lacked)))) c.in-Ok.ensures.ready)

pub returns-in-Ok-Lacks-clause-claim : goal.returns-in-Ok-Lacks-clause-claim
returns-in-Ok-Lacks-clause-claim g c =
    let cf = g.C.Disk.facts in
    let bf = g.B.Disk.facts in
    let ps = c.in-Ok.places.items in
    let vs = c.args.values.now in
    let v = c.args.seat.now in
    let u = c.store.new.seat in
    let x = c.put_stored.new.seat in
    let w = c.let_go.new.seat in
    claim_went cf bf v w (three cf bf LeavesClaim v u x w
    (as_claimed cf bf v u (stored_went cf bf c.args.before c.args.sectors ps vs v u
    c.requires.works.seat c.in-Ok.ensures.ok))
    (put_or_went cf bf c.in-Ok-Lacks.field-0 c.deref.result.now c.args.of c.args.first vs u x
    c.in-Ok-Lacks.ensures.ok)
    (as_claimed cf bf x w (let_go_went cf bf c.deref-in-Ok-Lacks.result.now x w
    c.let_go.ensures.done)))

pub returns-in-Ok-Lacks-clause-ok : goal.returns-in-Ok-Lacks-clause-ok
returns-in-Ok-Lacks-clause-ok g c =
    let cf = g.C.Disk.facts in
    let bf = g.B.Disk.facts in
    let ps = c.in-Ok.places.items in
    let vs = c.args.values.now in
    let v = c.args.seat.now in
    let u = c.store.new.seat in
    let x = c.put_stored.new.seat in
    let w = c.let_go.new.seat in
    taken_back cf bf c.args.before c.args.sectors c.args.first vs v w c.in-Ok-Lacks.lack ps u x
    c.in-Ok.ensures.all c.in-Ok.ensures.ok
    (subst (λ (qs : List Placed). HasLacked cf bf c.in-Ok-Lacks.lack qs c.args.first
    (length vs) u x)
    c.deref.ensures.value
    (lacked_of cf bf c.in-Ok-Lacks.field-0 c.in-Ok-Lacks.lack c.deref.result.now c.args.of
    c.args.first vs u x c.in-Ok-Lacks.field-0-is c.in-Ok-Lacks.ensures.ok))
    (subst (λ (qs : List Placed). HasDone cf bf (unpins qs) x w) c.deref-in-Ok-Lacks.ensures.value
    c.let_go.ensures.done)

pub let_go-requires-in-Err-put_stored-clause-own :
    goal.let_go-requires-in-Err-put_stored-clause-own
let_go-requires-in-Err-put_stored-clause-own g c =
    let cf = g.C.Disk.facts in
    let bf = g.B.Disk.facts in
    let vs = c.args.values.now in
    let u = c.store.new.seat in
    let w = c.put_stored.new.seat in
    subst (λ (qs : List Placed). FromEach (world cf bf w) (AreOwnApart w.first qs))
    (sym c.deref-in-Err-put_stored.ensures.value)
    (ready_own cf bf c.args.first vs c.in-Ok.places.items u w (keeps_own cf bf u w
    (keeps_went cf bf u w (as_leaving cf bf u w (not_put_went cf bf c.args.first (length vs)
    c.in-Err-put_stored.error u w c.in-Err-put_stored.ensures.err)))) c.in-Ok.ensures.ready)

pub returns-clause-claim : goal.returns-clause-claim
returns-clause-claim g c =
    let cf = g.C.Disk.facts in
    let bf = g.B.Disk.facts in
    let ps = c.in-Ok.places.items in
    let vs = c.args.values.now in
    let v = c.args.seat.now in
    let u = c.store.new.seat in
    let x = c.put_stored.new.seat in
    let w = c.let_go-in-Err-put_stored.new.seat in
    claim_went cf bf v w (three cf bf LeavesClaim v u x w
    (as_claimed cf bf v u (stored_went cf bf c.args.before c.args.sectors ps vs v u
    c.requires.works.seat c.in-Ok.ensures.ok))
    (as_claimed cf bf u x (as_unnoted cf bf u x (not_put_went cf bf c.args.first (length vs)
    c.in-Err-put_stored.error u x c.in-Err-put_stored.ensures.err)))
    (as_claimed cf bf x w (let_go_went cf bf c.deref-in-Err-put_stored.result.now x w
    c.let_go-in-Err-put_stored.ensures.done)))
