use Rattle.std.proofs.Common.{Some, sym, subst}
use Rattle.bc_disk.specs.declared.geometry.Geometry.{Geometry}
use Rattle.bc_held.specs.bc_hand.Seats.{Works}
use Rattle.bc_held.specs.bc_hand.declared.hand.Hand.{Hand}
use Rattle.bc_new_node.proofs.Brought.{is_small}
use Rattle.bc_new_node.proofs.Sending.{drafts_sent, err_both, holds_sent, knows_sent, lost_sent, may_sent, ok_both, places_sent, works_sent, wrote_sent}
use Rattle.bc_new_node.specs.Kind.{IsSmall}
use Rattle.bc_plan.specs.Write.{CanWrite}
use Rattle.bc_new_node.proofs.write.write_in.Goals as goal

pub send-what-requires-clause-fits : goal.send-what-requires-clause-fits
send-what-requires-clause-fits g c = (
  c.requires.may.0.spine.spine,
  sym c.requires.may.1,
  c.requires.may.0.fits,
)

pub send-what-requires-clause-can : goal.send-what-requires-clause-can
send-what-requires-clause-can g c = subst (λ (x : Geometry). CanWrite x
    (g.C.Disk.facts c.args.cache.now).sectors c.args.plan.now c.args.node)
    (sym c.requires.may.1) c.requires.may.0.can

pub send-what-requires-clause-small : goal.send-what-requires-clause-small
send-what-requires-clause-small g c = subst (λ (x : Geometry). IsSmall x c.args.plan.now c.args.node)
    (sym c.requires.may.1)
    (is_small c.requires.may.0.spine.spine (g.C.Disk.facts c.args.cache.now).sectors
    c.args.plan.now c.args.node c.requires.may.0.fits c.requires.may.0.can)

pub raise_number-requires : goal.raise_number-requires
raise_number-requires g c = (
  c.requires.may.0.spine,
  c.requires.may.0.in_hand,
  c.requires.may.0.numbered,
)

pub commit_sent-requires-clause-holds : goal.commit_sent-requires-clause-holds
commit_sent-requires-clause-holds g c = holds_sent g.C.Disk.facts g.B.Disk.facts c.args.parts.now c.args.seat.now
    c.args.hand.now c.args.cache.now c.requires.works c.requires.unheard c.requires.cached
    c.args.before c.args.plan.now c.args.node c.args.slot c.args.bucket c.args.g.now
    c.requires.may.0 c.requires.may.1 c.requires.before c.requires.divided c.requires.free
    c.requires.held c.requires.vacant c.send-what.result.0 c.send-what.result.1
    c.send-what.result.2 c.send-what.new.disk c.saturating_sub-number.result
    c.saturating_sub-number.ensures c.send-what.ensures.sent

pub commit_sent-requires-clause-may : goal.commit_sent-requires-clause-may
commit_sent-requires-clause-may g c = may_sent g.C.Disk.facts g.B.Disk.facts c.args.parts.now c.args.seat.now
    c.args.hand.now c.args.cache.now c.requires.works c.requires.unheard c.requires.cached
    c.args.before c.args.plan.now c.args.node c.args.slot c.args.bucket c.args.g.now
    c.requires.may.0 c.requires.may.1 c.requires.before c.requires.divided c.requires.free
    c.requires.held c.requires.vacant c.send-what.result.0 c.send-what.result.1
    c.send-what.result.2 c.send-what.new.disk c.saturating_sub-number.result
    c.saturating_sub-number.ensures c.send-what.ensures.sent

pub returns-clause-works : goal.returns-clause-works
returns-clause-works g c = subst (λ (x : Hand _ _). Works g.C.Disk.facts g.B.Disk.facts
    c.args.parts.now c.commit_sent.new.seat (record x { cache = Some c.send-what.new.disk }))
    (sym (c.raise_number.ensures c.requires.may.0.spine c.requires.may.0.in_hand))
    (works_sent g.C.Disk.facts g.B.Disk.facts c.args.parts.now c.args.seat.now
    c.args.hand.now c.args.cache.now c.requires.works c.requires.unheard c.requires.cached
    c.args.before c.args.plan.now c.args.node c.args.slot c.args.bucket c.args.g.now
    c.requires.may.0 c.requires.may.1 c.requires.before c.requires.divided c.requires.free
    c.requires.held c.requires.vacant c.send-what.result.0 c.send-what.result.1
    c.send-what.result.2 c.send-what.new.disk c.saturating_sub-number.result
    c.saturating_sub-number.ensures c.send-what.ensures.sent
    c.commit_sent.new.seat c.commit_sent.ensures.did
    c.commit_sent.ensures.kept)

pub returns-clause-ok : goal.returns-clause-ok
returns-clause-ok g c = wrote_sent g.C.Disk.facts g.B.Disk.facts c.args.parts.now c.args.seat.now
    c.args.hand.now c.args.cache.now c.requires.works c.requires.unheard c.requires.cached
    c.args.before c.args.plan.now c.args.node c.args.slot c.args.bucket c.args.g.now
    c.requires.may.0 c.requires.may.1 c.requires.before c.requires.divided c.requires.free
    c.requires.held c.requires.vacant c.send-what.result.0 c.send-what.result.1
    c.send-what.result.2 c.send-what.new.disk c.saturating_sub-number.result
    c.saturating_sub-number.ensures c.send-what.ensures.sent
    c.commit_sent.new.seat c.commit_sent.ensures.did
    c.commit_sent.result c.commit_sent.ensures.answer

pub returns-clause-err : goal.returns-clause-err
returns-clause-err g c = lost_sent g.C.Disk.facts g.B.Disk.facts c.args.parts.now c.args.seat.now
    c.args.hand.now c.args.cache.now c.requires.works c.requires.unheard c.requires.cached
    c.args.before c.args.plan.now c.args.node c.args.slot c.args.bucket c.args.g.now
    c.requires.may.0 c.requires.may.1 c.requires.before c.requires.divided c.requires.free
    c.requires.held c.requires.vacant c.send-what.result.0 c.send-what.result.1
    c.send-what.result.2 c.send-what.new.disk c.saturating_sub-number.result
    c.saturating_sub-number.ensures c.send-what.ensures.sent
    c.commit_sent.new.seat c.commit_sent.ensures.did
    c.commit_sent.result c.commit_sent.ensures.answer

pub returns-clause-knows : goal.returns-clause-knows
returns-clause-knows g c = knows_sent g.C.Disk.facts g.B.Disk.facts c.args.parts.now c.args.seat.now
    c.args.hand.now c.args.cache.now c.requires.works c.requires.unheard c.requires.cached
    c.args.before c.args.plan.now c.args.node c.args.slot c.args.bucket c.args.g.now
    c.requires.may.0 c.requires.may.1 c.requires.before c.requires.divided c.requires.free
    c.requires.held c.requires.vacant c.send-what.result.0 c.send-what.result.1
    c.send-what.result.2 c.send-what.new.disk c.saturating_sub-number.result
    c.saturating_sub-number.ensures c.send-what.ensures.sent
    c.commit_sent.new.seat c.commit_sent.ensures.did
    c.commit_sent.result c.commit_sent.ensures.answer

pub returns-clause-plan : goal.returns-clause-plan
returns-clause-plan g c = ok_both c.send-what.result.2 c.commit_sent.result _
    c.commit_sent.ensures.answer c.send-what.ensures.plan

pub returns-clause-kept : goal.returns-clause-kept
returns-clause-kept g c = err_both c.send-what.result.2 c.commit_sent.result _
    c.commit_sent.ensures.answer c.send-what.ensures.kept

pub returns-clause-drafts : goal.returns-clause-drafts
returns-clause-drafts g c = drafts_sent g.C.Disk.facts g.B.Disk.facts c.args.parts.now c.args.seat.now
    c.args.hand.now c.args.cache.now c.requires.works c.requires.unheard c.requires.cached
    c.args.before c.args.plan.now c.args.node c.args.slot c.args.bucket c.args.g.now
    c.requires.may.0 c.requires.may.1 c.requires.before c.requires.divided c.requires.free
    c.requires.held c.requires.vacant c.send-what.result.0 c.send-what.result.1
    c.send-what.result.2 c.send-what.new.disk c.saturating_sub-number.result
    c.saturating_sub-number.ensures c.send-what.ensures.sent
    c.commit_sent.new.seat c.commit_sent.ensures.did

pub returns-clause-places : goal.returns-clause-places
returns-clause-places g c = places_sent g.C.Disk.facts g.B.Disk.facts c.args.parts.now c.args.seat.now
    c.args.hand.now c.args.cache.now c.requires.works c.requires.unheard c.requires.cached
    c.args.before c.args.plan.now c.args.node c.args.slot c.args.bucket c.args.g.now
    c.requires.may.0 c.requires.may.1 c.requires.before c.requires.divided c.requires.free
    c.requires.held c.requires.vacant c.send-what.result.0 c.send-what.result.1
    c.send-what.result.2 c.send-what.new.disk c.saturating_sub-number.result
    c.saturating_sub-number.ensures c.send-what.ensures.sent
    c.commit_sent.new.seat c.commit_sent.ensures.did
