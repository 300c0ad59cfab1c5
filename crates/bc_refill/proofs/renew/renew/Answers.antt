use Rattle.std.proofs.Common.{ℕ, List, length, sym, ap, ◌∙◌, subst, arith}
use Rattle.std.proofs.lemmas.List.{length-map}
use Rattle.bc_alloc.specs.Victims.{AreVictims}
use Rattle.bc_new_chain.proofs.Behind.{cause_halt}
use Rattle.bc_new_chain.proofs.InHand.{same_some}
use Rattle.bc_new_chain.proofs.Keeping.{beside_all, holds_on}
use Rattle.bc_new_chain.proofs.of_bc_chain.of_bc_place.Keeping.{keeps_both as places_both}
use Rattle.bc_new_chain.specs.bc_hand.Seats.{world}
use Rattle.bc_new_chain.specs.bc_hand.declared.hand.Hand.{Hand}
use Rattle.bc_new_chain.specs.bc_held.declared.held.HeldBucket.{HeldBucket}
use Rattle.bc_new_chain.specs.bc_machine.declared.part.BucketsPart.{BucketsPart}
use Rattle.bc_new_chain.specs.bc_deed.Flushed.{HasDone}
use Rattle.bc_new_chain.specs.bc_machine.World.{FromEach}
use Rattle.bc_new_chain.specs.bc_place.Place.{HasBefore}
use Rattle.bc_ready.specs.bc_raise.Raise.{HasRaisedSome, raises}
use Rattle.bc_refill.proofs.Going.{cut_in}
use Rattle.bc_refill.proofs.Holding.{const_done, mine_on, then_beside}
use Rattle.bc_refill.proofs.Renewing.{for_sets}
use Rattle.bc_refill.proofs.Raising.{IsRaisedIn, all_raised, can_raised, count_victims, kinds_raised, not_raised, not_renewed, raised_in, renewed}
use Rattle.bc_refill.proofs.Same.{victims_same, works_same}
use Rattle.bc_refill.specs.Sets.{AreForSets}
use Rattle.bc_refill.proofs.renew.renew.Goals as goal

pub find_victims-requires : goal.find_victims-requires
find_victims-requires g c =
    let can = c.requires.can in (
      can.0,
      can.2,
      let each = can.4.each in let room = c.requires.room in omega (arith, each, room),
    )

pub raise_all-requires-clause-works : goal.raise_all-requires-clause-works
raise_all-requires-clause-works g c =
    let same = c.find_victims.ensures.same in
    works_same g.C.Disk.facts g.B.Disk.facts c.args.parts.now c.args.seat.now c.args.hand.now
    c.find_victims.new.hand same.0 same.1 same.2 same.3 same.4 c.requires.works

pub raise_all-requires-clause-before : goal.raise_all-requires-clause-before
raise_all-requires-clause-before g c =
    subst (λ n. FromEach (world g.C.Disk.facts g.B.Disk.facts c.args.seat.now) (HasBefore n))
    (sym c.from-before.ensures) (cut_in g.C.Disk.facts g.B.Disk.facts c.args.parts.now
    c.args.seat.now c.args.hand.now c.args.g.now c.requires.works c.requires.all).before

pub raise_all-requires-clause-victims : goal.raise_all-requires-clause-victims
raise_all-requires-clause-victims g c =
    let same = c.find_victims.ensures.same in (
      same.1,
      ap (λ (x : Hand _ _). x.buckets) same.3,
      victims_same same.0 same.1 _ same.4 (subst (λ (vs : List ℕ). AreVictims same.0.reserves
          same.0.buckets vs) (sym c.deref.ensures.value) (c.find_victims.ensures.victims same.0
          same.2)),
    )

pub raise_all-requires-clause-promises : goal.raise_all-requires-clause-promises
raise_all-requires-clause-promises g c =
    let can = c.requires.can in
    let few = count_victims can.0 c.find_victims.new.into.items
    (c.find_victims.ensures.victims can.0 can.2) in
    let most = can.5 in
    let same = ap (λ (vs : List ℕ). length vs) c.deref.ensures.value in
    omega (arith, few, most, same)

pub returns-in-Err-clause-err : goal.returns-in-Err-clause-err
returns-in-Err-clause-err g c =
    let same = c.find_victims.ensures.same in
    not_raised g.C.Disk.facts g.B.Disk.facts c.in-Err.error c.args.g.now c.args.new.items same.0
    same.1 c.deref.result.now c.args.hand.now c.find_victims.new.hand c.raise_all.new.hand
    c.args.seat.now c.raise_all.new.seat same.2 same.3 same.4
    (subst (λ (vs : List ℕ). AreVictims same.0.reserves same.0.buckets vs)
    (sym c.deref.ensures.value) (c.find_victims.ensures.victims same.0 same.2))
    (subst (λ n. HasRaisedSome g.C.Disk.facts g.B.Disk.facts n c.find_victims.new.hand
    c.deref.result.now c.raise_all.new.hand c.args.seat.now c.raise_all.new.seat)
    c.from-before.ensures c.in-Err.ensures.err)

pub returns-in-Err-clause-kinds : goal.returns-in-Err-clause-kinds
returns-in-Err-clause-kinds g c =
    let same = c.find_victims.ensures.same in
    let some = c.in-Err.ensures.err in
    let is = raised_in same.0 same.1 _ c.args.hand.now c.find_victims.new.hand
    c.raise_all.new.hand same.3 same.4 some.part in
    kinds_raised same.0 c.args.hand.now c.raise_all.new.hand is.raised same.2 is.hand

pub returns-in-Err-clause-cause : goal.returns-in-Err-clause-cause
returns-in-Err-clause-cause g c = cause_halt c.in-Err.error c.raise_all.new.seat.seen
    c.in-Err.ensures.cause

pub returns-in-Err-clause-left : goal.returns-in-Err-clause-left
returns-in-Err-clause-left g c = λ p is.
    let few = count_victims p c.find_victims.new.into.items
    (c.find_victims.ensures.victims p is) in
    let left = c.raise_all.ensures.left in
    let same = ap (λ (vs : List ℕ). length vs) c.deref.ensures.value in
    omega (arith, few, left, same)

pub returns-in-Err-clause-held : goal.returns-in-Err-clause-held
returns-in-Err-clause-held g c = beside_all g.C.Disk.facts g.B.Disk.facts c.args.new.items
    c.args.seat.now c.raise_all.new.seat c.raise_all.ensures.held

pub name_chain-requires-clause-promise : goal.name_chain-requires-clause-promise
name_chain-requires-clause-promise g c =
    let can = c.requires.can in
    let few = count_victims can.0 c.find_victims.new.into.items
    (c.find_victims.ensures.victims can.0 can.2) in
    let most = can.5 in
    let left = c.raise_all.ensures.left in
    let same = ap (λ (vs : List ℕ). length vs) c.deref.ensures.value in
    let long = ap (λ (ns : List ℕ). length ns) c.requires.new
    ∙ length-map c.args.taken.now (λ (b : HeldBucket). b.bucket) in
    omega (arith, few, most, left, same, long)

pub name_chain-requires-clause-all : goal.name_chain-requires-clause-all
name_chain-requires-clause-all g c =
    let same = c.find_victims.ensures.same in
    let is = raised_in same.0 same.1 _ c.args.hand.now c.find_victims.new.hand
    c.raise_all.new.hand same.3 same.4 c.in-Ok.ensures.part in
    all_raised c.args.g.now same.0 _ c.args.hand.now c.raise_all.new.hand is c.requires.all

pub name_chain-requires-clause-can : goal.name_chain-requires-clause-can
name_chain-requires-clause-can g c =
    let can = c.requires.can in
    let same = c.find_victims.ensures.same in
    let own = same_some c.args.hand.now.buckets same.0 can.0 same.2 can.2 in
    let is = raised_in same.0 same.1 _ c.args.hand.now c.find_victims.new.hand
    c.raise_all.new.hand same.3 same.4 c.in-Ok.ensures.part in
    let few = count_victims can.0 c.find_victims.new.into.items
    (c.find_victims.ensures.victims can.0 can.2) in
    let long = ap (λ (vs : List ℕ). length vs) c.deref.ensures.value in
    can_raised c.args.g.now can.0 can.1 c.deref.result.now c.args.new.items c.args.hand.now
    c.raise_all.new.hand (length c.args.taken.now) c.args.room
    (subst (λ (p : BucketsPart). IsRaisedIn p c.deref.result.now c.args.hand.now
    c.raise_all.new.hand) own is) can.3 can.4 (omega (arith, few, long))
    (ap (λ (ns : List ℕ). length ns) c.requires.new
    ∙ length-map c.args.taken.now (λ (b : HeldBucket). b.bucket)) can.6

pub name_chain-requires-clause-chain : goal.name_chain-requires-clause-chain
name_chain-requires-clause-chain g c =
    let cf = g.C.Disk.facts in
    let bf = g.B.Disk.facts in
    let u = c.raise_all.new.seat in
    let same = c.find_victims.ensures.same in
    let is = raised_in same.0 same.1 _ c.args.hand.now c.find_victims.new.hand
    c.raise_all.new.hand same.3 same.4 c.in-Ok.ensures.part in
    subst (λ (ns : List ℕ). AreForSets c.args.g.now u.first ns (world cf bf u))
    (sym c.requires.new)
    (for_sets cf bf c.args.g.now c.args.taken.now u c.requires.many c.requires.fit
    (mine_on cf bf c.args.taken.now c.args.seat.now u c.raise_all.ensures.held c.requires.mine)
    (cut_in cf bf c.args.parts.now u c.raise_all.new.hand c.args.g.now c.raise_all.ensures.works
    (all_raised c.args.g.now same.0 _ c.args.hand.now c.raise_all.new.hand is c.requires.all)))

pub returns-clause-kinds : goal.returns-clause-kinds
returns-clause-kinds g c =
    let same = c.find_victims.ensures.same in
    let is = raised_in same.0 same.1 _ c.args.hand.now c.find_victims.new.hand
    c.raise_all.new.hand same.3 same.4 c.in-Ok.ensures.part in
    c.name_chain.ensures.kinds
    ∙ kinds_raised same.0 c.args.hand.now c.raise_all.new.hand is.raised same.2 is.hand

pub returns-clause-ok : goal.returns-clause-ok
returns-clause-ok g c =
    let cf = g.C.Disk.facts in
    let bf = g.B.Disk.facts in
    let same = c.find_victims.ensures.same in
    let is = raised_in same.0 same.1 _ c.args.hand.now c.find_victims.new.hand
    c.raise_all.new.hand same.3 same.4 c.in-Ok.ensures.part in
    renewed cf bf c.args.g.now c.args.new same.0 c.deref.result.now c.args.hand.now
    c.raise_all.new.hand c.name_chain.new.hand c.args.seat.now c.raise_all.new.seat
    c.name_chain.new.seat same.2
    (subst (λ (vs : List ℕ). AreVictims same.0.reserves same.0.buckets vs)
    (sym c.deref.ensures.value) (c.find_victims.ensures.victims same.0 same.2))
    (subst (λ n. HasDone cf bf (raises n c.deref.result.now) c.args.seat.now
    c.raise_all.new.seat) c.from-before.ensures c.in-Ok.ensures.ok) is c.name_chain.result
    c.name_chain.ensures.ok

pub returns-clause-err : goal.returns-clause-err
returns-clause-err g c =
    let cf = g.C.Disk.facts in
    let bf = g.B.Disk.facts in
    let same = c.find_victims.ensures.same in
    let is = raised_in same.0 same.1 _ c.args.hand.now c.find_victims.new.hand
    c.raise_all.new.hand same.3 same.4 c.in-Ok.ensures.part in
    not_renewed cf bf c.args.g.now c.args.new.items same.0 c.deref.result.now c.args.hand.now
    c.raise_all.new.hand c.name_chain.new.hand c.args.seat.now c.raise_all.new.seat
    c.name_chain.new.seat same.2
    (subst (λ (vs : List ℕ). AreVictims same.0.reserves same.0.buckets vs)
    (sym c.deref.ensures.value) (c.find_victims.ensures.victims same.0 same.2))
    (subst (λ n. HasDone cf bf (raises n c.deref.result.now) c.args.seat.now
    c.raise_all.new.seat) c.from-before.ensures c.in-Ok.ensures.ok) is c.name_chain.result
    c.name_chain.ensures.err

pub returns-clause-left : goal.returns-clause-left
returns-clause-left g c = λ p is.
    let few = count_victims p c.find_victims.new.into.items
    (c.find_victims.ensures.victims p is) in
    let left = c.raise_all.ensures.left in
    let more = c.name_chain.ensures.left in
    let same = ap (λ (vs : List ℕ). length vs) c.deref.ensures.value in
    let long = ap (λ (ns : List ℕ). length ns) c.requires.new
    ∙ length-map c.args.taken.now (λ (b : HeldBucket). b.bucket) in
    omega (arith, few, left, more, same, long)

pub returns-clause-keeps : goal.returns-clause-keeps
returns-clause-keeps g c = places_both g.C.Disk.facts g.B.Disk.facts c.args.seat.now
    c.raise_all.new.seat c.name_chain.new.seat c.raise_all.ensures.keeps
    c.name_chain.ensures.keeps

pub returns-clause-held : goal.returns-clause-held
returns-clause-held g c =
    let cf = g.C.Disk.facts in
    let bf = g.B.Disk.facts in
    let same = c.find_victims.ensures.same in
    let is = raised_in same.0 same.1 _ c.args.hand.now c.find_victims.new.hand
    c.raise_all.new.hand same.3 same.4 c.in-Ok.ensures.part in
    then_beside cf bf c.args.new.items c.args.seat.now c.raise_all.new.seat
    c.name_chain.new.seat
    (holds_on cf bf c.args.parts.now c.args.seat.now c.raise_all.new.seat c.args.hand.now
    c.raise_all.new.hand c.requires.works c.raise_all.ensures.works
    (kinds_raised same.0 c.args.hand.now c.raise_all.new.hand is.raised same.2 is.hand))
    (λ K h. const_done cf bf K _ c.args.seat.now c.raise_all.new.seat c.in-Ok.ensures.ok h)
    c.raise_all.ensures.held c.name_chain.ensures.held
