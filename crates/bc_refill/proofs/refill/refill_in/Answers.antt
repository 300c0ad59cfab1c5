use Rattle.std.proofs.Common.{ℕ, ◌+◌, List, length, inl, inr, sym, ap, ◌∙◌, subst, arith}
use Rattle.std.specs.Prelude.{All}
use Rattle.bc_disk.specs.Chain.{sets_in_chain}
use Rattle.bc_new_chain.proofs.Keeping.{holds_on}
use Rattle.bc_new_chain.proofs.of_bc_chain.of_bc_place.Keeping.{keeps_both as places_both}
use Rattle.bc_new_chain.specs.Beside.{KeepsHeldBeside}
use Rattle.bc_new_chain.specs.bc_hand.declared.hand.Hand.{Hand}
use Rattle.bc_new_chain.specs.bc_held.declared.held.HeldBucket.{HeldBucket}
use Rattle.bc_new_chain.specs.bc_held.Taken.{TiesBuckets}
use Rattle.bc_refill.proofs.Going.{all_on, if_some}
use Rattle.bc_refill.proofs.Holding.{kept_beside}
use Rattle.bc_refill.proofs.Renewing.{some_of, stays_taken}
use Rattle.bc_refill.proofs.TopLevel.{HasTakenChain, can_renew, cause_taken, has_not_refilled, has_not_taken, has_no_chain, has_refilled, taken_chain}
use Rattle.bc_refill.specs.Most.{most_of}
use Rattle.bc_refill.specs.Named.{IsNamingRoom}
use Rattle.bc_refill.specs.Taken.{AreMine, HasGivenBack, IsForSet, numbers_of}
use Rattle.bc_refill.proofs.refill.refill_in.Goals as goal
use Rattle.bc_refill.proofs.refill.refill_in.Goals.{In-Ok-None}
use Rattle.bc_refill.proofs.refill.refill_in.Given.{Over}

-- a bucket was taken for each set
has_chain : (g : Over) → (c : In-Ok-None g) → HasTakenChain g.C.Disk.facts g.B.Disk.facts
    c.args.g.now c.take_chain.new.into.items c.args.hand.now c.take_chain.new.hand
    c.args.seat.now c.take_chain.new.seat
has_chain g c = taken_chain g.C.Disk.facts g.B.Disk.facts c.args.g.now
    c.take_chain.new.into.items c.args.hand.now c.take_chain.new.hand c.args.seat.now
    c.take_chain.new.seat c.in-Ok-None.field-0 c.in-Ok-None.field-0-is c.in-Ok-None.ensures.many
    c.in-Ok-None.ensures.took c.in-Ok-None.ensures.fit c.in-Ok-None.ensures.mine
    c.in-Ok-None.ensures.ready

pub take_chain-requires-clause-promise : goal.take_chain-requires-clause-promise
take_chain-requires-clause-promise g c = let most = c.requires.can.5 in omega (arith, most)

pub take_chain-requires-clause-empty : goal.take_chain-requires-clause-empty
take_chain-requires-clause-empty g c = c.requires.can.6.none_taken

pub take_chain-requires-clause-room : goal.take_chain-requires-clause-room
take_chain-requires-clause-room g c = c.requires.can.6.taken

pub returns-in-Err-clause-err : goal.returns-in-Err-clause-err
returns-in-Err-clause-err g c = λ p is. inl (has_not_taken g.C.Disk.facts g.B.Disk.facts
    c.in-Err.error c.args.g.now p c.args.hand.now c.take_chain.new.hand c.args.seat.now
    c.take_chain.new.seat is c.take_chain.ensures.rest c.in-Err.ensures.err)

pub returns-in-Err-clause-cause : goal.returns-in-Err-clause-cause
returns-in-Err-clause-cause g c =
    let part = some_of c.args.hand.now.buckets c.requires.all.buckets in
    cause_taken g.C.Disk.facts g.B.Disk.facts c.in-Err.error c.args.g.now c.args.hand.now
    c.take_chain.new.hand part.0 c.args.seat.now c.take_chain.new.seat part.1 c.in-Err.ensures.err

pub returns-in-Err-clause-left : goal.returns-in-Err-clause-left
returns-in-Err-clause-left g c = λ p is.
    let left = c.take_chain.ensures.left in omega (arith, left)

pub returns-in-Ok-Some-clause-ok : goal.returns-in-Ok-Some-clause-ok
returns-in-Ok-Some-clause-ok g c = λ p is. has_no_chain g.C.Disk.facts g.B.Disk.facts
    c.in-Ok-Some.answer c.args.g.now p c.args.hand.now c.take_chain.new.hand c.args.seat.now
    c.take_chain.new.seat is c.take_chain.ensures.rest
    (if_some (λ a. TiesBuckets c.args.hand.now c.take_chain.new.hand (λ p q. HasGivenBack
    g.C.Disk.facts g.B.Disk.facts c.args.g.now.first_bucket (sets_in_chain c.args.g.now) a p q
    c.args.seat.now c.take_chain.new.seat)) c.in-Ok-Some.field-0 c.in-Ok-Some.answer
    c.in-Ok-Some.field-0-is c.in-Ok-Some.ensures.none)

pub returns-in-Ok-Some-clause-left : goal.returns-in-Ok-Some-clause-left
returns-in-Ok-Some-clause-left g c = λ p is.
    let left = c.take_chain.ensures.left in omega (arith, left)

pub add_numbers-requires-clause-none : goal.add_numbers-requires-clause-none
add_numbers-requires-clause-none g c = c.requires.can.6.none_new

pub add_numbers-requires-clause-room : goal.add_numbers-requires-clause-room
add_numbers-requires-clause-room g c =
    let has = has_chain g (goal.at.add_numbers-requires-clause-room g c).In-Ok-None in
    let many = has.many in
    let room = c.requires.can.6.new in
    let same = ap (λ (bs : List HeldBucket). length bs) c.deref.ensures.value in
    omega (arith, many, room, same)

pub renew-requires-clause-all : goal.renew-requires-clause-all
renew-requires-clause-all g c = all_on c.args.g.now c.args.hand.now c.take_chain.new.hand
    c.take_chain.ensures.kinds c.take_chain.ensures.rest c.requires.all

pub renew-requires-clause-can : goal.renew-requires-clause-can
renew-requires-clause-can g c =
    let has = has_chain g (goal.at.renew-requires-clause-can g c).In-Ok-None in
    let cf = g.C.Disk.facts in
    let bf = g.B.Disk.facts in
    let can = c.requires.can in
    let took = has.took can.0 can.2 in
    let same = sym (ap (λ (bs : List HeldBucket). length bs) c.deref-2.ensures.value) in
    let all = can_renew cf bf c.args.g.now c.take_chain.new.into.items can.0 took.0 can.1
    c.args.seat.now c.take_chain.new.seat c.args.room.naming took.2 has.many can.4
    can.5 has.ready can.6.naming in (
      took.0,
      can.1,
      took.1,
      ap (λ (x : Hand _ _). x.journal) c.take_chain.ensures.rest ∙ can.3,
      all.0,
      (let room = all.1 in omega (arith, room, same)),
      subst (λ n. IsNamingRoom c.args.g.now n (length took.0.reserves.raised
          + most_of took.0.reserves) (length took.0.chain.items) c.args.room.naming) same all.2,
    )

pub renew-requires-clause-new : goal.renew-requires-clause-new
renew-requires-clause-new g c = c.add_numbers.ensures
    ∙ ap numbers_of (c.deref.ensures.value ∙ sym c.deref-2.ensures.value)

pub renew-requires-clause-many : goal.renew-requires-clause-many
renew-requires-clause-many g c =
    let has = has_chain g (goal.at.renew-requires-clause-many g c).In-Ok-None in
    ap (λ (bs : List HeldBucket). length bs) c.deref-2.ensures.value
    ∙ has.many

pub renew-requires-clause-fit : goal.renew-requires-clause-fit
renew-requires-clause-fit g c =
    let has = has_chain g (goal.at.renew-requires-clause-fit g c).In-Ok-None in
    subst (λ (bs : List HeldBucket). All (IsForSet c.args.g.now) bs)
    (sym c.deref-2.ensures.value) has.fit

pub renew-requires-clause-mine : goal.renew-requires-clause-mine
renew-requires-clause-mine g c =
    let has = has_chain g (goal.at.renew-requires-clause-mine g c).In-Ok-None in
    subst (λ (bs : List HeldBucket). AreMine g.C.Disk.facts
    g.B.Disk.facts bs c.take_chain.new.seat) (sym c.deref-2.ensures.value)
    has.mine.mine

pub renew-requires-clause-room : goal.renew-requires-clause-room
renew-requires-clause-room g c = c.requires.can.6.victims

pub returns-in-Err-renew-clause-kinds : goal.returns-in-Err-renew-clause-kinds
returns-in-Err-renew-clause-kinds g c = c.renew.ensures.kinds ∙ c.take_chain.ensures.kinds

pub returns-in-Err-renew-clause-err : goal.returns-in-Err-renew-clause-err
returns-in-Err-renew-clause-err g c = λ p is.
    let has = has_chain g (goal.at.returns-in-Err-renew-clause-err g c).In-Ok-None in
    let took = has.took p is in
    inr (has_not_refilled g.C.Disk.facts g.B.Disk.facts c.in-Err-renew.error c.args.g.now
    c.take_chain.new.into.items c.add_numbers.new.into.items p took.0 c.args.hand.now
    c.take_chain.new.hand c.renew.new.hand c.args.seat.now c.take_chain.new.seat c.renew.new.seat
    has.many (c.add_numbers.ensures ∙ ap numbers_of c.deref.ensures.value)
    took.2 took.1 c.take_chain.ensures.rest c.in-Err-renew.ensures.err)

pub returns-in-Err-renew-clause-left : goal.returns-in-Err-renew-clause-left
returns-in-Err-renew-clause-left g c = λ p is.
    let has = has_chain g (goal.at.returns-in-Err-renew-clause-left g c).In-Ok-None in
    let took = has.took p is in
    let most = (stays_taken g.C.Disk.facts g.B.Disk.facts c.args.g.now.first_bucket
    c.take_chain.new.into.items p took.0 c.args.seat.now c.take_chain.new.seat took.2).most in
    let first = has.ready in
    let left = c.renew.ensures.left took.0 took.1 in
    let many = has.many in
    let same = ap (λ (bs : List HeldBucket). length bs) c.deref-2.ensures.value in
    omega (arith, first, left, many, same, most)

pub returns-in-Err-renew-clause-keeps : goal.returns-in-Err-renew-clause-keeps
returns-in-Err-renew-clause-keeps g c = places_both g.C.Disk.facts g.B.Disk.facts
    c.args.seat.now c.take_chain.new.seat c.renew.new.seat c.take_chain.ensures.keeps
    c.renew.ensures.keeps

pub returns-in-Err-renew-clause-held : goal.returns-in-Err-renew-clause-held
returns-in-Err-renew-clause-held g c =
    let has = has_chain g (goal.at.returns-in-Err-renew-clause-held g c).In-Ok-None in
    let cf = g.C.Disk.facts in
    let bf = g.B.Disk.facts in
    kept_beside cf bf c.take_chain.new.into.items c.args.seat.now c.take_chain.new.seat
    c.renew.new.seat
    (holds_on cf bf c.args.parts.now c.args.seat.now c.take_chain.new.seat c.args.hand.now
    c.take_chain.new.hand c.requires.works c.take_chain.ensures.works c.take_chain.ensures.kinds)
    has.mine
    (subst (λ (ns : List ℕ). KeepsHeldBeside cf bf ns c.take_chain.new.seat c.renew.new.seat)
    (c.add_numbers.ensures ∙ ap numbers_of c.deref.ensures.value) c.renew.ensures.held)

pub returns-clause-kinds : goal.returns-clause-kinds
returns-clause-kinds g c = c.renew.ensures.kinds ∙ c.take_chain.ensures.kinds

pub returns-clause-ok : goal.returns-clause-ok
returns-clause-ok g c = λ p is.
    let has = has_chain g (goal.at.returns-clause-ok g c).In-Ok-None in
    let took = has.took p is in
    has_refilled g.C.Disk.facts g.B.Disk.facts c.args.g.now
    c.take_chain.new.into.items c.add_numbers.new.into p took.0 c.args.hand.now
    c.take_chain.new.hand c.renew.new.hand c.args.seat.now c.take_chain.new.seat c.renew.new.seat
    has.many (c.add_numbers.ensures ∙ ap numbers_of c.deref.ensures.value)
    took.2 took.1 c.take_chain.ensures.rest c.in-Ok.ensures.ok

pub returns-clause-left : goal.returns-clause-left
returns-clause-left g c = λ p is.
    let has = has_chain g (goal.at.returns-clause-left g c).In-Ok-None in
    let took = has.took p is in
    let most = (stays_taken g.C.Disk.facts g.B.Disk.facts c.args.g.now.first_bucket
    c.take_chain.new.into.items p took.0 c.args.seat.now c.take_chain.new.seat took.2).most in
    let first = has.ready in
    let left = c.renew.ensures.left took.0 took.1 in
    let many = has.many in
    let same = ap (λ (bs : List HeldBucket). length bs) c.deref-2.ensures.value in
    omega (arith, first, left, many, same, most)

pub returns-clause-keeps : goal.returns-clause-keeps
returns-clause-keeps g c = places_both g.C.Disk.facts g.B.Disk.facts
    c.args.seat.now c.take_chain.new.seat c.renew.new.seat c.take_chain.ensures.keeps
    c.renew.ensures.keeps

pub returns-clause-held : goal.returns-clause-held
returns-clause-held g c =
    let has = has_chain g (goal.at.returns-clause-held g c).In-Ok-None in
    let cf = g.C.Disk.facts in
    let bf = g.B.Disk.facts in
    kept_beside cf bf c.take_chain.new.into.items c.args.seat.now c.take_chain.new.seat
    c.renew.new.seat
    (holds_on cf bf c.args.parts.now c.args.seat.now c.take_chain.new.seat c.args.hand.now
    c.take_chain.new.hand c.requires.works c.take_chain.ensures.works c.take_chain.ensures.kinds)
    has.mine
    (subst (λ (ns : List ℕ). KeepsHeldBeside cf bf ns c.take_chain.new.seat c.renew.new.seat)
    (c.add_numbers.ensures ∙ ap numbers_of c.deref.ensures.value) c.renew.ensures.held)
