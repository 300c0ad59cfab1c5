use Rattle.std.proofs.Common.{◌⊎◌, inl, inr, sym, ap, ◌∙◌, subst, arith}
use Rattle.bc_disk.specs.Chain.{sets_in_chain}
use Rattle.bc_new_chain.proofs.Keeping.{holds_on}
use Rattle.bc_new_chain.proofs.of_bc_chain.of_bc_place.Keeping.{keeps_both as places_both}
use Rattle.std.specs.Prelude.{reverse}
use Rattle.bc_new_chain.specs.bc_hand.Seats.{Kinds, world}
use Rattle.bc_new_chain.specs.bc_held.Taken.{TiesBuckets}
use Rattle.bc_new_chain.specs.bc_machine.World.{FromEach}
use Rattle.bc_new_chain.specs.bc_place.Place.{HasBefore}
use Rattle.bc_refill.proofs.Going.{all_on, cut_in, if_some, rest_then, tied_as}
use Rattle.bc_refill.proofs.Holding.{kept_beside}
use Rattle.bc_refill.proofs.Taking.{given_back, stopped_back}
use Rattle.bc_refill.specs.Taken.{HasNoChain, HasStoppedBack, HasStoppedGoing, HasStoppedTaking, HaveLetGo}
use Rattle.bc_refill.proofs.take.take_chain.Goals as goal

pub take_each-requires-clause-promise : goal.take_each-requires-clause-promise
take_each-requires-clause-promise g c = let most = c.requires.promise in omega (arith, most)

pub returns-in-Err-clause-err : goal.returns-in-Err-clause-err
returns-in-Err-clause-err g c =
    let cf = g.C.Disk.facts in
    let bf = g.B.Disk.facts in
    let n = c.args.g.now.first_bucket in
    let most = sets_in_chain c.args.g.now in
    let v = c.args.seat.now in
    let w = c.take_each.new.seat in
    tied_as c.args.hand.now c.take_each.new.hand
    (λ p q. HasStoppedTaking cf bf n most c.in-Err.error p q v w)
    (λ p q. HasStoppedTaking cf bf n most c.in-Err.error p q v w
    ⊎ HasStoppedBack cf bf n most c.in-Err.error p q v w)
    (λ p q h. inl h) c.in-Err.ensures.err

pub returns-in-Err-clause-left : goal.returns-in-Err-clause-left
returns-in-Err-clause-left g c =
    let left = c.take_each.ensures.left in
    let few = c.take_each.ensures.few in
    omega (arith, left, few)

pub returns-in-Err-clause-keeps : goal.returns-in-Err-clause-keeps
returns-in-Err-clause-keeps g c = c.take_each.ensures.mine.places

pub returns-in-Err-clause-held : goal.returns-in-Err-clause-held
returns-in-Err-clause-held g c = c.take_each.ensures.mine.held

pub returns-in-Ok-None-clause-mine : goal.returns-in-Ok-None-clause-mine
returns-in-Ok-None-clause-mine g c = c.take_each.ensures.mine

pub returns-in-Ok-None-clause-left : goal.returns-in-Ok-None-clause-left
returns-in-Ok-None-clause-left g c =
    let left = c.take_each.ensures.left in
    let few = c.take_each.ensures.few in
    omega (arith, left, few)

pub returns-in-Ok-None-clause-ready : goal.returns-in-Ok-None-clause-ready
returns-in-Ok-None-clause-ready g c =
    let left = c.take_each.ensures.left in
    let few = c.take_each.ensures.few in
    omega (arith, left, few)

pub returns-in-Ok-None-clause-keeps : goal.returns-in-Ok-None-clause-keeps
returns-in-Ok-None-clause-keeps g c = c.take_each.ensures.mine.places

pub returns-in-Ok-None-clause-held : goal.returns-in-Ok-None-clause-held
returns-in-Ok-None-clause-held g c = c.take_each.ensures.mine.held

pub give_back-requires-clause-promise : goal.give_back-requires-clause-promise
give_back-requires-clause-promise g c =
    let left = c.take_each.ensures.left in
    let few = c.take_each.ensures.few in
    let most = c.requires.promise in
    omega (arith, left, few, most)

pub give_back-requires-clause-buckets : goal.give_back-requires-clause-buckets
give_back-requires-clause-buckets g c =
    ap (λ (k : Kinds). k.buckets) c.take_each.ensures.kinds ∙ c.requires.all.buckets

pub give_back-requires-clause-before : goal.give_back-requires-clause-before
give_back-requires-clause-before g c =
    let all = all_on c.args.g.now c.args.hand.now c.take_each.new.hand c.take_each.ensures.kinds
    c.take_each.ensures.rest c.requires.all in
    subst (λ n. FromEach (world g.C.Disk.facts g.B.Disk.facts c.take_each.new.seat) (HasBefore n))
    (sym c.from-before.ensures)
    (cut_in g.C.Disk.facts g.B.Disk.facts c.args.parts.now c.take_each.new.seat
    c.take_each.new.hand c.args.g.now c.take_each.ensures.works all).before

pub give_back-requires-clause-mine : goal.give_back-requires-clause-mine
give_back-requires-clause-mine g c = c.take_each.ensures.mine.mine

pub returns-in-Err-give_back-clause-kinds : goal.returns-in-Err-give_back-clause-kinds
returns-in-Err-give_back-clause-kinds g c = c.give_back.ensures.kinds ∙ c.take_each.ensures.kinds

pub returns-in-Err-give_back-clause-rest : goal.returns-in-Err-give_back-clause-rest
returns-in-Err-give_back-clause-rest g c = rest_then c.args.hand.now c.take_each.new.hand
    c.give_back.new.hand c.take_each.ensures.rest c.give_back.ensures.rest

pub returns-in-Err-give_back-clause-err : goal.returns-in-Err-give_back-clause-err
returns-in-Err-give_back-clause-err g c =
    let cf = g.C.Disk.facts in
    let bf = g.B.Disk.facts in
    let n = c.args.g.now.first_bucket in
    let most = sets_in_chain c.args.g.now in
    let v = c.args.seat.now in
    let w = c.give_back.new.seat in
    let e = c.in-Err-give_back.error in
    tied_as c.args.hand.now c.give_back.new.hand
    (λ p q. HasStoppedBack cf bf n most e p q v w)
    (λ p q. HasStoppedTaking cf bf n most e p q v w ⊎ HasStoppedBack cf bf n most e p q v w)
    (λ p q h. inr h)
    (stopped_back cf bf n most c.in-Ok-Some.why e c.take_each.new.into.items c.args.hand.now
    c.take_each.new.hand c.give_back.new.hand v c.take_each.new.seat w
    (if_some (λ a. TiesBuckets c.args.hand.now c.take_each.new.hand (λ p q. HasNoChain cf bf n most
    a c.take_each.new.into.items p q v c.take_each.new.seat)) c.in-Ok-Some.field-0
    c.in-Ok-Some.why c.in-Ok-Some.field-0-is c.in-Ok-Some.ensures.none)
    (subst (λ m. TiesBuckets c.take_each.new.hand c.give_back.new.hand (λ p q. HasStoppedGoing cf bf
    m e c.take_each.new.into.items p q c.take_each.new.seat w)) c.from-before.ensures
    c.in-Err-give_back.ensures.err))

pub returns-in-Err-give_back-clause-left : goal.returns-in-Err-give_back-clause-left
returns-in-Err-give_back-clause-left g c =
    let left = c.take_each.ensures.left in
    let few = c.take_each.ensures.few in
    let more = c.give_back.ensures.left in
    omega (arith, left, few, more)

pub returns-in-Err-give_back-clause-keeps : goal.returns-in-Err-give_back-clause-keeps
returns-in-Err-give_back-clause-keeps g c = places_both g.C.Disk.facts g.B.Disk.facts
    c.args.seat.now c.take_each.new.seat c.give_back.new.seat c.take_each.ensures.mine.places
    c.give_back.ensures.keeps

pub returns-in-Err-give_back-clause-held : goal.returns-in-Err-give_back-clause-held
returns-in-Err-give_back-clause-held g c =
    let cf = g.C.Disk.facts in
    let bf = g.B.Disk.facts in
    kept_beside cf bf c.take_each.new.into.items c.args.seat.now c.take_each.new.seat
    c.give_back.new.seat
    (holds_on cf bf c.args.parts.now c.args.seat.now c.take_each.new.seat c.args.hand.now
    c.take_each.new.hand c.requires.works c.take_each.ensures.works c.take_each.ensures.kinds)
    c.take_each.ensures.mine c.give_back.ensures.held

pub returns-clause-kinds : goal.returns-clause-kinds
returns-clause-kinds g c = c.give_back.ensures.kinds ∙ c.take_each.ensures.kinds

pub returns-clause-rest : goal.returns-clause-rest
returns-clause-rest g c = rest_then c.args.hand.now c.take_each.new.hand
    c.give_back.new.hand c.take_each.ensures.rest c.give_back.ensures.rest

pub returns-clause-none : goal.returns-clause-none
returns-clause-none g c =
    let cf = g.C.Disk.facts in
    let bf = g.B.Disk.facts in
    let n = c.args.g.now.first_bucket in
    let most = sets_in_chain c.args.g.now in
    given_back cf bf n most c.in-Ok-Some.why c.take_each.new.into.items c.args.hand.now
    c.take_each.new.hand c.give_back.new.hand c.args.seat.now c.take_each.new.seat
    c.give_back.new.seat
    (if_some (λ a. TiesBuckets c.args.hand.now c.take_each.new.hand (λ p q. HasNoChain cf bf n most
    a c.take_each.new.into.items p q c.args.seat.now c.take_each.new.seat)) c.in-Ok-Some.field-0
    c.in-Ok-Some.why c.in-Ok-Some.field-0-is c.in-Ok-Some.ensures.none)
    (subst (λ m. TiesBuckets c.take_each.new.hand c.give_back.new.hand (λ p q. HaveLetGo cf bf
    m (reverse c.take_each.new.into.items) p q c.take_each.new.seat c.give_back.new.seat))
    c.from-before.ensures c.in-Ok.ensures.ok)

pub returns-clause-left : goal.returns-clause-left
returns-clause-left g c =
    let left = c.take_each.ensures.left in
    let few = c.take_each.ensures.few in
    let more = c.give_back.ensures.left in
    omega (arith, left, few, more)

pub returns-clause-keeps : goal.returns-clause-keeps
returns-clause-keeps g c = places_both g.C.Disk.facts g.B.Disk.facts
    c.args.seat.now c.take_each.new.seat c.give_back.new.seat c.take_each.ensures.mine.places
    c.give_back.ensures.keeps

pub returns-clause-held : goal.returns-clause-held
returns-clause-held g c =
    let cf = g.C.Disk.facts in
    let bf = g.B.Disk.facts in
    kept_beside cf bf c.take_each.new.into.items c.args.seat.now c.take_each.new.seat
    c.give_back.new.seat
    (holds_on cf bf c.args.parts.now c.args.seat.now c.take_each.new.seat c.args.hand.now
    c.take_each.new.hand c.requires.works c.take_each.ensures.works c.take_each.ensures.kinds)
    c.take_each.ensures.mine c.give_back.ensures.held
