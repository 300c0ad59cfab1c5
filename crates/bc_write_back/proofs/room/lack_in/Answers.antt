use Rattle.std.proofs.Common.{ℕ, sym, ◌∙◌, subst}
use Rattle.bc_cache.specs.declared.slots.Cached.{Cached}
use Rattle.bc_journal.specs.Journal.{Journal}
use Rattle.bc_stored.proofs.of_bc_insert.Putting.{one_some}
use Rattle.bc_write_back.specs.Room.{HasRoomFor, HasThree, IsShort}
use Rattle.bc_write_back.proofs.Hands.{if_none, if_some, is_there, same_cached, same_slot}
use Rattle.bc_write_back.proofs.room.lack_in.Goals as goal

pub unreachable-requires-in_default-find : goal.unreachable-requires-in_default-find
unreachable-requires-in_default-find g c =
    let (parts, first, count, three) = c.requires.three in
    is_there c.args.hand.now c.args.number c.in-Some.leaves c.in-Some.is parts first count three
    c.in_default-find.ensures

pub returns-clause-slot : goal.returns-clause-slot
returns-clause-slot g c parts first count three = same_slot c.args.hand.now c.args.number
    c.in-Some.leaves c.in-Some.is parts first count three c.in-Some-find.slot c.in-Some-find.ensures

pub returns-clause-some : goal.returns-clause-some
returns-clause-some g c = if_some
    (λ why. IsShort why c.in-Some-slot.cached c.get.result.now c.args.keys.now)
    (λ why. (parts first count : ℕ)
    (three : HasThree c.args.hand.now parts c.args.number first count)
    → IsShort why three.cached three.journal c.args.keys.now)
    c.lack_of.result (λ why short parts first count three.
    subst (λ (x : Cached). IsShort why x three.journal c.args.keys.now)
    (sym (same_cached c.args.hand.now c.args.number c.in-Some.leaves c.in-Some.is parts first count
    three c.in-Some-find.slot c.in-Some-find.ensures c.slot.result.now c.in-Some-slot.cached
    c.slot.ensures c.in-Some-slot.is))
    (subst (λ (j : Journal). IsShort why c.in-Some-slot.cached j c.args.keys.now)
    (c.get.ensures ∙ one_some c.args.hand.now.journal c.in-Some-journal.journal three.journal
    c.in-Some-journal.is three.is_journal) short)) c.lack_of.ensures.some

pub returns-clause-none : goal.returns-clause-none
returns-clause-none g c = if_none
    (HasRoomFor c.in-Some-slot.cached c.get.result.now c.args.keys.now)
    ((parts first count : ℕ) (three : HasThree c.args.hand.now parts c.args.number first count)
    → HasRoomFor three.cached three.journal c.args.keys.now)
    c.lack_of.result (λ room parts first count three.
    subst (λ (x : Cached). HasRoomFor x three.journal c.args.keys.now)
    (sym (same_cached c.args.hand.now c.args.number c.in-Some.leaves c.in-Some.is parts first count
    three c.in-Some-find.slot c.in-Some-find.ensures c.slot.result.now c.in-Some-slot.cached
    c.slot.ensures c.in-Some-slot.is))
    (subst (λ (j : Journal). HasRoomFor c.in-Some-slot.cached j c.args.keys.now)
    (c.get.ensures ∙ one_some c.args.hand.now.journal c.in-Some-journal.journal three.journal
    c.in-Some-journal.is three.is_journal) room)) c.lack_of.ensures.none
