use Rattle.std.proofs.Common.{ℕ, sym, ◌∙◌, subst}
use Rattle.bc_cache.specs.declared.slots.Cached.{Cached}
use Rattle.bc_journal.specs.Journal.{Journal}
use Rattle.bc_settle.proofs.of_bc_insert.Putting.{one_some}
use Rattle.bc_settled.specs.Room.{HasFour, IsReady, IsShort}
use Rattle.bc_settled.proofs.Hands.{if_none, if_some, is_there, same_cached, same_slot}
use Rattle.bc_settled.proofs.lack.lack_in.Goals as goal

pub unreachable-requires-in_default-find : goal.unreachable-requires-in_default-find
unreachable-requires-in_default-find g c =
    let (parts, first, count, four) = c.requires.four in
    is_there c.args.hand.now c.args.number c.in-Some.leaves c.in-Some.is parts first count four
    c.in_default-find.ensures

pub returns-clause-slot : goal.returns-clause-slot
returns-clause-slot g c parts first count four = same_slot c.args.hand.now c.args.number
    c.in-Some.leaves c.in-Some.is parts first count four c.in-Some-find.slot c.in-Some-find.ensures

pub returns-clause-some : goal.returns-clause-some
returns-clause-some g c = if_some
    (λ why. IsShort why c.in-Some-slot.cached c.get.result.now)
    (λ why. (parts first count : ℕ)
    (four : HasFour c.args.hand.now parts c.args.number first count)
    → IsShort why four.cached four.journal)
    c.lack_of.result (λ why short parts first count four.
    subst (λ (x : Cached). IsShort why x four.journal)
    (sym (same_cached c.args.hand.now c.args.number c.in-Some.leaves c.in-Some.is parts first count
    four c.in-Some-find.slot c.in-Some-find.ensures c.slot.result.now c.in-Some-slot.cached
    c.slot.ensures c.in-Some-slot.is))
    (subst (λ (j : Journal). IsShort why c.in-Some-slot.cached j)
    (c.get.ensures ∙ one_some c.args.hand.now.journal c.in-Some-journal.journal four.journal
    c.in-Some-journal.is four.is_journal) short)) c.lack_of.ensures.some

pub returns-clause-none : goal.returns-clause-none
returns-clause-none g c = if_none
    (IsReady c.in-Some-slot.cached c.get.result.now)
    ((parts first count : ℕ) (four : HasFour c.args.hand.now parts c.args.number first count)
    → IsReady four.cached four.journal)
    c.lack_of.result (λ room parts first count four.
    subst (λ (x : Cached). IsReady x four.journal)
    (sym (same_cached c.args.hand.now c.args.number c.in-Some.leaves c.in-Some.is parts first count
    four c.in-Some-find.slot c.in-Some-find.ensures c.slot.result.now c.in-Some-slot.cached
    c.slot.ensures c.in-Some-slot.is))
    (subst (λ (j : Journal). IsReady c.in-Some-slot.cached j)
    (c.get.ensures ∙ one_some c.args.hand.now.journal c.in-Some-journal.journal four.journal
    c.in-Some-journal.is four.is_journal) room)) c.lack_of.ensures.none
