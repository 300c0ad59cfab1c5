use Rattle.std.proofs.Common.{◌≡◌, ◌+◌, ◌≤◌, length, sym, ap, ◌∙◌, subst, refl, arith, vec_capacity}
use lib.ListN.{get_elem?}
use Rattle.std.specs.Mem.Slots.Ownership.{Filled}
use Rattle.std.specs.Mem.Slots.{slots_items, slots_filled, slots_len}
use Rattle.bc_parts.specs.Machine.{state_after}
use Rattle.bc_parts.specs.Rule.{Whole}
use Rattle.bc_parts.proofs.Laying.{same_part_slot, same_book_slot, same_vector_slot}
use Rattle.bc_parts.proofs.Keeping.{closes}
use Rattle.bc_parts.proofs.Closing.{IsTakenUpTo, IsTakenUpTo-first, IsTakenUpTo-next, IsTakenUpTo-last, IsCollected-first, IsCollected-next, part_taken, book_taken, vector_taken}
use Rattle.bc_parts.proofs.parts.Parts.close.Goals as goal
use Rattle.bc_parts.proofs.parts.Parts.close.Goals.{After-close_with-closed}
use Rattle.bc_parts.proofs.parts.Parts.close.Given.{Over}

-- the slots have what the list that the seat has seen made of the parts
whole : (g : Over) → (c : After-close_with-closed g) → Whole g.M.Machine c.args.self.run.start c.self.inside.table.shared.key.seats c.args.seat.seen (slots_items c.close_with-closed.result.slots)
whole g c = let m = g.M.Machine in let key = c.self.inside.table.shared.key in let place = c.seat.inside.place in let v = c.seat.view_is in let rests = c.seat.invariant.0 in let slots = slots_items c.close_with-closed.result.slots in
    let final = closes m key.parts.value.items key.seats (slots_items c.close_with-closed.result.words) slots place.id place.me.0 (ap (λ s. s.first) v ∙ c.requires.all.0) (ap (λ s. s.end) v ∙ (c.requires.all.1 ∙ ap (λ p. p.seats) (sym c.self.view_is))) rests.live rests.whole (ap (λ s. s.parts) v ∙ c.requires.idle) c.close_with-closed.ensures.values.2 in
    subst (λ ps. Whole m ps key.seats c.args.seat.seen slots) (ap (λ p. p.run.start) c.self.view_is) (subst (λ es. Whole m key.parts.value.items key.seats es slots) (ap (λ s. s.seen) v) final)

-- how many parts there are
count : (g : Over) → (c : After-close_with-closed g) → c.self.inside.count ≡ length c.args.self.run.start
count g c = c.self.invariant.0 ∙ ap (λ p. length p.run.start) c.self.view_is

pub vector_in-parts-requires : goal.vector_in-parts-requires
vector_in-parts-requires g c = let d = (goal.at.vector_in-parts-requires g c).After-close_with-closed in
    let v = vector_taken g.M.Machine c.args.self.run.start c.self.inside.table.shared.key.seats c.args.seat.seen (slots_items c.close_with-closed.result.slots) (whole g d) (c.self.inside.count + 1) c.take.result (ap (λ n. n + 1) (count g d)) c.take.ensures.value in (v.0, v.1)

pub loop-k-init : goal.loop-k-init
loop-k-init g c = let d = (goal.at.loop-k-init g c).After-close_with-closed in let m = g.M.Machine in let n = c.self.inside.count in let slots = c.close_with-closed.result.slots in
    let places = c.close_with-closed.ensures.counts.1 ∙ c.self.invariant.2 in
    let v = vector_taken m c.args.self.run.start c.self.inside.table.shared.key.seats c.args.seat.seen (slots_items slots) (whole g d) (n + 1) c.take.result (ap (λ k. k + 1) (count g d)) c.take.ensures.value in
    let same = same_vector_slot v.0 c.vector_in-parts.result (sym v.1 ∙ c.vector_in-parts.ensures) in record {
      slots = refl;
      places = refl;
      filled = IsTakenUpTo-first (slots_filled slots) (slots_filled c.take.new.self.slots) n (sym slots.ok.1 ∙ places) (subst (Filled (slots_filled slots) 0) places c.close_with-closed.ensures.values.1) c.take.ensures.others.1;
      parts = IsCollected-first m (state_after m c.args.self.run.start c.args.seat.seen) c.vector_in-parts.result n (sym (ap (λ w. w.items) same) ∙ v.2) (subst (λ w. n ≤ vec_capacity w) same (let room = v.3 in let many = count g d in omega (arith, room, many)));
    }

pub part_in-requires : goal.part_in-requires
part_in-requires g c = let d = (goal.at.part_in-requires g c).After-close_with-closed in let i = c.loop-k.invariant in
    let there = ap (λ l. get_elem? l c.loop-k.k) (sym (i.slots ∙ c.take.ensures.others.0)) ∙ c.take-in-loop-k.ensures.value in
    let p = part_taken g.M.Machine c.args.self.run.start c.self.inside.table.shared.key.seats c.args.seat.seen (slots_items c.close_with-closed.result.slots) (whole g d) c.loop-k.k c.take-in-loop-k.result (let many = count g d in let below = c.loop-k-test.true in omega (arith, many, below)) there in (p.0, p.1)

pub loop-k-preserved : goal.loop-k-preserved
loop-k-preserved g c = let d = (goal.at.loop-k-preserved g c).After-close_with-closed in let m = g.M.Machine in let n = c.self.inside.count in let k = c.loop-k.k in let i = c.loop-k.invariant in let below = c.loop-k-test.true in let others = c.take-in-loop-k.ensures.others in
    let x = state_after m c.args.self.run.start c.args.seat.seen in
    let there = ap (λ l. get_elem? l k) (sym (i.slots ∙ c.take.ensures.others.0)) ∙ c.take-in-loop-k.ensures.value in
    let p = part_taken m c.args.self.run.start c.self.inside.table.shared.key.seats c.args.seat.seen (slots_items c.close_with-closed.result.slots) (whole g d) k c.take-in-loop-k.result (let many = count g d in omega (arith, many, below)) there in
    let same = same_part_slot p.0 c.part_in.result (sym p.1 ∙ c.part_in.ensures) in record {
      slots = others.0 ∙ i.slots;
      places = others.2 ∙ i.places;
      filled = IsTakenUpTo-next (slots_filled c.loop-k.closed.slots) (slots_filled c.take-in-loop-k.new.self.slots) n k i.filled below others.1;
      parts = IsCollected-next m x c.loop-k.parts c.push_reserved.new.self n k c.part_in.result i.parts (subst (λ q. m.stands k q x) same p.2) c.push_reserved.ensures.items c.push_reserved.ensures.capacity;
    }

pub book_in-book-requires : goal.book_in-book-requires
book_in-book-requires g c = let d = (goal.at.book_in-book-requires g c).After-close_with-closed in let n = c.self.inside.count in
    let there = ap (λ l. get_elem? l n) (sym (c.loop-k.invariant.slots ∙ c.take.ensures.others.0)) ∙ c.take-2.ensures.value in
    let b = book_taken g.M.Machine c.args.self.run.start c.self.inside.table.shared.key.seats c.args.seat.seen (slots_items c.close_with-closed.result.slots) (whole g d) n c.take-2.result (count g d) there in (b.0, b.1)

pub free-requires : goal.free-requires
free-requires g c = let n = c.self.inside.count in let i = c.loop-k.invariant in
    let end : c.loop-k.k ≡ n = let low = c.loop-k.auto.k-end in let high = c.loop-k-test.false in omega (arith, low, high) in
    let places = c.take-2.ensures.others.2 ∙ (i.places ∙ (c.take.ensures.others.2 ∙ (c.close_with-closed.ensures.counts.1 ∙ c.self.invariant.2))) in
    IsTakenUpTo-last (slots_filled c.loop-k.closed.slots) (slots_filled c.take-2.new.self.slots) n (slots_len c.take-2.new.self.slots) (subst (IsTakenUpTo (slots_filled c.loop-k.closed.slots) n) end i.filled) c.take-2.ensures.others.1 places

pub returns-clause-events : goal.returns-clause-events
returns-clause-events g c = let d = (goal.at.returns-clause-events g c).After-close_with-closed in let m = g.M.Machine in let n = c.self.inside.count in
    let there = ap (λ l. get_elem? l n) (sym (c.loop-k.invariant.slots ∙ c.take.ensures.others.0)) ∙ c.take-2.ensures.value in
    let b = book_taken m c.args.self.run.start c.self.inside.table.shared.key.seats c.args.seat.seen (slots_items c.close_with-closed.result.slots) (whole g d) n c.take-2.result (count g d) there in
    ap m.events (sym (same_book_slot b.0 c.book_in-book.result (sym b.1 ∙ c.book_in-book.ensures))) ∙ b.2

pub returns-clause-run : goal.returns-clause-run
returns-clause-run g c = (whole g (goal.at.returns-clause-run g c).After-close_with-closed).run
