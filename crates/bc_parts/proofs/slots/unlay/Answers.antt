use Rattle.std.proofs.Common.{◌≤◌, ◌++◌, [], ◌∷◌, length, sym, ap, ◌∙◌, subst, vec_capacity}
use Rattle.std.specs.Option.{option_to_list}
use Rattle.bc_parts.proofs.Laying.{none_left, same_book_slot, same_vector_slot, laid-pop, push-injective, map-pop, IsUnlaying, IsUnlaying-first, IsUnlaying-next, IsUnlaying-last}
use Rattle.bc_parts.proofs.slots.unlay.Goals as goal

pub vector_in-parts-requires : goal.vector_in-parts-requires
vector_in-parts-requires g c = let r = c.requires in let popped = c.pop.ensures.items ∙ ap (λ o. c.pop.new.self.items ++ option_to_list o) c.unwrap.ensures in
    (r.2, (laid-pop c.args.slots.items c.pop.new.self.items c.unwrap.result r.0 r.1 r.2 r.3 popped).1)

pub book_in-book-requires : goal.book_in-book-requires
book_in-book-requires g c = let r = c.requires in let popped = c.pop.ensures.items ∙ ap (λ o. c.pop.new.self.items ++ option_to_list o) c.unwrap.ensures in
    let rest = (laid-pop c.args.slots.items c.pop.new.self.items c.unwrap.result r.0 r.1 r.2 r.3 popped).0 in
    let popped' = c.pop-2.ensures.items ∙ ap (λ o. c.pop-2.new.self.items ++ option_to_list o) c.unwrap-2.ensures in
    (r.1, (push-injective c.pop-2.new.self.items _ c.unwrap-2.result _ (sym popped' ∙ rest)).1)

pub loop-slot-init : goal.loop-slot-init
loop-slot-init g c = let r = c.requires in let popped = c.pop.ensures.items ∙ ap (λ o. c.pop.new.self.items ++ option_to_list o) c.unwrap.ensures in
    let first = laid-pop c.args.slots.items c.pop.new.self.items c.unwrap.result r.0 r.1 r.2 r.3 popped in
    let popped' = c.pop-2.ensures.items ∙ ap (λ o. c.pop-2.new.self.items ++ option_to_list o) c.unwrap-2.ensures in
    let second = push-injective c.pop-2.new.self.items _ c.unwrap-2.result _ (sym popped' ∙ first.0) in
    let vector = same_vector_slot r.2 c.vector_in-parts.result (sym first.1 ∙ c.vector_in-parts.ensures) in
    IsUnlaying-first c.args.slots.items c.pop-2.new.self.items r.0 r.1 c.book_in-book.result r.2 c.vector_in-parts.result.items (vec_capacity c.vector_in-parts.result) r.3 second.0
    (same_book_slot r.1 c.book_in-book.result (sym second.1 ∙ c.book_in-book.ensures)) (sym (ap (λ v. v.items) vector) ∙ r.4) (subst (λ v. length r.0 ≤ vec_capacity v) vector r.5)

pub part_in-requires : goal.part_in-requires
part_in-requires g c = let i = c.loop-slot.invariant in let t = map-pop i.left c.pop-in-loop-slot.new.self.items c.in-Some.slot (sym i.slots_are ∙ c.in-Some.ensures.items) in (t.1, t.4)

pub loop-slot-preserved : goal.loop-slot-preserved
loop-slot-preserved g c = let popped = c.in-Some.ensures.items ∙ ap (λ slot. c.pop-in-loop-slot.new.self.items ++ slot ∷ []) c.part_in.ensures in
    subst (IsUnlaying c.args.slots.items c.book_in-book.result c.pop-in-loop-slot.new.self.items c.push_reserved.new.self.items) (sym c.push_reserved.ensures.capacity)
    (IsUnlaying-next c.args.slots.items c.loop-slot.slots.items c.pop-in-loop-slot.new.self.items c.book_in-book.result c.loop-slot.parts.items c.push_reserved.new.self.items c.part_in.result (vec_capacity c.loop-slot.parts) c.loop-slot.invariant popped c.push_reserved.ensures.items)

pub returns : goal.returns
returns g c = let none = c.in_default.ensures in
    IsUnlaying-last c.args.slots.items c.loop-slot.slots.items c.book_in-book.result c.loop-slot.parts.items c.reverse.new.self.items (vec_capacity c.loop-slot.parts) c.loop-slot.invariant
    (none_left c.loop-slot.slots.items (sym c.loop-slot.slots.ok.0 ∙ none.cases.0)) c.reverse.ensures.items
