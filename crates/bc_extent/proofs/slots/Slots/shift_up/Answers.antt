use Rattle.std.proofs.Common.{◌≡◌, ◌<◌, List, length, get_or, sym, subst, ap, ◌∙◌, arith}
use Rattle.std.proofs.lemmas.List.{with_items_is}
use Rattle.bc_key.specs.declared.key.Key.{Key}
use Rattle.bc_extent.specs.declared.slot.Front.{Front}
use Rattle.bc_extent.specs.declared.slot.Tail.{Tail}
use Rattle.std.specs.Vec.{with_items}
use Rattle.bc_extent.specs.Moved.{IsMoved}
use Rattle.bc_extent.specs.Slot.{no_tail, key_in, keys_in}
use Rattle.bc_extent.proofs.Kept.{key_at, length_keys, moved_keys, put_there, still_all}
use Rattle.bc_extent.proofs.slots.Slots.shift_up.Goals as goal

-- the keys before the call
old_keys : (c : goal.After-self-2-1) → keys_in c.self.inside.fronts.items c.make_room.new.tails.items ≡ c.args.self.now
old_keys c = c.make_room.ensures.same c.self.inside.fronts.items ∙ c.self.view_is

long : (c : goal.After-self-2-1) → length c.shift_up-front.new.items ≡ length c.self.inside.fronts.items
long c = c.shift_up-front.ensures.length ∙ ap (λ (fs : List Front). length fs) c.deref_mut.ensures.value

long_tails : (c : goal.After-self-2-1) → length c.shift_tails_up-tail.new.tails ≡ length c.make_room.new.tails.items
long_tails c = c.shift_tails_up-tail.ensures.length ∙ ap (λ (ts : List Tail). length ts) c.deref_mut-2.ensures.value

-- the keys behind it
abbrev Laid : goal.After-self-2-1 → List Key
Laid c = keys_in (with_items c.self.inside.fronts c.shift_up-front.new.items).items (with_items c.make_room.new.tails c.shift_tails_up-tail.new.tails).items

laid : (c : goal.After-self-2-1) → Laid c ≡ keys_in c.shift_up-front.new.items c.shift_tails_up-tail.new.tails
laid c =
    let kept : length c.shift_up-front.new.items ≡ c.self.inside.fronts.len = omega (arith, long c, c.self.inside.fronts.ok.0) in
    let kept_tails : length c.shift_tails_up-tail.new.tails ≡ c.make_room.new.tails.len = omega (arith, long_tails c, c.make_room.new.tails.ok.0) in
    λ t. keys_in (with_items_is c.self.inside.fronts c.shift_up-front.new.items kept t) (with_items_is c.make_room.new.tails c.shift_tails_up-tail.new.tails kept_tails t)

pub returns-clause-moved : goal.returns-clause-moved
returns-clause-moved c =
    let a = c.args.a in
    let b = c.args.b in
    let fronts = c.self.inside.fronts.items in
    let tails = c.make_room.new.tails.items in
    let moved = subst (λ (fs : List Front). IsMoved a b fs c.shift_up-front.new.items) c.deref_mut.ensures.value c.shift_up-front.ensures.moved in
    let moved_tails = subst (λ (ts : List Tail). IsMoved a b ts c.shift_tails_up-tail.new.tails) c.deref_mut-2.ensures.value c.shift_tails_up-tail.ensures.moved in
    let inside : b < length fronts = omega (arith, c.self.invariant.0, c.requires.within) in
    subst (λ (ks : List Key). IsMoved a b c.args.self.now ks) (sym (laid c))
    (subst (λ (ks : List Key). IsMoved a b ks (keys_in c.shift_up-front.new.items c.shift_tails_up-tail.new.tails)) (old_keys c)
    (moved_keys a b fronts c.shift_up-front.new.items tails c.shift_tails_up-tail.new.tails c.slot.inside.front c.requires.order inside (long c) moved moved_tails))

pub returns-clause-first : goal.returns-clause-first
returns-clause-first c = λ d.
    let slot = c.slot.inside in
    ap (λ ks. get_or ks c.args.a d) (laid c)
    ∙ put_there c.shift_up-front.new.items c.shift_tails_up-tail.new.tails c.args.a d slot.front slot.tail (omega (arith, long c, c.self.invariant.0, c.requires)) (still_all _ _ c.make_room.ensures.all (long_tails c))
    (λ several. long_tails c ∙ c.make_room.ensures.needed (subst (λ (key : Key). 1 < key.count) c.slot.view_is several))
    (c.shift_up-front.ensures.first slot.front) c.shift_tails_up-tail.ensures.first
    ∙ c.slot.view_is

pub returns-clause-out : goal.returns-clause-out
returns-clause-out c = λ d.
    let slot = c.slot.inside in
    let fronts = c.self.inside.fronts.items in
    let tails = c.make_room.new.tails.items in
    let b = c.args.b in
    let inside : b < length fronts = omega (arith, c.self.invariant.0, c.requires.within) in
    (λ t. key_in ((c.shift_up-front.ensures.out slot.front ∙ ap (λ (fs : List Front). get_or fs b slot.front) c.deref_mut.ensures.value) t) ((c.shift_tails_up-tail.ensures.out ∙ ap (λ (ts : List Tail). get_or ts b no_tail) c.deref_mut-2.ensures.value) t))
    ∙ sym (key_at fronts tails b d slot.front inside)
    ∙ ap (λ ks. get_or ks b d) (old_keys c)

pub returns-clause-length : goal.returns-clause-length
returns-clause-length c =
    ap (λ (ks : List Key). length ks) (laid c)
    ∙ length_keys c.shift_up-front.new.items c.shift_tails_up-tail.new.tails
    ∙ long c
    ∙ sym (length_keys c.self.inside.fronts.items c.make_room.new.tails.items)
    ∙ ap (λ (ks : List Key). length ks) (old_keys c)
