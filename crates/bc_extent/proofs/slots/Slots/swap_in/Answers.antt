use Rattle.std.proofs.Common.{◌≡◌, ◌<◌, List, length, get_or, set, sym, subst, ap, ◌∙◌, arith}
use Rattle.std.proofs.lemmas.List.{with_items_is, length-set}
use Rattle.bc_key.specs.declared.key.Key.{Key}
use Rattle.bc_extent.specs.declared.slot.Tail.{Tail}
use Rattle.bc_extent.specs.Slot.{key_in, keys_in}
use Rattle.bc_extent.proofs.Kept.{key_at, put}
use Rattle.bc_extent.proofs.slots.Slots.swap_in.Goals as goal

pub returns-clause-new : goal.returns-clause-new
returns-clause-new c =
    let slots = c.self.inside in
    let fronts = slots.fronts.items in
    let tails = c.make_room.new.tails in
    let slot = c.slot.inside in
    let same = c.deref_mut.ensures.value in
    let set_tails = c.swap_tail-tail.ensures.new ∙ ap (λ (ts : List Tail). set ts c.args.i slot.tail) same in
    let kept : length c.swap_tail-tail.new.tails ≡ tails.len = omega (arith, ap (λ (ts : List Tail). length ts) set_tails, length-set tails.items c.args.i slot.tail, tails.ok.0) in
    ap (λ (ts : List Tail). keys_in (set fronts c.args.i c.replace-front.new.dest) ts) (with_items_is tails c.swap_tail-tail.new.tails kept ∙ set_tails)
    ∙ ap (λ f. keys_in (set fronts c.args.i f) (set tails.items c.args.i slot.tail)) c.replace-front.ensures.after
    ∙ put fronts tails.items c.args.i slot.front slot.tail c.requires c.make_room.ensures.all (λ several. c.make_room.ensures.needed (subst (λ (key : Key). 1 < key.count) c.slot.view_is several))
    ∙ ap (λ key. set (keys_in fronts tails.items) c.args.i key) c.slot.view_is
    ∙ ap (λ keys. set keys c.args.i c.args.slot) (c.make_room.ensures.same fronts ∙ c.self.view_is)

pub returns-clause-old : goal.returns-clause-old
returns-clause-old c = λ d.
    let slots = c.self.inside in
    let fronts = slots.fronts.items in
    let tails = c.make_room.new.tails.items in
    let front = c.index_mut.result.now in
    let inside : c.args.i < length fronts = omega (arith, c.self.invariant.0, c.requires) in
    (λ t. key_in ((c.replace-front.ensures.value ∙ c.index_mut.ensures.value) t) ((c.swap_tail-tail.ensures.old ∙ ap (λ (ts : List Tail). get_or ts c.args.i _) c.deref_mut.ensures.value) t))
    ∙ sym (key_at fronts tails c.args.i d front inside)
    ∙ ap (λ keys. get_or keys c.args.i d) (c.make_room.ensures.same fronts ∙ c.self.view_is)
