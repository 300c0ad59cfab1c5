use Rattle.std.proofs.Common.{sym, ap, ◌∙◌}
use Rattle.bc_cache.specs.declared.slots.Cached.{Cached}
use Rattle.bc_node.specs.Leaf.{Leaf}
use Rattle.bc_node.specs.declared.pending.Entries.{Entries}
use Rattle.bc_turn.proofs.Slots.{has_it, its, only_there, within}
use Rattle.bc_turn.proofs.Leaving.{same_entries}
use Rattle.bc_turn.proofs.leaf.last_entry.Goals as goal

pub unreachable-requires-in_default-find : goal.unreachable-requires-in_default-find
unreachable-requires-in_default-find g c = c.in_default-find.ensures c.requires.1
    (has_it c.args.hand.now c.in-Some.leaves c.in-Some.is c.args.leaf c.requires.1
    c.requires.2.own.at)

pub is_held-requires : goal.is_held-requires
is_held-requires g c = within c.in-Some.leaves.cache.slots c.args.leaf c.in-Some-find.slot
    c.in-Some-find.ensures

pub returns-then-is_held : goal.returns-then-is_held
returns-then-is_held g c parts slot x = (
  ap (λ (y : Cached). y.held) (its c.args.hand.now c.in-Some.leaves c.in-Some.is c.args.leaf slot
      x.own.at c.in-Some-find.slot c.in-Some-find.ensures c.in-Some-find.ensures.has.cached
      c.in-Some-find.ensures.has.there)
      ∙ sym (c.is_held.ensures c.in-Some-find.ensures.has.cached c.in-Some-find.ensures.has.there)
      ∙ c.if-is_held.true,
  only_there c.args.hand.now c.in-Some.leaves c.in-Some.is c.args.leaf slot x.own.at
      c.in-Some-find.slot c.in-Some-find.ensures,
)

pub returns-then-is_loaded : goal.returns-then-is_loaded
returns-then-is_loaded g c parts slot x = (
  ap (λ (y : Cached). y.leaf.loaded) (its c.args.hand.now c.in-Some.leaves c.in-Some.is c.args.leaf
      slot x.own.at c.in-Some-find.slot c.in-Some-find.ensures c.leaf-own.ensures.0
      c.leaf-own.ensures.1) ∙ ap (λ (y : Leaf). y.loaded) c.leaf-own.ensures.2
      ∙ sym c.is_loaded.ensures ∙ c.if-is_loaded.true,
  only_there c.args.hand.now c.in-Some.leaves c.in-Some.is c.args.leaf slot x.own.at
      c.in-Some-find.slot c.in-Some-find.ensures,
)

pub unreachable-requires-in_default-entries : goal.unreachable-requires-in_default-entries
unreachable-requires-in_default-entries g c =
    let x = c.requires.2 in
    c.in_default-entries.not-Some x.entries (c.entries.ensures
    ∙ ap (λ (y : Leaf). y.entries) (sym c.leaf-own.ensures.2)
    ∙ ap (λ (y : Cached). y.leaf.entries) (sym (its c.args.hand.now c.in-Some.leaves c.in-Some.is
    c.args.leaf c.requires.1 x.own.at c.in-Some-find.slot c.in-Some-find.ensures
    c.leaf-own.ensures.0 c.leaf-own.ensures.1)) ∙ x.pending)

pub returns : goal.returns
returns g c parts slot x =
    let at = its c.args.hand.now c.in-Some.leaves c.in-Some.is c.args.leaf slot x.own.at
    c.in-Some-find.slot c.in-Some-find.ensures in
    let own = at c.leaf-own.ensures.0 c.leaf-own.ensures.1 in
    let one = c.in-Some-find.ensures.has in (
      (
        ap (λ (y : Cached). y.held) (at one.cached one.there)
            ∙ sym (c.is_held.ensures one.cached one.there) ∙ c.if-is_held.false,
        ap (λ (y : Cached). y.leaf.loaded) own ∙ ap (λ (y : Leaf). y.loaded) c.leaf-own.ensures.2
            ∙ sym c.is_loaded.ensures ∙ c.if-is_loaded.false,
        ap (λ (e : Entries). e.last) (same_entries c.entries.result c.in-Some-entries.entries
            x.entries c.in-Some-entries.is (c.entries.ensures
            ∙ ap (λ (y : Leaf). y.entries) (sym c.leaf-own.ensures.2)
            ∙ ap (λ (y : Cached). y.leaf.entries) (sym own) ∙ x.pending)),
      ),
      only_there c.args.hand.now c.in-Some.leaves c.in-Some.is c.args.leaf slot x.own.at
          c.in-Some-find.slot c.in-Some-find.ensures,
    )
