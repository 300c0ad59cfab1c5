use Rattle.std.proofs.Common.{Some, refl, sym, ap, ◌∙◌, subst}
use Rattle.std.specs.Prelude.{MatchBool}
use Rattle.bc_bypass.specs.Backed.{AreBacked, HasDirty}
use Rattle.bc_cache.specs.declared.slots.Cached.{Cached}
use Rattle.bc_node.specs.Leaf.{Leaf}
use Rattle.bc_write_back.proofs.Hands.{is_there, same_cached}
use Rattle.bc_bypass.proofs.backed.are_backed_in.Goals as goal

pub unreachable-requires-in_default-find : goal.unreachable-requires-in_default-find
unreachable-requires-in_default-find g c =
    let (parts, three) = c.requires.three in
    is_there c.args.hand.now c.args.number c.in-Some.leaves c.in-Some.is parts c.args.first
    c.args.count three c.in_default-find.ensures

pub returns : goal.returns
returns g c parts three = subst (λ (x : Leaf). MatchBool c.are_backed.result
    (AreBacked x c.args.first c.args.count) (HasDirty x c.args.first c.args.count))
    (sym (ap (λ (x : Cached). x.leaf) (same_cached c.args.hand.now c.args.number c.in-Some.leaves
    c.in-Some.is parts c.args.first c.args.count three c.in-Some-find.slot
    c.in-Some-find.ensures (Some c.leaf.ensures.0) c.leaf.ensures.0 c.leaf.ensures.1 refl)
    ∙ c.leaf.ensures.2)) c.are_backed.ensures
