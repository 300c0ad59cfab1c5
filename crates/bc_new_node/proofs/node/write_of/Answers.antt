use Rattle.std.proofs.Common.{◌∙◌, inl, inr, ap, refl, subst, sym, ◌<◌, ◌^◌}
use Rattle.bc_events.specs.declared.event.Written.TheVariants as written
use Rattle.bc_new_node.proofs.Brought.{apart, same_inner}
use Rattle.bc_new_node.specs.Kind.{inner_node, leaf_node}
use Rattle.bc_node.specs.Leaf.{pending_set}
use Rattle.bc_set.specs.Records.{set_sectors}
use Rattle.bc_new_node.proofs.node.write_of.Goals as goal

pub inner_named-requires-clause-length : goal.inner_named-requires-clause-length
inner_named-requires-clause-length c =
    (c.requires.small.inner c.in-Some.inner.now c.in-Some.ensures.some).0

pub inner_named-requires-clause-few : goal.inner_named-requires-clause-few
inner_named-requires-clause-few c =
    (c.requires.small.inner c.in-Some.inner.now c.in-Some.ensures.some).1

pub returns-in-Some : goal.returns-in-Some
returns-in-Some c = record {
  leaf = λ leaf is. absurd (apart c.args.plan.now c.args.node leaf c.in-Some.inner.now is
      c.in-Some.ensures.some);
  inner = λ n is. ap written.Inner (c.inner_named.ensures ∙ ap (inner_node c.args.bucket c.args.g.now)
      (same_inner c.args.plan.now c.args.node c.in-Some.inner.now n c.in-Some.ensures.some is));
}

pub leaf_named-requires-clause-few : goal.leaf_named-requires-clause-few
leaf_named-requires-clause-few c = elim c.requires.small.brings [
  | inl a ↦ subst (λ l. set_sectors c.args.g.now (pending_set l) < 2 ^ 32)
      (sym (c.leaf_of.ensures a.0 a.1)) (c.requires.small.leaf a.0 a.1)
  | inr b ↦ absurd (c.in_default.ensures.none refl b.0 b.1)
]

pub returns : goal.returns
returns c = record {
  leaf = λ leaf is. ap written.Leaf (c.leaf_named.ensures
      ∙ ap (leaf_node c.args.slot c.args.bucket c.args.g.now) (c.leaf_of.ensures leaf is));
  inner = λ n is. absurd (c.in_default.ensures.none refl n is);
}
