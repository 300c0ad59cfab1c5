-- What the tree in hand stands for behind a new node that was written, and what the seat knows of its
-- slot then.
use Rattle.std.proofs.Common.{◌≡◌, inl, ℕ, suc, ◌+◌, true, false, refl, sym, ◌∙◌, subst, arith}
use Rattle.bc_drafts.specs.Draft.{HasFirst}
use Rattle.bc_held.specs.bc_machine.Containers.{IsInTree, IsSpineOf, IsSpinePartOf, IsTreeInner, IsTreeLeaf, inner_slot}
use Rattle.bc_held.specs.bc_machine.declared.part.SpinePart.{SpinePart}
use Rattle.bc_known.specs.Acts as known
use Rattle.bc_known.specs.Acts.{FailCache, WriteCache}
use Rattle.bc_leaves.specs.Parts.{Draft, Free, InnerNode, Leaving, Coming, NoNode, Role}
use Rattle.bc_meta.specs.Records.{Node, new_node}
use Rattle.bc_meta.specs.Tree.{NodeSet, Owner}
use Rattle.bc_shares.specs.Shares.{InnerShare, inner_share, node_share, shape_of}
use Rattle.bc_whole.specs.State as whole
use Rattle.bc_whole.specs.State.{OfInner, OfLeaf}

-- ---- the node itself

-- a first set that was sent, and whose write didn't fail
pub first_of : (o : Owner) (set : NodeSet) → HasFirst set (new_node o set)
first_of o set = record {
  sets = refl;
  written = record { some = λ e. cc; whole = refl; sent = inl refl };
}

-- ---- the tree

pub tree_none : (r : Role) → IsInTree r → r ≡ NoNode → ⊥
tree_none NoNode live is = live
tree_none Draft live is = live
tree_none Free live is = cc
tree_none Leaving live is = cc
tree_none Coming live is = live

pub tree_draft : (r : Role) → IsInTree r → r ≡ Draft → ⊥
tree_draft NoNode live is = live
tree_draft Draft live is = live
tree_draft Free live is = cc
tree_draft Leaving live is = cc
tree_draft Coming live is = live

abbrev pub share_by : InnerNode → Node → InnerShare
share_by n x = record { inner = n; node = node_share x }

module _ (w : whole.Opening) (a b : known.State) (p : SpinePart) (h : IsSpinePartOf w a p)
    (changing : p.changing ≡ true) (next : b.next_seq ≡ suc a.next_seq)
    (leaves : (k : ℕ) → IsInTree (a.whole.parts.leaves k).role
    → shape_of (b.whole.parts.leaves k) ≡ shape_of (a.whole.parts.leaves k))
    (only : (k : ℕ) → IsInTree (b.whole.parts.leaves k).role → IsInTree (a.whole.parts.leaves k).role)
    (inner : (y : ℕ) → IsInTree (a.whole.parts.inner_nodes y).role
    → inner_share b.whole.parts y ≡ inner_share a.whole.parts y)
    (only_inner : (y : ℕ) → IsInTree (b.whole.parts.inner_nodes y).role
    → IsInTree (a.whole.parts.inner_nodes y).role)
    (change : b.whole.parts.change ≡ a.whole.parts.change)
    (end : b.whole.parts.end ≡ a.whole.parts.end) where
  abbrev numbered : SpinePart
  numbered = record p { next_seq = p.next_seq + 1 }

  spine_then : IsSpineOf w b.whole.parts p.spine
  spine_then = record {
    leaves = λ l in'. subst (IsTreeLeaf w l.from l.end l.ptr)
        (sym (leaves l.number (h.spine.leaves l in').role)) (h.spine.leaves l in');
    all_leaves = λ k live. h.spine.all_leaves k (only k live);
    nodes = λ n in'. let one = h.spine.nodes n in' in
        subst (λ c. IsTreeInner w c (inner_slot w n) n (inner_share b.whole.parts (inner_slot w n)))
        (sym change)
        (subst (λ (s : InnerShare). IsTreeInner w a.whole.parts.change (inner_slot w n) n s)
        (sym (inner (inner_slot w n) one.role)) one);
    all_nodes = λ y live. h.spine.all_nodes y (only_inner y live);
    end = end ∙ h.spine.end;
  }

  true_false : true ≡ false → ⊥
  true_false e = cc

  pub part_then : IsSpinePartOf w b numbered
  part_then = record {
    spine = spine_then;
    next_seq = let was = h.next_seq in omega (arith, was, next);
    rest = λ off. absurd (true_false (sym changing ∙ off));
  }
