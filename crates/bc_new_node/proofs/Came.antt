-- What a write of a new node, and one that failed, leave alone of the core's state: all but one slot
-- that had no node, and one bucket that no node lay in.
use Rattle.std.proofs.Common.{◌≡◌, ◌≢◌, ◌⊎◌, inl, inr, ℕ, suc, ◌+◌, true, List, refl, sym, ap, ◌∙◌, subst}
use Rattle.std.specs.Prelude.{if◌then◌else◌}
use Rattle.bc_drafts.specs.Draft.{HasFirst}
use Rattle.bc_held.specs.bc_machine.Containers.{IsInTree, IsSpinePartOf}
use Rattle.bc_held.specs.bc_machine.declared.part.SpinePart.{SpinePart}
use Rattle.bc_known.specs.Acts as known
use Rattle.bc_known.specs.Acts.{FailCache, WriteCache}
use Rattle.bc_leaves.proofs.Chains.{put_else, put_there}
use Rattle.bc_leaves.specs.Enabled.{IsVacant}
use Rattle.bc_leaves.specs.Parts.{Draft, InnerNode, Leaf, NoNode, Role, inner_node_of, inner_owner, leaf_owner, node_of}
use Rattle.bc_leaves.specs.Parts as parts
use Rattle.bc_meta.proofs.Lists.{by_test}
use Rattle.bc_meta.specs.Records.{Node, loose_node, new_node}
use Rattle.bc_meta.specs.Tree.{NodeSet}
use Rattle.bc_model.specs.Sector.{Value}
use Rattle.bc_new_node.proofs.Standing.{first_of, part_then, share_by, tree_draft, tree_none}
use Rattle.bc_shares.specs.Shares.{shape_of}
use Rattle.bc_whole.specs.State as whole
use Rattle.bc_whole.specs.State.{OfInner, OfLeaf}

-- ---- what changed

-- a slot got a new node in this bucket
pub record IsNewIn (slot q k : ℕ) (old new : Role) (bucket : ℕ) : Type 0 where
  pub at : k ≡ slot
  pub none : old ≡ NoNode
  pub draft : new ≡ Draft
  pub there : bucket ≡ q

pub record OneCame (slot q : ℕ) (a b : known.State) : Type 0 where
  pub next : b.next_seq ≡ suc a.next_seq
  pub leaves : (k : ℕ) → (b.whole.parts.leaves k ≡ a.whole.parts.leaves k)
      ⊎ IsNewIn slot q k (a.whole.parts.leaves k).role (b.whole.parts.leaves k).role
      (b.whole.parts.leaves k).bucket
  pub inner_nodes : (k : ℕ) → (b.whole.parts.inner_nodes k ≡ a.whole.parts.inner_nodes k)
      ⊎ IsNewIn q q k (a.whole.parts.inner_nodes k).role (b.whole.parts.inner_nodes k).role
      (b.whole.parts.inner_nodes k).bucket
  pub nodes : (c : ℕ) → c ≢ q
      → b.whole.parts.records.nodes c ≡ a.whole.parts.records.nodes c
  pub unused : (c : ℕ) → c ≢ q
      → b.whole.parts.records.unused c ≡ a.whole.parts.records.unused c
  pub change : b.whole.parts.change ≡ a.whole.parts.change
  pub end : b.whole.parts.end ≡ a.whole.parts.end

draft_none : (r : Role) → r ≡ NoNode → r ≡ Draft → ⊥
draft_none r a b = let e : NoNode ≡ Draft = sym a ∙ b in cc

tree_some : (r : Role) → IsInTree r → r ≢ NoNode
tree_some r live none = tree_none r live none

draft_some : (r : Role) → r ≡ Draft → r ≢ NoNode
draft_some r draft none = draft_none r none draft

-- ---- what stays

module _ (slot q : ℕ) (a b : known.State) (c : OneCame slot q a b)
    (vacant : IsVacant a.whole.parts q) where
  -- the tree in hand
  pub came_spine : (w : whole.Opening) (p : SpinePart) → IsSpinePartOf w a p → p.changing ≡ true
      → IsSpinePartOf w b (record p { next_seq = p.next_seq + 1 })
  came_spine w p h changing = part_then w a b p h changing c.next
      (λ k live. elim (c.leaves k) [
        | inl same ↦ ap shape_of same
        | inr new ↦ absurd (tree_none _ live new.none)
      ])
      (λ k live. elim (c.leaves k) [
        | inl same ↦ subst (λ (l : Leaf). IsInTree l.role) same live
        | inr new ↦ absurd (tree_draft _ live new.draft)
      ])
      (λ k live. elim (c.inner_nodes k) [
        | inl same ↦ ap (λ (m : InnerNode). share_by m (b.whole.parts.records.nodes m.bucket)) same
            ∙ ap (share_by (a.whole.parts.inner_nodes k))
            (c.nodes (a.whole.parts.inner_nodes k).bucket (vacant.2 k (tree_some _ live)))
        | inr new ↦ absurd (tree_none _ live new.none)
      ])
      (λ k live. elim (c.inner_nodes k) [
        | inl same ↦ subst (λ (m : InnerNode). IsInTree m.role) same live
        | inr new ↦ absurd (tree_draft _ live new.draft)
      ])
      c.change c.end

  -- a bucket that no node lies in
  pub came_vacant : (r : ℕ) → r ≢ q → IsVacant a.whole.parts r → IsVacant b.whole.parts r
  came_vacant r ne v = (
    c.unused r ne ∙ v.0,
    λ k some at. elim (c.leaves k) [
      | inl same ↦ v.1 k (λ none. some (ap (λ (l : Leaf). l.role) same ∙ none))
          (sym (ap (λ (l : Leaf). l.bucket) same) ∙ at)
      | inr new ↦ ne (sym at ∙ new.there)
    ],
    λ k some at. elim (c.inner_nodes k) [
      | inl same ↦ v.2 k (λ none. some (ap (λ (m : InnerNode). m.role) same ∙ none))
          (sym (ap (λ (m : InnerNode). m.bucket) same) ∙ at)
      | inr new ↦ ne (sym at ∙ new.there)
    ],
  )

  -- a slot without a leaf, and one without an inner node
  pub came_no_leaf : (k : ℕ) → k ≢ slot → (a.whole.parts.leaves k).role ≡ NoNode
      → (b.whole.parts.leaves k).role ≡ NoNode
  came_no_leaf k ne none = elim (c.leaves k) [
    | inl same ↦ ap (λ (l : Leaf). l.role) same ∙ none
    | inr new ↦ absurd (ne new.at)
  ]

  pub came_no_inner : (k : ℕ) → k ≢ q → (a.whole.parts.inner_nodes k).role ≡ NoNode
      → (b.whole.parts.inner_nodes k).role ≡ NoNode
  came_no_inner k ne none = elim (c.inner_nodes k) [
    | inl same ↦ ap (λ (m : InnerNode). m.role) same ∙ none
    | inr new ↦ absurd (ne new.at)
  ]

  -- a draft, with its node
  pub came_leaf : (P : Node → Type 0) (k : ℕ) (l : Leaf) → l.role ≡ Draft
      → a.whole.parts.leaves k ≡ l → P (node_of a.whole.parts k)
      → (b.whole.parts.leaves k ≡ l) × P (node_of b.whole.parts k)
  came_leaf P k l draft is node =
      let its : (a.whole.parts.leaves k).role ≡ Draft = ap (λ (x : Leaf). x.role) is ∙ draft in
      elim (c.leaves k) [
        | inl same ↦ (
          same ∙ is,
          subst P (sym (ap (λ (x : Leaf). b.whole.parts.records.nodes x.bucket) same
              ∙ c.nodes (a.whole.parts.leaves k).bucket (vacant.1 k (draft_some _ its)))) node,
        )
        | inr new ↦ absurd (draft_none _ new.none its)
      ]

  pub came_inner : (P : Node → Type 0) (k : ℕ) (m : InnerNode) → m.role ≡ Draft
      → a.whole.parts.inner_nodes k ≡ m → P (inner_node_of a.whole.parts k)
      → (b.whole.parts.inner_nodes k ≡ m) × P (inner_node_of b.whole.parts k)
  came_inner P k m draft is node =
      let its : (a.whole.parts.inner_nodes k).role ≡ Draft
      = ap (λ (x : InnerNode). x.role) is ∙ draft in
      elim (c.inner_nodes k) [
        | inl same ↦ (
          same ∙ is,
          subst P (sym (ap (λ (x : InnerNode). b.whole.parts.records.nodes x.bucket) same
              ∙ c.nodes (a.whole.parts.inner_nodes k).bucket (vacant.2 k (draft_some _ its)))) node,
        )
        | inr new ↦ absurd (draft_none _ new.none its)
      ]

-- ---- a leaf

module _ (w : whole.Opening) (a : known.State) (i slot : ℕ) (leaf : Leaf) (set : NodeSet)
    (values : List Value) where
  abbrev old : parts.State
  old = a.whole.parts

  pub leaf_came : leaf.role ≡ Draft → (old.leaves slot).role ≡ NoNode
      → OneCame slot leaf.bucket a (known.after w a i (WriteCache (OfLeaf slot leaf set) values))
  leaf_came draft free = record {
    next = refl;
    leaves = λ k. by_test k slot (λ t. ((if t then leaf else old.leaves k) ≡ old.leaves k)
        ⊎ IsNewIn slot leaf.bucket k (old.leaves k).role (if t then leaf else old.leaves k).role
        (if t then leaf else old.leaves k).bucket)
        (λ same. inr (record {
          at = same;
          none = ap (λ j. (old.leaves j).role) same ∙ free;
          draft = draft;
          there = refl;
        }))
        (λ ne. inl refl);
    inner_nodes = λ k. inl refl;
    nodes = λ c ne. put_else old.records.nodes leaf.bucket (new_node (leaf_owner leaf) set) c ne;
    unused = λ c ne. refl;
    change = refl;
    end = refl;
  }

  pub leaf_failed : OneCame slot leaf.bucket a
      (known.after w a i (FailCache (OfLeaf slot leaf set) values))
  leaf_failed = record {
    next = refl;
    leaves = λ k. inl refl;
    inner_nodes = λ k. inl refl;
    nodes = λ c ne. put_else old.records.nodes leaf.bucket loose_node c ne;
    unused = λ c ne. refl;
    change = refl;
    end = refl;
  }

  abbrev after_leaf : parts.State
  after_leaf = (known.after w a i (WriteCache (OfLeaf slot leaf set) values)).whole.parts

  pub leaf_is : after_leaf.leaves slot ≡ leaf
  leaf_is = put_there old.leaves slot leaf

  pub leaf_node_is : HasFirst set (node_of after_leaf slot)
  leaf_node_is = subst (HasFirst set)
      (sym (ap (λ (l : Leaf). after_leaf.records.nodes l.bucket) leaf_is
      ∙ put_there old.records.nodes leaf.bucket (new_node (leaf_owner leaf) set)))
      (first_of (leaf_owner leaf) set)

-- ---- an inner node

module _ (w : whole.Opening) (a : known.State) (i slot : ℕ) (n : InnerNode) (set : NodeSet)
    (values : List Value) where
  abbrev was : parts.State
  was = a.whole.parts

  pub inner_came : slot ≡ n.bucket → n.role ≡ Draft → (was.inner_nodes slot).role ≡ NoNode
      → (k : ℕ) → OneCame k n.bucket a (known.after w a i (WriteCache (OfInner slot n set) values))
  inner_came its draft free k = record {
    next = refl;
    leaves = λ j. inl refl;
    inner_nodes = λ j. by_test j slot (λ t. ((if t then n else was.inner_nodes j)
        ≡ was.inner_nodes j)
        ⊎ IsNewIn n.bucket n.bucket j (was.inner_nodes j).role
        (if t then n else was.inner_nodes j).role (if t then n else was.inner_nodes j).bucket)
        (λ same. inr (record {
          at = same ∙ its;
          none = ap (λ x. (was.inner_nodes x).role) same ∙ free;
          draft = draft;
          there = refl;
        }))
        (λ ne. inl refl);
    nodes = λ c ne. put_else was.records.nodes n.bucket (new_node (inner_owner n) set) c ne;
    unused = λ c ne. refl;
    change = refl;
    end = refl;
  }

  pub inner_failed : (k : ℕ) → OneCame k n.bucket a
      (known.after w a i (FailCache (OfInner slot n set) values))
  inner_failed k = record {
    next = refl;
    leaves = λ j. inl refl;
    inner_nodes = λ j. inl refl;
    nodes = λ c ne. put_else was.records.nodes n.bucket loose_node c ne;
    unused = λ c ne. refl;
    change = refl;
    end = refl;
  }

  abbrev after_inner : parts.State
  after_inner = (known.after w a i (WriteCache (OfInner slot n set) values)).whole.parts

  pub inner_is : after_inner.inner_nodes slot ≡ n
  inner_is = put_there was.inner_nodes slot n

  pub inner_node_is : HasFirst set (inner_node_of after_inner slot)
  inner_node_is = subst (HasFirst set)
      (sym (ap (λ (m : InnerNode). after_inner.records.nodes m.bucket) inner_is
      ∙ put_there was.records.nodes n.bucket (new_node (inner_owner n) set)))
      (first_of (inner_owner n) set)
