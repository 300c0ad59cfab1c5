-- Which leaves of a tree go by a plan and which stay, and that its inner nodes have slots of their
-- own.
use Rattle.std.proofs.Common.{◌≡◌, ◌≢◌, ◌⊎◌, inl, inr, ℕ, zero, suc, ◌+◌, List, [], ◌∷◌, ◌++◌, take, drop, Some, refl, sym, subst, ap, ◌∙◌, arith}
use Rattle.std.specs.Prelude.{All, AllPairs, slice_get}
use Rattle.std.proofs.lemmas.Bool.{cases_lt}
use Rattle.std.proofs.lemmas.List.{drop-drop, take-append-drop}
use Rattle.bc_facts.proofs.Stood.{all_in, in_behind, in_contains, in_either, in_front}
use Rattle.bc_inner.specs.Inner.{Inner}
use Rattle.bc_key.specs.declared.key.Key.{Key}
use Rattle.bc_leaves.specs.Parts as parts
use Rattle.bc_nodes_known.specs.bc_machine.Containers.{IsSpineOf, IsTreeInner, inner_slot}
use Rattle.bc_meta.specs.Facts.{In}
use Rattle.bc_shares.specs.Shares.{inner_share}
use Rattle.bc_spine.specs.Exchange.{coming, going}
use Rattle.bc_spine.specs.Leaves.{HaveTwoNumbers}
use Rattle.bc_spine.specs.declared.leaf.LeafRange.{LeafRange}
use Rattle.bc_spine.proofs.Lists.{AllPairs-across, AllPairs-right}
use Rattle.bc_tree.specs.Next.{leaves_next}
use Rattle.bc_tree.specs.Plan.{Fits}
use Rattle.bc_tree.specs.Spine.{AreInRow, Covers, IsRootOf, NameNodes, Spine}
use Rattle.bc_tree.specs.declared.plan.Plan.{Plan}
use Rattle.bc_tree.proofs.Spines.{in_row}
use Rattle.bc_whole.specs.State.{Opening}
use Rattle.bc_change.specs.Ready.{IsTree}
use Rattle.bc_change.proofs.Lists.{get_in, nodes_rise}

-- ---- leaves

pub two_apart : (xs ys : List LeafRange) (x y : LeafRange) → AllPairs HaveTwoNumbers (xs ++ ys)
    → In x xs → In y ys → x.number ≢ y.number
two_apart xs ys x y pairs m n = all_in (HaveTwoNumbers x) ys y
    (all_in (λ z. All (HaveTwoNumbers z) ys) xs x (AllPairs-across HaveTwoNumbers xs ys pairs) m) n

module _ (sp : Spine) (plan : Plan) where
  abbrev goes : List LeafRange
  goes = going sp.leaves plan.leaves

  abbrev front : List LeafRange
  front = take plan.leaves.place sp.leaves

  abbrev behind : List LeafRange
  behind = drop (plan.leaves.place + plan.leaves.gone) sp.leaves

  all : front ++ (goes ++ behind) ≡ sp.leaves
  all =
      ap (λ (ys : List LeafRange). front ++ (goes ++ ys))
      (sym (drop-drop plan.leaves.gone plan.leaves.place sp.leaves))
      ∙ ap (λ (ys : List LeafRange). front ++ ys)
      (take-append-drop plan.leaves.gone (drop plan.leaves.place sp.leaves))
      ∙ take-append-drop plan.leaves.place sp.leaves

  pub leaf_goes : (l : LeafRange) → In l goes → In l sp.leaves
  leaf_goes l m = subst (λ (ls : List LeafRange). In l ls) all
      (in_behind l front (goes ++ behind) (in_front l goes behind m))

  front_in : (l : LeafRange) → In l front → In l sp.leaves
  front_in l m = subst (λ (ls : List LeafRange). In l ls) all (in_front l front (goes ++ behind) m)

  behind_in : (l : LeafRange) → In l behind → In l sp.leaves
  behind_in l m = subst (λ (ls : List LeafRange). In l ls) all
      (in_behind l front (goes ++ behind) (in_behind l goes behind m))

  -- a leaf goes, or it is in the tree that is made
  pub leaf_stays : (l : LeafRange) → In l sp.leaves
      → In l goes ⊎ In l (leaves_next sp.leaves plan.leaves)
  leaf_stays l m = elim (in_either l front (goes ++ behind)
      (subst (λ (ls : List LeafRange). In l ls) (sym all) m)) [
        | inl before ↦ inr (in_front l (front ++ coming plan.leaves) behind
            (in_front l front (coming plan.leaves) before))
        | inr more ↦ elim (in_either l goes behind more) [
          | inl gone ↦ inl gone
          | inr after ↦ inr (in_behind l (front ++ coming plan.leaves) behind after)
        ]
      ]

  pub leaf_comes : (l : LeafRange) → In l (coming plan.leaves)
      → In l (leaves_next sp.leaves plan.leaves)
  leaf_comes l m = in_front l (front ++ coming plan.leaves) behind
      (in_behind l front (coming plan.leaves) m)

  module _ (tree : IsTree sp) (fits : Fits sp plan) where
    pub comes_apart : (x y : LeafRange) → In x sp.leaves → In y (coming plan.leaves)
        → x.number ≢ y.number
    comes_apart x y m n = two_apart sp.leaves (coming plan.leaves) x y
        fits.leaves_fit.fits.numbers m n

    parts_apart : AllPairs HaveTwoNumbers (front ++ (goes ++ behind))
    parts_apart = subst (λ (ls : List LeafRange). AllPairs HaveTwoNumbers ls) (sym all)
        tree.leaves.numbers

    front_apart : (x y : LeafRange) → In x front → In y goes → x.number ≢ y.number
    front_apart x y m n = two_apart front (goes ++ behind) x y parts_apart m (in_front y goes behind n)

    behind_apart : (x y : LeafRange) → In x goes → In y behind → x.number ≢ y.number
    behind_apart x y m n = two_apart goes behind x y
        (AllPairs-right HaveTwoNumbers front (goes ++ behind) parts_apart) m n

    -- a leaf of the tree that is made comes, or it was there, with a number that none of those has
    -- that go
    pub leaf_next : (l : LeafRange) → In l (leaves_next sp.leaves plan.leaves)
        → In l (coming plan.leaves)
        ⊎ (In l sp.leaves × ((g : LeafRange) → In g goes → l.number ≢ g.number))
    leaf_next l m = elim (in_either l (front ++ coming plan.leaves) behind m) [
      | inl low ↦ elim (in_either l front (coming plan.leaves) low) [
        | inl before ↦ inr (front_in l before, λ g at. front_apart l g before at)
        | inr new ↦ inl new
      ]
      | inr after ↦ inr (behind_in l after, λ g at same. behind_apart g l at after (sym same))
    ]

-- ---- inner nodes

module _ (w : Opening) (st : parts.State) (sp : Spine) (tree : IsTree sp)
    (stands : IsSpineOf w st sp) where
  abbrev nodes : List Inner
  nodes = sp.root ∷ sp.below

  pub node_stands : (n : Inner) → In n nodes
      → IsTreeInner w st.change (inner_slot w n) n (inner_share st (inner_slot w n))
  node_stands n m = stands.nodes n (in_contains nodes n m)

  below_covers : (n : Inner) → In n sp.below → Covers n
  below_covers n m = all_in Covers sp.below n tree.spine_is.cover.1 m

  below_named : (below : List Inner) → sp.below ≡ below → (b : Inner) → In b below
      → NameNodes sp.root.from sp.root.children below × (sp.root.level ≡ 2)
  below_named [] at b m = absurd m
  below_named (x ∷ xs) at b m = let named = subst (λ (bs : List Inner). IsRootOf sp.root bs) at
      tree.spine_is.inner.root_of in (named.1, named.0)

  level_one : (from : ℕ) (ks : List Key) (ns : List Inner) (n : Inner) → NameNodes from ks ns
      → In n ns → n.level ≡ 1
  level_one from [] [] n names m = absurd m
  level_one from [] (x ∷ xs) n names m = absurd names
  level_one from (k ∷ ks) [] n names m = absurd names
  level_one from (k ∷ ks) (x ∷ xs) n names (inl here) = ap (λ (y : Inner). y.level) here ∙ names.0
  level_one from (k ∷ ks) (x ∷ xs) n names (inr later) = level_one k.end ks xs n names.4 later

  -- nodes of one slot begin at one sector, on one level
  one_site : (a b : Inner) → In a nodes → In b nodes → inner_slot w a ≡ inner_slot w b
      → (a.from ≡ b.from) × (a.level ≡ b.level)
  one_site a b m n same =
      let one = node_stands a m in
      let two = subst (λ k. IsTreeInner w st.change k b (inner_share st k)) (sym same)
      (node_stands b n) in (sym one.first ∙ two.first, sym one.level ∙ two.level)

  -- so two nodes at two places have two slots
  pub slots_apart : (i j : ℕ) (a b : Inner) → slice_get nodes i ≡ Some a → slice_get nodes j ≡ Some b
      → i ≢ j → inner_slot w a ≡ inner_slot w b → ⊥
  slots_apart i j a b at there other same = go i j at there other
      (one_site a b (get_in nodes i a at) (get_in nodes j b there) same)
    where
      is_some : (x y : Inner) → Some x ≡ Some y → y ≡ x
      is_some x y e = cc

      under : (k : ℕ) (x : Inner) → slice_get sp.below k ≡ Some x → (x.level ≡ 1) × (sp.root.level ≡ 2)
      under k x e = let m = get_in sp.below k x e in let named = below_named sp.below refl x m in
          (level_one sp.root.from sp.root.children sp.below x named.0 m, named.1)

      row : (k : ℕ) (x : Inner) → slice_get sp.below k ≡ Some x → AreInRow sp.root.from sp.below
      row k x e = (in_row sp.root.from sp.root.children sp.below
          (below_named sp.below refl x (get_in sp.below k x e)).0).0

      go : (k l : ℕ) → slice_get nodes k ≡ Some a → slice_get nodes l ≡ Some b → k ≢ l
          → (a.from ≡ b.from) × (a.level ≡ b.level) → ⊥
      go zero zero e f apart_ site = apart_ refl
      go zero (suc l) e f apart_ site =
          let low = under l b f in
          let high = ap (λ (x : Inner). x.level) (is_some sp.root a e) in
          let one = low.0 in let two = low.1 in let both = site.1 in
          omega (arith, one, two, both, high)
      go (suc k) zero e f apart_ site =
          let low = under k a e in
          let high = ap (λ (x : Inner). x.level) (is_some sp.root b f) in
          let one = low.0 in let two = low.1 in let both = site.1 in
          omega (arith, one, two, both, high)
      go (suc k) (suc l) e f apart_ site = elim (cases_lt k l) [
        | inl lt ↦ (let up = nodes_rise sp.root.from sp.below k l a b (row k a e) below_covers e f lt in
            let from = site.0 in omega (arith, up, from))
        | inr ge ↦ (let up = nodes_rise sp.root.from sp.below l k b a (row k a e) below_covers f e
            (omega (arith, ge, λ (x : k ≡ l). apart_ (ap suc x))) in
            let from = site.0 in omega (arith, up, from))
      ]
