-- What an install makes of the index is allowed.
use Rattle.std.proofs.Common.{◌≡◌, ◌⊎◌, inl, inr, ℕ, zero, suc, ◌<◌, ◌≤◌, ◌^◌, Bool, true, false, List, [], ◌∷◌, refl, sym, ap, ◌∙◌, subst, arith, if◌then◌else◌, ◌&&◌}
use Rattle.std.specs.Prelude.{nat_le, nat_lt}
use Rattle.std.proofs.lemmas.Bool.{cases_lt, lt-ltb, le-ltb}
use Rattle.bc_books.specs.Enabled.{CanRegroup}
use Rattle.bc_books.specs.Index.{Index}
use Rattle.bc_meta.specs.Facts.{In}
use Rattle.bc_meta.specs.Tree.{Child, children_of}
use Rattle.bc_meta.proofs.Lists.{by_le, by_test}
use Rattle.bc_leaves.specs.Parts.{Role, NoNode, Draft, Free, Leaving, Coming, Leaf, InRange, IsLive}
use Rattle.bc_leaves.specs.Parts as parts
use Rattle.bc_leaves.specs.After.{has}
use Rattle.bc_leaves.specs.Fits.{Fits}
use Rattle.bc_leaves.specs.Rows.{Below, ChildRow}
use Rattle.bc_leaves.proofs.Chains.{has_in, in_has, row_find, row_in}
use Rattle.bc_events.specs.Changes.{changed_for, greatest, leaf_among}
use Rattle.bc_events.specs.declared.event.Change.{Change}
use Rattle.bc_looks.specs.bc_machine.Containers.{IsInTree}
use Rattle.bc_nodes_known.specs.Nodes.{IsWholeChange}

-- ---- each sector of the tree is in a leaf

-- one of these children has it
record HasChild (P : ℕ → ℕ → ℕ → ℕ → Type 0) (s : ℕ) : Type 0 where
  bucket : ℕ
  word : ℕ
  first : ℕ
  end : ℕ
  is : P bucket word first end
  low : first ≤ s
  high : s < end

child_at : (P : ℕ → ℕ → ℕ → ℕ → Type 0) (a : ℕ) (ks : List Child) (b s : ℕ) → ChildRow P a ks b
    → a ≤ s → s < b → HasChild P s
child_at P a [] b s row low high = absurd (omega (arith, row, low, high))
child_at P a (k ∷ ks) b s row low high = go (child_at P k.end ks b s row.2)
  where
    go : (k.end ≤ s → s < b → HasChild P s) → HasChild P s
    go later = by_le k.end s (λ _. HasChild P s) (λ far. later far high) (λ near. record {
      bucket = k.bucket;
      word = k.word;
      first = a;
      end = k.end;
      is = row.1;
      low = low;
      high = near;
    })

-- a leaf of the tree has it, or one that comes
record HasLeaf (p : parts.State) (s : ℕ) : Type 0 where
  leaf : ℕ
  live : IsLive (p.leaves leaf).role
  within : InRange (p.leaves leaf) s

module _ (p : parts.State) (fits : Fits p) (s : ℕ) where
  leaf_below : (h x : ℕ) → IsLive (p.inner_nodes x).role → (p.inner_nodes x).height ≡ h
      → (p.inner_nodes x).first ≤ s → s < (p.inner_nodes x).end → HasLeaf p s
  leaf_below zero x live is low high =
      let n = p.inner_nodes x in
      let one = child_at (Below p.leaves p.inner_nodes IsLive 0) n.first
      (children_of (p.records.nodes n.bucket).sets) n.end s
      (subst (λ h. ChildRow (Below p.leaves p.inner_nodes IsLive h) n.first
      (children_of (p.records.nodes n.bucket).sets) n.end) is (fits.tree.inner x live).now) low high in
      let below = one.is in
      let first = below.3 in
      let end = below.4 in
      let from = one.low in
      let to = one.high in record {
        leaf = below.0;
        live = below.1;
        within = (omega (arith, first, from), omega (arith, end, to));
      }
  leaf_below (suc h) x live is low high =
      let n = p.inner_nodes x in
      let one = child_at (Below p.leaves p.inner_nodes IsLive (suc h)) n.first
      (children_of (p.records.nodes n.bucket).sets) n.end s
      (subst (λ m. ChildRow (Below p.leaves p.inner_nodes IsLive m) n.first
      (children_of (p.records.nodes n.bucket).sets) n.end) is (fits.tree.inner x live).now) low high in
      let below = one.is in
      let first = below.4 in
      let end = below.5 in
      let from = one.low in
      let to = one.high in
      leaf_below h below.0 below.1 below.2 (omega (arith, first, from)) (omega (arith, end, to))

  some_leaf : s < p.end → HasLeaf p s
  some_leaf high =
      let root = fits.roots.newest in
      let first = root.4 in
      let end = root.5 in
      leaf_below (p.inner_nodes root.0).height root.0 root.1 refl (omega (arith, first))
      (omega (arith, end, high))

-- ---- counts

module _ (changed : ℕ → ℕ) where
  greatest_above : (is : List ℕ) (k : ℕ) → In k is → changed k ≤ greatest changed is
  greatest_above [] k m = absurd m
  greatest_above (i ∷ is) k (inl here) =
      let same = ap changed here in
      omega (arith, same)
  greatest_above (i ∷ is) k (inr later) =
      let low = greatest_above is k later in
      omega (arith, low)

  greatest_below : (is : List ℕ) (n : ℕ) → ((k : ℕ) → changed k ≤ n) → greatest changed is ≤ n
  greatest_below [] n low = omega arith
  greatest_below (i ∷ is) n low =
      let rest = greatest_below is n low in
      let here = low i in
      omega (arith, rest, here)

  changed_in : (is : List ℕ) (n k : ℕ) → In k is → changed_for changed is n k ≡ n
  changed_in [] n k m = absurd m
  changed_in (i ∷ is) n k m = by_test k i
      (λ b. (if b then n else changed_for changed is n k) ≡ n) (λ _. refl) (λ other. elim m [
        | inl here ↦ absurd (other here)
        | inr later ↦ changed_in is n k later
      ])

  changed_out : (is : List ℕ) (n k : ℕ) → (In k is → ⊥) → changed_for changed is n k ≡ changed k
  changed_out [] n k out = refl
  changed_out (i ∷ is) n k out = by_test k i
      (λ b. (if b then n else changed_for changed is n k) ≡ changed k)
      (λ here. absurd (out (inl here))) (λ _. changed_out is n k (λ m. out (inr m)))

is_in : (is : List ℕ) (k : ℕ) → In k is ⊎ (In k is → ⊥)
is_in is k = go (has is k) refl
  where
    go : (b : Bool) → has is k ≡ b → In k is ⊎ (In k is → ⊥)
    go true at = inl (in_has is k at)
    go false at = inr (λ m. absurd (let on = has_in is k m in cc))

-- ---- the leaf that gets a sector

by_lt : (a b : ℕ) (P : Bool → Type 0) → (a < b → P true) → (b ≤ a → P false) → P (nat_lt a b)
by_lt a b P below above = go (cases_lt a b)
  where
    go : (a < b) ⊎ (b ≤ a) → P (nat_lt a b)
    go (inl lt) = subst P (sym (lt-ltb a b lt)) (below lt)
    go (inr ge) = subst P (sym (le-ltb a b ge)) (above ge)

-- from a up to b
by_within : (a b s : ℕ) (P : Bool → Type 0) → (a ≤ s → s < b → P true)
    → ((a ≤ s → s < b → ⊥) → P false) → P (nat_le a s && nat_lt s b)
by_within a b s P yes_ no_ = by_le a s (λ t. P (t && nat_lt s b))
    (λ low. by_lt s b P (λ high. yes_ low high)
    (λ far. no_ (λ _ high. absurd (omega (arith, far, high)))))
    (λ far. no_ (λ low _. absurd (omega (arith, far, low))))

-- one of these that has it, or where it was, as none has it
pub record IsAmong (leaves : ℕ → Leaf) (is : List ℕ) (s k : ℕ) : Type 0 where
  pub one : In k is
  pub within : InRange (leaves k) s

pub among : (leaves : ℕ → Leaf) (is : List ℕ) (old s : ℕ)
    → IsAmong leaves is s (leaf_among leaves is old s)
    ⊎ ((leaf_among leaves is old s ≡ old) × ((k : ℕ) → In k is → InRange (leaves k) s → ⊥))
among leaves [] old s = inr (refl, λ k m. absurd m)
among leaves (i ∷ is) old s = by_within (leaves i).first (leaves i).end s
    (λ b. IsAmong leaves (i ∷ is) s (if b then i else leaf_among leaves is old s)
    ⊎ (((if b then i else leaf_among leaves is old s) ≡ old)
    × ((k : ℕ) → In k (i ∷ is) → InRange (leaves k) s → ⊥)))
    (λ low high. inl (record { one = inl refl; within = (low, high) }))
    (λ out. elim (among leaves is old s) [
      | inl later ↦ inl (record { one = inr later.one; within = later.within })
      | inr none ↦ inr (
        none.0,
        λ k m within. elim m [
          | inl here ↦ (let at = subst (λ n. InRange (leaves n) s) here within in out at.0 at.1)
          | inr later ↦ none.1 k later within
        ],
      )
    ])

-- ---- the install

leaving_tree : (r : Role) → r ≡ Leaving → IsInTree r
leaving_tree r is = subst IsInTree (sym is) tt

coming_no_tree : (r : Role) → r ≡ Coming → IsInTree r → ⊥
coming_no_tree r is tree = subst IsInTree is tree

-- of a node that lives, one that doesn't come is the tree's
live_tree : (r : Role) → IsLive r → (r ≡ Coming) ⊎ IsInTree r
live_tree NoNode live = absurd live
live_tree Draft live = absurd live
live_tree Free live = inr tt
live_tree Leaving live = inr tt
live_tree Coming live = inl refl

module _ (p : parts.State) (fits : Fits p) (x : Index) (c : Change) (h : IsWholeChange p c)
    (counted : (l : ℕ) → x.changed l ≤ x.count)
    (slots : (k s : ℕ) → IsInTree (p.leaves k).role → InRange (p.leaves k) s → x.leaf s ≡ k)
    (beyond : (s : ℕ) → p.end ≤ s → 2 ^ 32 ≤ x.leaf s) where
  abbrev most : ℕ
  most = greatest x.changed c.gone.items

  most_known : most ≤ x.count
  most_known = greatest_below x.changed c.gone.items x.count counted

  -- where a leaf comes, one leaves
  old_known : (s : ℕ) → c.low ≤ s → s < c.high → x.changed (x.leaf s) ≤ most
  old_known s low high =
      let one = row_find p.leaves c.low c.gone.items c.high s h.old low high in
      let at = slots one.0 s (leaving_tree (p.leaves one.0).role (h.leave one.0 one.1)) one.2 in
      subst (λ k. x.changed k ≤ most) (sym at) (greatest_above x.changed c.gone.items one.0 one.1)

  -- a sector that no leaf gets which comes isn't in one
  elsewhere : (s : ℕ) → ((k : ℕ) → In k c.come.items → InRange (p.leaves k) s → ⊥)
      → In (x.leaf s) c.come.items → ⊥
  elsewhere s none m =
      let comes = h.names.only (x.leaf s) (has_in c.come.items (x.leaf s) m) in
      by_le p.end s (λ _. ⊥)
      (λ far. let high = beyond s far in let low = h.slots (x.leaf s) m in
      absurd (omega (arith, high, low)))
      (λ near. let one = some_leaf p fits s near in elim (live_tree (p.leaves one.leaf).role one.live) [
        | inl coming ↦ none one.leaf (in_has c.come.items one.leaf (h.names.come one.leaf coming)) one.within
        | inr tree ↦ coming_no_tree (p.leaves one.leaf).role
            (ap (λ k. (p.leaves k).role) (sym (slots one.leaf s tree one.within)) ∙ comes) tree
      ])

  pub regrouped : CanRegroup x (λ s. leaf_among p.leaves c.come.items (x.leaf s) s)
      (changed_for x.changed c.come.items most) (λ s. nat_le c.low s && nat_lt s c.high) most
  regrouped = record {
    later = λ s. elim (among p.leaves c.come.items (x.leaf s) s) [
      | inl new ↦ (
          let k = leaf_among p.leaves c.come.items (x.leaf s) s in
          let inside = row_in p.leaves c.low c.come.items c.high k h.new new.one in
          let from = inside.0 in
          let to = inside.1 in
          let low = new.within.0 in
          let high = new.within.1 in
          subst (λ n. x.changed (x.leaf s) ≤ n)
          (sym (changed_in x.changed c.come.items most k new.one))
          (old_known s (omega (arith, from, low)) (omega (arith, to, high))))
      | inr old ↦ (
          let same = ap (changed_for x.changed c.come.items most) old.0
          ∙ changed_out x.changed c.come.items most (x.leaf s) (elsewhere s old.1) in
          omega (arith, same))
    ];
    known = λ l. elim (is_in c.come.items l) [
      | inl m ↦ (let same = changed_in x.changed c.come.items most l m in let low = most_known in
          omega (arith, same, low))
      | inr out ↦ (let same = changed_out x.changed c.come.items most l out in let low = counted l in
          omega (arith, same, low))
    ];
    waits = λ s. by_within c.low c.high s (λ b. b ≡ true
        → changed_for x.changed c.come.items most (leaf_among p.leaves c.come.items (x.leaf s) s)
        ≤ most) (λ low high _. elim (among p.leaves c.come.items (x.leaf s) s) [
          | inl new ↦ (
              let same = changed_in x.changed c.come.items most
              (leaf_among p.leaves c.come.items (x.leaf s) s) new.one in
              omega (arith, same))
          | inr old ↦ (
              let one = row_find p.leaves c.low c.come.items c.high s h.new low high in
              absurd (old.1 one.0 one.1 one.2))
        ]) (λ _ off. absurd (cc));
    last_known = most_known;
  }
