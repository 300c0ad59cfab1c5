-- One leaf of the tree that goes.
use Rattle.std.proofs.Common.{◌≡◌, inl, inr, ℕ, zero, suc, ◌<◌, ◌≤◌, List, [], ◌∷◌, drop, Some, sym, ap, ◌∙◌, subst, take, arith}
use Rattle.std.specs.Prelude.{Contains, slice_get}
use Rattle.std.proofs.lemmas.Option.{get_or_from_slice_get, slice_get_within}
use Rattle.bc_facts.proofs.Stood.{contains_in}
use Rattle.bc_meta.specs.Facts.{In}
use Rattle.bc_node.specs.Leaf.{Leaf}
use Rattle.bc_spine.proofs.Rows.{one_spans}
use Rattle.bc_spine.specs.Exchange.{going}
use Rattle.bc_spine.specs.Leaves.{AreLeaves, IsRow, Spans}
use Rattle.bc_spine.specs.declared.exchange.Exchange.{Exchange}
use Rattle.bc_spine.specs.declared.leaf.LeafRange.{LeafRange}
use Rattle.bc_tree.specs.Plan.{IsOfSpine}
use Rattle.bc_tree.specs.Spine.{Spine}

-- ---- a row

row_within : (a b : ℕ) (xs : List LeafRange) → IsRow a xs b → (x : LeafRange) → In x xs
    → (a ≤ x.from) × (x.from < x.end) × (x.end ≤ b)
row_within a b [] row x m = absurd m
row_within a b (y ∷ ys) (starts, some, more) x (inl here) =
    let from = ap (λ (l : LeafRange). l.from) here in
    let end = ap (λ (l : LeafRange). l.end) here in
    let last = row_ends y.end b ys more in
    (omega (arith, starts, from), omega (arith, starts, some, from, end), omega (arith, end, last))
  where
    row_ends : (a b : ℕ) (xs : List LeafRange) → IsRow a xs b → a ≤ b
    row_ends a b [] row = omega (arith, row)
    row_ends a b (y ∷ ys) (starts, some, more) =
        let rest = row_ends y.end b ys more in omega (arith, some, rest)
row_within a b (y ∷ ys) (starts, some, more) x (inr later) =
    let rest = row_within y.end b ys more x later in
    let low = rest.0 in (omega (arith, some, low), rest.1, rest.2)

-- ---- lists

pub at_in : {A : Type 0} (xs : List A) (i : ℕ) (x : A) → slice_get xs i ≡ Some x → Contains xs x
at_in xs i x there = (i, slice_get_within xs i x there, get_or_from_slice_get xs i x x there)

-- the one behind a place
one_behind : {A : Type 0} (xs : List A) (n : ℕ) (x : A) → In x (take 1 (drop n xs))
    → slice_get xs n ≡ Some x
one_behind [] zero x m = absurd m
one_behind [] (suc n) x m = absurd m
one_behind (y ∷ ys) zero x (inl here) = ap Some (sym here)
one_behind (y ∷ ys) zero x (inr later) = absurd later
one_behind (y ∷ ys) (suc n) x m = one_behind ys n x m

pub some_one : {A : Type 0} {a b : A} → Some a ≡ Some b → a ≡ b
some_one is = cc

pub one_goes : (leaves : List LeafRange) (e : Exchange) (place : ℕ) (old l : LeafRange)
    → e.place ≡ place → e.gone ≡ 1 → slice_get leaves place ≡ Some old
    → Contains (going leaves e) l → l ≡ old
one_goes leaves e place old l at one there m =
    let inside = contains_in (going leaves e) l m in
    let here = subst (λ n. In l (take n (drop e.place leaves))) one inside in
    let also = subst (λ n. In l (take 1 (drop n leaves))) at here in
    some_one (sym (one_behind leaves place l also) ∙ there)

-- ---- the leaf in hand

module _ (spine : Spine) (rows : AreLeaves spine.leaves spine.root.end) (leaf : Leaf)
    (range : LeafRange) (in_tree : Contains spine.leaves range) (from : leaf.from ≡ range.from)
    (end : leaf.end ≡ range.end) where
  its : (0 ≤ range.from) × (range.from < range.end) × (range.end ≤ spine.root.end)
  its = row_within 0 spine.root.end spine.leaves rows.row range
      (contains_in spine.leaves range in_tree)

  pub spans : Spans range leaf.from
  spans = let some = its.1 in (omega (arith, from), omega (arith, from, some))

  pub below_end : leaf.from < spine.root.end
  below_end = let some = its.1 in let last = its.2 in omega (arith, from, some, last)

  -- each leaf of its first sector is that
  pub same_range : (other : LeafRange) → Contains spine.leaves other → Spans other leaf.from
      → other ≡ range
  same_range other there low =
      one_spans 0 spine.root.end spine.leaves rows.row leaf.from other range there in_tree low spans

  pub of_spine : IsOfSpine spine leaf
  of_spine = record {
    within = below_end;
    range = λ i other there low. let same = same_range other (at_in spine.leaves i other there) low in
        (ap (λ (l : LeafRange). l.from) same ∙ sym from, ap (λ (l : LeafRange). l.end) same ∙ sym end);
  }
