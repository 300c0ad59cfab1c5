-- Lists of leaves and of inner nodes.
use Rattle.std.proofs.Common.{◌≡◌, inl, inr, ℕ, zero, suc, ◌<◌, ◌≤◌, Bool, true, false, List, [], ◌∷◌, ◌++◌, take, drop, Some, refl, sym, subst, ap, ◌∙◌, arith}
use Rattle.std.specs.Prelude.{map, slice_get}
use Rattle.bc_inner.specs.Inner.{Inner}
use Rattle.bc_leaves.specs.After.{has}
use Rattle.bc_leaves.specs.Parts as parts
use Rattle.bc_leaves.specs.Rows.{Row}
use Rattle.bc_leaves.proofs.Chains.{in_has}
use Rattle.bc_meta.specs.Facts.{In}
use Rattle.bc_spine.specs.Leaves.{IsRow}
use Rattle.bc_spine.specs.declared.leaf.LeafRange.{LeafRange}
use Rattle.bc_tree.specs.Spine.{AreInRow, Covers}
use Rattle.bc_tree.proofs.Places.{spans_some}
use Rattle.bc_change.specs.Goes.{numbers}

-- ---- membership

pub map_in : {A B : Type 0} (f : A → B) (xs : List A) (x : A) → In x xs → In (f x) (map f xs)
map_in f [] x m = absurd m
map_in f (y ∷ ys) x (inl here) = inl (ap f here)
map_in f (y ∷ ys) x (inr later) = inr (map_in f ys x later)

pub in_map : {A B : Type 0} (f : A → B) (xs : List A) (y : B) → In y (map f xs)
    → (x : A) × In x xs × (f x ≡ y)
in_map f [] y m = absurd m
in_map f (x ∷ xs) y (inl here) = (x, inl refl, sym here)
in_map f (x ∷ xs) y (inr later) = let one = in_map f xs y later in (one.0, inr one.1, one.2)

pub has_not : (is : List ℕ) (k : ℕ) → (In k is → ⊥) → has is k ≡ false
has_not is k out = go (has is k) refl
  where
    go : (b : Bool) → has is k ≡ b → b ≡ false
    go true at = absurd (out (in_has is k at))
    go false at = refl

pub none_behind : {A : Type 0} (xs : List A) (x : A) → In x (xs ++ []) → In x xs
none_behind [] x m = absurd m
none_behind (y ∷ ys) x (inl here) = inl here
none_behind (y ∷ ys) x (inr later) = inr (none_behind ys x later)

pub get_in : {A : Type 0} (xs : List A) (i : ℕ) (x : A) → slice_get xs i ≡ Some x → In x xs
get_in [] zero x e = absurd (cc)
get_in [] (suc i) x e = absurd (cc)
get_in (y ∷ ys) zero x e = inl (some_is y x e)
  where
    some_is : {A : Type 0} (a b : A) → Some a ≡ Some b → b ≡ a
    some_is a b same = cc
get_in (y ∷ ys) (suc i) x e = inr (get_in ys i x e)

pub in_get : {A : Type 0} (xs : List A) (x : A) → In x xs → (i : ℕ) × (slice_get xs i ≡ Some x)
in_get [] x m = absurd m
in_get (y ∷ ys) x (inl here) = (zero, ap Some (sym here))
in_get (y ∷ ys) x (inr later) = let one = in_get ys x later in (suc one.0, one.1)

-- the first one behind a place
pub first_behind : {A : Type 0} (xs : List A) (n : ℕ) (x : A) → In x (take 1 (drop n xs))
    → slice_get xs n ≡ Some x
first_behind [] zero x m = absurd m
first_behind [] (suc n) x m = absurd m
first_behind (y ∷ ys) zero x (inl here) = ap Some (sym here)
first_behind (y ∷ ys) zero x (inr later) = absurd later
first_behind (y ∷ ys) (suc n) x m = first_behind ys n x m

-- ---- leaves in a row

pub row_known : (leaves : ℕ → parts.Leaf) (a : ℕ) (ls : List LeafRange) (b : ℕ) → IsRow a ls b
    → ((l : LeafRange) → In l ls → ((leaves l.number).first ≡ l.from) × ((leaves l.number).end ≡ l.end))
    → Row leaves a (numbers ls) b
row_known leaves a [] b row known = row
row_known leaves a (l ∷ ls) b row known =
    let one = known l (inl refl) in (
      one.0 ∙ row.0,
      subst (λ e. a < e) (sym one.1) row.1,
      subst (λ e. Row leaves e (numbers ls) b) (sym one.1)
          (row_known leaves l.end ls b row.2 (λ m at. known m (inr at))),
    )

pub row_rises : (a : ℕ) (ls : List LeafRange) (b : ℕ) → IsRow a ls b → a ≤ b
row_rises a [] b row = omega (arith, row)
row_rises a (l ∷ ls) b row =
    let rest = row_rises l.end ls b row.2 in let some = row.1 in omega (arith, rest, some)

pub row_ends : (a : ℕ) (ls : List LeafRange) (b : ℕ) (l : LeafRange) → IsRow a ls b → In l ls
    → l.end ≤ b
row_ends a [] b l row m = absurd m
row_ends a (k ∷ ls) b l row (inl here) =
    let rest = row_rises k.end ls b row.2 in
    let same = ap (λ (x : LeafRange). x.end) here in omega (arith, rest, same)
row_ends a (k ∷ ls) b l row (inr later) = row_ends k.end ls b l row.2 later

-- its end is where the last one ends
pub row_last : (a : ℕ) (l : LeafRange) (ls : List LeafRange) (b : ℕ) → IsRow a (l ∷ ls) b
    → (m : LeafRange) × In m (l ∷ ls) × (m.end ≡ b)
row_last a l [] b row = (l, inl refl, row.2)
row_last a l (k ∷ ks) b row =
    let one = row_last l.end k ks b row.2 in (one.0, inr one.1, one.2)

-- ---- inner nodes in a row

pub nodes_above : (a : ℕ) (nodes : List Inner) (i : ℕ) (x : Inner) → AreInRow a nodes
    → ((n : Inner) → In n nodes → Covers n) → slice_get nodes i ≡ Some x → a ≤ x.from
nodes_above a [] zero x row covers e = absurd (cc)
nodes_above a [] (suc i) x row covers e = absurd (cc)
nodes_above a (n ∷ ns) zero x row covers e =
    let same = some_from n x e in let from = row.0 in omega (arith, same, from)
  where
    some_from : (b c : Inner) → Some b ≡ Some c → b.from ≡ c.from
    some_from b c same = cc
nodes_above a (n ∷ ns) (suc i) x row covers e =
    let rest = nodes_above n.end ns i x row.1 (λ m at. covers m (inr at)) e in
    let some = spans_some n (covers n (inl refl)) in
    let from = row.0 in omega (arith, rest, some, from)

-- a later one begins later
pub nodes_rise : (a : ℕ) (nodes : List Inner) (i j : ℕ) (x y : Inner) → AreInRow a nodes
    → ((n : Inner) → In n nodes → Covers n) → slice_get nodes i ≡ Some x
    → slice_get nodes j ≡ Some y → i < j → x.from < y.from
nodes_rise a [] zero j x y row covers e f lt = absurd (cc)
nodes_rise a [] (suc i) j x y row covers e f lt = absurd (cc)
nodes_rise a (n ∷ ns) i zero x y row covers e f lt = absurd (omega (arith, lt))
nodes_rise a (n ∷ ns) zero (suc j) x y row covers e f lt =
    let later = nodes_above n.end ns j y row.1 (λ m at. covers m (inr at)) f in
    let some = spans_some n (covers n (inl refl)) in
    let same = some_from n x e in omega (arith, later, some, same)
  where
    some_from : (b c : Inner) → Some b ≡ Some c → b.from ≡ c.from
    some_from b c same = cc
nodes_rise a (n ∷ ns) (suc i) (suc j) x y row covers e f lt =
    nodes_rise n.end ns i j x y row.1 (λ m at. covers m (inr at)) e f (omega (arith, lt))
