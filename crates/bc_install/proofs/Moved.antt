-- The inner nodes of a tree whose changed nodes all moved, up to a new root, or of which one took a
-- set.
use Rattle.std.proofs.Common.{◌≡◌, ◌⊎◌, inl, inr, ℕ, ◌+◌, List, [], ◌∷◌, ◌++◌, length, Option, Some, None, refl, sym, subst}
use Rattle.bc_change.specs.Goes.{BringsBy, beside_come, top_moved}
use Rattle.bc_change.proofs.Lists.{get_in, in_get}
use Rattle.bc_change.proofs.Nexts.{IsSet, IsTopSet, TakesAt, inserted, next_at, removed, set_in}
use Rattle.bc_facts.proofs.Stood.{in_behind}
use Rattle.bc_inner.specs.Inner.{Inner}
use Rattle.bc_key.specs.declared.key.Key.{Key}
use Rattle.bc_meta.specs.Facts.{In}
use Rattle.bc_parent_set.specs.Takes.{TakesAlone}
use Rattle.bc_tree.specs.Next.{below_next, beside_next, nodes_next, root_next}
use Rattle.bc_tree.specs.Same.{SameNode, SameNodes}
use Rattle.bc_tree.specs.declared.beside.Beside.{Beside}
use Rattle.bc_tree.specs.declared.beside.Beside.TheVariants.{Comes, Goes, Moves, Stays, Under}
use Rattle.bc_tree.specs.declared.change.NodeChange.{NodeChange}
use Rattle.bc_tree.specs.declared.change.NodeChange.TheVariants.{Move, Set}

-- ---- no node takes a set

pub record AllMove (b : NodeChange) (top : Option NodeChange) : Type 0 where
  pub node : Inner
  pub is : b ≡ Move node
  pub up : (top ≡ None) ⊎ ((t : Inner) × (top ≡ Some (Move t)))

pub all_move : (below : List Inner) (b : NodeChange) (top : Option NodeChange) (root : Inner)
    → BringsBy below b top root → (length below ≡ 0 → top ≡ None) → AllMove b top
all_move [] (Set keys) top root h alone = absurd h
all_move [] (Move n) top root h alone = record { node = n; is = refl; up = inl (alone refl) }
all_move (x ∷ xs) (Set keys) top root h alone = absurd h
all_move (x ∷ xs) (Move n) None root h alone = absurd h
all_move (x ∷ xs) (Move n) (Some (Set keys)) root h alone = absurd h
all_move (x ∷ xs) (Move n) (Some (Move t)) root h alone =
    record { node = n; is = refl; up = inr (t, refl) }

pub root_is : (old : Inner) (below : List Inner) (b : NodeChange) (top : Option NodeChange)
    (root : Inner) → BringsBy below b top root → root_next old below b top ≡ root
root_is old [] (Set keys) top root h = absurd h
root_is old [] (Move n) top root h = sym h
root_is old (x ∷ xs) (Set keys) top root h = absurd h
root_is old (x ∷ xs) (Move n) None root h = absurd h
root_is old (x ∷ xs) (Move n) (Some (Set keys)) root h = absurd h
root_is old (x ∷ xs) (Move n) (Some (Move t)) root h = sym h

no_set : (b : NodeChange) (n : Inner) → b ≡ Move n → IsSet b → ⊥
no_set b n is set = subst IsSet is set

no_top : (top : Option NodeChange) → (top ≡ None) ⊎ ((t : Inner) × (top ≡ Some (Move t)))
    → IsTopSet top → ⊥
no_top top (inl none) set = subst IsTopSet none set
no_top top (inr some) set = subst IsTopSet some.1 set

pub none_takes : (below : List Inner) (place : ℕ) (b : NodeChange) (top : Option NodeChange) (at : ℕ)
    → AllMove b top → TakesAt below place b top at → ⊥
none_takes [] place b top at move takes = no_set b move.node move.is takes
none_takes (x ∷ xs) place b top at move (inl low) = no_set b move.node move.is low.0
none_takes (x ∷ xs) place b top at move (inr high) = no_top top move.up high.0

-- ---- a node of the tree that is made comes, or it was there as it is

nodes_in : (xs : List Inner) (place : ℕ) (m n : Inner) → In n (nodes_next xs place (Move m))
    → (n ≡ m) ⊎ In n xs
nodes_in xs place m n at =
    let one = in_get (nodes_next xs place (Move m)) n at in
    elim (next_at xs place (Move m) one.0 n one.1) [
      | inl here ↦ inl here.1.2
      | inr other ↦ inr (get_in xs one.0 n other.1)
    ]

beside_in : (xs : List Inner) (p : ℕ) (s : Beside) (n : Inner) → In n (beside_next xs p s)
    → In n xs ⊎ In n (beside_come s)
beside_in xs p Stays n m = inl m
beside_in xs p (Comes x) n m = elim (inserted xs (p + 1) x n m) [
  | inl new ↦ inr (inl new)
  | inr old ↦ inl old
]
beside_in xs p (Moves x) n m = elim (set_in xs (p + 1) x n m) [
  | inl new ↦ inr (inl new)
  | inr old ↦ inl (get_in xs old.0 n old.2)
]
beside_in xs p Goes n m = let one = removed xs (p + 1) n m in inl (get_in xs one.0 n one.2)
beside_in xs p (Under low high) n m = inr m

abbrev pub IsNewOf : Inner → Option NodeChange → Beside → Inner → Type 0
IsNewOf b top beside n = In n (b ∷ (top_moved top ++ beside_come beside))

root_in : (root : Inner) (below : List Inner) (b : Inner) (top : Option NodeChange)
    (beside : Beside) (n : Inner) → (top ≡ None) ⊎ ((t : Inner) × (top ≡ Some (Move t)))
    → n ≡ root_next root below (Move b) top
    → IsNewOf b top beside n ⊎ In n (root ∷ below)
root_in root [] b top beside n up is = inl (inl is)
root_in root (x ∷ xs) b None beside n up is = inr (inl is)
root_in root (x ∷ xs) b (Some (Move t)) beside n up is = inl (inr (inl is))
root_in root (x ∷ xs) b (Some (Set keys)) beside n (inl none) is = absurd (cc)
root_in root (x ∷ xs) b (Some (Set keys)) beside n (inr some) is =
    absurd (no_top (Some (Set keys)) (inr some) tt)

pub next_same : (root : Inner) (below : List Inner) (place : ℕ) (b : Inner)
    (top : Option NodeChange) (beside : Beside)
    → (top ≡ None) ⊎ ((t : Inner) × (top ≡ Some (Move t))) → (n : Inner)
    → In n (root_next root below (Move b) top ∷ below_next below place (Move b) beside)
    → IsNewOf b top beside n ⊎ In n (root ∷ below)
next_same root below place b top beside up n (inl here) =
    root_in root below b top beside n up here
next_same root below place b top beside up n (inr later) =
    elim (beside_in (nodes_next below place (Move b)) place beside n later) [
      | inl low ↦ elim (nodes_in below place b n low) [
        | inl new ↦ inl (inl new)
        | inr old ↦ inr (inr old)
      ]
      | inr next ↦ inl (inr (in_behind n (top_moved top) (beside_come beside) next))
    ]

-- ---- but for room

pub same_in : (xs ys : List Inner) (y : Inner) → SameNodes xs ys → In y ys
    → (x : Inner) × In x xs × SameNode x y
same_in [] [] y same m = absurd m
same_in [] (b ∷ bs) y same m = absurd same
same_in (a ∷ more) [] y same m = absurd m
same_in (a ∷ more) (b ∷ bs) y same (inl here) =
    (a, inl refl, subst (λ (z : Inner). SameNode a z) (sym here) same.0)
same_in (a ∷ more) (b ∷ bs) y same (inr later) =
    let one = same_in more bs y same.1 later in (one.0, inr one.1, one.2)

pub in_same : (xs ys : List Inner) (x : Inner) → SameNodes xs ys → In x xs
    → (y : Inner) × In y ys × SameNode x y
in_same [] [] x same m = absurd m
in_same [] (b ∷ bs) x same m = absurd same
in_same (a ∷ more) [] x same m = absurd same
in_same (a ∷ more) (b ∷ bs) x same (inl here) =
    (b, inl refl, subst (λ (z : Inner). SameNode z b) (sym here) same.0)
in_same (a ∷ more) (b ∷ bs) x same (inr later) =
    let one = in_same more bs x same.1 later in (one.0, inr one.1, one.2)

-- ---- where a node takes a set

-- the root stands where it stood
pub root_stays : (root : Inner) (below : List Inner) (place : ℕ) (b : NodeChange)
    (top : Option NodeChange) (at : ℕ) (put : List Key) → TakesAlone below place b top at put
    → (root_next root below b top).ptr ≡ root.ptr
root_stays root [] place (Set keys) None at put h = refl
root_stays root [] place (Set keys) (Some x) at put h = absurd h
root_stays root [] place (Move n) top at put h = absurd h
root_stays root (x ∷ xs) place (Set keys) None at put h = refl
root_stays root (x ∷ xs) place (Set keys) (Some y) at put h = absurd h
root_stays root (x ∷ xs) place (Move n) None at put h = absurd h
root_stays root (x ∷ xs) place (Move n) (Some (Set keys)) at put h = refl
root_stays root (x ∷ xs) place (Move n) (Some (Move t)) at put h = absurd h
