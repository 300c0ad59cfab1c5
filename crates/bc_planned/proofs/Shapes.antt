-- What is told apart by cases.
use Rattle.std.proofs.Common.{◌≡◌, ℕ, ◌+◌, ◌<◌, Bool, true, false, List, [], ◌∷◌, ◌++◌, Option, None, Some, refl, ap, ◌∙◌}
use Rattle.std.specs.Prelude.{◌%◌, ◌^◌, is_some}
use Rattle.std.proofs.Math.Nat.{mod-eq_of_lt}
use Rattle.bc_inner.specs.Inner.{Inner}
use Rattle.bc_node.specs.Leaf.{Leaf}
use Rattle.bc_plan.specs.declared.write.NewNode.{NewNode}
use Rattle.bc_plan.specs.declared.write.NewNode.TheVariants.{Behind, First, Lowest, Parent, Root, Second}
use Rattle.bc_planned.specs.Nodes.{are_under, comes_behind, is_moved, nodes_by, nodes_of, top_is_moved, when}
use Rattle.bc_tree.specs.declared.beside.Beside.{Beside}
use Rattle.bc_tree.specs.declared.beside.Beside.TheVariants.{Comes, Stays, Under}
use Rattle.bc_tree.specs.declared.change.NodeChange.{NodeChange}
use Rattle.bc_tree.specs.declared.change.NodeChange.TheVariants.{Move, Set}
use Rattle.bc_tree.specs.declared.plan.Plan.{Plan}

pub one : {A : Type 0} {a b : A} → Some a ≡ Some b → a ≡ b
one is = cc

pub none_some : {A : Type 0} {a : A} → None ≡ Some a → ⊥
none_some is = cc

pub moved_one : {a b : Inner} → Move a ≡ Move b → a ≡ b
moved_one is = cc

pub set_moved : {ks : List _} {a : Inner} → Set ks ≡ Move a → ⊥
set_moved is = cc

-- numbers that don't come to their end
pub counts_on : (n k m : ℕ) → n ≡ m → m + k < 2 ^ 64 → (n + k) % 2 ^ 64 ≡ m + k
counts_on n k m same few = ap (λ x. (x + k) % 2 ^ 64) same ∙ mod-eq_of_lt few

-- ---- which nodes there are

abbrev pub tail : NodeChange → Option NodeChange → List NewNode
tail b t = when (is_moved b) Parent ++ when (top_is_moved t) Root

fronts : (p r : Bool) → nodes_by false false p false r ≡ First ∷ (when p Parent ++ when r Root)
fronts true true = refl
fronts true false = refl
fronts false true = refl
fronts false false = refl

two_fronts : (p r : Bool)
    → nodes_by true false p false r ≡ First ∷ Second ∷ (when p Parent ++ when r Root)
two_fronts true true = refl
two_fronts true false = refl
two_fronts false true = refl
two_fronts false false = refl

regrouped : (r : Bool)
    → nodes_by true false true true r ≡ First ∷ Second ∷ Parent ∷ Behind ∷ when r Root
regrouped true = refl
regrouped false = refl

by_second : (p : Plan) (s : Option Leaf) → p.second ≡ s → nodes_of p ≡ nodes_by (is_some s)
    (are_under p.beside) (is_moved p.bottom) (comes_behind p.beside) (top_is_moved p.top)
by_second p s is = ap (λ (x : Option Leaf). nodes_by (is_some x) (are_under p.beside)
    (is_moved p.bottom) (comes_behind p.beside) (top_is_moved p.top)) is

by_beside : (p : Plan) (s : Bool) (b : Beside) → p.beside ≡ b
    → nodes_by s (are_under p.beside) (is_moved p.bottom) (comes_behind p.beside)
    (top_is_moved p.top)
    ≡ nodes_by s (are_under b) (is_moved p.bottom) (comes_behind b) (top_is_moved p.top)
by_beside p s b is = ap (λ (x : Beside). nodes_by s (are_under x) (is_moved p.bottom)
    (comes_behind x) (top_is_moved p.top)) is

pub nodes_moved : (p : Plan) → p.second ≡ None → p.beside ≡ Stays
    → nodes_of p ≡ First ∷ tail p.bottom p.top
nodes_moved p alone stays = by_second p None alone ∙ by_beside p false Stays stays
    ∙ fronts (is_moved p.bottom) (top_is_moved p.top)

pub nodes_split : (p : Plan) (high : Leaf) → p.second ≡ Some high → p.beside ≡ Stays
    → nodes_of p ≡ First ∷ Second ∷ tail p.bottom p.top
nodes_split p high two stays = by_second p (Some high) two ∙ by_beside p true Stays stays
    ∙ two_fronts (is_moved p.bottom) (top_is_moved p.top)

pub nodes_raised : (p : Plan) (leaf : Leaf) (low high root : Inner) → p.second ≡ Some leaf
    → p.beside ≡ Under low high → p.bottom ≡ Move root → p.top ≡ None
    → nodes_of p ≡ First ∷ Second ∷ Lowest ∷ Behind ∷ Parent ∷ []
nodes_raised p leaf low high root two under moves none = by_second p (Some leaf) two
    ∙ by_beside p true (Under low high) under
    ∙ ap (λ (x : NodeChange). nodes_by true true (is_moved x) false (top_is_moved p.top)) moves
    ∙ ap (λ (x : Option NodeChange). nodes_by true true true false (top_is_moved x)) none

pub nodes_regrouped : (p : Plan) (leaf : Leaf) (low high : Inner) → p.second ≡ Some leaf
    → p.beside ≡ Comes high → p.bottom ≡ Move low
    → nodes_of p ≡ First ∷ Second ∷ Parent ∷ Behind ∷ when (top_is_moved p.top) Root
nodes_regrouped p leaf low high two comes moves = by_second p (Some leaf) two
    ∙ by_beside p true (Comes high) comes
    ∙ ap (λ (x : NodeChange). nodes_by true false (is_moved x) true (top_is_moved p.top)) moves
    ∙ regrouped (top_is_moved p.top)
