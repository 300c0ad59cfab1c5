-- What becomes of the nodes beside one that changes.
use Rattle.std.proofs.Common.{◌≡◌, ℕ, zero, suc, ◌+◌, List, [], ◌∷◌, ◌++◌, length, set, take, drop, Some, refl, sym, ap, ◌∙◌, arith}
use Rattle.std.specs.Prelude.{slice_get}
use Rattle.std.specs.List.{insert, remove}
use Rattle.bc_inner.specs.Inner.{Inner}
use Rattle.bc_tree.specs.Next.{below_next, beside_next, node_next, nodes_next}
use Rattle.bc_tree.specs.Same.{SameNodes}
use Rattle.bc_tree.specs.declared.beside.Beside.{Beside}
use Rattle.bc_tree.specs.declared.beside.Beside.TheVariants.{Comes, Goes, Moves, Stays, Under}
use Rattle.bc_tree.specs.declared.change.NodeChange.{NodeChange}
use Rattle.bc_tree.proofs.Groups.{spliced}
use Rattle.bc_tree.proofs.Same.{same_node, same_nodes, take_same}

-- ---- the same nodes

append_same : (xs ys vs ws : List Inner) → SameNodes xs ys → SameNodes vs ws → SameNodes (xs ++ vs) (ys ++ ws)
append_same [] [] vs ws one two = two
append_same [] (y ∷ ys) vs ws one two = absurd one
append_same (x ∷ xs) [] vs ws one two = absurd one
append_same (x ∷ xs) (y ∷ ys) vs ws one two = (one.0, append_same xs ys vs ws one.1 two)

drop_same : (n : ℕ) (xs ys : List Inner) → SameNodes xs ys → SameNodes (drop n xs) (drop n ys)
drop_same zero xs ys same = same
drop_same (suc n) [] [] same = tt
drop_same (suc n) [] (y ∷ ys) same = absurd same
drop_same (suc n) (x ∷ xs) [] same = absurd same
drop_same (suc n) (x ∷ xs) (y ∷ ys) same = drop_same n xs ys same.1

set_same : (n : ℕ) (xs ys : List Inner) (node : Inner) → SameNodes xs ys → SameNodes (set xs n node) (set ys n node)
set_same n [] [] node same = tt
set_same n [] (y ∷ ys) node same = absurd same
set_same n (x ∷ xs) [] node same = absurd same
set_same zero (x ∷ xs) (y ∷ ys) node same = (same_node node, same.1)
set_same (suc n) (x ∷ xs) (y ∷ ys) node same = (same.0, set_same n xs ys node same.1)

pub beside_same : (xs ys : List Inner) (place : ℕ) (beside : Beside) → SameNodes xs ys → SameNodes (beside_next xs place beside) (beside_next ys place beside)
beside_same xs ys place Stays same = same
beside_same xs ys place (Comes node) same = append_same (take (place + 1) xs) (take (place + 1) ys) (node ∷ drop (place + 1) xs) (node ∷ drop (place + 1) ys) (take_same (place + 1) xs ys same) (same_node node, drop_same (place + 1) xs ys same)
beside_same xs ys place (Moves node) same = set_same (place + 1) xs ys node same
beside_same xs ys place Goes same = append_same (take (place + 1) xs) (take (place + 1) ys) (drop (suc (place + 1)) xs) (drop (suc (place + 1)) ys) (take_same (place + 1) xs ys same) (drop_same (suc (place + 1)) xs ys same)
beside_same xs ys place (Under low high) same = same_nodes (low ∷ high ∷ [])

-- ---- nodes in the place of others

pub comes_is : (nodes : List Inner) (place : ℕ) (node other : Inner) (change : NodeChange) → slice_get nodes place ≡ Some node
    → below_next nodes place change (Comes other) ≡ spliced nodes place 1 (node_next node change ∷ other ∷ [])
comes_is [] place node other change there = absurd (cc)
comes_is (m ∷ nodes) zero node other change there = let same : m ≡ node = cc in ap (λ (n : Inner). node_next n change ∷ other ∷ nodes) same
comes_is (m ∷ nodes) (suc place) node other change there =
    let e : suc place + 1 ≡ suc (place + 1) = omega arith in
    let new = node_next node change ∷ other ∷ [] in
    ap (λ n. insert (m ∷ nodes_next nodes place change) n other) e ∙ ap (λ ns. m ∷ ns) (comes_is nodes place node other change there) ∙ ap (λ n. (take (suc place) (m ∷ nodes) ++ new) ++ drop n (m ∷ nodes)) (sym e)

pub moves_is : (nodes : List Inner) (place : ℕ) (node next other : Inner) (change : NodeChange) → slice_get nodes place ≡ Some node → slice_get nodes (place + 1) ≡ Some next
    → below_next nodes place change (Moves other) ≡ spliced nodes place 2 (node_next node change ∷ other ∷ [])
moves_is [] place node next other change there behind = absurd (cc)
moves_is (m ∷ []) zero node next other change there behind = absurd (cc)
moves_is (m ∷ (k ∷ nodes)) zero node next other change there behind = let same : m ≡ node = cc in ap (λ (n : Inner). node_next n change ∷ other ∷ nodes) same
moves_is (m ∷ nodes) (suc place) node next other change there behind =
    let e : suc place + 1 ≡ suc (place + 1) = omega arith in
    let f : suc place + 2 ≡ suc (place + 2) = omega arith in
    let new = node_next node change ∷ other ∷ [] in
    ap (λ n. set (m ∷ nodes_next nodes place change) n other) e ∙ ap (λ ns. m ∷ ns) (moves_is nodes place node next other change there (ap (λ n. slice_get (m ∷ nodes) n) (sym e) ∙ behind))
    ∙ ap (λ n. (take (suc place) (m ∷ nodes) ++ new) ++ drop n (m ∷ nodes)) (sym f)

pub goes_is : (nodes : List Inner) (place : ℕ) (node : Inner) (change : NodeChange) → slice_get nodes place ≡ Some node → below_next nodes place change Goes ≡ spliced nodes place 2 (node_next node change ∷ [])
goes_is [] place node change there = absurd (cc)
goes_is (m ∷ []) zero node change there = let same : m ≡ node = cc in ap (λ (n : Inner). node_next n change ∷ []) same
goes_is (m ∷ (k ∷ nodes)) zero node change there = let same : m ≡ node = cc in ap (λ (n : Inner). node_next n change ∷ nodes) same
goes_is (m ∷ nodes) (suc place) node change there =
    let e : suc place + 1 ≡ suc (place + 1) = omega arith in
    let f : suc place + 2 ≡ suc (place + 2) = omega arith in
    let new = node_next node change ∷ [] in
    ap (λ n. remove (m ∷ nodes_next nodes place change) n) e ∙ ap (λ ns. m ∷ ns) (goes_is nodes place node change there) ∙ ap (λ n. (take (suc place) (m ∷ nodes) ++ new) ++ drop n (m ∷ nodes)) (sym f)

pub next_long : (nodes : List Inner) (place : ℕ) (change : NodeChange) → length (nodes_next nodes place change) ≡ length nodes
next_long [] place change = refl
next_long (m ∷ nodes) zero change = refl
next_long (m ∷ nodes) (suc place) change = ap suc (next_long nodes place change)
