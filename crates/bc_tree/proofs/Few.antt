-- How many buckets a change may take.
use Rattle.std.proofs.Common.{◌≡◌, inl, inr, ℕ, ◌+◌, ◌≤◌, Option, Some, None, refl, sym, subst, arith}
use Rattle.std.specs.Prelude.{IfSome, nat_lt}
use Rattle.std.proofs.lemmas.Bool.{cases_Bool}
use Rattle.bc_inner.specs.Inner.{Inner}
use Rattle.bc_node.specs.Leaf.{Leaf}
use Rattle.bc_tree.specs.Laws.{AreFew}
use Rattle.bc_tree.specs.Needs.{across_needs, become_one, can_merge, fits_node, halved_needs, inside_needs, is_low, merge_needs, needs, rewrite_needs, split_needs, takes_set, with_parent, with_root, words}
use Rattle.bc_tree.specs.Spine.{Spine}
use Rattle.bc_tree.specs.declared.needs.Needs.{Needs}
use Rattle.bc_tree.proofs.Choices.{merge_across, merge_inside, merge_none, rewrite_moves, rewrite_set, split_halves, split_moves, split_set}

few : (tree moving t m : ℕ) → t ≤ tree → m ≤ moving → AreFew tree moving (needs t m)
few tree moving t m one two = record { tree_few = one; moving_few = two }

root_few : (s : Spine) (set tree moving m : ℕ) → moving + 1 ≤ m → AreFew tree m (with_root s set tree moving)
root_few s set tree moving m room = elim (cases_Bool (takes_set s.geometry s.root set 0)) [
  | inl is ↦ (let at : with_root s set tree moving ≡ needs tree moving = rw is refl in subst (AreFew tree m) (sym at) (few tree m tree moving (omega arith) (omega (arith, room))))
  | inr is ↦ (let at : with_root s set tree moving ≡ needs tree (moving + 1) = rw is refl in subst (AreFew tree m) (sym at) (few tree m tree (moving + 1) (omega arith) room))
]

parent_few : (s : Spine) (tree moving m : ℕ) → moving + 2 ≤ m → AreFew tree m (with_parent s tree moving)
parent_few s tree moving m room = elim (cases_Bool (is_low s)) [
  | inl is ↦ (let at : with_parent s tree moving ≡ needs tree (moving + 1) = rw is refl in subst (AreFew tree m) (sym at) (few tree m tree (moving + 1) (omega arith) (omega (arith, room))))
  | inr is ↦ (let at : with_parent s tree moving ≡ with_root s 3 tree (moving + 1) = rw is refl in subst (AreFew tree m) (sym at) (root_few s 3 tree (moving + 1) m (omega (arith, room))))
]

pub rewrite_few : (s : Spine) (p : Inner) → AreFew 0 3 (rewrite_needs s p)
rewrite_few s p = elim (cases_Bool (takes_set s.geometry p 3 0)) [
  | inl is ↦ subst (AreFew 0 3) (rewrite_set s p is) (few 0 3 0 1 (omega arith) (omega arith))
  | inr is ↦ subst (AreFew 0 3) (rewrite_moves s p is) (parent_few s 0 1 3 (omega arith))
]

more_few : (t m tree moving : ℕ) (n : Needs) → t ≤ tree → m ≤ moving → AreFew t m n → AreFew tree moving n
more_few t m tree moving n one two few = record { tree_few = omega (arith, one, few.tree_few); moving_few = omega (arith, two, few.moving_few) }

halved_few : (s : Spine) → IfSome (halved_needs s) (AreFew 5 2)
halved_few s = elim (cases_Bool (is_low s)) [
  | inl low ↦ (let at : halved_needs s ≡ Some (needs 5 0) = rw low refl in subst (λ (o : Option Needs). IfSome o (AreFew 5 2)) (sym at) (few 5 2 5 0 (omega arith) (omega arith)))
  | inr high ↦ elim (cases_Bool (takes_set s.geometry s.root 6 3)) [
    | inl set ↦ (let at : halved_needs s ≡ Some (needs 4 0) = rw (high, set) refl in subst (λ (o : Option Needs). IfSome o (AreFew 5 2)) (sym at) (few 5 2 4 0 (omega arith) (omega arith)))
    | inr moves ↦ elim (cases_Bool (fits_node s.geometry (words s.root.children + 3))) [
      | inl fits ↦ (let at : halved_needs s ≡ Some (needs 4 1) = rw (high, moves, fits) refl in subst (λ (o : Option Needs). IfSome o (AreFew 5 2)) (sym at) (few 5 2 4 1 (omega arith) (omega arith)))
      | inr full ↦ (let at : halved_needs s ≡ None = rw (high, moves, full) refl in subst (λ (o : Option Needs). IfSome o (AreFew 5 2)) (sym at) tt)
    ]
  ]
]

pub split_few : (s : Spine) (p : Inner) → IfSome (split_needs s p) (AreFew 5 2)
split_few s p = elim (cases_Bool (takes_set s.geometry p 6 3)) [
  | inl is ↦ subst (λ (o : Option Needs). IfSome o (AreFew 5 2)) (split_set s p is) (few 5 2 2 0 (omega arith) (omega arith))
  | inr is ↦ elim (cases_Bool (fits_node s.geometry (words p.children + 3))) [
    | inl fits ↦ subst (λ (o : Option Needs). IfSome o (AreFew 5 2)) (split_moves s p is fits) (more_few 2 2 5 2 (with_parent s 2 0) (omega arith) (omega arith) (parent_few s 2 0 2 (omega arith)))
    | inr full ↦ subst (λ (o : Option Needs). IfSome o (AreFew 5 2)) (split_halves s p is full) (halved_few s)
  ]
]

inside_few : (s : Spine) (p : Inner) → AreFew 0 4 (inside_needs s p)
inside_few s p = elim (cases_Bool (takes_set s.geometry p 5 0)) [
  | inl is ↦ (let at : inside_needs s p ≡ needs 0 1 = rw is refl in subst (AreFew 0 4) (sym at) (few 0 4 0 1 (omega arith) (omega arith)))
  | inr is ↦ (let at : inside_needs s p ≡ with_parent s 0 1 = rw is refl in subst (AreFew 0 4) (sym at) (parent_few s 0 1 4 (omega arith)))
]

across_few : (s : Spine) (p o : Inner) → AreFew 0 4 (across_needs s p o)
across_few s p o = elim (cases_Bool (become_one s.geometry p o)) [
  | inl is ↦ (let at : across_needs s p o ≡ with_root s 5 0 2 = rw is refl in subst (AreFew 0 4) (sym at) (root_few s 5 0 2 4 (omega arith)))
  | inr is ↦ (let at : across_needs s p o ≡ with_root s 8 0 3 = rw is refl in subst (AreFew 0 4) (sym at) (root_few s 8 0 3 4 (omega arith)))
]

pub merge_few : (s : Spine) (l r : Leaf) (p o : Inner) → IfSome (merge_needs s l r p o) (AreFew 0 4)
merge_few s l r p o = elim (cases_Bool (can_merge s.geometry l r)) [
  | inr apart ↦ subst (λ (n : Option Needs). IfSome n (AreFew 0 4)) (merge_none s l r p o apart) tt
  | inl can ↦ elim (cases_Bool (nat_lt r.from p.end)) [
    | inl inside ↦ subst (λ (n : Option Needs). IfSome n (AreFew 0 4)) (merge_inside s l r p o can inside) (inside_few s p)
    | inr outside ↦ subst (λ (n : Option Needs). IfSome n (AreFew 0 4)) (merge_across s l r p o can outside) (across_few s p o)
  ]
]
