-- What is needed, by each test.
use Rattle.std.proofs.Common.{◌≡◌, ◌+◌, Bool, true, false, Some, None, refl, sym, ap, ◌∙◌}
use Rattle.std.specs.Prelude.{nat_lt}
use Rattle.bc_inner.specs.Inner.{Inner}
use Rattle.bc_node.specs.Leaf.{Leaf}
use Rattle.bc_tree.specs.Needs.{across_needs, can_merge, fits_node, halved_needs, inside_needs, merge_needs, needs, rewrite_needs, split_needs, takes_set, with_parent, words}
use Rattle.bc_tree.specs.Spine.{Spine}

pub test : {A : Type 0} (f : A → Bool) (a b : A) (r is : Bool) → a ≡ b → r ≡ f a → r ≡ is → f b ≡ is
test f a b r is same told known = ap f (sym same) ∙ sym told ∙ known

pub rewrite_set : (s : Spine) (p : Inner) → takes_set s.geometry p 3 0 ≡ true → needs 0 1 ≡ rewrite_needs s p
rewrite_set s p is = rw is refl

pub rewrite_moves : (s : Spine) (p : Inner) → takes_set s.geometry p 3 0 ≡ false → with_parent s 0 1 ≡ rewrite_needs s p
rewrite_moves s p is = rw is refl

pub split_set : (s : Spine) (p : Inner) → takes_set s.geometry p 6 3 ≡ true → Some (needs 2 0) ≡ split_needs s p
split_set s p is = rw is refl

pub split_moves : (s : Spine) (p : Inner) → takes_set s.geometry p 6 3 ≡ false → fits_node s.geometry (words p.children + 3) ≡ true → Some (with_parent s 2 0) ≡ split_needs s p
split_moves s p is fits = rw (is, fits) refl

pub split_halves : (s : Spine) (p : Inner) → takes_set s.geometry p 6 3 ≡ false → fits_node s.geometry (words p.children + 3) ≡ false → halved_needs s ≡ split_needs s p
split_halves s p is fits = rw (is, fits) refl

pub merge_none : (s : Spine) (l r : Leaf) (p o : Inner) → can_merge s.geometry l r ≡ false → None ≡ merge_needs s l r p o
merge_none s l r p o is = rw is refl

pub merge_inside : (s : Spine) (l r : Leaf) (p o : Inner) → can_merge s.geometry l r ≡ true → nat_lt r.from p.end ≡ true → Some (inside_needs s p) ≡ merge_needs s l r p o
merge_inside s l r p o is inside = rw (is, inside) refl

pub merge_across : (s : Spine) (l r : Leaf) (p o : Inner) → can_merge s.geometry l r ≡ true → nat_lt r.from p.end ≡ false → Some (across_needs s p o) ≡ merge_needs s l r p o
merge_across s l r p o is inside = rw (is, inside) refl
