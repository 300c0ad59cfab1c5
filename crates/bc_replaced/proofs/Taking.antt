-- The buckets that were taken for a leaf are for nodes, and as many as it needs.
use Rattle.std.proofs.Common.{◌≡◌, inl, inr, ℕ, zero, suc, ◌+◌, ◌≤◌, List, [], ◌∷◌, ◌++◌, length, length-append, refl, sym, ap, ◌∙◌, subst, arith}
use Rattle.std.specs.Prelude.{Contains, IfSome, Option, replicate}
use Rattle.std.proofs.lemmas.List.{length-replicate}
use Rattle.bc_alloc.specs.declared.purpose.Purpose.TheVariants as list
use Rattle.bc_disk.specs.Disk.{DiskFacts}
use Rattle.bc_facts.proofs.Stood.{contains_in}
use Rattle.bc_leaf_plan.specs.Way.{IsNeededBy}
use Rattle.bc_leaf_plan.specs.declared.way.Way.{Way}
use Rattle.bc_leaf_plan.specs.declared.way.Way.TheVariants.{Rewrite, Split}
use Rattle.bc_meta.specs.Facts.{In}
use Rattle.bc_new_nodes.specs.bc_hand.Seats.{View}
use Rattle.bc_new_nodes.specs.bc_held.Next.{purpose_for}
use Rattle.bc_new_nodes.specs.bc_held.declared.held.HeldBucket.{HeldBucket}
use Rattle.bc_new_nodes.specs.bc_held.declared.held.Want.{Want}
use Rattle.bc_new_nodes.specs.bc_held.declared.held.Want.TheVariants.{Node, Rewrite as Again}
use Rattle.bc_new_nodes.specs.bc_held_all.All.{HaveTaken, wants_of}
use Rattle.bc_node.specs.Leaf.{Leaf}
use Rattle.bc_tree.proofs.Few.{rewrite_few, split_few}
use Rattle.bc_tree.specs.Laws.{AreFew}
use Rattle.bc_tree.specs.Spine.{Spine}
use Rattle.bc_tree.specs.declared.needs.Needs.{Needs}

-- each of them is for a node
abbrev AreForNodes : List Want → Type 0
AreForNodes [] = Unit {0}
AreForNodes (x ∷ xs) = (purpose_for x ≡ list.Tree) × AreForNodes xs

all_new : (n : ℕ) (xs : List Want) → AreForNodes xs → AreForNodes (replicate n Node ++ xs)
all_new zero xs all = all
all_new (suc n) xs all = (refl, all_new n xs all)

all_again : (n : ℕ) → AreForNodes (replicate n Again)
all_again zero = tt
all_again (suc n) = (refl, all_again n)

wants_are : (n : Needs) → AreForNodes (wants_of n)
wants_are n = all_new n.tree (replicate n.moving Again) (all_again n.moving)

-- ---- how many

few_at : (tree moving : ℕ) (n : Needs) → AreFew tree moving n → tree + moving ≤ 7
    → n.tree + n.moving ≤ 7
few_at tree moving n few all =
    let one = few.tree_few in let two = few.moving_few in omega (arith, one, two, all)

pub needs_few : (way : Way) (s : Spine) (leaf : Leaf) (n : Needs) → IsNeededBy way s leaf n
    → n.tree + n.moving ≤ 7
needs_few Rewrite s leaf n (parent, at, is) = few_at 0 3 n
    (subst (AreFew 0 3) (sym is) (rewrite_few s parent)) (omega arith)
needs_few Split s leaf n (parent, at, is) = few_at 5 2 n
    (subst (λ (o : Option Needs). IfSome o (AreFew 5 2)) (sym is) (split_few s parent))
    (omega arith)

module _ {C B : Type 0} (cache_facts : C → DiskFacts) (backing_facts : B → DiskFacts) where
  taken_many : (before : ℕ) (xs : List Want) (bs : List HeldBucket)
      (v w : View cache_facts backing_facts)
      → HaveTaken cache_facts backing_facts before xs bs v w → length bs ≡ length xs
  taken_many before [] [] v w h = refl
  taken_many before [] (b ∷ bs) v w h = absurd h
  taken_many before (x ∷ xs) [] v w h = absurd h
  taken_many before (x ∷ xs) (b ∷ bs) v w (u, one, more) =
      ap suc (taken_many before xs bs u w more)

  taken_tree : (before : ℕ) (xs : List Want) (bs : List HeldBucket)
      (v w : View cache_facts backing_facts) → AreForNodes xs
      → HaveTaken cache_facts backing_facts before xs bs v w → (b : HeldBucket) → In b bs
      → b.purpose ≡ list.Tree
  taken_tree before [] [] v w all h b m = absurd m
  taken_tree before [] (x ∷ xs) v w all h b m = absurd h
  taken_tree before (x ∷ xs) [] v w all h b m = absurd m
  taken_tree before (x ∷ xs) (y ∷ ys) v w (tree, all) (u, one, more) b (inl here) =
      ap (λ (z : HeldBucket). z.purpose) here ∙ one.took.takes.next.purpose ∙ tree
  taken_tree before (x ∷ xs) (y ∷ ys) v w (tree, all) (u, one, more) b (inr later) =
      taken_tree before xs ys u w all more b later

  pub as_many : (before : ℕ) (n : Needs) (bs : List HeldBucket)
      (v w : View cache_facts backing_facts)
      → HaveTaken cache_facts backing_facts before (wants_of n) bs v w
      → length bs ≡ n.tree + n.moving
  as_many before n bs v w h = taken_many before (wants_of n) bs v w h
      ∙ length-append (replicate n.tree Node) (replicate n.moving Again)
      ∙ ap (λ k. k + length (replicate n.moving Again)) (length-replicate n.tree Node)
      ∙ ap (λ k. n.tree + k) (length-replicate n.moving Again)

  pub for_nodes : (before : ℕ) (n : Needs) (bs : List HeldBucket)
      (v w : View cache_facts backing_facts)
      → HaveTaken cache_facts backing_facts before (wants_of n) bs v w → (b : HeldBucket)
      → Contains bs b → b.purpose ≡ list.Tree
  for_nodes before n bs v w h b m =
      taken_tree before (wants_of n) bs v w (wants_are n) h b (contains_in bs b m)
