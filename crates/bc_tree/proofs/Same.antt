-- Nodes of which nothing has changed but their room.
use Rattle.std.proofs.Common.{◌≡◌, ℕ, zero, suc, ◌+◌, List, [], ◌∷◌, ◌++◌, length, set, take, Some, refl, sym, subst, ap, ◌∙◌, arith}
use Rattle.std.specs.Prelude.{All, slice_get}
use Rattle.std.proofs.lemmas.List.Elements.{All-cons, All-head, All-nil, All-tail}
use Rattle.bc_disk.specs.declared.geometry.Geometry.{Geometry}
use Rattle.bc_inner.specs.Inner.{CoverRange, Inner}
use Rattle.bc_key.specs.declared.key.Key.{Key}
use Rattle.bc_spine.specs.declared.leaf.LeafRange.{LeafRange}
use Rattle.bc_tree.specs.Children.{HasPointer}
use Rattle.bc_tree.specs.Needs.{words}
use Rattle.bc_tree.specs.Same.{IsSameButSpare, IsSameTree, SameNode, SameNodes, SameShape, SameShapes}
use Rattle.bc_tree.specs.Spine.{Covers, IsPlaceAt, IsProper, IsRootOf, IsSpine, NameLeaves, NameNodes, Spine, bottom, children_in, last_end}
use Rattle.bc_tree.specs.declared.place.LeafPlace.{LeafPlace}

pub same_node : (a : Inner) → SameNode a a
same_node a = record { node = record { level = refl; from = refl; end = refl; ptr = refl; seq = refl; taken = refl; loaded = refl }; children_are = refl }

pub same_nodes : (xs : List Inner) → SameNodes xs xs
same_nodes [] = tt
same_nodes (a ∷ more) = (same_node a, same_nodes more)

-- one of them has got room
pub same_set : (nodes : List Inner) (i : ℕ) (node next : Inner) → slice_get nodes i ≡ Some node → SameNode node next → SameNodes nodes (set nodes i next)
same_set [] i node next there same = absurd (cc)
same_set (m ∷ nodes) zero node next there same = let is : node ≡ m = cc in (subst (λ (n : Inner). SameNode n next) is same, same_nodes nodes)
same_set (m ∷ nodes) (suc i) node next there same = (same_node m, same_set nodes i node next there same)

-- ---- the same nodes, at the same places, with the same children

pub shape_of : (a b : Inner) → SameNode a b → SameShape a b
shape_of a b same = record { level = same.node.level; from = same.node.from; end = same.node.end; ptr = same.node.ptr; children_are = same.children_are }

pub same_shape : (a : Inner) → SameShape a a
same_shape a = record { level = refl; from = refl; end = refl; ptr = refl; children_are = refl }

pub same_shapes : (xs : List Inner) → SameShapes xs xs
same_shapes [] = tt
same_shapes (x ∷ xs) = (same_shape x, same_shapes xs)

pub shape_set : (nodes : List Inner) (i : ℕ) (node next : Inner) → slice_get nodes i ≡ Some node → SameShape node next → SameShapes nodes (set nodes i next)
shape_set [] i node next there same = absurd (cc)
shape_set (m ∷ nodes) zero node next there same = let is : node ≡ m = cc in (subst (λ (n : Inner). SameShape n next) is same, same_shapes nodes)
shape_set (m ∷ nodes) (suc i) node next there same = (same_shape m, shape_set nodes i node next there same)

pub shapes_of : (xs ys : List Inner) → SameNodes xs ys → SameShapes xs ys
shapes_of [] [] same = tt
shapes_of [] (y ∷ ys) same = absurd same
shapes_of (x ∷ xs) [] same = absurd same
shapes_of (x ∷ xs) (y ∷ ys) same = (shape_of x y same.0, shapes_of xs ys same.1)

proper_shape : (g : Geometry) (a b : Inner) → SameShape a b → IsProper g a → IsProper g b
proper_shape g a b same proper = record {
  live = subst (All HasPointer) (sym same.children_are) proper.live;
  fits = omega (arith, proper.fits, ap words same.children_are);
}

covers_shape : (a b : Inner) → SameShape a b → Covers a → Covers b
covers_shape a b same cover =
    subst (CoverRange b.from b.end) (sym same.children_are)
    (subst (λ n. CoverRange n b.end a.children) (sym same.from) (subst (λ n. CoverRange a.from n a.children) (sym same.end) cover))

all_shape : (P : Inner → Type 0) → ((a b : Inner) → SameShape a b → P a → P b) → (xs ys : List Inner) → SameShapes xs ys → All P xs → All P ys
all_shape P keeps [] [] same all = All-nil P
all_shape P keeps [] (y ∷ ys) same all = absurd same
all_shape P keeps (x ∷ xs) [] same all = absurd same
all_shape P keeps (x ∷ xs) (y ∷ ys) same all = All-cons P y ys (keeps x y same.0 (All-head P x xs all)) (all_shape P keeps xs ys same.1 (All-tail P x xs all))

names_shape : (from : ℕ) (keys : List Key) (xs ys : List Inner) → SameShapes xs ys → NameNodes from keys xs → NameNodes from keys ys
names_shape from [] [] [] same names = tt
names_shape from [] [] (y ∷ ys) same names = absurd same
names_shape from [] (x ∷ xs) ys same names = absurd names
names_shape from (k ∷ keys) [] ys same names = absurd names
names_shape from (k ∷ keys) (x ∷ xs) [] same names = absurd same
names_shape from (k ∷ keys) (x ∷ xs) (y ∷ ys) same names =
    let n = same.0 in
    (n.level ∙ names.0, n.from ∙ names.1, n.end ∙ names.2, n.ptr ∙ names.3, names_shape k.end keys xs ys same.1 names.4)

children_shape : (xs ys : List Inner) → SameShapes xs ys → children_in ys ≡ children_in xs
children_shape [] [] same = refl
children_shape [] (y ∷ ys) same = absurd same
children_shape (x ∷ xs) [] same = absurd same
children_shape (x ∷ xs) (y ∷ ys) same = ap (λ ks. ks ++ children_in ys) same.0.children_are ∙ ap (λ ks. x.children ++ ks) (children_shape xs ys same.1)

bottom_shape : (r s : Inner) (xs ys : List Inner) → SameShape r s → SameShapes xs ys → SameShapes (bottom r xs) (bottom s ys)
bottom_shape r s [] [] root same = (root, tt)
bottom_shape r s [] (y ∷ ys) root same = absurd same
bottom_shape r s (x ∷ xs) [] root same = absurd same
bottom_shape r s (x ∷ xs) (y ∷ ys) root same = same

root_of_shape : (r s : Inner) (xs ys : List Inner) → SameShape r s → SameShapes xs ys → IsRootOf r xs → IsRootOf s ys
root_of_shape r s [] [] root same is = root.level ∙ is
root_of_shape r s [] (y ∷ ys) root same is = absurd same
root_of_shape r s (x ∷ xs) [] root same is = absurd same
root_of_shape r s (x ∷ xs) (y ∷ ys) root same is =
    (root.level ∙ is.0, subst (λ n. NameNodes n s.children (y ∷ ys)) (sym root.from) (subst (λ ks. NameNodes r.from ks (y ∷ ys)) (sym root.children_are) (names_shape r.from r.children (x ∷ xs) (y ∷ ys) same is.1)))

pub spine_shape : (g : Geometry) (r s : Inner) (xs ys : List Inner) (leaves : List LeafRange) → SameShape r s → SameShapes xs ys → IsSpine g r xs leaves → IsSpine g s ys leaves
spine_shape g r s xs ys leaves root same spine = record {
  inner = record {
    begins = root.from ∙ spine.inner.begins;
    root_of = root_of_shape r s xs ys root same spine.inner.root_of;
    root_is_proper = proper_shape g r s root spine.inner.root_is_proper;
    proper = all_shape (IsProper g) (proper_shape g) xs ys same spine.inner.proper;
  };
  names = subst (λ ks. NameLeaves ks leaves) (sym (children_shape (bottom r xs) (bottom s ys) (bottom_shape r s xs ys root same))) spine.names;
  cover = (covers_shape r s root spine.cover.0, all_shape Covers covers_shape xs ys same spine.cover.1);
}

pub spine_same : (g : Geometry) (r s : Inner) (xs ys : List Inner) (leaves : List LeafRange) → SameNode r s → SameNodes xs ys → IsSpine g r xs leaves → IsSpine g s ys leaves
spine_same g r s xs ys leaves root same = spine_shape g r s xs ys leaves (shape_of r s root) (shapes_of xs ys same)

-- ---- the same nodes but for their room

pub bottom_same : (r s : Inner) (xs ys : List Inner) → SameNode r s → SameNodes xs ys → SameNodes (bottom r xs) (bottom s ys)
bottom_same r s [] [] root same = (root, tt)
bottom_same r s [] (y ∷ ys) root same = absurd same
bottom_same r s (x ∷ xs) [] root same = absurd same
bottom_same r s (x ∷ xs) (y ∷ ys) root same = same

pub long_same : (xs ys : List Inner) → SameNodes xs ys → length ys ≡ length xs
long_same [] [] same = refl
long_same [] (y ∷ ys) same = absurd same
long_same (x ∷ xs) [] same = absurd same
long_same (x ∷ xs) (y ∷ ys) same = ap suc (long_same xs ys same.1)

pub take_same : (n : ℕ) (xs ys : List Inner) → SameNodes xs ys → SameNodes (take n xs) (take n ys)
take_same zero xs ys same = tt
take_same (suc n) [] [] same = tt
take_same (suc n) [] (y ∷ ys) same = absurd same
take_same (suc n) (x ∷ xs) [] same = absurd same
take_same (suc n) (x ∷ xs) (y ∷ ys) same = (same.0, take_same n xs ys same.1)

pub get_same : (n : ℕ) (xs ys : List Inner) (x : Inner) → SameNodes xs ys → slice_get xs n ≡ Some x → (y : Inner) × (slice_get ys n ≡ Some y) × SameNode x y
get_same n [] ys x same there = absurd (cc)
get_same n (a ∷ xs) [] x same there = absurd same
get_same zero (a ∷ xs) (b ∷ ys) x same there = let is : a ≡ x = cc in (b, refl, subst (λ (m : Inner). SameNode m b) is same.0)
get_same (suc n) (a ∷ xs) (b ∷ ys) x same there = get_same n xs ys x same.1 there

pub place_same : (old new : Spine) (sector : ℕ) (place : LeafPlace) → IsSameTree old new → IsPlaceAt old sector place → IsPlaceAt new sector place
place_same old new sector place same is =
    let nodes = bottom_same old.root new.root old.below new.below same.root_is same.below_are in
    let p = get_same place.node (bottom old.root old.below) (bottom new.root new.below) is.parent nodes is.node in
    record {
      parent = p.0;
      node = p.1;
      from = omega (arith, is.from, p.2.node.from);
      end = omega (arith, is.end, p.2.node.end);
      key = is.key;
      child = ap (λ ks. slice_get ks place.child) p.2.children_are ∙ is.child;
      there = ap (λ ls. slice_get ls place.leaf) same.leaves_are ∙ is.there;
      spans = is.spans;
      ends = is.ends;
      stands = is.stands;
      begins = is.begins ∙ ap (λ n. last_end n (take place.child is.parent.children)) (sym p.2.node.from) ∙ ap (λ ks. last_end p.0.from (take place.child ks)) (sym p.2.children_are);
      multiples = is.multiples;
      before = is.before ∙ ap (λ ks. length ks + place.child) (sym (children_shape (take place.node (bottom old.root old.below)) (take place.node (bottom new.root new.below)) (shapes_of (take place.node (bottom old.root old.below)) (take place.node (bottom new.root new.below)) (take_same place.node (bottom old.root old.below) (bottom new.root new.below) nodes))));
    }

-- ---- twice

node_twice : (a b c : Inner) → SameNode a b → SameNode b c → SameNode a c
node_twice a b c one two = record {
  node = record {
    level = two.node.level ∙ one.node.level;
    from = two.node.from ∙ one.node.from;
    end = two.node.end ∙ one.node.end;
    ptr = two.node.ptr ∙ one.node.ptr;
    seq = two.node.seq ∙ one.node.seq;
    taken = two.node.taken ∙ one.node.taken;
    loaded = two.node.loaded ∙ one.node.loaded;
  };
  children_are = two.children_are ∙ one.children_are;
}

nodes_twice : (xs ys zs : List Inner) → SameNodes xs ys → SameNodes ys zs → SameNodes xs zs
nodes_twice [] [] zs one two = two
nodes_twice [] (y ∷ ys) zs one two = absurd one
nodes_twice (x ∷ xs) [] zs one two = absurd one
nodes_twice (x ∷ xs) (y ∷ ys) [] one two = absurd two
nodes_twice (x ∷ xs) (y ∷ ys) (z ∷ zs) one two = (node_twice x y z one.0 two.0, nodes_twice xs ys zs one.1 two.1)

pub same_tree : (s : Spine) → IsSameTree s s
same_tree s = record { geometry_is = refl; leaves_are = refl; root_is = same_node s.root; below_are = same_nodes s.below }

pub same_twice : (a b c : Spine) → IsSameTree a b → IsSameTree b c → IsSameTree a c
same_twice a b c one two = record {
  geometry_is = two.geometry_is ∙ one.geometry_is;
  leaves_are = two.leaves_are ∙ one.leaves_are;
  root_is = node_twice a.root b.root c.root one.root_is two.root_is;
  below_are = nodes_twice a.below b.below c.below one.below_are two.below_are;
}

pub same_but_spare : (a b : Spine) → IsSameButSpare a b → IsSameTree a b
same_but_spare a b only = subst (λ (s : Spine). IsSameTree a s) (sym only) (record { geometry_is = refl; leaves_are = refl; root_is = same_node a.root; below_are = same_nodes a.below })
