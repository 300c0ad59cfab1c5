-- A plan fits in a tree also once one of its nodes has one set more.
use Rattle.std.proofs.Common.{◌≡◌, ℕ, zero, suc, List, [], ◌∷◌, length, Option, Some, None, refl, sym, subst, ap, ◌∙◌, arith}
use Rattle.std.specs.Prelude.{IfSome, OnErr, Result, Ok, Err, slice_get, slice_set}
use Rattle.bc_image.specs.Children.{with_children}
use Rattle.bc_inner.specs.Inner.{CoverRange, Inner}
use Rattle.bc_key.specs.declared.key.Key.{Key}
use Rattle.bc_plan.specs.Parent.{HasMoreIn, TakesBy, TakesSet}
use Rattle.bc_tree.specs.Append.{HasBelowMore, HasMoreIf, HasRootMore}
use Rattle.bc_tree.specs.Group.{CanStand}
use Rattle.bc_tree.specs.Next.{below_next, leaves_next, node_next, nodes_next, root_next}
use Rattle.bc_tree.specs.Plan.{CanTake, Fits}
use Rattle.bc_tree.specs.Same.{SameShape, SameShapes}
use Rattle.bc_tree.specs.Spine.{Spine, bottom}
use Rattle.bc_tree.specs.declared.change.NodeChange.{NodeChange}
use Rattle.bc_tree.specs.declared.change.NodeChange.TheVariants.{Move, Set}
use Rattle.bc_tree.specs.declared.plan.Plan.{Plan}
use Rattle.bc_plan.proofs.Writes.{beside_shape}
use Rattle.bc_tree.proofs.Appends.{more_shape}
use Rattle.bc_tree.proofs.Same.{same_shape, same_shapes, shape_set, spine_shape}

more_spare : {E : Type 0} (r : Result (Unit {0}) E) (s : Spine) (keys : List Key) (a b : Inner) → HasMoreIf r s.geometry keys a b → b.spare ≡ a.spare
more_spare (Ok x) s keys a b is = is.spare
more_spare (Err e) s keys a b is = ap (λ (n : Inner). n.spare) is

next_shape : (a b : Inner) (change : NodeChange) → SameShape a b → SameShape (node_next a change) (node_next b change)
next_shape a b (Set keys) same = record { level = same.level; from = same.from; end = same.end; ptr = same.ptr; children_are = ap (λ ks. with_children keys ks) same.children_are }
next_shape a b (Move next) same = same_shape next

takes_shape : (a b : Inner) (change : NodeChange) → SameShape a b → b.spare ≡ a.spare → CanTake a change → CanTake b change
takes_shape a b (Set keys) same spare (few, cover) = (
  omega (arith, few, spare),
  subst (λ ks. CoverRange b.from b.end (with_children keys ks)) (sym same.children_are)
      (subst (λ n. CoverRange n b.end (with_children keys a.children)) (sym same.from) (subst (λ n. CoverRange a.from n (with_children keys a.children)) (sym same.end) cover)),
)
takes_shape a b (Move next) same spare takes = tt

some_takes : (a b : Inner) (top : Option NodeChange) → SameShape a b → b.spare ≡ a.spare → IfSome top (CanTake a) → IfSome top (CanTake b)
some_takes a b None same spare takes = tt
some_takes a b (Some change) same spare takes = takes_shape a b change same spare takes

root_shape : (r s : Inner) (below : List Inner) (change : NodeChange) (top : Option NodeChange) → SameShape r s → SameShape (root_next r below change top) (root_next s below change top)
root_shape r s [] change top same = next_shape r s change same
root_shape r s (m ∷ nodes) change None same = same
root_shape r s (m ∷ nodes) change (Some top) same = next_shape r s top same

root_set : (root next : Inner) (below : List Inner) (i : ℕ) (change : NodeChange) (top : Option NodeChange) (node : Inner) → slice_get below i ≡ Some node → SameShape (root_next root below change top) (root_next root (slice_set below i next) change top)
root_set root next [] i change top node there = absurd (cc)
root_set root next (m ∷ nodes) zero change None node there = same_shape root
root_set root next (m ∷ nodes) zero change (Some top) node there = same_shape (node_next root top)
root_set root next (m ∷ nodes) (suc i) change None node there = same_shape root
root_set root next (m ∷ nodes) (suc i) change (Some top) node there = same_shape (node_next root top)

nodes_shape : (xs ys : List Inner) (place : ℕ) (change : NodeChange) → SameShapes xs ys → SameShapes (nodes_next xs place change) (nodes_next ys place change)
nodes_shape [] [] place change same = tt
nodes_shape [] (y ∷ ys) place change same = absurd same
nodes_shape (x ∷ xs) [] place change same = absurd same
nodes_shape (x ∷ xs) (y ∷ ys) zero change same = (next_shape x y change same.0, same.1)
nodes_shape (x ∷ xs) (y ∷ ys) (suc place) change same = (same.0, nodes_shape xs ys place change same.1)

-- the node at a place of the list in which another one stands now
set_there : (nodes : List Inner) (i place : ℕ) (node next at : Inner) → slice_get nodes i ≡ Some node → SameShape node next → next.spare ≡ node.spare → slice_get nodes place ≡ Some at
    → (now : Inner) × (slice_get (slice_set nodes i next) place ≡ Some now) × SameShape at now × (now.spare ≡ at.spare)
set_there [] i place node next at there same spare here = absurd (cc)
set_there (m ∷ nodes) zero zero node next at there same spare here =
    let one : node ≡ m = cc in
    let two : m ≡ at = cc in
    (next, refl, subst (λ (n : Inner). SameShape n next) (one ∙ two) same, spare ∙ ap (λ (n : Inner). n.spare) (one ∙ two))
set_there (m ∷ nodes) zero (suc place) node next at there same spare here = (at, here, same_shape at, refl)
set_there (m ∷ nodes) (suc i) zero node next at there same spare here = (at, here, same_shape at, refl)
set_there (m ∷ nodes) (suc i) (suc place) node next at there same spare here = set_there nodes i place node next at there same spare here

bottom_set : (root next : Inner) (below : List Inner) (i : ℕ) (node : Inner) → slice_get below i ≡ Some node → (bottom root below ≡ below) × (bottom root (slice_set below i next) ≡ slice_set below i next) × (length (slice_set below i next) ≡ length below)
bottom_set root next [] i node there = absurd (cc)
bottom_set root next (m ∷ nodes) zero node there = (refl, refl, refl)
bottom_set root next (m ∷ nodes) (suc i) node there = (refl, refl, ap suc (set_long nodes i next))
  where
    set_long : (xs : List Inner) (k : ℕ) (x : Inner) → length (slice_set xs k x) ≡ length xs
    set_long [] k x = refl
    set_long (y ∷ ys) zero x = refl
    set_long (y ∷ ys) (suc k) x = ap suc (set_long ys k x)

bottom_shape : (s : Spine) (root : Inner) (place : ℕ) (at : Inner) → SameShape s.root root → root.spare ≡ s.root.spare → slice_get (bottom s.root s.below) place ≡ Some at
    → (now : Inner) × (slice_get (bottom root s.below) place ≡ Some now) × SameShape at now × (now.spare ≡ at.spare)
bottom_shape s root place at same spare there = go s.below place there
  where
    go : (below : List Inner) (p : ℕ) → slice_get (bottom s.root below) p ≡ Some at → (now : Inner) × (slice_get (bottom root below) p ≡ Some now) × SameShape at now × (now.spare ≡ at.spare)
    go [] zero here = let one : s.root ≡ at = cc in (root, refl, subst (λ (n : Inner). SameShape n root) one same, spare ∙ ap (λ (n : Inner). n.spare) one)
    go [] (suc p) here = absurd (cc)
    go (m ∷ nodes) p here = (at, here, same_shape at, refl)

-- ---- all of it

pub root_fits_more : {E : Type 0} (r : Result (Unit {0}) E) (keys : List Key) (s t : Spine) (plan : Plan) → HasRootMore r keys s t → Fits s plan → Fits t plan
root_fits_more r keys s t plan has f = subst (λ (v : Spine). Fits v plan) (sym has.only) fits
  where
    same : SameShape s.root t.root
    same = more_shape r s.geometry keys s.root t.root has.more

    spare : t.root.spare ≡ s.root.spare
    spare = more_spare r s keys s.root t.root has.more

    roots : SameShape (root_next s.root s.below plan.bottom plan.top) (root_next t.root s.below plan.bottom plan.top)
    roots = root_shape s.root t.root s.below plan.bottom plan.top same

    fits : Fits (record s { root = t.root }) plan
    fits =
        let at = bottom_shape s t.root plan.place f.node same spare f.there in
        record {
          leaves_fit = f.leaves_fit;
          spare = f.spare;
          node = at.0;
          there = at.1;
          takes = takes_shape f.node at.0 plan.bottom at.2 at.3 f.takes;
          root_takes = some_takes s.root t.root plan.top same spare f.root_takes;
          alone = f.alone;
          stands = f.stands;
          tree = spine_shape s.geometry (root_next s.root s.below plan.bottom plan.top) (root_next t.root s.below plan.bottom plan.top) (below_next s.below plan.place plan.bottom plan.beside) (below_next s.below plan.place plan.bottom plan.beside)
              (leaves_next s.leaves plan.leaves) roots (same_shapes (below_next s.below plan.place plan.bottom plan.beside)) f.tree;
          end = roots.end ∙ f.end ∙ sym same.end;
        }

pub below_fits_more : {E : Type 0} (r : Result (Unit {0}) E) (place : ℕ) (keys : List Key) (s t : Spine) (plan : Plan) → HasBelowMore r place keys s t → Fits s plan → Fits t plan
below_fits_more r place keys s t plan has f = subst (λ (v : Spine). Fits v plan) (sym has.only) fits
  where
    below : List Inner
    below = slice_set s.below place has.next

    same : SameShape has.node has.next
    same = more_shape r s.geometry keys has.node has.next has.more

    roots : SameShape (root_next s.root s.below plan.bottom plan.top) (root_next s.root below plan.bottom plan.top)
    roots = root_set s.root has.next s.below place plan.bottom plan.top has.node has.there

    fits : Fits (record s { below = below }) plan
    fits =
        let same_bottom = bottom_set s.root has.next s.below place has.node has.there in
        let at = set_there s.below place plan.place has.node has.next f.node has.there same (more_spare r s keys has.node has.next has.more) (ap (λ ns. slice_get ns plan.place) (sym same_bottom.0) ∙ f.there) in
        record {
          leaves_fit = f.leaves_fit;
          spare = f.spare;
          node = at.0;
          there = ap (λ ns. slice_get ns plan.place) same_bottom.1 ∙ at.1;
          takes = takes_shape f.node at.0 plan.bottom at.2 at.3 f.takes;
          root_takes = f.root_takes;
          alone = λ none. f.alone (sym same_bottom.2 ∙ none);
          stands = subst (λ n. CanStand n s.room plan.place plan.beside) (sym same_bottom.2) f.stands;
          tree = spine_shape s.geometry (root_next s.root s.below plan.bottom plan.top) (root_next s.root below plan.bottom plan.top) (below_next s.below plan.place plan.bottom plan.beside) (below_next below plan.place plan.bottom plan.beside)
              (leaves_next s.leaves plan.leaves) roots
              (beside_shape (nodes_next s.below plan.place plan.bottom) (nodes_next below plan.place plan.bottom) plan.place plan.beside (nodes_shape s.below below plan.place plan.bottom (shape_set s.below place has.node has.next has.there same))) f.tree;
          end = roots.end ∙ f.end;
        }

pub root_kept : {E : Type 0} (r : Result (Unit {0}) E) (keys : List Key) (s t : Spine) → HasRootMore r keys s t → OnErr r (t ≡ s)
root_kept (Ok x) keys s t has = tt
root_kept (Err e) keys s t has = has.only ∙ ap (λ (n : Inner). record s { root = n }) has.more

pub below_kept : {E : Type 0} (r : Result (Unit {0}) E) (place : ℕ) (keys : List Key) (s t : Spine) → HasBelowMore r place keys s t → OnErr r (t ≡ s)
below_kept (Ok x) place keys s t has = tt
below_kept (Err e) place keys s t has =
    has.only ∙ ap (λ (n : Inner). record s { below = slice_set s.below place n }) has.more ∙ ap (λ (ns : List Inner). record s { below = ns }) (set_back s.below place has.node has.there)
  where
    set_back : (xs : List Inner) (i : ℕ) (x : Inner) → slice_get xs i ≡ Some x → slice_set xs i x ≡ xs
    set_back [] i x there = absurd (cc)
    set_back (y ∷ ys) zero x there = let one : x ≡ y = cc in ap (λ (n : Inner). n ∷ ys) one
    set_back (y ∷ ys) (suc i) x there = ap (λ ns. y ∷ ns) (set_back ys i x there)

pub root_more : {E : Type 0} (r : Result (Unit {0}) E) (keys : List Key) (s t : Spine) → HasRootMore r keys s t → HasMoreIn r s.root keys s t
root_more r keys s t has = record {
  at = 0;
  there = refl;
  next = t.root;
  more = has.more;
  nodes = ap (λ (x : Spine). t.root ∷ x.below) has.only;
  only = has.only ∙ ap (λ (x : Spine). record s { root = x.root; below = x.below }) (sym has.only);
}

pub below_more : {E : Type 0} (r : Result (Unit {0}) E) (place : ℕ) (keys : List Key) (s t : Spine) → (has : HasBelowMore r place keys s t) → HasMoreIn r has.node keys s t
below_more r place keys s t has = record {
  at = suc place;
  there = has.there;
  next = has.next;
  more = has.more;
  nodes = ap (λ (x : Spine). x.root ∷ x.below) has.only;
  only = has.only ∙ ap (λ (x : Spine). record s { root = x.root; below = x.below }) (sym has.only);
}

-- ---- which node takes the set

pub at_root : (root : Inner) (below : List Inner) (place : ℕ) (node : Inner) → length below ≡ 0 → slice_get (bottom root below) place ≡ Some node → node ≡ root
at_root root [] zero node none there = cc
at_root root [] (suc place) node none there = absurd (cc)
at_root root (m ∷ nodes) place node none there = absurd (omega (arith, none))

pub takes_low : (s : Spine) (plan : Plan) (node : Inner) (keys set : List Key) → plan.bottom ≡ Set set → TakesSet s plan node keys → (slice_get (bottom s.root s.below) plan.place ≡ Some node) × (keys ≡ set)
takes_low s plan node keys set is takes = subst (λ (ch : NodeChange). TakesBy s plan.place ch plan.top node keys) is takes

pub takes_change : (s : Spine) (place : ℕ) (next node : Inner) (change : NodeChange) (keys : List Key) → TakesBy s place (Move next) (Some change) node keys → (node ≡ s.root) × (change ≡ Set keys)
takes_change s place next node (Set set) keys takes = (takes.0, ap (λ (ks : List Key). Set ks) (sym takes.1))
takes_change s place next node (Move root) keys takes = absurd takes
