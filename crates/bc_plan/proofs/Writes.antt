-- The new nodes of a plan, once they are written.
use Rattle.std.proofs.Common.{◌≡◌, ℕ, zero, suc, ◌+◌, ◌*◌, ◌<◌, ◌≤◌, List, [], ◌∷◌, ◌++◌, length, set, take, drop, Option, Some, None, refl, sym, subst, ap, ◌∙◌, arith}
use Rattle.std.specs.Prelude.{All, Result, Ok, Err, OnErr, OnOk, slice_get}
use Rattle.bc_disk.specs.declared.geometry.Geometry.{Geometry}
use Rattle.bc_inner.specs.Inner.{HasTaken, Inner, children_set}
use Rattle.bc_node.specs.Leaf.{Leaf}
use Rattle.bc_plan.specs.Write.{HasMoved, behind_of, lowest_of, with_behind, with_lowest}
use Rattle.bc_set.specs.Records.{set_sectors}
use Rattle.bc_set.specs.SetBytes.{bytes_of}
use Rattle.std.specs.List.{insert, remove}
use Rattle.bc_tree.specs.Group.{CanStand}
use Rattle.bc_tree.specs.Next.{below_next, beside_next, leaves_next, node_next, nodes_next, root_next}
use Rattle.bc_tree.specs.Plan.{Fits}
use Rattle.bc_tree.specs.Same.{SameShape, SameShapes}
use Rattle.bc_tree.specs.Spine.{IsProper, Spine, bottom}
use Rattle.bc_tree.specs.declared.beside.Beside.{Beside}
use Rattle.bc_tree.specs.declared.beside.Beside.TheVariants.{Comes, Goes, Moves, Stays, Under}
use Rattle.bc_tree.specs.declared.change.NodeChange.{NodeChange}
use Rattle.bc_tree.specs.declared.change.NodeChange.TheVariants.{Move}
use Rattle.bc_tree.specs.declared.plan.Plan.{Plan}
use Rattle.bc_tree.proofs.Moves.{all_at}
use Rattle.bc_tree.proofs.Same.{spine_shape}

-- ---- the nodes of a plan fit in one set

moved_there : (nodes : List Inner) (place : ℕ) (node next : Inner) → slice_get nodes place ≡ Some node → slice_get (nodes_next nodes place (Move next)) place ≡ Some next
moved_there [] place node next there = absurd (cc)
moved_there (m ∷ nodes) zero node next there = refl
moved_there (m ∷ nodes) (suc place) node next there = moved_there nodes place node next there

still_there : (xs : List Inner) (place count room : ℕ) (beside : Beside) (node : Inner) → slice_get xs place ≡ Some node → CanStand count room place beside → 0 < count → slice_get (beside_next xs place beside) place ≡ Some node
still_there xs place count room Stays node there stands some = there
still_there xs place count room (Comes other) node there stands some = go xs place there
  where
    go : (ns : List Inner) (i : ℕ) → slice_get ns i ≡ Some node → slice_get (insert ns (i + 1) other) i ≡ Some node
    go [] i here = absurd (cc)
    go (m ∷ ns) zero here = here
    go (m ∷ ns) (suc i) here = let e : suc i + 1 ≡ suc (i + 1) = omega arith in ap (λ n. slice_get (insert (m ∷ ns) n other) (suc i)) e ∙ go ns i here
still_there xs place count room (Moves other) node there stands some = go xs place there
  where
    go : (ns : List Inner) (i : ℕ) → slice_get ns i ≡ Some node → slice_get (set ns (i + 1) other) i ≡ Some node
    go [] i here = absurd (cc)
    go (m ∷ ns) zero here = here
    go (m ∷ ns) (suc i) here = let e : suc i + 1 ≡ suc (i + 1) = omega arith in ap (λ n. slice_get (set (m ∷ ns) n other) (suc i)) e ∙ go ns i here
still_there xs place count room Goes node there stands some = go xs place there
  where
    go : (ns : List Inner) (i : ℕ) → slice_get ns i ≡ Some node → slice_get (remove ns (i + 1)) i ≡ Some node
    go [] i here = absurd (cc)
    go (m ∷ ns) zero here = here
    go (m ∷ ns) (suc i) here = let e : suc i + 1 ≡ suc (i + 1) = omega arith in ap (λ n. slice_get (remove (m ∷ ns) n) (suc i)) e ∙ go ns i here
still_there xs place count room (Under low high) node there stands some = absurd (omega (arith, stands.0, some))

pub parent_fits : (spine : Spine) (plan : Plan) (next : Inner) → Fits spine plan → plan.bottom ≡ Move next → bytes_of (children_set next) ≤ 512 * spine.geometry.node_sectors
parent_fits spine plan next fits is = go spine.below (subst (λ (ch : NodeChange). Fits spine (record plan { bottom = ch })) is fits) refl
  where
    go : (below : List Inner) → Fits spine (record plan { bottom = Move next }) → spine.below ≡ below → bytes_of (children_set next) ≤ 512 * spine.geometry.node_sectors
    go [] f none =
        let root = subst (λ (ns : List Inner). IsProper spine.geometry (root_next spine.root ns (Move next) plan.top)) none f.tree.inner.root_is_proper in
        root.fits
    go (m ∷ nodes) f some =
        let there = subst (λ (ns : List Inner). slice_get (bottom spine.root ns) plan.place ≡ Some f.node) some f.there in
        let all = f.tree.inner.proper in
        (all_at (IsProper spine.geometry) (below_next spine.below plan.place (Move next) plan.beside) plan.place next all
        (still_there (nodes_next spine.below plan.place (Move next)) plan.place (length spine.below) spine.room plan.beside next (subst (λ (ns : List Inner). slice_get (nodes_next ns plan.place (Move next)) plan.place ≡ Some next) (sym some) (moved_there (m ∷ nodes) plan.place f.node next there)) f.stands (omega (arith, ap (λ (ns : List Inner). length ns) some)))).fits

pub root_fits : (spine : Spine) (plan : Plan) (next : Inner) → Fits spine plan → plan.top ≡ Some (Move next) → bytes_of (children_set next) ≤ 512 * spine.geometry.node_sectors
root_fits spine plan next fits is = go spine.below (subst (λ (t : Option NodeChange). Fits spine (record plan { top = t })) is fits) refl
  where
    go : (below : List Inner) → Fits spine (record plan { top = Some (Move next) }) → spine.below ≡ below → bytes_of (children_set next) ≤ 512 * spine.geometry.node_sectors
    go [] f none = absurd (let gone = f.alone (ap (λ (ns : List Inner). length ns) none) in cc)
    go (m ∷ nodes) f some =
        let root = subst (λ (ns : List Inner). IsProper spine.geometry (root_next spine.root ns plan.bottom (Some (Move next)))) some f.tree.inner.root_is_proper in
        root.fits

-- ---- the plan fits once they are written

same_shape : (a : Inner) → SameShape a a
same_shape a = record { level = refl; from = refl; end = refl; ptr = refl; children_are = refl }

same_shapes : (xs : List Inner) → SameShapes xs xs
same_shapes [] = tt
same_shapes (x ∷ xs) = (same_shape x, same_shapes xs)

pub taken_shape : (taken : ℕ) (a b : Inner) → HasTaken taken a b → SameShape a b
taken_shape taken a b is = record { level = is.level; from = is.from; end = is.end; ptr = is.ptr; children_are = is.children }

root_moved : (root : Inner) (below : List Inner) (a b : Inner) (top : Option NodeChange) → SameShape a b → SameShape (root_next root below (Move a) top) (root_next root below (Move b) top)
root_moved root [] a b top same = same
root_moved root (m ∷ nodes) a b None same = same_shape root
root_moved root (m ∷ nodes) a b (Some top) same = same_shape (node_next root top)

top_moved : (root : Inner) (below : List Inner) (change : NodeChange) (a b : Inner) → SameShape a b → SameShape (root_next root below change (Some (Move a))) (root_next root below change (Some (Move b)))
top_moved root [] change a b same = same_shape (node_next root change)
top_moved root (m ∷ nodes) change a b same = same

nodes_moved : (nodes : List Inner) (place : ℕ) (a b : Inner) → SameShape a b → SameShapes (nodes_next nodes place (Move a)) (nodes_next nodes place (Move b))
nodes_moved [] place a b same = tt
nodes_moved (m ∷ nodes) zero a b same = (same, same_shapes nodes)
nodes_moved (m ∷ nodes) (suc place) a b same = (same_shape m, nodes_moved nodes place a b same)

-- what stands beside a node of the same shape

append_shape : (xs ys vs ws : List Inner) → SameShapes xs ys → SameShapes vs ws → SameShapes (xs ++ vs) (ys ++ ws)
append_shape [] [] vs ws one two = two
append_shape [] (y ∷ ys) vs ws one two = absurd one
append_shape (x ∷ xs) [] vs ws one two = absurd one
append_shape (x ∷ xs) (y ∷ ys) vs ws one two = (one.0, append_shape xs ys vs ws one.1 two)

take_shape : (n : ℕ) (xs ys : List Inner) → SameShapes xs ys → SameShapes (take n xs) (take n ys)
take_shape zero xs ys same = tt
take_shape (suc n) [] [] same = tt
take_shape (suc n) [] (y ∷ ys) same = absurd same
take_shape (suc n) (x ∷ xs) [] same = absurd same
take_shape (suc n) (x ∷ xs) (y ∷ ys) same = (same.0, take_shape n xs ys same.1)

drop_shape : (n : ℕ) (xs ys : List Inner) → SameShapes xs ys → SameShapes (drop n xs) (drop n ys)
drop_shape zero xs ys same = same
drop_shape (suc n) [] [] same = tt
drop_shape (suc n) [] (y ∷ ys) same = absurd same
drop_shape (suc n) (x ∷ xs) [] same = absurd same
drop_shape (suc n) (x ∷ xs) (y ∷ ys) same = drop_shape n xs ys same.1

set_shape : (n : ℕ) (xs ys : List Inner) (a b : Inner) → SameShape a b → SameShapes xs ys → SameShapes (set xs n a) (set ys n b)
set_shape n [] [] a b one same = tt
set_shape n [] (y ∷ ys) a b one same = absurd same
set_shape n (x ∷ xs) [] a b one same = absurd same
set_shape zero (x ∷ xs) (y ∷ ys) a b one same = (one, same.1)
set_shape (suc n) (x ∷ xs) (y ∷ ys) a b one same = (same.0, set_shape n xs ys a b one same.1)

come_shape : (xs ys : List Inner) (place : ℕ) (a b : Inner) → SameShape a b → SameShapes xs ys → SameShapes (insert xs place a) (insert ys place b)
come_shape xs ys place a b one same = append_shape (take place xs) (take place ys) (a ∷ drop place xs) (b ∷ drop place ys) (take_shape place xs ys same) (one, drop_shape place xs ys same)

pub beside_shape : (xs ys : List Inner) (place : ℕ) (beside : Beside) → SameShapes xs ys → SameShapes (beside_next xs place beside) (beside_next ys place beside)
beside_shape xs ys place Stays same = same
beside_shape xs ys place (Comes node) same = come_shape xs ys (place + 1) node node (same_shape node) same
beside_shape xs ys place (Moves node) same = set_shape (place + 1) xs ys node node (same_shape node) same
beside_shape xs ys place Goes same = append_shape (take (place + 1) xs) (take (place + 1) ys) (drop (suc (place + 1)) xs) (drop (suc (place + 1)) ys) (take_shape (place + 1) xs ys same) (drop_shape (suc (place + 1)) xs ys same)
beside_shape xs ys place (Under low high) same = same_shapes (low ∷ high ∷ [])

pub fits_first : (spine : Spine) (plan : Plan) (first : Leaf) (second : Option Leaf) → Fits spine plan → Fits spine (record plan { first = first; second = second })
fits_first spine plan first second f =
    record { leaves_fit = f.leaves_fit; spare = f.spare; node = f.node; there = f.there; takes = f.takes; root_takes = f.root_takes; alone = f.alone; stands = f.stands; tree = f.tree; end = f.end }

pub fits_bottom : (spine : Spine) (plan : Plan) (a b : Inner) → plan.bottom ≡ Move a → SameShape a b → Fits spine plan → Fits spine (record plan { bottom = Move b })
fits_bottom spine plan a b is same fits =
    let f = subst (λ (ch : NodeChange). Fits spine (record plan { bottom = ch })) is fits in
    let root = root_moved spine.root spine.below a b plan.top same in
    record {
      leaves_fit = f.leaves_fit;
      spare = f.spare;
      node = f.node;
      there = f.there;
      takes = tt;
      root_takes = f.root_takes;
      alone = f.alone;
      stands = f.stands;
      tree = spine_shape spine.geometry (root_next spine.root spine.below (Move a) plan.top) (root_next spine.root spine.below (Move b) plan.top) (below_next spine.below plan.place (Move a) plan.beside) (below_next spine.below plan.place (Move b) plan.beside)
          (leaves_next spine.leaves plan.leaves) root (beside_shape (nodes_next spine.below plan.place (Move a)) (nodes_next spine.below plan.place (Move b)) plan.place plan.beside (nodes_moved spine.below plan.place a b same)) f.tree;
      end = root.end ∙ f.end;
    }

pub fits_top : (spine : Spine) (plan : Plan) (a b : Inner) → plan.top ≡ Some (Move a) → SameShape a b → Fits spine plan → Fits spine (record plan { top = Some (Move b) })
fits_top spine plan a b is same fits =
    let f = subst (λ (t : Option NodeChange). Fits spine (record plan { top = t })) is fits in
    let root = top_moved spine.root spine.below plan.bottom a b same in
    record {
      leaves_fit = f.leaves_fit;
      spare = f.spare;
      node = f.node;
      there = f.there;
      takes = f.takes;
      root_takes = tt;
      alone = λ none. let no : Some (Move a) ≡ None = f.alone none in absurd (cc);
      stands = f.stands;
      tree = spine_shape spine.geometry (root_next spine.root spine.below plan.bottom (Some (Move a))) (root_next spine.root spine.below plan.bottom (Some (Move b))) (below_next spine.below plan.place plan.bottom plan.beside) (below_next spine.below plan.place plan.bottom plan.beside)
          (leaves_next spine.leaves plan.leaves) root (same_shapes (below_next spine.below plan.place plan.bottom plan.beside)) f.tree;
      end = root.end ∙ f.end;
    }

-- ---- what a write leaves

pub on_ok : {A E : Type 0} (r : Result A E) (P Q : Type 0) → (P → Q) → OnOk r P → OnOk r Q
on_ok (Ok x) P Q so is = so is
on_ok (Err e) P Q so is = tt

pub fits_moved : {A E : Type 0} (r : Result A E) (g : Geometry) (spine : Spine) (plan : Plan) (new : NodeChange) → OnOk r (HasMoved g plan.bottom new) → OnErr r (new ≡ plan.bottom) → Fits spine plan → Fits spine (record plan { bottom = new })
fits_moved (Ok x) g spine plan new (a, b, was, is, taken) kept fits =
    subst (λ (ch : NodeChange). Fits spine (record plan { bottom = ch })) (sym is) (fits_bottom spine plan a b was (taken_shape (set_sectors g (children_set a)) a b taken) fits)
fits_moved (Err e) g spine plan new written kept fits = subst (λ (ch : NodeChange). Fits spine (record plan { bottom = ch })) (sym kept) fits

pub fits_root : {A E : Type 0} (r : Result A E) (g : Geometry) (spine : Spine) (plan : Plan) (new : Option NodeChange)
    → OnOk r ((a : NodeChange) × (b : NodeChange) × (plan.top ≡ Some a) × (new ≡ Some b) × HasMoved g a b) → OnErr r (new ≡ plan.top) → Fits spine plan → Fits spine (record plan { top = new })
fits_root (Ok x) g spine plan new (a, b, was, is, (from, to, old_is, new_is, taken)) kept fits =
    subst (λ (t : Option NodeChange). Fits spine (record plan { top = t })) (sym (is ∙ ap (λ (ch : NodeChange). Some ch) new_is))
    (fits_top spine plan from to (was ∙ ap (λ (ch : NodeChange). Some ch) old_is) (taken_shape (set_sectors g (children_set from)) from to taken) fits)
fits_root (Err e) g spine plan new written kept fits = subst (λ (t : Option NodeChange). Fits spine (record plan { top = t })) (sym kept) fits

-- ---- a node that stands beside is written

behind_shape : (xs : List Inner) (place : ℕ) (beside : Beside) (a b : Inner) → behind_of beside ≡ Some a → SameShape a b → SameShapes (beside_next xs place beside) (beside_next xs place (with_behind beside b))
behind_shape xs place Stays a b is same = absurd (cc)
behind_shape xs place (Comes node) a b is same = let one : node ≡ a = cc in come_shape xs xs (place + 1) node b (subst (λ (n : Inner). SameShape n b) (sym one) same) (same_shapes xs)
behind_shape xs place (Moves node) a b is same = let one : node ≡ a = cc in set_shape (place + 1) xs xs node b (subst (λ (n : Inner). SameShape n b) (sym one) same) (same_shapes xs)
behind_shape xs place Goes a b is same = absurd (cc)
behind_shape xs place (Under low high) a b is same = let one : high ≡ a = cc in (same_shape low, (subst (λ (n : Inner). SameShape n b) (sym one) same, tt))

behind_stands : (count room place : ℕ) (beside : Beside) (b : Inner) → CanStand count room place beside → CanStand count room place (with_behind beside b)
behind_stands count room place Stays b stands = stands
behind_stands count room place (Comes node) b stands = stands
behind_stands count room place (Moves node) b stands = stands
behind_stands count room place Goes b stands = stands
behind_stands count room place (Under low high) b stands = stands

pub fits_behind : (spine : Spine) (plan : Plan) (a b : Inner) → behind_of plan.beside ≡ Some a → SameShape a b → Fits spine plan → Fits spine (record plan { beside = with_behind plan.beside b })
fits_behind spine plan a b is same f = record {
  leaves_fit = f.leaves_fit;
  spare = f.spare;
  node = f.node;
  there = f.there;
  takes = f.takes;
  root_takes = f.root_takes;
  alone = f.alone;
  stands = behind_stands (length spine.below) spine.room plan.place plan.beside b f.stands;
  tree = spine_shape spine.geometry (root_next spine.root spine.below plan.bottom plan.top) (root_next spine.root spine.below plan.bottom plan.top) (below_next spine.below plan.place plan.bottom plan.beside)
      (below_next spine.below plan.place plan.bottom (with_behind plan.beside b)) (leaves_next spine.leaves plan.leaves) (same_shape (root_next spine.root spine.below plan.bottom plan.top))
      (behind_shape (nodes_next spine.below plan.place plan.bottom) plan.place plan.beside a b is same) f.tree;
  end = f.end;
}

lowest_shape : (xs : List Inner) (place : ℕ) (beside : Beside) (a b : Inner) → lowest_of beside ≡ Some a → SameShape a b → SameShapes (beside_next xs place beside) (beside_next xs place (with_lowest beside b))
lowest_shape xs place Stays a b is same = absurd (cc)
lowest_shape xs place (Comes node) a b is same = absurd (cc)
lowest_shape xs place (Moves node) a b is same = absurd (cc)
lowest_shape xs place Goes a b is same = absurd (cc)
lowest_shape xs place (Under low high) a b is same = let one : low ≡ a = cc in (subst (λ (n : Inner). SameShape n b) (sym one) same, (same_shape high, tt))

lowest_stands : (count room place : ℕ) (beside : Beside) (b : Inner) → CanStand count room place beside → CanStand count room place (with_lowest beside b)
lowest_stands count room place Stays b stands = stands
lowest_stands count room place (Comes node) b stands = stands
lowest_stands count room place (Moves node) b stands = stands
lowest_stands count room place Goes b stands = stands
lowest_stands count room place (Under low high) b stands = stands

pub fits_lowest : (spine : Spine) (plan : Plan) (a b : Inner) → lowest_of plan.beside ≡ Some a → SameShape a b → Fits spine plan → Fits spine (record plan { beside = with_lowest plan.beside b })
fits_lowest spine plan a b is same f = record {
  leaves_fit = f.leaves_fit;
  spare = f.spare;
  node = f.node;
  there = f.there;
  takes = f.takes;
  root_takes = f.root_takes;
  alone = f.alone;
  stands = lowest_stands (length spine.below) spine.room plan.place plan.beside b f.stands;
  tree = spine_shape spine.geometry (root_next spine.root spine.below plan.bottom plan.top) (root_next spine.root spine.below plan.bottom plan.top) (below_next spine.below plan.place plan.bottom plan.beside)
      (below_next spine.below plan.place plan.bottom (with_lowest plan.beside b)) (leaves_next spine.leaves plan.leaves) (same_shape (root_next spine.root spine.below plan.bottom plan.top))
      (lowest_shape (nodes_next spine.below plan.place plan.bottom) plan.place plan.beside a b is same) f.tree;
  end = f.end;
}

-- ---- such a node fits in one set

inserted_there : (xs : List Inner) (i : ℕ) (x : Inner) → i ≤ length xs → slice_get (insert xs i x) i ≡ Some x
inserted_there xs zero x within = refl
inserted_there [] (suc i) x within = absurd (omega arith)
inserted_there (y ∷ xs) (suc i) x within = inserted_there xs i x (omega arith)

set_at : (xs : List Inner) (i : ℕ) (x : Inner) → i < length xs → slice_get (set xs i x) i ≡ Some x
set_at [] i x within = absurd (omega arith)
set_at (y ∷ xs) zero x within = refl
set_at (y ∷ xs) (suc i) x within = set_at xs i x (omega arith)

nodes_long : (nodes : List Inner) (place : ℕ) (change : NodeChange) → length (nodes_next nodes place change) ≡ length nodes
nodes_long [] place change = refl
nodes_long (m ∷ nodes) zero change = refl
nodes_long (m ∷ nodes) (suc place) change = ap suc (nodes_long nodes place change)

behind_there : (xs : List Inner) (place count room : ℕ) (beside : Beside) (a : Inner) → count ≡ length xs → CanStand count room place beside → behind_of beside ≡ Some a → (i : ℕ) × (slice_get (beside_next xs place beside) i ≡ Some a)
behind_there xs place count room Stays a long stands is = absurd (cc)
behind_there xs place count room (Comes node) a long stands is = (place + 1, inserted_there xs (place + 1) node (omega (arith, long, stands.0)) ∙ is)
behind_there xs place count room (Moves node) a long stands is = (place + 1, set_at xs (place + 1) node (omega (arith, long, stands)) ∙ is)
behind_there xs place count room Goes a long stands is = absurd (cc)
behind_there xs place count room (Under low high) a long stands is = (1, is)

pub behind_fits : (spine : Spine) (plan : Plan) (a : Inner) → Fits spine plan → behind_of plan.beside ≡ Some a → bytes_of (children_set a) ≤ 512 * spine.geometry.node_sectors
behind_fits spine plan a f is =
    let at = behind_there (nodes_next spine.below plan.place plan.bottom) plan.place (length spine.below) spine.room plan.beside a (sym (nodes_long spine.below plan.place plan.bottom)) f.stands is in
    (all_at (IsProper spine.geometry) (below_next spine.below plan.place plan.bottom plan.beside) at.0 a f.tree.inner.proper at.1).fits

pub lowest_fits : (spine : Spine) (plan : Plan) (a : Inner) → Fits spine plan → lowest_of plan.beside ≡ Some a → bytes_of (children_set a) ≤ 512 * spine.geometry.node_sectors
lowest_fits spine plan a f is = go plan.beside refl is
  where
    go : (beside : Beside) → plan.beside ≡ beside → lowest_of beside ≡ Some a → bytes_of (children_set a) ≤ 512 * spine.geometry.node_sectors
    go Stays at some = absurd (cc)
    go (Comes node) at some = absurd (cc)
    go (Moves node) at some = absurd (cc)
    go Goes at some = absurd (cc)
    go (Under low high) at some =
        let all = subst (λ (b : Beside). All (IsProper spine.geometry) (below_next spine.below plan.place plan.bottom b)) at f.tree.inner.proper in
        (all_at (IsProper spine.geometry) (low ∷ high ∷ []) 0 a all some).fits

pub behind_if : {A E : Type 0} (r : Result A E) (g : Geometry) (spine : Spine) (plan : Plan) (new : Beside)
    → OnOk r ((a : Inner) × (b : Inner) × (behind_of plan.beside ≡ Some a) × (new ≡ with_behind plan.beside b) × HasTaken (set_sectors g (children_set a)) a b) → OnErr r (new ≡ plan.beside) → Fits spine plan → Fits spine (record plan { beside = new })
behind_if (Ok x) g spine plan new (a, b, was, is, taken) kept fits =
    subst (λ (w : Beside). Fits spine (record plan { beside = w })) (sym is) (fits_behind spine plan a b was (taken_shape (set_sectors g (children_set a)) a b taken) fits)
behind_if (Err e) g spine plan new written kept fits = subst (λ (w : Beside). Fits spine (record plan { beside = w })) (sym kept) fits

pub lowest_if : {A E : Type 0} (r : Result A E) (g : Geometry) (spine : Spine) (plan : Plan) (new : Beside)
    → OnOk r ((a : Inner) × (b : Inner) × (lowest_of plan.beside ≡ Some a) × (new ≡ with_lowest plan.beside b) × HasTaken (set_sectors g (children_set a)) a b) → OnErr r (new ≡ plan.beside) → Fits spine plan → Fits spine (record plan { beside = new })
lowest_if (Ok x) g spine plan new (a, b, was, is, taken) kept fits =
    subst (λ (w : Beside). Fits spine (record plan { beside = w })) (sym is) (fits_lowest spine plan a b was (taken_shape (set_sectors g (children_set a)) a b taken) fits)
lowest_if (Err e) g spine plan new written kept fits = subst (λ (w : Beside). Fits spine (record plan { beside = w })) (sym kept) fits
