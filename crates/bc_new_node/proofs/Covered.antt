-- The children of an inner node that a plan brings are in order, as those of each node of a tree.
use Rattle.std.proofs.Common.{◌≡◌, ℕ, zero, suc, ◌+◌, ◌<◌, ◌≤◌, List, [], ◌∷◌, length, set, Option, Some, refl, sym, ap, ◌∙◌, subst, arith}
use Rattle.std.specs.List.{insert, remove}
use Rattle.std.specs.Prelude.{All, slice_get}
use Rattle.bc_inner.specs.Inner.{Inner}
use Rattle.bc_new_node.specs.Kind.{IsInnerOf}
use Rattle.bc_plan.specs.Write.{behind_of, lowest_of}
use Rattle.bc_plan.specs.declared.write.NewNode.{NewNode}
use Rattle.bc_plan.specs.declared.write.NewNode.TheVariants.{Behind, First, Lowest, Parent, Root, Second}
use Rattle.bc_set.specs.SetBytes.{AreSetKeys}
use Rattle.bc_set.specs.declared.set.SetKind.TheVariants.{Children}
use Rattle.bc_tree.proofs.Moves.{all_at}
use Rattle.bc_tree.specs.Group.{CanStand}
use Rattle.bc_tree.specs.Next.{below_next, beside_next, nodes_next, root_next}
use Rattle.bc_tree.specs.Plan.{Fits}
use Rattle.bc_tree.specs.Spine.{Covers, Spine, bottom}
use Rattle.bc_tree.specs.declared.beside.Beside.{Beside}
use Rattle.bc_tree.specs.declared.beside.Beside.TheVariants.{Comes, Goes, Moves, Stays, Under}
use Rattle.bc_tree.specs.declared.change.NodeChange.{NodeChange}
use Rattle.bc_tree.specs.declared.change.NodeChange.TheVariants.{Move}
use Rattle.bc_tree.specs.declared.plan.Plan.{Plan}

-- ---- where they stand behind the change

moved_there : (nodes : List Inner) (place : ℕ) (node next : Inner)
    → slice_get nodes place ≡ Some node
    → slice_get (nodes_next nodes place (Move next)) place ≡ Some next
moved_there [] place node next there = absurd (cc)
moved_there (m ∷ nodes) zero node next there = refl
moved_there (m ∷ nodes) (suc place) node next there = moved_there nodes place node next there

-- what comes behind a place leaves it
insert_behind : (xs : List Inner) (i : ℕ) (x node : Inner) → slice_get xs i ≡ Some node
    → slice_get (insert xs (i + 1) x) i ≡ Some node
insert_behind [] i x node here = absurd (cc)
insert_behind (m ∷ xs) zero x node here = here
insert_behind (m ∷ xs) (suc i) x node here =
    let e : suc i + 1 ≡ suc (i + 1) = omega arith in
    ap (λ n. slice_get (insert (m ∷ xs) n x) (suc i)) e ∙ insert_behind xs i x node here

set_behind : (xs : List Inner) (i : ℕ) (x node : Inner) → slice_get xs i ≡ Some node
    → slice_get (set xs (i + 1) x) i ≡ Some node
set_behind [] i x node here = absurd (cc)
set_behind (m ∷ xs) zero x node here = here
set_behind (m ∷ xs) (suc i) x node here =
    let e : suc i + 1 ≡ suc (i + 1) = omega arith in
    ap (λ n. slice_get (set (m ∷ xs) n x) (suc i)) e ∙ set_behind xs i x node here

remove_behind : (xs : List Inner) (i : ℕ) (node : Inner) → slice_get xs i ≡ Some node
    → slice_get (remove xs (i + 1)) i ≡ Some node
remove_behind [] i node here = absurd (cc)
remove_behind (m ∷ xs) zero node here = here
remove_behind (m ∷ xs) (suc i) node here =
    let e : suc i + 1 ≡ suc (i + 1) = omega arith in
    ap (λ n. slice_get (remove (m ∷ xs) n) (suc i)) e ∙ remove_behind xs i node here

still_there : (xs : List Inner) (place count room : ℕ) (beside : Beside) (node : Inner)
    → slice_get xs place ≡ Some node → CanStand count room place beside → 0 < count
    → slice_get (beside_next xs place beside) place ≡ Some node
still_there xs place count room Stays node there stands some = there
still_there xs place count room (Comes other) node there stands some =
    insert_behind xs place other node there
still_there xs place count room (Moves other) node there stands some =
    set_behind xs place other node there
still_there xs place count room Goes node there stands some = remove_behind xs place node there
still_there xs place count room (Under low high) node there stands some =
    absurd (omega (arith, stands.0, some))

inserted_there : (xs : List Inner) (i : ℕ) (x : Inner) → i ≤ length xs
    → slice_get (insert xs i x) i ≡ Some x
inserted_there xs zero x within = refl
inserted_there [] (suc i) x within = absurd (omega (arith, within))
inserted_there (y ∷ xs) (suc i) x within = inserted_there xs i x (omega (arith, within))

set_at : (xs : List Inner) (i : ℕ) (x : Inner) → i < length xs → slice_get (set xs i x) i ≡ Some x
set_at [] i x within = absurd (omega (arith, within))
set_at (y ∷ xs) zero x within = refl
set_at (y ∷ xs) (suc i) x within = set_at xs i x (omega (arith, within))

nodes_long : (nodes : List Inner) (place : ℕ) (change : NodeChange)
    → length (nodes_next nodes place change) ≡ length nodes
nodes_long [] place change = refl
nodes_long (m ∷ nodes) zero change = refl
nodes_long (m ∷ nodes) (suc place) change = ap suc (nodes_long nodes place change)

behind_there : (xs : List Inner) (place count room : ℕ) (beside : Beside) (a : Inner)
    → count ≡ length xs → CanStand count room place beside → behind_of beside ≡ Some a
    → (i : ℕ) × (slice_get (beside_next xs place beside) i ≡ Some a)
behind_there xs place count room Stays a long stands is = absurd (cc)
behind_there xs place count room (Comes node) a long stands is = (
  place + 1,
  inserted_there xs (place + 1) node (omega (arith, long, stands.0)) ∙ is,
)
behind_there xs place count room (Moves node) a long stands is = (
  place + 1,
  set_at xs (place + 1) node (omega (arith, long, stands)) ∙ is,
)
behind_there xs place count room Goes a long stands is = absurd (cc)
behind_there xs place count room (Under low high) a long stands is = (1, is)

-- ---- they cover their ranges

parent_covers : (spine : Spine) (plan : Plan) (next : Inner) → Fits spine plan
    → plan.bottom ≡ Move next → Covers next
parent_covers spine plan next fits is = go spine.below
    (subst (λ (ch : NodeChange). Fits spine (record plan { bottom = ch })) is fits) refl
  where
    go : (below : List Inner) → Fits spine (record plan { bottom = Move next })
        → spine.below ≡ below → Covers next
    go [] f none =
        subst (λ (ns : List Inner). Covers (root_next spine.root ns (Move next) plan.top)) none
        f.tree.cover.0
    go (m ∷ nodes) f some =
        let there = subst (λ (ns : List Inner).
        slice_get (bottom spine.root ns) plan.place ≡ Some f.node) some f.there in
        all_at Covers (below_next spine.below plan.place (Move next) plan.beside) plan.place next
        f.tree.cover.1
        (still_there (nodes_next spine.below plan.place (Move next)) plan.place
        (length spine.below) spine.room plan.beside next
        (subst (λ (ns : List Inner). slice_get (nodes_next ns plan.place (Move next)) plan.place
        ≡ Some next) (sym some) (moved_there (m ∷ nodes) plan.place f.node next there))
        f.stands (omega (arith, ap (λ (ns : List Inner). length ns) some)))

root_covers : (spine : Spine) (plan : Plan) (next : Inner) → Fits spine plan
    → plan.top ≡ Some (Move next) → Covers next
root_covers spine plan next fits is = go spine.below
    (subst (λ (t : Option NodeChange). Fits spine (record plan { top = t })) is fits) refl
  where
    go : (below : List Inner) → Fits spine (record plan { top = Some (Move next) })
        → spine.below ≡ below → Covers next
    go [] f none = absurd (let gone = f.alone (ap (λ (ns : List Inner). length ns) none) in cc)
    go (m ∷ nodes) f some =
        subst (λ (ns : List Inner). Covers (root_next spine.root ns plan.bottom (Some (Move next))))
        some f.tree.cover.0

behind_covers : (spine : Spine) (plan : Plan) (a : Inner) → Fits spine plan
    → behind_of plan.beside ≡ Some a → Covers a
behind_covers spine plan a f is =
    let at = behind_there (nodes_next spine.below plan.place plan.bottom) plan.place
    (length spine.below) spine.room plan.beside a
    (sym (nodes_long spine.below plan.place plan.bottom)) f.stands is in
    all_at Covers (below_next spine.below plan.place plan.bottom plan.beside) at.0 a f.tree.cover.1
    at.1

lowest_covers : (spine : Spine) (plan : Plan) (a : Inner) → Fits spine plan
    → lowest_of plan.beside ≡ Some a → Covers a
lowest_covers spine plan a f is = go plan.beside refl is
  where
    go : (beside : Beside) → plan.beside ≡ beside → lowest_of beside ≡ Some a → Covers a
    go Stays at some = absurd (cc)
    go (Comes node) at some = absurd (cc)
    go (Moves node) at some = absurd (cc)
    go Goes at some = absurd (cc)
    go (Under low high) at some =
        let all = subst (λ (b : Beside). All Covers (below_next spine.below plan.place plan.bottom b))
        at f.tree.cover.1 in all_at Covers (low ∷ high ∷ []) 0 a all some

covers_by : (spine : Spine) (p : Plan) (node : NewNode) (n : Inner) → Fits spine p
    → IsInnerOf p node n → Covers n
covers_by spine p First n fits is = absurd is
covers_by spine p Second n fits is = absurd is
covers_by spine p Parent n fits is = parent_covers spine p n fits is
covers_by spine p Root n fits is = root_covers spine p n fits is
covers_by spine p Behind n fits is = behind_covers spine p n fits is
covers_by spine p Lowest n fits is = lowest_covers spine p n fits is

pub proper_children : (spine : Spine) (p : Plan) (node : NewNode) (n : Inner) → Fits spine p
    → IsInnerOf p node n → AreSetKeys Children n.children
proper_children spine p node n fits is = record {
  each = tt;
  order = (covers_by spine p node n fits is).order;
}
