-- How many places a plan has to be given, and how many nodes move.
use Rattle.std.proofs.Common.{◌≡◌, ◌==◌, ◌∙◌, inl, inr, ℕ, ◌+◌, ◌*◌, Bool, true, false, List, [], ◌∷◌, Option, ap, eq-eqb, refl, sym, subst, arith, if◌then◌else◌}
use Rattle.std.specs.Prelude.{◌&&◌}
use Rattle.std.proofs.lemmas.Bool.{le-leb}
use Rattle.std.proofs.lemmas.Bool.Decides.{eqb_tells}
use Rattle.bc_disk.specs.declared.geometry.Geometry.{Geometry}
use Rattle.bc_inner.specs.Inner.{Inner}
use Rattle.bc_tree.specs.Needs.{IsNeeded, fits_node, has_room, needs, rewrite_needs, takes_set, with_parent, words}
use Rattle.bc_tree.specs.Change.{IsChangeOf, set_words}
use Rattle.bc_tree.specs.Plan.{IsAbove, IsTopChange, moved_count, moves, top_count}
use Rattle.bc_tree.specs.Spine.{IsPlaceAt, IsProper, IsRootOf, IsSpine, Spine}
use Rattle.bc_key.specs.declared.key.Key.{Key}
use Rattle.bc_key.specs.declared.ptr.Ptr.{Ptr}
use Rattle.bc_tree.specs.declared.change.NodeChange.{NodeChange}
use Rattle.bc_tree.specs.declared.change.NodeChange.TheVariants.{Move, Set}
use Rattle.bc_tree.specs.declared.needs.Needs.{Needs}
use Rattle.bc_tree.proofs.Coming.{three_words}
use Rattle.bc_tree.specs.declared.place.LeafPlace.{LeafPlace}
use Rattle.bc_tree.proofs.Moves.{parent_at, proper_at, same_parent}

-- as many as this
abbrev pub total : Needs → ℕ
total n = n.tree + n.moving

-- the children of a node fit in it
pub fits_now : (g : Geometry) (node : Inner) → IsProper g node → fits_node g (words node.children + 0) ≡ true
fits_now g node proper = le-leb (32 + 8 * (words node.children + 0)) (512 * g.node_sectors) (omega (arith, proper.fits))

counted : (a b d f r : Bool) (t u : ℕ) → f ≡ true → r ≡ true
    → total (if a && f then needs t u else if b then needs t (u + 1) else if d && r then needs t (u + 1) else needs t (u + 1 + 1)) ≡ t + u + (if a then 0 else if b then 1 else if d then 1 else 2)
counted a b d false r t u fits root = absurd (cc)
counted a b d true false t u fits root = absurd (cc)
counted true b d true true t u fits root = omega arith
counted false true d true true t u fits root = omega arith
counted false false true true true t u fits root = omega arith
counted false false false true true t u fits root = omega arith

-- the new nodes, where the parent takes a set of n words or moves
pub low_count : (s : Spine) (p : Inner) (n more t u : ℕ) → IsProper s.geometry s.root → fits_node s.geometry (words p.children + more) ≡ true
    → total (if takes_set s.geometry p n more then needs t u else with_parent s t u) ≡ t + u + moves s p n
low_count s p n more t u proper fits =
    counted (has_room s.geometry p n) (s.root.level == 1) (has_room s.geometry s.root 3) (fits_node s.geometry (words p.children + more)) (fits_node s.geometry (words s.root.children + 0)) t u fits (fits_now s.geometry s.root proper)

pub rewrite_count : (s : Spine) (p : Inner) → IsProper s.geometry s.root → IsProper s.geometry p → total (rewrite_needs s p) ≡ 1 + moves s p 3
rewrite_count s p root proper = omega (arith, low_count s p 3 0 0 1 root (fits_now s.geometry p proper))

pub rewrite_places : (s : Spine) (sector : ℕ) (place : LeafPlace) (k : ℕ) (is : IsPlaceAt s sector place) → IsSpine s.geometry s.root s.below s.leaves → (n : Needs) × IsNeeded (rewrite_needs s) s sector n × (k ≡ n.tree + n.moving)
    → k ≡ 1 + moves s is.parent 3
rewrite_places s sector place k is spine (n, (p, held, needed), count) =
    let same = same_parent s sector p is.parent spine held (parent_at s sector place is) in
    count ∙ ap total (needed ∙ ap (rewrite_needs s) same) ∙ rewrite_count s is.parent spine.inner.root_is_proper (proper_at s place.node is.parent spine is.node)

-- ---- how many nodes move

moves_of : (s : Spine) (node : Inner) (n : ℕ) (a b d : Bool) → has_room s.geometry node n ≡ a → (s.root.level == 1) ≡ b → has_room s.geometry s.root 3 ≡ d → moves s node n ≡ (if a then 0 else if b then 1 else if d then 1 else 2)
moves_of s node n a b d one two three = rw (one, two, three) refl

pub low_level : (root : Inner) (below : List Inner) → IsRootOf root below → below ≡ [] → (root.level == 1) ≡ true
low_level root below is none = let level : root.level ≡ 1 = subst (λ (ns : List Inner). IsRootOf root ns) none is in eq-eqb root.level 1 level

pub high_level : (root m : Inner) (nodes below : List Inner) → IsRootOf root below → below ≡ m ∷ nodes → (root.level == 1) ≡ false
high_level root m nodes below is some =
    let level = (subst (λ (ns : List Inner). IsRootOf root ns) some is).0 in
    elim (eqb_tells root.level 1) [
      | inl t ↦ absurd (omega (arith, level, t.1))
      | inr t ↦ t.0
    ]

moved_is-by : (s : Spine) (below : List Inner) (node : Inner) (place at gone : ℕ) (come : List Key) (to : List Ptr) (seq : ℕ) (change : NodeChange) (top : Option NodeChange) → IsRootOf s.root s.below → s.below ≡ below
    → IsChangeOf s.geometry node at gone come to seq change → IsTopChange s.geometry s.root below place change to seq top → moved_count change + top_count top ≡ moves s node (set_words gone come)
moved_is-by s [] node place at gone come to seq (Set keys) top root none is above =
    let room : has_room s.geometry node (set_words gone come) ≡ true = ap (has_room s.geometry node) (sym is.size) ∙ is.room in
    ap (λ (t : Option NodeChange). 0 + top_count t) above ∙ sym (moves_of s node (set_words gone come) true (s.root.level == 1) (has_room s.geometry s.root 3) room refl refl)
moved_is-by s (m ∷ nodes) node place at gone come to seq (Set keys) top root some is above =
    let room : has_room s.geometry node (set_words gone come) ≡ true = ap (has_room s.geometry node) (sym is.size) ∙ is.room in
    ap (λ (t : Option NodeChange). 0 + top_count t) above ∙ sym (moves_of s node (set_words gone come) true (s.root.level == 1) (has_room s.geometry s.root 3) room refl refl)
moved_is-by s [] node place at gone come to seq (Move next) top root none is above =
    ap (λ (t : Option NodeChange). 1 + top_count t) above ∙ sym (moves_of s node (set_words gone come) false true (has_room s.geometry s.root 3) is.0 (low_level s.root s.below root none) refl)
moved_is-by s (m ∷ nodes) node place at gone come to seq (Move next) top root some is (Set keys, key, top_is, names, changed) =
    let room : has_room s.geometry s.root 3 ≡ true = ap (has_room s.geometry s.root) (sym (changed.size ∙ three_words key names.one)) ∙ changed.room in
    ap (λ (t : Option NodeChange). 1 + top_count t) top_is ∙ sym (moves_of s node (set_words gone come) false false true is.0 (high_level s.root m nodes s.below root some) room)
moved_is-by s (m ∷ nodes) node place at gone come to seq (Move next) top root some is (Move over, key, top_is, names, changed) =
    let room : has_room s.geometry s.root 3 ≡ false = ap (has_room s.geometry s.root) (sym (three_words key names.one)) ∙ changed.0 in
    ap (λ (t : Option NodeChange). 1 + top_count t) top_is ∙ sym (moves_of s node (set_words gone come) false false false is.0 (high_level s.root m nodes s.below root some) room)

pub moved_is : (s : Spine) (node : Inner) (place at gone : ℕ) (come : List Key) (to : List Ptr) (seq : ℕ) (change : NodeChange) (top : Option NodeChange) → IsSpine s.geometry s.root s.below s.leaves
    → IsAbove s node place at gone come to seq change top → moved_count change + top_count top ≡ moves s node (set_words gone come)
moved_is s node place at gone come to seq change top spine is = moved_is-by s s.below node place at gone come to seq change top spine.inner.root_of refl is.change_is is.top_is
