-- Inner nodes in a row, and the leaves that they name.
use Rattle.std.proofs.Common.{◌≡◌, ◌==◌, inl, inr, ℕ, true, false, zero, suc, ◌+◌, ◌%◌, ◌<◌, ◌≤◌, List, [], ◌∷◌, ◌++◌, length, get_or, take, refl, sym, subst, ap, ◌∙◌, arith, append-nil}
use Rattle.std.specs.Prelude.{All, Any, Contains}
use Rattle.std.specs.List.{AllWithin}
use Rattle.std.proofs.lemmas.Bool.{cases_lt}
use Rattle.std.proofs.lemmas.Bool.Decides.{eqb_tells}
use Rattle.std.proofs.lemmas.List.{append_assoc, take_more}
use Rattle.std.proofs.lemmas.List.Elements.{All-append, All-cons, All-nil}
use Rattle.bc_inner.specs.Inner.{Inner, CoverRange}
use Rattle.bc_key.specs.Key.{ptr_at}
use Rattle.bc_key.specs.declared.key.Key.{Key}
use Rattle.bc_key.specs.declared.ptr.Ptr.{Ptr}
use Rattle.bc_spine.specs.Leaves.{AreCounted, IsPushed, Leaves}
use Rattle.bc_spine.specs.declared.leaf.LeafRange.{LeafRange}
use Rattle.bc_tree.specs.Children.{AreByEnd}
use Rattle.bc_tree.specs.Spine.{AreInRow, Covers, HaveCome, IsRootOf, NameLeaves, NameNodes, Rise, bottom, children_in, last_end, row_end}

-- ---- children that cover a range

rises : (from : ℕ) (keys : List Key) → AreByEnd keys → All (λ c. from < c.end) keys → All (λ c. c.end % 256 ≡ 0) keys → Rise from keys
rises from [] order above multiples = tt
rises from (key ∷ keys) order above multiples = (
  above 0 key (omega arith),
  multiples 0 key (omega arith),
  rises key.end keys (λ i j d before inside. order (suc i) (suc j) d (omega arith) (omega (arith, inside))) (λ k d inside. order 0 (suc k) d (omega arith) (omega (arith, inside))) (λ k d inside. multiples (suc k) d (omega (arith, inside))),
)

reaches : (from end : ℕ) (keys : List Key) → AreByEnd keys → All (λ c. c.end ≤ end) keys → Any (λ c. c.end ≡ end) keys → last_end from keys ≡ end
reaches from end [] order within some = absurd (omega (arith, some.2))
reaches from end (key ∷ []) order within (zero, x, inside, is, end_is) = ap (λ (k : Key). k.end) is ∙ end_is
reaches from end (key ∷ []) order within (suc k, x, inside, is, end_is) = absurd (omega (arith, inside))
reaches from end (key ∷ (next ∷ keys)) order within (zero, x, inside, is, end_is) =
    let less = order 0 1 key (omega arith) (omega arith) in
    let most = within 1 key (omega arith) in
    let same = ap (λ (k : Key). k.end) is in
    absurd (omega (arith, less, most, same, end_is))
reaches from end (key ∷ (next ∷ keys)) order within (suc k, x, inside, is, end_is) =
    reaches key.end end (next ∷ keys) (λ i j d before low. order (suc i) (suc j) d (omega arith) (omega (arith, low))) (λ i d low. within (suc i) d (omega (arith, low))) (k, x, omega (arith, inside), is, end_is)

pub cover_rises : (from end : ℕ) (keys : List Key) → CoverRange from end keys → Rise from keys
cover_rises from end keys cover = rises from keys cover.order (λ k d inside. (cover.within k d inside).0) cover.multiples

pub cover_ends : (from end : ℕ) (keys : List Key) → CoverRange from end keys → last_end from keys ≡ end
cover_ends from end keys cover = reaches from end keys cover.order (λ k d inside. (cover.within k d inside).1) cover.reach

-- ---- one leaf more

pub rise_at : (from : ℕ) (keys : List Key) (i : ℕ) (d : Key) → Rise from keys → i < length keys → (last_end from (take i keys) < (get_or keys i d).end) × ((get_or keys i d).end % 256 ≡ 0)
rise_at from [] i d rise inside = absurd (omega arith)
rise_at from (key ∷ keys) zero d rise inside = (rise.0, rise.1)
rise_at from (key ∷ keys) (suc i) d rise inside = rise_at key.end keys i d rise.2 (omega arith)

pub end_push : (from : ℕ) (keys : List Key) (key : Key) → last_end from (keys ++ key ∷ []) ≡ key.end
end_push from [] key = refl
end_push from (k ∷ keys) key = end_push k.end keys key

pub end_more : (from : ℕ) (keys : List Key) (i : ℕ) (d : Key) → i < length keys → last_end from (take (i + 1) keys) ≡ (get_or keys i d).end
end_more from keys i d inside = ap (last_end from) (take_more keys i d inside) ∙ end_push from (take i keys) (get_or keys i d)

names_push : (keys : List Key) (leaves : List LeafRange) (key : Key) (leaf : LeafRange) → NameLeaves keys leaves → leaf.end ≡ key.end → leaf.ptr ≡ ptr_at key 0 → NameLeaves (keys ++ key ∷ []) (leaves ++ leaf ∷ [])
names_push [] [] key leaf names end ptr = (end, ptr, tt)
names_push [] (l ∷ leaves) key leaf names end ptr = absurd names
names_push (k ∷ keys) [] key leaf names end ptr = absurd names
names_push (k ∷ keys) (l ∷ leaves) key leaf names end ptr = (names.0, names.1, names_push keys leaves key leaf names.2 end ptr)

pub none_come : (old : Leaves) → AreCounted 0 old.leaves → HaveCome [] old old
none_come old counted = record { names = λ before names. subst (λ ks. NameLeaves ks old.leaves) (sym (append-nil before)) names; counted = counted }

pub one_comes : (keys : List Key) (i : ℕ) (d : Key) (old mid new : Leaves) (end : ℕ) (ptr : Ptr) → i < length keys → HaveCome (take i keys) old mid → IsPushed mid new end ptr
    → end ≡ (get_or keys i d).end → ptr ≡ ptr_at (get_or keys i d) 0 → HaveCome (take (i + 1) keys) old new
one_comes keys i d old mid new end ptr inside come push end_is ptr_is = record {
  names = λ before names.
      subst (λ ls. NameLeaves (before ++ take (i + 1) keys) ls) (sym push.leaves)
      (subst (λ ks. NameLeaves ks (mid.leaves ++ push.leaf ∷ []))
      (append_assoc before (take i keys) (get_or keys i d ∷ []) ∙ ap (λ ks. before ++ ks) (sym (take_more keys i d inside)))
      (names_push (before ++ take i keys) mid.leaves (get_or keys i d) push.leaf (come.names before names) (push.ends ∙ end_is) (push.stands ∙ ptr_is)));
  counted = push.counted;
}

-- ---- the leaves of one node more

pub begins_at : (from : ℕ) (nodes : List Inner) (i : ℕ) (d : Inner) → AreInRow from nodes → i < length nodes → (get_or nodes i d).from ≡ row_end from (take i nodes)
begins_at from [] i d row inside = absurd (omega arith)
begins_at from (node ∷ nodes) zero d row inside = row.0
begins_at from (node ∷ nodes) (suc i) d row inside = begins_at node.end nodes i d row.1 (omega arith)

row_push : (from : ℕ) (nodes : List Inner) (node : Inner) → row_end from (nodes ++ node ∷ []) ≡ node.end
row_push from [] node = refl
row_push from (n ∷ nodes) node = row_push n.end nodes node

pub row_more : (from : ℕ) (nodes : List Inner) (i : ℕ) (d : Inner) → i < length nodes → row_end from (take (i + 1) nodes) ≡ (get_or nodes i d).end
row_more from nodes i d inside = ap (row_end from) (take_more nodes i d inside) ∙ row_push from (take i nodes) (get_or nodes i d)

children_push : (nodes : List Inner) (node : Inner) → children_in (nodes ++ node ∷ []) ≡ children_in nodes ++ node.children
children_push [] node = append-nil node.children
children_push (n ∷ nodes) node = ap (λ ks. n.children ++ ks) (children_push nodes node) ∙ sym (append_assoc n.children (children_in nodes) node.children)

pub children_more : (nodes : List Inner) (i : ℕ) (d : Inner) → i < length nodes → children_in (take (i + 1) nodes) ≡ children_in (take i nodes) ++ (get_or nodes i d).children
children_more nodes i d inside = ap children_in (take_more nodes i d inside) ∙ children_push (take i nodes) (get_or nodes i d)

pub more_come : (first second both : List Key) (old mid new : Leaves) → both ≡ first ++ second → HaveCome first old mid → HaveCome second mid new → HaveCome both old new
more_come first second both old mid new are come more = record {
  names = λ before names.
      subst (λ ks. NameLeaves ks new.leaves) (append_assoc before first second ∙ ap (λ ks. before ++ ks) (sym are))
      (more.names (before ++ first) (come.names before names));
  counted = more.counted;
}

pub covers_more : (nodes : List Inner) (i : ℕ) (d : Inner) → i < length nodes → All Covers (take i nodes) → Covers (get_or nodes i d) → All Covers (take (i + 1) nodes)
covers_more nodes i d inside all one =
    subst (All Covers) (sym (take_more nodes i d inside)) (All-append Covers (take i nodes) (get_or nodes i d ∷ []) all (All-cons Covers (get_or nodes i d) [] one (All-nil Covers)))

pub none_cover : (nodes : List Inner) → length nodes ≡ 0 → All Covers nodes
none_cover nodes none k d inside = absurd (omega (arith, none, inside))

-- ---- below a root

pub bottom_is : (root : Inner) (below : List Inner) → 0 < length below → bottom root below ≡ below
bottom_is root [] some = absurd (omega (arith, some))
bottom_is root (node ∷ nodes) some = refl

pub in_row : (from : ℕ) (keys : List Key) (nodes : List Inner) → NameNodes from keys nodes → AreInRow from nodes × (row_end from nodes ≡ last_end from keys)
in_row from [] [] names = (tt, refl)
in_row from [] (node ∷ nodes) names = absurd names
in_row from (key ∷ keys) [] names = absurd names
in_row from (key ∷ keys) (node ∷ nodes) names =
    let rest = in_row key.end keys nodes names.4 in
    ((names.1, subst (λ e. AreInRow e nodes) (sym names.2) rest.0), ap (λ e. row_end e nodes) names.2 ∙ rest.1)

-- the root names the nodes below it, where there are any
pub named : (root : Inner) (below : List Inner) → 0 < length below → IsRootOf root below → NameNodes root.from root.children below
named root [] some is = absurd (omega (arith, some))
named root (node ∷ nodes) some is = is.1

-- the node below that covers a sector is that of the child that does
pub covers_at : (from sector : ℕ) (keys : List Key) (nodes : List Inner) (i : ℕ) → NameNodes from keys nodes → from ≤ sector → AllWithin (λ c. c.end ≤ sector) keys 0 i → AllWithin (λ c. sector < c.end) keys i (length keys)
    → i < length keys → (i < length nodes) × ((d : Inner) → ((get_or nodes i d).from ≤ sector) × (sector < (get_or nodes i d).end))
covers_at from sector [] nodes i names begins low high inside = absurd (omega arith)
covers_at from sector (key ∷ keys) [] i names begins low high inside = absurd names
covers_at from sector (key ∷ keys) (node ∷ nodes) zero names begins low high inside =
    let above = high 0 key (omega arith) (omega arith) in
    (omega arith, λ d. (omega (arith, names.1, begins), omega (arith, names.2, above)))
covers_at from sector (key ∷ keys) (node ∷ nodes) (suc i) names begins low high inside =
    let below = low 0 key (omega arith) (omega arith) in
    let rest = covers_at key.end sector keys nodes i names.4 below (λ k d least less. low (suc k) d (omega arith) (omega (arith, less))) (λ k d least less. high (suc k) d (omega (arith, least)) (omega (arith, less))) (omega arith) in
    (omega (arith, rest.0), rest.1)

pub held_at : (root : Inner) (below : List Inner) (i : ℕ) (node : Inner) → i < length below → ((d : Inner) → get_or below i d ≡ node) → Contains (bottom root below) node
held_at root below i node inside is = subst (λ ns. Contains ns node) (sym (bottom_is root below (omega (arith, inside)))) (i, inside, is node)

pub root_held : (root : Inner) (below : List Inner) → length below ≡ 0 → Contains (bottom root below) root
root_held root [] none = (0, omega arith, refl)
root_held root (node ∷ nodes) none = absurd (omega (arith, none))

-- ---- where there are none below, or some

pub none_of : (n : ℕ) → (n == 0) ≡ true → n ≡ 0
none_of n is = elim (eqb_tells n 0) [
  | inl t ↦ t.1
  | inr t ↦ (let two : true ≡ false = sym is ∙ t.0 in absurd (cc))
]

pub some_of : (n : ℕ) → (n == 0) ≡ false → 0 < n
some_of n is = elim (eqb_tells n 0) [
  | inl t ↦ (let two : true ≡ false = sym t.0 ∙ is in absurd (cc))
  | inr t ↦ elim (cases_lt 0 n) [ inl less ↦ less | inr more ↦ absurd (t.1 (omega (arith, more))) ]
]

pub low_leaves : (root : Inner) (below : List Inner) (old new : Leaves) → length below ≡ 0 → old.leaves ≡ [] → HaveCome root.children old new → NameLeaves (children_in (bottom root below)) new.leaves
low_leaves root [] old new none empty come =
    subst (λ ks. NameLeaves ks new.leaves) (sym (append-nil root.children)) (come.names [] (subst (λ ls. NameLeaves [] ls) (sym empty) tt))
low_leaves root (node ∷ nodes) old new none empty come = absurd (omega (arith, none))

pub high_leaves : (root : Inner) (below : List Inner) (old new : Leaves) → 0 < length below → old.leaves ≡ [] → HaveCome (children_in below) old new → NameLeaves (children_in (bottom root below)) new.leaves
high_leaves root below old new some empty come =
    subst (λ ns. NameLeaves (children_in ns) new.leaves) (sym (bottom_is root below some)) (come.names [] (subst (λ ls. NameLeaves [] ls) (sym empty) tt))
