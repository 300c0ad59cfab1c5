-- The tree after a change.
use Rattle.std.proofs.Common.{◌≡◌, ℕ, zero, suc, ◌+◌, ◌≤◌, List, [], ◌∷◌, ◌++◌, length, take, drop, Some, refl, sym, subst, ap, ◌∙◌, arith, length-append}
use Rattle.std.specs.Prelude.{All, slice_get}
use Rattle.std.proofs.lemmas.Bool.{leb-true}
use Rattle.std.proofs.lemmas.List.{append_assoc}
use Rattle.std.proofs.lemmas.List.Elements.{All-append, All-cons, All-head, All-nil, All-tail}
use Rattle.bc_disk.specs.declared.geometry.Geometry.{Geometry}
use Rattle.bc_inner.specs.Inner.{CoverRange, Inner}
use Rattle.bc_key.specs.declared.key.Key.{Key}
use Rattle.bc_key.specs.declared.ptr.Ptr.{Ptr}
use Rattle.bc_spine.specs.declared.leaf.LeafRange.{LeafRange}
use Rattle.bc_tree.specs.Change.{CanChange, IsChangeOf}
use Rattle.bc_tree.specs.Children.{HasPointer, children_after}
use Rattle.bc_tree.specs.Needs.{words}
use Rattle.bc_tree.specs.Next.{node_next, nodes_next}
use Rattle.bc_tree.specs.Spine.{Covers, IsProper, NameLeaves, children_in}
use Rattle.bc_tree.specs.declared.change.NodeChange.{NodeChange}
use Rattle.bc_tree.specs.declared.change.NodeChange.TheVariants.{Move, Set}

-- ---- one node

-- what a change leaves of a node, but for its place and its children
pub record IsSuccessor (node next : Inner) (children : List Key) : Type 0 where
  pub level : next.level ≡ node.level
  pub from : next.from ≡ node.from
  pub end : next.end ≡ node.end
  pub children_are : next.children ≡ children

pub succeeds : (g : Geometry) (node : Inner) (at gone : ℕ) (come : List Key) (to : List Ptr) (seq : ℕ) (change : NodeChange) → IsChangeOf g node at gone come to seq change
    → IsSuccessor node (node_next node change) (children_after node.children at gone come)
succeeds g node at gone come to seq (Set keys) is = record { level = refl; from = refl; end = refl; children_are = is.put }
succeeds g node at gone come to seq (Move next) is = let m = is.1.2 in record { level = m.level; from = m.from; end = m.end; children_are = m.children_are }

pub take_all_of : (P : Key → Type 0) (n : ℕ) (xs : List Key) → All P xs → All P (take n xs)
take_all_of P zero xs all = All-nil P
take_all_of P (suc n) [] all = All-nil P
take_all_of P (suc n) (x ∷ xs) all = All-cons P x (take n xs) (All-head P x xs all) (take_all_of P n xs (All-tail P x xs all))

pub drop_all_of : (P : Key → Type 0) (n : ℕ) (xs : List Key) → All P xs → All P (drop n xs)
drop_all_of P zero xs all = all
drop_all_of P (suc n) [] all = All-nil P
drop_all_of P (suc n) (x ∷ xs) all = drop_all_of P n xs (All-tail P x xs all)

pub after_live : (xs come : List Key) (at gone : ℕ) → All HasPointer xs → All HasPointer come → All HasPointer (children_after xs at gone come)
after_live xs come at gone all more =
    All-append HasPointer (take at xs ++ come) (drop (at + gone) xs) (All-append HasPointer (take at xs) come (take_all_of HasPointer at xs all) more) (drop_all_of HasPointer (at + gone) xs all)

pub next_proper : (g : Geometry) (node next : Inner) (at gone : ℕ) (come : List Key) → CanChange g node at gone come → IsSuccessor node next (children_after node.children at gone come) → IsProper g next
next_proper g node next at gone come can is =
    let fits = leb-true _ _ can.fits in
    record {
      live = subst (All HasPointer) (sym is.children_are) (after_live node.children come at gone can.proper.live can.way.live);
      fits = omega (arith, fits, ap words is.children_are);
    }

pub next_covers : (g : Geometry) (node next : Inner) (at gone : ℕ) (come : List Key) → CanChange g node at gone come → IsSuccessor node next (children_after node.children at gone come) → Covers next
next_covers g node next at gone come can is =
    subst (CoverRange next.from next.end) (sym is.children_are)
    (subst (λ n. CoverRange n next.end (children_after node.children at gone come)) (sym is.from)
    (subst (λ n. CoverRange node.from n (children_after node.children at gone come)) (sym is.end) can.cover))

-- ---- leaves

names_append : (ks ks2 : List Key) (ls ls2 : List LeafRange) → NameLeaves ks ls → NameLeaves ks2 ls2 → NameLeaves (ks ++ ks2) (ls ++ ls2)
names_append [] ks2 [] ls2 one two = two
names_append [] ks2 (l ∷ ls) ls2 one two = absurd one
names_append (k ∷ ks) ks2 [] ls2 one two = absurd one
names_append (k ∷ ks) ks2 (l ∷ ls) ls2 one two = (one.0, one.1, names_append ks ks2 ls ls2 one.2 two)

names_take : (n : ℕ) (ks : List Key) (ls : List LeafRange) → NameLeaves ks ls → NameLeaves (take n ks) (take n ls)
names_take zero ks ls names = tt
names_take (suc n) [] [] names = tt
names_take (suc n) [] (l ∷ ls) names = absurd names
names_take (suc n) (k ∷ ks) [] names = absurd names
names_take (suc n) (k ∷ ks) (l ∷ ls) names = (names.0, names.1, names_take n ks ls names.2)

names_drop : (n : ℕ) (ks : List Key) (ls : List LeafRange) → NameLeaves ks ls → NameLeaves (drop n ks) (drop n ls)
names_drop zero ks ls names = names
names_drop (suc n) [] [] names = tt
names_drop (suc n) [] (l ∷ ls) names = absurd names
names_drop (suc n) (k ∷ ks) [] names = absurd names
names_drop (suc n) (k ∷ ks) (l ∷ ls) names = names_drop n ks ls names.2

pub names_spliced : (place gone : ℕ) (ks come : List Key) (ls lcome : List LeafRange) → NameLeaves ks ls → NameLeaves come lcome → NameLeaves (children_after ks place gone come) ((take place ls ++ lcome) ++ drop (place + gone) ls)
names_spliced place gone ks come ls lcome names more =
    names_append (take place ks ++ come) (drop (place + gone) ks) (take place ls ++ lcome) (drop (place + gone) ls)
    (names_append (take place ks) come (take place ls) lcome (names_take place ks ls names) more) (names_drop (place + gone) ks ls names)

-- ---- children of all nodes

take_behind : {X : Type 0} (front rest : List X) (i : ℕ) → take (length front + i) (front ++ rest) ≡ front ++ take i rest
take_behind [] rest i = let e : 0 + i ≡ i = omega arith in ap (λ n. take n rest) e
take_behind (x ∷ front) rest i = let e : suc (length front) + i ≡ suc (length front + i) = omega arith in ap (λ n. take n (x ∷ (front ++ rest))) e ∙ ap (λ ys. x ∷ ys) (take_behind front rest i)

pub drop_behind : {X : Type 0} (front rest : List X) (i : ℕ) → drop (length front + i) (front ++ rest) ≡ drop i rest
drop_behind [] rest i = let e : 0 + i ≡ i = omega arith in ap (λ n. drop n rest) e
drop_behind (x ∷ front) rest i = let e : suc (length front) + i ≡ suc (length front + i) = omega arith in ap (λ n. drop n (x ∷ (front ++ rest))) e ∙ drop_behind front rest i

pub take_front : {X : Type 0} (n : ℕ) (xs ys : List X) → n ≤ length xs → take n (xs ++ ys) ≡ take n xs
take_front zero xs ys within = refl
take_front (suc n) [] ys within = absurd (omega arith)
take_front (suc n) (x ∷ xs) ys within = ap (λ zs. x ∷ zs) (take_front n xs ys (omega arith))

drop_front : {X : Type 0} (n : ℕ) (xs ys : List X) → n ≤ length xs → drop n (xs ++ ys) ≡ drop n xs ++ ys
drop_front zero xs ys within = refl
drop_front (suc n) [] ys within = absurd (omega arith)
drop_front (suc n) (x ∷ xs) ys within = drop_front n xs ys (omega arith)

-- what becomes of the front of a list is what becomes of the list
pub after_front : (xs ys come : List Key) (at gone : ℕ) → at + gone ≤ length xs → children_after xs at gone come ++ ys ≡ children_after (xs ++ ys) at gone come
after_front xs ys come at gone within =
    append_assoc (take at xs ++ come) (drop (at + gone) xs) ys
    ∙ ap (λ zs. (take at xs ++ come) ++ zs) (sym (drop_front (at + gone) xs ys within))
    ∙ ap (λ zs. (zs ++ come) ++ drop (at + gone) (xs ++ ys)) (sym (take_front at xs ys (omega arith)))

pub after_behind : (front xs come : List Key) (at gone n : ℕ) → n ≡ length front + at → front ++ children_after xs at gone come ≡ children_after (front ++ xs) n gone come
after_behind front xs come at gone n is =
    let e : length front + at + gone ≡ length front + (at + gone) = omega arith in
    sym (append_assoc front (take at xs ++ come) (drop (at + gone) xs))
    ∙ ap (λ zs. zs ++ drop (at + gone) xs) (sym (append_assoc front (take at xs) come))
    ∙ ap (λ zs. (zs ++ come) ++ drop (at + gone) xs) (sym (take_behind front xs at))
    ∙ ap (λ zs. (take (length front + at) (front ++ xs) ++ come) ++ zs) (sym (drop_behind front xs (at + gone)))
    ∙ ap (λ m. (take (length front + at) (front ++ xs) ++ come) ++ drop m (front ++ xs)) (sym e)
    ∙ ap (λ m. children_after (front ++ xs) m gone come) (sym is)

pub children_next : (nodes : List Inner) (place at gone : ℕ) (come : List Key) (node : Inner) (change : NodeChange) → slice_get nodes place ≡ Some node → at + gone ≤ length node.children
    → (node_next node change).children ≡ children_after node.children at gone come
    → children_in (nodes_next nodes place change) ≡ children_after (children_in nodes) (length (children_in (take place nodes)) + at) gone come
children_next [] place at gone come node change there within is = absurd (cc)
children_next (m ∷ nodes) zero at gone come node change there within is =
    let same : node ≡ m = cc in
    let e : 0 + at ≡ at = omega arith in
    ap (λ ks. ks ++ children_in nodes) (subst (λ (n : Inner). (node_next n change).children ≡ children_after n.children at gone come) same is)
    ∙ after_front m.children (children_in nodes) come at gone (subst (λ (n : Inner). at + gone ≤ length n.children) same within)
    ∙ ap (λ i. children_after (m.children ++ children_in nodes) i gone come) (sym e)
children_next (m ∷ nodes) (suc place) at gone come node change there within is =
    let n = length (children_in (take place nodes)) in
    ap (λ ks. m.children ++ ks) (children_next nodes place at gone come node change there within is)
    ∙ after_behind m.children (children_in nodes) come (n + at) gone (length (m.children ++ children_in (take place nodes)) + at) (omega (arith, length-append m.children (children_in (take place nodes))))
