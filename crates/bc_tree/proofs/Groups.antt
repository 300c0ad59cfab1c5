-- Nodes above leaves, of which some give way to others.
use Rattle.std.proofs.Common.{◌≡◌, ℕ, zero, suc, ◌+◌, ◌<◌, ◌≤◌, List, [], ◌∷◌, ◌++◌, length, take, drop, refl, sym, subst, ap, ◌∙◌, arith, append-nil, length-append}
use Rattle.std.specs.Prelude.{All}
use Rattle.std.proofs.lemmas.List.{append_assoc, drop-drop, take-append-drop}
use Rattle.std.proofs.lemmas.List.Elements.{All-append, All-cons, All-head, All-nil, All-tail}
use Rattle.bc_inner.specs.Inner.{Inner}
use Rattle.bc_key.specs.declared.key.Key.{Key}
use Rattle.bc_disk.specs.declared.geometry.Geometry.{Geometry}
use Rattle.bc_spine.specs.Exchange.{coming}
use Rattle.bc_spine.specs.declared.exchange.Exchange.{Exchange}
use Rattle.bc_spine.specs.declared.leaf.LeafRange.{LeafRange}
use Rattle.bc_tree.specs.Change.{CanChange}
use Rattle.bc_tree.specs.Children.{children_after}
use Rattle.bc_tree.specs.Next.{leaves_next}
use Rattle.bc_tree.specs.Spine.{Covers, IsProper, IsRootOf, IsSpine, NameLeaves, NameNodes, children_in, last_end}
use Rattle.bc_tree.proofs.Nexts.{IsSuccessor, after_behind, after_front, names_spliced, next_covers, next_proper}
use Rattle.bc_tree.proofs.Spines.{bottom_is}
use Rattle.bc_tree.proofs.Splices.{AreInPlace, end_append}

-- the list with others in the place of some
abbrev pub spliced : List Inner → ℕ → ℕ → List Inner → List Inner
spliced nodes place gone new = take place nodes ++ new ++ drop (place + gone) nodes

-- ---- each of them

all_take : (P : Inner → Type 0) (n : ℕ) (xs : List Inner) → All P xs → All P (take n xs)
all_take P zero xs all = All-nil P
all_take P (suc n) [] all = All-nil P
all_take P (suc n) (x ∷ xs) all = All-cons P x (take n xs) (All-head P x xs all) (all_take P n xs (All-tail P x xs all))

all_drop : (P : Inner → Type 0) (n : ℕ) (xs : List Inner) → All P xs → All P (drop n xs)
all_drop P zero xs all = all
all_drop P (suc n) [] all = All-nil P
all_drop P (suc n) (x ∷ xs) all = all_drop P n xs (All-tail P x xs all)

pub all_spliced : (P : Inner → Type 0) (nodes : List Inner) (place gone : ℕ) (new : List Inner) → All P nodes → All P new → All P (spliced nodes place gone new)
all_spliced P nodes place gone new all more =
    All-append P (take place nodes ++ new) (drop (place + gone) nodes) (All-append P (take place nodes) new (all_take P place nodes all) more) (all_drop P (place + gone) nodes all)

-- ---- the keys that name them

named_append : (from : ℕ) (ks ls : List Key) (xs ys : List Inner) → NameNodes from ks xs → NameNodes (last_end from ks) ls ys → NameNodes from (ks ++ ls) (xs ++ ys)
named_append from [] ls [] ys one two = two
named_append from [] ls (x ∷ xs) ys one two = absurd one
named_append from (k ∷ ks) ls [] ys one two = absurd one
named_append from (k ∷ ks) ls (x ∷ xs) ys one two = (one.0, one.1, one.2, one.3, named_append k.end ks ls xs ys one.4 two)

named_take : (n from : ℕ) (ks : List Key) (xs : List Inner) → NameNodes from ks xs → NameNodes from (take n ks) (take n xs)
named_take zero from ks xs names = tt
named_take (suc n) from [] [] names = tt
named_take (suc n) from [] (x ∷ xs) names = absurd names
named_take (suc n) from (k ∷ ks) [] names = absurd names
named_take (suc n) from (k ∷ ks) (x ∷ xs) names = (names.0, names.1, names.2, names.3, named_take n k.end ks xs names.4)

named_drop : (n from : ℕ) (ks : List Key) (xs : List Inner) → NameNodes from ks xs → NameNodes (last_end from (take n ks)) (drop n ks) (drop n xs)
named_drop zero from ks xs names = names
named_drop (suc n) from [] [] names = tt
named_drop (suc n) from [] (x ∷ xs) names = absurd names
named_drop (suc n) from (k ∷ ks) [] names = absurd names
named_drop (suc n) from (k ∷ ks) (x ∷ xs) names = named_drop n k.end ks xs names.4

pub named_spliced : (from : ℕ) (keys : List Key) (nodes : List Inner) (place gone : ℕ) (come : List Key) (new : List Inner) → NameNodes from keys nodes → NameNodes (last_end from (take place keys)) come new
    → last_end (last_end from (take place keys)) come ≡ last_end from (take (place + gone) keys) → NameNodes from (children_after keys place gone come) (spliced nodes place gone new)
named_spliced from keys nodes place gone come new names more end =
    let front = named_append from (take place keys) come (take place nodes) new (named_take place from keys nodes names) more in
    named_append from (take place keys ++ come) (drop (place + gone) keys) (take place nodes ++ new) (drop (place + gone) nodes) front
    (subst (λ n. NameNodes n (drop (place + gone) keys) (drop (place + gone) nodes)) (sym (end_append from (take place keys) come ∙ end)) (named_drop (place + gone) from keys nodes names))

-- ---- their children

pub children_append : (xs ys : List Inner) → children_in (xs ++ ys) ≡ children_in xs ++ children_in ys
children_append [] ys = refl
children_append (x ∷ xs) ys = ap (λ ks. x.children ++ ks) (children_append xs ys) ∙ sym (append_assoc x.children (children_in xs) (children_in ys))

pub children_spliced : (nodes : List Inner) (place gone at away : ℕ) (come : List Key) (new : List Inner) → at + away ≤ length (children_in (take gone (drop place nodes)))
    → children_in new ≡ children_after (children_in (take gone (drop place nodes))) at away come
    → children_in (spliced nodes place gone new) ≡ children_after (children_in nodes) (length (children_in (take place nodes)) + at) away come
children_spliced nodes place gone at away come new within are =
    let front = children_in (take place nodes) in
    let middle = children_in (take gone (drop place nodes)) in
    let rest = children_in (drop (place + gone) nodes) in
    let whole : children_in nodes ≡ front ++ (middle ++ rest) =
    ap children_in (sym (take-append-drop place nodes)) ∙ children_append (take place nodes) (drop place nodes)
    ∙ ap (λ ks. front ++ ks)
    (ap children_in (sym (take-append-drop gone (drop place nodes))) ∙ children_append (take gone (drop place nodes)) (drop gone (drop place nodes)) ∙ ap (λ ns. middle ++ children_in ns) (drop-drop gone place nodes)) in
    children_append (take place nodes ++ new) (drop (place + gone) nodes)
    ∙ ap (λ ks. ks ++ rest) (children_append (take place nodes) new ∙ ap (λ ks. front ++ ks) are)
    ∙ append_assoc front (children_after middle at away come) rest
    ∙ ap (λ ks. front ++ ks) (after_front middle rest come at away within)
    ∙ after_behind front (middle ++ rest) come at away (length front + at) refl
    ∙ ap (λ ks. children_after ks (length front + at) away come) (sym whole)

-- ---- the whole tree

some_root : (next : Inner) (nodes : List Inner) → 0 < length nodes → next.level ≡ 2 → NameNodes next.from next.children nodes → IsRootOf next nodes
some_root next [] some level names = absurd (omega (arith, some))
some_root next (m ∷ nodes) some level names = (level, names)

-- nodes below the root come in the place of others, and the root names them
pub groups_tree : (g : Geometry) (root next m : Inner) (nodes : List Inner) (leaves : List LeafRange) (e : Exchange) (place count at away : ℕ) (come ups : List Key) (new : List Inner)
    → IsSpine g root (m ∷ nodes) leaves → CanChange g root place count ups → IsSuccessor root next (children_after root.children place count ups) → AreInPlace root.from root.children place count ups
    → NameNodes (last_end root.from (take place root.children)) ups new → All (IsProper g) new → All Covers new → 0 < length new
    → at + away ≤ length (children_in (take count (drop place (m ∷ nodes)))) → children_in new ≡ children_after (children_in (take count (drop place (m ∷ nodes)))) at away come
    → e.place ≡ length (children_in (take place (m ∷ nodes))) + at → e.gone ≡ away → NameLeaves come (coming e)
    → IsSpine g next (spliced (m ∷ nodes) place count new) (leaves_next leaves e)
groups_tree g root next m nodes leaves e place count at away come ups new spine can is there names proper covers some within are at_place same_gone more =
    let old = m ∷ nodes in
    let after = spliced old place count new in
    let long : 0 < length after = omega (arith, some, length-append (take place old ++ new) (drop (place + count) old), length-append (take place old) new) in
    let named = named_spliced root.from root.children old place count ups new spine.inner.root_of.1 names there.end in
    let called : NameNodes next.from next.children after = subst (λ n. NameNodes n next.children after) (sym is.from) (subst (λ ks. NameNodes root.from ks after) (sym is.children_are) named) in
    record {
      inner = record {
        begins = is.from ∙ spine.inner.begins;
        root_of = some_root next after long (is.level ∙ spine.inner.root_of.0) called;
        root_is_proper = next_proper g root next place count ups can is;
        proper = all_spliced (IsProper g) old place count new spine.inner.proper proper;
      };
      names = subst (λ ns. NameLeaves (children_in ns) (leaves_next leaves e)) (sym (bottom_is next after long))
          (subst (λ ks. NameLeaves ks (leaves_next leaves e))
          (ap (λ n. children_after (children_in old) n e.gone come) at_place ∙ ap (λ n. children_after (children_in old) (length (children_in (take place old)) + at) n come) same_gone ∙ sym (children_spliced old place count at away come new within are))
          (names_spliced e.place e.gone (children_in old) come leaves (coming e) spine.names more));
      cover = (next_covers g root next place count ups can is, all_spliced Covers old place count new spine.cover.1 covers);
    }

-- two nodes come below a root whose children were leaves, and one of level 2 above them
pub raised_tree : (g : Geometry) (root next low high : Inner) (leaves : List LeafRange) (e : Exchange) (come ups : List Key) → IsSpine g root [] leaves
    → next.level ≡ 2 → next.from ≡ root.from → next.children ≡ ups → IsProper g next → Covers next → NameNodes root.from ups (low ∷ high ∷ [])
    → All (IsProper g) (low ∷ high ∷ []) → All Covers (low ∷ high ∷ []) → children_in (low ∷ high ∷ []) ≡ children_after root.children e.place e.gone come → e.place + e.gone ≤ length root.children → NameLeaves come (coming e)
    → IsSpine g next (low ∷ high ∷ []) (leaves_next leaves e)
raised_tree g root next low high leaves e come ups spine level from children proper cover names all_proper all_cover are within more = record {
  inner = record {
    begins = from ∙ spine.inner.begins;
    root_of = (level, subst (λ n. NameNodes n next.children (low ∷ high ∷ [])) (sym from) (subst (λ ks. NameNodes root.from ks (low ∷ high ∷ [])) (sym children) names));
    root_is_proper = proper;
    proper = all_proper;
  };
  names = subst (λ ks. NameLeaves ks (leaves_next leaves e))
      (sym (ap (λ ks. children_after ks e.place e.gone come) (sym (append-nil root.children))) ∙ sym are)
      (names_spliced e.place e.gone (children_in (root ∷ [])) come leaves (coming e) spine.names more);
  cover = (cover, all_cover);
}
