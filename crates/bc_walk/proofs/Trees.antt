-- A walk that met all nodes has found a tree, and of a tree it finds all.
use Rattle.std.proofs.Common.{◌≡◌, inl, inr, ℕ, zero, suc, List, [], ◌∷◌, ◌++◌, refl, sym, subst, ap, ◌∙◌, arith, append_assoc}
use Rattle.std.specs.Prelude.{All, AllPairs, Ok, Err, map}
use Rattle.std.proofs.lemmas.Grind.{flat_map-append}
use Rattle.std.proofs.lemmas.List.{append-nil, map-append}
use Rattle.std.proofs.lemmas.List.Elements.{All-cons, All-head, All-nil, All-tail}
use Rattle.std.proofs.lemmas.List.Kept.{AllPairs-cons}
use Rattle.bc_disk.specs.declared.geometry.Geometry.{Geometry}
use Rattle.bc_model.specs.Sector.{Image}
use Rattle.bc_image.specs.Children.{children_of}
use Rattle.bc_image.specs.Pointers.{PointsInto}
use Rattle.bc_image.specs.Sound.{KeepsRange, IsNodeKey}
use Rattle.bc_image.specs.Tree.{Node, node_of, set_keys, data_keys, tree_keys, AreWalks, IsWalk}
use Rattle.bc_key.specs.Key.{ptr_at}
use Rattle.bc_key.specs.declared.key.Key.{Key}
use Rattle.bc_record.specs.Places.{bucket_at}
use Rattle.bc_set.specs.declared.set.Set.{Set}
use Rattle.bc_walk.specs.declared.error.WalkError.{WalkError}
use Rattle.bc_walk.specs.declared.error.WalkError.TheVariants as errors
use Rattle.bc_walk.specs.declared.visit.Visit.{Visit}
use Rattle.bc_walk.specs.declared.visit.Visit.TheVariants as visits
use Rattle.bc_walk.specs.Tree.{AreMet, AreApart, IsTree, visit_of}
use Rattle.bc_walk.specs.Walk.{Found, Way, IsVisited, IsNew, IsWhole, IsStep, GoesOn, AreSearches, IsSearch, IsIndexSearch, nothing, with_visit, with_node}
use Rattle.bc_walk.specs.Walk.IsStep.{barred, again, faulty, met}
use Rattle.bc_walk.proofs.Flags.{taken_or, taken_before, taken_last}
use Rattle.bc_walk.proofs.Nodes.{node_in}
use Rattle.bc_walk.proofs.OneWay.{one_place}

-- ---- nodes that are new one behind the other

abbrev Fresh : Geometry → List Visit → List Node → Type 0
Fresh g seen [] = Unit {0}
Fresh g seen (n ∷ nodes) = KeepsRange n × ((bucket : ℕ) × IsNew g seen n.key bucket) × Fresh g (seen ++ visit_of n ∷ []) nodes

fresh_append : (g : Geometry) (seen : List Visit) (xs ys : List Node) → Fresh g seen xs → Fresh g (seen ++ map visit_of xs) ys → Fresh g seen (xs ++ ys)
fresh_append g seen [] ys p q = subst (λ (vs : List Visit). Fresh g vs ys) (append-nil seen) q
fresh_append g seen (x ∷ xs) ys p q =
    (p.0, p.1, fresh_append g (seen ++ visit_of x ∷ []) xs ys p.2 (subst (λ (vs : List Visit). Fresh g vs ys) (sym (append_assoc seen (visit_of x ∷ []) (map visit_of xs))) q))

fresh_left : (g : Geometry) (seen : List Visit) (xs ys : List Node) → Fresh g seen (xs ++ ys) → Fresh g seen xs
fresh_left g seen [] ys p = tt
fresh_left g seen (x ∷ xs) ys p = (p.0, p.1, fresh_left g (seen ++ visit_of x ∷ []) xs ys p.2)

fresh_right : (g : Geometry) (seen : List Visit) (xs ys : List Node) → Fresh g seen (xs ++ ys) → Fresh g (seen ++ map visit_of xs) ys
fresh_right g seen [] ys p = subst (λ (vs : List Visit). Fresh g vs ys) (sym (append-nil seen)) p
fresh_right g seen (x ∷ xs) ys p =
    subst (λ (vs : List Visit). Fresh g vs ys) (append_assoc seen (visit_of x ∷ []) (map visit_of xs)) (fresh_right g (seen ++ visit_of x ∷ []) xs ys p.2)

fresh_ranges : (g : Geometry) (seen : List Visit) (nodes : List Node) → Fresh g seen nodes → All KeepsRange nodes
fresh_ranges g seen [] p = All-nil KeepsRange
fresh_ranges g seen (n ∷ nodes) p = All-cons KeepsRange n nodes p.0 (fresh_ranges g (seen ++ visit_of n ∷ []) nodes p.2)

fresh_keys : (g : Geometry) (seen : List Visit) (nodes : List Node) → Fresh g seen nodes → All (λ n. IsNodeKey g n.key) nodes
fresh_keys g seen [] p = All-nil (λ n. IsNodeKey g n.key)
fresh_keys g seen (n ∷ nodes) p = All-cons (λ n. IsNodeKey g n.key) n nodes p.1.1.proper (fresh_keys g (seen ++ visit_of n ∷ []) nodes p.2)

later_apart : (g : Geometry) (m : Node) (seen : List Visit) (nodes : List Node) → ((b : ℕ) → PointsInto g m.key b → IsVisited g seen b) → Fresh g seen nodes → All (AreApart g m) nodes
later_apart g m seen [] taken p = All-nil (AreApart g m)
later_apart g m seen (n ∷ nodes) taken p =
    All-cons (AreApart g m) n nodes (λ b x y. p.1.1.free (subst (λ k. IsVisited g seen k) (one_place g n.key b p.1.0 y p.1.1.place) (taken b x)))
    (later_apart g m (seen ++ visit_of n ∷ []) nodes (λ b x. taken_before g seen (visit_of n) b (taken b x)) p.2)

fresh_apart : (g : Geometry) (seen : List Visit) (nodes : List Node) → Fresh g seen nodes → AllPairs (AreApart g) nodes
fresh_apart g seen [] p = λ i j d before inside. absurd (omega (arith, inside))
fresh_apart g seen (n ∷ nodes) p =
    AllPairs-cons (AreApart g) n nodes (later_apart g n (seen ++ visit_of n ∷ []) nodes (λ b x. taken_last g seen (visit_of n) b x) p.2) (fresh_apart g (seen ++ visit_of n ∷ []) nodes p.2)

abbrev IsFree : Geometry → List Visit → Node → Type 0
IsFree g seen n = (b : ℕ) → PointsInto g n.key b → IsVisited g seen b → ⊥

fresh_of : (g : Geometry) (seen : List Visit) (nodes : List Node) → All KeepsRange nodes → All (λ n. IsNodeKey g n.key) nodes → AllPairs (AreApart g) nodes → All (IsFree g seen) nodes → Fresh g seen nodes
fresh_of g seen [] ranges keys apart free = tt
fresh_of g seen (n ∷ nodes) ranges keys apart free =
    let here = node_in g n.key (bucket_at g (ptr_at n.key 0).offset) (All-head (λ m. IsNodeKey g m.key) n nodes keys) refl in (
      All-head KeepsRange n nodes ranges,
      (bucket_at g (ptr_at n.key 0).offset, record { proper = here.proper; place = here.place; free = All-head (IsFree g seen) n nodes free (bucket_at g (ptr_at n.key 0).offset) here.place }),
      fresh_of g (seen ++ visit_of n ∷ []) nodes (All-tail KeepsRange n nodes ranges) (All-tail (λ m. IsNodeKey g m.key) n nodes keys) (λ i j d before inside. apart (suc i) (suc j) d (omega (arith, before)) (omega (arith, inside)))
          (λ k d low b x taken. elim (taken_or g seen (visit_of n) b taken) [
            | inl old ↦ All-tail (IsFree g seen) n nodes free k d low b x old
            | inr same ↦ apart 0 (suc k) d (omega arith) (omega (arith, low)) b same x
          ]),
    )

-- ---- what was found, with some nodes more

abbrev grown : Found → List Node → Found
grown old nodes = record { visits = old.visits ++ map visit_of nodes; keys = old.keys ++ tree_keys nodes }

same_found : (a b : Found) → a.visits ≡ b.visits → a.keys ≡ b.keys → a ≡ b
same_found a b seen keys = λ i. record { visits = seen i; keys = keys i }

none_grown : (old : Found) → grown old [] ≡ old
none_grown old = same_found (grown old []) old (append-nil old.visits) (append-nil old.keys)

one_grown : (old : Found) (level from : ℕ) (key : Key) (ss : List Set) (nodes : List Node) → grown (with_node old level from key ss) nodes ≡ grown old (node_of level from key ss ∷ nodes)
one_grown old level from key ss nodes =
    same_found (grown (with_node old level from key ss) nodes) (grown old (node_of level from key ss ∷ nodes)) (append_assoc old.visits (visits.Met level from key ∷ []) (map visit_of nodes)) (append_assoc old.keys (data_keys level ss) (tree_keys nodes))

two_grown : (old : Found) (xs ys : List Node) → grown (grown old xs) ys ≡ grown old (xs ++ ys)
two_grown old xs ys =
    same_found (grown (grown old xs) ys) (grown old (xs ++ ys)) (append_assoc old.visits (map visit_of xs) (map visit_of ys) ∙ ap (λ (vs : List Visit). old.visits ++ vs) (sym (map-append visit_of xs ys)))
    (append_assoc old.keys (tree_keys xs) (tree_keys ys) ∙ ap (λ (ks : List Key). old.keys ++ ks) (sym (flat_map-append (λ (n : Node). data_keys n.level n.sets) xs ys)))

-- ---- from a walk to a tree

met_left : (xs ys : List Visit) → AreMet (xs ++ ys) → AreMet xs
met_left [] ys p = tt
met_left (visits.Met level from key ∷ xs) ys p = met_left xs ys p
met_left (visits.Barred key ∷ xs) ys p = p
met_left (visits.Again key ∷ xs) ys p = p

met_right : (xs ys : List Visit) → AreMet (xs ++ ys) → AreMet ys
met_right [] ys p = p
met_right (visits.Met level from key ∷ xs) ys p = met_right xs ys p
met_right (visits.Barred key ∷ xs) ys p = absurd p
met_right (visits.Again key ∷ xs) ys p = absurd p

abbrev on : Found → Way
on found = Ok found

ok_same : (a b : Found) → on a ≡ on b → a ≡ b
ok_same a b is = cc

no_error : (a : Found) (e : WalkError) → on a ≡ Err e → ⊥
no_error a e is = cc

record IsMet (g : Geometry) (image : Image) (level from : ℕ) (key : Key) (below : List Key → Found → Way → Type 0) (old found : Found) : Type 0 where
  bucket : ℕ
  sets : List Set
  new : IsNew g old.visits key bucket
  whole : IsWhole g image level from key sets
  goes : below (children_of (set_keys sets)) (with_node old level from key sets) (Ok found)

step_met : (g : Geometry) (image : Image) (level from : ℕ) (key : Key) (below : List Key → Found → Way → Type 0) (old found : Found) → IsStep g image level from key below old (Ok found) → AreMet found.visits → IsMet g image level from key below old found
step_met g image level from key below old found (barred p is) all = absurd (met_right old.visits (visits.Barred key ∷ []) (subst (λ (f : Found). AreMet f.visits) (ok_same found (with_visit old (visits.Barred key)) is) all))
step_met g image level from key below old found (again p is) all = absurd (met_right old.visits (visits.Again key ∷ []) (subst (λ (f : Found). AreMet f.visits) (ok_same found (with_visit old (visits.Again key)) is) all))
step_met g image level from key below old found (faulty bucket why p fault is) all = absurd (no_error found (errors.Node bucket why) is)
step_met g image level from key below old found (met bucket ss p whole goes) all = record { bucket = bucket; sets = ss; new = p; whole = whole; goes = goes }

record Grows (g : Geometry) (old found : Found) (walk : List Node → Type 0) : Type 0 where
  nodes : List Node
  walked : walk nodes
  is : found ≡ grown old nodes
  fresh : Fresh g old.visits nodes

abbrev GrowsBy : Geometry → (ℕ → Key → Found → Way → Type 0) → (ℕ → Key → List Node → Type 0) → Type 0
GrowsBy g search walk = (from : ℕ) (key : Key) (old found : Found) → search from key old (Ok found) → AreMet found.visits → Grows g old found (walk from key)

children_grow : (g : Geometry) (search : ℕ → Key → Found → Way → Type 0) (walk : ℕ → Key → List Node → Type 0) → GrowsBy g search walk → (from : ℕ) (children : List Key) (old found : Found) → AreSearches search from children old (Ok found)
    → AreMet found.visits → Grows g old found (AreWalks walk from children)
children_grow g search walk one from [] old found p all = record { nodes = []; walked = refl; is = ok_same found old p ∙ sym (none_grown old); fresh = tt }
children_grow g search walk one from (child ∷ children) old found p all = go (λ mid way. children_grow g search walk one child.end children mid found way all) p.0 p.1 p.2
  where
    go : ((mid : Found) → AreSearches search child.end children mid (Ok found) → Grows g mid found (AreWalks walk child.end children)) → (here : Way) → search from child old here → GoesOn (λ mid. AreSearches search child.end children mid (Ok found)) here (Ok found)
        → Grows g old found (AreWalks walk from (child ∷ children))
    go more (Err e) searched rest = absurd (no_error found e rest)
    go more (Ok mid) searched way =
        let rest = more mid way in
        let first = one from child old mid searched (met_left mid.visits (map visit_of rest.nodes) (subst (λ (f : Found). AreMet f.visits) rest.is all)) in
        record {
          nodes = first.nodes ++ rest.nodes;
          walked = (first.nodes, rest.nodes, first.walked, rest.walked, refl);
          is = rest.is ∙ ap (λ (f : Found). grown f rest.nodes) first.is ∙ two_grown old first.nodes rest.nodes;
          fresh = fresh_append g old.visits first.nodes rest.nodes first.fresh (subst (λ (f : Found). Fresh g f.visits rest.nodes) first.is rest.fresh);
        }

search_grows : (g : Geometry) (image : Image) (level : ℕ) → GrowsBy g (IsSearch g image level) (IsWalk g image level)
search_grows g image zero from key old found p all =
    let m = step_met g image zero from key (λ children now next. next ≡ Ok now) old found p all in
    let n = node_of zero from key m.sets in
    record {
      nodes = n ∷ [];
      walked = (m.sets, m.whole.stand, refl);
      is = ok_same found (with_node old zero from key m.sets) m.goes ∙ sym (none_grown (with_node old zero from key m.sets)) ∙ one_grown old zero from key m.sets [];
      fresh = (m.whole.within, (m.bucket, m.new), tt);
    }
search_grows g image (suc level) from key old found p all =
    let m = step_met g image (suc level) from key (AreSearches (IsSearch g image level) from) old found p all in
    let below = children_grow g (IsSearch g image level) (IsWalk g image level) (search_grows g image level) from (children_of (set_keys m.sets)) (with_node old (suc level) from key m.sets) found m.goes all in
    record {
      nodes = node_of (suc level) from key m.sets ∷ below.nodes;
      walked = (m.sets, below.nodes, m.whole.stand, below.walked, refl);
      is = below.is ∙ one_grown old (suc level) from key m.sets below.nodes;
      fresh = (m.whole.within, (m.bucket, m.new), below.fresh);
    }

pub is_tree : (g : Geometry) (image : Image) (level : ℕ) (root : Key) (found : Found) → IsIndexSearch g image level root (Ok found) → AreMet found.visits → IsTree g image level root found
is_tree g image level root found (inl p) all = absurd (subst (λ (f : Found). AreMet f.visits) (ok_same found (with_visit nothing (visits.Barred root)) p.1) all)
is_tree g image level root found (inr p) all =
    let grows = search_grows g image level 0 root nothing found p.1 all in
    record {
      nodes = grows.nodes;
      walk = grows.walked;
      visits = ap (λ (f : Found). f.visits) grows.is;
      keys = ap (λ (f : Found). f.keys) grows.is;
      end = p.0;
      ranges = fresh_ranges g [] grows.nodes grows.fresh;
      node_keys = fresh_keys g [] grows.nodes grows.fresh;
      apart = fresh_apart g [] grows.nodes grows.fresh;
    }

-- ---- from a tree to its walk

abbrev WalksBy : Geometry → (ℕ → Key → Found → Way → Type 0) → (ℕ → Key → List Node → Type 0) → Type 0
WalksBy g search walk = (from : ℕ) (key : Key) (old : Found) (nodes : List Node) → walk from key nodes → Fresh g old.visits nodes → search from key old (Ok (grown old nodes))

children_walked : (g : Geometry) (search : ℕ → Key → Found → Way → Type 0) (walk : ℕ → Key → List Node → Type 0) → WalksBy g search walk → (from : ℕ) (children : List Key) (old : Found) (nodes : List Node) → AreWalks walk from children nodes
    → Fresh g old.visits nodes → AreSearches search from children old (Ok (grown old nodes))
children_walked g search walk one from [] old nodes p fresh = ap (λ (ns : List Node). Ok (grown old ns)) p ∙ ap (λ (f : Found). Ok f) (none_grown old)
children_walked g search walk one from (child ∷ children) old nodes p fresh =
    let here = p.0 in
    let rest = p.1 in
    let parts = subst (λ (ns : List Node). Fresh g old.visits ns) p.4 fresh in
    let more = children_walked g search walk one child.end children (grown old here) rest p.3 (fresh_right g old.visits here rest parts) in
    let all : grown (grown old here) rest ≡ grown old nodes = two_grown old here rest ∙ ap (λ (ns : List Node). grown old ns) (sym p.4) in
    (Ok (grown old here), one from child old here p.2 (fresh_left g old.visits here rest parts), subst (λ (f : Found). AreSearches search child.end children (grown old here) (Ok f)) all more)

walked_search : (g : Geometry) (image : Image) (level : ℕ) → WalksBy g (IsSearch g image level) (IsWalk g image level)
walked_search g image zero from key old nodes p fresh =
    let n = node_of zero from key p.0 in
    let first = subst (λ (ns : List Node). Fresh g old.visits ns) p.2 fresh in
    let is : grown old nodes ≡ with_node old zero from key p.0 = ap (λ (ns : List Node). grown old ns) p.2 ∙ sym (one_grown old zero from key p.0 []) ∙ none_grown (with_node old zero from key p.0) in
    met first.1.0 p.0 first.1.1 (record { stand = p.1; within = first.0 }) (ap (λ (f : Found). Ok f) is)
walked_search g image (suc level) from key old nodes p fresh =
    let first = subst (λ (ns : List Node). Fresh g old.visits ns) p.4 fresh in
    let below = children_walked g (IsSearch g image level) (IsWalk g image level) (walked_search g image level) from (children_of (set_keys p.0)) (with_node old (suc level) from key p.0) p.1 p.3 first.2 in
    let is : grown (with_node old (suc level) from key p.0) p.1 ≡ grown old nodes = one_grown old (suc level) from key p.0 p.1 ∙ ap (λ (ns : List Node). grown old ns) (sym p.4) in
    met first.1.0 p.0 first.1.1 (record { stand = p.2; within = first.0 })
    (subst (λ (f : Found). AreSearches (IsSearch g image level) from (children_of (set_keys p.0)) (with_node old (suc level) from key p.0) (Ok f)) is below)

pub tree_walked : (g : Geometry) (image : Image) (level : ℕ) (root : Key) (found : Found) → IsTree g image level root found → IsIndexSearch g image level root (Ok found)
tree_walked g image level root found tree =
    let fresh = fresh_of g [] tree.nodes tree.ranges tree.node_keys tree.apart (λ k d low b x none. none) in
    let is : found ≡ grown nothing tree.nodes = same_found found (grown nothing tree.nodes) tree.visits tree.keys in
    inr (tree.end, subst (λ (f : Found). IsSearch g image level 0 root nothing (Ok f)) (sym is) (walked_search g image level 0 root nothing tree.nodes tree.walk fresh))

pub tree_met : (g : Geometry) (image : Image) (level : ℕ) (root : Key) (found : Found) → IsTree g image level root found → AreMet found.visits
tree_met g image level root found tree = subst AreMet (sym tree.visits) (all_met tree.nodes)
  where
    all_met : (nodes : List Node) → AreMet (map visit_of nodes)
    all_met [] = tt
    all_met (n ∷ nodes) = all_met nodes
