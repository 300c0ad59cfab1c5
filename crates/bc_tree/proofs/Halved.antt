-- A node above leaves that gives way to two.
use Rattle.std.proofs.Common.{◌≡◌, ℕ, zero, suc, ◌+◌, ◌*◌, ◌/◌, ◌<◌, ◌≤◌, true, List, [], ◌∷◌, ◌++◌, length, take, drop, Option, Some, refl, sym, subst, ap, ◌∙◌, append-nil, arith, length-append}
use Rattle.std.specs.Prelude.{All, slice_get}
use Rattle.std.proofs.lemmas.List.{length-take-le, length-drop}
use Rattle.std.proofs.lemmas.Option.{get_or_from_slice_get, slice_get_within}
use Rattle.bc_disk.specs.declared.geometry.Geometry.{Geometry}
use Rattle.bc_inner.specs.Inner.{CoverRange, Inner}
use Rattle.bc_key.specs.declared.key.Key.{Key}
use Rattle.bc_key.specs.declared.ptr.Ptr.{Ptr}
use Rattle.bc_spine.specs.Exchange.{coming}
use Rattle.bc_spine.specs.declared.exchange.Exchange.{Exchange}
use Rattle.bc_spine.specs.declared.leaf.LeafRange.{LeafRange}
use Rattle.bc_tree.specs.Change.{CanChange}
use Rattle.bc_tree.specs.Children.{HasPointer, children_after}
use Rattle.bc_tree.specs.Group.{AreNeighbours, AreTwo, IsFresh}
use Rattle.bc_tree.specs.Needs.{fits_node, words}
use Rattle.bc_tree.specs.Next.{below_next, leaves_next, node_next, root_next}
use Rattle.bc_tree.specs.Halves.{CanHalve, IsAboveHalves}
use Rattle.bc_tree.specs.Plan.{Names}
use Rattle.bc_tree.specs.Spine.{Covers, IsProper, IsSpine, NameLeaves, NameNodes, Rise, bottom, children_in, last_end}
use Rattle.bc_tree.specs.declared.beside.Beside.{Beside}
use Rattle.bc_tree.specs.declared.beside.Beside.TheVariants.{Comes}
use Rattle.bc_tree.specs.declared.change.NodeChange.{NodeChange}
use Rattle.bc_tree.specs.declared.change.NodeChange.TheVariants.{Move}
use Rattle.bc_tree.proofs.Besides.{comes_is}
use Rattle.bc_tree.proofs.Groups.{groups_tree, raised_tree, spliced}
use Rattle.bc_tree.proofs.Nexts.{after_live, succeeds}
use Rattle.bc_tree.proofs.Spines.{end_more}
use Rattle.bc_tree.proofs.Splices.{AreInPlace, can_replace, rise_covers, words_after}
use Rattle.bc_tree.proofs.Trees.{named_at}
use Rattle.bc_tree.proofs.Twos.{fresh_covers, halves_fit, pair_live, pair_rises, pair_words, two_beside, two_children, two_cover, two_named, two_proper}

-- ---- the children of both

pub halves_long : (children come : List Key) (at : ℕ) → at < length children → length come ≡ 2 → length (children_after children at 1 come) ≡ length children + 1
halves_long children come at within two =
    omega (arith, within, two, length-append (take at children ++ come) (drop (at + 1) children), length-append (take at children) come, length-take-le at children (omega (arith, within)), length-drop (at + 1) children)

-- the first half has some children, and the second too
pub cut_within : (n m : ℕ) → n ≡ m + 1 → 0 < m → (0 < n / 2) × (n / 2 < n)
cut_within n m is some = (omega (arith, is, some), omega (arith, is, some))

pub two_proper_halves : (g : Geometry) (node low high : Inner) (at : ℕ) (come : List Key) (to : List Ptr) (seq : ℕ) → IsProper g node → at < length node.children → length come ≡ 2 → words come ≡ 6 → All HasPointer come
    → CoverRange node.from node.end (children_after node.children at 1 come)
    → AreTwo node.from node.end (length (children_after node.children at 1 come) / 2) (children_after node.children at 1 come) to seq low high → All (IsProper g) (low ∷ high ∷ [])
two_proper_halves g node low high at come to seq proper within two size live cover is =
    let all = children_after node.children at 1 come in
    let cut = cut_within (length all) (length node.children) (halves_long node.children come at within two) (omega (arith, within)) in
    let all_live = after_live node.children come at 1 proper.live live in
    let few = words_after node.children come at 1 proper.live (omega (arith, within)) in
    let fit = halves_fit all (length all / 2) (words node.children) (512 * g.node_sectors) all_live cut.0 cut.1 (omega (arith, few, size)) proper.fits in
    two_proper node.from node.end (length all / 2) all to seq low high cover cut.0 cut.1 is g all_live fit.0 fit.1

-- ---- the node among those below the root

pub node_from : (from : ℕ) (keys : List Key) (nodes : List Inner) (place : ℕ) (node : Inner) → NameNodes from keys nodes → slice_get nodes place ≡ Some node → node.from ≡ last_end from (take place keys)
node_from from [] [] place node names there = absurd (cc)
node_from from [] (m ∷ nodes) place node names there = absurd names
node_from from (k ∷ keys) [] place node names there = absurd names
node_from from (k ∷ keys) (m ∷ nodes) zero node names there = let same : m ≡ node = cc in ap (λ (n : Inner). n.from) (sym same) ∙ names.1
node_from from (k ∷ keys) (m ∷ nodes) (suc place) node names there = node_from k.end keys nodes place node names.4 there

pub one_taken : (nodes : List Inner) (place : ℕ) (node : Inner) → slice_get nodes place ≡ Some node → take 1 (drop place nodes) ≡ node ∷ []
one_taken [] place node there = absurd (cc)
one_taken (m ∷ nodes) zero node there = let same : m ≡ node = cc in ap (λ (n : Inner). n ∷ []) same
one_taken (m ∷ nodes) (suc place) node there = one_taken nodes place node there

-- two keys come in the place of the one that names it
pub pair_in_place : (root : Inner) (below : List Inner) (place : ℕ) (node low high : Inner) (ka kb : Key) → NameNodes root.from root.children below → slice_get below place ≡ Some node
    → AreNeighbours node.from node.end low high → Names ka low → Names kb high → AreInPlace root.from root.children place 1 (ka ∷ kb ∷ [])
pair_in_place root below place node low high ka kb names there beside one other =
    let named = named_at root.from root.children below place node names there in
    let within = slice_get_within root.children place named.0 named.1 in
    let reach : last_end root.from (take (place + 1) root.children) ≡ named.0.end = end_more root.from root.children place named.0 within ∙ ap (λ (k : Key). k.end) (get_or_from_slice_get root.children place named.0 named.0 named.1) in
    record {
      rise = subst (λ n. Rise n (ka ∷ kb ∷ [])) (node_from root.from root.children below place node names there) (pair_rises node.from node.end low high ka kb beside one other);
      end = other.end ∙ beside.ends ∙ named.2 ∙ sym reach;
      some = omega arith;
    }

pub pair_can : (g : Geometry) (root : Inner) (below : List Inner) (place : ℕ) (node low high : Inner) (ka kb : Key) → IsProper g root → Covers root → NameNodes root.from root.children below → slice_get below place ≡ Some node
    → AreNeighbours node.from node.end low high → Names ka low → Names kb high → fits_node g (words root.children + 3) ≡ true → CanChange g root place 1 (ka ∷ kb ∷ [])
pair_can g root below place node low high ka kb proper cover names there beside one other fits =
    let named = named_at root.from root.children below place node names there in
    let within = slice_get_within root.children place named.0 named.1 in
    can_replace g root place 1 3 (ka ∷ kb ∷ []) (ka ∷ []) kb proper cover (omega arith) (omega (arith, within)) (pair_in_place root below place node low high ka kb names there beside one other)
    (pair_live ka kb one.one other.one) refl (λ k d inside. absurd (omega (arith, inside))) (omega (arith, pair_words ka kb one.one other.one)) fits

-- ---- the tree after it

abbrev pub now : Inner → ℕ → List Key → List Key
now node at come = children_after node.children at 1 come

module _ (g : Geometry) (root : Inner) (below : List Inner) (place at : ℕ) (come : List Key) (to : List Ptr) (seq : ℕ) (node low high : Inner) (proper : IsProper g node)
    (can : CanHalve g root below node place at come) (two : AreTwo node.from node.end (length (children_after node.children at 1 come) / 2) (children_after node.children at 1 come) to seq low high) where
  cut : (0 < length (now node at come) / 2) × (length (now node at come) / 2 < length (now node at come))
  cut = cut_within (length (now node at come)) (length node.children) (halves_long node.children come at can.within can.long) (let within = can.within in omega (arith, within))

  pub halves_beside : AreNeighbours node.from node.end low high
  halves_beside = two_beside node.from node.end (length (now node at come) / 2) (now node at come) to seq low high can.cover cut.0 cut.1 two

  covers : All Covers (low ∷ high ∷ [])
  covers = two_cover node.from node.end (length (now node at come) / 2) (now node at come) to seq low high can.cover cut.0 cut.1 two

  propers : All (IsProper g) (low ∷ high ∷ [])
  propers = two_proper_halves g node low high at come to seq proper can.within can.long can.size can.live can.cover two

  children_are : children_in (low ∷ high ∷ []) ≡ now node at come
  children_are = two_children node.from node.end (length (now node at come) / 2) (now node at come) to seq low high can.cover cut.0 cut.1 two

  named : (ka kb : Key) → Names ka low → Names kb high → NameNodes node.from (ka ∷ kb ∷ []) (low ∷ high ∷ [])
  named = two_named node.from node.end (length (now node at come) / 2) (now node at come) to seq low high can.cover cut.0 cut.1 two

-- a set of six words fits in a node
six_fit : (g : Geometry) → 32 + 8 * 6 ≤ 512 * g.node_sectors
six_fit g = let size = g.node_is_one in let bucket = g.bucket_from in omega (arith, size, bucket)

raised_proper : (g : Geometry) (next : Inner) (from end : ℕ) (ka kb : Key) (ptr : Ptr) (seq : ℕ) → IsFresh 2 from end (ka ∷ kb ∷ []) ptr seq next → ka.count ≡ 1 → kb.count ≡ 1 → IsProper g next
raised_proper g next from end ka kb ptr seq is one other = record {
  live = subst (All HasPointer) (sym is.children_are) (pair_live ka kb one other);
  fits = omega (arith, six_fit g, pair_words ka kb one other, ap words is.children_are);
}

pub halves_tree : (g : Geometry) (root : Inner) (below : List Inner) (leaves : List LeafRange) (e : Exchange) (place at : ℕ) (come : List Key) (to : List Ptr) (seq : ℕ) (node low high : Inner) (next_to : List Ptr) (next_seq : ℕ) (change : NodeChange)
    (top : Option NodeChange) (beside : Beside)
    → IsSpine g root below leaves → IsProper g node → CanHalve g root below node place at come → AreTwo node.from node.end (length (now node at come) / 2) (now node at come) to seq low high
    → e.place ≡ length (children_in (take place (bottom root below))) + at → e.gone ≡ 1 → NameLeaves come (coming e)
    → IsAboveHalves g root below place low high next_to next_seq change top beside
    → IsSpine g (root_next root below change top) (below_next below place change beside) (leaves_next leaves e) × ((root_next root below change top).end ≡ root.end)
halves_tree g root [] leaves e zero at come to seq node low high next_to next_seq change top beside spine proper can two before gone more (raised, beside_is) =
    let same : root ≡ node = let there = can.there in cc in
    let next = raised.root in
    let ka = raised.low_key in
    let kb = raised.high_key in
    let side = halves_beside g root [] zero at come to seq node low high proper can two in
    let is = raised.root_is in
    let from : node.from ≡ root.from = ap (λ (n : Inner). n.from) (sym same) in
    let end : node.end ≡ root.end = ap (λ (n : Inner). n.end) (sym same) in
    let names = named g root [] zero at come to seq node low high proper can two ka kb raised.names.0 raised.names.1 in
    let cover : CoverRange root.from root.end (ka ∷ kb ∷ []) =
    rise_covers root.from root.end (ka ∷ kb ∷ []) (subst (λ n. Rise n (ka ∷ kb ∷ [])) from (pair_rises node.from node.end low high ka kb side raised.names.0 raised.names.1)) (omega arith) (raised.names.1.end ∙ side.ends ∙ end) in
    let e_place : e.place ≡ at = before ∙ (let z : 0 + at ≡ at = omega arith in z) in
    let are : children_in (low ∷ high ∷ []) ≡ children_after root.children e.place e.gone come =
    children_are g root [] zero at come to seq node low high proper can two ∙ ap (λ (n : Inner). children_after n.children at 1 come) (sym same)
    ∙ ap (λ n. children_after root.children n 1 come) (sym e_place) ∙ ap (λ n. children_after root.children e.place n come) (sym gone) in
    let tree = raised_tree g root next low high leaves e come (ka ∷ kb ∷ []) spine is.level_is is.begins is.children_are (raised_proper g next root.from root.end ka kb raised.ptr next_seq is raised.names.0.one raised.names.1.one)
    (fresh_covers 2 root.from root.end (ka ∷ kb ∷ []) raised.ptr next_seq next is cover) (subst (λ n. NameNodes n (ka ∷ kb ∷ []) (low ∷ high ∷ [])) from names)
    (propers g root [] zero at come to seq node low high proper can two) (covers g root [] zero at come to seq node low high proper can two) are
    (let within = can.within in omega (arith, within, e_place, gone, ap (λ (n : Inner). length n.children) same)) more in
    subst (λ (b : Beside). IsSpine g (root_next root [] change top) (below_next [] 0 change b) (leaves_next leaves e) × ((root_next root [] change top).end ≡ root.end)) (sym beside_is)
    (subst (λ (ch : NodeChange). IsSpine g (root_next root [] ch top) (low ∷ high ∷ []) (leaves_next leaves e) × ((root_next root [] ch top).end ≡ root.end)) (sym raised.bottom_is) (tree, is.ends))
halves_tree g root [] leaves e (suc place) at come to seq node low high next_to next_seq change top beside spine proper can two before gone more above = absurd (let there = can.there in cc)
halves_tree g root (m ∷ nodes) leaves e place at come to seq node low high next_to next_seq change top beside spine proper can two before gone more (regrouped, beside_is) =
    let below = m ∷ nodes in
    let ka = regrouped.low_key in
    let kb = regrouped.high_key in
    let ups = ka ∷ kb ∷ [] in
    let root_change = regrouped.change in
    let side = halves_beside g root below place at come to seq node low high proper can two in
    let names_all = spine.inner.root_of.1 in
    let can_root = pair_can g root below place node low high ka kb spine.inner.root_is_proper spine.cover.0 names_all can.there side regrouped.names.0 regrouped.names.1 (can.fits (omega arith)) in
    let in_place = pair_in_place root below place node low high ka kb names_all can.there side regrouped.names.0 regrouped.names.1 in
    let is = succeeds g root place 1 ups next_to next_seq root_change regrouped.change_is in
    let names = named g root below place at come to seq node low high proper can two ka kb regrouped.names.0 regrouped.names.1 in
    let group : children_in (take 1 (drop place below)) ≡ node.children = ap children_in (one_taken below place node can.there) ∙ append-nil node.children in
    let are : children_in (low ∷ high ∷ []) ≡ children_after (children_in (take 1 (drop place below))) at 1 come =
    children_are g root below place at come to seq node low high proper can two ∙ ap (λ ks. children_after ks at 1 come) (sym group) in
    let tree = groups_tree g root (node_next root root_change) m nodes leaves e place 1 at 1 come ups (low ∷ high ∷ []) spine can_root is in_place
    (subst (λ n. NameNodes n ups (low ∷ high ∷ [])) (node_from root.from root.children below place node names_all can.there) names)
    (propers g root below place at come to seq node low high proper can two) (covers g root below place at come to seq node low high proper can two) (omega arith)
    (let within = can.within in omega (arith, within, ap (λ (ks : List Key). length ks) group)) are before gone more in
    let nodes_are : below_next below place (Move low) (Comes high) ≡ spliced below place 1 (low ∷ high ∷ []) = comes_is below place node high (Move low) can.there in
    subst (λ (b : Beside). IsSpine g (root_next root below change top) (below_next below place change b) (leaves_next leaves e) × ((root_next root below change top).end ≡ root.end)) (sym beside_is)
    (subst (λ (t : Option NodeChange). IsSpine g (root_next root below change t) (below_next below place change (Comes high)) (leaves_next leaves e) × ((root_next root below change t).end ≡ root.end)) (sym regrouped.top_is)
    (subst (λ (ch : NodeChange). IsSpine g (node_next root root_change) (below_next below place ch (Comes high)) (leaves_next leaves e) × ((node_next root root_change).end ≡ root.end)) (sym regrouped.bottom_is)
    (subst (λ ns. IsSpine g (node_next root root_change) ns (leaves_next leaves e)) (sym nodes_are) tree, is.end)))
