-- A pair has one view, and shows one thing.
use Rattle.std.proofs.Common.{◌≡◌, ℕ, zero, suc, ◌+◌, List, [], ◌∷◌, ◌++◌, Some, sym, subst, ap, ◌∙◌}
use Rattle.bc_model.specs.Sector.{Image}
use Rattle.bc_disk.specs.declared.geometry.Geometry.{Geometry}
use Rattle.bc_key.specs.declared.key.Key.{Key}
use Rattle.bc_key.specs.declared.ptr.Ptr.{Ptr}
use Rattle.bc_key.specs.Words.{ptr_word}
use Rattle.bc_set.specs.declared.set.Set.{Set}
use Rattle.bc_set.specs.Records.{AreNodeSets}
use Rattle.bc_set.proofs.NodeSets.{one_node}
use Rattle.bc_jset.specs.Entries.{FoundEntry, IsNewest, AreEntries}
use Rattle.bc_jset.proofs.Entries.{one_stand, one_newest, one_list}
use Rattle.bc_prio.specs.Records.{ChainIn}
use Rattle.bc_prio.proofs.Found.{one_chain_in}
use Rattle.bc_super.specs.Division.{IsGeometryOf, IsPassThrough}
use Rattle.bc_super.proofs.Geometries.{one_geometry}
use Rattle.bc_super.specs.declared.backing.BackingSuper.{BackingSuper}
use Rattle.bc_super.specs.declared.cache.CacheSuper.{CacheSuper}
use Rattle.bc_image.specs.Pair.{Pair, HasBacking, HasCache}
use Rattle.bc_image.specs.Children.{children_of}
use Rattle.bc_image.specs.Tree.{Node, node_of, kind_at, set_keys, AreSetsAt, AreWalks, IsWalk}
use Rattle.bc_image.specs.Reading.{Reading, IsReading, View, IsView}
use Rattle.bc_image.specs.Shown.{shown_by, IsShown, through, cached}

pub some_same : {A : Type 0} → (a b : A) → Some a ≡ Some b → a ≡ b
some_same a b e = cc

-- ---- the tree

pub one_sets : (g : Geometry) (image : Image) (level : ℕ) (key : Key) (ss ts : List Set) → AreSetsAt g image level key ss → AreSetsAt g image level key ts → ss ≡ ts
one_sets g image level key ss ts p q =
    let same : q.ptr ≡ p.ptr = some_same q.ptr p.ptr (sym q.points ∙ p.points) in
    one_node g (ptr_word p.ptr) (kind_at level) image (p.ptr.offset + g.node_sectors) p.ptr.offset ss ts p.stand
    (subst (λ (x : Ptr). AreNodeSets g (ptr_word x) (kind_at level) image (x.offset + g.node_sectors) x.offset ts) same q.stand)

abbrev IsOne : (ℕ → Key → List Node → Type 0) → Type 0
IsOne walk = (from : ℕ) (key : Key) (xs ys : List Node) → walk from key xs → walk from key ys → xs ≡ ys

one_walks : (walk : ℕ → Key → List Node → Type 0) → IsOne walk → (from : ℕ) (children : List Key) (xs ys : List Node) → AreWalks walk from children xs → AreWalks walk from children ys → xs ≡ ys
one_walks walk one from [] xs ys p q = p ∙ sym q
one_walks walk one from (child ∷ children) xs ys p q =
    let here : p.0 ≡ q.0 = one from child p.0 q.0 p.2 q.2 in
    let rest : p.1 ≡ q.1 = one_walks walk one child.end children p.1 q.1 p.3 q.3 in
    p.4 ∙ ap (λ (ns : List Node). ns ++ p.1) here ∙ ap (λ (ns : List Node). q.0 ++ ns) rest ∙ sym q.4

pub one_walk : (g : Geometry) (image : Image) (level from : ℕ) (key : Key) (xs ys : List Node) → IsWalk g image level from key xs → IsWalk g image level from key ys → xs ≡ ys
one_walk g image zero from key xs ys p q =
    let same : p.0 ≡ q.0 = one_sets g image zero key p.0 q.0 p.1 q.1 in
    p.2 ∙ ap (λ (ss : List Set). node_of zero from key ss ∷ []) same ∙ sym q.2
one_walk g image (suc level) from key xs ys p q =
    let same : p.0 ≡ q.0 = one_sets g image (suc level) key p.0 q.0 p.2 q.2 in
    let other : AreWalks (IsWalk g image level) from (children_of (set_keys p.0)) q.1 = subst (λ (ss : List Set). AreWalks (IsWalk g image level) from (children_of (set_keys ss)) q.1) (sym same) q.3 in
    let below : p.1 ≡ q.1 = one_walks (IsWalk g image level) (one_walk g image level) from (children_of (set_keys p.0)) p.1 q.1 p.3 other in
    p.4 ∙ ap (λ (ss : List Set). node_of (suc level) from key ss ∷ p.1) same ∙ ap (λ (ns : List Node). node_of (suc level) from key q.0 ∷ ns) below ∙ sym q.4

-- ---- the reading

pub same_newest : (g : Geometry) (image : Image) (xs ys : List FoundEntry) (p : AreEntries g image xs) (q : AreEntries g image ys) → p.newest ≡ q.newest
same_newest g image xs ys p q =
    let all : q.all ≡ p.all = one_stand g image g.journal q.all p.all q.stand p.stand in
    one_newest p.all p.newest q.newest p.is_newest (subst (λ (es : List FoundEntry). IsNewest es q.newest) all q.is_newest)

same_reading : (a b : Reading) → a.entries ≡ b.entries → a.newest ≡ b.newest → a.gens ≡ b.gens → a.nodes ≡ b.nodes → a ≡ b
same_reading a b entries newest gens nodes = λ i. record { entries = entries i; newest = newest i; gens = gens i; nodes = nodes i }

pub one_reading : (g : Geometry) (image : Image) (a b : Reading) → IsReading g image a → IsReading g image b → a ≡ b
one_reading g image a b p q =
    let newest : a.newest ≡ b.newest = sym p.newest ∙ same_newest g image a.entries b.entries p.entries q.entries ∙ q.newest in
    let gens : ChainIn g image a.newest.item.prio b.gens = subst (λ (e : FoundEntry). ChainIn g image e.item.prio b.gens) (sym newest) q.gens in
    let nodes : IsWalk g image a.newest.item.level 0 a.newest.item.root b.nodes = subst (λ (e : FoundEntry). IsWalk g image e.item.level 0 e.item.root b.nodes) (sym newest) q.nodes in
    same_reading a b (one_list g image a.entries b.entries p.entries q.entries) newest
    (one_chain_in g image a.newest.item.prio a.gens b.gens p.gens gens) (one_walk g image a.newest.item.level 0 a.newest.item.root a.nodes b.nodes p.nodes nodes)

-- ---- the pair

pub one_backing : (p : Pair) (a b : BackingSuper) → HasBacking p a → HasBacking p b → a ≡ b
one_backing p a b x y = x.1.spelled ∙ sym y.1.spelled

pub one_cache : (p : Pair) (a b : CacheSuper) → HasCache p a → HasCache p b → a ≡ b
one_cache p a b x y = x.1.spelled ∙ sym y.1.spelled

same_view : (a b : View) → a.backing ≡ b.backing → a.cache ≡ b.cache → a.geometry ≡ b.geometry → a.reading ≡ b.reading → a ≡ b
same_view a b backing cache geometry reading = λ i. record { backing = backing i; cache = cache i; geometry = geometry i; reading = reading i }

pub one_view : (p : Pair) (a b : View) → IsView p a → IsView p b → a ≡ b
one_view p a b x y =
    let cache : a.cache ≡ b.cache = one_cache p a.cache b.cache x.cache y.cache in
    let geometry : a.geometry ≡ b.geometry = one_geometry a.cache a.geometry b.geometry x.geometry (subst (λ (s : CacheSuper). IsGeometryOf s b.geometry) (sym cache) y.geometry) in
    let reading : IsReading a.geometry p.cache b.reading = subst (λ (g : Geometry). IsReading g p.cache b.reading) (sym geometry) y.reading in
    same_view a b (one_backing p a.backing b.backing x.backing y.backing) cache geometry (one_reading a.geometry p.cache a.reading b.reading x.reading reading)

pub one_shown : (p : Pair) (f h : Image) → IsShown p f → IsShown p h → (s : ℕ) → f s ≡ h s
one_shown p f h (through a x alone is) (through b y too gives) s =
    is s ∙ ap (λ (d : BackingSuper). p.backing (d.data_offset + s)) (one_backing p a b x y) ∙ sym (gives s)
one_shown p f h (through a x alone is) (cached w y not gives) s = absurd (not (subst IsPassThrough (one_backing p a w.backing x y.backing) alone))
one_shown p f h (cached v x not is) (through b y alone gives) s = absurd (not (subst IsPassThrough (one_backing p b v.backing y x.backing) alone))
one_shown p f h (cached v x not is) (cached w y nor gives) s = is s ∙ ap (λ (u : View). shown_by p u s) (one_view p v w x y) ∙ sym (gives s)
