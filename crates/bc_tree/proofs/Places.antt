-- Where a leaf stands, and where its key.
use Rattle.std.proofs.Common.{◌≡◌, ℕ, zero, suc, ◌+◌, ◌%◌, ◌<◌, ◌≤◌, List, [], ◌∷◌, ◌++◌, length, get_or, take, Some, refl, sym, subst, ap, ◌∙◌, arith}
use Rattle.std.specs.Prelude.{All, slice_get}
use Rattle.std.specs.List.{AllWithin}
use Rattle.std.proofs.lemmas.List.{append_assoc}
use Rattle.std.proofs.lemmas.List.Elements.{All-append, All-cons, All-nil, All-head, All-tail}
use Rattle.bc_inner.specs.Inner.{Inner}
use Rattle.bc_key.specs.Key.{ptr_at}
use Rattle.bc_key.specs.declared.key.Key.{Key}
use Rattle.bc_spine.specs.Leaves.{EndsAtCut, IsRow, Spans}
use Rattle.bc_spine.specs.declared.leaf.LeafRange.{LeafRange}
use Rattle.bc_tree.specs.Spine.{AreInRow, Covers, IsRootOf, NameLeaves, bottom, children_in, last_end}
use Rattle.bc_tree.proofs.Spines.{cover_ends, in_row}
use Rattle.bc_tree.proofs.Splices.{end_append}

-- it ends at a sector or before
abbrev EndsBy : ℕ → Key → Type 0
EndsBy sector key = key.end ≤ sector

begins_behind : (a b : ℕ) (leaves : List LeafRange) (r : ℕ) (leaf : LeafRange) → IsRow a leaves b → slice_get leaves r ≡ Some leaf → a ≤ leaf.from
begins_behind a b [] r leaf row there = absurd (cc)
begins_behind a b (l ∷ leaves) zero leaf row there = let same : l ≡ leaf = cc in omega (arith, row.0, ap (λ (x : LeafRange). x.from) same)
begins_behind a b (l ∷ leaves) (suc r) leaf row there = let rest = begins_behind l.end b leaves r leaf row.2 there in omega (arith, rest, row.1)

-- the leaf of a sector is named by the first key that ends behind it
pub is_named : (a b sector : ℕ) (keys : List Key) (leaves : List LeafRange) (r q : ℕ) (leaf : LeafRange) (key : Key) → IsRow a leaves b → NameLeaves keys leaves
    → slice_get leaves r ≡ Some leaf → Spans leaf sector → slice_get keys q ≡ Some key → All (EndsBy sector) (take q keys) → sector < key.end
    → (r ≡ q) × (leaf.end ≡ key.end) × (leaf.ptr ≡ ptr_at key 0)
is_named a b sector [] leaves r q leaf key row names there spans here low high = absurd (cc)
is_named a b sector (k ∷ keys) [] r q leaf key row names there spans here low high = absurd names
is_named a b sector (k ∷ keys) (l ∷ leaves) zero zero leaf key row names there spans here low high =
    let one : l ≡ leaf = cc in
    let two : k ≡ key = cc in
    (refl, ap (λ (x : LeafRange). x.end) (sym one) ∙ names.0 ∙ ap (λ (x : Key). x.end) two, ap (λ (x : LeafRange). x.ptr) (sym one) ∙ names.1 ∙ ap (λ (x : Key). ptr_at x 0) two)
is_named a b sector (k ∷ keys) (l ∷ leaves) zero (suc q) leaf key row names there spans here low high =
    let one : l ≡ leaf = cc in
    let less = All-head (EndsBy sector) k (take q keys) low in
    absurd (omega (arith, less, names.0, spans.1, ap (λ (x : LeafRange). x.end) one))
is_named a b sector (k ∷ keys) (l ∷ leaves) (suc r) zero leaf key row names there spans here low high =
    let two : k ≡ key = cc in
    let later = begins_behind l.end b leaves r leaf row.2 there in
    absurd (omega (arith, later, names.0, spans.0, high, ap (λ (x : Key). x.end) two))
is_named a b sector (k ∷ keys) (l ∷ leaves) (suc r) (suc q) leaf key row names there spans here low high =
    let rest = is_named l.end b sector keys leaves r q leaf key row.2 names.2 there spans here (All-tail (EndsBy sector) k (take q keys) low) high in
    (ap suc rest.0, rest.1, rest.2)

-- ---- lists in parts

pub get_behind : {X : Type 0} (front rest : List X) (i : ℕ) → slice_get (front ++ rest) (length front + i) ≡ slice_get rest i
get_behind [] rest i = let e : 0 + i ≡ i = omega arith in ap (slice_get rest) e
get_behind (x ∷ front) rest i = let e : suc (length front) + i ≡ suc (length front + i) = omega arith in ap (slice_get (x ∷ (front ++ rest))) e ∙ get_behind front rest i

pub get_before : {X : Type 0} (front rest : List X) (i : ℕ) (x : X) → slice_get front i ≡ Some x → (slice_get (front ++ rest) i ≡ Some x) × (take i (front ++ rest) ≡ take i front)
get_before [] rest i x there = absurd (cc)
get_before (y ∷ front) rest zero x there = (there, refl)
get_before (y ∷ front) rest (suc i) x there = let more = get_before front rest i x there in (more.0, ap (λ ys. y ∷ ys) more.1)

take_behind : {X : Type 0} (front rest : List X) (i : ℕ) → take (length front + i) (front ++ rest) ≡ front ++ take i rest
take_behind [] rest i = let e : 0 + i ≡ i = omega arith in ap (λ n. take n rest) e
take_behind (x ∷ front) rest i = let e : suc (length front) + i ≡ suc (length front + i) = omega arith in ap (λ n. take n (x ∷ (front ++ rest))) e ∙ ap (λ ys. x ∷ ys) (take_behind front rest i)

pub children_split : (nodes : List Inner) (n : ℕ) (node : Inner) → slice_get nodes n ≡ Some node → (rest : List Key) × (children_in nodes ≡ children_in (take n nodes) ++ (node.children ++ rest))
children_split [] n node there = absurd (cc)
children_split (m ∷ nodes) zero node there = let same : m ≡ node = cc in (children_in nodes, ap (λ (x : Inner). x.children ++ children_in nodes) same)
children_split (m ∷ nodes) (suc n) node there =
    let more = children_split nodes n node there in
    (more.0, ap (λ ks. m.children ++ ks) more.1 ∙ sym (append_assoc m.children (children_in (take n nodes)) (node.children ++ more.0)))

pub spans_some : (node : Inner) → Covers node → node.from < node.end
spans_some node cover =
    let some = cover.reach in
    let at = cover.within some.0 some.1 some.2 in
    omega (arith, at.0, at.1)

pub all_before : (a sector : ℕ) (nodes : List Inner) (n : ℕ) (node : Inner) → AreInRow a nodes → All Covers nodes → slice_get nodes n ≡ Some node → node.from ≤ sector → All (EndsBy sector) (children_in (take n nodes)) × (a ≤ node.from)
all_before a sector [] n node row covers there begins = absurd (cc)
all_before a sector (m ∷ nodes) zero node row covers there begins = let same : m ≡ node = cc in (All-nil (EndsBy sector), omega (arith, row.0, ap (λ (x : Inner). x.from) same))
all_before a sector (m ∷ nodes) (suc n) node row covers there begins =
    let cover = All-head Covers m nodes covers in
    let rest = all_before m.end sector nodes n node row.1 (All-tail Covers m nodes covers) there begins in
    let some = spans_some m cover in (
      All-append (EndsBy sector) m.children (children_in (take n nodes)) (λ k d inside. let at = (cover.within k d inside).1 in omega (arith, at, rest.1, begins)) rest.0,
      omega (arith, row.0, some, rest.1),
    )

-- ---- all of it

take_all_by : (sector : ℕ) (keys : List Key) (i : ℕ) → AllWithin (EndsBy sector) keys 0 i → All (EndsBy sector) (take i keys)
take_all_by sector keys zero all = All-nil (EndsBy sector)
take_all_by sector [] (suc i) all = All-nil (EndsBy sector)
take_all_by sector (k ∷ keys) (suc i) all =
    All-cons (EndsBy sector) k (take i keys) (all 0 k (omega arith) (omega arith)) (take_all_by sector keys i (λ j d low high. all (suc j) d (omega arith) (omega (arith, high))))

front_of : (nodes : List Inner) (n i : ℕ) (node : Inner) (key : Key) → slice_get nodes n ≡ Some node → slice_get node.children i ≡ Some key
    → take (length (children_in (take n nodes)) + i) (children_in nodes) ≡ children_in (take n nodes) ++ take i node.children
front_of nodes n i node key there child =
    let split = children_split nodes n node there in
    let front = children_in (take n nodes) in
    ap (take (length front + i)) split.1 ∙ take_behind front (node.children ++ split.0) i ∙ ap (λ ks. front ++ ks) (get_before node.children split.0 i key child).1

pub place_is : (a b sector : ℕ) (nodes : List Inner) (leaves : List LeafRange) (n i r : ℕ) (node : Inner) (key : Key) (leaf : LeafRange) → AreInRow a nodes → All Covers nodes → IsRow 0 leaves b
    → NameLeaves (children_in nodes) leaves → slice_get nodes n ≡ Some node → node.from ≤ sector → slice_get node.children i ≡ Some key → AllWithin (EndsBy sector) node.children 0 i → sector < key.end
    → slice_get leaves r ≡ Some leaf → Spans leaf sector
    → (r ≡ length (children_in (take n nodes)) + i) × (leaf.end ≡ key.end) × (leaf.ptr ≡ ptr_at key 0)
place_is a b sector nodes leaves n i r node key leaf row covers leaves_row names there begins child low high at spans =
    let split = children_split nodes n node there in
    let front = children_in (take n nodes) in
    let inner = get_before node.children split.0 i key child in
    let here : slice_get (children_in nodes) (length front + i) ≡ Some key = ap (λ ks. slice_get ks (length front + i)) split.1 ∙ get_behind front (node.children ++ split.0) i ∙ inner.0 in
    let before = front_of nodes n i node key there child in
    let all = All-append (EndsBy sector) front (take i node.children) (all_before a sector nodes n node row covers there begins).0 (take_all_by sector node.children i low) in
    is_named 0 b sector (children_in nodes) leaves r (length front + i) leaf key leaves_row names at spans here (subst (All (EndsBy sector)) (sym before) all) high

pub bottom_covers : (root : Inner) (below : List Inner) → Covers root → All Covers below → All Covers (bottom root below)
bottom_covers root [] one all = All-cons Covers root [] one (All-nil Covers)
bottom_covers root (node ∷ nodes) one all = all

pub bottom_row : (root : Inner) (below : List Inner) → IsRootOf root below → AreInRow root.from (bottom root below)
bottom_row root [] is = (refl, tt)
bottom_row root (node ∷ nodes) is = (in_row root.from root.children (node ∷ nodes) is.1).0

pub low_get : (root : Inner) (below : List Inner) → length below ≡ 0 → slice_get (bottom root below) 0 ≡ Some root
low_get root [] none = refl
low_get root (node ∷ nodes) none = absurd (omega (arith, none))

pub some_there : {X : Type 0} (xs : List X) (i : ℕ) → i < length xs → (x : X) × (slice_get xs i ≡ Some x) × ((d : X) → get_or xs i d ≡ x)
some_there [] i inside = absurd (omega (arith, inside))
some_there (x ∷ xs) zero inside = (x, refl, λ d. refl)
some_there (x ∷ xs) (suc i) inside = some_there xs i (omega (arith, inside))

-- ---- where the leaf begins

row_begins : (a b : ℕ) (keys : List Key) (leaves : List LeafRange) (i : ℕ) (leaf : LeafRange) → IsRow a leaves b → NameLeaves keys leaves → slice_get leaves i ≡ Some leaf → leaf.from ≡ last_end a (take i keys)
row_begins a b [] [] i leaf row names there = absurd (cc)
row_begins a b [] (l ∷ leaves) i leaf row names there = absurd names
row_begins a b (k ∷ keys) [] i leaf row names there = absurd names
row_begins a b (k ∷ keys) (l ∷ leaves) zero leaf row names there = let same : l ≡ leaf = cc in ap (λ (x : LeafRange). x.from) (sym same) ∙ row.0
row_begins a b (k ∷ keys) (l ∷ leaves) (suc i) leaf row names there = row_begins l.end b keys leaves i leaf row.2 names.2 there ∙ ap (λ n. last_end n (take i keys)) names.0

front_ends : (a : ℕ) (nodes : List Inner) (n : ℕ) (node : Inner) → AreInRow a nodes → All Covers nodes → slice_get nodes n ≡ Some node → last_end a (children_in (take n nodes)) ≡ node.from
front_ends a [] n node row covers there = absurd (cc)
front_ends a (m ∷ nodes) zero node row covers there = let same : m ≡ node = cc in sym row.0 ∙ ap (λ (x : Inner). x.from) same
front_ends a (m ∷ nodes) (suc n) node row covers there =
    let cover = All-head Covers m nodes covers in
    end_append a m.children (children_in (take n nodes))
    ∙ ap (λ e. last_end e (children_in (take n nodes))) (ap (λ e. last_end e m.children) (sym row.0) ∙ cover_ends m.from m.end m.children cover)
    ∙ front_ends m.end nodes n node row.1 (All-tail Covers m nodes covers) there

pub place_begins : (b : ℕ) (nodes : List Inner) (leaves : List LeafRange) (n i r : ℕ) (node : Inner) (key : Key) (leaf : LeafRange) → AreInRow 0 nodes → All Covers nodes → IsRow 0 leaves b
    → NameLeaves (children_in nodes) leaves → slice_get nodes n ≡ Some node → slice_get node.children i ≡ Some key → slice_get leaves r ≡ Some leaf → r ≡ length (children_in (take n nodes)) + i
    → leaf.from ≡ last_end node.from (take i node.children)
place_begins b nodes leaves n i r node key leaf row covers leaves_row names there child at is =
    let front = children_in (take n nodes) in
    row_begins 0 b (children_in nodes) leaves r leaf leaves_row names at
    ∙ ap (λ m. last_end 0 (take m (children_in nodes))) is
    ∙ ap (last_end 0) (front_of nodes n i node key there child)
    ∙ end_append 0 front (take i node.children)
    ∙ ap (λ e. last_end e (take i node.children)) (front_ends 0 nodes n node row covers there)

-- and at a multiple of 256 sectors
pub begins_cut : (a b : ℕ) (leaves : List LeafRange) (r : ℕ) (leaf : LeafRange) → a % 256 ≡ 0 → IsRow a leaves b → All EndsAtCut leaves → slice_get leaves r ≡ Some leaf → (leaf.from % 256 ≡ 0) × (leaf.end % 256 ≡ 0)
begins_cut a b [] r leaf low row cuts there = absurd (cc)
begins_cut a b (l ∷ leaves) zero leaf low row cuts there =
    let same : l ≡ leaf = cc in
    (ap (λ (x : LeafRange). x.from % 256) (sym same) ∙ ap (λ n. n % 256) row.0 ∙ low, ap (λ (x : LeafRange). x.end % 256) (sym same) ∙ All-head EndsAtCut l leaves cuts)
begins_cut a b (l ∷ leaves) (suc r) leaf low row cuts there = begins_cut l.end b leaves r leaf (All-head EndsAtCut l leaves cuts) row.2 (All-tail EndsAtCut l leaves cuts) there
