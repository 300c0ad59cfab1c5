-- A node that was read.
use Rattle.std.proofs.Common.{◌≡◌, inl, inr, ℕ, ◌+◌, ◌*◌, ◌<◌, ◌≤◌, true, false, List, [], ◌∷◌, ◌++◌, length, refl, sym, subst, ap, ◌∙◌, arith, length-append}
use Rattle.std.specs.Prelude.{All, nat_lt, not}
use Rattle.std.proofs.lemmas.Bool.{cases_Bool, cases_lt, le-ltb}
use Rattle.std.proofs.lemmas.List.Concat.{flat_map-append}
use Rattle.std.proofs.lemmas.List.Elements.{All-nil, All-cons, All-tail}
use Rattle.bc_disk.specs.declared.geometry.Geometry.{Geometry}
use Rattle.bc_image.specs.Children.{is_bare, child_before, with_child, with_children, children_of}
use Rattle.bc_image.specs.Tree.{set_keys}
use Rattle.bc_image.proofs.Children.{Way, below, same, above, way}
use Rattle.bc_inner.specs.Inner.{Inner, IsInnerOf}
use Rattle.bc_key.specs.Words.{words_of}
use Rattle.bc_key.specs.declared.key.Key.{Key}
use Rattle.bc_keys.specs.Spelling.{words_of_all}
use Rattle.bc_node.specs.Sets.{taken_by}
use Rattle.bc_record.proofs.Blocks.{block_some, blocks_hold}
use Rattle.bc_set.specs.declared.set.Set.{Set}
use Rattle.bc_set.specs.SetBytes.{bytes_of}
use Rattle.bc_tree.specs.Children.{HasPointer}
use Rattle.bc_tree.specs.Needs.{words}
use Rattle.bc_tree.specs.Spine.{IsProper}

-- ---- each child has a pointer

some_pointer : (key : Key) → is_bare key ≡ false → HasPointer key
some_pointer key kept = elim (cases_lt 0 key.count) [
  | inl some ↦ some
  | inr none ↦ (let low : nat_lt 0 key.count ≡ false = le-ltb 0 key.count none in let two : true ≡ false = sym (ap not low) ∙ kept in absurd (cc))
]

live_before : (key : Key) (cs : List Key) → All HasPointer cs → All HasPointer (child_before key cs)
live_before key cs all = elim (cases_Bool (is_bare key)) [
  | inl bare ↦ (let at : child_before key cs ≡ cs = rw bare refl in subst (All HasPointer) (sym at) all)
  | inr kept ↦ (let at : child_before key cs ≡ key ∷ cs = rw kept refl in subst (All HasPointer) (sym at) (All-cons HasPointer key cs (some_pointer key kept) all))
]

live_child : (key : Key) (cs : List Key) → All HasPointer cs → All HasPointer (with_child key cs)
live_child key [] all = live_before key [] all
live_child key (c ∷ cs) all = go (way key c cs) (live_child key cs (All-tail HasPointer c cs all))
  where
    go : Way key c cs → All HasPointer (with_child key cs) → All HasPointer (with_child key (c ∷ cs))
    go (below lt at) rest = subst (All HasPointer) (sym at) (live_before key (c ∷ cs) all)
    go (same is at) rest = subst (All HasPointer) (sym at) (live_before key cs (All-tail HasPointer c cs all))
    go (above gt at) rest = subst (All HasPointer) (sym at) (All-cons HasPointer c (with_child key cs) (all 0 c (omega arith)) rest)

live_children : (keys cs : List Key) → All HasPointer cs → All HasPointer (with_children keys cs)
live_children [] cs all = all
live_children (key ∷ keys) cs all = live_children keys (with_child key cs) (live_child key cs all)

-- ---- they take no more words than the keys of the sets

pub words_cons : (key : Key) (keys : List Key) → words (key ∷ keys) ≡ length (words_of key) + words keys
words_cons key keys = length-append (words_of key) (words_of_all keys)

words_before : (key : Key) (cs : List Key) → words (child_before key cs) ≤ length (words_of key) + words cs
words_before key cs = elim (cases_Bool (is_bare key)) [
  | inl bare ↦ (let at : child_before key cs ≡ cs = rw bare refl in omega (arith, ap words at))
  | inr kept ↦ (let at : child_before key cs ≡ key ∷ cs = rw kept refl in omega (arith, ap words at, words_cons key cs))
]

words_child : (key : Key) (cs : List Key) → words (with_child key cs) ≤ length (words_of key) + words cs
words_child key [] = words_before key []
words_child key (c ∷ cs) = go (way key c cs) (words_child key cs)
  where
    go : Way key c cs → words (with_child key cs) ≤ length (words_of key) + words cs → words (with_child key (c ∷ cs)) ≤ length (words_of key) + words (c ∷ cs)
    go (below lt at) rest = omega (arith, ap words at, words_before key (c ∷ cs))
    go (same is at) rest = omega (arith, ap words at, words_before key cs, words_cons c cs)
    go (above gt at) rest = omega (arith, ap words at, words_cons c (with_child key cs), words_cons c cs, rest)

words_children : (keys cs : List Key) → words (with_children keys cs) ≤ words keys + words cs
words_children [] cs = omega arith
words_children (key ∷ keys) cs = omega (arith, words_children keys (with_child key cs), words_child key cs, words_cons key keys)

pub words_append : (xs ys : List Key) → words (xs ++ ys) ≡ words xs + words ys
words_append xs ys = ap length (flat_map-append words_of xs ys) ∙ length-append (words_of_all xs) (words_of_all ys)

-- ---- which fit in the node

sets_fit : (g : Geometry) (sets : List Set) → 0 < g.block → 8 * words (set_keys sets) ≤ 512 * taken_by g sets
sets_fit g [] some = omega arith
sets_fit g (s ∷ ss) some =
    let hold = blocks_hold g.block (bytes_of s) some in
    let all = words_append s.keys (set_keys ss) in
    omega (arith, hold, all, sets_fit g ss some)

first_fits : (g : Geometry) (s : Set) (ss : List Set) → 0 < g.block → 32 + 8 * words (set_keys (s ∷ ss)) ≤ 512 * taken_by g (s ∷ ss)
first_fits g s ss some =
    let hold = blocks_hold g.block (bytes_of s) some in
    let all = words_append s.keys (set_keys ss) in
    omega (arith, hold, all, sets_fit g ss some)

all_fit : (g : Geometry) (sets : List Set) (taken : ℕ) → taken ≡ taken_by g sets → taken ≤ g.node_sectors → 32 + 8 * words (children_of (set_keys sets)) ≤ 512 * g.node_sectors
all_fit g [] taken is short = let size = g.node_is_one in let bucket = g.bucket_from in omega (arith, size, bucket)
all_fit g (s ∷ ss) taken is short =
    omega (arith, words_children (set_keys (s ∷ ss)) [], first_fits g s ss (block_some g), is, short)

pub read_is_proper : (g : Geometry) (key : Key) (level from : ℕ) (sets : List Set) (inner : Inner) → IsInnerOf g key level from sets inner → IsProper g inner
read_is_proper g key level from sets inner is = record {
  live = subst (All HasPointer) (sym is.children) (live_children (set_keys sets) [] (All-nil HasPointer));
  fits = subst (λ (cs : List Key). 32 + 8 * words cs ≤ 512 * g.node_sectors) (sym is.children) (all_fit g sets inner.taken is.taken is.short);
}
