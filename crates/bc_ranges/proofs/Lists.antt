-- Lists of sets, of keys and of nodes.
use Rattle.std.proofs.Common.{◌≡◌, ◌⊎◌, inl, inr, ℕ, zero, suc, ◌<◌, Bool, true, false, List, [], ◌∷◌, ◌++◌, refl, sym, ap, ◌∙◌, subst, arith, if◌then◌else◌, ◌==◌, nat_lt}
use Rattle.std.specs.Prelude.{map, reverse, AllPairs, slice_index_or, length}
use Rattle.std.proofs.lemmas.List.{map-append, reverse-append, reverse-reverse}
use Rattle.bc_disk.specs.declared.geometry.Geometry.{Geometry}
use Rattle.bc_key.specs.declared.key.Key.{Key}
use Rattle.bc_set.specs.declared.set.Set.{Set}
use Rattle.bc_image.specs.Children.{child_before, children_of, is_bare, with_child, with_children}
use Rattle.bc_image.specs.Tree.{set_keys}
use Rattle.bc_meta.specs.Facts.{In}
use Rattle.bc_meta.specs.Tree.{NodeSet}
use Rattle.bc_meta.specs.Tree as tree
use Rattle.bc_facts.specs.Seen.{seen_set, seen_sets}
use Rattle.bc_facts.proofs.Lost.{one_set}
use Rattle.bc_facts.proofs.Stood.{in_behind, in_either, in_front, index_in}
use Rattle.bc_shows.proofs.Lists.{in_reverse}

pub out_reverse : {A : Type 0} (x : A) (xs : List A) → In x (reverse xs) → In x xs
out_reverse x xs i = subst (λ l. In x l) (reverse-reverse xs) (in_reverse x (reverse xs) i)

-- ---- sets as the formats have them, and as the machine does

one_map : (g : Geometry) (leaf : Bool) (xs ys : List Set) → map (seen_set g leaf) xs ≡ map (seen_set g leaf) ys → xs ≡ ys
one_map g leaf [] [] e = refl
one_map g leaf [] (y ∷ ys) e = absurd (cc)
one_map g leaf (x ∷ xs) [] e = absurd (cc)
one_map g leaf (x ∷ xs) (y ∷ ys) e =
    let here : seen_set g leaf x ≡ seen_set g leaf y = head (seen_set g leaf x) (seen_set g leaf y) (map (seen_set g leaf) xs) (map (seen_set g leaf) ys) e in
    let rest : map (seen_set g leaf) xs ≡ map (seen_set g leaf) ys = tail (seen_set g leaf x) (seen_set g leaf y) (map (seen_set g leaf) xs) (map (seen_set g leaf) ys) e in
    ap (λ (s : Set). s ∷ xs) (one_set g leaf x y here) ∙ ap (λ (l : List Set). y ∷ l) (one_map g leaf xs ys rest)
  where
    head : (a b : NodeSet) (cs ds : List NodeSet) → a ∷ cs ≡ b ∷ ds → a ≡ b
    head a b cs ds h = cc

    tail : (a b : NodeSet) (cs ds : List NodeSet) → a ∷ cs ≡ b ∷ ds → cs ≡ ds
    tail a b cs ds h = cc

-- sets are known by what is seen of them
pub one_sets : (g : Geometry) (leaf : Bool) (xs ys : List Set) → seen_sets g leaf xs ≡ seen_sets g leaf ys → xs ≡ ys
one_sets g leaf xs ys e =
    one_map g leaf xs ys (sym (reverse-reverse (map (seen_set g leaf) xs)) ∙ ap reverse e ∙ reverse-reverse (map (seen_set g leaf) ys))

-- one more set
pub seen_more : (g : Geometry) (leaf : Bool) (ss : List Set) (s : Set) → seen_sets g leaf (ss ++ (s ∷ [])) ≡ seen_set g leaf s ∷ seen_sets g leaf ss
seen_more g leaf ss s = ap reverse (map-append (seen_set g leaf) ss (s ∷ [])) ∙ reverse-append (map (seen_set g leaf) ss) (seen_set g leaf s ∷ [])

-- ---- keys of sets

pub keys_more : (ss ts : List Set) → set_keys (ss ++ ts) ≡ set_keys ss ++ set_keys ts
keys_more [] ts = refl
keys_more (s ∷ ss) ts = ap (λ l. s.keys ++ l) (keys_more ss ts) ∙ sym (join s.keys (set_keys ss) (set_keys ts))
  where
    join : (xs ys zs : List Key) → (xs ++ ys) ++ zs ≡ xs ++ (ys ++ zs)
    join [] ys zs = refl
    join (x ∷ xs) ys zs = ap (λ l. x ∷ l) (join xs ys zs)

pub no_more : (xs : List Key) → xs ++ [] ≡ xs
no_more [] = refl
no_more (x ∷ xs) = ap (λ l. x ∷ l) (no_more xs)

-- ---- children

front_in : (k key : Key) (cs : List Key) → In k (child_before key cs) → ((k ≡ key) × (is_bare key ≡ false)) ⊎ In k cs
front_in k key cs = go (is_bare key) refl
  where
    go : (b : Bool) → is_bare key ≡ b → In k (if b then cs else key ∷ cs) → ((k ≡ key) × (is_bare key ≡ false)) ⊎ In k cs
    go true e i = inr i
    go false e (inl same) = inl (same, e)
    go false e (inr i) = inr i

with_in : (k key : Key) (cs : List Key) → In k (with_child key cs) → ((k ≡ key) × (is_bare key ≡ false)) ⊎ In k cs
with_in k key [] i = front_in k key [] i
with_in k key (c ∷ cs) i = go (with_in k key cs) (nat_lt key.end c.end) (key.end == c.end) i
  where
    go : (In k (with_child key cs) → ((k ≡ key) × (is_bare key ≡ false)) ⊎ In k cs) → (a b : Bool) → In k (if a then child_before key (c ∷ cs) else (if b then child_before key cs else c ∷ with_child key cs)) → ((k ≡ key) × (is_bare key ≡ false)) ⊎ In k (c ∷ cs)
    go ih true b i = front_in k key (c ∷ cs) i
    go ih false true i = elim (front_in k key cs i) [ inl h ↦ inl h | inr j ↦ inr (inr j) ]
    go ih false false (inl e) = inr (inl e)
    go ih false false (inr i) = elim (ih i) [ inl h ↦ inl h | inr j ↦ inr (inr j) ]

-- a child was one before, or is a key that has a pointer
pub withs_in : (k : Key) (keys cs : List Key) → In k (with_children keys cs) → (In k keys × (is_bare k ≡ false)) ⊎ In k cs
withs_in k [] cs i = inr i
withs_in k (key ∷ keys) cs i = elim (withs_in k keys (with_child key cs) i) [
  | inl h ↦ inl (inr h.0, h.1)
  | inr j ↦ elim (with_in k key cs j) [ inl h ↦ inl (inl h.0, subst (λ (x : Key). is_bare x ≡ false) (sym h.0) h.1) | inr m ↦ inr m ]
]

pub with_join : (xs ys cs : List Key) → with_children (xs ++ ys) cs ≡ with_children ys (with_children xs cs)
with_join [] ys cs = refl
with_join (x ∷ xs) ys cs = with_join xs ys (with_child x cs)

pub child_in : (k : Key) (keys : List Key) → In k (children_of keys) → In k keys
child_in k keys i = elim (withs_in k keys [] i) [ inl h ↦ h.0 | inr j ↦ absurd j ]

-- ---- pairs

abbrev pub Pairs : {A : Type 0} → (A → A → Type 0) → List A → Type 0
Pairs R [] = Unit {0}
Pairs R (x ∷ xs) = ((y : _) → In y xs → R x y) × Pairs R xs

pub pairs_join : {A : Type 0} (R : A → A → Type 0) (xs ys : List A) → Pairs R xs → Pairs R ys → ((x y : A) → In x xs → In y ys → R x y) → Pairs R (xs ++ ys)
pairs_join R [] ys p q across = q
pairs_join R (x ∷ xs) ys p q across = (
  λ y i. elim (in_either y xs ys i) [ inl j ↦ p.0 y j | inr j ↦ across x y (inl refl) j ],
  pairs_join R xs ys p.1 q (λ a b i j. across a b (inr i) j),
)

pub pairs_all : {A : Type 0} (R S : A → A → Type 0) (xs : List A) → ((x y : A) → In x xs → In y xs → R x y → S x y) → Pairs R xs → AllPairs S xs
pairs_all R S [] f h i j d lt inside = absurd (omega arith)
pairs_all R S (x ∷ xs) f h i zero d lt inside = absurd (omega arith)
pairs_all R S (x ∷ xs) f h zero (suc j) d lt inside =
    let k = index_in xs j d (omega arith) in
    f x (slice_index_or xs j d) (inl refl) (inr k) (h.0 (slice_index_or xs j d) k)
pairs_all R S (x ∷ xs) f h (suc i) (suc j) d lt inside = pairs_all R S xs (λ a b p q. f a b (inr p) (inr q)) h.1 i j d (omega arith) (omega arith)
