-- Keys of a reading, and the machine's.
use Rattle.std.proofs.Common.{◌≡◌, ℕ, Bool, true, false, List, [], ◌∷◌, ◌++◌, Option, Some, None, refl, sym, ap, ◌∙◌, append_assoc, if◌then◌else◌}
use Rattle.std.specs.Prelude.{map, reverse, flat_map}
use Rattle.std.specs.Option.{option_or}
use Rattle.std.proofs.lemmas.List.{append-nil, reverse-append}
use Rattle.bc_disk.specs.declared.geometry.Geometry.{Geometry}
use Rattle.bc_key.specs.declared.key.Key.{Key}
use Rattle.bc_key.specs.Key.{pointer_of}
use Rattle.bc_extent.specs.LastKey.{covers, last_key}
use Rattle.bc_jset.specs.Entries.{FoundEntry}
use Rattle.bc_set.specs.declared.set.Set.{Set}
use Rattle.bc_meta.specs.Keys.{Ref, last_ref, ref_by}
use Rattle.bc_meta.specs.Entries.{Entry, all_keys}
use Rattle.bc_meta.specs.Tree as tree
use Rattle.bc_meta.specs.Tree.{NodeSet}
use Rattle.bc_image.specs.Tree.{set_keys}
use Rattle.bc_facts.specs.Seen.{seen_entry, seen_entries, seen_set, seen_sets}
use Rattle.bc_facts.proofs.Lists.{put_all, put_none}
use Rattle.bc_remains.specs.Means.{ref_of}

reversed : {A : Type 0} (x : A) (xs : List A) → reverse (x ∷ xs) ≡ reverse xs ++ (x ∷ [])
reversed x xs = reverse-append (x ∷ []) xs

abbrev or_else : Option Key → ℕ → Option Ref → Option Ref
or_else None s rest = rest
or_else (Some key) s rest = ref_by key s (pointer_of key)

ref_put : (ks acc : List Key) (s : ℕ) → last_ref (put_all (λ k. k) ks acc) s ≡ or_else (last_key ks s) s (last_ref acc s)
ref_put [] acc s = refl
ref_put (k ∷ ks) acc s = ref_put ks (k ∷ acc) s ∙ go (last_key ks s) (covers k s)
  where
    go : (o : Option Key) (b : Bool) → or_else o s (if b then ref_by k s (pointer_of k) else last_ref acc s) ≡ or_else (option_or o (if b then Some k else None)) s (last_ref acc s)
    go (Some x) b = refl
    go None true = refl
    go None false = refl

no_map : (ks : List Key) → map (λ k. k) ks ≡ ks
no_map [] = refl
no_map (k ∷ ks) = ap (λ (l : List Key). k ∷ l) (no_map ks)

none_else : (o : Option Key) (s : ℕ) → or_else o s None ≡ ref_of o s
none_else None s = refl
none_else (Some k) s = refl

-- the last key of a list is the first of it turned round
pub last_is : (ks : List Key) (s : ℕ) → ref_of (last_key ks s) s ≡ last_ref (reverse ks) s
last_is ks s =
    sym (none_else (last_key ks s) s) ∙ sym (ref_put ks [] s) ∙ ap (λ (l : List Key). last_ref l s) (put_none (λ (k : Key). k) ks ∙ ap reverse (no_map ks))

all_more : (xs : List Entry) (e : Entry) → all_keys (xs ++ (e ∷ [])) ≡ all_keys xs ++ e.keys
all_more [] e = append-nil e.keys
all_more (x ∷ xs) e = ap (λ (l : List Key). x.keys ++ l) (all_more xs e) ∙ sym (append_assoc x.keys (all_keys xs) e.keys)

-- the keys of entries
pub entry_keys : (g : Geometry) (es : List FoundEntry) → reverse (flat_map (λ (e : FoundEntry). e.item.keys) es) ≡ all_keys (seen_entries g es)
entry_keys g [] = refl
entry_keys g (e ∷ es) =
    reverse-append e.item.keys (flat_map (λ (x : FoundEntry). x.item.keys) es)
    ∙ ap (λ (l : List Key). l ++ reverse e.item.keys) (entry_keys g es)
    ∙ sym (all_more (seen_entries g es) (seen_entry g e.item))
    ∙ ap all_keys (sym (reversed (seen_entry g e.item) (map (λ (x : FoundEntry). seen_entry g x.item) es)))

sets_more : (xs : List NodeSet) (e : NodeSet) → tree.set_keys (xs ++ (e ∷ [])) ≡ tree.set_keys xs ++ e.keys
sets_more [] e = append-nil e.keys
sets_more (x ∷ xs) e = ap (λ (l : List Key). x.keys ++ l) (sets_more xs e) ∙ sym (append_assoc x.keys (tree.set_keys xs) e.keys)

-- the keys of a leaf
pub leaf_keys : (g : Geometry) (sets : List Set) → reverse (set_keys sets) ≡ tree.set_keys (seen_sets g true sets)
leaf_keys g [] = refl
leaf_keys g (s ∷ ss) =
    reverse-append s.keys (set_keys ss)
    ∙ ap (λ (l : List Key). l ++ reverse s.keys) (leaf_keys g ss)
    ∙ sym (sets_more (seen_sets g true ss) (seen_set g true s))
    ∙ ap tree.set_keys (sym (reversed (seen_set g true s) (map (seen_set g true) ss)))
