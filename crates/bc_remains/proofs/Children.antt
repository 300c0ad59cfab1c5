-- The children of a node, as the format has them and as the machine does.
use Rattle.std.proofs.Common.{◌≡◌, ◌⊎◌, inl, inr, ℕ, ◌<◌, ◌≤◌, Bool, true, false, List, [], ◌∷◌, ◌++◌, refl, sym, ap, ◌∙◌, subst, arith, if◌then◌else◌, ◌==◌, nat_le, nat_lt}
use Rattle.std.specs.Prelude.{map}
use Rattle.std.proofs.lemmas.Bool.{cases_lt, lt-ltb, le-ltb}
use Rattle.bc_disk.specs.declared.geometry.Geometry.{Geometry}
use Rattle.bc_key.specs.declared.key.Key.{Key}
use Rattle.bc_set.specs.declared.set.Set.{Set}
use Rattle.bc_meta.specs.Tree as tree
use Rattle.bc_meta.specs.Tree.{Child, NodeSet, put_child, put_children}
use Rattle.bc_image.specs.Children.{is_bare, child_before, with_child, with_children, children_of}
use Rattle.bc_image.specs.Tree.{set_keys}
use Rattle.bc_facts.specs.Seen.{seen_child, seen_set, seen_sets}
use Rattle.bc_facts.proofs.Lists.{put_all, put_none}
use Rattle.bc_meta.proofs.Lists.{by_test, by_le}

abbrev before : Child → List Child → List Child
before c ks = if c.gone then ks else c ∷ ks

before_is : (g : Geometry) (c : Key) (ks : List Key) → before (seen_child g c) (map (seen_child g) ks) ≡ map (seen_child g) (child_before c ks)
before_is g c ks = go (is_bare c)
  where
    go : (b : Bool) → (if b then map (seen_child g) ks else seen_child g c ∷ map (seen_child g) ks) ≡ map (seen_child g) (if b then ks else c ∷ ks)
    go true = refl
    go false = refl

by_lt : (a b : ℕ) (P : Bool → Type 0) → (a < b → P true) → (b ≤ a → P false) → P (nat_lt a b)
by_lt a b P yes_ no_ = go (cases_lt a b)
  where
    go : (a < b) ⊎ (b ≤ a) → P (nat_lt a b)
    go (inl lt) = subst P (sym (lt-ltb a b lt)) (yes_ lt)
    go (inr ge) = subst P (sym (le-ltb a b ge)) (no_ ge)

put_is : (g : Geometry) (c : Key) (ks : List Key) → put_child (seen_child g c) (map (seen_child g) ks) ≡ map (seen_child g) (with_child c ks)
put_is g c [] = before_is g c []
put_is g c (k ∷ ks) =
    let here = before_is g c ks in
    let front = before_is g c (k ∷ ks) in
    let ih = put_is g c ks in
    by_lt c.end k.end (λ lt. put_child (seen_child g c) (seen_child g k ∷ map (seen_child g) ks) ≡ map (seen_child g) (if lt then child_before c (k ∷ ks) else (if c.end == k.end then child_before c ks else k ∷ with_child c ks)))
    (λ lt.
    by_test k.end c.end (λ e. (if e then before (seen_child g c) (map (seen_child g) ks) else (if nat_le c.end k.end then before (seen_child g c) (seen_child g k ∷ map (seen_child g) ks) else seen_child g k ∷ put_child (seen_child g c) (map (seen_child g) ks))) ≡ map (seen_child g) (child_before c (k ∷ ks)))
    (λ same. absurd (omega arith))
    (λ ne. by_le c.end k.end (λ le. (if le then before (seen_child g c) (seen_child g k ∷ map (seen_child g) ks) else seen_child g k ∷ put_child (seen_child g c) (map (seen_child g) ks)) ≡ map (seen_child g) (child_before c (k ∷ ks)))
    (λ _. front) (λ over. absurd (omega arith))))
    (λ ge.
    by_test c.end k.end (λ e. put_child (seen_child g c) (seen_child g k ∷ map (seen_child g) ks) ≡ map (seen_child g) (if e then child_before c ks else k ∷ with_child c ks))
    (λ same. by_test k.end c.end (λ e. (if e then before (seen_child g c) (map (seen_child g) ks) else (if nat_le c.end k.end then before (seen_child g c) (seen_child g k ∷ map (seen_child g) ks) else seen_child g k ∷ put_child (seen_child g c) (map (seen_child g) ks))) ≡ map (seen_child g) (child_before c ks))
    (λ _. here) (λ ne. absurd (ne (sym same))))
    (λ other. by_test k.end c.end (λ e. (if e then before (seen_child g c) (map (seen_child g) ks) else (if nat_le c.end k.end then before (seen_child g c) (seen_child g k ∷ map (seen_child g) ks) else seen_child g k ∷ put_child (seen_child g c) (map (seen_child g) ks))) ≡ map (seen_child g) (k ∷ with_child c ks))
    (λ same. absurd (other (sym same)))
    (λ _. by_le c.end k.end (λ le. (if le then before (seen_child g c) (seen_child g k ∷ map (seen_child g) ks) else seen_child g k ∷ put_child (seen_child g c) (map (seen_child g) ks)) ≡ map (seen_child g) (k ∷ with_child c ks))
    (λ le. absurd (other (omega arith))) (λ _. ap (λ (l : List Child). seen_child g k ∷ l) ih))))

puts_are : (g : Geometry) (cs ks : List Key) → put_children (map (seen_child g) cs) (map (seen_child g) ks) ≡ map (seen_child g) (with_children cs ks)
puts_are g [] ks = refl
puts_are g (c ∷ cs) ks = ap (put_children (map (seen_child g) cs)) (put_is g c ks) ∙ puts_are g cs (with_child c ks)

with_more : (xs ys ks : List Key) → with_children (xs ++ ys) ks ≡ with_children ys (with_children xs ks)
with_more [] ys ks = refl
with_more (x ∷ xs) ys ks = with_more xs ys (with_child x ks)

sets_put : (g : Geometry) (ss : List Set) (acc : List NodeSet) (ks : List Key) → tree.children_of acc ≡ map (seen_child g) ks
    → tree.children_of (put_all (seen_set g false) ss acc) ≡ map (seen_child g) (with_children (set_keys ss) ks)
sets_put g [] acc ks h = h
sets_put g (s ∷ ss) acc ks h =
    sets_put g ss (seen_set g false s ∷ acc) (with_children s.keys ks) (ap (put_children (map (seen_child g) s.keys)) h ∙ puts_are g s.keys ks)
    ∙ ap (map (seen_child g)) (sym (with_more s.keys (set_keys ss) ks))

-- the children of a node by its sets
pub children_are : (g : Geometry) (ss : List Set) → tree.children_of (seen_sets g false ss) ≡ map (seen_child g) (children_of (set_keys ss))
children_are g ss = ap tree.children_of (sym (put_none (seen_set g false) ss)) ∙ sets_put g ss [] [] refl
