-- The buckets of the nodes that a plan takes away, one behind the other.
use Rattle.std.proofs.Common.{◌≡◌, inl, inr, ℕ, zero, suc, ◌+◌, ◌^◌, ◌<◌, ◌≤◌, List, [], ◌∷◌, ◌++◌, length, map, take, drop, Option, None, Some, refl, sym, ap, ◌∙◌, subst, arith}
use Rattle.std.specs.Prelude.{OnOk, Ok, Err, Result, min, option_to_list, slice_get, IfSome}
use Rattle.std.specs.declared.alloc.AllocError.{AllocError}
use Rattle.std.proofs.lemmas.List.{append_assoc, map-append, take-append-drop}
use Rattle.std.proofs.Math.Nat.{min-eq_left}
use Rattle.bc_change.specs.Goes.{beside_gone, gives_way, numbers, old_nodes, top_gives_way}
use Rattle.bc_disk.specs.declared.geometry.Geometry.{Geometry}
use Rattle.bc_inner.specs.Inner.{Inner}
use Rattle.bc_meta.specs.Facts.{In}
use Rattle.bc_spine.specs.Exchange.{going}
use Rattle.bc_spine.specs.Leaves.{AreLeaves, IsRow}
use Rattle.bc_spine.specs.declared.leaf.LeafRange.{LeafRange}
use Rattle.bc_spine.proofs.Rows.{row_split}
use Rattle.bc_tree.specs.Plan.{Fits}
use Rattle.bc_tree.specs.Spine.{Spine, bottom}
use Rattle.bc_tree.specs.declared.plan.Plan.{Plan}
use Rattle.bc_install.specs.Ends.{leaf_buckets}
use Rattle.bc_install.specs.Numbered.{bucket_by, end_by, node_buckets}

one_at : (xs : List Inner) (n : ℕ) (x : Inner) → slice_get xs n ≡ Some x
    → (take 1 (drop n xs) ≡ x ∷ []) × (n < length xs)
one_at [] zero x is = absurd (cc)
one_at [] (suc n) x is = absurd (cc)
one_at (y ∷ ys) zero x is = ((let same : y ≡ x = cc in ap (λ (z : Inner). z ∷ []) same), omega arith)
one_at (y ∷ ys) (suc n) x is = let one = one_at ys n x is in
    (one.0, (let low = one.1 in omega (arith, low)))

few_at : (root : Inner) (below : List Inner) (n : ℕ) → n < length (bottom root below)
    → length below < 18446744073709551616 → n + 1 ≤ 18446744073709551615
few_at root [] n in_ small = omega (arith, in_)
few_at root (b ∷ bs) n in_ small = omega (arith, in_, small)

joined : (g : Geometry) (xs ys zs : List Inner) (a : List ℕ)
    → a ++ node_buckets g xs ++ node_buckets g ys ++ node_buckets g zs
    ≡ a ++ node_buckets g (xs ++ (ys ++ zs))
joined g xs ys zs a =
    append_assoc (a ++ node_buckets g xs) (node_buckets g ys) (node_buckets g zs)
    ∙ append_assoc a (node_buckets g xs) (node_buckets g ys ++ node_buckets g zs)
    ∙ ap (λ (l : List ℕ). a ++ (node_buckets g xs ++ l))
    (sym (map-append (λ (n : Inner). bucket_by g n.ptr) ys zs))
    ∙ ap (λ (l : List ℕ). a ++ l)
    (sym (map-append (λ (n : Inner). bucket_by g n.ptr) xs (ys ++ zs)))

pub old_pushed : (r : Result (Unit {0}) AllocError) (g : Geometry) (spine : Spine) (plan : Plan)
    (a b c d : List ℕ) (node root : Inner) (below : List Inner) (p : ℕ)
    → slice_get (bottom spine.root spine.below) plan.place ≡ Some node → root ≡ spine.root
    → below ≡ spine.below → length below < 18446744073709551616
    → b ≡ a ++ node_buckets g (gives_way plan.bottom (node ∷ []))
    → c ≡ b ++ node_buckets g (top_gives_way plan.top root)
    → p ≡ min (plan.place + 1) 18446744073709551615
    → OnOk r (d ≡ c ++ node_buckets g (beside_gone plan.beside (drop p below)))
    → OnOk r (d ≡ a ++ node_buckets g (old_nodes spine plan))
old_pushed (Err e) g spine plan a b c d node root below p at root_is below_is small first second next third = tt
old_pushed (Ok u) g spine plan a b c d node root below p at root_is below_is small first second next third =
    let one = one_at (bottom spine.root spine.below) plan.place node at in
    let low = few_at spine.root spine.below plan.place one.1
    (subst (λ (xs : List Inner). length xs < 18446744073709551616) below_is small) in
    let behind : drop p below ≡ drop (plan.place + 1) spine.below =
    ap (λ n. drop n below) (next ∙ min-eq_left low)
    ∙ ap (λ (xs : List Inner). drop (plan.place + 1) xs) below_is in
    third
    ∙ ap (λ (xs : List Inner). c ++ node_buckets g (beside_gone plan.beside xs)) behind
    ∙ ap (λ (l : List ℕ). l ++ node_buckets g (beside_gone plan.beside
    (drop (plan.place + 1) spine.below)))
    (second ∙ ap (λ (n : Inner). b ++ node_buckets g (top_gives_way plan.top n)) root_is
    ∙ ap (λ (l : List ℕ). l ++ node_buckets g (top_gives_way plan.top spine.root))
    (first ∙ ap (λ (xs : List Inner). a ++ node_buckets g (gives_way plan.bottom xs)) (sym one.0)))
    ∙ joined g (gives_way plan.bottom (take 1 (drop plan.place (bottom spine.root spine.below))))
    (top_gives_way plan.top spine.root)
    (beside_gone plan.beside (drop (plan.place + 1) spine.below)) a

-- ---- leaves

some_leaf : (a b : LeafRange) → Some a ≡ Some b → a ≡ b
some_leaf a b is = cc

-- what is said of each of them, leaf by leaf
module _ (f : LeafRange → ℕ) where
  in_of : (ls : List LeafRange) (i : ℕ) (l : LeafRange) (n : ℕ) → n ≡ i
      → slice_get ls n ≡ Some l → map f (take (suc i) ls) ≡ map f (take i ls) ++ f l ∷ []
  in_of [] i l zero same at = absurd (cc)
  in_of [] i l (suc n) same at = absurd (cc)
  in_of (x ∷ xs) zero l zero same at =
      ap (λ (y : LeafRange). f y ∷ []) (some_leaf x l at)
  in_of (x ∷ xs) zero l (suc n) same at = absurd (omega (arith, same))
  in_of (x ∷ xs) (suc i) l zero same at = absurd (omega (arith, same))
  in_of (x ∷ xs) (suc i) l (suc n) same at =
      ap (λ (ks : List ℕ). f x ∷ ks) (in_of xs i l n (omega (arith, same)) at)

  behind_of : (ls : List LeafRange) (p i : ℕ) (l : LeafRange) (n : ℕ) → n ≡ p + i
      → slice_get ls n ≡ Some l
      → map f (take (suc i) (drop p ls)) ≡ map f (take i (drop p ls)) ++ f l ∷ []
  behind_of [] p i l zero same at = absurd (cc)
  behind_of [] p i l (suc n) same at = absurd (cc)
  behind_of (x ∷ xs) zero i l n same at = in_of (x ∷ xs) i l n (omega (arith, same)) at
  behind_of (x ∷ xs) (suc p) i l zero same at = absurd (omega (arith, same))
  behind_of (x ∷ xs) (suc p) i l (suc n) same at =
      behind_of xs p i l n (omega (arith, same)) at

  pub next_of : (ls : List LeafRange) (p i : ℕ) (l : LeafRange) (first now next : List ℕ)
      → slice_get ls (p + i) ≡ Some l → now ≡ first ++ map f (take i (drop p ls))
      → next ≡ now ++ f l ∷ [] → next ≡ first ++ map f (take (i + 1) (drop p ls))
  next_of ls p i l first now next at before more =
      let same : suc i ≡ i + 1 = omega arith in
      more ∙ ap (λ (ks : List ℕ). ks ++ f l ∷ []) before
      ∙ append_assoc first (map f (take i (drop p ls))) (f l ∷ [])
      ∙ ap (λ (ks : List ℕ). first ++ ks) (sym (behind_of ls p i l (p + i) refl at)
      ∙ ap (λ n. map f (take n (drop p ls))) same)

pub next_behind : (ls : List LeafRange) (p i : ℕ) (l : LeafRange) (n : ℕ) → n ≡ p + i
    → slice_get ls n ≡ Some l
    → numbers (take (suc i) (drop p ls)) ≡ numbers (take i (drop p ls)) ++ l.number ∷ []
next_behind = behind_of (λ (l : LeafRange). l.number)

pub going_next : (ls : List LeafRange) (p i : ℕ) (l : LeafRange) (first now next : List ℕ)
    → slice_get ls (p + i) ≡ Some l → now ≡ first ++ numbers (take i (drop p ls))
    → next ≡ now ++ l.number ∷ [] → next ≡ first ++ numbers (take (i + 1) (drop p ls))
going_next = next_of (λ (l : LeafRange). l.number)

pub gone_next : (g : Geometry) (ls : List LeafRange) (p i : ℕ) (l : LeafRange)
    (first now next : List ℕ) → slice_get ls (p + i) ≡ Some l
    → now ≡ first ++ leaf_buckets g (take i (drop p ls)) → next ≡ now ++ bucket_by g l.ptr ∷ []
    → next ≡ first ++ leaf_buckets g (take (i + 1) (drop p ls))
gone_next g = next_of (λ (l : LeafRange). bucket_by g l.ptr)

-- the leaves that go are of the sectors of those that come
row_between : (ls : List LeafRange) (p n end : ℕ) → IsRow 0 ls end
    → (a b : ℕ) × IsRow a (take n (drop p ls)) b
row_between ls p n end row =
    let all = subst (λ (xs : List LeafRange). IsRow 0 xs end) (sym (take-append-drop p ls)) row in
    let one = row_split 0 end (take p ls) (drop p ls) all in
    let rest = subst (λ (xs : List LeafRange). IsRow one.0 xs end)
    (sym (take-append-drop n (drop p ls))) one.2 in
    let two = row_split one.0 end (take n (drop p ls)) (drop n (drop p ls)) rest in
    (one.0, two.0, two.1)

come_end : (a b : ℕ) (first : LeafRange) (second : Option LeafRange)
    → IsRow a (first ∷ option_to_list second) b → (a ≡ first.from) × (b ≡ end_by first second)
come_end a b first None row = (sym row.0, sym row.2)
come_end a b first (Some second) row = (sym row.0, sym row.2.2)

pub goes_between : (sp : Spine) (plan : Plan) → AreLeaves sp.leaves sp.root.end → Fits sp plan
    → IsRow plan.leaves.first.from (going sp.leaves plan.leaves)
    (end_by plan.leaves.first plan.leaves.second)
goes_between sp plan leaves fits =
    let one = row_between sp.leaves plan.leaves.place plan.leaves.gone sp.root.end leaves.row in
    let come = come_end one.0 one.1 plan.leaves.first plan.leaves.second
    (fits.leaves_fit.fits.same_range one.0 one.1 one.2) in
    subst (λ n. IsRow n (going sp.leaves plan.leaves)
    (end_by plan.leaves.first plan.leaves.second)) come.0
    (subst (λ n. IsRow one.0 (going sp.leaves plan.leaves) n) come.1 one.2)

pub all_few : (first : LeafRange) (second : Option LeafRange) → first.number < 2 ^ 32
    → IfSome second (λ l. l.number < 2 ^ 32) → (k : ℕ)
    → In k (numbers (first ∷ option_to_list second)) → k < 2 ^ 32
all_few first second low high k (inl here) = subst (λ n. n < 2 ^ 32) (sym here) low
all_few first None low high k (inr later) = absurd later
all_few first (Some l) low high k (inr (inl here)) = subst (λ n. n < 2 ^ 32) (sym here) high
all_few first (Some l) low high k (inr (inr later)) = absurd later
