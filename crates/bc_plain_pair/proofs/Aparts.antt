-- Nodes that lie in different buckets.
use Rattle.std.proofs.Common.{◌≡◌, inl, inr, ℕ, ◌+◌, ◌<◌, Bool, true, false, List, length, get_or, Some, None, refl, sym, subst, ap, ◌∙◌, arith}
use Rattle.std.specs.Prelude.{AllPairs, nat_eq, not}
use Rattle.std.specs.Bool.{MatchBool}
use Rattle.std.proofs.lemmas.Bool.{cases_eq}
use Rattle.std.proofs.lemmas.Bool.Decides.{eqb_tells}
use Rattle.std.proofs.lemmas.List.{get_or_default}
use Rattle.bc_disk.specs.declared.geometry.Geometry.{Geometry}
use Rattle.bc_image.specs.Pointers.{PointsInto}
use Rattle.bc_image.specs.Tree.{Node}
use Rattle.bc_key.specs.Key.{pointer_of}
use Rattle.bc_key.specs.declared.key.Key.{Key}
use Rattle.bc_key.specs.declared.ptr.Ptr.{Ptr}
use Rattle.bc_record.specs.Places.{bucket_at}
use Rattle.bc_plain_pair.specs.Uses.{AreApart, StandsAlone}

ptr_same : (a b : Ptr) → Some a ≡ Some b → a ≡ b
ptr_same a b e = cc

-- a key by its pointer
pub points_by : (g : Geometry) (key : Key) (bucket at : ℕ) (ptr : Ptr) → pointer_of key ≡ Some ptr → at ≡ bucket_at g ptr.offset → MatchBool (nat_eq at bucket) (PointsInto g key bucket) (PointsInto g key bucket → ⊥)
points_by g key bucket at ptr is there = elim (eqb_tells at bucket) [
  | inl same ↦ subst (λ (b : Bool). MatchBool b (PointsInto g key bucket) (PointsInto g key bucket → ⊥)) (sym same.0) (ptr, is, sym there ∙ same.1)
  | inr other ↦ subst (λ (b : Bool). MatchBool b (PointsInto g key bucket) (PointsInto g key bucket → ⊥)) (sym other.0)
      (λ x. other.1 (there ∙ ap (λ (p : Ptr). bucket_at g p.offset) (ptr_same ptr x.0 (sym is ∙ x.1)) ∙ x.2))
]

module _ (g : Geometry) (one other : Node) where
  pub points_nowhere : pointer_of one.key ≡ None → AreApart g one other
  points_nowhere none bucket x y = absurd (let some = x.1 in cc)

  pub apart_by : (ptr : Ptr) (b : Bool) → pointer_of one.key ≡ Some ptr → MatchBool b (PointsInto g other.key (bucket_at g ptr.offset)) (PointsInto g other.key (bucket_at g ptr.offset) → ⊥)
      → MatchBool (not b) (AreApart g one other) (AreApart g one other → ⊥)
  apart_by ptr true is both = λ apart. apart (bucket_at g ptr.offset) (ptr, is, refl) both
  apart_by ptr false is never = λ bucket x y.
      let same : x.0 ≡ ptr = ptr_same x.0 ptr (sym x.1 ∙ is) in
      never (subst (PointsInto g other.key) (sym x.2 ∙ ap (λ (p : Ptr). bucket_at g p.offset) same) y)

module _ (g : Geometry) (nodes : List Node) (i j : ℕ) (a b : Node) (low : i < length nodes) (low_too : j < length nodes) (x : a ≡ get_or nodes i a) (y : b ≡ get_or nodes j b) where
  first_is : (d : Node) → get_or nodes i d ≡ a
  first_is d = get_or_default nodes i d a low ∙ sym x

  other_is : (d : Node) → get_or nodes j d ≡ b
  other_is d = get_or_default nodes j d b low_too ∙ sym y

  pub apart_at : AreApart g a b → (d : Node) → AreApart g (get_or nodes i d) (get_or nodes j d)
  apart_at apart d = subst (λ (m : Node). AreApart g m (get_or nodes j d)) (sym (first_is d)) (subst (AreApart g a) (sym (other_is d)) apart)

  pub not_alone : (AreApart g a b → ⊥) → i < j → StandsAlone g nodes i → ⊥
  not_alone bad less alone = bad (subst (λ (m : Node). AreApart g m b) (first_is a) (subst (AreApart g (get_or nodes i a)) (other_is a) (alone j a less low_too)))

abbrev pub AloneUpTo : Geometry → List Node → ℕ → ℕ → Type 0
AloneUpTo g nodes i end = (k : ℕ) (d : Node) → i < k → k < end → AreApart g (get_or nodes i d) (get_or nodes k d)

pub alone_more : (g : Geometry) (nodes : List Node) (i j : ℕ) → AloneUpTo g nodes i j → ((d : Node) → AreApart g (get_or nodes i d) (get_or nodes j d)) → AloneUpTo g nodes i (j + 1)
alone_more g nodes i j so here k d from to = elim (cases_eq k j) [
  | inl same ↦ subst (λ n. AreApart g (get_or nodes i d) (get_or nodes n d)) (sym same) (here d)
  | inr other ↦ so k d from (omega (arith, to, other))
]

pub all_apart : (g : Geometry) (nodes : List Node) → ((i : ℕ) → i < length nodes → StandsAlone g nodes i) → AllPairs (AreApart g) nodes
all_apart g nodes each i j d less low = each i (omega (arith, less, low)) j d less low

pub not_all : (g : Geometry) (nodes : List Node) (i : ℕ) → (StandsAlone g nodes i → ⊥) → AllPairs (AreApart g) nodes → ⊥
not_all g nodes i bad all = bad (λ j d less low. all i j d less low)
