-- Inner nodes on a device.
use Rattle.std.proofs.Common.{◌≡◌, ◌≢◌, ◌⊎◌, inl, inr, ℕ, zero, suc, ◌<◌, true, List, [], ◌∷◌, Option, Some, None, get_or, refl, sym, subst, arith}
use Rattle.std.specs.Prelude.{Result, Ok, Err, IfOk, IfErr, nat_lt}
use Rattle.std.proofs.lemmas.Bool.{lt-ltb}
use Rattle.bc_model.specs.Sector.{Image}
use Rattle.bc_disk.specs.Disk.{DiskFacts, IfTold, IsCounted}
use Rattle.bc_disk.specs.declared.geometry.Geometry.{Geometry}
use Rattle.bc_image.specs.Sound.{KeepsRange}
use Rattle.bc_image.specs.Tree.{AreSetsAt, kind_at, node_of}
use Rattle.bc_key.specs.Key.{ptr_at, pointer_of}
use Rattle.bc_key.specs.Words.{ptr_word}
use Rattle.bc_key.specs.declared.key.Key.{Key}
use Rattle.bc_node.specs.Loading.{AreHeldSets, good}
use Rattle.bc_node.specs.Sets.{AreSetsFrom, HaveNumber}
use Rattle.bc_node.specs.declared.error.NodeError.{NodeError}
use Rattle.bc_node.specs.declared.error.NodeError.TheVariants.{Ranges, Memory}
use Rattle.bc_set.specs.declared.set.Set.{Set}
use Rattle.bc_set.specs.declared.set.SetKind.{SetKind}
use Rattle.bc_set.specs.declared.set.SetKind.TheVariants.{Children}
use Rattle.bc_inner.specs.Inner.{Inner, IsInnerOf}
use Rattle.bc_inner.specs.Loading.{AreInnerSets, IsHeldInner, IsInnerNotLoaded}

pub number_here : (sets : List Set) (d : Set) → HaveNumber sets (get_or sets 0 d).seq
number_here [] d = tt
number_here (s ∷ ss) d = refl

told_so : (o : Option Image) (P Q : Image → Type 0) → ((image : Image) → P image → Q image) → IfTold o P → IfTold o Q
told_so None P Q so p = tt
told_so (Some image) P Q so p = so image p

kind_above : (level : ℕ) → 0 < level → Children ≡ kind_at level
kind_above zero some = absurd (omega (arith, some))
kind_above (suc level) some = refl

pub inner_sets : (g : Geometry) (key : Key) (level : ℕ) (facts : DiskFacts) (word at : ℕ) (sets : List Set) → 0 < level → 0 < key.count → word ≡ ptr_word (ptr_at key 0) → at ≡ (ptr_at key 0).offset → sets ≢ []
    → AreHeldSets g word Children at facts sets → AreInnerSets g key level facts sets
inner_sets g key level facts word at sets above count words place some held =
    told_so facts.holds (λ image. AreSetsFrom g word Children at image sets) (λ image. AreSetsAt g image level key sets) (λ image stand. record {
      ptr = ptr_at key 0;
      points = points;
      stand =
          subst (λ (kind : SetKind). AreSetsFrom g (ptr_word (ptr_at key 0)) kind (ptr_at key 0).offset image sets) (kind_above level above)
          (subst (λ n. AreSetsFrom g n Children (ptr_at key 0).offset image sets) words (subst (λ n. AreSetsFrom g word Children n image sets) place stand));
      some = some;
    }) held
  where
    points : pointer_of key ≡ Some (ptr_at key 0)
    points = let test : nat_lt 0 key.count ≡ true = lt-ltb 0 key.count count in rw test refl

pub inner_held : (g : Geometry) (key : Key) (level from : ℕ) (facts : DiskFacts) (sets : List Set) (r : Result Inner NodeError) → AreInnerSets g key level facts sets → IfOk r (IsInnerOf g key level from sets)
    → IfOk r (IsHeldInner g key level from facts)
inner_held g key level from facts sets (Ok inner) held is = (sets, held, is)
inner_held g key level from facts sets (Err e) held is = tt

pub inner_refused : (g : Geometry) (key : Key) (level from : ℕ) (old new : DiskFacts) (sets : List Set) (r : Result Inner NodeError) → AreInnerSets g key level old sets → IsCounted good old new
    → IfErr r (λ e. (e ≡ Memory) ⊎ ((e ≡ Ranges) × ¬ (KeepsRange (node_of level from key sets)))) → IfErr r (IsInnerNotLoaded g key level from old new)
inner_refused g key level from old new sets (Ok inner) held counted is = tt
inner_refused g key level from old new sets (Err e) held counted (inl is) = subst (IsInnerNotLoaded g key level from old new) (sym is) (inr counted)
inner_refused g key level from old new sets (Err e) held counted (inr p) = subst (IsInnerNotLoaded g key level from old new) (sym p.0) ((sets, held, p.1), counted)
