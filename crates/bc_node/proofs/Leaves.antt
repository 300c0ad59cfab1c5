-- The leaf of some sets.
use Rattle.std.proofs.Common.{◌≡◌, ◌≢◌, ◌⊎◌, inl, inr, ℕ, ◌<◌, Bool, true, false, if◌then◌else◌, List, [], ◌∷◌, ◌++◌, Option, Some, None, get_or, length, refl, sym, subst, ap, ◌∙◌, arith}
use Rattle.std.specs.Prelude.{Result, Ok, Err, IfOk, IfErr, All, Contains, MatchOption, IsSomeAnd, IfSome, nat_lt}
use Rattle.std.proofs.lemmas.List.Elements.{All-nil, All-append, All-contains}
use Rattle.std.proofs.lemmas.Bool.{lt-ltb}
use Rattle.std.proofs.lemmas.List.{get_or_default}
use Rattle.bc_model.specs.Sector.{Image}
use Rattle.bc_disk.specs.Disk.{DiskFacts, IfTold, IsCounted}
use Rattle.bc_disk.specs.declared.geometry.Geometry.{Geometry}
use Rattle.bc_extent.specs.LastKey.{last_key}
use Rattle.bc_extent.specs.Calls.{live, with_pointer}
use Rattle.bc_extent.specs.Extents.{IsInOrder, IsRest, Shows}
use Rattle.bc_extent.proofs.LastKeys.{last_key_at, last_key_found}
use Rattle.bc_image.specs.Sound.{LiesWithin}
use Rattle.bc_image.specs.Tree.{AreSetsAt}
use Rattle.bc_key.specs.Key.{ptr_at, pointer_of, start_of, Covers}
use Rattle.bc_key.specs.Words.{ptr_word}
use Rattle.bc_key.specs.declared.key.Key.{Key}
use Rattle.bc_set.specs.declared.set.Set.{Set}
use Rattle.bc_set.specs.declared.set.SetKind.TheVariants.{Extents}
use Rattle.bc_node.specs.declared.error.NodeError.{NodeError}
use Rattle.bc_node.specs.declared.error.NodeError.TheVariants.{Ranges, Memory}
use Rattle.bc_node.specs.Leaf.{Leaf, AreLast, AreLastOfAll, ArePut, AreAdded, AreWithin, AreProperKeys, KeepsKeys, LieWithin, IsLeafOf, IsFull, pending_set}
use Rattle.bc_node.specs.Loading.{AreHeldSets, AreLeafSets, IsDecoded, IsHeldLeaf, IsNotDecoded, IsNotLoaded, good}
use Rattle.bc_node.specs.Sets.{AreSetsFrom, AreSetsOf, HaveNumber}

pub number_here : (sets : List Set) (d : Set) → HaveNumber sets (get_or sets 0 d).seq
number_here [] d = tt
number_here (s ∷ ss) d = refl

-- no keys are the last ones of none
none_last : AreLast [] []
none_last = record {
  order = ((λ k d inside. absurd (omega arith)), (λ i j d before inside. absurd (omega arith)));
  shown = λ sector. refl;
}

none_added : AreLastOfAll [] []
none_added = record { order = none_last.order; shown = λ sector. refl }

-- what was put into a map without keys
pub last_of : (all old new : List Key) → old ≡ [] → ArePut all old new → AreLast all new
last_of all old new empty put = put [] (subst (λ (ks : List Key). AreLast [] ks) (sym empty) none_last)

-- ---- on a device

told_so : (o : Option Image) (P Q : Image → Type 0) → ((image : Image) → P image → Q image) → IfTold o P → IfTold o Q
told_so None P Q so p = tt
told_so (Some image) P Q so p = so image p

pub leaf_sets : (g : Geometry) (key : Key) (facts : DiskFacts) (word at : ℕ) (sets : List Set) → 0 < key.count → word ≡ ptr_word (ptr_at key 0) → at ≡ (ptr_at key 0).offset → sets ≢ []
    → AreHeldSets g word Extents at facts sets → AreLeafSets g key facts sets
leaf_sets g key facts word at sets count words place some held =
    told_so facts.holds (λ image. AreSetsFrom g word Extents at image sets) (λ image. AreSetsAt g image 0 key sets) (λ image stand. record {
      ptr = ptr_at key 0;
      points = points;
      stand = subst (λ n. AreSetsFrom g n Extents (ptr_at key 0).offset image sets) words (subst (λ n. AreSetsFrom g word Extents n image sets) place stand);
      some = some;
    }) held
  where
    points : pointer_of key ≡ Some (ptr_at key 0)
    points = let test : nat_lt 0 key.count ≡ true = lt-ltb 0 key.count count in rw test refl

pub leaf_held : (g : Geometry) (key : Key) (from : ℕ) (facts : DiskFacts) (sets : List Set) (r : Result Leaf NodeError) → AreLeafSets g key facts sets → IfOk r (IsLeafOf g key from sets) → IfOk r (IsHeldLeaf g key from facts)
leaf_held g key from facts sets (Ok leaf) held is = (sets, held, is)
leaf_held g key from facts sets (Err e) held is = tt

pub leaf_refused : (g : Geometry) (key : Key) (from : ℕ) (old new : DiskFacts) (sets : List Set) (r : Result Leaf NodeError) → AreLeafSets g key old sets → IsCounted good old new
    → IfErr r (λ e. (e ≡ Memory) ⊎ ((e ≡ Ranges) × ¬ (LieWithin key from sets))) → IfErr r (IsNotLoaded g key from old new)
leaf_refused g key from old new sets (Ok leaf) held counted is = tt
leaf_refused g key from old new sets (Err e) held counted (inl is) = subst (IsNotLoaded g key from old new) (sym is) (inr counted)
leaf_refused g key from old new sets (Err e) held counted (inr p) = subst (IsNotLoaded g key from old new) (sym p.0) ((sets, held, p.1), counted)

-- ---- its keys lie in its range

module _ (from end : ℕ) where
  of_look : (look : ℕ → Option Key) (key : Key) (o p : Option Key) → IfSome o (LiesWithin 0 from end) → p ≡ Some key → MatchOption o (p ≡ None) (λ whole. IsSomeAnd p (IsRest look whole)) → LiesWithin 0 from end key
  of_look look key None p all is none = absurd (cc)
  of_look look key (Some whole) None all is rest = absurd (cc)
  of_look look key (Some whole) (Some part) all is rest =
      let same : part ≡ key = cc in
      let low = rest.cut.from in
      let high = rest.cut.to in
      subst (LiesWithin 0 from end) same (omega (arith, low, all.0), omega (arith, high, all.1))

  -- keys lie there that show a look-up which gives only such keys
  shown_within : (look : ℕ → Option Key) (keys : List Key) → IsInOrder keys → Shows look keys → ((sector : ℕ) → IfSome (look sector) (LiesWithin 0 from end)) → AreWithin from end keys
  shown_within look keys order shown all = λ i d inside.
      let key = get_or keys i d in
      let range = order.0 i d inside in
      let size = range.0 in
      let some = range.1 in
      let sector = start_of key in
      let hit : Covers key sector = (omega arith, omega (arith, size, some)) in
      of_look look key (look sector) (last_key keys sector) (all sector) (last_key_at keys sector key order (i, inside, get_or_default keys i key d inside) hit) (shown sector)

  in_list : (list : List Key) → AreWithin from end list → (sector : ℕ) (o : Option Key) → last_key list sector ≡ o → IfSome o (LiesWithin 0 from end)
  in_list list all sector None is = tt
  in_list list all sector (Some key) is = All-contains (LiesWithin 0 from end) list key all (last_key_found list sector key is).0

  -- so do those of them with pointers
  live_within : (o : Option Key) → IfSome o (LiesWithin 0 from end) → IfSome (with_pointer o) (LiesWithin 0 from end)
  live_within None p = tt
  live_within (Some key) p = go (nat_lt 0 key.count)
    where
      go : (b : Bool) → IfSome (if b then Some key else None) (LiesWithin 0 from end)
      go true = p
      go false = tt

  pub proper_last : (list keys : List Key) → AreWithin from end list → AreLast list keys → AreProperKeys from end keys
  proper_last list keys all last = record {
    order = last.order;
    within = shown_within (live (last_key list)) keys last.order last.shown (λ sector. live_within (last_key list sector) (in_list list all sector (last_key list sector) refl));
  }

  pub proper_added : (list keys : List Key) → AreWithin from end list → AreLastOfAll list keys → AreProperKeys from end keys
  proper_added list keys all last = record {
    order = last.order;
    within = shown_within (last_key list) keys last.order last.shown (λ sector. in_list list all sector (last_key list sector) refl);
  }

  -- a leaf without keys, one with the keys of its sets alone, and one with some more
  pub keeps_list : (list keys pending : List Key) → AreWithin from end list → AreLast list keys → pending ≡ [] → KeepsKeys from end keys pending
  keeps_list list keys pending all last none = record {
    list = list;
    within = all;
    last = last;
    more = [];
    more_within = All-nil (LiesWithin 0 from end);
    added = subst (λ (ks : List Key). AreLastOfAll [] ks) (sym none) none_added;
  }

  pub keeps_none : (keys pending : List Key) → keys ≡ [] → pending ≡ [] → KeepsKeys from end keys pending
  keeps_none keys pending empty none = keeps_list [] keys pending (All-nil (LiesWithin 0 from end)) (subst (λ (ks : List Key). AreLast [] ks) (sym empty) none_last) none

  pub keeps_more : (old waiting keys new all : List Key) → KeepsKeys from end old waiting → AreWithin from end keys → ArePut keys old new → AreAdded keys waiting all → KeepsKeys from end new all
  keeps_more old waiting keys new all so within put added = record {
    list = so.list ++ keys;
    within = All-append (LiesWithin 0 from end) so.list keys so.within within;
    last = put so.list so.last;
    more = so.more ++ keys;
    more_within = All-append (LiesWithin 0 from end) so.more keys so.more_within within;
    added = added so.more so.added;
  }

  pub keeps_sent : (keys pending none : List Key) → KeepsKeys from end keys pending → none ≡ [] → KeepsKeys from end keys none
  keeps_sent keys pending none so is = keeps_list so.list keys none so.within so.last is

-- ---- a leaf of bytes

key_points : (key : Key) → 0 < key.count → pointer_of key ≡ Some (ptr_at key 0)
key_points key count = let test : nat_lt 0 key.count ≡ true = lt-ltb 0 key.count count in rw test refl

pub decoded : (g : Geometry) (key : Key) (from : ℕ) (bytes : List ℕ) (sets : List Set)
    (r : Result Leaf NodeError) → 0 < key.count → sets ≢ []
    → AreSetsOf g (ptr_word (ptr_at key 0)) Extents bytes sets → IfOk r (IsLeafOf g key from sets)
    → IfOk r (IsDecoded g key from bytes)
decoded g key from bytes sets (Err e) count some are is = tt
decoded g key from bytes sets (Ok leaf) count some are is = record {
  sets = sets;
  stand = λ image has. record {
    ptr = ptr_at key 0;
    points = key_points key count;
    stand = are image (ptr_at key 0).offset has;
    some = some;
  };
  leaf_of = is;
}

pub undecoded : (g : Geometry) (key : Key) (from : ℕ) (bytes : List ℕ) (sets : List Set)
    (r : Result Leaf NodeError) → AreSetsOf g (ptr_word (ptr_at key 0)) Extents bytes sets
    → IfErr r (λ e. (e ≡ Memory) ⊎ ((e ≡ Ranges) × ¬ (LieWithin key from sets)))
    → IfErr r (IsNotDecoded g key from bytes)
undecoded g key from bytes sets (Ok leaf) are is = tt
undecoded g key from bytes sets (Err e) are (inl is) = subst (IsNotDecoded g key from bytes) (sym is) tt
undecoded g key from bytes sets (Err e) are (inr p) =
    subst (IsNotDecoded g key from bytes) (sym p.0) (sets, are, p.1)
