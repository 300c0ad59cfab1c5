-- The pointers and the buckets of an index, judged by what was kept of them.
use Rattle.std.proofs.Common.{◌≡◌, ◌≢◌, ◌⊎◌, inl, inr, ℕ, zero, suc, ◌+◌, ◌<◌, ◌≤◌, ◌^◌, Bool, true, false, List, [], ◌∷◌, ◌++◌, length, get_or, Option, Some, None, refl, sym, subst, ap, ◌∙◌, arith}
use Rattle.std.specs.Prelude.{Contains, All, MatchOption, IfSome}
use Rattle.std.proofs.lemmas.Bool.{cases_lt, le-ltb}
use Rattle.std.proofs.lemmas.List.Elements.{All-contains}
use Rattle.bc_disk.specs.Gens.{Gens}
use Rattle.bc_disk.specs.declared.geometry.Geometry.{Geometry}
use Rattle.bc_extent.proofs.LastKeys.{last_key_found}
use Rattle.bc_image.specs.Pointers.{PointsInto, PointsIntoData, LiesInData}
use Rattle.bc_image.specs.Sound.{IsDataKey, IsNodeKey}
use Rattle.bc_image.proofs.Places.{lies_in_bucket}
use Rattle.bc_image.proofs.Unique.{some_same}
use Rattle.bc_key.specs.Key.{ptr_at, pointer_of}
use Rattle.bc_key.specs.declared.key.Key.{Key}
use Rattle.bc_key.specs.declared.ptr.Ptr.{Ptr}
use Rattle.bc_prio.specs.Chain.{IsPlace}
use Rattle.bc_disk.specs.Chain.{sets_in_chain}
use Rattle.bc_record.specs.Places.{bucket_at}
use Rattle.bc_walk.specs.Rule.{Rule}
use Rattle.bc_walk.specs.Walk.{IsVisited}
use Rattle.bc_walk.specs.declared.visit.Visit.{Visit}
use Rattle.bc_walk.specs.declared.visit.Visit.TheVariants as visits
use Rattle.bc_replay.specs.declared.error.OpenError.{OpenError}
use Rattle.bc_replay.specs.declared.error.OpenError.TheVariants as errors
use Rattle.bc_replay.specs.declared.uses.Use.{Use}
use Rattle.bc_replay.specs.declared.uses.Use.TheVariants as uses
use Rattle.bc_replay.specs.Index.{IsIndexed}
use Rattle.bc_replay.specs.Judge.{IsKnown, IsJudged, IsFirstOf, held_of}
use Rattle.bc_replay.specs.Marks.{Mark, IsMarked, IsMarkedFor, IsClear, IsLeastMixed, AreMarked, IsLeastOf, lower_of, CountsNone, all_marks}
use Rattle.bc_replay.specs.Refused.{TellTrue, MayPoint, NoneBarred, AreData, IsFirstNode, IsFirstData, IsFirstPointer, KeepsWord}
use Rattle.bc_replay.specs.Used.{Held, LiesIn, IsUse, IsMetTwice, IsTwice, HasNoTwice, IsLeastTwice, HasNoUse, CountsSpare, IsListed, AreUses}
use Rattle.bc_replay.specs.Used.IsTwice.{kinds, nodes as two_nodes}
use Rattle.bc_replay.proofs.Marks.{use_at, marked_of, none_told, least_either}
use Rattle.bc_replay.proofs.Names.{pointer_some}
use Rattle.bc_replay.proofs.Used.{pointer_none, used_marked, marked_used, live_some}

-- ---- the first pointer

pub pointer_by : (r : Rule) (seen : List Visit) (keys : List Key) (barred word : Option ℕ) → MatchOption barred (NoneBarred seen) (IsFirstNode r.geometry true seen) → KeepsWord r keys word
    → (barred ≡ None → MatchOption word (MayPoint r seen keys) (IsFirstPointer r seen keys)) × ((w : ℕ) → barred ≡ Some w → IsFirstPointer r seen keys w)
pointer_by r seen keys None None none kept = ((λ is. record { nodes = none; data_keys = kept }), (λ w is. absurd (cc)))
pointer_by r seen keys None (Some v) none kept = ((λ is. inr (none, kept)), (λ w is. absurd (cc)))
pointer_by r seen keys (Some v) word first kept = ((λ is. absurd (cc)), (λ w is. inl (subst (λ n. IsFirstNode r.geometry true seen n) (some_same v w is) first)))

-- ---- buckets within the device

pub pointer_is : (key : Key) (ptr : Ptr) → pointer_of key ≡ Some ptr → (0 < key.count) × (ptr_at key 0 ≡ ptr)
pointer_is key ptr is = go (cases_lt 0 key.count)
  where
    go : (0 < key.count) ⊎ (key.count ≤ 0) → (0 < key.count) × (ptr_at key 0 ≡ ptr)
    go (inl some) = (some, some_same (ptr_at key 0) ptr (sym (pointer_some key some) ∙ is))
    go (inr none) = let no = pointer_none key (le-ltb 0 key.count none) in absurd (cc)

pub points_place : (g : Geometry) (key : Key) (b : ℕ) → PointsIntoData g key → PointsInto g key b → IsPlace g b
points_place g key b into (ptr, is, at) = let p = pointer_is key ptr is in subst (IsPlace g) (ap (λ (q : Ptr). bucket_at g q.offset) p.1 ∙ at) (into 0 p.0).bucket

pub taken_place : (g : Geometry) (root : Bool) (seen : List Visit) (b : ℕ) → TellTrue g root seen → IsVisited g seen b → IsPlace g b
taken_place g root [] b told taken = absurd taken
taken_place g root (visits.Met level from key ∷ seen) b told (inl here) = points_place g key b told.0.ptrs here
taken_place g root (visits.Met level from key ∷ seen) b told (inr later) = taken_place g false seen b told.1 later
taken_place g root (visits.Again key ∷ seen) b told (inl here) = absurd here
taken_place g root (visits.Again key ∷ seen) b told (inr later) = taken_place g false seen b told.1 later
taken_place g root (visits.Barred key ∷ seen) b told (inl here) = absurd here
taken_place g root (visits.Barred key ∷ seen) b told (inr later) = taken_place g false seen b told.1 later

module _ (r : Rule) (gens : Gens) (uuid_bucket : Key) (seen : List Visit) (keys index : List Key) (word : Option ℕ) (known : IsKnown r gens uuid_bucket seen keys index word) (good : AreData r keys) where
  abbrev g : Geometry
  g = r.geometry

  abbrev h : Held
  h = held_of r gens uuid_bucket seen keys

  abbrev marks : List Mark
  marks = all_marks g gens uuid_bucket seen index

  data_place : (b sector : ℕ) (key : Key) → LiesIn h sector key b → b < g.nbuckets
  data_place b sector key l =
      let found = last_key_found keys sector key l.last in
      let own = All-contains (IsDataKey g r.size) keys key good found.0 in
      let some = live_some g gens key l.live in
      let lies = own.ptrs 0 some in
      subst (λ n. n < g.nbuckets) (sym (lies_in_bucket g key 0 sector lies found.1).1 ∙ l.place) lies.bucket.1

  pub use_within : (k : Use) (b : ℕ) → IsUse h k b → b < g.nbuckets
  use_within uses.None b use_ = absurd use_
  use_within uses.Super b use_ = let fits = g.journal_within in omega (arith, use_, fits)
  use_within uses.Journal b use_ = let fits = g.journal_within in let high = use_.1 in omega (arith, high, fits)
  use_within uses.Priority b use_ = (All-contains (IsPlace g) gens.chain b known.chain use_).1
  use_within uses.Uuid b use_ = (points_place g uuid_bucket b known.uuid use_).1
  use_within uses.Node b use_ = (taken_place g true seen b known.true_ use_).1
  use_within uses.Data b (sector, key, l) = data_place b sector key l

  to_mark : (k : Use) (b : ℕ) → IsUse h k b → IsMarked g marks k b
  to_mark = used_marked h r.size index known.indexed.last good

  to_use : (k : Use) (b : ℕ) → IsMarked g marks k b → IsUse h k b
  to_use = marked_used h r.size index known.indexed.last good

  abbrev HasKinds : ℕ → Type 0
  HasKinds b = (a : Use) × (k : Use) × IsUse h a b × IsUse h k b × (a ≢ k)

  one_kind : (table : List Use) (n b : ℕ) → b < n → IsClear g marks table n → HasKinds b → ⊥
  one_kind table n b low clear (a, k, x, y, apart) = apart (sym (clear b a low (to_mark a b x)) ∙ clear b k low (to_mark k b y))

  least_kinds : (table : List Use) (mixed : Option ℕ) → AreMarked g marks table mixed → IsLeastOf HasKinds mixed
  least_kinds table None are = λ b two. one_kind table g.nbuckets b (use_within two.0 b two.2) are.least two
  least_kinds table (Some t) are =
      let l = are.least in
      let there : use_at table t ≢ uses.None = λ none. none_told g marks t (use_at table t) none (are.told t l.within) l.other l.marked in
      ((use_at table t, l.other, to_use (use_at table t) t (marked_of g marks t (use_at table t) there (are.told t l.within)), to_use l.other t l.marked, l.differs), (λ b low two. one_kind table t b low l.clear two))

  either : (b : ℕ) → IsTwice h b → HasKinds b ⊎ IsMetTwice g seen b
  either b (kinds a k x y apart) = inl (a, k, x, y, apart)
  either b (two_nodes met) = inr met

  least_twice : (table : List Use) (mixed two : Option ℕ) → AreMarked g marks table mixed → IsLeastOf (IsMetTwice g seen) two → IsLeastOf (IsTwice h) (lower_of mixed two)
  least_twice table mixed two are met =
      least_either HasKinds (IsMetTwice g seen) (IsTwice h) mixed two either (λ b k. kinds k.0 k.1 k.2 k.3 k.4) (λ b m. two_nodes m) (least_kinds table mixed are) met

  pub no_twice : (table : List Use) (mixed two : Option ℕ) → AreMarked g marks table mixed → IsLeastOf (IsMetTwice g seen) two → lower_of mixed two ≡ None → HasNoTwice h
  no_twice table mixed two are met none = subst (λ (o : Option ℕ). IsLeastOf (IsTwice h) o) none (least_twice table mixed two are met)

  pub first_twice : (table : List Use) (mixed two : Option ℕ) (b : ℕ) → AreMarked g marks table mixed → IsLeastOf (IsMetTwice g seen) two → lower_of mixed two ≡ Some b → IsLeastTwice h b
  first_twice table mixed two b are met is = let l = subst (λ (o : Option ℕ). IsLeastOf (IsTwice h) o) is (least_twice table mixed two are met) in record { twice = l.0; least = l.1 }

  listed : (b : ℕ) (u : Use) → IsMarkedFor g marks b u → IsListed h u b
  listed b uses.None told = λ k use_. told k (to_mark k b use_)
  listed b uses.Super told = to_use uses.Super b told
  listed b uses.Journal told = to_use uses.Journal b told
  listed b uses.Priority told = to_use uses.Priority b told
  listed b uses.Uuid told = to_use uses.Uuid b told
  listed b uses.Node told = to_use uses.Node b told
  listed b uses.Data told = to_use uses.Data b told

  pub are_uses : (table : List Use) (mixed : Option ℕ) → AreMarked g marks table mixed → AreUses h table
  are_uses table mixed are = record { each = are.each; told = λ b low. listed b (use_at table b) (are.told b low) }

  used_if : (b : ℕ) (u : Use) → u ≢ uses.None → IsMarkedFor g marks b u → HasNoUse h b → ⊥
  used_if b u some told none = none u (to_use u b (marked_of g marks b u some told))

  pub spare_count : (table : List Use) (mixed : Option ℕ) → AreMarked g marks table mixed → (n count : ℕ) → n ≤ g.nbuckets → CountsNone table n count → CountsSpare h n count
  spare_count table mixed are zero count most counts = counts
  spare_count table mixed are (suc n) count most (less, rest, inl x) =
      (less, spare_count table mixed are n less (omega (arith, most)) rest, inl (subst (λ (u : Use). IsListed h u n) x.0 (listed n (use_at table n) (are.told n (omega (arith, most)))), x.1))
  spare_count table mixed are (suc n) count most (less, rest, inr x) =
      (less, spare_count table mixed are n less (omega (arith, most)) rest, inr (used_if n (use_at table n) x.0 (are.told n (omega (arith, most))), x.1))

-- a bucket with two uses is one of the device
pub mixed_small : (g : Geometry) (marks : List Mark) (table : List Use) (mixed : Option ℕ) → AreMarked g marks table mixed → IfSome mixed (λ b. b < 2 ^ 32)
mixed_small g marks table None are = tt
mixed_small g marks table (Some t) are = let l = are.least in let low = l.within in let few = g.buckets_to in omega (arith, low, few)
