-- Of a pair one refusal is the first, and none of one that can be opened.
use Rattle.std.proofs.Common.{◌≡◌, ◌≢◌, ◌⊎◌, inl, inr, ℕ, zero, suc, ◌+◌, ◌-◌, ◌^◌, ◌<◌, ◌≤◌, zero-le, Bool, true, false, List, [], ◌∷◌, ◌++◌, length, get_or, map, Option, Some, None, refl, sym, subst, ap, ◌∙◌, arith}
use Rattle.std.specs.Prelude.{All, AllPairs, Any, Contains, Result, Ok, Err}
use Rattle.std.proofs.lemmas.Bool.{cases_lt, cases_eq}
use Rattle.std.proofs.lemmas.List.Elements.{All-nil, All-cons, All-head, All-tail}
use Rattle.std.proofs.lemmas.List.Kept.{AllPairs-cons}
use Rattle.bc_disk.specs.Gens.{Gens}
use Rattle.bc_disk.specs.declared.geometry.Geometry.{Geometry}
use Rattle.bc_entries.specs.Journal.{Journal, HasJournal}
use Rattle.bc_image.specs.Pair.{Pair}
use Rattle.bc_image.specs.Reading.{Reading, View, IsView, keys_of}
use Rattle.bc_image.specs.Sound.{IsDataKey, HasSpareBuckets, IsSound, ServesAlone}
use Rattle.bc_image.specs.Tree.{Node, tree_keys}
use Rattle.bc_image.specs.Uses.{IsUsedFor, Use as Kind}
use Rattle.bc_image.proofs.Unique.{one_backing, one_cache, same_newest}
use Rattle.bc_jset.specs.Entries.{FoundEntry, AreEntries}
use Rattle.bc_jset.specs.Ring.{HasRoom}
use Rattle.bc_jset.proofs.Entries.{one_list, one_stand}
use Rattle.bc_key.specs.Key.{ptr_at}
use Rattle.bc_key.specs.Words.{ptr_word}
use Rattle.bc_key.specs.declared.key.Key.{Key}
use Rattle.bc_key.specs.declared.ptr.Ptr.{Ptr}
use Rattle.bc_model.specs.Sector.{Image}
use Rattle.bc_prio.specs.Records.{ChainIn}
use Rattle.bc_disk.specs.Chain.{sets_in_chain}
use Rattle.bc_prio.proofs.Found.{one_chain_in}
use Rattle.bc_super.proofs.Geometries.{one_geometry}
use Rattle.bc_super.specs.Division.{IsGeometryOf}
use Rattle.bc_super.specs.declared.backing.BackingSuper.{BackingSuper}
use Rattle.bc_super.specs.declared.cache.CacheSuper.{CacheSuper}
use Rattle.bc_walk.specs.Rule.{Rule}
use Rattle.bc_walk.specs.Tree.{IsTree, visit_of}
use Rattle.bc_walk.specs.Walk.{Found, Way, IsIndexSearch}
use Rattle.bc_walk.specs.declared.error.WalkError.{WalkError}
use Rattle.bc_walk.specs.declared.error.WalkError.TheVariants as walks
use Rattle.bc_walk.specs.declared.visit.Visit.{Visit}
use Rattle.bc_walk.specs.declared.visit.Visit.TheVariants as visits
use Rattle.bc_walk.proofs.OneWay.{one_index}
use Rattle.bc_walk.proofs.Trees.{tree_walked}
use Rattle.bc_node.specs.declared.error.NodeError.{NodeError}
use Rattle.bc_replay.specs.declared.error.OpenError.{OpenError}
use Rattle.bc_replay.specs.declared.error.OpenError.TheVariants as errors
use Rattle.bc_replay.specs.declared.uses.Use.{Use}
use Rattle.bc_replay.specs.declared.uses.Use.TheVariants as uses
use Rattle.bc_replay.specs.First.{IsFirstHead}
use Rattle.bc_replay.specs.Heads.{HasHeads, NamesDevice}
use Rattle.bc_replay.specs.Judge.{IsFirstOf, held_of}
use Rattle.bc_replay.specs.Refused.{IsFirstPtr, MayBeNode, MayBeData, IsNodeWord, IsFirstNode, NoneBarred, IsDataWord, AreData, IsFirstData, MayPoint, IsFirstPointer}
use Rattle.bc_replay.specs.Replay.{entry_keys}
use Rattle.bc_replay.specs.Survey.{Indexed, HasIndexed, OfIndex, IsFirst, IsOpenable, rule_of, held_by}
use Rattle.bc_replay.specs.Used.{Held, IsUse, IsMetTwice, IsTwice, HasNoTwice, IsLeastTwice, HasNoUse, CountsSpare}
use Rattle.bc_replay.specs.Used.IsTwice.{kinds, nodes as two_nodes}
use Rattle.bc_replay.proofs.First.{one_first, no_first}
use Rattle.bc_replay.proofs.Surveyed.{use_of, kind_as, no_use}

-- ---- the first pointer is one

module _ (May : Ptr → Type 0) (key : Key) where
  pub one_ptr : (v w : ℕ) → IsFirstPtr May key v → IsFirstPtr May key w → v ≡ w
  one_ptr v w x y = elim (cases_lt x.place y.place) [
    | inl low ↦ absurd (x.refused (y.before x.place low))
    | inr most ↦ elim (cases_lt y.place x.place) [
      | inl low ↦ absurd (y.refused (x.before y.place low))
      | inr least ↦ (let same : x.place ≡ y.place = omega (arith, most, least) in x.is ∙ ap (λ n. ptr_word (ptr_at key n)) same ∙ sym y.is)
    ]
  ]

one_node_word : (g : Geometry) (root : Bool) (key : Key) (v w : ℕ) → IsNodeWord g root key v → IsNodeWord g root key w → v ≡ w
one_node_word g root key v w (inl x) (inl y) = x.1 ∙ sym y.1
one_node_word g root key v w (inl x) (inr y) = let none = x.0 in let some = y.within in absurd (omega (arith, none, some))
one_node_word g root key v w (inr x) (inl y) = let none = y.0 in let some = x.within in absurd (omega (arith, none, some))
one_node_word g root key v w (inr x) (inr y) = one_ptr (MayBeNode g root key) key v w x y

one_first_node : (g : Geometry) (root : Bool) (seen : List Visit) (v w : ℕ) → IsFirstNode g root seen v → IsFirstNode g root seen w → v ≡ w
one_first_node g root [] v w x y = absurd x
one_first_node g root (visits.Met level from key ∷ seen) v w x y = one_first_node g false seen v w x y
one_first_node g root (visits.Again key ∷ seen) v w x y = one_first_node g false seen v w x y
one_first_node g root (visits.Barred key ∷ seen) v w x y = one_node_word g root key v w x y

none_first_node : (g : Geometry) (root : Bool) (seen : List Visit) (v : ℕ) → NoneBarred seen → IsFirstNode g root seen v → ⊥
none_first_node g root [] v none x = x
none_first_node g root (visits.Met level from key ∷ seen) v none x = none_first_node g false seen v none x
none_first_node g root (visits.Again key ∷ seen) v none x = none_first_node g false seen v none x
none_first_node g root (visits.Barred key ∷ seen) v none x = none

module _ (r : Rule) where
  good_or_word : (key : Key) (v : ℕ) → IsDataKey r.geometry r.size key → IsDataWord r key v → ⊥
  good_or_word key v good word = let low = word.within in word.refused (record { end = good.end (omega (arith, low)); lies = good.ptrs word.place word.within })

  one_first_data : (keys : List Key) (v w : ℕ) → IsFirstData r keys v → IsFirstData r keys w → v ≡ w
  one_first_data [] v w x y = absurd x
  one_first_data (key ∷ keys) v w (inl x) (inl y) = one_ptr (MayBeData r key) key v w x y
  one_first_data (key ∷ keys) v w (inl x) (inr y) = absurd (good_or_word key v y.0 x)
  one_first_data (key ∷ keys) v w (inr x) (inl y) = absurd (good_or_word key w x.0 y)
  one_first_data (key ∷ keys) v w (inr x) (inr y) = one_first_data keys v w x.1 y.1

  none_first_data : (keys : List Key) (v : ℕ) → AreData r keys → IsFirstData r keys v → ⊥
  none_first_data [] v good x = x
  none_first_data (key ∷ keys) v good (inl x) = good_or_word key v (All-head (IsDataKey r.geometry r.size) key keys good) x
  none_first_data (key ∷ keys) v good (inr x) = none_first_data keys v (All-tail (IsDataKey r.geometry r.size) key keys good) x.1

  one_pointer : (seen : List Visit) (keys : List Key) (v w : ℕ) → IsFirstPointer r seen keys v → IsFirstPointer r seen keys w → v ≡ w
  one_pointer seen keys v w (inl x) (inl y) = one_first_node r.geometry true seen v w x y
  one_pointer seen keys v w (inl x) (inr y) = absurd (none_first_node r.geometry true seen v y.0 x)
  one_pointer seen keys v w (inr x) (inl y) = absurd (none_first_node r.geometry true seen w x.0 y)
  one_pointer seen keys v w (inr x) (inr y) = one_first_data keys v w x.1 y.1

  no_pointer : (seen : List Visit) (keys : List Key) (v : ℕ) → MayPoint r seen keys → IsFirstPointer r seen keys v → ⊥
  no_pointer seen keys v may (inl x) = none_first_node r.geometry true seen v may.nodes x
  no_pointer seen keys v may (inr x) = none_first_data keys v may.data_keys x.1

-- ---- the other two

one_least : (h : Held) (a b : ℕ) → IsLeastTwice h a → IsLeastTwice h b → a ≡ b
one_least h a b x y = elim (cases_lt a b) [
  | inl low ↦ absurd (y.least a low x.twice)
  | inr most ↦ elim (cases_lt b a) [ inl low ↦ absurd (x.least b low y.twice) | inr least ↦ omega (arith, most, least) ]
]

one_count : (h : Held) (n a b : ℕ) → CountsSpare h n a → CountsSpare h n b → a ≡ b
one_count h zero a b x y = x ∙ sym y
one_count h (suc n) a b (m, x, inl p) (k, y, inl q) = p.1 ∙ ap suc (one_count h n m k x y) ∙ sym q.1
one_count h (suc n) a b (m, x, inl p) (k, y, inr q) = absurd (q.0 p.0)
one_count h (suc n) a b (m, x, inr p) (k, y, inl q) = absurd (p.0 q.0)
one_count h (suc n) a b (m, x, inr p) (k, y, inr q) = p.1 ∙ one_count h n m k x y ∙ sym q.1

-- a refusal is one of these three
data IsOf (r : Rule) (h : Held) (e : OpenError) : Type 0 where
  point : (w : ℕ) → e ≡ errors.PointerRange w → IsFirstPointer r h.seen h.keys w → IsOf r h e
  twice : (b : ℕ) → e ≡ errors.TwoUses b → MayPoint r h.seen h.keys → IsLeastTwice h b → IsOf r h e
  few : (n : ℕ) → e ≡ errors.NoSpare n → MayPoint r h.seen h.keys → HasNoTwice h → CountsSpare h h.geometry.nbuckets n → n < sets_in_chain h.geometry → IsOf r h e

which_of : (r : Rule) (h : Held) (e : OpenError) → IsFirstOf r h e → IsOf r h e
which_of r h (errors.PointerRange w) first = point w refl first
which_of r h (errors.TwoUses b) first = twice b refl first.0 first.1
which_of r h (errors.NoSpare n) first = few n refl first.0 first.1 first.2 first.3
which_of r h e first = absurd first

one_of : (r : Rule) (h : Held) (e f : OpenError) → IsOf r h e → IsOf r h f → e ≡ f
one_of r h e f (point w is x) (point v at y) = is ∙ ap errors.PointerRange (one_pointer r h.seen h.keys w v x y) ∙ sym at
one_of r h e f (point w is x) (twice b at may y) = absurd (no_pointer r h.seen h.keys w may x)
one_of r h e f (point w is x) (few n at may none y low) = absurd (no_pointer r h.seen h.keys w may x)
one_of r h e f (twice b is may x) (point v at y) = absurd (no_pointer r h.seen h.keys v may y)
one_of r h e f (twice b is may x) (twice k at too y) = is ∙ ap errors.TwoUses (one_least h b k x y) ∙ sym at
one_of r h e f (twice b is may x) (few n at too none y low) = absurd (none b x.twice)
one_of r h e f (few n is may none x less) (point v at y) = absurd (no_pointer r h.seen h.keys v may y)
one_of r h e f (few n is may none x less) (twice b at too y) = absurd (none b y.twice)
one_of r h e f (few n is may none x less) (few m at too nor y low) = is ∙ ap errors.NoSpare (one_count h h.geometry.nbuckets n m x y) ∙ sym at

-- ---- what was found before is one

record HasList (g : Geometry) (image : Image) (es : List FoundEntry) (n : FoundEntry) : Type 0 where
  entries : AreEntries g image es
  newest : entries.newest ≡ n

module _ (p : Pair) where
  list_of : (i : Indexed) → HasIndexed p i → HasList i.geometry p.cache i.entries i.newest
  list_of i x = subst (λ (es : List FoundEntry). HasList i.geometry p.cache es i.newest) x.entries (record { entries = x.heads.journal.entries; newest = x.newest })

  chain_of : (i : Indexed) → HasIndexed p i → ChainIn i.geometry p.cache i.newest.item.prio i.gens
  chain_of i x = subst (λ (e : FoundEntry). ChainIn i.geometry p.cache e.item.prio i.gens) x.newest x.heads.chain

  same_indexed : (i k : Indexed) → i.backing ≡ k.backing → i.geometry ≡ k.geometry → i.entries ≡ k.entries → i.newest ≡ k.newest → i.gens ≡ k.gens → i.way ≡ k.way → i ≡ k
  same_indexed i k b g es n gens way = λ t. record { backing = b t; geometry = g t; entries = es t; newest = n t; gens = gens t; way = way t }

  pub one_indexed : (i k : Indexed) → HasIndexed p i → HasIndexed p k → i ≡ k
  one_indexed i k x y =
      let cache : x.cache ≡ y.cache = one_cache p x.cache y.cache x.heads.supers.cache y.heads.supers.cache in
      let g : i.geometry ≡ k.geometry = one_geometry x.cache i.geometry k.geometry x.heads.supers.geometry (subst (λ (s : CacheSuper). IsGeometryOf s k.geometry) (sym cache) y.heads.supers.geometry) in
      let here = list_of i x in
      let there = subst (λ (q : Geometry). HasList q p.cache k.entries k.newest) (sym g) (list_of k y) in
      let newest : i.newest ≡ k.newest = sym here.newest ∙ same_newest i.geometry p.cache i.entries k.entries here.entries there.entries ∙ there.newest in
      let chain : ChainIn i.geometry p.cache i.newest.item.prio k.gens = subst (λ (e : FoundEntry). ChainIn i.geometry p.cache e.item.prio k.gens) (sym newest) (subst (λ (q : Geometry). ChainIn q p.cache k.newest.item.prio k.gens) (sym g) (chain_of k y)) in
      let way : IsIndexSearch i.geometry p.cache i.newest.item.level i.newest.item.root k.way =
      subst (λ (e : FoundEntry). IsIndexSearch i.geometry p.cache e.item.level e.item.root k.way) (sym newest) (subst (λ (q : Geometry). IsIndexSearch q p.cache k.newest.item.level k.newest.item.root k.way) (sym g) y.search) in
      same_indexed i k (one_backing p i.backing k.backing x.heads.supers.backing y.heads.supers.backing) g (one_list i.geometry p.cache i.entries k.entries here.entries there.entries) newest
      (one_chain_in i.geometry p.cache i.newest.item.prio i.gens k.gens (chain_of i x) chain) (one_index i.geometry p.cache i.newest.item.level i.newest.item.root i.way k.way x.search way)

  -- ---- of the whole

  data IsEither (e : OpenError) : Type 0 where
    head : IsFirstHead p e → IsEither e
    node : (i : Indexed) (bucket : ℕ) (why : NodeError) → HasIndexed p i → e ≡ errors.Node bucket why → i.way ≡ Err (walks.Node bucket why) → IsEither e
    later : (i : Indexed) (found : Found) → HasIndexed p i → i.way ≡ Ok found → IsFirstOf (rule_of p i) (held_by p i found) e → IsEither e

  which : (e : OpenError) → IsFirst p e → IsEither e
  which (errors.Node bucket why) (i, x, is) = node i bucket why x refl is
  which (errors.PointerRange word) (i, found, x, is, of) = later i found x is of
  which (errors.TwoUses bucket) (i, found, x, is, of) = later i found x is of
  which (errors.NoSpare n) (i, found, x, is, of) = later i found x is of
  which (errors.Super d why) first = head first
  which errors.NoJournal first = head first
  which (errors.JournalGap from to) first = head first
  which (errors.JournalEnd seq) first = head first
  which (errors.Prio why) first = head first
  which errors.Uuid first = head first
  which (errors.Fault d) first = head first
  which errors.Memory first = head first

  not_head : (i : Indexed) (e : OpenError) → HasIndexed p i → IsFirstHead p e → ⊥
  not_head i e x first = no_first p i.backing x.cache i.geometry x.journal i.gens e x.heads first

  ok_or_error : (found : Found) (e : WalkError) (way : Way) → way ≡ Ok found → way ≡ Err e → ⊥
  ok_or_error found e way p q = cc

  one_error : (a b : ℕ) (x y : NodeError) (way : Way) → way ≡ Err (walks.Node a x) → way ≡ Err (walks.Node b y) → errors.Node a x ≡ errors.Node b y
  one_error a b x y way p q = let same : a ≡ b = cc in let why : x ≡ y = cc in ap (λ n. errors.Node n x) same ∙ ap (λ (w : NodeError). errors.Node b w) why

  one_found : (a b : Found) (way : Way) → way ≡ Ok a → way ≡ Ok b → a ≡ b
  one_found a b way p q = cc

  same : (e f : OpenError) → IsEither e → IsEither f → e ≡ f
  same e f (head x) (head y) = one_first p e f x y
  same e f (head x) (node i bucket why y is at) = absurd (not_head i e y x)
  same e f (head x) (later i found y is of) = absurd (not_head i e y x)
  same e f (node i bucket why x is at) (head y) = absurd (not_head i f x y)
  same e f (node i bucket why x is at) (node k other cause y too on) =
      is ∙ one_error bucket other why cause i.way at (ap (λ (z : Indexed). z.way) (one_indexed i k x y) ∙ on) ∙ sym too
  same e f (node i bucket why x is at) (later k found y too of) = absurd (ok_or_error found (walks.Node bucket why) i.way (ap (λ (z : Indexed). z.way) (one_indexed i k x y) ∙ too) at)
  same e f (later i found x is of) (head y) = absurd (not_head i f x y)
  same e f (later i found x is of) (node k bucket why y too at) = absurd (ok_or_error found (walks.Node bucket why) i.way is (ap (λ (z : Indexed). z.way) (one_indexed i k x y) ∙ at))
  same e f (later i found x is of) (later k other y too on) =
      let one = one_indexed i k x y in
      let both : found ≡ other = one_found found other i.way is (ap (λ (z : Indexed). z.way) one ∙ too) in
      let here : IsFirstOf (rule_of p i) (held_by p i found) f = subst (λ (z : Found). IsFirstOf (rule_of p i) (held_by p i z) f) (sym both) (subst (λ (z : Indexed). IsFirstOf (rule_of p z) (held_by p z other) f) (sym one) on) in
      one_of (rule_of p i) (held_by p i found) e f (which_of (rule_of p i) (held_by p i found) e of) (which_of (rule_of p i) (held_by p i found) f here)

  pub one_refusal : (e f : OpenError) → IsFirst p e → IsFirst p f → e ≡ f
  one_refusal e f x y = same e f (which e x) (which f y)

-- ---- a pair that can be opened

-- numbers below n with no two equal, of each of which P holds, that are left of others without n
record Without (P : ℕ → Type 0) (n : ℕ) (xs : List ℕ) : Type 0 where
  rest : List ℕ
  below : All (λ x. x < n) rest
  different : AllPairs (λ a b. a ≢ b) rest
  each : All P rest
  size : (length xs ≡ length rest) ⊎ ((length xs ≡ suc (length rest)) × P n)

without : (P : ℕ → Type 0) (n : ℕ) (xs : List ℕ) → All (λ x. x < suc n) xs → AllPairs (λ a b. a ≢ b) xs → All P xs → Without P n xs
without P n [] below different each = record { rest = []; below = All-nil (λ x. x < n); different = λ i j d before inside. absurd (omega (arith, inside)); each = All-nil P; size = inl refl }
without P n (x ∷ xs) below different each =
    go (cases_eq x n) (without (λ y. P y × (x ≢ y)) n xs (All-tail (λ y. y < suc n) x xs below) tail_pairs (λ k d low. (All-tail P x xs each k d low, different 0 (suc k) d (omega arith) (omega (arith, low)))))
  where
    tail_pairs : AllPairs (λ a b. a ≢ b) xs
    tail_pairs i j d before inside = different (suc i) (suc j) d (omega (arith, before)) (omega (arith, inside))

    less : x ≡ n → All (λ y. y < n) xs
    less same k d low = let a = below (suc k) d (omega (arith, low)) in let b = different 0 (suc k) d (omega arith) (omega (arith, low)) in let c : get_or xs k d ≢ n = (λ is. b (same ∙ sym is)) in omega (arith, a, c)

    go : (x ≡ n) ⊎ (x ≡ n → ⊥) → Without (λ y. P y × (x ≢ y)) n xs → Without P n (x ∷ xs)
    go (inl same) w = record { rest = xs; below = less same; different = tail_pairs; each = All-tail P x xs each; size = inr (refl, subst P same (All-head P x xs each)) }
    go (inr other) w =
        let low = All-head (λ y. y < suc n) x xs below in
        record {
          rest = x ∷ w.rest;
          below = All-cons (λ y. y < n) x w.rest (omega (arith, low, other)) w.below;
          different = AllPairs-cons (λ a b. a ≢ b) x w.rest (λ k d inside. (w.each k d inside).1) w.different;
          each = All-cons P x w.rest (All-head P x xs each) (λ k d inside. (w.each k d inside).0);
          size = elim w.size [ inl e ↦ inl (ap suc e) | inr e ↦ inr (ap suc e.0, e.1.0) ];
        }

few_spare : (h : Held) (n count : ℕ) (xs : List ℕ) → CountsSpare h n count → All (λ x. x < n) xs → AllPairs (λ a b. a ≢ b) xs → All (HasNoUse h) xs → length xs ≤ count
few_spare h zero count [] counts below different each = zero-le
few_spare h zero count (x ∷ xs) counts below different each = let low = All-head (λ y. y < 0) x xs below in absurd (omega (arith, low))
few_spare h (suc n) count xs (less, rest, how) below different each = let w = without (HasNoUse h) n xs below different each in go w (few_spare h n less w.rest rest w.below w.different w.each) how
  where
    go : (w : Without (HasNoUse h) n xs) → length w.rest ≤ less → (HasNoUse h n × (count ≡ suc less)) ⊎ (¬ (HasNoUse h n) × (count ≡ less)) → length xs ≤ count
    go w most (inl is) = let e = is.1 in elim w.size [ inl same ↦ omega (arith, same, most, e) | inr one ↦ (let same = one.0 in omega (arith, same, most, e)) ]
    go w most (inr is) = let e = is.1 in elim w.size [ inl same ↦ omega (arith, same, most, e) | inr one ↦ absurd (is.0 one.1) ]

module _ (p : Pair) (v : View) (view : IsView p v) (open_ : IsOpenable p v) where
  abbrev tree_found : Found
  tree_found = record { visits = map visit_of v.reading.nodes; keys = tree_keys v.reading.nodes }

  its_tree : IsTree v.geometry p.cache v.reading.newest.item.level v.reading.newest.item.root tree_found
  its_tree = record {
    nodes = v.reading.nodes;
    walk = view.reading.nodes;
    visits = refl;
    keys = refl;
    end = open_.pointers.root;
    ranges = open_.ranges;
    node_keys = open_.pointers.nodes;
    apart = open_.once.nodes;
  }

  its_journal : HasJournal v.geometry p.cache (record { entries = v.reading.entries; all = view.reading.entries.all })
  its_journal =
      let all : open_.room.all ≡ view.reading.entries.all = one_stand v.geometry p.cache v.geometry.journal open_.room.all view.reading.entries.all open_.room.stand view.reading.entries.stand in
      let newest = view.reading.newest in
      record {
        entries = view.reading.entries;
        all = refl;
        number = subst (λ (e : FoundEntry). e.item.seq < 2 ^ 63 - 2) (sym newest) open_.room.number;
        room = subst (λ (e : FoundEntry). HasRoom v.geometry view.reading.entries.all v.reading.entries e) (sym newest) (subst (λ (es : List FoundEntry). HasRoom v.geometry es v.reading.entries v.reading.newest) all open_.room.room);
      }

  abbrev indexed : Indexed
  indexed = record { backing = v.backing; geometry = v.geometry; entries = v.reading.entries; newest = v.reading.newest; gens = v.reading.gens; way = Ok tree_found }

  pub has_indexed : HasIndexed p indexed
  unfolding its_journal
  has_indexed =
      let newest = view.reading.newest in
      record {
        cache = v.cache;
        journal = record { entries = v.reading.entries; all = view.reading.entries.all };
        heads = record {
          supers = record { backing = view.backing; cache = view.cache; fit = open_.superblocks; geometry = view.geometry };
          journal = its_journal;
          chain = subst (λ (e : FoundEntry). ChainIn v.geometry p.cache e.item.prio v.reading.gens) (sym newest) view.reading.gens;
          uuids = subst (λ (e : FoundEntry). NamesDevice v.geometry p.cache e.item.uuid_bucket v.backing.uuid) (sym newest)
              (record {
                some = open_.pointers.uuid.0;
                ptrs = open_.pointers.uuid.1;
                bucket = open_.backing.bucket;
                place = open_.backing.place;
                entries = open_.backing.entries;
                table = open_.backing.table;
                first = open_.backing.first;
              });
        };
        entries = refl;
        newest = newest;
        search = tree_walked v.geometry p.cache v.reading.newest.item.level v.reading.newest.item.root tree_found its_tree;
      }

  abbrev its_rule : Rule
  its_rule = rule_of p indexed

  abbrev its_held : Held
  its_held = held_by p indexed tree_found

  none_barred : (nodes : List Node) → NoneBarred (map visit_of nodes)
  none_barred [] = tt
  none_barred (n ∷ nodes) = none_barred nodes

  none_twice : (nodes : List Node) (b : ℕ) → IsMetTwice v.geometry (map visit_of nodes) b → ⊥
  none_twice [] b met = met
  none_twice (n ∷ nodes) b met = none_twice nodes b met

  may_point : MayPoint its_rule its_held.seen its_held.keys
  may_point = record { nodes = none_barred v.reading.nodes; data_keys = open_.pointers.data_keys }

  once : HasNoTwice its_held
  once b (kinds a k x y apart) =
      let one = kind_as its_rule v.reading a b x in
      let other = kind_as its_rule v.reading k b y in
      apart (sym one.is ∙ ap use_of (open_.once.one b one.kind other.kind one.used other.used) ∙ other.is)
  once b (two_nodes met) = none_twice v.reading.nodes b met

  enough : (n : ℕ) → CountsSpare its_held v.geometry.nbuckets n → n < sets_in_chain v.geometry → ⊥
  enough n counts less =
      let s = open_.spare in
      let most = few_spare its_held v.geometry.nbuckets n s.spare counts (λ k d low. (s.each k d low).0) s.different (λ k d low. no_use its_rule v.reading (get_or s.spare k d) (s.each k d low).1) in
      let least = s.enough in
      omega (arith, most, least, less)

  not_of : (e : OpenError) → IsOf its_rule its_held e → ⊥
  not_of e (point w is x) = no_pointer its_rule its_held.seen its_held.keys w may_point x
  not_of e (twice b is may x) = once b x.twice
  not_of e (few n is may none x low) = enough n x low

  not_either : (e : OpenError) → IsEither p e → ⊥
  not_either e (head first) = not_head p indexed e has_indexed first
  not_either e (node i bucket why x is at) = ok_or_error p tree_found (walks.Node bucket why) i.way (ap (λ (z : Indexed). z.way) (one_indexed p i indexed x has_indexed)) at
  not_either e (later i found x is of) =
      let one = one_indexed p i indexed x has_indexed in
      let both : found ≡ tree_found = one_found p found tree_found i.way is (ap (λ (z : Indexed). z.way) one) in
      let here : IsFirstOf its_rule its_held e = subst (λ (z : Found). IsFirstOf its_rule (held_by p indexed z) e) both (subst (λ (z : Indexed). IsFirstOf (rule_of p z) (held_by p z found) e) one of) in
      not_of e (which_of its_rule its_held e here)

  pub never_both : (e : OpenError) → IsFirst p e → ⊥
  never_both e first = not_either e (which p e first)

pub never_sound : (p : Pair) (e : OpenError) → IsSound p → (ServesAlone p → ⊥) → IsFirst p e → ⊥
never_sound p e (inl alone) cached first = cached alone
never_sound p e (inr (v, view, parts, room)) cached first =
    never_both p v view (record { superblocks = parts.superblocks; backing = parts.backing; ranges = parts.ranges; pointers = parts.pointers; once = parts.uses; spare = parts.spare; room = room }) e first
