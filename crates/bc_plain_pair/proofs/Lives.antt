-- The buckets in which data lies, and that whatever is used is a bucket of the device.
use Rattle.std.proofs.Common.{◌≡◌, inl, inr, ℕ, suc, ◌+◌, ◌<◌, ◌≤◌, true, false, List, [], ◌∷◌, ◌++◌, length, get_or, Option, Some, None, zero, sym, subst, ap, ◌∙◌, arith}
use Rattle.std.specs.Prelude.{All, Contains, MatchOption}
use Rattle.std.proofs.lemmas.Bool.{cases_eq}
use Rattle.std.proofs.lemmas.List.Elements.{All-contains, Contains-append_left, Contains-push, Contains-push_cases}
use Rattle.bc_disk.specs.Gens.{Gens}
use Rattle.bc_disk.specs.declared.gens.BucketRecord.{BucketRecord}
use Rattle.bc_disk.specs.declared.geometry.Geometry.{Geometry}
use Rattle.bc_extent.specs.LastKey.{last_key}
use Rattle.bc_extent.proofs.LastKeys.{last_key_found}
use Rattle.bc_image.proofs.Places.{lies_in_bucket}
use Rattle.bc_image.specs.Pair.{Pair}
use Rattle.bc_image.specs.Pointers.{PointsInto, PointsIntoData}
use Rattle.bc_image.specs.Reading.{Reading, View, IsView, key_of, keys_of}
use Rattle.bc_image.specs.Shown.{is_live}
use Rattle.bc_image.specs.Sound.{HasPointers, IsDataKey, IsNodeKey}
use Rattle.bc_image.specs.Tree.{Node}
use Rattle.bc_image.specs.Uses.{IsUsedFor, LiesLive, Use, Super, Journal, Priority, Uuid, Node as InNode, Data}
use Rattle.bc_key.specs.Key.{place_at, ptr_at}
use Rattle.bc_key.specs.declared.key.Key.{Key}
use Rattle.bc_key.specs.declared.ptr.Ptr.{Ptr}
use Rattle.bc_model.specs.Sector.{Image}
use Rattle.bc_prio.specs.Chain.{IsPlace}
use Rattle.bc_prio.specs.Records.{LeadIn}
use Rattle.bc_record.specs.Places.{bucket_at}
use Rattle.bc_plain_pair.specs.Uses.{AreLive, AreWithin, HasLive}
use Rattle.bc_plain_pair.proofs.Sectors.{first_pointer, inside, live_some}

key_same : (a b : Key) → Some a ≡ Some b → a ≡ b
key_same a b e = cc

-- ---- the data of one sector

pub one_live : (g : Geometry) (r : Reading) (sector a b : ℕ) → HasLive g r sector a → HasLive g r sector b → a ≡ b
one_live g r sector a b x y =
    let same : x.0 ≡ y.0 = key_same x.0 y.0 (sym x.1.last ∙ y.1.last) in
    sym x.1.place ∙ ap (λ (k : Key). bucket_at g (place_at k 0 sector)) same ∙ y.1.place

module _ (v : View) (keys : List Key) (sector : ℕ) (found : Option Key) (are : keys ≡ keys_of v.reading) (is : found ≡ last_key keys sector) where
  looked : found ≡ key_of v.reading sector
  looked = is ∙ ap (λ (ks : List Key). last_key ks sector) are

  pub none_live : found ≡ None → (bucket : ℕ) → HasLive v.geometry v.reading sector bucket → ⊥
  none_live none bucket (key, x) = absurd (let last = sym none ∙ looked ∙ x.last in cc)

  module _ (key : Key) (some : found ≡ Some key) (g : Geometry) (gens : Gens) (here : g ≡ v.geometry) (told : gens ≡ v.reading.gens) where
    same_live : is_live v.geometry v.reading.gens key ≡ is_live g gens key
    same_live = ap (λ (x : Geometry). is_live x v.reading.gens key) (sym here) ∙ ap (λ (x : Gens). is_live g x key) (sym told)

    pub not_live : is_live g gens key ≡ false → (bucket : ℕ) → HasLive v.geometry v.reading sector bucket → ⊥
    not_live dead bucket (other, x) =
        let same : other ≡ key = key_same other key (sym x.last ∙ sym looked ∙ some) in
        let alive : is_live v.geometry v.reading.gens key ≡ true = subst (λ (k : Key). is_live v.geometry v.reading.gens k ≡ true) same x.live in
        absurd (let both = sym alive ∙ same_live ∙ dead in cc)

    pub lies_there : (bucket : ℕ) → is_live g gens key ≡ true → bucket ≡ bucket_at v.geometry (place_at key 0 sector) → HasLive v.geometry v.reading sector bucket
    lies_there bucket live at = (key, record { last = sym looked ∙ some; live = same_live ∙ live; place = sym at })

-- ---- the data of sectors in turn

module _ (g : Geometry) (r : Reading) where
  -- these are the buckets of the sectors below an end
  pub record LiveBelow (end : ℕ) (buckets : List ℕ) : Type 0 where
    pub each : (bucket : ℕ) → Contains buckets bucket → (sector : ℕ) × HasLive g r sector bucket
    pub all : (sector bucket : ℕ) → sector < end → HasLive g r sector bucket → Contains buckets bucket

  pub none_yet : LiveBelow 0 []
  none_yet = record { each = λ bucket has. absurd (let low = has.1 in omega (arith, low)); all = λ sector bucket low. absurd (omega (arith, low)) }

  pub one_more : (end bucket : ℕ) (old new : List ℕ) → LiveBelow end old → HasLive g r end bucket → new ≡ old ++ bucket ∷ [] → LiveBelow (end + 1) new
  one_more end bucket old new so here grown = subst (LiveBelow (end + 1)) (sym grown) (record { each = each; all = all })
    where
      each : (b : ℕ) → Contains (old ++ bucket ∷ []) b → (sector : ℕ) × HasLive g r sector b
      each b has = elim (Contains-push_cases old bucket b has) [
        | inl before ↦ so.each b before
        | inr same ↦ (end, subst (HasLive g r end) same here)
      ]

      all : (sector b : ℕ) → sector < end + 1 → HasLive g r sector b → Contains (old ++ bucket ∷ []) b
      all sector b low has = elim (cases_eq sector end) [
        | inl same ↦ (let is : bucket ≡ b = one_live g r end bucket b here (subst (λ s. HasLive g r s b) same has) in subst (Contains (old ++ bucket ∷ [])) is (Contains-push old bucket))
        | inr other ↦ Contains-append_left old (bucket ∷ []) b (so.all sector b (omega (arith, low, other)) has)
      ]

  pub no_more : (end : ℕ) (buckets : List ℕ) → LiveBelow end buckets → ((bucket : ℕ) → HasLive g r end bucket → ⊥) → LiveBelow (end + 1) buckets
  no_more end buckets so none = record { each = so.each; all = all }
    where
      all : (sector b : ℕ) → sector < end + 1 → HasLive g r sector b → Contains buckets b
      all sector b low has = elim (cases_eq sector end) [
        | inl same ↦ absurd (none b (subst (λ s. HasLive g r s b) same has))
        | inr other ↦ so.all sector b (omega (arith, low, other)) has
      ]

-- one more sector, by what was found of it
pub live_more : (g : Geometry) (r : Reading) (end : ℕ) (old new : List ℕ) (found : Option ℕ) → LiveBelow g r end old → MatchOption found ((bucket : ℕ) → HasLive g r end bucket → ⊥) (HasLive g r end)
    → MatchOption found (new ≡ old) (λ bucket. new ≡ old ++ bucket ∷ []) → LiveBelow g r (end + 1) new
live_more g r end old new None so none same = subst (LiveBelow g r (end + 1)) (sym same) (no_more g r end old so none)
live_more g r end old new (Some bucket) so here grown = one_more g r end bucket old new so here grown

pub are_live : (v : View) (size end : ℕ) (keys : List Key) (buckets : List ℕ) → keys ≡ keys_of v.reading → All (IsDataKey v.geometry size) keys → size ≤ end → LiveBelow v.geometry v.reading end buckets → AreLive v.geometry v.reading buckets
are_live v size end keys buckets are ends most so bucket =
    ((λ has. let x = so.each bucket has in (x.0, x.1.0, x.1.1)), (λ used. so.all used.0 bucket (low used.0 used.1 used.2) (used.1, used.2)))
  where
    good : All (IsDataKey v.geometry size) (keys_of v.reading)
    good = subst (All (IsDataKey v.geometry size)) are ends

    low : (sector : ℕ) (key : Key) → LiesLive v.geometry v.reading sector key bucket → sector < end
    low sector key x = let less = inside v size good sector key x.last (live_some v.geometry v.reading.gens key x.live) in omega (arith, less, most)

-- ---- within the device

chain_places : (g : Geometry) (image : Image) (records : List BucketRecord) (part from : ℕ) (chain : List ℕ) (to : ℕ) → LeadIn g image records part from chain to → (b : ℕ) → Contains chain b → IsPlace g b
chain_places g image records part from [] to leads b has = absurd (let low = has.1 in omega (arith, low))
chain_places g image records part from (c ∷ chain) to leads b (i, low, is) = go i low is (λ later. chain_places g image records (suc part) leads.2.0 chain to leads.2.2 b later)
  where
    go : (k : ℕ) → k < length (c ∷ chain) → get_or (c ∷ chain) k b ≡ b → (Contains chain b → IsPlace g b) → IsPlace g b
    go zero low is later = subst (IsPlace g) is leads.1
    go (suc k) low is later = later (k, omega (arith, low), is)

pointed : (g : Geometry) (key : Key) (b : ℕ) → PointsIntoData g key → PointsInto g key b → b < g.nbuckets
pointed g key b lies (ptr, points, at) =
    let first = first_pointer key ptr points in
    let place : IsPlace g (bucket_at g (ptr_at key 0).offset) = (lies 0 first.0).bucket in
    subst (λ n. n < g.nbuckets) (ap (λ (p : Ptr). bucket_at g p.offset) first.1 ∙ at) place.1

pub are_within : (p : Pair) (v : View) (size : ℕ) → IsView p v → HasPointers v.geometry size v.reading → AreWithin v.geometry v.reading
are_within p v size view pointers = go
  where
    go : (what : Use) (b : ℕ) → IsUsedFor v.geometry v.reading what b → b < v.geometry.nbuckets
    go Super b low = let inside = v.geometry.journal_within in omega (arith, low, inside)
    go Journal b (from, to) = let inside = v.geometry.journal_within in omega (arith, to, inside)
    go Priority b has = (chain_places v.geometry p.cache v.reading.gens.records 0 v.reading.newest.item.prio v.reading.gens.chain 0 view.reading.gens.sets b has).1
    go Uuid b points = pointed v.geometry v.reading.newest.item.uuid_bucket b pointers.uuid.1 points
    go InNode b any = pointed v.geometry any.1.key b (All-contains (λ (n : Node). IsNodeKey v.geometry n.key) v.reading.nodes any.1 pointers.nodes (any.0, any.2, any.3)).ptrs any.4
    go Data b (sector, key, x) =
        let found = last_key_found (keys_of v.reading) sector key x.last in
        let good = All-contains (IsDataKey v.geometry size) (keys_of v.reading) key pointers.data_keys found.0 in
        let some = live_some v.geometry v.reading.gens key x.live in
        let lies = good.ptrs 0 some in
        let same = (lies_in_bucket v.geometry key 0 sector lies found.1).1 in
        subst (λ n. n < v.geometry.nbuckets) (sym same ∙ x.place) lies.bucket.1
