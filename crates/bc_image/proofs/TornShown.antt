-- A pair whose newest entry is torn shows what the entry before it shows.
use Rattle.std.proofs.Common.{◌≡◌, inl, inr, ℕ, suc, ◌+◌, ◌*◌, ◌<◌, ◌≤◌, true, false, List, [], ◌∷◌, Some, None, refl, sym, subst, ap, ◌∙◌, arith}
use Rattle.std.specs.Prelude.{All, Option, slice_index_or}
use Rattle.std.proofs.Math.Nat.{mul-le-mul_left, mul-div-le}
use Rattle.std.proofs.lemmas.Bool.{cases_Bool, cases_lt, lt-ltb, le-ltb}
use Rattle.std.proofs.lemmas.List.Elements.{All-nil, All-cons, All-contains}
use Rattle.bc_model.specs.Sector.{Image, Value}
use Rattle.bc_disk.specs.Gens.{Gens}
use Rattle.bc_disk.specs.declared.geometry.Geometry.{Geometry}
use Rattle.bc_disk.specs.declared.gens.BucketRecord.{BucketRecord}
use Rattle.bc_record.specs.Places.{bucket_at}
use Rattle.bc_record.proofs.Parts.{bytes_in-agree}
use Rattle.bc_key.specs.declared.key.Key.{Key}
use Rattle.bc_key.specs.declared.ptr.Ptr.{Ptr}
use Rattle.bc_key.specs.Key.{ptr_at, pointer_of, place_at}
use Rattle.bc_extent.proofs.LastKeys.{last_key_found}
use Rattle.bc_jset.specs.Entries.{FoundEntry, StandIn, bucket_start}
use Rattle.bc_prio.specs.Chain.{IsPlace}
use Rattle.bc_prio.specs.Records.{LeadIn}
use Rattle.bc_super.specs.Cache.{IsCacheSuper}
use Rattle.bc_super.specs.Division.{IsPassThrough}
use Rattle.bc_image.specs.Pair.{Pair, super_bytes}
use Rattle.bc_image.specs.Reading.{Reading, IsReading, View, IsView, keys_of, key_of}
use Rattle.bc_image.specs.Rests.{SameRest, SameButJournal}
use Rattle.bc_image.specs.Shown.{is_live, is_fresh, value_by, shown_by, IsShown, cached}
use Rattle.bc_image.specs.Sound.{IsDataKey, HasPointers}
use Rattle.bc_image.proofs.Unique.{some_same, one_shown}
use Rattle.bc_image.proofs.Places.{lies_in_bucket}
use Rattle.bc_image.proofs.Torn.{torn_reading}

-- a pointer is the first one
first_pointer : (key : Key) (ptr : Ptr) → pointer_of key ≡ Some ptr → (0 < key.count) × (ptr_at key 0 ≡ ptr)
first_pointer key ptr points = elim (cases_lt 0 key.count) [
  | inl some ↦ (let test = lt-ltb 0 key.count some in let at : pointer_of key ≡ Some (ptr_at key 0) = rw test refl in (some, some_same (ptr_at key 0) ptr (sym at ∙ points)))
  | inr none ↦ (let test = le-ltb 0 key.count none in let at : pointer_of key ≡ None = rw test refl in absurd (cc))
]

-- what is live has one
live_some : (g : Geometry) (gens : Gens) (key : Key) → is_live g gens key ≡ true → 0 < key.count
live_some g gens key live = elim (cases_lt 0 key.count) [
  | inl some ↦ some
  | inr none ↦ (let test = le-ltb 0 key.count none in let at : pointer_of key ≡ None = rw test refl in let dead : is_live g gens key ≡ false = ap (is_fresh g gens) at in absurd (cc))
]

-- the first sector of the data buckets is the one behind the journal
module _ (g : Geometry) where
  bucket_behind : (bucket : ℕ) → IsPlace g bucket → bucket_start g g.journal ≤ g.bucket * bucket
  bucket_behind bucket place = mul-le-mul_left g.bucket place.0

  sector_behind : (s : ℕ) → IsPlace g (bucket_at g s) → bucket_start g g.journal ≤ s
  sector_behind s place = let low = bucket_behind (bucket_at g s) place in let under = mul-div-le s g.bucket in omega (arith, low, under)

  lead_places : (image : Image) (records : List BucketRecord) (part from to : ℕ) (chain : List ℕ) → LeadIn g image records part from chain to → All (IsPlace g) chain
  lead_places image records part from to [] lead = All-nil (IsPlace g)
  lead_places image records part from to (bucket ∷ chain) lead = All-cons (IsPlace g) bucket chain lead.1 (lead_places image records (suc part) lead.2.0 to chain lead.2.2)

  same_rest : (a b : Image) (r : Reading) (size : ℕ) → SameButJournal g a b → IsReading g a r → HasPointers g size r → SameRest g a b r
  same_rest a b r size same read pointers = record {
    gens = λ bucket inside s low high.
        (let place = All-contains (IsPlace g) r.gens.chain bucket (lead_places a r.gens.records 0 r.newest.item.prio 0 r.gens.chain read.gens.sets) inside in
        let behind = bucket_behind bucket place in
        same s (inr (omega (arith, behind, low))));
    nodes = λ k d inside ptr points s low high.
        (let key = pointers.nodes k d inside in
        let first = first_pointer (slice_index_or r.nodes k d).key ptr points in
        let lies = key.ptrs 0 first.0 in
        let behind = sector_behind (ptr_at (slice_index_or r.nodes k d).key 0).offset lies.bucket in
        let same_offset = ap (λ (x : Ptr). x.offset) first.1 in
        same s (inr (omega (arith, behind, low, same_offset))));
  }

  same_value : (a b : Image) (r : Reading) (size s : ℕ) (backed : Value) → SameButJournal g a b → HasPointers g size r → (o : Option Key) → key_of r s ≡ o → value_by g r.gens a o s backed ≡ value_by g r.gens b o s backed
  same_value a b r size s backed same pointers None is = refl
  same_value a b r size s backed same pointers (Some key) is = elim (cases_Bool (is_live g r.gens key)) [
    | inr dead ↦
        let one : value_by g r.gens a (Some key) s backed ≡ backed = rw dead refl in
        let two : value_by g r.gens b (Some key) s backed ≡ backed = rw dead refl in
        one ∙ sym two
    | inl live ↦
        let one : value_by g r.gens a (Some key) s backed ≡ a (place_at key 0 s) = rw live refl in
        let two : value_by g r.gens b (Some key) s backed ≡ b (place_at key 0 s) = rw live refl in
        let found = last_key_found (keys_of r) s key is in
        let lies = (All-contains (IsDataKey g size) (keys_of r) key pointers.data_keys found.0).ptrs 0 (live_some g r.gens key live) in
        let there = lies_in_bucket g key 0 s lies found.1 in
        one ∙ same (place_at key 0 s) (inr (sector_behind (place_at key 0 s) (subst (IsPlace g) (sym there.1) lies.bucket))) ∙ sym two
  ]

torn_view : (p : Pair) (torn : Image) (v : View) (size : ℕ) (all : List FoundEntry) → IsView p v → HasPointers v.geometry size v.reading → SameButJournal v.geometry p.cache torn
    → StandIn v.geometry p.cache v.geometry.journal all → StandIn v.geometry torn v.geometry.journal all → IsView (record p { cache = torn }) v
torn_view p torn v size all view pointers same here there =
    let first = view.cache.1.usable.first_bucket.0 in
    let bucket = view.geometry.bucket in
    let from = view.geometry.first_bucket in
    let turned : v.geometry.bucket * (v.geometry.first_bucket + 0) ≡ v.cache.first_bucket * v.cache.bucket =
    ap (λ n. n * (v.geometry.first_bucket + 0)) bucket ∙ ap (λ n. v.cache.bucket * (n + 0)) from ∙ grind arith in
    let bytes : super_bytes p.cache ≡ super_bytes torn = bytes_in-agree p.cache torn 8 5 (λ s low high. same s (inl (omega (arith, high, first, turned)))) in
    record {
      backing = view.backing;
      cache = (view.cache.0, subst (λ (bs : List ℕ). IsCacheSuper bs p.cache_sectors v.cache) bytes view.cache.1);
      geometry = view.geometry;
      reading = torn_reading v.geometry p.cache torn all v.reading here there view.reading (same_rest v.geometry p.cache torn v.reading size same view.reading pointers);
    }

pub torn_shown : (p : Pair) (torn : Image) (v : View) (size : ℕ) (all : List FoundEntry) (shown : Image) → IsView p v → (IsPassThrough v.backing → ⊥) → HasPointers v.geometry size v.reading → SameButJournal v.geometry p.cache torn
    → StandIn v.geometry p.cache v.geometry.journal all → StandIn v.geometry torn v.geometry.journal all → IsShown p shown → IsShown (record p { cache = torn }) shown
torn_shown p torn v size all shown view not pointers same here there is =
    cached v (torn_view p torn v size all view pointers same here there) not
    (λ s. one_shown p shown (shown_by p v) is (cached v view not (λ t. refl)) s
    ∙ same_value v.geometry p.cache torn v.reading size s (p.backing (v.backing.data_offset + s)) same pointers (key_of v.reading s) refl)
