-- The state of a pair at rest, by the marks of its buckets.
use Rattle.std.proofs.Common.{◌≡◌, ◌⊎◌, inl, inr, ℕ, ◌+◌, ◌<◌, true, List, get_or, length, refl, sym, ap, ◌∙◌, subst, arith}
use Rattle.std.specs.Prelude.{Any}
use Rattle.std.proofs.lemmas.List.{get_or_default}
use Rattle.std.proofs.lemmas.List.Elements.{All-contains}
use Rattle.bc_bucket.specs.Bucket.{no_bucket}
use Rattle.bc_bucket.specs.Buckets.{Buckets, bucket_of}
use Rattle.bc_bucket.specs.declared.bucket.Bucket.{Bucket}
use Rattle.bc_bucket.specs.declared.bucket.Mark.{Mark}
use Rattle.bc_bucket.specs.declared.bucket.Mark.TheVariants as marks
use Rattle.bc_disk.specs.declared.geometry.Geometry.{Geometry}
use Rattle.bc_extent.proofs.LastKeys.{last_key_found}
use Rattle.bc_image.specs.Reading.{Reading, keys_of}
use Rattle.bc_image.specs.Sound.{HasOneUse, HasPointers, IsDataKey}
use Rattle.bc_image.specs.Uses.{Data, IsLiveDirty, IsUsedFor, Journal, LiesLive, Node, Priority, Super, Use, Uuid}
use Rattle.bc_image.proofs.Places.{lies_in_bucket}
use Rattle.bc_recover.specs.Known.{AreKnown, IsMarkOf, IsMetadata}
use Rattle.bc_replay.proofs.Used.{live_some}
use Rattle.bc_open.specs.Close.{HasDirty}

module _ (g : Geometry) (r : Reading) (buckets : Buckets) (known : AreKnown g r buckets) where
  -- a bucket that is marked so has such data
  pub to_live : HasDirty buckets → (k : ℕ) × IsLiveDirty g r k
  to_live (k, b, low, at, dirty) =
      let inside : k < g.nbuckets = (let each = known.each in omega (arith, low, each)) in
      let is : bucket_of buckets k ≡ b = get_or_default buckets.records k no_bucket b low ∙ at in
      let mark : (bucket_of buckets k).mark ≡ marks.Dirty = ap (λ (x : Bucket). x.mark) is ∙ dirty in
      (k, subst (IsMarkOf g r k) mark (known.known k inside).mark)

  module _ (size : ℕ) (pointers : HasPointers g size r) (once : HasOneUse g r) where
    within : (k : ℕ) → IsLiveDirty g r k → k < g.nbuckets
    within k (sector, key, lies, dirty) =
        let found = last_key_found (keys_of r) sector key lies.last in
        let own = All-contains (IsDataKey g size) (keys_of r) key pointers.data_keys found.0 in
        let in_data = own.ptrs 0 (live_some g r.gens key lies.live) in
        subst (λ n. n < g.nbuckets) (sym (lies_in_bucket g key 0 sector in_data found.1).1 ∙ lies.place)
        in_data.bucket.1

    not_metadata : (k : ℕ) → IsUsedFor g r Data k → IsMetadata g r k → ⊥
    not_metadata k used (inl u) = absurd (let e = once.one k Super Data u used in cc)
    not_metadata k used (inr (inl u)) = absurd (let e = once.one k Journal Data u used in cc)
    not_metadata k used (inr (inr (inl u))) = absurd (let e = once.one k Priority Data u used in cc)
    not_metadata k used (inr (inr (inr (inl u)))) = absurd (let e = once.one k Uuid Data u used in cc)
    not_metadata k used (inr (inr (inr (inr u)))) = absurd (let e = once.one k Node Data u used in cc)

    -- and one that has such data is marked so
    pub dirty_mark : (k : ℕ) → IsLiveDirty g r k → (bucket_of buckets k).mark ≡ marks.Dirty
    dirty_mark k live = go (bucket_of buckets k).mark (known.known k (within k live)).mark
      where
        used : IsUsedFor g r Data k
        used = (live.0, live.1, live.2)

        go : (mark : Mark) → IsMarkOf g r k mark → mark ≡ marks.Dirty
        go marks.Metadata is = absurd (not_metadata k used is)
        go marks.Dirty is = refl
        go marks.Reclaimable is = absurd (is.1 live)
        go marks.None is = absurd (is Data used)

    pub to_mark : (k : ℕ) → IsLiveDirty g r k → HasDirty buckets
    to_mark k live =
        let inside = within k live in
        let each = known.each in
        let low : k < length buckets.records = omega (arith, inside, each) in
        let b = bucket_of buckets k in
        (k, b, low, get_or_default buckets.records k b no_bucket low, dirty_mark k live)
