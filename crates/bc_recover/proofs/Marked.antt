-- Buckets that are marked one after the other, and what the table of uses says of them.
use Rattle.std.proofs.Common.{◌≡◌, ◌⊎◌, inl, inr, ℕ, ◌<◌, Bool, true, false, List, get_or, refl, ap, ◌∙◌, arith}
use Rattle.bc_bucket.specs.Buckets.{Buckets, EachChanged, bucket_of, changed}
use Rattle.bc_bucket.specs.declared.bucket.Bucket.{Bucket}
use Rattle.bc_bucket.proofs.Each.{UpTo}
use Rattle.bc_disk.specs.declared.gens.BucketRecord.{BucketRecord}
use Rattle.bc_disk.specs.declared.geometry.Geometry.{Geometry}
use Rattle.bc_image.specs.Reading.{Reading}
use Rattle.bc_image.specs.Sound.{HasOneUse}
use Rattle.bc_image.specs.Uses.{Super, Journal, Priority, Uuid, Node, Data}
use Rattle.bc_key.specs.declared.key.Key.{Key}
use Rattle.bc_replay.specs.Survey.{IsUsedAs, TellsUses}
use Rattle.bc_replay.specs.declared.uses.Use.{Use}
use Rattle.bc_replay.specs.declared.uses.Use.TheVariants as uses
use Rattle.bc_traced.specs.Rows.{AreTraced}
use Rattle.bc_recover.specs.Known.{AreUnheld, IsMetadata}
use Rattle.bc_recover.specs.Opened.{AreMarked, AreOpened, as_metadata, is_metadata, marked_by, marked_if}

-- the buckets below k are marked
pub record MarkedSoFar (table : List Use) (k : ℕ) (old new : Buckets) : Type 0 where
  pub each : UpTo (marked_by table) k old.records new.records
  pub size : new.size ≡ old.size
  pub data_from : new.data_from ≡ old.data_from
  pub touched : new.touched ≡ old.touched

pub marked_traced : (g : Geometry) (records : List BucketRecord) (rows : List Key) (table : List Use) (old new : Buckets) → AreTraced g records rows old → EachChanged (marked_by table) old new → AreMarked g records rows table new
marked_traced g records rows table old new traced changed = record {
  each = changed.same_count ∙ traced.each;
  size = changed.same_size ∙ traced.size;
  data_from = changed.same_data ∙ traced.data_from;
  touched = changed.same_touched ∙ traced.touched;
  opened = λ k low. (bucket_of old k, traced.traced k low, changed.each k (omega (arith, traced.each)));
}

-- a mark lets nobody hold the bucket
pub marked_unheld : (g : Geometry) (records : List BucketRecord) (rows : List Key) (table : List Use)
    (buckets : Buckets) → AreMarked g records rows table buckets → AreUnheld g.nbuckets buckets
marked_unheld g records rows table buckets are = record {
  each = are.each;
  not_held = λ k low. (
      let one = are.opened k low in
      ap (λ (b : Bucket). b.held) one.2
      ∙ same (is_metadata (get_or table k uses.None)) one.0
      ∙ ap (λ (b : Bucket). b.held) one.1.is
      );
}
  where
    same : (t : Bool) (b : Bucket) → (marked_if t b).held ≡ b.held
    same true b = refl
    same false b = refl

-- ---- by what a pair has

module _ (g : Geometry) (r : Reading) (table : List Use) (tells : TellsUses g r table) (once : HasOneUse g r) where
  one_of : (k : ℕ) (kind : Use) → IsUsedAs g r k kind → is_metadata kind ≡ true → IsMetadata g r k
  one_of k uses.None used is = absurd (cc)
  one_of k uses.Data used is = absurd (cc)
  one_of k uses.Super used is = inl used
  one_of k uses.Journal used is = inr (inl used)
  one_of k uses.Priority used is = inr (inr (inl used))
  one_of k uses.Uuid used is = inr (inr (inr (inl used)))
  one_of k uses.Node used is = inr (inr (inr (inr used)))

  none_of : (k : ℕ) (kind : Use) → IsUsedAs g r k kind → is_metadata kind ≡ false → ¬ (IsMetadata g r k)
  none_of k uses.None used is (inl m) = used Super m
  none_of k uses.None used is (inr (inl m)) = used Journal m
  none_of k uses.None used is (inr (inr (inl m))) = used Priority m
  none_of k uses.None used is (inr (inr (inr (inl m)))) = used Uuid m
  none_of k uses.None used is (inr (inr (inr (inr m)))) = used Node m
  none_of k uses.Data used is (inl m) = (let two = once.one k Data Super used m in absurd (cc))
  none_of k uses.Data used is (inr (inl m)) = (let two = once.one k Data Journal used m in absurd (cc))
  none_of k uses.Data used is (inr (inr (inl m))) = (let two = once.one k Data Priority used m in absurd (cc))
  none_of k uses.Data used is (inr (inr (inr (inl m)))) = (let two = once.one k Data Uuid used m in absurd (cc))
  none_of k uses.Data used is (inr (inr (inr (inr m)))) = (let two = once.one k Data Node used m in absurd (cc))
  none_of k uses.Super used is m = absurd (cc)
  none_of k uses.Journal used is m = absurd (cc)
  none_of k uses.Priority used is m = absurd (cc)
  none_of k uses.Uuid used is m = absurd (cc)
  none_of k uses.Node used is m = absurd (cc)

  pub told_opened : (rows : List Key) (buckets : Buckets) → AreMarked g r.gens.records rows table buckets → AreOpened g r rows buckets
  told_opened rows buckets are = record {
    each = are.each;
    size = are.size;
    data_from = are.data_from;
    touched = are.touched;
    opened = λ k low. (let one = are.opened k low in record { before = one.0; traced = one.1; marked = go k low one.0 (bucket_of buckets k) one.2 (is_metadata (get_or table k uses.None)) refl });
  }
    where
      go : (k : ℕ) → k < g.nbuckets → (before b : Bucket) → b ≡ marked_by table k before → (t : Bool) → is_metadata (get_or table k uses.None) ≡ t → (IsMetadata g r k × (b ≡ as_metadata before)) ⊎ (¬ (IsMetadata g r k) × (b ≡ before))
      go k low before b is true test = inl (one_of k (get_or table k uses.None) (tells.told k low) test, is ∙ ap (λ t. marked_if t before) test)
      go k low before b is false test = inr (none_of k (get_or table k uses.None) (tells.told k low) test, is ∙ ap (λ t. marked_if t before) test)
