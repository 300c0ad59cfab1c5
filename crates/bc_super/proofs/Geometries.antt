-- Equal fields make equal geometries.
use Rattle.std.proofs.Common.{◌≡◌, ℕ, ◌+◌, ◌*◌, ◌<◌, ◌≤◌, Bool, true, min, sym, ap, ◌∙◌, refl, arith}
use Rattle.std.specs.Prelude.{IsTrue}
use Rattle.std.proofs.Props.{props}
use Rattle.std.proofs.Math.Bridge.{le_prop}
use mathlib.Core.HLevel.{is_prop→PathP}
use Rattle.bc_disk.specs.Geometry.{is_block, is_bucket}
use Rattle.bc_disk.specs.declared.geometry.Geometry.{Geometry}
use Rattle.bc_super.specs.Cache.{IsUsableCache}
use Rattle.bc_super.specs.Division.{IsGeometryOf}
use Rattle.bc_super.specs.declared.cache.CacheSuper.{CacheSuper}

true-prop : (b : Bool) → IsProp (IsTrue b)
true-prop b = hlevel props

number-prop : (m n : ℕ) → IsProp (m ≡ n)
number-prop m n = hlevel props

pub same_geometry : (a b : Geometry) → a.block ≡ b.block → a.bucket ≡ b.bucket → a.nbuckets ≡ b.nbuckets → a.first_bucket ≡ b.first_bucket → a.journal ≡ b.journal → a.set_magic ≡ b.set_magic → a.node_sectors ≡ b.node_sectors → a ≡ b
same_geometry a b block bucket nbuckets first_bucket journal set_magic node_sectors = λ i. record {
  block = block i;
  bucket = bucket i;
  nbuckets = nbuckets i;
  first_bucket = first_bucket i;
  journal = journal i;
  set_magic = set_magic i;
  node_sectors = node_sectors i;
  block_is_one = is_prop→PathP (λ j. IsTrue (is_block (block j))) (λ j. true-prop (is_block (block j))) a.block_is_one b.block_is_one i;
  bucket_is_one = is_prop→PathP (λ j. IsTrue (is_bucket (bucket j))) (λ j. true-prop (is_bucket (bucket j))) a.bucket_is_one b.bucket_is_one i;
  bucket_from = is_prop→PathP (λ j. 64 ≤ bucket j) (λ j. le_prop) a.bucket_from b.bucket_from i;
  bucket_to = is_prop→PathP (λ j. bucket j ≤ 32768) (λ j. le_prop) a.bucket_to b.bucket_to i;
  first_behind_super = is_prop→PathP (λ j. 0 < first_bucket j) (λ j. le_prop) a.first_behind_super b.first_behind_super i;
  buckets_from = is_prop→PathP (λ j. 128 ≤ nbuckets j) (λ j. le_prop) a.buckets_from b.buckets_from i;
  buckets_to = is_prop→PathP (λ j. nbuckets j ≤ min (1024 * bucket j) 1048576) (λ j. le_prop) a.buckets_to b.buckets_to i;
  journal_within = is_prop→PathP (λ j. first_bucket j + journal j ≤ nbuckets j) (λ j. le_prop) a.journal_within b.journal_within i;
  node_is_one = is_prop→PathP (λ j. node_sectors j ≡ min (bucket j) 512) (λ j. number-prop (node_sectors j) (min (bucket j) 512)) a.node_is_one b.node_is_one i;
}

pub one_geometry : (s : CacheSuper) (a b : Geometry) → IsGeometryOf s a → IsGeometryOf s b → a ≡ b
one_geometry s a b p q =
    let bucket : a.bucket ≡ b.bucket = p.bucket ∙ sym q.bucket in
    same_geometry a b (p.block ∙ sym q.block) bucket (p.nbuckets ∙ sym q.nbuckets) (p.first_bucket ∙ sym q.first_bucket) (p.journal ∙ sym q.journal) (p.set_magic ∙ sym q.set_magic)
    (a.node_is_one ∙ ap (λ n. min n 512) bucket ∙ sym b.node_is_one)
