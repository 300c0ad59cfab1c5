-- The layout of a device.
use Rattle.std.proofs.Common.{◌≡◌, ◌≢◌, inl, inr, ℕ, ◌+◌, ◌-◌, ◌*◌, ◌/◌, ◌<◌, ◌≤◌, List, [], ◌∷◌, refl, sym, arith}
use Rattle.std.proofs.Math.Nat.{mul-add, mul-le-mul_left}
use Rattle.std.proofs.lemmas.Bool.{cases_lt}
use Rattle.bc_disk.specs.declared.geometry.Geometry.{Geometry}
use Rattle.bc_record.specs.Sectors.{in_blocks}
use Rattle.bc_record.proofs.Blocks.{blocks_hold, blocks_within, some_blocks, block_some, bucket_blocks}
use Rattle.bc_jset.specs.Records.{entry_kind}
use Rattle.bc_jset.proofs.Records.{entry_codec}
use Rattle.bc_set.specs.Records.{set_kind}
use Rattle.bc_set.proofs.Records.{set_codec, none_in_zeros}
use Rattle.bc_disk.specs.Chain.{sets_in_chain, bucket_bytes}
use Rattle.bc_prio.specs.Records.{part_kind}
use Rattle.bc_prio.proofs.RecordKind.{part_codec}
use Rattle.bc_meta.specs.Facts.{Facts, FindsNoneInZeros}
use Rattle.bc_meta.specs.Entries.{Entry}
use Rattle.bc_meta.specs.Tree.{NodeSet, Owner}
use Rattle.bc_meta.specs.Layout.{PrioSet, Layout}
use Rattle.bc_facts.specs.Seen.{seen_entry, seen_set, kind_of, seen_prio}
use Rattle.bc_facts.specs.Layout.{begins_at, IsLayoutOf}
use Rattle.bc_facts.proofs.Finder.{facts, are_facts, found_is, no_one}

-- how many words the keys of a record have
abbrev words_told : List ℕ → ℕ
words_told [] = 0
words_told (n ∷ ns) = n

abbrev entry_len : Geometry → Entry → ℕ
entry_len g e = in_blocks g.block (240 + 8 * words_told e.rest)

abbrev set_len : Geometry → NodeSet → ℕ
set_len g s = in_blocks g.block (32 + 8 * words_told s.rest)

pub in_whole : (g : Geometry) (bytes : ℕ) → (k : ℕ) × (in_blocks g.block bytes ≡ g.block * k)
in_whole g bytes = ((bytes + (512 * g.block - 1)) / (512 * g.block), refl)

pub bucket_whole : (g : Geometry) → in_blocks g.block (bucket_bytes g) ≡ g.bucket
bucket_whole g =
    let whole = bucket_blocks g in
    let hold = blocks_hold g.block (bucket_bytes g) (block_some g) in
    let few = blocks_within g.block (bucket_bytes g) whole.0 (block_some g) (let is = whole.1 in omega arith) in
    let is = whole.1 in
    omega (arith, hold, few, is)

pub bucket_some : (g : Geometry) → 0 < g.bucket
bucket_some g = let from = g.bucket_from in omega arith

abbrev entry_facts : (g : Geometry) → Facts g.block (Unit {0}) Entry
entry_facts g = facts g.block (λ (o : Unit {0}). entry_kind g) (λ o. entry_codec g) (λ o. seen_entry g) (entry_len g)
    (λ e. some_blocks g.block (240 + 8 * words_told e.rest) (block_some g) (omega arith)) (λ e. in_whole g (240 + 8 * words_told e.rest)) (λ o r. refl)

abbrev set_facts : (g : Geometry) → Facts g.block Owner NodeSet
set_facts g = facts g.block (λ (o : Owner). set_kind g o.word (kind_of o.leaf)) (λ o. set_codec g o.word (kind_of o.leaf)) (λ o. seen_set g o.leaf) (set_len g)
    (λ e. some_blocks g.block (32 + 8 * words_told e.rest) (block_some g) (omega arith)) (λ e. in_whole g (32 + 8 * words_told e.rest)) (λ o r. refl)

pub none_blank : (g : Geometry) → FindsNoneInZeros (set_facts g)
none_blank g image o end p is = no_one ((set_facts g).found image o end p)
    (λ (e : NodeSet) found. let k = found_is (set_kind g o.word (kind_of o.leaf)) (set_codec g o.word (kind_of o.leaf)) (seen_set g o.leaf) image end p e found in none_in_zeros g o.word (kind_of o.leaf) image end p k.0 is k.1.0)

abbrev prio_facts : (g : Geometry) → Facts g.block ℕ PrioSet
prio_facts g = facts g.block (part_kind g) (part_codec g) (seen_prio g) (λ e. g.bucket)
    (λ e. bucket_some g) (λ e. bucket_blocks g) (λ o r. sym (bucket_whole g))

first_below : (size a b : ℕ) → a < b → size * a + size ≤ size * b
first_below size a b lt =
    let more : size * (a + 1) ≡ size * a + size * 1 = mul-add size a 1 in
    let up : size * (a + 1) ≤ size * b = mul-le-mul_left size (omega arith) in
    omega arith

pub buckets_apart : (size a b t : ℕ) → a ≢ b → size * a ≤ t → t < size * a + size → size * b ≤ t → t < size * b + size → ⊥
buckets_apart size a b t ne la ha lb hb = elim (cases_lt a b) [
  | inl lt ↦ (let k = first_below size a b lt in absurd (omega arith))
  | inr ge ↦ (let k = first_below size b a (omega arith) in absurd (omega arith))
]

abbrev pub made : Geometry → Layout
made g = record {
  buckets = g.nbuckets - g.first_bucket;
  journal = g.journal;
  first = λ q. g.bucket * (g.first_bucket + q);
  bucket_sectors = g.bucket;
  block = g.block;
  node_sectors = g.node_sectors;
  begins = λ o. begins_at o.word;
  journal_within = let within = g.journal_within in omega arith;
  apart = λ a b t la lb ne x y z u. buckets_apart g.bucket (g.first_bucket + a) (g.first_bucket + b) t (λ e. ne (omega arith)) x y z u;
  entries = entry_facts g;
  sets = set_facts g;
  blank = none_blank g;
  prios = prio_facts g;
  fills = λ e. refl;
  chain_sets = sets_in_chain g;
}

pub is_layout : (g : Geometry) → IsLayoutOf g (made g)
is_layout g = record {
  buckets = refl;
  journal = refl;
  first = λ q. refl;
  bucket_sectors = refl;
  block = refl;
  node_sectors = refl;
  begins = λ o. refl;
  chain_sets = refl;
  entries = are_facts g.block (λ (o : Unit {0}). entry_kind g) (λ o. entry_codec g) (λ o. seen_entry g) (entry_len g)
      (λ e. some_blocks g.block (240 + 8 * words_told e.rest) (block_some g) (omega arith)) (λ e. in_whole g (240 + 8 * words_told e.rest)) (λ o r. refl);
  sets = are_facts g.block (λ (o : Owner). set_kind g o.word (kind_of o.leaf)) (λ o. set_codec g o.word (kind_of o.leaf)) (λ o. seen_set g o.leaf) (set_len g)
      (λ e. some_blocks g.block (32 + 8 * words_told e.rest) (block_some g) (omega arith)) (λ e. in_whole g (32 + 8 * words_told e.rest)) (λ o r. refl);
  prios = are_facts g.block (part_kind g) (part_codec g) (seen_prio g) (λ e. g.bucket) (λ e. bucket_some g) (λ e. bucket_blocks g) (λ o r. sym (bucket_whole g));
}

pub law_layout : (g : Geometry) → (w : Layout) × IsLayoutOf g w
law_layout g = (made g, is_layout g)
