-- How the machine of metadata reads a cache device.
use Rattle.std.specs.Prelude.{◌≡◌, ◌↔◌, ℕ, ◌-◌, ◌/◌, ◌%◌, ◌^◌, List, Some}
use Rattle.bc_model.specs.Sector.{Value, Image}
use Rattle.bc_disk.specs.declared.geometry.Geometry.{Geometry}
use Rattle.bc_jset.specs.Records.{entry_kind}
use Rattle.bc_jset.specs.Entries.{bucket_start}
use Rattle.bc_set.specs.Records.{set_kind}
use Rattle.bc_disk.specs.Chain.{sets_in_chain}
use Rattle.bc_prio.specs.Records.{part_kind}
use Rattle.bc_meta.specs.Facts.{Facts}
use Rattle.bc_meta.specs.Tree.{Owner}
use Rattle.bc_meta.specs.Layout.{Layout}
use Rattle.bc_record.specs.Kind.{Kind, sectors_of}
use Rattle.bc_facts.specs.Whole.{IsWhole, Spell}
use Rattle.bc_facts.specs.Seen.{seen_entry, seen_set, kind_of, seen_prio}

-- where the node begins to which a pointer with this word points
abbrev pub begins_at : ℕ → ℕ
begins_at word = word / 2 ^ 8 % 2 ^ 43

-- What facts find are the whole records of these kinds, as they are seen.
pub record AreFactsOf {block : ℕ} {O R A : Type 0} (kind : O → Kind R) (seen : O → R → A)
    (facts : Facts block O A) : Type 0 where
  pub long : (o : O) (r : R) → facts.len (seen o r) ≡ sectors_of (kind o) r
  pub found : (image : Image) (o : O) (end place : ℕ) (e : A)
      → (facts.found image o end place ≡ Some e)
      ↔ ((r : R) × IsWhole (kind o) image end place r × (seen o r ≡ e))
  pub spelled : (o : O) (values : List Value) (e : A)
      → (facts.spelled o values ≡ Some e) ↔ ((r : R) × Spell (kind o) values r × (seen o r ≡ e))

-- The layout of a device that is so divided: its buckets from the journal's first one on, and the
-- records of the formats.
pub record IsLayoutOf (g : Geometry) (w : Layout) : Type 0 where
  pub buckets : w.buckets ≡ g.nbuckets - g.first_bucket
  pub journal : w.journal ≡ g.journal
  pub first : (q : ℕ) → w.first q ≡ bucket_start g q
  pub bucket_sectors : w.bucket_sectors ≡ g.bucket
  pub block : w.block ≡ g.block
  pub node_sectors : w.node_sectors ≡ g.node_sectors
  pub begins : (o : Owner) → w.begins o ≡ begins_at o.word
  pub chain_sets : w.chain_sets ≡ sets_in_chain g
  pub entries : AreFactsOf (λ o. entry_kind g) (λ o. seen_entry g) w.entries
  pub sets : AreFactsOf (λ o. set_kind g o.word (kind_of o.leaf)) (λ o. seen_set g o.leaf) w.sets
  pub prios : AreFactsOf (part_kind g) (seen_prio g) w.prios
