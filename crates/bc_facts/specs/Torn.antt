-- The premise on torn records: none matches by chance.
use Rattle.std.specs.Prelude.{◌≡◌, ◌⊎◌, ℕ, ◌+◌, ◌<◌, true, false}
use Rattle.bc_model.specs.Sector.{Image}
use Rattle.bc_disk.specs.Device.{MayLeave}
use Rattle.bc_disk.specs.declared.geometry.Geometry.{Geometry}
use Rattle.bc_record.specs.Kind.{Kind}
use Rattle.bc_jset.specs.Records.{entry_kind}
use Rattle.bc_jset.specs.Entries.{bucket_start, bucket_end}
use Rattle.bc_set.specs.Records.{numbered_kind, set_sectors}
use Rattle.bc_meta.specs.Facts.{IsAtBlock}
use Rattle.bc_meta.specs.Records.{MayStand}
use Rattle.bc_meta.specs.Places.{Places, AreSure, Wrote}
use Rattle.bc_facts.specs.Whole.{IsWhole}
use Rattle.bc_facts.specs.Seen.{seen_entry, seen_set, kind_of}
use Rattle.bc_facts.specs.Layout.{begins_at}

-- each whole record of a kind that is read at a place of an image is of these
abbrev pub IsNoChance : {A : Type 0} → Kind A → Image → (end place : ℕ) → (A → Type 0) → Type 0
IsNoChance {A = A} kind image end place IsThere = (e : A) → IsWhole kind image end place e
    → IsThere e

-- Of each image that a crash may leave. An entry at a block of the journal stood there before, or
-- was written there. Behind the sets of a node of this run, where one may stand, a set with its
-- number was written there, or a crash can't tear it.
pub record NoTornRecord (g : Geometry) (opening : Image) (p : Places) : Type 0 where
  pub entries : (image : Image) (b at : ℕ) → MayLeave p.device image → b < g.journal
      → IsAtBlock g.block (bucket_start g b) at
      → IsNoChance (entry_kind g) image (bucket_end g b) at
      (λ e. IsWhole (entry_kind g) opening (bucket_end g b) at e
      ⊎ Wrote p.entry_log b at (seen_entry g e))
  pub sets : (image : Image) (q : ℕ) → MayLeave p.device image → p.own q ≡ true
      → (p.records.nodes q).loose ≡ false → MayStand (p.records.nodes q)
      → let o = (p.records.nodes q).owner in let at = p.node_next q in
      IsNoChance (numbered_kind g o.word (kind_of o.leaf) (p.seq q)) image
      (begins_at o.word + g.node_sectors) at
      (λ s. AreSure p.device at (at + set_sectors g s) ⊎ Wrote p.log q at (seen_set g o.leaf s))
