-- The premise on torn records is the machine's.
use Rattle.std.proofs.Common.{subst, ◌≡◌, ◌⊎◌, inl, inr, ℕ, ◌+◌, ◌<◌, Some, sym, ap, ◌∙◌, arith}
use Rattle.bc_model.specs.Sector.{Image}
use Rattle.bc_disk.specs.Device.{MayLeave}
use Rattle.bc_disk.specs.declared.geometry.Geometry.{Geometry}
use Rattle.bc_jset.specs.Records.{entry_kind}
use Rattle.bc_jset.specs.Entries.{bucket_start}
use Rattle.bc_set.specs.Records.{numbered_kind}
use Rattle.bc_meta.specs.Facts.{IsAtBlock}
use Rattle.bc_meta.specs.Entries.{Entry}
use Rattle.bc_meta.specs.Tree.{NodeSet}
use Rattle.bc_meta.specs.Layout.{Layout, entry_at, node_end, set_len}
use Rattle.bc_meta.specs.Places.{Places, Wrote, NoChance, NoTornSet, AreSure}
use Rattle.bc_facts.specs.Whole.{IsWhole}
use Rattle.bc_facts.specs.Seen.{kind_of}
use Rattle.bc_facts.specs.Layout.{begins_at, IsLayoutOf}
use Rattle.bc_facts.specs.Torn.{NoTornRecord}
use Rattle.bc_facts.proofs.Journal.{end_is}
use Rattle.bc_facts.proofs.Nodes.{ends}

at_block : (a b x y p : ℕ) → a ≡ b → x ≡ y → IsAtBlock a x p → IsAtBlock b y p
at_block a b x y p same start at = subst (λ n. IsAtBlock n y p) same (subst (λ n. IsAtBlock a n p) start at)

module _ (g : Geometry) (w : Layout) (layout : IsLayoutOf g w) (opening : Image) (p : Places) (none_torn : NoTornRecord g opening p) where
  entries : (image : Image) (b at : ℕ) (e : Entry) → MayLeave p.device image → b < w.journal → IsAtBlock w.block (w.first b) at → entry_at w image b at ≡ Some e → (entry_at w opening b at ≡ Some e) ⊎ Wrote p.entry_log b at e
  entries image b at e left lt block found =
      let j = layout.journal in
      let k = (layout.entries.found image tt (w.first b + w.bucket_sectors) at e).0 found in
      let whole = subst (λ n. IsWhole (entry_kind g) image n at k.0) (end_is g w layout image b) k.1 in
      elim (none_torn.entries image b at left (omega arith) (at_block w.block g.block (w.first b) (bucket_start g b) at layout.block (layout.first b) block) k.0 whole) [
        | inl stood ↦ inl ((layout.entries.found opening tt (w.first b + w.bucket_sectors) at e).1
            (k.0, subst (λ n. IsWhole (entry_kind g) opening n at k.0) (sym (end_is g w layout image b)) stood, k.2))
        | inr wrote ↦ inr (subst (λ (x : Entry). Wrote p.entry_log b at x) k.2 wrote)
      ]

  sets : NoTornSet w p
  sets image q e left own known stand seq found =
      let o = (p.records.nodes q).owner in
      let k = (layout.sets.found image (p.records.nodes q).owner (node_end w (p.records.nodes q).owner) (p.node_next q) e).0 found in
      let numbered : k.0.seq ≡ p.seq q = ap (λ (x : NodeSet). x.seq) k.2 ∙ seq in
      let whole : IsWhole (numbered_kind g (p.records.nodes q).owner.word (kind_of (p.records.nodes q).owner.leaf) (p.seq q)) image (begins_at (p.records.nodes q).owner.word + g.node_sectors) (p.node_next q) k.0 =
      subst (λ n. IsWhole (numbered_kind g (p.records.nodes q).owner.word (kind_of (p.records.nodes q).owner.leaf) (p.seq q)) image n (p.node_next q) k.0) (ends g w layout image (p.records.nodes q).owner) ((k.1.0, numbered), k.1.1) in
      elim (none_torn.sets image q left own known stand k.0 whole) [
        | inl sure ↦ inl (subst (λ n. AreSure p.device (p.node_next q) (p.node_next q + n)) (sym (layout.sets.long (p.records.nodes q).owner k.0) ∙ ap (λ (x : NodeSet). set_len w x) k.2) sure)
        | inr wrote ↦ inr (subst (λ (x : NodeSet). Wrote p.log q (p.node_next q) x) k.2 wrote)
      ]

  pub no_chance : NoChance w opening p
  no_chance = record { entries = entries; sets = sets }
