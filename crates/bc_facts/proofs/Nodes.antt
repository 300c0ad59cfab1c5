-- The sets of a node, as the format has them and as the machine does.
use Rattle.std.proofs.Common.{subst, ◌≡◌, ℕ, ◌+◌, ◌*◌, Bool, true, List, [], ◌∷◌, Option, Some, None, refl, sym, ap, ◌∙◌, arith, if◌then◌else◌}
use Rattle.bc_model.specs.Sector.{Image}
use Rattle.bc_disk.specs.declared.geometry.Geometry.{Geometry}
use Rattle.bc_record.proofs.Blocks.{node_blocks}
use Rattle.bc_record.proofs.Found.{found_fits}
use Rattle.bc_set.specs.declared.set.Set.{Set}
use Rattle.bc_set.specs.Records.{set_kind, numbered_kind, AreNodeSets}
use Rattle.bc_set.proofs.Records.{set_codec}
use Rattle.bc_set.proofs.NodeSets.{numbered_codec}
use Rattle.bc_meta.specs.Tree.{NodeSet, Owner}
use Rattle.bc_meta.specs.Layout.{Layout, is_within, node_end, of_seq, set_at, set_len, sets_from, sets_in}
use Rattle.bc_meta.proofs.Place.{of_seq_some}
use Rattle.bc_meta.proofs.Lists.{by_test}
use Rattle.bc_facts.specs.Seen.{seen_set, seen_sets, kind_of}
use Rattle.bc_facts.specs.Layout.{begins_at, IsLayoutOf}
use Rattle.bc_facts.proofs.Lists.{put_none}
use Rattle.bc_facts.proofs.Scan.{Finds, none_found, is_found, scan_is}

of_seq_is : (seq : ℕ) (o : Option NodeSet) (e : NodeSet) → o ≡ Some e → e.seq ≡ seq → of_seq seq o ≡ Some e
of_seq_is seq o e is n = ap (λ (x : Option NodeSet). of_seq seq x) is ∙ by_test e.seq seq (λ b. (if b then Some e else None) ≡ Some e) (λ _. refl) (λ ne. absurd (ne n))

module _ (g : Geometry) (w : Layout) (layout : IsLayoutOf g w) (image : Image) (o : Owner) where
  abbrev pub place : ℕ
  place = begins_at o.word

  pub set_finds : Finds (set_kind g o.word (kind_of o.leaf)) (seen_set g o.leaf) image (node_end w o) (λ p. w.sets.found image o (node_end w o) p)
  set_finds p e = layout.sets.found image o (node_end w o) p e

  numbered_finds : (seq : ℕ) → Finds (numbered_kind g o.word (kind_of o.leaf) seq) (seen_set g o.leaf) image (node_end w o) (set_at w image o seq)
  numbered_finds seq p e = (
    (λ h. (let k = of_seq_some seq (w.sets.found image o (node_end w o) p) e h in
        let r = (layout.sets.found image o (node_end w o) p e).0 k.0 in
        (r.0, ((r.1.0, ap (λ (x : NodeSet). x.seq) r.2 ∙ k.1), r.1.1), r.2))),
    (λ h. of_seq_is seq (w.sets.found image o (node_end w o) p) e
        ((layout.sets.found image o (node_end w o) p e).1 (h.0, (h.1.0.0, h.1.1), h.2)) (sym (ap (λ (x : NodeSet). x.seq) h.2) ∙ h.1.0.1)),
  )

  pub ends : node_end w o ≡ begins_at o.word + g.node_sectors
  ends = let b = layout.begins o in let n = layout.node_sectors in omega arith

  -- the sets that stand where the node begins
  pub from_is : (ss : List Set) → AreNodeSets g o.word (kind_of o.leaf) image (begins_at o.word + g.node_sectors) (begins_at o.word) ss
      → sets_from w image o (w.sets.found image o (node_end w o) (w.begins o)) ≡ seen_sets g o.leaf ss
  from_is ss are = at ss
      (subst (λ (p : ℕ). AreNodeSets g o.word (kind_of o.leaf) image (node_end w o) p ss) (sym (layout.begins o))
      (subst (λ (p : ℕ). AreNodeSets g o.word (kind_of o.leaf) image p (begins_at o.word) ss) (sym ends) are))
    where
      at : (ss : List Set) → AreNodeSets g o.word (kind_of o.leaf) image (node_end w o) (w.begins o) ss → sets_from w image o (w.sets.found image o (node_end w o) (w.begins o)) ≡ seen_sets g o.leaf ss
      at [] none_ = ap (λ (x : Option NodeSet). sets_from w image o x) (none_found (set_kind g o.word (kind_of o.leaf)) (set_codec g o.word (kind_of o.leaf)) (seen_set g o.leaf) image (node_end w o) (λ p. w.sets.found image o (node_end w o) p) set_finds (w.begins o) none_)
      at (s ∷ ss) are_ =
          let whole = node_blocks g in
          let until : node_end w o ≡ w.begins o + g.block * whole.0 = ap (λ (m : ℕ). w.begins o + m) (layout.node_sectors ∙ whole.1) in
          let fits = found_fits (set_kind g o.word (kind_of o.leaf)) (set_codec g o.word (kind_of o.leaf)) image (node_end w o) (w.begins o) whole.0 s until are_.0.0 in
          ap (λ (x : Option NodeSet). sets_from w image o x)
          (is_found (set_kind g o.word (kind_of o.leaf)) (set_codec g o.word (kind_of o.leaf)) (seen_set g o.leaf) image (node_end w o) (λ p. w.sets.found image o (node_end w o) p) set_finds (w.begins o) s (are_.0.0, fits))
          ∙ scan_is (numbered_kind g o.word (kind_of o.leaf) s.seq) (numbered_codec g o.word (kind_of o.leaf) s.seq) (seen_set g o.leaf) image (node_end w o) (set_at w image o s.seq) (numbered_finds s.seq)
          (set_len w) (layout.sets.long o) w.node_sectors (w.begins o) whole.0 [] (s ∷ ss) until (omega arith) are_
          ∙ put_none (seen_set g o.leaf) (s ∷ ss)

  -- where the node lies whole in its bucket
  pub sets_are : (q : ℕ) (ss : List Set) → is_within w q o ≡ true → AreNodeSets g o.word (kind_of o.leaf) image (begins_at o.word + g.node_sectors) (begins_at o.word) ss → sets_in w image o q ≡ seen_sets g o.leaf ss
  sets_are q ss within are = ap (λ (b : Bool). if b then sets_from w image o (w.sets.found image o (node_end w o) (w.begins o)) else []) within ∙ from_is ss are
