-- A run on a pair that was made anew: an entry is sealed, and a barrier comes behind.
use Rattle.std.proofs.Common.{◌≡◌, ◌≢◌, inl, inr, ℕ, suc, ◌≤◌, false, true, List, [], ◌∷◌, refl, sym, subst, arith}
use Rattle.bc_model.specs.Sector.{Image}
use Rattle.bc_disk.specs.declared.geometry.Geometry.{Geometry}
use Rattle.bc_jset.specs.declared.entry.JEntry.{JEntry}
use Rattle.bc_jset.specs.Entries.{bucket_end}
use Rattle.bc_jset.specs.Records.{entry_kind}
use Rattle.bc_jset.proofs.Records.{entry_codec}
use Rattle.bc_record.proofs.Found.{found_stays}
use Rattle.bc_super.specs.declared.backing.BackingSuper.{BackingSuper}
use Rattle.bc_super.specs.declared.cache.CacheSuper.{CacheSuper}
use Rattle.bc_meta.specs.Layout.{Layout}
use Rattle.bc_leaves.specs.Parts.{AllFrom, Leaf, NoNode}
use Rattle.bc_leaves_runs.proofs.Example.{no_leaf, only_0}
use Rattle.bc_image.specs.Formatted.{IsFormatted}
use Rattle.bc_image.specs.Pair.{Pair}
use Rattle.bc_image.specs.Sound.{HasSuperblocks, IsNodeKey}
use Rattle.bc_image.specs.Tree.{node_of}
use Rattle.bc_image.specs.Tree as image
use Rattle.bc_image.proofs.Fresh.{fresh_view}
use Rattle.bc_facts.specs.Layout.{IsLayoutOf}
use Rattle.bc_facts.specs.Seen.{entry_rest}
use Rattle.bc_facts.specs.Torn.{NoTornRecord}
use Rattle.bc_facts.proofs.Stood.{all_in}
use Rattle.bc_whole.specs.State.{SameChain, SameRoot}
use Rattle.bc_known.specs.Acts.{CacheBarrier, Event, Seal}
use Rattle.bc_known.specs.Run.{IsRun, run, start}
use Rattle.bc_ranges.specs.Made.{AreWellMade, IsGoodEntry}
use Rattle.bc_ranges.specs.Laws.{IsRunOf, frame_of}
use Rattle.bc_anew.proofs.Anew.{held, opening, opening_of, the_leaf}

module _ (p : Pair) (b : BackingSuper) (c : CacheSuper) (g : Geometry) (w : Layout) (layout : IsLayoutOf g w) (f : IsFormatted p b c g) (supers : HasSuperblocks b c) where
  -- the entry behind the first one
  abbrev second : JEntry
  second = record { seq = suc f.entry.seq; last_seq = 1; uuid_bucket = f.entry.uuid_bucket; root = f.entry.root; level = f.entry.level; prio = f.entry.prio; keys = [] }

  abbrev pub sealing : List Event
  sealing = record { seat = 0; act = Seal 1 (entry_rest second) SameRoot SameChain } ∷ (record { seat = 0; act = CacheBarrier } ∷ [])

  none_pending : (i : ℕ) → ((held p b c g w layout f supers).leaves i).role ≢ NoNode → AllFrom 1 ((held p b c g w layout f supers).leaves i).pending
  none_pending = only_0 (λ i x. x.role ≢ NoNode → AllFrom 1 x.pending) (the_leaf p b c g w layout f supers) no_leaf (λ _ y m. absurd m) (λ i ne. absurd (ne refl))

  course : (next_seq : ℕ) → IsRun (opening p b c g w layout f supers) (start (opening p b c g w layout f supers) (held p b c g w layout f supers) next_seq) sealing
  course next_seq =
      let number = f.first_entry.seq in
      let last = f.first_entry.last_seq in (
        record {
          data_allows = (record { heard = refl; steps = (refl, tt); can = tt }, tt);
          asks = ((refl, omega (arith, last), omega (arith, number), none_pending), tt);
        },
        (record { data_allows = (record { heard = inl refl; steps = tt; can = tt }, tt); asks = tt }, tt),
      )

  no_true : false ≡ true → ⊥
  no_true e = cc

  no_torn : (next_seq : ℕ) → NoTornRecord g p.cache (run (opening p b c g w layout f supers) (start (opening p b c g w layout f supers) (held p b c g w layout f supers) next_seq) sealing).whole.store.places
  no_torn next_seq = record {
    entries = λ image q at left lt block e whole. inl (
      found_stays (entry_kind g) (entry_codec g) image p.cache (bucket_end g q) at e whole.0 (λ s low high. elim (left s) [ inl same ↦ same | inr n ↦ absurd n ]) whole.1,
      whole.1,
    );
    sets = λ image q left own known stand s whole. absurd (no_true own);
  }

  pub run_of : (next_seq : ℕ) → IsRunOf p (fresh_view p b c g f) (opening p b c g w layout f supers) (held p b c g w layout f supers) next_seq sealing
  run_of next_seq =
      let on = opening_of p b c g w layout f supers in
      record {
        opening = on;
        course = course next_seq;
        made = (record { entry = second; seen = refl; names = refl; root = root; end = f.first_entry.root.ends }, (tt, tt));
        no_torn = no_torn next_seq;
      }
    where
      root : IsNodeKey g f.entry.root
      root = (all_in (λ (n : image.Node). IsNodeKey g n.key) (fresh_view p b c g f).reading.nodes (node_of 1 0 f.entry.root (f.root_set ∷ [])) (opening_of p b c g w layout f supers).parts.pointers.nodes (inl refl))
