-- What is read of the nodes of what a crash leaves.
use Rattle.std.proofs.Common.{◌≡◌, ◌≢◌, ◌⊎◌, inl, inr, ℕ, suc, ◌^◌, ◌<◌, List, [], ◌∷◌, ◌++◌, refl, sym, ap, ◌∙◌, subst, arith, lit<}
use Rattle.std.specs.Prelude.{All, AllPairs}
use Rattle.bc_model.specs.Sector.{Image}
use Rattle.bc_disk.specs.Device.{Content, MayLeave}
use Rattle.bc_disk.specs.declared.geometry.Geometry.{Geometry}
use Rattle.bc_key.specs.declared.key.Key.{Key}
use Rattle.bc_jset.specs.declared.entry.JEntry.{JEntry}
use Rattle.bc_meta.specs.Facts.{In}
use Rattle.bc_meta.specs.Entries.{Entry, live}
use Rattle.bc_meta.specs.Layout.{node_sets}
use Rattle.bc_meta.specs.Places.{NoChance}
use Rattle.bc_meta.specs.Records.{MayRead, Nothing, Records, Stage, owners}
use Rattle.bc_meta.specs.Laws.{Finds, Survives}
use Rattle.bc_meta.proofs.Acts.{survives}
use Rattle.bc_meta.proofs.Keep.{ready_some}
use Rattle.bc_leaves.specs.Parts.{IsLive}
use Rattle.bc_leaves.specs.Parts as parts
use Rattle.bc_leaves.specs.Fits.{HasRoot}
use Rattle.bc_leaves.specs.Rows.{Below}
use Rattle.bc_image.specs.Pair.{Pair}
use Rattle.bc_image.specs.Reading.{IsReading, Reading, View, keys_of}
use Rattle.bc_image.specs.Sound.{IsDataKey, IsNodeKey, KeepsRange}
use Rattle.bc_image.specs.Pointers.{PointsInto}
use Rattle.bc_image.specs.Tree as image
use Rattle.bc_image.proofs.Unique.{one_reading}
use Rattle.bc_facts.specs.Seen.{bucket_of, seen_entry, word_of}
use Rattle.bc_facts.proofs.Lost.{one_entry}
use Rattle.bc_facts.proofs.Stood.{in_all}
use Rattle.bc_facts.proofs.Torn.{no_chance}
use Rattle.bc_remains.specs.Means.{Means}
use Rattle.bc_remains.proofs.Crash.{finds}
use Rattle.bc_whole.specs.State.{Opening, Write, OfData, OfEntry, OfSet, OfParent, OfLeaf, OfInner, OfPriorities, Outside}
use Rattle.bc_whole.proofs.Kept.{Inv}
use Rattle.bc_known.specs.Acts.{State, Act, Alone, Keyed, WriteCache, FailCache, Event, after}
use Rattle.bc_known.specs.Run.{run, start}
use Rattle.bc_origin.specs.Keys.{keys_with, keys_written, new_keys}
use Rattle.bc_origin.proofs.Law.{inv_at}
use Rattle.bc_shows.proofs.Keys.{law_keys}
use Rattle.bc_opened.proofs.Keys.{law_old_keys}
use Rattle.bc_facts.proofs.Stood.{in_either}
use Rattle.bc_ranges.specs.Made.{AreWellMade, Frame, IsGoodEntry, IsNewKey, IsWellMade, IsWellWritten}
use Rattle.bc_ranges.specs.Laws.{HasNodes, IsRunOf, LawNodes, frame_of}
use Rattle.bc_ranges.proofs.Lists.{pairs_all}
use Rattle.bc_ranges.proofs.Slots.{AreMade}
use Rattle.bc_ranges.proofs.Steps.{opened}
use Rattle.bc_ranges.proofs.Acts.{Stage as Reached, made_run}
use Rattle.bc_ranges.proofs.Start.{opened_made}
use Rattle.bc_ranges.proofs.Read.{Differ, GoodWalk, other_buckets, walk_good}

-- ---- keys that come in

written_new : (f : Frame) (st : parts.State) (x : Write) → IsWellWritten f st x → (key : Key) → In key (keys_written x) → IsNewKey f.geometry f.size key
written_new f st (OfData q place) b key i = absurd i
written_new f st OfEntry b key i = absurd i
written_new f st (OfSet slot set) b key i = b key i
written_new f st (OfParent slot set) b key i = absurd i
written_new f st (OfLeaf slot leaf set) b key i = b.0 key i
written_new f st (OfInner slot inner set) b key i = absurd i
written_new f st (OfPriorities q part set) b key i = absurd i
written_new f st (Outside place) b key i = absurd i

act_new : (f : Frame) (st : State) (act : Act) → IsWellMade f st act → (key : Key) → In key (keys_with act) → IsNewKey f.geometry f.size key
act_new f st (Keyed act slot keys) b key i = b key i
act_new f st (WriteCache x values) b key i = written_new f st.whole.parts x b key i
act_new f st (FailCache x values) b key i = written_new f st.whole.parts x b key i
act_new f st act b key i = absurd i

pub run_new : (f : Frame) (w : Opening) (st : State) (es : List Event) → AreWellMade f w st es → (key : Key) → In key (new_keys es) → IsNewKey f.geometry f.size key
run_new f w st [] b key i = absurd i
run_new f w st (e ∷ es) b key i = elim (in_either key (keys_with e.act) (new_keys es) i) [
  | inl j ↦ act_new f st e.act b.0 key j
  | inr j ↦ run_new f w (after w st e.seat e.act) es b.1 key j
]

module _ (p : Pair) (v : View) (w : Opening) (x : parts.State) (next_seq : ℕ) (es : List Event) (ran : IsRunOf p v w x next_seq es) where
  abbrev st : State
  st = run w (start w x next_seq) es

  abbrev g : Geometry
  g = v.geometry

  pub stage : Reached (frame_of p v) w x (run w (start w x next_seq) es)
  stage = made_run (frame_of p v) w x ran.opening.sound (start w x next_seq) es ran.course ran.made
      (record { at = opened w x next_seq ran.opening.sound; made = opened_made p v w x ran.opening })

  inv : Inv w st.whole
  inv = inv_at w x next_seq es ran.opening.sound ran.course

  pub chance : NoChance w.layout w.store.image st.whole.store.places
  chance = no_chance g w.layout ran.opening.machine.layout w.store.image st.whole.store.places ran.no_torn

  module _ (c : Image) (left : MayLeave st.whole.flow.cache c) (r : Reading) (is : IsReading g c r) where
    -- what an entry names, by which the image is read
    named : (e : Entry) → seen_entry g r.newest.item ≡ e → IsGoodEntry g v.reading.newest.item.uuid_bucket e
        → HasRoot st.whole.parts.inner_nodes st.whole.parts.end IsLive e.root e.level e.word
        → MayRead st.whole.parts.records.nodes (node_sets w.layout (owners st.whole.parts.records.nodes) c)
        → HasNodes g (frame_of p v).size (frame_of p v).uuid r
    named e seen good (y, live_, bucket, height, first, end, word) may =
        let same : good.entry ≡ r.newest.item = one_entry g good.entry r.newest.item (good.seen ∙ sym seen) in
        let node : IsNodeKey g r.newest.item.root = subst (λ (j : JEntry). IsNodeKey g j.root) same good.root in
        let root_end : r.newest.item.root.end ≡ 2 ^ 40 = subst (λ (j : JEntry). j.root.end ≡ 2 ^ 40) same good.end in
        let slot : Below st.whole.parts.leaves st.whole.parts.inner_nodes IsLive r.newest.item.level (bucket_of g r.newest.item.root) (word_of r.newest.item.root) 0 r.newest.item.root.end =
        subst (λ l. Below st.whole.parts.leaves st.whole.parts.inner_nodes IsLive l (bucket_of g r.newest.item.root) (word_of r.newest.item.root) 0 r.newest.item.root.end)
        (height ∙ sym (ap (λ (z : Entry). z.level) seen))
        (y, live_, refl, bucket ∙ sym (ap (λ (z : Entry). z.root) seen), first, end ∙ stage.made.end ∙ sym root_end, word ∙ sym (ap (λ (z : Entry). z.word) seen)) in
        let all = walk_good (frame_of p v) w.layout ran.opening.machine.layout st.whole.parts inv.fits stage.made c may
        r.newest.item.level 0 r.newest.item.root r.nodes is.nodes slot (subst (λ n. 0 < n) (sym root_end) (lit< tt)) node in
        record {
          ranges = in_all KeepsRange r.nodes (λ n i. (all.each n i).keeps);
          keys = in_all (λ (n : image.Node). IsNodeKey g n.key) r.nodes (λ n i. (all.each n i).key);
          root = root_end;
          names = ap (λ (j : JEntry). j.uuid_bucket) (sym same) ∙ good.names;
          data_keys = in_all (IsDataKey g (frame_of p v).size) (keys_of r) (λ key i.
              elim (law_keys g w x next_seq es ran.opening.machine ran.opening.sound ran.course ran.no_torn c left r is key i) [
                | inl was ↦ law_old_keys p v w x ran.opening key was
                | inr new ↦ (run_new (frame_of p v) w (start w x next_seq) es ran.made key new).lies
              ]);
          apart = pairs_all (Differ (frame_of p v) w.layout ran.opening.machine.layout st.whole.parts inv.fits stage.made c may)
              (λ a b. (bucket_ : ℕ) → PointsInto g a.key bucket_ → PointsInto g b.key bucket_ → ⊥) r.nodes
              (λ a b i j differ. other_buckets (frame_of p v) w.layout ran.opening.machine.layout st.whole.parts inv.fits stage.made c may
              0 r.newest.item.root.end r.newest.item.level a b (all.each a i) (all.each b j) differ)
              all.apart;
        }

    pub has_nodes : HasNodes g (frame_of p v).size (frame_of p v).uuid r
    has_nodes = go (survives w.layout w.store st.whole.store inv.store ran.opening.sound.whole.store chance c
        (subst (λ (d : Content). MayLeave d c) inv.link.device left))
      where
        newest_is : (e : Entry) (older : List Entry) (index : List Key) (n : ℕ) → Finds w.layout st.whole.store c e older index n → seen_entry g r.newest.item ≡ e
        newest_is e older index n f =
            let k = finds g w.layout ran.opening.machine.layout c st.whole.store e older index n f in
            (subst (λ (y : Reading). Means g y e older index (st.whole.store.buckets n) (st.whole.store.gens n)) (one_reading g c k.0 r k.1 is) k.2).newest_is

        go : Survives w.layout st.whole.store c → HasNodes g (frame_of p v).size (frame_of p v).uuid r
        go s =
            let may : MayRead st.whole.parts.records.nodes (node_sets w.layout (owners st.whole.parts.records.nodes) c) =
            subst (λ (z : Records). MayRead z.nodes (node_sets w.layout (owners z.nodes) c)) (sym inv.same) s.nodes in
            elim s.finds [
              | inl f ↦ named st.whole.parts.records.newest
                  (newest_is st.whole.store.places.records.newest st.whole.store.places.records.older st.whole.store.places.records.index st.whole.store.durable_chain f
                  ∙ ap (λ (z : Records). z.newest) (sym inv.same))
                  stage.made.newest inv.fits.roots.newest may
              | inr f ↦ named st.whole.parts.records.entry
                  (newest_is st.whole.store.places.records.entry (live st.whole.store.places.records.entry.last_seq (st.whole.store.places.records.newest ∷ st.whole.store.places.records.older))
                  (st.whole.store.places.records.entry.keys ++ st.whole.store.places.records.index) st.whole.store.sealed_chain f.1
                  ∙ ap (λ (z : Records). z.entry) (sym inv.same))
                  stage.made.entry
                  (inv.fits.roots.entry (subst (λ (z : Records). z.stage ≢ Nothing) (sym inv.same) (ready_some st.whole.store.places.records.stage f.0))) may
            ]

pub law_nodes : LawNodes
law_nodes p v w x next_seq es ran c left r is = has_nodes p v w x next_seq es ran c left r is
