-- What each opening has, and that a crash leaves what is opened again.
use Rattle.std.proofs.Common.{subst, ◌≡◌, ◌≢◌, inl, inr, ℕ, zero, suc, ◌<◌, true, false, Option, Some, None, refl, sym, ap, ◌∙◌, arith}
use Rattle.bc_disk.specs.declared.geometry.Geometry.{Geometry}
use Rattle.bc_key.specs.declared.ptr.Ptr.{Ptr}
use Rattle.bc_record.specs.Places.{bucket_at}
use Rattle.bc_key.specs.Key.{ptr_at}
use Rattle.bc_model.specs.History.{Allowed}
use Rattle.bc_meta.specs.Facts.{In}
use Rattle.bc_meta.specs.Layout.{Layout, node_sets}
use Rattle.bc_leaves.specs.Parts.{NoNode}
use Rattle.bc_leaves.specs.Parts as parts
use Rattle.bc_image.specs.Pair.{Pair}
use Rattle.bc_image.specs.Pointers.{PointsInto}
use Rattle.bc_image.specs.Reading.{Reading, View}
use Rattle.bc_image.specs.Shown.{shown_by}
use Rattle.bc_image.specs.Tree.{Node}
use Rattle.bc_image.proofs.Unique.{some_same}
use Rattle.bc_facts.specs.Reads.{back}
use Rattle.bc_facts.specs.Seen.{counted, seen_sets}
use Rattle.bc_facts.specs.Torn.{NoTornRecord}
use Rattle.bc_whole.specs.State as whole
use Rattle.bc_known.specs.Acts as known
use Rattle.bc_known.specs.Run as machine
use Rattle.bc_events.specs.Run.{machine_events, run, start}
use Rattle.bc_events.proofs.Machine.{law_machine}
use Rattle.bc_events.proofs.Names.{law_workers}
use Rattle.bc_opened.specs.Opening.{IsSoundOpeningOf, IsLeafOf, IsInnerOf}
use Rattle.bc_opening.specs.Choices.{Choices}
use Rattle.bc_opening.specs.Read.{inner_of, is_leaf, leaf_of, height_of}
use Rattle.bc_opening.proofs.Chosen.{law_choices}
use Rattle.bc_opening.proofs.Nodes.{first_points}
use Rattle.bc_opening.proofs.Whole.{law_opening}
use Rattle.bc_opening.proofs.Opened as opening
use Rattle.bc_opening_runs.proofs.Law as runs
use Rattle.bc_ranges.specs.Laws.{frame_of}
use Rattle.bc_ranges.proofs.Law.{run_new}
use Rattle.bc_sound.specs.Laws.{IsLeftOf, view_with}
use Rattle.bc_sound.proofs.Events as sound
use Rattle.bc_reopened.specs.Laws.{IsOpenedBy, LawOpened, LawAgain}

no_leaf_level : (l : ℕ) → 0 < l → is_leaf l ≡ false
no_leaf_level zero lt = absurd (omega (arith, lt))
no_leaf_level (suc l) lt = refl

above : (l : ℕ) → 0 < l → l ≡ suc (height_of l)
above zero lt = absurd (omega (arith, lt))
above (suc l) lt = refl

module _ (p : Pair) (v : View) (layout : Layout) (c : Choices) (w : whole.Opening) (x : parts.State) (o : IsOpenedBy p v layout c w x) where
  abbrev g : Geometry
  g = v.geometry

  abbrev r : Reading
  r = v.reading

  a_leaf : (i : ℕ) (slot : Option Node) → c.leaf i ≡ slot → (y : parts.Leaf) → y ≡ leaf_of g slot (c.pending i) → y.role ≢ NoNode → (n : Node) × In n r.nodes × IsLeafOf g w n y
  a_leaf i None e y is some = absurd (some (ap (λ (l : parts.Leaf). l.role) is))
  a_leaf i (Some n) e y is some =
      let k = o.1.leaves.is_node i n e in
      let s = opening.sits p v layout c w x o.0 n k.0 in (
        n,
        k.0,
        record {
          level = k.1;
          first = sym (ap (λ (l : parts.Leaf). l.first) is);
          end = sym (ap (λ (l : parts.Leaf). l.end) is);
          bucket = sym (ap (λ (l : parts.Leaf). l.bucket) is);
          word = sym (ap (λ (l : parts.Leaf). l.word) is);
          sets = ap (λ (l : parts.Leaf). node_sets w.layout w.store.owners w.store.image l.bucket) is ∙ s.seen ∙ ap (λ l. seen_sets g (is_leaf l) n.sets) k.1;
        },
      )

  an_inner : (i : ℕ) (slot : Option Node) → c.inner i ≡ slot → (y : parts.InnerNode) → y ≡ inner_of g slot → y.role ≢ NoNode → (n : Node) × In n r.nodes × IsInnerOf g w n y
  an_inner i None e y is some = absurd (some (ap (λ (l : parts.InnerNode). l.role) is))
  an_inner i (Some n) e y is some =
      let k = o.1.inner_nodes.is_node i n e in
      let s = opening.sits p v layout c w x o.0 n k.0 in (
        n,
        k.0,
        record {
          level = above n.level k.1 ∙ ap suc (sym (ap (λ (l : parts.InnerNode). l.height) is));
          first = sym (ap (λ (l : parts.InnerNode). l.first) is);
          end = sym (ap (λ (l : parts.InnerNode). l.end) is);
          bucket = sym (ap (λ (l : parts.InnerNode). l.bucket) is);
          word = sym (ap (λ (l : parts.InnerNode). l.word) is);
          sets = ap (λ (l : parts.InnerNode). node_sets w.layout w.store.owners w.store.image l.bucket) is ∙ s.seen ∙ ap (λ b. seen_sets g b n.sets) (no_leaf_level n.level k.1);
        },
      )

  -- the uuid table's bucket is behind those of the journal
  table : (bucket : ℕ) → PointsInto g r.newest.item.uuid_bucket bucket → w.flow.books.fixed (counted g bucket) ≡ true
  table bucket into =
      let uuid = o.0.parts.pointers.uuid in
      let same = some_same into.0 (ptr_at r.newest.item.uuid_bucket 0) (sym into.1 ∙ first_points r.newest.item.uuid_bucket into.0 into.1) in
      let at = ap (λ (ptr : Ptr). bucket_at g ptr.offset) same in
      let low = (uuid.1 0 uuid.0).bucket.0 in
      let is = into.2 in
      let back_is : back g (counted g bucket) ≡ bucket = omega (arith, at, low, is) in
      (o.0.opening.books.fixed (counted g bucket)).1 (inr (inl (subst (λ (q : ℕ). PointsInto g r.newest.item.uuid_bucket q) (sym back_is) into)))

  pub opened : IsSoundOpeningOf p v w x
  opened = record {
    view = o.0.view;
    parts = o.0.parts;
    machine = record { layout = opening.lies p v layout c w x o.0; before = o.0.opening.before };
    sound = o.0.sound;
    cache = o.0.opening.devices.cache;
    backing = o.0.opening.devices.backing;
    shows = o.0.opening.devices.image;
    keys = runs.read_keys p v layout c w x o.0;
    leaves = λ i some. a_leaf i (c.leaf i) refl (x.leaves i) (o.0.opening.parts.leaves i) some;
    inner_nodes = λ i some. an_inner i (c.inner i) refl (x.inner_nodes i) (o.0.opening.parts.inner_nodes i) some;
    end = o.0.opening.parts.end;
    table = table;
  }

pub law_opened : LawOpened
law_opened = opened

pub law_again : LawAgain
law_again p v layout c w x next_seq es ran left is =
    let m = law_machine w (start w x next_seq) es ran.course in
    let no_torn = subst (λ (s : known.State). NoTornRecord v.geometry w.machine.store.image s.whole.store.places) m.last ran.no_torn in
    let again = (sound.law_events p v w x next_seq es (record {
      opening = opened p v layout c w.machine x ran.opened;
      course = ran.course;
      made = ran.made;
      no_torn = ran.no_torn;
    }) left is).0 in
    let later : View = view_with v again.0 in
    let here : IsLeftOf p v.backing.data_offset (machine.run w.machine (start w x next_seq).machine (machine_events w (start w x next_seq) es)) left
    = subst (λ (s : known.State). IsLeftOf p v.backing.data_offset s left) m.last is in
    let shown : (s : ℕ) → Allowed (shown_by p v) (run w (start w x next_seq) es).machine.whole.flow.history s (shown_by left later s)
    = λ s. subst (λ (t : known.State). Allowed (shown_by p v) t.whole.flow.history s (shown_by left later s)) (sym m.last)
    (runs.law_shown p v layout c w.machine x ran.opened.0 next_seq (machine_events w (start w x next_seq) es) (record {
      course = m.course;
      keys = λ key i. (run_new (frame_of p v) w.machine (start w x next_seq).machine (machine_events w (start w x next_seq) es) ran.made key i).lies.ptrs;
      no_torn = no_torn;
    }) left later refl (record { view = again.1; cache = here.cache; backing = here.backing }) s) in
    record {
      later = later;
      geometry = refl;
      view = again.1;
      sound = again.2;
      shows = λ s. ((law_workers w x next_seq es (shown_by p v) ran.workers ran.course).allowed s (shown_by left later s)).1 (shown s);
      choices = law_choices left later again.1 again.2;
      opens = λ layout chosen lay may. let k = law_opening left later layout chosen again.1 again.2 lay may in
          (k.0, k.1, (record { view = again.1; parts = again.2; is_layout = lay; opening = k.2; sound = k.3 }, may));
    }
