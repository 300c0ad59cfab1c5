-- The laws on leaves that are read.
use Rattle.std.proofs.Common.{◌≡◌, ◌≢◌, ◌⊎◌, inl, inr, ℕ, ◌+◌, Bool, true, false, List, [], ◌∷◌, ◌++◌, Option, Some, None, refl, sym, ap, ◌∙◌, subst, arith, if◌then◌else◌}
use Rattle.bc_crash.specs.Tables.{no_tables}
use Rattle.bc_crash.proofs.Crash.{crash_course}
use Rattle.bc_crash.proofs.Survive.{crash_opened}
use Rattle.bc_data.proofs.Opening.{inv_opened}
use Rattle.bc_disk.specs.Device.{Among, Content}
use Rattle.bc_disk.specs.declared.geometry.Geometry.{Geometry}
use Rattle.bc_events.specs.Run.{State}
use Rattle.bc_facts.specs.Layout.{IsLayoutOf, begins_at}
use Rattle.bc_facts.specs.Seen.{seen_sets, word_of}
use Rattle.bc_facts.proofs.Nodes.{sets_are}
use Rattle.bc_facts.proofs.Torn.{no_chance}
use Rattle.bc_image.specs.Tree.{AreSetsAt}
use Rattle.bc_image.specs.Tree as image_tree
use Rattle.bc_facts.proofs.Place.{by_lt}
use Rattle.bc_image.proofs.Unique.{some_same}
use Rattle.bc_key.specs.Key.{pointer_of, ptr_at}
use Rattle.bc_set.specs.declared.set.SetKind.TheVariants.{Extents}
use Rattle.bc_key.specs.Words.{ptr_word}
use Rattle.bc_key.specs.declared.key.Key.{Key}
use Rattle.bc_key.specs.declared.ptr.Ptr.{Ptr}
use Rattle.bc_known.specs.Laws.{IsSound}
use Rattle.bc_known.proofs.Law.{At, inv_at}
use Rattle.bc_leaves.specs.Keys.{last_said, ref_said}
use Rattle.bc_leaves.specs.Parts.{Coming, Draft, Free, IsLive, Leaving, NoNode, Pending, Role, keys_of, leaf_owner}
use Rattle.bc_leaves.specs.Parts as parts
use Rattle.bc_leaves.proofs.Said.{last_append, or_else}
use Rattle.bc_begun.specs.bc_machine.Containers.{AreEntriesOf, IsInTree, IsLeafFor, IsTreeLeaf}
use Rattle.bc_begun.specs.bc_machine.Standing.{oldest_first, replay_is, replay_runs}
use Rattle.bc_begun.specs.bc_machine.World.{IsCourseOf, IsUntorn, Origin, replay}
use Rattle.bc_events.specs.declared.event.Event.{Event}
use Rattle.bc_meta.specs.Facts.{In}
use Rattle.bc_meta.specs.Layout.{Layout, is_within, node_end, sets_from, sets_in}
use Rattle.bc_meta.specs.Places.{NoChance}
use Rattle.bc_meta.specs.Records.{MayHold, Node, Records, stable_node}
use Rattle.bc_meta.specs.Tree.{NodeSet, Owner, set_keys}
use Rattle.bc_model.specs.Sector.{Image, Value}
use Rattle.bc_node.specs.Leaf.{AreLastOfAll, IsLeafOf, Leaf}
use Rattle.bc_node.specs.declared.pending.Entries.{Entries}
use Rattle.bc_record.proofs.Blocks.{node_blocks}
use Rattle.bc_set.proofs.NodeSets.{node_exists}
use Rattle.bc_remains.proofs.Keys.{leaf_keys}
use Rattle.bc_remains.proofs.Tree.{key_begins}
use Rattle.bc_set.specs.Records.{AreNodeSets}
use Rattle.bc_set.specs.declared.set.Set.{Set}
use Rattle.bc_shares.specs.Shares.{leaf_share, lost_set, node_share, shape_of, written_sets}
use Rattle.bc_shares.proofs.Law.{at_state}
use Rattle.bc_whole.specs.State as whole
use Rattle.bc_whole.specs.State.{Opening}
use Rattle.bc_whole.proofs.Kept.{Inv}
use Rattle.bc_begun.proofs.Said.{keys_say}
use Rattle.bc_fetched.specs.Fetched.{AreWritten, LawFetched, LawFound, LawSets}
use Rattle.bc_fetched.proofs.Settled.{reads}

-- ---- a state of a course

at_course : (o : Origin) → IsSound o.opening.machine o.parts → (es : List Event) → IsCourseOf o es
    → At o.opening.machine o.parts (replay o es).machine
at_course o sound es on = subst (λ (st : State). At o.opening.machine o.parts st.machine)
    (sym (replay_is o es))
    (at_state o.opening o.parts o.next_seq (oldest_first es) sound (replay_runs o es on))

inv_course : (o : Origin) → IsSound o.opening.machine o.parts → (es : List Event) → IsCourseOf o es
    → Inv o.opening.machine (replay o es).machine.whole
inv_course o sound es on = inv_at o.opening.machine o.parts (replay o es).machine.whole sound
    (at_course o sound es on).at

-- ---- nodes

-- what a node holds behind a barrier, was written to it
written : (n : Node) (ss : List NodeSet) → (n.sent ≡ false → n.loose ≡ false)
    → MayHold (stable_node n) ss → AreWritten n ss
written n ss known = go n.sent n.loose n.failed refl refl refl
  where
    Held : (sent loose failed : Bool) → Type 0
    Held sent loose failed = ((if sent then false else loose) ≡ true)
        ⊎ (ss ≡ (if sent then n.last ∷ n.sets else n.sets))
        ⊎ (((false ≡ true) ⊎ ((if sent then false else failed) ≡ true))
        × (ss ≡ n.last ∷ (if sent then n.last ∷ n.sets else n.sets)))

    Are : (sent failed : Bool) → Type 0
    Are sent failed = (ss ≡ written_sets sent n.last n.sets)
        ⊎ ((lost : NodeSet) × (lost_set sent failed n.last ≡ Some lost)
        × (ss ≡ lost ∷ written_sets sent n.last n.sets))

    go : (sent loose failed : Bool) → n.sent ≡ sent → n.loose ≡ loose → n.failed ≡ failed
        → Held sent loose failed → Are sent failed
    go true loose failed s l f (inl wrong) = absurd (cc)
    go true loose failed s l f (inr (inl is)) = inl is
    go true loose failed s l f (inr (inr (inl wrong, is))) = absurd (cc)
    go true loose failed s l f (inr (inr (inr wrong, is))) = absurd (cc)
    go false loose failed s l f (inl wrong) = absurd (let a = known s in cc)
    go false loose failed s l f (inr (inl is)) = inl is
    go false loose failed s l f (inr (inr (inl wrong, is))) = absurd (cc)
    go false loose true s l f (inr (inr (inr lost, is))) = inr (n.last, refl, is)
    go false loose false s l f (inr (inr (inr wrong, is))) = absurd (cc)

module _ (w : Opening) (x : parts.State) (sound : IsSound w x) (st : whole.State)
    (inv : Inv w st) where
  honest : (t : ℕ) (v : Value) → Among v (st.flow.cache.reads t) → Among v (st.flow.cache.leaves t)
  honest t v i =
      let f = inv.flow in
      let pair = sound.whole.pair in
      let both = crash_course w.flow _ no_tables f.list f.run (inv_opened w.flow pair)
      (crash_opened w.flow pair) in
      subst (λ (c : Content). Among v (c.reads t) → Among v (c.leaves t))
      (sym (ap (λ y. y.cache) f.is)) (both.1.honest t v) i

  module _ (g : Geometry) (layout : IsLayoutOf g w.layout)
      (chance : NoChance w.layout w.store.image st.store.places) (image : Image)
      (values : (s : ℕ) → Among (image s) (st.flow.cache.reads s)) where
    held : (q : ℕ) → MayHold (stable_node (st.parts.records.nodes q))
        (sets_in w.layout image (st.parts.records.nodes q).owner q)
    held q = subst (λ (r : Records). MayHold (stable_node (r.nodes q))
        (sets_in w.layout image (r.nodes q).owner q)) (sym inv.same)
        (reads w.layout w.store st.store inv.store sound.whole.store chance
        (subst (λ (c : Content). (t : ℕ) (v : Value) → Among v (c.reads t) → Among v (c.leaves t))
        inv.link.device honest)
        image (subst (λ (c : Content). (s : ℕ) → Among (image s) (c.reads s)) inv.link.device values) q)

    pub sets : (q : ℕ) → let n = st.parts.records.nodes q in (n.sent ≡ false → n.loose ≡ false)
        → AreWritten n (sets_in w.layout image n.owner q)
    sets q known = written (st.parts.records.nodes q)
        (sets_in w.layout image (st.parts.records.nodes q).owner q) known (held q)

-- no torn record matched by chance in the state to which a course leads
untorn_now : (o : Origin) (es : List Event) → IsCourseOf o es → IsUntorn o (replay o es)
untorn_now o [] course = course
untorn_now o (e ∷ es) course = course.1

pub law_sets : LawSets
law_sets x o is course g image given q known =
    let st = (replay o x.log).machine.whole in
    let w = o.opening.machine in
    sets w o.parts is.sound st (inv_course o is.sound x.log course) g given.layout
    (no_chance g w.layout given.layout w.store.image st.store.places
    (untorn_now o x.log course g given.layout)) image given.values
    q known

-- ---- leaves

-- nothing is pending of no keys
nothing : AreLastOfAll [] []
nothing = record {
  order = (
    (λ j a lt. absurd (omega (arith, lt))),
    (λ i j a lt inside. absurd (omega (arith, inside))),
  );
  shown = λ s. refl;
}

live_in : (r : Role) → IsInTree r → IsLive r
live_in NoNode h = h
live_in Draft h = h
live_in Free h = tt
live_in Leaving h = tt
live_in Coming h = tt

some_role : (r : Role) → IsInTree r → r ≢ NoNode
some_role NoNode h e = h
some_role Draft h e = h
some_role Free h e = cc
some_role Leaving h e = cc
some_role Coming h e = cc

-- a node that is read is within its bucket
within : (w : Layout) (image : Image) (o : Owner) (q : ℕ) → sets_in w image o q ≢ []
    → is_within w q o ≡ true
within w image o q some = go (is_within w q o) some
  where
    go : (b : Bool) → (if b then sets_from w image o (w.sets.found image o (node_end w o) (w.begins o))
        else []) ≢ [] → b ≡ true
    go true some = refl
    go false some = absurd (some refl)

-- what was written of a node of the tree, and what is read of it, is some set
some_written : (sent : Bool) (last : NodeSet) (ss : List NodeSet) → ss ≢ []
    → written_sets sent last ss ≢ []
some_written true last ss some e = cc
some_written false last ss some e = some e

some_read : (n : Node) (ss : List NodeSet) → n.sets ≢ [] → AreWritten n ss → ss ≢ []
some_read n ss some (inl is) e = some_written n.sent n.last n.sets some (sym is ∙ e)
some_read n ss some (inr (lost, of, is)) e = cons (sym is ∙ e)
  where
    cons : lost ∷ written_sets n.sent n.last n.sets ≡ [] → ⊥
    cons e = cc

pub ptr_is : (key : Key) (ptr : Ptr) → pointer_of key ≡ Some ptr → ptr_at key 0 ≡ ptr
ptr_is key ptr = by_lt 0 key.count
    (λ b. (if b then Some (ptr_at key 0) else None) ≡ Some ptr → ptr_at key 0 ≡ ptr)
    (λ _ e. some_same (ptr_at key 0) ptr e) (λ _ e. absurd (cc))

-- of a set that is lost nothing was sent behind it
lost_is : (sent failed : Bool) (last lost : NodeSet) → lost_set sent failed last ≡ Some lost
    → (failed ≡ true) × (last ≡ lost)
lost_is true failed last lost e = absurd (cc)
lost_is false true last lost e = (refl, cc)
lost_is false false last lost e = absurd (cc)

module _ (w : Opening) (st : whole.State) (inv : Inv w st) (k : ℕ)
    (tree : IsInTree (st.parts.leaves k).role) where
  abbrev n : Node
  n = st.parts.records.nodes (st.parts.leaves k).bucket

  abbrev bucket : ℕ
  bucket = (st.parts.leaves k).bucket

  live : IsLive (st.parts.leaves k).role
  live = live_in (st.parts.leaves k).role tree

  -- what was lost has no keys where nothing is pending
  lost_keys : (st.parts.leaves k).pending ≡ [] → (lost : NodeSet)
      → (node_share n).lost ≡ Some lost → (s : ℕ) → last_said lost.keys s ≡ None
  lost_keys none lost is s =
      let l = lost_is n.sent n.failed n.last lost is in
      let fits = inv.fits.leaves.lost k live l.0 in
      ap (λ (x : NodeSet). last_said x.keys s) (sym l.1)
      ∙ fits.held s (λ y i speaks. nothing (st.parts.leaves k).pending none y i)
    where
      nothing : (ps : List Pending) → ps ≡ [] → (y : Pending)
          → In y (parts.up_to st.parts.records.newest.number ps) → ⊥
      nothing [] e y i = i
      nothing (p ∷ ps) e y i = absurd (cc)

  -- so what is read says what was written
  read_says : (st.parts.leaves k).pending ≡ [] → (ss : List NodeSet) → AreWritten n ss → (s : ℕ)
      → last_said (set_keys ss) s ≡ last_said (set_keys (node_share n).sets) s
  read_says none ss (inl is) s = ap (λ l. last_said (set_keys l) s) is
  read_says none ss (inr (lost, of, is)) s =
      ap (λ l. last_said (set_keys l) s) is
      ∙ last_append lost.keys (set_keys (node_share n).sets) s
      ∙ ap (λ o. or_else o (last_said (set_keys (node_share n).sets) s)) (lost_keys none lost of s)

  module _ (g : Geometry) (layout : IsLayoutOf g w.layout) (image : Image) (from : ℕ) (key : Key)
      (at : IsTreeLeaf w from key.end (ptr_at key 0) (shape_of (st.parts.leaves k)))
      (held : AreWritten n (sets_in w.layout image n.owner (st.parts.leaves k).bucket)) where
    abbrev own : Owner
    own = record { word = word_of key; leaf = true }

    owner_is : n.owner ≡ own
    owner_is = inv.fits.buckets.named k (some_role (st.parts.leaves k).role tree)
        ∙ ap (λ (x : ℕ). record { word = x; leaf = true }) at.word

    written_here : AreWritten n (sets_in w.layout image own bucket)
    written_here = subst (λ (o : Owner). AreWritten n (sets_in w.layout image o bucket)) owner_is held

    some_there : sets_in w.layout image own bucket ≢ []
    some_there = some_read n (sets_in w.layout image own bucket) (inv.fits.leaves.firm k live).1
        written_here

    -- what the format reads there is what the machine reads
    seen_as : (sets : List Set) → AreNodeSets g (word_of key) Extents image
        (begins_at (word_of key) + g.node_sectors) (begins_at (word_of key)) sets
        → sets_in w.layout image own bucket ≡ seen_sets g true sets
    seen_as sets there = sets_are g w.layout layout image own bucket sets
        (within w.layout image own bucket some_there) there

    found : pointer_of key ≡ Some (ptr_at key 0) → (sets : List Set) × AreSetsAt g image 0 key sets
    found points =
        let whole = node_blocks g in
        let e = node_exists g (word_of key) Extents image (begins_at (word_of key) + g.node_sectors)
        (begins_at (word_of key)) whole.0 (ap (λ (m : ℕ). begins_at (word_of key) + m) whole.1) in (
          e.0,
          record {
            ptr = ptr_at key 0;
            points = points;
            stand = subst (λ (p : ℕ). AreNodeSets g (word_of key) Extents image (p + g.node_sectors) p e.0)
                (key_begins key) e.1;
            some = λ none. some_there (seen_as e.0 e.1 ∙ ap (seen_sets g true) none);
          },
        )

    module _ (none : (st.parts.leaves k).pending ≡ []) (sets : List Set) (leaf : Leaf)
        (are : AreSetsAt g image 0 key sets) (of : IsLeafOf g key from sets leaf) where
      seen : sets_in w.layout image own bucket ≡ seen_sets g true sets
      seen = seen_as sets (subst (λ (p : ℕ).
          AreNodeSets g (word_of key) Extents image (p + g.node_sectors) p sets) (sym (key_begins key))
          (subst (λ (p : Ptr). AreNodeSets g (ptr_word p) Extents image (p.offset + g.node_sectors)
          p.offset sets) (sym (ptr_is key are.ptr are.points)) are.stand))

      read_for : IsLeafFor w (leaf_share st.parts k) leaf
      read_for = record {
        at = subst (λ a. IsTreeLeaf w a leaf.end leaf.ptr (shape_of (st.parts.leaves k)))
            (sym of.begins)
            (subst (λ b. IsTreeLeaf w from b leaf.ptr (shape_of (st.parts.leaves k))) (sym of.ends)
            (subst (λ (p : Ptr). IsTreeLeaf w from key.end p (shape_of (st.parts.leaves k)))
            (sym of.ptr) at));
        loaded = λ on. of.loaded;
        own = λ off. absurd (let read = of.loaded in cc);
        whole = λ off. absurd (let read = of.loaded in cc);
        keys = λ s low high. keys_say (image_tree.set_keys sets) leaf.keys s of.last.order of.last.shown
            ∙ ap (λ l. ref_said (last_said l s)) (leaf_keys g sets)
            ∙ ap (λ l. ref_said (last_said (set_keys l) s)) (sym seen)
            ∙ ap ref_said (read_says none (sets_in w.layout image own bucket) written_here s)
            ∙ ap (λ (ps : List Pending).
            ref_said (last_said (keys_of ps ++ set_keys (node_share n).sets) s)) (sym none);
        pending = λ s. ap (λ (l : List Key). last_said l s) of.pending.keys
            ∙ ap (λ (ps : List Pending). last_said (keys_of ps) s) (sym none);
        entries = subst (λ (o : Option Entries). AreEntriesOf o (st.parts.leaves k).pending)
            (sym of.pending.entries) none;
        lists = record {
          list = image_tree.set_keys sets;
          last = of.last;
          added = [];
          last_added = subst (λ (l : List Key). AreLastOfAll [] l) (sym of.pending.keys) nothing;
        };
      }

pub law_found : LawFound
law_found x o is course g image given k from key points at =
    let st = (replay o x.log).machine.whole in
    let inv = inv_course o is.sound x.log course in
    found o.opening.machine st inv k at.role g given.layout image from key at
    (law_sets x o is course g image given (st.parts.leaves k).bucket
    (λ _. (inv.fits.leaves.firm k (live_in (st.parts.leaves k).role at.role)).0)) points

pub law_fetched : LawFetched
law_fetched x o is course g image given k from key sets leaf idle are of =
    let st = (replay o x.log).machine.whole in
    let inv = inv_course o is.sound x.log course in
    let tree = idle.at.role in
    read_for o.opening.machine st inv k tree g given.layout image from key idle.at
    (law_sets x o is course g image given (st.parts.leaves k).bucket
    (λ _. (inv.fits.leaves.firm k (live_in (st.parts.leaves k).role tree)).0)) idle.none sets leaf are
    of
