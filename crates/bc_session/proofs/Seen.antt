-- What a run over a pair that was opened stands for.
use Rattle.std.proofs.Common.{◌≡◌, ℕ, ◌+◌, ◌≤◌, List, [], ◌∷◌, Option, Some, None, refl, sym, ap, ◌∙◌, subst, arith, if◌then◌else◌}
use Rattle.std.specs.Prelude.{fold, map, replicate}
use Rattle.bc_bucket.specs.Walk.{none_found}
use Rattle.bc_started.specs.bc_begun.Begin.{first_seq, parts_of}
use Rattle.bc_started.specs.bc_cached.Laws.{StandsOn, parts_in}
use Rattle.bc_started.specs.bc_cached.declared.run.Ready.{Ready}
use Rattle.bc_started.specs.bc_chosen.Parts.{ArePartsOf}
use Rattle.bc_disk.specs.Disk.{BothTold, DiskFacts, IsSettled, Overwritten}
use Rattle.bc_disk.specs.Gens.{Gens}
use Rattle.bc_disk.specs.declared.geometry.Geometry.{Geometry}
use Rattle.bc_open.specs.bc_entered.Enter.{KeepsThePair}
use Rattle.bc_open.specs.bc_entered.Laws.{IsSameImage}
use Rattle.bc_open.proofs.of_bc_entered.Safe.{moved}
use Rattle.bc_entries.specs.Journal.{HasJournal}
use Rattle.bc_events.specs.declared.event.Event.{Event}
use Rattle.bc_facts.specs.Layout.{IsLayoutOf}
use Rattle.bc_started.specs.bc_hand.Seats.{View, by, world}
use Rattle.bc_image.specs.Pair.{Pair}
use Rattle.bc_image.specs.Reading as pairs
use Rattle.bc_image.specs.Reading.{IsView}
use Rattle.bc_image.specs.Sound.{HasSoundParts}
use Rattle.bc_image.proofs.Supers.{backing_read}
use Rattle.bc_image.proofs.Unique.{one_backing, one_view}
use Rattle.bc_jset.specs.Entries.{FoundEntry}
use Rattle.bc_loaded.specs.declared.loading.Loaded.{Loaded}
use Rattle.bc_started.specs.bc_machine.World.{IsBacking, IsCache, Origin, World, after, opening}
use Rattle.bc_started.specs.bc_machine.declared.part.BackingPart.{BackingPart}
use Rattle.bc_started.specs.bc_machine.declared.part.CorePart.{CorePart}
use Rattle.bc_meta.specs.Layout.{Layout}
use Rattle.bc_model.specs.Sector.{Image, Value, unless}
use Rattle.bc_model.proofs.Cases.{by_test}
use Rattle.bc_open.specs.Left.{ChangesState}
use Rattle.bc_open.proofs.States.{Later, everywhere, later_of, stored_leaves, stored_settled, told_of}
use Rattle.bc_pair.specs.Found.{pair_of}
use Rattle.bc_parts.specs.Seat.{PartsView, Run}
use Rattle.bc_pending.specs.Entries.{keys_in}
use Rattle.bc_pending.specs.Pieces.{ArePending}
use Rattle.bc_recover.specs.Read.{IsReadOf}
use Rattle.bc_loaded.specs.bc_regrow.Tree.{IsTreeOf}
use Rattle.bc_replay.specs.declared.held.Survey.{Survey}
use Rattle.bc_resume.specs.Resume.{IsResumed}
use Rattle.bc_loaded.specs.bc_slots.Parts.{AreParts}
use Rattle.bc_started.specs.Laws.{IsStartedFrom}
use Rattle.bc_started.specs.Start.{HasStarted}
use Rattle.bc_started.proofs.Seen.{law_started}
use Rattle.bc_started.proofs.Stored.{law_stored}
use Rattle.bc_super.specs.Super.{IsUsable, data_sectors}
use Rattle.bc_super.specs.Reading.{ReadsSuper}
use Rattle.bc_super.specs.declared.backing.BackingSuper.{BackingSuper}
use Rattle.bc_super.specs.declared.state.BackingState.{BackingState}
use Rattle.bc_super.specs.declared.state.BackingState.TheVariants as states
use Rattle.bc_session.specs.Laws.{LawRests, LawSession}
use Rattle.bc_session.specs.Open.{IsRunOver, ready_of}
use Rattle.bc_session.proofs.Cut.{stored_partly}
use Rattle.bc_session.proofs.Data.{AreOff, rested}
use Rattle.bc_session.proofs.Left.{both_left}
use Rattle.bc_session.proofs.Sectors.{stay}

-- what a device tells that kept it, it told before
told_same : (x y : Option Image) (c : Image) → y ≡ Some c → BothTold IsSameImage x y → x ≡ Some c
told_same None y c is both =
    absurd (subst (λ (o : Option Image). BothTold IsSameImage None o) is both)
told_same (Some a) y c is both = ap (λ (i : Image). Some i) (sym (everywhere a c
    (subst (λ (o : Option Image). BothTold IsSameImage (Some a) o) is both)))

-- a write of sector 8 leaves the data as they were
data_stay : (bytes : Value) (old new : Image) → Overwritten 8 (bytes ∷ []) old new → (t : ℕ)
    → 16 ≤ t → new t ≡ old t
data_stay bytes old new over t high = over t
    ∙ by_test 8 t (λ b. unless (if b then Some bytes else None) (old t) ≡ old t)
    (λ is. absurd (omega arith)) (λ no. refl)

module _ {C B : Type 0} (cache_facts : C → DiskFacts) (backing_facts : B → DiskFacts) where
  module _ (s : Survey) (b : BackingSuper) (cache : C) (backing : B) (loaded : Loaded)
      (parts : PartsView (CorePart C B)) (seat : View cache_facts backing_facts)
      (over : IsRunOver cache_facts backing_facts s b cache backing loaded parts seat) where
    abbrev ready : Ready C B
    ready = ready_of loaded cache over.part

    abbrev h : HasStarted cache_facts backing_facts s.supers.geometry s.journal ready parts seat
    h = over.started

    -- ---- what its devices leave

    pub now : world cache_facts backing_facts seat
        ≡ fold after (opening cache_facts backing_facts (parts_of ready.tree h.beginning))
        (map (by 0) h.deeds)
    now = ap (λ (r : Run (CorePart C B)).
        fold after (opening cache_facts backing_facts r.start) seat.seen) h.works.run
        ∙ ap (λ (ps : List (CorePart C B)).
        fold after (opening cache_facts backing_facts ps) seat.seen) h.start
        ∙ ap (λ (es : List Event). fold after
        (opening cache_facts backing_facts (parts_of ready.tree h.beginning)) es) h.seen

    pub put_off : AreOff h.deeds
    put_off = subst AreOff (sym h.put.is) (refl, (refl, (refl, (refl, (refl, tt)))))

    pub disk_is : h.beginning.backing.disk ≡ over.between
    disk_is = ap (λ (p : BackingPart B). p.disk) h.made.backing ∙ over.is_part.disk_is

    -- the superblock that it had goes on to be one that the device may have
    pub usable_over : ReadsSuper (backing_facts backing) b
        → IsUsable (world cache_facts backing_facts seat).backing.sectors b
    usable_over reads = subst (λ n. IsUsable n b)
        (sym (ap (λ (x : World). x.backing.sectors) now
        ∙ stay (opening cache_facts backing_facts (parts_of ready.tree h.beginning))
        (map (by 0) h.deeds) ∙ ap (λ (d : B). (backing_facts d).sectors) disk_is
        ∙ over.state.2.sectors)) reads.2.usable

    pub keeps : (left : C) → IsCache {C = C} {B = B} cache_facts backing_facts left
        (world cache_facts backing_facts seat)
        → KeepsThePair s.supers.geometry s.journal (cache_facts cache) (cache_facts left)
    keeps left is_left =
        let g = s.supers.geometry in
        let e = law_stored cache_facts backing_facts g s.journal ready parts seat left h is_left in
        moved s.journal h.next.sealed e.bytes (cache_facts cache) (cache_facts left) g
        h.begun.entry e.are
        (stored_partly g s.journal (cache_facts cache) (cache_facts left) _ _ e.stored)

    module _ (rest : BackingPart B)
        (is_rest : IsBacking {C = C} {B = B} cache_facts backing_facts rest
        (world cache_facts backing_facts seat)) where
      settled : IsSettled (backing_facts over.between) (backing_facts rest.disk)
      settled = subst (λ (x : B). IsSettled (backing_facts x) (backing_facts rest.disk)) disk_is
          (rested cache_facts backing_facts ready.tree h.beginning rest h.deeds put_off
          (subst (λ (y : World). IsBacking {C = C} {B = B} cache_facts backing_facts rest y) now
          is_rest)).settled

      changes : ChangesState (λ (x : BackingState). x ≡ states.Dirty) b (backing_facts backing)
          (backing_facts rest.disk)
      changes = stored_leaves (λ (x : BackingState). x ≡ states.Dirty) b (backing_facts backing)
          (backing_facts rest.disk) states.Dirty refl tt (
            over.state.0,
            over.state.1,
            stored_settled over.state.0 (backing_facts backing) (backing_facts over.between)
                (backing_facts rest.disk) over.state.2 settled,
          )

    -- ---- where it comes from

    module _ (c d : Image) (tells : (cache_facts cache).holds ≡ Some c)
        (told : (backing_facts backing).holds ≡ Some d)
        (reads : ReadsSuper (backing_facts backing) b) where
      abbrev p : Pair
      p = pair_of (cache_facts cache) (backing_facts backing) c d

      module _ (r : IsReadOf s p) where
        abbrev w : pairs.View
        w = r.view

        super_is : w.backing ≡ b
        super_is = one_backing p w.backing b r.is_view.backing
            (backing_read (backing_facts backing) p b told refl r.is_view.backing.0 reads)

        -- what the backing device holds by now
        later : Later (Overwritten 8 (over.state.0 ∷ [])) d (backing_facts over.between).holds
        later = later_of (Overwritten 8 (over.state.0 ∷ [])) (backing_facts backing).holds
            (backing_facts over.between).holds d told over.state.2.holds

        offset_is : over.part.offset ≡ w.backing.data_offset
        offset_is = over.is_part.offset
            ∙ ap (λ (x : BackingSuper). x.data_offset) (sym super_is)

        stands : StandsOn cache_facts backing_facts p w s.journal
            over.is_loaded.are.leaves.pending over.is_loaded.count over.is_loaded.are.was ready
        stands = record {
          cache = tells;
          cache_was = told_same (cache_facts over.is_loaded.are.was).holds
              (cache_facts cache).holds c tells over.is_loaded.are.kept.holds;
          image = later.image;
          backing = ap (λ (x : B). (backing_facts x).holds) over.is_part.disk_is ∙ later.is;
          held = λ t. ap (λ n. later.image (n + t)) offset_is
              ∙ data_stay over.state.0 d later.image later.related (w.backing.data_offset + t)
              (let low = reads.2.usable.data_offset.0 in
              let same = ap (λ (x : BackingSuper). x.data_offset) super_is in
              omega (arith, low, same));
          size = over.is_part.size
              ∙ ap (λ n. data_sectors n b) over.state.2.sectors
              ∙ ap (λ (x : BackingSuper). data_sectors p.backing_sectors x) (sym super_is);
          bytes = over.bytes;
          chain = over.is_loaded.are.chain ∙ ap (λ (x : Gens). x.chain) (sym r.gens);
          walk = over.is_loaded.are.walk
              ∙ ap (λ (g : Geometry). replicate g.nbuckets none_found) (sym r.geometry);
          found = subst (λ (g : Geometry). HasJournal g p.cache s.journal) (sym r.geometry)
              r.journal;
          entries = sym r.entries;
          resumed = subst (λ (g : Geometry). IsResumed g s.journal loaded.journal)
              (sym r.geometry) over.is_loaded.are.journal;
          leaves = subst (λ (g : Geometry). AreParts g loaded.tree.leaves
              over.is_loaded.are.leaves.pending over.is_loaded.count
              (cache_facts over.is_loaded.are.was) loaded.leaves.items) (sym r.geometry)
              over.is_loaded.are.leaves.are;
        }

        of_pair : ArePartsOf w.geometry w.reading
            (parts_in ready over.is_loaded.are.leaves.pending)
        of_pair = record {
          buckets = over.is_loaded.are.known p r;
          reserves = over.is_loaded.are.spare p r;
          tree = told_of (λ i. (q : Pair) → (k : IsReadOf s q) → q.cache ≡ i
              → IsTreeOf k.view.geometry k.view.reading.nodes loaded.tree)
              (cache_facts cache).holds c tells over.is_loaded.are.grown p r refl;
          pending = subst (λ (es : List FoundEntry). ArePending loaded.tree.leaves (keys_in es)
              over.is_loaded.are.leaves.pending) (sym r.entries) over.is_loaded.are.leaves.keys;
        }

        abbrev Seen : Layout → pairs.View → Type 0
        Seen layout v = IsView p v → HasSoundParts p v → IsLayoutOf v.geometry layout
            → (o : Origin) × IsStartedFrom p v layout
            (parts_in ready over.is_loaded.are.leaves.pending) (first_seq loaded.journal)
            (world cache_facts backing_facts seat) o

        seen_here : (layout : Layout) → Seen layout w
        seen_here layout view sound divided =
            law_started cache_facts backing_facts p w layout s.journal
            over.is_loaded.are.leaves.pending over.is_loaded.count over.is_loaded.are.was ready
            parts seat (subst (λ (g : Geometry).
            HasStarted cache_facts backing_facts g s.journal ready parts seat) (sym r.geometry) h)
            view sound divided of_pair stands

        seen : (layout : Layout) (v : pairs.View) → IsView p v → Seen layout v
        seen layout v view = subst (Seen layout)
            (one_view p w v r.is_view view) (seen_here layout)

  pub law_rests : LawRests {C = C} {B = B} cache_facts backing_facts
  law_rests s b cache backing loaded parts seat left rest reads read over is_left is_rest =
      let changed = changes s b cache backing loaded parts seat over rest is_rest in (
        both_left (cache_facts cache) (cache_facts left) (backing_facts backing)
            (backing_facts rest.disk) s b (λ (x : BackingState). x ≡ states.Dirty) read reads
            (keeps s b cache backing loaded parts seat over left is_left) changed,
        changed,
      )

  pub law_session : LawSession {C = C} {B = B} cache_facts backing_facts
  law_session s b cache backing c d v layout loaded parts seat hold divided over =
      seen s b cache backing loaded parts seat over c d hold.tells hold.told hold.reads hold.read layout
      v hold.view hold.view hold.sound divided
