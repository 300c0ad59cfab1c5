-- A run over a sound pair that was opened, seen from any opening from which it is seen.
use Rattle.std.proofs.Common.{◌≡◌, ℕ, ◌*◌, ◌≤◌, List, [], ◌∷◌, false, refl, sym, ap, ◌∙◌, subst, arith}
use Rattle.std.specs.Prelude.{fold, map}
use Rattle.bc_cached_serve.specs.bc_begun.Begin.{parts_of}
use Rattle.bc_cached_serve.specs.bc_cached.Laws.{parts_in}
use Rattle.bc_cached_serve.specs.Deeds.{AreKeeping, IsKeeping}
use Rattle.bc_cached_serve.proofs.of_bc_chosen.Parts.{law_chosen}
use Rattle.bc_cached_serve.specs.bc_chosen.Parts.{ArePartsOf, choices_of}
use Rattle.bc_disk.specs.Disk.{DiskFacts}
use Rattle.bc_events.specs.declared.event.Deed.{Deed}
use Rattle.bc_events.specs.declared.event.Deed.TheVariants as deed
use Rattle.bc_events.specs.declared.event.Event.{Event}
use Rattle.bc_events.specs.declared.event.Failure.{Failure}
use Rattle.bc_events.specs.declared.event.Failure.TheVariants as failure
use Rattle.bc_facts.specs.Layout.{IsLayoutOf}
use Rattle.bc_cached_serve.specs.bc_hand.Seats.{View, by, world}
use Rattle.bc_image.proofs.Unique.{one_view}
use Rattle.bc_image.specs.Pair.{Pair}
use Rattle.bc_image.specs.Reading as pairs
use Rattle.bc_jset.specs.Entries.{FoundEntry}
use Rattle.bc_cached_serve.specs.bc_loaded.declared.loading.Loaded.{Loaded}
use Rattle.bc_cached_serve.specs.bc_machine.World.{Origin, World, after, cache_among, opening}
use Rattle.bc_cached_serve.specs.bc_machine.declared.part.CorePart.{CorePart}
use Rattle.bc_meta.specs.Layout.{Layout}
use Rattle.bc_model.specs.Sector.{Image}
use Rattle.bc_cached_serve.proofs.of_bc_open.States.{told_of}
use Rattle.bc_opened.specs.Opening.{IsSoundOpeningOf}
use Rattle.bc_pair.specs.Found.{pair_of}
use Rattle.bc_parts.specs.Seat.{PartsView, Run}
use Rattle.bc_pending.specs.Entries.{keys_in}
use Rattle.bc_pending.specs.Pieces.{ArePending}
use Rattle.bc_recover.specs.Read.{IsReadOf}
use Rattle.bc_cached_serve.specs.bc_regrow.Tree.{IsTreeOf}
use Rattle.bc_cached_serve.proofs.of_bc_reopened.Law as reopened
use Rattle.bc_replay.specs.declared.held.Survey.{Survey}
use Rattle.bc_cached_serve.proofs.of_bc_session.Seen.{now}
use Rattle.bc_cached_serve.specs.bc_session.Laws.{HoldSound}
use Rattle.bc_cached_serve.specs.bc_session.Open.{IsRunOver, ready_of}
use Rattle.bc_shares.specs.Touched.{touches_leaf}
use Rattle.bc_cached_serve.specs.bc_started.Laws.{AreUntorn, IsStartedFrom}
use Rattle.bc_super.specs.declared.backing.BackingSuper.{BackingSuper}
use Rattle.bc_refusals.specs.Made.{TouchNoLeaf}
use Rattle.bc_refusals.specs.Over.{IsOver}

-- ---- events before others

pub untorn_before : (es : List Event) (x : World) (o : Origin) → AreUntorn o (fold after x es).log
    → AreUntorn o x.log
untorn_before [] x o none = none
untorn_before (e ∷ es) x o none = (untorn_before es (after x e) o none).1

pub touch_before : (es : List Event) (x : World) → TouchNoLeaf (fold after x es).log
    → TouchNoLeaf x.log
touch_before [] x none = none
touch_before (e ∷ es) x none = (touch_before es (after x e) none).1

-- ---- deeds that change no value

fault_touches : (x : Failure) → IsKeeping (deed.DeviceFault x) → (k : ℕ)
    → touches_leaf k (deed.DeviceFault x) ≡ false
fault_touches (failure.Read which) is k = refl
fault_touches (failure.Barrier which) is k = refl
fault_touches x is k = absurd is

deed_touches : (d : Deed) → IsKeeping d → (k : ℕ) → touches_leaf k d ≡ false
deed_touches (deed.Claim first count how) is k = refl
deed_touches (deed.Look leaf) is k = refl
deed_touches (deed.CacheRead at first values) is k = refl
deed_touches (deed.BackingRead first values) is k = refl
deed_touches (deed.DeviceFault x) is k = fault_touches x is k
deed_touches (deed.Answer of first values) is k = refl
deed_touches deed.Release is k = refl
deed_touches (deed.FlushFrom of) is k = refl
deed_touches deed.BackingBarrier is k = refl
deed_touches (deed.FlushDone of) is k = refl
deed_touches d is k = absurd is

pub none_touches : (i : ℕ) (ds : List Deed) → AreKeeping ds → (x : World) → TouchNoLeaf x.log
    → TouchNoLeaf (fold after x (map (by i) ds)).log
none_touches i [] are x none = none
none_touches i (d ∷ ds) are x none =
    none_touches i ds are.1 (after x (by i d)) (deed_touches d are.0, none)

module _ {C B : Type 0} (cache_facts : C → DiskFacts) (backing_facts : B → DiskFacts) where
  started_on : (s : Survey) (b : BackingSuper) (cache : C) (backing : B) (loaded : Loaded)
      (parts : PartsView (CorePart C B)) (seat : View cache_facts backing_facts)
      → IsRunOver cache_facts backing_facts s b cache backing loaded parts seat
      → (cache_among cache_facts backing_facts seat.run.start).sectors ≡ (cache_facts cache).sectors
  started_on s b cache backing loaded parts seat over =
      let h = over.started in
      ap (λ (r : Run (CorePart C B)). (cache_among cache_facts backing_facts r.start).sectors)
      h.works.run
      ∙ ap (λ (ps : List (CorePart C B)). (cache_among cache_facts backing_facts ps).sectors)
      h.start
      ∙ ap (λ (x : C). (cache_facts x).sectors) h.made.cache

  -- the parts were read of the pair
  are_parts : (s : Survey) (b : BackingSuper) (cache : C) (backing : B) (c d : Image)
      (v : pairs.View) (loaded : Loaded) (parts : PartsView (CorePart C B))
      (seat : View cache_facts backing_facts)
      → HoldSound cache_facts backing_facts s b cache backing c d v
      → (over : IsRunOver cache_facts backing_facts s b cache backing loaded parts seat)
      → ArePartsOf v.geometry v.reading
      (parts_in (ready_of loaded cache over.part) over.is_loaded.are.leaves.pending)
  are_parts s b cache backing c d v loaded parts seat holds over =
      let p = pair_of (cache_facts cache) (backing_facts backing) c d in
      let r = holds.read in
      let are = over.is_loaded.are in
      subst (λ (w : pairs.View). ArePartsOf w.geometry w.reading
      (parts_in (ready_of loaded cache over.part) are.leaves.pending))
      (one_view p r.view v r.is_view holds.view) (record {
        buckets = are.known p r;
        reserves = are.spare p r;
        tree = told_of (λ i. (q : Pair) → (k : IsReadOf s q) → q.cache ≡ i
            → IsTreeOf k.view.geometry k.view.reading.nodes loaded.tree)
            (cache_facts cache).holds c holds.tells are.grown p r refl;
        pending = subst (λ (es : List FoundEntry).
            ArePending loaded.tree.leaves (keys_in es) are.leaves.pending) (sym r.entries)
            are.leaves.keys;
      })

  -- the entry of an opening touches no leaf
  pub untouched : (s : Survey) (b : BackingSuper) (cache : C) (backing : B) (loaded : Loaded)
      (parts : PartsView (CorePart C B)) (seat : View cache_facts backing_facts)
      → IsRunOver cache_facts backing_facts s b cache backing loaded parts seat
      → TouchNoLeaf (world cache_facts backing_facts seat).log
  untouched s b cache backing loaded parts seat over =
      let h = over.started in
      let x = opening cache_facts backing_facts (parts_of loaded.tree h.beginning) in
      subst (λ (y : World). TouchNoLeaf y.log)
      (sym (now cache_facts backing_facts s b cache backing loaded parts seat over))
      (subst (λ (ds : List Deed). TouchNoLeaf (fold after x (map (by 0) ds)).log) (sym h.put.is)
      ((λ k. refl), ((λ k. refl), ((λ k. refl), ((λ k. refl), ((λ k. refl), tt))))))

  module _ (s : Survey) (b : BackingSuper) (cache : C) (backing : B) (c d : Image)
      (v : pairs.View) (layout : Layout) (loaded : Loaded) (parts : PartsView (CorePart C B))
      (seat : View cache_facts backing_facts)
      (holds : HoldSound cache_facts backing_facts s b cache backing c d v)
      (divided : IsLayoutOf v.geometry layout)
      (over : IsRunOver cache_facts backing_facts s b cache backing loaded parts seat)
      (next_seq : ℕ) (o : Origin)
      (from : IsStartedFrom (pair_of (cache_facts cache) (backing_facts backing) c d) v layout
      (parts_in (ready_of loaded cache over.part) over.is_loaded.are.leaves.pending) next_seq
      (world cache_facts backing_facts seat) o) where
    abbrev p : Pair
    p = pair_of (cache_facts cache) (backing_facts backing) c d

    pub opening_of : IsSoundOpeningOf p v o.opening.machine o.parts
    opening_of = reopened.law_opened p v layout (choices_of v.geometry v.reading
        (parts_in (ready_of loaded cache over.part) over.is_loaded.are.leaves.pending))
        o.opening.machine o.parts (
          record {
            view = holds.view;
            parts = holds.sound;
            is_layout = divided;
            opening = from.opened;
            sound = from.origin.sound;
          },
          law_chosen p v (parts_in (ready_of loaded cache over.part)
              over.is_loaded.are.leaves.pending) holds.view holds.sound
              (are_parts s b cache backing c d v loaded parts seat holds over),
        )

    pub over_first : AreUntorn o (world cache_facts backing_facts seat).log
        → IsOver cache_facts backing_facts o v.geometry seat
    over_first none =
        let open_ = from.opened in
        let room = holds.view.cache.1.usable.room in
        let divides = holds.view.geometry in
        let all = (cache_facts cache).sectors in
        let whole : v.geometry.bucket * v.geometry.nbuckets ≤ all
        = subst (λ (n : ℕ). n * v.geometry.nbuckets ≤ all) (sym divides.bucket)
        (subst (λ (n : ℕ). v.cache.bucket * n ≤ all) (sym divides.nbuckets) room) in record {
          origin = from.origin;
          course = (from.seen none).course;
          device = record {
            layout = subst (λ (l : Layout). IsLayoutOf v.geometry l) (sym open_.layout_is) divided;
            before = open_.before;
            bucket = open_.books.bucket;
            end = open_.parts.end;
            size = (let size = open_.books.size_is in omega arith);
            whole = subst (λ (n : ℕ). v.geometry.bucket * v.geometry.nbuckets ≤ n)
                (sym (started_on s b cache backing loaded parts seat over)) whole;
          };
        }
