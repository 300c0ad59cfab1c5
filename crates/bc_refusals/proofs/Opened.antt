-- A run over a sound pair that was opened.
use Rattle.std.proofs.Common.{◌≡◌, inr, ℕ, ◌*◌, ◌≤◌, List, [], ◌∷◌, refl, sym, ap, ◌∙◌, subst, arith}
use Rattle.std.specs.Prelude.{fold, map}
use Rattle.bc_session.specs.bc_begun.Begin.{parts_of}
use Rattle.bc_session.specs.bc_cached.Laws.{parts_in}
use Rattle.bc_session.proofs.of_bc_chosen.Parts.{law_chosen}
use Rattle.bc_session.specs.bc_chosen.Parts.{ArePartsOf, choices_of}
use Rattle.bc_disk.specs.Disk.{DiskFacts}
use Rattle.bc_events.specs.declared.event.Deed.{Deed}
use Rattle.bc_events.specs.declared.event.Event.{Event}
use Rattle.bc_facts.specs.Layout.{IsLayoutOf}
use Rattle.bc_request.specs.bc_hand.Seats.{View, by, world}
use Rattle.bc_image.proofs.Unique.{one_view}
use Rattle.bc_image.specs.Pair.{Pair}
use Rattle.bc_image.specs.Reading as pairs
use Rattle.bc_jset.specs.Entries.{FoundEntry}
use Rattle.bc_session.specs.bc_loaded.declared.loading.Loaded.{Loaded}
use Rattle.bc_request.specs.bc_machine.Standing.{told_event}
use Rattle.bc_request.specs.bc_machine.World.{IsCourseOf, IsEnabled, IsOrigin, Origin, World, after, cache_among, opening}
use Rattle.bc_request.specs.bc_machine.declared.part.CorePart.{CorePart}
use Rattle.bc_meta.specs.Layout.{Layout}
use Rattle.bc_model.specs.Sector.{Image}
use Rattle.bc_session.proofs.of_bc_open.States.{told_of}
use Rattle.bc_pair.specs.Found.{pair_of}
use Rattle.bc_parts.specs.Course.{IsCourse}
use Rattle.bc_parts.specs.Seat.{PartsView, Run}
use Rattle.bc_pending.specs.Entries.{keys_in}
use Rattle.bc_pending.specs.Pieces.{ArePending}
use Rattle.bc_recover.specs.Read.{IsReadOf}
use Rattle.bc_session.specs.bc_regrow.Tree.{IsTreeOf}
use Rattle.bc_session.proofs.of_bc_reopened.Law as reopened
use Rattle.bc_replay.specs.declared.held.Survey.{Survey}
use Rattle.bc_session.proofs.Seen.{law_session, now}
use Rattle.bc_session.specs.Laws.{HoldSound}
use Rattle.bc_session.specs.Open.{IsRunOver, ready_of}
use Rattle.bc_session.specs.bc_started.Laws.{AreUntorn}
use Rattle.bc_super.specs.declared.backing.BackingSuper.{BackingSuper}
use Rattle.bc_refusals.specs.Made.{TouchNoLeaf}
use Rattle.bc_refusals.specs.Over.{IsOfDevice}
use Rattle.bc_refusals.specs.Runs.{LawGoesOn, LawOpened}

-- ---- the run goes on

untorn_before : (es : List Event) (x : World) (o : Origin) → AreUntorn o (fold after x es).log
    → AreUntorn o x.log
untorn_before [] x o none = none
untorn_before (e ∷ es) x o none = (untorn_before es (after x e) o none).1

origin_after : (x : World) (e : Event) (o : Origin) → IsOrigin x o → IsOrigin (after x e) o
origin_after x e o h = record {
  with_cache = h.with_cache;
  told = told_event x e ∙ h.told;
  cached = h.cached;
  size = h.size;
  worker = h.worker;
  cache = h.cache;
  backing = h.backing;
  sound = h.sound;
  slots = h.slots;
  order = h.order;
  ends = h.ends;
  calm = h.calm;
  begun = h.begun;
}

goes_on : (es : List Event) (x : World) (o : Origin) → IsCourse IsEnabled after x es
    → IsOrigin x o → IsCourseOf o x.log → AreUntorn o (fold after x es).log
    → IsOrigin (fold after x es) o × IsCourseOf o (fold after x es).log
goes_on [] x o run is course none = (is, course)
goes_on (e ∷ es) x o run is course none = goes_on es (after x e) o run.1 (origin_after x e o is)
    (run.0.follows o is course, (untorn_before es (after x e) o none).0, course) none

module _ {C B : Type 0} (cache_facts : C → DiskFacts) (backing_facts : B → DiskFacts) where
  pub law_goes_on : LawGoesOn {C = C} {B = B} cache_facts backing_facts
  law_goes_on o g deeds v w over done none =
      let x = world cache_facts backing_facts v in
      let h = goes_on done.all x o done.follow over.origin over.course
      (subst (λ (y : World). AreUntorn o y.log) done.is none) in record {
        origin = subst (λ (y : World). IsOrigin y o) (sym done.is) h.0;
        course = subst (λ (y : World). IsCourseOf o y.log) (sym done.is) h.1;
        device = subst (λ (r : Run (CorePart C B)). IsOfDevice o g
            (cache_among cache_facts backing_facts r.start).sectors) (sym done.same.run)
            over.device;
      }

  -- ---- the opening

  started_on : (s : Survey) (b : BackingSuper) (cache : C) (backing : B) (loaded : Loaded)
      (parts : PartsView (CorePart C B)) (seat : View cache_facts backing_facts)
      → IsRunOver cache_facts backing_facts s b cache backing loaded parts seat
      → (cache_among cache_facts backing_facts seat.run.start).sectors ≡ (cache_facts cache).sectors
  started_on s b cache backing loaded parts seat over =
      let h = over.started in
      ap (λ (r : Run (CorePart C B)). (cache_among cache_facts backing_facts r.start).sectors)
      h.works.run
      ∙ ap (λ (ps : List (CorePart C B)). (cache_among cache_facts backing_facts ps).sectors)
      h.start
      ∙ ap (λ (x : C). (cache_facts x).sectors) h.made.cache

  -- the parts were read of the pair
  are_parts : (s : Survey) (b : BackingSuper) (cache : C) (backing : B) (c d : Image)
      (v : pairs.View) (loaded : Loaded) (parts : PartsView (CorePart C B))
      (seat : View cache_facts backing_facts)
      → HoldSound cache_facts backing_facts s b cache backing c d v
      → (over : IsRunOver cache_facts backing_facts s b cache backing loaded parts seat)
      → ArePartsOf v.geometry v.reading
      (parts_in (ready_of loaded cache over.part) over.is_loaded.are.leaves.pending)
  are_parts s b cache backing c d v loaded parts seat holds over =
      let p = pair_of (cache_facts cache) (backing_facts backing) c d in
      let r = holds.read in
      let are = over.is_loaded.are in
      subst (λ (w : pairs.View). ArePartsOf w.geometry w.reading
      (parts_in (ready_of loaded cache over.part) are.leaves.pending))
      (one_view p r.view v r.is_view holds.view) (record {
        buckets = are.known p r;
        reserves = are.spare p r;
        tree = told_of (λ i. (q : Pair) → (k : IsReadOf s q) → q.cache ≡ i
            → IsTreeOf k.view.geometry k.view.reading.nodes loaded.tree)
            (cache_facts cache).holds c holds.tells are.grown p r refl;
        pending = subst (λ (es : List FoundEntry).
            ArePending loaded.tree.leaves (keys_in es) are.leaves.pending) (sym r.entries)
            are.leaves.keys;
      })

  -- the entry of an opening touches no leaf
  untouched : (s : Survey) (b : BackingSuper) (cache : C) (backing : B) (loaded : Loaded)
      (parts : PartsView (CorePart C B)) (seat : View cache_facts backing_facts)
      → IsRunOver cache_facts backing_facts s b cache backing loaded parts seat
      → TouchNoLeaf (world cache_facts backing_facts seat).log
  untouched s b cache backing loaded parts seat over =
      let h = over.started in
      let x = opening cache_facts backing_facts (parts_of loaded.tree h.beginning) in
      subst (λ (y : World). TouchNoLeaf y.log)
      (sym (now cache_facts backing_facts s b cache backing loaded parts seat over))
      (subst (λ (ds : List Deed). TouchNoLeaf (fold after x (map (by 0) ds)).log) (sym h.put.is)
      ((λ k. refl), ((λ k. refl), ((λ k. refl), ((λ k. refl), ((λ k. refl), tt))))))

  pub law_opened : LawOpened {C = C} {B = B} cache_facts backing_facts
  law_opened s b cache backing c d v layout loaded parts seat holds divided over =
      let seen = law_session cache_facts backing_facts s b cache backing c d v layout
      loaded parts seat holds divided over in
      let o = seen.0 in
      let open_ = seen.1.opened in
      let p = pair_of (cache_facts cache) (backing_facts backing) c d in
      let x = parts_in (ready_of loaded cache over.part) over.is_loaded.are.leaves.pending in
      let are = are_parts s b cache backing c d v loaded parts seat holds over in
      let room = holds.view.cache.1.usable.room in
      let divides = holds.view.geometry in
      let all = (cache_facts cache).sectors in
      let whole : v.geometry.bucket * v.geometry.nbuckets ≤ all
      = subst (λ (n : ℕ). n * v.geometry.nbuckets ≤ all) (sym divides.bucket)
      (subst (λ (n : ℕ). v.cache.bucket * n ≤ all) (sym divides.nbuckets) room) in (
        o,
        λ none. record {
          origin = seen.1.origin;
          course = (seen.1.seen none).course;
          device = record {
            layout = subst (λ (l : Layout). IsLayoutOf v.geometry l) (sym open_.layout_is) divided;
            before = open_.before;
            bucket = open_.books.bucket;
            end = open_.parts.end;
            size = (let size = open_.books.size_is in omega arith);
            whole = subst (λ (n : ℕ). v.geometry.bucket * v.geometry.nbuckets ≤ n)
                (sym (started_on s b cache backing loaded parts seat over)) whole;
          };
        },
        record {
          opening = reopened.law_opened p v layout (choices_of v.geometry v.reading x)
              o.opening.machine o.parts (
                record {
                  view = holds.view;
                  parts = holds.sound;
                  is_layout = divided;
                  opening = open_;
                  sound = seen.1.origin.sound;
                },
                law_chosen p v x holds.view holds.sound are,
              );
          made = inr (untouched s b cache backing loaded parts seat over);
        },
      )
