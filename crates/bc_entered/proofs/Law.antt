-- However much of the entry stands there, the pair shows what it showed.
use Rattle.std.proofs.Common.{◌≡◌, ◌≢◌, ◌⊎◌, inl, inr, ℕ, ◌+◌, ◌≤◌, Bool, true, false, List, [], ◌∷◌, Option, Some, None, refl, sym, ap, ◌∙◌, subst, arith}
use Rattle.std.specs.Prelude.{if◌then◌else◌, ◌==◌, reverse}
use Rattle.bc_model.specs.Sector.{Image, Value, at_run}
use Rattle.bc_model.specs.History.{Allowed}
use Rattle.bc_model.specs.declared.history.Entry.{Entry as Happened}
use Rattle.bc_disk.specs.Device.{Among, MayLeave, besides, quiet, settled, written}
use Rattle.bc_disk.specs.Disk.{Torn}
use Rattle.bc_disk.specs.declared.geometry.Geometry.{Geometry}
use Rattle.bc_key.specs.declared.key.Key.{Key}
use Rattle.bc_jset.specs.declared.entry.JEntry.{JEntry}
use Rattle.bc_jset.specs.Entries.{FoundEntry, bucket_end}
use Rattle.bc_jset.specs.Records.{entry_kind}
use Rattle.bc_meta.specs.Entries.{Entry}
use Rattle.bc_meta.specs.Facts.{In}
use Rattle.bc_meta.specs.Layout.{Layout}
use Rattle.bc_meta.specs.Places.{Places, Wrote}
use Rattle.bc_leaves.specs.Parts as parts
use Rattle.bc_image.specs.Pair.{Pair}
use Rattle.bc_image.specs.Reading.{Reading, View}
use Rattle.bc_image.specs.Shown.{shown_by}
use Rattle.bc_image.specs.Sound.{IsNodeKey}
use Rattle.bc_image.specs.Tree.{Node}
use Rattle.bc_facts.specs.Seen.{seen_entry, seen_entries}
use Rattle.bc_facts.specs.Torn.{NoTornRecord}
use Rattle.bc_facts.specs.Whole.{IsWhole}
use Rattle.bc_facts.proofs.Made.{made, is_layout}
use Rattle.bc_facts.proofs.Stood.{all_in}
use Rattle.bc_meta.proofs.Lists.{by_test}
use Rattle.bc_whole.specs.State as whole
use Rattle.bc_whole.specs.State.{OfEntry, SameChain, SameRoot}
use Rattle.bc_known.specs.Acts.{State}
use Rattle.bc_known.specs.Run.{IsRun, run, start}
use Rattle.bc_events.specs.Run.{by}
use Rattle.bc_origin.specs.Keys.{new_keys}
use Rattle.bc_opened.specs.Opening.{IsSoundOpeningOf}
use Rattle.bc_opening.specs.Choices.{Choices, MayBeChosen}
use Rattle.bc_opening.specs.Opening.{IsOpenedAs}
use Rattle.bc_opening.proofs.Chosen.{law_choices}
use Rattle.bc_opening.proofs.Whole.{law_opening}
use Rattle.bc_opening_runs.proofs.Law.{law_shown}
use Rattle.bc_ranges.specs.Laws.{frame_of}
use Rattle.bc_ranges.specs.Made.{AreWellMade, IsGoodEntry}
use Rattle.bc_sound.specs.Laws.{view_with}
use Rattle.bc_sound.proofs.Law.{law_sound}
use Rattle.bc_reopened.proofs.Law.{law_opened}
use Rattle.bc_first_entry.specs.Entry.{entering_acts, entry_for}
use Rattle.bc_first_entry.proofs.Law.{law_enters}
use Rattle.bc_state.specs.State.{view_in, with_sector}
use Rattle.bc_state.proofs.State.{law_state}
use Rattle.bc_enter.specs.Entry.{IsBehind, IsInFront, IsOpeningEntry}
use Rattle.bc_entered.specs.Entry.{IsEntryAt}
use Rattle.bc_entered.specs.Laws.{IsEntered, IsMarked, IsSameImage, LawEntered, LawLeft, ShowsTheSame}
use Rattle.bc_entered.proofs.Entry.{can_behind, can_front, entering, entry_is, root_in, same_bucket, same_front, same_place, was_read}
use Rattle.bc_entered.proofs.Since.{AreNeeded, since, since_from, since_replays}

-- ---- one write behind a barrier

abbrev Cell : Option Value → Value → Value → Type 0
Cell o old new = (new ≡ old) ⊎ (o ≡ Some new)

to_cell : (o : Option Value) (old new : Value) → Cell o old new → Among new (besides o (old ∷ []))
to_cell None old new (inl is) = inl is
to_cell None old new (inr is) = absurd (cc)
to_cell (Some v) old new (inl is) = inr (inl is)
to_cell (Some v) old new (inr is) = let same : v ≡ new = cc in inl (sym same)

from_cell : (o : Option Value) (old new : Value) → Among new (besides o (old ∷ [])) → Cell o old new
from_cell None old new (inl is) = inl is
from_cell None old new (inr n) = absurd n
from_cell (Some v) old new (inl is) = inr (ap Some (sym is))
from_cell (Some v) old new (inr (inl is)) = inl is
from_cell (Some v) old new (inr (inr n)) = absurd n

to_leave : (at : ℕ) (values : List Value) (old left : Image) → Torn at values old left
    → MayLeave (written at values (settled (quiet old))) left
to_leave at values old left torn s = to_cell (at_run at values s) (old s) (left s) (torn s)

from_leave : (at : ℕ) (values : List Value) (old left : Image)
    → MayLeave (written at values (settled (quiet old))) left → Torn at values old left
from_leave at values old left is s = from_cell (at_run at values s) (old s) (left s) (is s)

-- ---- of an opening whose leaves get back what is needed

module _ (p : Pair) (v : View) (layout : Layout) (c : Choices) (w : whole.Opening) (x : parts.State)
    (o : IsOpenedAs p v layout c w x) (may : MayBeChosen v.geometry v.reading c) (e : JEntry) (b at : ℕ)
    (values : List Value) (is : IsEntryAt v.geometry p.cache v.reading e b at values)
    (needed : (i : ℕ) → parts.AllFrom e.last_seq (c.pending i)) where
  abbrev g : Geometry
  g = v.geometry

  abbrev r : Reading
  r = v.reading

  opens : IsSoundOpeningOf p v w x
  opens = law_opened p v layout c w x (o, may)

  root : IsNodeKey g e.root
  root = let n = root_in g p.cache r.newest.item.level 0 r.newest.item.root r.nodes o.view.reading.nodes in
      subst (IsNodeKey g) (n.2 ∙ sym is.entry.root)
      (all_in (λ (n : Node). IsNodeKey g n.key) r.nodes n.0 o.parts.pointers.nodes n.1)

  good : (begun : Option ℕ)
      → IsGoodEntry g r.newest.item.uuid_bucket
      (entry_for w x (entering p v layout c w x o e b at values is needed begun))
  good begun = record {
    entry = e;
    seen = sym (entry_is p v layout c w x o e b at values is needed begun);
    names = is.entry.uuid_bucket;
    root = root;
    end = ap (λ (k : Key). k.end) is.entry.root ∙ o.parts.pointers.root;
  }

  no_true : false ≡ true → ⊥
  no_true t = cc

  -- what was written at a place of the machine
  wrote : (bucket place : ℕ) (entry : Entry) → bucket ≡ b → place ≡ at → entry ≡ seen_entry g e
      → (k q : ℕ) (f : JEntry) → (k ≡ b) × (q ≡ at) × (f ≡ e)
      → Wrote ((bucket, place, entry) ∷ []) k q (seen_entry g f)
  wrote bucket place entry same_b same_p same_e k q f one =
      inl (one.0 ∙ sym same_b, one.1 ∙ sym same_p, ap (seen_entry g) one.2 ∙ sym same_e)

  image_is : (image left : Image) → image ≡ p.cache → Torn at values image left
      → Torn at values p.cache left
  image_is image left same torn = subst (λ (i : Image). Torn at values i left) same torn

  abbrev Runs : Option ℕ → Type 0
  Runs begun = IsRun w (start w x 0)
      (by 0 (entering_acts (entering p v layout c w x o e b at values is needed begun)))

  abbrev last : Option ℕ → State
  last begun = run w (start w x 0)
      (by 0 (entering_acts (entering p v layout c w x o e b at values is needed begun)))

  abbrev Enters : Option ℕ → Type 0
  Enters begun = (left : Pair) → IsEntered p at values left → ShowsTheSame p v left

  -- whatever is left of such a run shows the same
  shows : (begun : Option ℕ) → Runs begun
      → AreWellMade (frame_of p v) w (start w x 0)
      (by 0 (entering_acts (entering p v layout c w x o e b at values is needed begun)))
      → NoTornRecord g w.store.image (last begun).whole.store.places
      → ((left : Pair) → IsEntered p at values left → MayLeave (last begun).whole.flow.cache left.cache)
      → ((image : Image) → ((s : ℕ) → image s ≡ p.backing (v.backing.data_offset + s))
      → MayLeave (last begun).whole.flow.backing image)
      → ((key : Key) → In key (new_keys
      (by 0 (entering_acts (entering p v layout c w x o e b at values is needed begun)))) → ⊥)
      → (last begun).whole.flow.history ≡ [] → Enters begun
  shows begun course well no_torn cache backing no_key quiet left h =
      let es = by 0 (entering_acts (entering p v layout c w x o e b at values is needed begun)) in
      let again = law_sound p v w x 0 es (record {
        opening = opens;
        course = course;
        made = well;
        no_torn = no_torn;
      }) left (record {
        cache = cache left h;
        backing = backing (λ s. left.backing (v.backing.data_offset + s))
            (λ s. h.backing (v.backing.data_offset + s));
        front = λ s lt. h.backing s;
        cache_sectors = h.cache_sectors;
        backing_sectors = h.backing_sectors;
      }) in
      let later = view_with v again.0.0 in
      let allowed = law_shown p v layout c w x o 0 es (record {
        course = course;
        keys = λ key i. absurd (no_key key i);
        no_torn = no_torn;
      }) left later refl (record {
        view = again.0.1;
        cache = cache left h;
        backing = backing (λ s. left.backing (v.backing.data_offset + s))
            (λ s. h.backing (v.backing.data_offset + s));
      }) in
      record {
        later = later;
        geometry = refl;
        view = again.0.1;
        sound = again.0.2;
        shows = λ s. subst (λ (es : List Happened). Allowed (shown_by p v) es s (shown_by left later s))
            quiet (allowed s);
      }

  -- the premise, of the places of such a run
  no_torn_of : (places : Places) (here bucket : ℕ) (entry : Entry)
      → places.device ≡ written here values (settled (quiet w.store.image))
      → places.own ≡ (λ q. false) → places.entry_log ≡ (bucket, here, entry) ∷ []
      → here ≡ at → bucket ≡ b → entry ≡ seen_entry g e → NoTornRecord g w.store.image places
  no_torn_of places here bucket entry device own log same_p same_b same_e = record {
    entries = λ image k q left lt block f whole.
        let torn = from_leave here values w.store.image image
        (subst (λ d. MayLeave d image) device left) in
        let same = o.opening.store.image in
        elim (is.no_torn image k q f
        (subst (λ i. Torn at values i image) same
        (subst (λ n. Torn n values w.store.image image) same_p torn)) lt block whole) [
          | inl there ↦ inl (subst (λ (i : Image). IsWhole (entry_kind g) i (bucket_end g k) q f)
              (sym same) there)
          | inr one ↦ inr (subst (λ (l : List (ℕ × ℕ × Entry)). Wrote l k q (seen_entry g f)) (sym log)
              (wrote bucket here entry same_b same_p same_e k q f one))
        ];
    sets = λ image q left mine. absurd (no_true (ap (λ (f : ℕ → Bool). f q) (sym own) ∙ mine));
  }

  cache_left : (here : ℕ) (left : Image) → here ≡ at → Torn at values p.cache left
      → MayLeave (written here values (settled (quiet w.flow.cache))) left
  cache_left here left same torn =
      subst (λ (i : Image). MayLeave (written here values (settled (quiet i))) left)
      (sym o.opening.devices.cache)
      (subst (λ n. MayLeave (written n values (settled (quiet p.cache))) left) (sym same)
      (to_leave at values p.cache left torn))

  backing_left : (image : Image) → ((s : ℕ) → image s ≡ p.backing (v.backing.data_offset + s))
      → MayLeave (quiet w.flow.backing) image
  backing_left image same s = inl (same s ∙ sym (o.opening.devices.backing s))

  enters_behind : IsBehind v.geometry v.reading.entries v.reading.newest b at → Enters None
  enters_behind h =
      let place = same_place p v layout c w x o e b at values is needed h in
      shows None (law_enters w x 0 (entering p v layout c w x o e b at values is needed None) o.sound
      (can_behind p v layout c w x o e b at values is needed h))
      (good None, (tt, (tt, tt)))
      (no_torn_of (last None).whole.store.places (w.store.ring_next w.store.bucket) w.store.bucket
      (entry_for w x (entering p v layout c w x o e b at values is needed None)) refl refl refl place
      (same_bucket p v layout c w x o e b at values is needed h)
      (entry_is p v layout c w x o e b at values is needed None))
      (λ left h. cache_left (w.store.ring_next w.store.bucket) left.cache place h.cache)
      backing_left (λ key i. i) refl

  put_here : (f : ℕ → ℕ) (k y : ℕ) → (if k == k then y else f k) ≡ y
  put_here f k y = by_test k k (λ t. (if t then y else f k) ≡ y) (λ e. refl)
      (λ ne. absurd (ne refl))

  enters_front : IsInFront v.geometry is.all v.reading.newest b at → Enters (Some b)
  enters_front h =
      let here = if b == b then w.layout.first b else w.store.ring_next b in
      let place = put_here w.store.ring_next b (w.layout.first b)
      ∙ same_front p v layout c w x o e b at values is needed h in
      shows (Some b) (law_enters w x 0 (entering p v layout c w x o e b at values is needed (Some b))
      o.sound (can_front p v layout c w x o e b at values is needed h))
      (tt, (good (Some b), (tt, (tt, tt))))
      (no_torn_of (last (Some b)).whole.store.places here b
      (entry_for w x (entering p v layout c w x o e b at values is needed (Some b))) refl refl refl place
      refl (entry_is p v layout c w x o e b at values is needed (Some b)))
      (λ left h. cache_left here left.cache place h.cache)
      backing_left (λ key i. i) refl

-- ---- of each sound pair

needed_of : (g : Geometry) (r : Reading) (e : JEntry) (older : List Entry)
    → IsOpeningEntry r.entries r.newest e
    → seen_entries g r.entries ≡ seen_entry g r.newest.item ∷ older
    → AreNeeded e.last_seq (seen_entry g r.newest.item ∷ older)
needed_of g r e older is entries z i some =
    let f = was_read g r.entries z (subst (λ (l : List Entry). In z l) (sym entries) i) in
    let from = all_in (λ (f : FoundEntry). f.item.keys ≢ [] → e.last_seq ≤ f.item.seq) r.entries f.0
    is.needed f.1
    (λ none. some (ap (λ (y : Entry). y.keys) f.2 ∙ ap (λ (ks : List Key). reverse ks) none)) in
    let number = ap (λ (y : Entry). y.number) f.2 in
    omega (arith, from, number)

pub law_entered : LawEntered
law_entered p v e b at values view sound is =
    let g = v.geometry in
    let chosen = law_choices p v view sound in
    let c : Choices = record chosen.0 { pending = λ i. since e.last_seq (chosen.0.pending i) } in
    let may : MayBeChosen g v.reading c = record {
      leaves = chosen.1.leaves;
      inner_nodes = chosen.1.inner_nodes;
      slots = chosen.1.slots;
      pending = λ i n older leaf entries. since_replays n.from n.key.end e.last_seq
          (seen_entry g v.reading.newest.item) older (chosen.0.pending i)
          (needed_of g v.reading e older is.entry entries)
          (chosen.1.pending i n older leaf entries);
      listed = chosen.1.listed;
      kept = chosen.1.kept;
      distinct = chosen.1.distinct;
      enough = chosen.1.enough;
      marks = chosen.1.marks;
      oldest = chosen.1.oldest;
    } in
    let opened = law_opening p v (made g) c view sound (is_layout g) may in
    let o : IsOpenedAs p v (made g) c opened.0 opened.1 = record {
      view = view;
      parts = sound;
      is_layout = is_layout g;
      opening = opened.2;
      sound = opened.3;
    } in
    let needed : (i : ℕ) → parts.AllFrom e.last_seq (c.pending i) =
    λ i. since_from e.last_seq (chosen.0.pending i) in
    elim is.place.place [
      | inl h ↦ enters_behind p v (made g) c opened.0 opened.1 o may e b at values is needed h
      | inr h ↦ enters_front p v (made g) c opened.0 opened.1 o may e b at values is needed h
    ]

pub law_left : LawLeft
law_left p v e b at values view sound is left h =
    elim h.backing [ inl same ↦ as_it_was same | inr m ↦ marked m ]
  where
    as_it_was : IsSameImage p.backing left.backing → ShowsTheSame p v left
    as_it_was same = law_entered p v e b at values view sound is left (record {
      cache = h.cache;
      backing = same;
      cache_sectors = h.cache_sectors;
      backing_sectors = h.backing_sectors;
    })

    marked : IsMarked p v left.backing → ShowsTheSame p v left
    marked m =
        let same = law_state p v m.state m.bytes m.cached view sound m.sector in
        let after = law_entered (with_sector p m.bytes) (view_in m.state v) e b at values same.view same.sound
        is left (record {
          cache = h.cache;
          backing = m.image;
          cache_sectors = h.cache_sectors;
          backing_sectors = h.backing_sectors;
        }) in
        record {
          later = after.later;
          geometry = after.geometry;
          view = after.view;
          sound = after.sound;
          shows = λ s. after.shows s ∙ same.shows s;
        }
