-- The entry over what was read of a sound pair is one that a machine is ready for.
use Rattle.std.proofs.Common.{◌≡◌, ◌≢◌, ℕ, ◌^◌, ◌<◌, ◌≤◌, List, [], ◌∷◌, ◌++◌, length, Option, Some}
use Rattle.std.proofs.Common.{None, refl, sym, ap, ◌∙◌, subst, arith}
use Rattle.std.specs.Prelude.{reverse, Vec}
use denote.RawPtr.{null_ptr}
use Rattle.std.specs.declared.alloc.Global.{Global}
use Rattle.std.proofs.lemmas.List.{length-append}
use Rattle.bc_model.specs.Sector.{Value}
use Rattle.bc_disk.specs.declared.geometry.Geometry.{Geometry}
use Rattle.bc_key.specs.declared.key.Key.{Key}
use Rattle.bc_key.specs.Words.{words_of}
use Rattle.bc_keys.proofs.KeyLists.{length-words_of}
use Rattle.bc_jset.specs.declared.entry.JEntry.{JEntry}
use Rattle.bc_jset.specs.Entries.{FoundEntry}
use Rattle.bc_meta.specs.Entries.{Entry}
use Rattle.bc_meta.specs.Facts.{In}
use Rattle.bc_leaves.specs.Parts.{AllFrom}
use Rattle.bc_leaves.specs.Parts as parts
use Rattle.bc_image.specs.Pair.{Pair}
use Rattle.bc_image.specs.Reading.{IsView, Reading, View}
use Rattle.bc_image.specs.Sound.{HasSoundParts}
use Rattle.bc_facts.specs.Seen.{entry_rest, seen_entries, seen_entry}
use Rattle.bc_facts.proofs.Made.{is_layout, made}
use Rattle.bc_facts.proofs.Stood.{all_in}
use Rattle.bc_whole.specs.State as whole
use Rattle.bc_opening.specs.Choices.{Choices, MayBeChosen}
use Rattle.bc_opening.specs.Opening.{IsOpenedAs}
use Rattle.bc_opening.proofs.Chosen.{law_choices}
use Rattle.bc_opening.proofs.Whole.{law_opening}
use Rattle.bc_reopened.proofs.Law.{law_opened}
use Rattle.bc_first_entry.specs.Entry.{CanFirst, FirstEntry}
use Rattle.bc_enter.specs.Entry.{IsOpeningEntry}
use Rattle.bc_entered.specs.Entry.{IsEntryAt}
use Rattle.bc_entered.proofs.Entry.{can_behind, can_front, entering, was_read}
use Rattle.bc_entered.proofs.Since.{AreNeeded, since, since_from, since_replays}
use Rattle.bc_entered_example.specs.Laws.{IsReadyFor, LawReady}

-- what an entry says besides number, root and keys, as it is handed over
abbrev heap : Global
heap = record { memory = record { seal = tt } }

abbrev handed : (xs : List ℕ) → length xs < 2 ^ 63 → Vec ℕ Global
handed xs few = record {
  ptr = null_ptr;
  len = length xs;
  cap = length xs;
  alloc = heap;
  items = xs;
  ok = (refl, omega arith);
  small = few;
}

rest_few : (e : JEntry) → length (entry_rest e) < 2 ^ 63
rest_few e =
    let table = length-words_of e.uuid_bucket in
    let root = length-words_of e.root in
    let tables = e.uuid_bucket.count_fits in
    let roots = e.root.count_fits in
    let inner = length-append (words_of e.root) [] in
    let both = length-append (words_of e.uuid_bucket) (words_of e.root ++ []) in
    omega (arith, table, root, tables, roots, inner, both)

-- what entries have keys is needed by an opening's entry
needed_of : (g : Geometry) (r : Reading) (e : JEntry) (older : List Entry)
    → IsOpeningEntry r.entries r.newest e
    → seen_entries g r.entries ≡ seen_entry g r.newest.item ∷ older
    → AreNeeded e.last_seq (seen_entry g r.newest.item ∷ older)
needed_of g r e older is entries z i some =
    let f = was_read g r.entries z (subst (λ (l : List Entry). In z l) (sym entries) i) in
    let from = all_in (λ (f : FoundEntry). f.item.keys ≢ [] → e.last_seq ≤ f.item.seq) r.entries f.0
    is.needed f.1
    (λ none. some (ap (λ (y : Entry). y.keys) f.2 ∙ ap (λ (ks : List Key). reverse ks) none)) in
    let number = ap (λ (y : Entry). y.number) f.2 in
    omega (arith, from, number)

-- Leaves get back the keys alone of entries that are still needed.
module _ (p : Pair) (v : View) (e : JEntry) (b at : ℕ) (values : List Value) (worker : ℕ → ℕ)
    (view : IsView p v) (parts_are : HasSoundParts p v)
    (is : IsEntryAt v.geometry p.cache v.reading e b at values) where
  abbrev g : Geometry
  g = v.geometry

  abbrev any : (c : Choices) × MayBeChosen v.geometry v.reading c
  any = law_choices p v view parts_are

  abbrev chosen : Choices
  chosen = record any.0 { pending = λ i. since e.last_seq (any.0.pending i) }

  may_be : MayBeChosen g v.reading chosen
  may_be = record {
    leaves = any.1.leaves;
    inner_nodes = any.1.inner_nodes;
    slots = any.1.slots;
    pending = λ i n older leaf entries. since_replays n.from n.key.end e.last_seq
        (seen_entry g v.reading.newest.item) older (any.0.pending i)
        (needed_of g v.reading e older is.entry entries)
        (any.1.pending i n older leaf entries);
    listed = any.1.listed;
    kept = any.1.kept;
    distinct = any.1.distinct;
    enough = any.1.enough;
    marks = any.1.marks;
    oldest = any.1.oldest;
  }

  needed : (i : ℕ) → AllFrom e.last_seq (chosen.pending i)
  needed i = since_from e.last_seq (any.0.pending i)

  module _ (w : whole.Opening) (x : parts.State) (o : IsOpenedAs p v (made g) chosen w x) where
    abbrev first : Option ℕ → FirstEntry
    first begun = record {
      last_seq = e.last_seq;
      begun = begun;
      rest = handed (entry_rest e) (rest_few e);
      values = values;
    }

    -- the entry of the machine is the one of the seat
    ready_for : (begun : Option ℕ)
        → CanFirst w x (entering p v (made g) chosen w x o e b at values is needed begun)
        → (k : IsReadyFor p v values begun) × (k.opening.worker ≡ worker)
    ready_for begun can = (
      record {
        opening = record { machine = w; worker = worker };
        held = x;
        first = first begun;
        opened = law_opened p v (made g) chosen w x (o, may_be);
        begins = refl;
        spells = refl;
        ready = record { sound = o.sound; cached = o.opening.devices.plain; can = can };
      },
      refl,
    )

pub law_ready : LawReady
law_ready p v e b at values worker view sound is =
    let c = chosen p v e b at values worker view sound is in
    let opened = law_opening p v (made v.geometry) c view sound (is_layout v.geometry)
    (may_be p v e b at values worker view sound is) in
    let o : IsOpenedAs p v (made v.geometry) c opened.0 opened.1 = record {
      view = view;
      parts = sound;
      is_layout = is_layout v.geometry;
      opening = opened.2;
      sound = opened.3;
    } in
    let few = needed p v e b at values worker view sound is in (
      (λ h. ready_for p v e b at values worker view sound is opened.0 opened.1 o None
          (can_behind p v (made v.geometry) c opened.0 opened.1 o e b at values is few h)),
      (λ h. ready_for p v e b at values worker view sound is opened.0 opened.1 o (Some b)
          (can_front p v (made v.geometry) c opened.0 opened.1 o e b at values is few h)),
    )
