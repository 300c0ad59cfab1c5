-- What the leaves wait for as a run begins: keys of entries that the newest one still needs.
use Rattle.std.proofs.Common.{◌≡◌, ℕ, zero, suc, ◌<◌, ◌≤◌, Bool, true, false, List, [], ◌∷◌, ◌++◌, length, Option, Some, None, refl, sym, ap, ◌∙◌, subst, arith}
use Rattle.std.specs.Prelude.{map, slice_index_or}
use Rattle.std.proofs.lemmas.List.{get_or_past}
use Rattle.bc_chosen.specs.Parts.{Parts}
use Rattle.bc_chosen.specs.Slots.{node_at}
use Rattle.bc_chosen.specs.Waiting.{all_waiting, waiting, waiting_at}
use Rattle.bc_disk.specs.declared.geometry.Geometry.{Geometry}
use Rattle.bc_entries.specs.Journal.{Journal as Read}
use Rattle.bc_events.specs.Run as core
use Rattle.bc_events.specs.Run.{start}
use Rattle.bc_facts.proofs.Place.{by_lt}
use Rattle.bc_facts.specs.Seen.{seen_entries, seen_entry}
use Rattle.bc_image.specs.Pair.{Pair}
use Rattle.bc_image.specs.Reading.{Reading, View}
use Rattle.bc_image.specs.Tree.{Node}
use Rattle.bc_journal.specs.Journal.{Journal}
use Rattle.bc_jset.specs.Entries.{AreEntries}
use Rattle.bc_jset.proofs.Entries.{newest_is_last}
use Rattle.bc_leaves.specs.Parts.{AllFrom, Pending}
use Rattle.bc_leaves.specs.Parts as parts
use Rattle.bc_meta.specs.Entries.{Entry}
use Rattle.bc_meta.specs.Layout.{Layout}
use Rattle.bc_meta.specs.Records.{Records}
use Rattle.bc_needs.specs.Needs.{NeedsFrom}
use Rattle.bc_opening.specs.Read.{leaf_of}
use Rattle.bc_pending.specs.Entries.{keys_in}
use Rattle.bc_pending.specs.declared.numbered.Numbered.{Numbered}
use Rattle.bc_slots.specs.bc_regrow.Parts.{leaf_nodes}
use Rattle.bc_resume.specs.Resume.{IsResumed}
use Rattle.bc_spine.specs.declared.leaf.LeafRange.{LeafRange}
use Rattle.bc_begun.specs.Opened.{IsOpenedWith}
use Rattle.bc_begun.proofs.Journal.{first_seen}
use Rattle.bc_begun.proofs.Order.{From, in_map, in_reverse, keys_rise, pieces_rise}

-- keys of entries from a number on
all_from : (low : ℕ) (xs : List Numbered) → From low xs → AllFrom low (all_waiting xs)
all_from low xs from z i =
    let y = in_map xs z (in_reverse (map waiting xs) z i) in
    let up = from y.0 y.1 in
    let is = y.2 in
    omega (arith, up, is)

a_range : (leaves : List LeafRange) (k : ℕ) → k < length leaves → LeafRange
a_range [] k inside = absurd (omega (arith, inside))
a_range (leaf ∷ leaves) k inside = leaf

module _ (p : Pair) (v : View) (layout : Layout) (x : Parts) (w : core.Opening)
    (st : parts.State) (h : IsOpenedWith p v layout x w.machine st) where
  abbrev r : Reading
  r = v.reading

  abbrev entries : AreEntries v.geometry p.cache r.entries
  entries = h.view.reading.entries

  abbrev low : ℕ
  low = entries.newest.item.last_seq

  at_place : (k : ℕ) → AllFrom low (waiting_at x.pending k)
  at_place k = by_lt k (length x.pending) (λ b. AllFrom low (waiting_at x.pending k))
      (λ inside. (let each = h.read.pending.each in
      let under : k < length x.tree.leaves = omega (arith, each, inside) in
      let leaf = a_range x.tree.leaves k under in
      let rise = keys_rise entries.all low r.entries (suc entries.newest.item.seq)
      entries.numbered in
      all_from low (slice_index_or x.pending k [])
      ((pieces_rise (slice_index_or x.tree.leaves k leaf) (keys_in r.entries)
      (slice_index_or x.pending k []) (h.read.pending.pieces k leaf under) rise.0).1 low rise.1)))
      (λ out. subst (λ xs. AllFrom low (all_waiting xs)) (sym (get_or_past x.pending k [] out))
      (λ z i. absurd i))

  of_node : (o : Option Node) (xs : List Pending) → AllFrom low xs
      → AllFrom low (leaf_of v.geometry o xs).pending
  of_node None xs from = λ z i. absurd i
  of_node (Some n) xs from = from

  at_leaf : (k : ℕ) → AllFrom low (st.leaves k).pending
  at_leaf k = subst (λ (l : parts.Leaf). AllFrom low l.pending) (sym (h.opening.parts.leaves k))
      (of_node (node_at (leaf_nodes r.nodes) k) (waiting_at x.pending k) (at_place k))

  newest_of : (older : _) (e : _) → r.entries ≡ older ++ e ∷ []
      → seen_entry v.geometry e.item ≡ w.machine.store.newest
  newest_of older e is = first_seen v.geometry older e w.machine.store.newest
      w.machine.store.older (ap (seen_entries v.geometry) (sym is)
      ∙ h.opening.store.opens.means.entries)

  pub law_needs : (next_seq : ℕ) (read : Read) (j : Journal) → read.entries ≡ r.entries
      → IsResumed v.geometry read j → NeedsFrom j.needed (start w st next_seq)
  law_needs next_seq read j same resumed =
      let last = newest_is_last v.geometry p.cache r.entries entries in
      let own = newest_of last.0 entries.newest last.1 in
      let named = newest_of resumed.older resumed.newest (sym same ∙ resumed.parts) in
      let needed : j.needed ≡ low = ap (λ (k : Journal). k.needed) resumed.is
      ∙ ap (λ (e : Entry). e.last_seq) (named ∙ sym own) in
      let number : st.records.newest.number ≡ entries.newest.item.seq =
      ap (λ (y : Records). y.newest.number) h.opening.records
      ∙ sym (ap (λ (e : Entry). e.number) own) in
      let reaches = entries.reaches in
      record {
        needs = λ k some. subst (λ n. AllFrom n (st.leaves k).pending) (sym needed) (at_leaf k);
        next = omega (arith, needed, number, reaches);
      }
