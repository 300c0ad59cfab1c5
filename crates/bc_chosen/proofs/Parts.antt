-- All parts together.
use Rattle.std.proofs.Common.{subst, ◌≡◌, ℕ, suc, ◌<◌, List, ◌∷◌, Some, sym, ◌∙◌}
use Rattle.std.specs.Prelude.{slice_index_or}
use Rattle.bc_disk.specs.declared.geometry.Geometry.{Geometry}
use Rattle.bc_facts.specs.Seen.{seen_entries, seen_entry}
use Rattle.bc_facts.proofs.Made.{law_layout}
use Rattle.bc_image.specs.Pair.{Pair}
use Rattle.bc_image.specs.Reading.{IsView, Reading, View}
use Rattle.bc_image.specs.Sound.{HasSoundParts}
use Rattle.bc_image.specs.Tree.{Node}
use Rattle.bc_key.specs.Ptr.{no_ptr}
use Rattle.bc_leaves_runs.specs.Reopen.{Replays}
use Rattle.bc_meta.specs.Entries.{CountDown, Entry}
use Rattle.bc_meta.specs.Layout.{Layout, ring_entries}
use Rattle.bc_opening.specs.Choices.{MayBeChosen}
use Rattle.bc_opening.specs.Cut.{AreCutFrom}
use Rattle.bc_opening.proofs.Cut.{law_cut}
use Rattle.bc_opening.proofs.Whole.{law_opening}
use Rattle.bc_regrow.specs.Parts.{leaf_nodes}
use Rattle.bc_remains.specs.Laws.{IsOpened}
use Rattle.bc_remains.proofs.Open.{law_opened}
use Rattle.bc_spine.specs.declared.leaf.LeafRange.{LeafRange}
use Rattle.bc_super.specs.Super.{data_sectors}
use Rattle.bc_chosen.specs.Lists.{AreListed}
use Rattle.bc_chosen.specs.Parts.{ArePartsOf, LawChosen, LawStands, Parts, choices_of}
use Rattle.bc_chosen.specs.Slots.{HaveSlots, node_at}
use Rattle.bc_chosen.specs.Waiting.{waiting_at}
use Rattle.bc_chosen.proofs.Lists.{law_lists}
use Rattle.bc_chosen.proofs.Marks.{law_marks}
use Rattle.bc_chosen.proofs.Oldest.{law_oldest}
use Rattle.bc_chosen.proofs.Slots.{law_slots, range_at}
use Rattle.bc_chosen.proofs.Waiting.{law_waiting}

no_leaf : LeafRange
no_leaf = record { number = 0; from = 0; end = 0; ptr = no_ptr }

module _ (p : Pair) (v : View) (x : Parts) (view : IsView p v) (sound : HasSoundParts p v) (are : ArePartsOf v.geometry v.reading x) where
  abbrev g : Geometry
  g = v.geometry

  abbrev r : Reading
  r = v.reading

  abbrev size : ℕ
  size = data_sectors p.backing_sectors v.backing

  abbrev w : Layout
  w = (law_layout v.geometry).0

  start : IsOpened v.geometry (law_layout v.geometry).0 p.cache v.reading
  start = law_opened p v (law_layout v.geometry).0 view sound (law_layout v.geometry).1

  -- ---- the entries

  down : CountDown (ring_entries w start.opening.image w.journal) start.opening.newest.last_seq (start.opening.newest ∷ start.opening.older) (suc start.opening.newest.number)
  down = start.sound.whole.sound.entries.down

  tail_same : (a b : Entry) (xs ys : List Entry) → a ∷ xs ≡ b ∷ ys → xs ≡ ys
  tail_same a b xs ys e = cc

  -- ---- a leaf's keys

  pending : (i : ℕ) (n : Node) (older : List Entry) → node_at (leaf_nodes r.nodes) i ≡ Some n → seen_entries g r.entries ≡ seen_entry g r.newest.item ∷ older
      → Replays n.from n.key.end (seen_entry g r.newest.item) older (waiting_at x.pending i)
  pending i n older e entries =
      let at = range_at (leaf_nodes r.nodes) x.tree.leaves i n no_leaf are.tree.leaves e in
      let cut = law_waiting g p.cache r.entries x.tree.leaves x.pending view.reading.entries are.pending i no_leaf at.0 in
      let placed : AreCutFrom n.from n.key.end (seen_entries g r.entries) (waiting_at x.pending i) =
      subst (λ a. AreCutFrom a n.key.end (seen_entries g r.entries) (waiting_at x.pending i)) at.1
      (subst (λ b. AreCutFrom (slice_index_or x.tree.leaves i no_leaf).from b (seen_entries g r.entries) (waiting_at x.pending i)) at.2 cut) in
      let own : AreCutFrom n.from n.key.end (start.opening.newest ∷ start.opening.older) (waiting_at x.pending i) =
      subst (λ (l : List Entry). AreCutFrom n.from n.key.end l (waiting_at x.pending i)) start.opens.means.entries placed in
      let rest : start.opening.older ≡ older = tail_same start.opening.newest (seen_entry g r.newest.item) start.opening.older older (sym start.opens.means.entries ∙ entries) in
      subst (λ (a : Entry). Replays n.from n.key.end a older (waiting_at x.pending i)) (sym start.opens.means.newest_is)
      (subst (λ (l : List Entry). Replays n.from n.key.end start.opening.newest l (waiting_at x.pending i)) rest
      (law_cut (ring_entries w start.opening.image w.journal) n.from n.key.end start.opening.newest start.opening.older (waiting_at x.pending i) down own))

  -- ---- all of it

  slots : HaveSlots r.nodes (choices_of g r x).leaf (choices_of g r x).inner (choices_of g r x).slot
  slots = law_slots g p.cache size r x.tree view.reading sound.ranges sound.pointers sound.uses are.tree

  listed : AreListed g r (choices_of g r x).listed (choices_of g r x).kept
  listed = law_lists g r x.reserves are.reserves sound.spare

  pub chosen : MayBeChosen g r (choices_of g r x)
  chosen = record {
    leaves = slots.leaves;
    inner_nodes = slots.inner_nodes;
    slots = slots.slots;
    pending = pending;
    listed = listed.listed;
    kept = listed.kept;
    distinct = listed.distinct;
    enough = listed.enough;
    marks = law_marks g size r x.buckets are.buckets sound.uses sound.pointers;
    oldest = law_oldest g size r x.buckets are.buckets view.reading.gens.records sound.pointers sound.window;
  }

pub law_chosen : LawChosen
law_chosen p v x view sound are = chosen p v x view sound are

pub law_stands : LawStands
law_stands p v layout x view sound is_layout are =
    law_opening p v layout (choices_of v.geometry v.reading x) view sound is_layout (law_chosen p v x view sound are)
