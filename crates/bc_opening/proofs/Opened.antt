-- The nodes of an opened pair.
use Rattle.std.proofs.Common.{subst, ◌≡◌, Bool, false, List, refl, sym, ap, ◌∙◌}
use Rattle.bc_model.specs.Sector.{Image}
use Rattle.bc_disk.specs.declared.geometry.Geometry.{Geometry}
use Rattle.bc_meta.specs.Entries.{Entry}
use Rattle.bc_meta.specs.Facts.{In}
use Rattle.bc_meta.specs.Layout.{Layout, node_sets}
use Rattle.bc_meta.specs.Records as records
use Rattle.bc_meta.specs.Records.{Records, no_set}
use Rattle.bc_meta.specs.Tree.{IsNamed, NodeSet, Owner, Walk, Whole}
use Rattle.bc_leaves.specs.Parts as parts
use Rattle.bc_image.specs.Pair.{Pair}
use Rattle.bc_image.specs.Reading.{Reading, View}
use Rattle.bc_image.specs.Sound.{IsNodeKey}
use Rattle.bc_image.specs.Tree.{IsWalk, Node}
use Rattle.bc_image.specs.Uses.{IsUsedFor}
use Rattle.bc_image.specs.Uses as uses
use Rattle.bc_facts.specs.Layout.{IsLayoutOf}
use Rattle.bc_facts.specs.Reads.{back}
use Rattle.bc_facts.specs.Seen.{bucket_of, seen_entry, seen_sets}
use Rattle.bc_facts.proofs.Stood.{all_in, in_contains}
use Rattle.bc_whole.specs.State.{Opening}
use Rattle.bc_opening.specs.Choices.{Choices}
use Rattle.bc_opening.specs.Nodes.{LawNodes}
use Rattle.bc_opening.specs.Opening.{IsOpenedAs, owner_of}
use Rattle.bc_opening.specs.Read.{is_leaf}
use Rattle.bc_opening.proofs.Nodes.{Sits}
use Rattle.bc_opening.proofs.Nodes as nodes
use Rattle.bc_opening.proofs.Uses.{not_true, points_into}

module _ (p : Pair) (v : View) (layout : Layout) (c : Choices) (w : Opening) (x : parts.State) (o : IsOpenedAs p v layout c w x) where
  abbrev g : Geometry
  g = v.geometry

  abbrev r : Reading
  r = v.reading

  pub lies : IsLayoutOf g w.layout
  lies = subst (λ (l : Layout). IsLayoutOf v.geometry l) (sym o.opening.layout_is) o.is_layout

  newest_is : w.store.newest ≡ seen_entry g r.newest.item
  newest_is = sym o.opening.store.opens.means.newest_is

  walk : IsWalk g w.store.image r.newest.item.level 0 r.newest.item.root r.nodes
  walk = subst (λ (i : Image). IsWalk v.geometry i v.reading.newest.item.level 0 v.reading.newest.item.root v.reading.nodes) (sym o.opening.store.image) o.view.reading.nodes

  pub sits : (n : Node) → In n r.nodes → Sits g w.layout lies w.store.owners w.store.image n
  sits =
      nodes.sits g w.layout lies w.store.owners w.store.image r.newest.item.level 0 r.newest.item.root r.nodes walk
      (subst (λ (e : Entry). IsNamed w.store.owners (node_sets w.layout w.store.owners w.store.image) e.level e.root e.word) newest_is o.sound.whole.store.named)
      (subst (λ (e : Entry). Walk Whole (node_sets w.layout w.store.owners w.store.image) e.level e.root) newest_is o.sound.whole.store.whole.sound.whole)

  in_use : (n : Node) → In n r.nodes → IsUsedFor g r uses.Node (back g (bucket_of g n.key))
  in_use n i =
      let key = all_in (λ (m : Node). IsNodeKey g m.key) r.nodes n o.parts.pointers.nodes i in
      let at = in_contains r.nodes n i in
      (at.0, n, at.1, at.2, (points_into g n.key key.some key.ptrs (bucket_of g n.key)).0 refl)

  abbrev with_parts : Bool → Owner → List NodeSet → records.Node
  with_parts loose owner sets = record { loose = loose; owner = owner; sets = sets; last = no_set; sent = false; failed = false }

  pub node_is : (n : Node) → In n r.nodes → x.records.nodes (bucket_of g n.key) ≡ with_parts false (owner_of n) (seen_sets g (is_leaf n.level) n.sets)
  node_is n i =
      let q = bucket_of v.geometry n.key in
      let loose : w.store.unused (bucket_of v.geometry n.key) ≡ false = not_true (w.store.unused (bucket_of v.geometry n.key)) (λ e. (o.opening.store.unused (bucket_of v.geometry n.key)).0 e (in_use n i)) in
      let sit = sits n i in
      ap (λ (k : Records). k.nodes (bucket_of v.geometry n.key)) o.opening.records
      ∙ ap (λ (l : Layout). with_parts (w.store.unused q) (w.store.owners q) (node_sets l w.store.owners w.store.image q)) (sym o.opening.layout_is)
      ∙ ap (λ (t : Bool). with_parts t (w.store.owners q) (node_sets w.layout w.store.owners w.store.image q)) loose
      ∙ ap (λ (k : Owner). with_parts false k (node_sets w.layout w.store.owners w.store.image q)) sit.owner_is
      ∙ ap (λ (l : List NodeSet). with_parts false (owner_of n) l) sit.seen

pub law_nodes : LawNodes
law_nodes = node_is
