-- The nodes of a machine that is opened.
use Rattle.std.proofs.Common.{◌≡◌, sym, ◌∙◌}
use Rattle.bc_chosen.specs.Parts.{Parts, choices_of}
use Rattle.bc_chosen.proofs.Parts.{law_stands}
use Rattle.bc_disk.specs.declared.geometry.Geometry.{Geometry}
use Rattle.bc_facts.specs.Seen.{bucket_of}
use Rattle.bc_image.specs.Pair.{Pair}
use Rattle.bc_image.specs.Reading.{Reading, View}
use Rattle.bc_image.specs.Tree.{Node}
use Rattle.bc_leaves.specs.Parts as parts
use Rattle.bc_meta.specs.Facts.{In}
use Rattle.bc_meta.specs.Layout.{Layout}
use Rattle.bc_opening.specs.Nodes.{opened_node}
use Rattle.bc_opening.specs.Opening.{IsOpenedAs}
use Rattle.bc_opening.proofs.One.{law_one}
use Rattle.bc_opening.proofs.Opened as openings
use Rattle.bc_whole.specs.State.{Opening}
use Rattle.bc_begun.specs.Opened.{IsOpenedWith}

module _ (p : Pair) (v : View) (layout : Layout) (x : Parts) (w : Opening) (st : parts.State)
    (h : IsOpenedWith p v layout x w st) where
  abbrev g : Geometry
  g = v.geometry

  abbrev r : Reading
  r = v.reading

  -- An opening by the same choices that is known to be sound.
  pub record Known : Type 0 where
    pub opening : Opening
    pub state : parts.State
    pub opened : IsOpenedAs p v layout (choices_of v.geometry v.reading x) opening state

  pub known : Known
  known =
      let k = law_stands p v layout x h.view h.sound h.divided h.read in record {
        opening = k.0;
        state = k.1;
        opened = record {
          view = h.view;
          parts = h.sound;
          is_layout = h.divided;
          opening = k.2;
          sound = k.3;
        };
      }

  -- each has the sets that were read
  pub node_is : (n : Node) → In n r.nodes → st.records.nodes (bucket_of g n.key) ≡ opened_node g n
  node_is n i =
      let k = known in
      let same = law_one p v layout (choices_of g r x) k.opening w k.state st k.opened.opening
      h.opening in
      sym (same.parts.nodes n i)
      ∙ openings.law_nodes p v layout (choices_of g r x) k.opening k.state k.opened n i
