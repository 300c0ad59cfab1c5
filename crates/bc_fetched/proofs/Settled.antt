-- What reads give of the nodes of a device's metadata: what a crash behind a barrier would leave.
use Rattle.std.proofs.Common.{◌≡◌, ◌⊎◌, inl, inr, ℕ, ◌+◌, Bool, true, false, Some, refl, if◌then◌else◌}
use Rattle.bc_disk.specs.Device.{Among, MayLeave, settled}
use Rattle.bc_meta.specs.Acts.{IsEnabled, Plain, State, after}
use Rattle.bc_meta.specs.Events.{Barrier}
use Rattle.bc_meta.specs.Laws.{IsSound, Opening}
use Rattle.bc_meta.specs.Layout.{Layout, node_end, node_sets, set_len}
use Rattle.bc_meta.specs.Places.{AreSure, NoChance, Places, Wrote, places_after}
use Rattle.bc_meta.specs.Records.{MayRead, owners, stable_node}
use Rattle.bc_meta.specs.Tree.{NodeSet}
use Rattle.bc_meta.proofs.Acts.{Inv, keep_act, survives}
use Rattle.bc_model.specs.Sector.{Image, Value}

module _ (w : Layout) (o : Opening) (st : State) (inv : Inv w o st) (sound : IsSound w o)
    (chance : NoChance w o.image st.places)
    (honest : (t : ℕ) (x : Value) → Among x (st.places.device.reads t)
    → Among x (st.places.device.leaves t)) where
  abbrev p : Places
  p = st.places

  enabled : IsEnabled w st (Plain Barrier)
  enabled = ((tt, tt), (refl, inv.unused))

  abbrev Torn : Bool → ℕ → NodeSet → Image → Type 0
  Torn b q e image = let n = p.records.nodes q in
      let at = if b then p.node_next q + set_len w n.last else p.node_next q in
      (if b then false else n.loose) ≡ false
      → (false ≡ true) ⊎ ((if b then false else n.failed) ≡ true)
      → w.sets.found image n.owner (node_end w n.owner) at ≡ Some e
      → AreSure (settled p.device) at (at + set_len w e) ⊎ Wrote p.log q at e

  torn : (b : Bool) (q : ℕ) (e : NodeSet) (image : Image) → MayLeave (settled p.device) image
      → p.own q ≡ true → e.seq ≡ p.seq q → Torn b q e image
  torn true q e image left own seq loose (inl wrong) found = absurd (cc)
  torn true q e image left own seq loose (inr wrong) found = absurd (cc)
  torn false q e image left own seq loose (inl wrong) found = absurd (cc)
  torn false q e image left own seq loose (inr failed) found =
      elim (chance.sets image q e (λ s. honest s (image s) (left s)) own loose (inr failed) seq found) [
        | inl sure ↦ inl (λ s low high x y i j. sure s low high x y (honest s x i) (honest s y j))
        | inr wrote ↦ inr wrote
      ]

  settled_chance : NoChance w o.image (places_after w p Barrier)
  settled_chance = record {
    entries = λ image b at e left. chance.entries image b at e (λ s. honest s (image s) (left s));
    sets = λ image q e left own known stand seq found.
        torn (p.records.nodes q).sent q e image left own seq known stand found;
  }

  pub reads : (image : Image) → ((s : ℕ) → Among (image s) (p.device.reads s))
      → MayRead (λ q. stable_node (p.records.nodes q)) (node_sets w (owners p.records.nodes) image)
  reads image given = (survives w o (after w st (Plain Barrier))
      (keep_act w o st (Plain Barrier) enabled inv) sound settled_chance image given).nodes
