-- That a change which is ready may be made.
use Rattle.std.specs.Prelude.{◌≡◌, ◌≢◌, ◌⊎◌, ℕ, Bool, false}
use Rattle.bc_events.specs.Changes.{buckets_come, without}
use Rattle.bc_events.specs.declared.event.Change.{Change}
use Rattle.bc_events.specs.declared.event.Event.{Event}
use Rattle.bc_known.specs.Acts.{State}
use Rattle.bc_leaves.specs.Enabled.{CanBegin}
use Rattle.bc_leaves.specs.Parts as parts
use Rattle.bc_nodes_known.specs.bc_looks.Looks.{InCourse}
use Rattle.bc_nodes_known.specs.bc_machine.World.{FromEach, World, after}
use Rattle.bc_shares.specs.Shares.{books_of}
use Rattle.bc_shares.specs.Touched.{touches_buckets, touches_spine}
use Rattle.bc_tree.specs.LastKeys.{LeafKeys}
use Rattle.bc_tree.specs.Spine.{Spine}
use Rattle.bc_tree.specs.declared.plan.Plan.{Plan}
use Rattle.bc_whole.specs.Together.{AreHeldFor}
use Rattle.bc_change.specs.Goes.{IsChangeBy}
use Rattle.bc_change.specs.Ready.{HoldsNew, IsReadyChange, IsReadyFor}
use Rattle.bc_change.specs.Under.{IsByRoot}

-- what no crash image's tree has a node in, once what comes may be of one
abbrev pub unused_for : parts.State → Change → ℕ → Bool
unused_for st c = without st.records.unused (buckets_come st c)

-- Such a change begins, with what makes it.
pub record MayBegin (st : State) (i : ℕ) (c : Change) : Type 0 where
  pub can : CanBegin st.whole.parts c.low c.high c.gone.items c.come.items c.old.items c.new.items
      (unused_for st.whole.parts c)
  pub held : AreHeldFor st.whole i (unused_for st.whole.parts c)

abbrev pub LawBegin : Type 0
LawBegin = InCourse (λ o st. (i : ℕ) (spine : Spine) (plan : Plan) (keys : LeafKeys) (c : Change)
    → IsReadyChange o.opening.machine st.machine.whole.parts spine plan keys
    → HoldsNew o.opening.machine (books_of st.machine) i plan
    → IsChangeBy o.opening.machine spine plan c → MayBegin st.machine i c)

-- Whatever another seat does while this one has the spine in hand, the new nodes are ready.
abbrev pub LawReady : Type 0
LawReady = (x : World) (e : Event) (i : ℕ) (plan : Plan) → e.seat ≢ i
    → touches_spine e.deed ≡ false → FromEach x (IsReadyFor i plan)
    → FromEach (after x e) (IsReadyFor i plan)

-- So is a change that is under way, whatever another seat does, and whatever this one does that
-- touches neither the tree nor buckets.
abbrev pub LawByRoot : Type 0
LawByRoot = (x : World) (e : Event) (i : ℕ) (plan : Plan) (c : Change) (number slot : ℕ)
    → touches_spine e.deed ≡ false → (e.seat ≢ i) ⊎ (touches_buckets e.deed ≡ false)
    → FromEach x (IsByRoot i plan c number slot)
    → FromEach (after x e) (IsByRoot i plan c number slot)
