-- Which leaves an event changes, and an insert of several keys.
use Rattle.std.specs.Prelude.{◌≡◌, ◌⊎◌, ℕ, List, [], ◌∷◌}
use Rattle.bc_key.specs.declared.key.Key.{Key}
use Rattle.bc_meta.specs.Facts.{In}
use Rattle.bc_leaves.specs.Parts.{State, Draft, Leaving, Coming, Free, IsWithin}
use Rattle.bc_leaves.specs.Events.{Event, Insert, WriteSet, NewLeaf, ForgetDrafts, BeginChange, Install}
use Rattle.bc_leaves.specs.After.{after}
use Rattle.bc_leaves.specs.Enabled.{IsRun}

abbrev pub TouchesLeaf : State → Event → ℕ → Type 0
TouchesLeaf st (Insert i key) k = k ≡ i
TouchesLeaf st (WriteSet i set values) k = k ≡ i
TouchesLeaf st (NewLeaf j leaf set values) k = k ≡ j
TouchesLeaf st ForgetDrafts k = (st.leaves k).role ≡ Draft
TouchesLeaf st (BeginChange low high gone come old new unused) k = In k gone ⊎ In k come
TouchesLeaf st (Install unused) k = ((st.leaves k).role ≡ Leaving) ⊎ ((st.leaves k).role ≡ Coming)
TouchesLeaf st e k = ⊥

-- An event leaves each other leaf alone; so no seal, barrier or entry needs a leaf.
abbrev pub LawFrame : Type 0
LawFrame = (st : State) (e : Event) (k : ℕ) → (TouchesLeaf st e k → ⊥) → (after st e).leaves k
    ≡ st.leaves k

abbrev pub inserts : ℕ → List Key → List Event
inserts i [] = []
inserts i (key ∷ keys) = Insert i key ∷ inserts i keys

abbrev pub AllWithin : State → ℕ → List Key → Type 0
AllWithin st i [] = Unit {0}
AllWithin st i (key ∷ keys) = IsWithin (st.leaves i) key × AllWithin st i keys

-- several keys of one leaf are so many events
abbrev pub LawInserts : Type 0
LawInserts = (st : State) (i : ℕ) (keys : List Key) → (st.leaves i).role ≡ Free
    → AllWithin st i keys
    → IsRun st (inserts i keys)
