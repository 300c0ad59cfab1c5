-- What goes wrong where a condition on acts that go together is left out: a run, an act for which
-- all else holds, and a run behind it, after which a law is broken.
use Rattle.std.specs.Prelude.{◌≡◌, ℕ, Bool, List, [], Some}
use Rattle.bc_model.specs.Sector.{Image}
use Rattle.bc_model.specs.History.{Allowed}
use Rattle.bc_key.specs.declared.key.Key.{Key}
use Rattle.bc_disk.specs.Device.{MayLeave}
use Rattle.bc_books.specs.Enabled.{CanRaise}
use Rattle.bc_books.specs.Books.{Step}
use Rattle.bc_data.specs.Data as flow
use Rattle.bc_data.specs.After.{IsCourse}
use Rattle.bc_meta.specs.Entries.{Entry, AreEntries}
use Rattle.bc_meta.specs.Layout.{ring_entries}
use Rattle.bc_meta.specs.Chain.{Chain, chain_in}
use Rattle.bc_meta.specs.Places.{NoChance}
use Rattle.bc_leaves.specs.Parts as parts
use Rattle.bc_leaves.specs.Laws.{IsJoint}
use Rattle.bc_whole.specs.State.{Opening, State, Act, Keyed, LetGo, Install, Event}
use Rattle.bc_whole.specs.Together.{gen_from, data_of, steps_of}
use Rattle.bc_whole.specs.Run.{IsRun, by, after, run, start}
use Rattle.bc_whole.specs.Laws.{IsSound, IsUnneeded, keys_in, shown}

-- each machine allows the act, but they don't go together
pub record IsTorn (w : Opening) (x : parts.State) (before : List Event) (seat : ℕ) (act : Act)
    (later : List Event) (IsBroken : State → Type 0) : Type 0 where
  pub sound : IsSound w x
  pub course : IsRun w (start w x) before
  pub flow : let st = run w (start w x) before in
      IsCourse w.flow st.flow (by seat (data_of w st seat act))
  pub store : let st = run w (start w x) before in
      IsJoint w.layout st.store st.parts (steps_of w.layout st seat act)
  pub ends : IsRun w (after w (run w (start w x) before) seat act) later
  pub broken : IsBroken (run w (after w (run w (start w x) before) seat act) later)

-- a bucket may be raised that has a node
abbrev pub MayLoseNode : Opening → State → ℕ → Type 0
MayLoseNode w st q = CanRaise w.flow.books st.flow.books q × (IsUnneeded w st q → ⊥)

-- A bucket is let go in which a crash may find a node.
abbrev pub LawTeethLetGo : Type 0
LawTeethLetGo =
    (w : Opening) × (x : parts.State) × (before : List Event) × (seat : ℕ) × (q : ℕ)
    × ((room : Bool) × IsTorn w x before seat (LetGo q room) [] (λ st. MayLoseNode w st q))

-- An install gives up a bucket in which a node still is.
abbrev pub LawTeethDrop : Type 0
LawTeethDrop =
    (w : Opening) × (x : parts.State) × (before : List Event) × (seat : ℕ) × (q : ℕ)
    × (unused : ℕ → Bool)
    × ((steps : List Step) × IsTorn w x before seat (Install unused steps) []
    (λ st. MayLoseNode w st q))

-- What a crash leaves reads, and a sector shows what it may not, though no torn record matches by
-- chance.
pub record IsMisread (w : Opening) (st : State) : Type 0 where
  pub chance : NoChance w.layout w.store.image st.store.places
  pub cache : Image
  pub backing : Image
  pub left : MayLeave st.flow.cache cache
  pub left_backing : MayLeave st.flow.backing backing
  pub newest : Entry
  pub older : List Entry
  pub chain : Chain
  pub entries : AreEntries (ring_entries w.layout cache w.layout.journal) newest older
  pub chain_is : chain_in w.layout cache newest.prio ≡ Some chain
  pub sector : ℕ
  pub wrong : Allowed w.flow.image st.flow.history sector (shown w.flow.books.bucket
      (gen_from w.before chain.gens) (keys_in w st cache newest older) cache backing sector) → ⊥

-- Keys come into a leaf that say something else than those of the books.
abbrev pub LawTeethKeys : Type 0
LawTeethKeys =
    (w : Opening) × (x : parts.State) × (before : List Event) × (seat : ℕ) × (act : flow.Act)
    × (slot : ℕ) × (keys : List Key)
    × ((later : List Event) × IsTorn w x before seat (Keyed act slot keys) later (IsMisread w))
