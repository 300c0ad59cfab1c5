-- What holds of every run from a sound pair.
use Rattle.std.specs.Prelude.{◌⊎◌, ℕ, List}
use Rattle.bc_key.specs.declared.key.Key.{Key}
use Rattle.bc_model.specs.Sector.{Image}
use Rattle.bc_disk.specs.Device.{MayLeave}
use Rattle.bc_meta.specs.Facts.{In}
use Rattle.bc_meta.specs.Entries.{Entry, AreEntries}
use Rattle.bc_meta.specs.Layout.{ring_entries}
use Rattle.bc_meta.specs.Places.{NoChance}
use Rattle.bc_leaves.specs.Parts as parts
use Rattle.bc_whole.specs.State.{Opening}
use Rattle.bc_whole.specs.Laws.{keys_in}
use Rattle.bc_known.specs.Acts.{State, Event}
use Rattle.bc_known.specs.Run.{IsRun, run, start}
use Rattle.bc_known.specs.Laws.{IsSound}
use Rattle.bc_origin.specs.Keys.{WasThere, new_keys}

-- each key that is read of the image, with the entries that are found there
abbrev pub EachRead : Opening → State → Image → (Key → Type 0) → Type 0
EachRead w st c P = (newest : Entry) (older : List Entry)
    → AreEntries (ring_entries w.layout c w.layout.journal) newest older
    → (key : Key) → In key (keys_in w st.whole c newest older) → P key

abbrev pub LawOrigin : Type 0
LawOrigin =
    (w : Opening) (x : parts.State) (next_seq : ℕ) (es : List Event) → IsSound w x
    → IsRun w (start w x next_seq) es → let st = run w (start w x next_seq) es in
    NoChance w.layout w.store.image st.whole.store.places
    → (c : Image) → MayLeave st.whole.flow.cache c
    → EachRead w st c (λ key. WasThere w key ⊎ In key (new_keys es))
