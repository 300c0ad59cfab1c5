-- Runs on a sound pair with a cache.
use Rattle.std.specs.Prelude.{◌≡◌, ℕ, List}
use Rattle.bc_key.specs.declared.key.Key.{Key}
use Rattle.bc_disk.specs.declared.geometry.Geometry.{Geometry}
use Rattle.bc_model.specs.History.{Allowed}
use Rattle.bc_meta.specs.Facts.{In}
use Rattle.bc_meta.specs.Layout.{Layout}
use Rattle.bc_leaves.specs.Parts as parts
use Rattle.bc_image.specs.Pair.{Pair}
use Rattle.bc_image.specs.Pointers.{PointsIntoData}
use Rattle.bc_image.specs.Reading.{View}
use Rattle.bc_image.specs.Shown.{shown_by}
use Rattle.bc_facts.specs.Torn.{NoTornRecord}
use Rattle.bc_whole.specs.State.{Opening}
use Rattle.bc_known.specs.Acts.{Event}
use Rattle.bc_known.specs.Run.{IsRun, run, start}
use Rattle.bc_origin.specs.Keys.{WasThere, new_keys}
use Rattle.bc_shows.specs.Laws.{IsLeftAs}
use Rattle.bc_opening.specs.Choices.{Choices}
use Rattle.bc_opening.specs.Opening.{IsOpenedAs}

abbrev pub LawOldKeys : Type 0
LawOldKeys =
    (p : Pair) (v : View) (layout : Layout) (c : Choices) (w : Opening) (x : parts.State)
    → IsOpenedAs p v layout c w x → (key : Key) → WasThere w key → PointsIntoData v.geometry key

-- a run from there, all whose keys lie in data whole, and of which no torn record matched by chance
pub record IsRunFrom (g : Geometry) (w : Opening) (x : parts.State) (next_seq : ℕ)
    (es : List Event) : Type 0 where
  pub course : IsRun w (start w x next_seq) es
  pub keys : (key : Key) → In key (new_keys es) → PointsIntoData g key
  pub no_torn : NoTornRecord g w.store.image (run w (start w x next_seq) es).whole.store.places

abbrev pub LawShown : Type 0
LawShown =
    (p : Pair) (v : View) (layout : Layout) (c : Choices) (w : Opening) (x : parts.State)
    → IsOpenedAs p v layout c w x → (next_seq : ℕ) (es : List Event)
    → IsRunFrom v.geometry w x next_seq es → let st = run w (start w x next_seq) es in
    (left : Pair) (later : View) → later.geometry ≡ v.geometry → IsLeftAs st left later
    → (s : ℕ) → Allowed (shown_by p v) st.whole.flow.history s (shown_by left later s)
