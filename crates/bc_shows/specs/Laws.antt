-- What a reader finds in each pair of images that a crash may leave.
use Rattle.std.specs.Prelude.{◌≡◌, ◌⊎◌, ℕ, ◌+◌, true, false, List, All, Some}
use Rattle.bc_key.specs.declared.key.Key.{Key}
use Rattle.bc_key.specs.Key.{place_at}
use Rattle.bc_model.specs.Sector.{Value, Image}
use Rattle.bc_model.specs.History.{Allowed, now}
use Rattle.bc_disk.specs.Device.{MayLeave}
use Rattle.bc_disk.specs.declared.geometry.Geometry.{Geometry}
use Rattle.bc_meta.specs.Facts.{In}
use Rattle.bc_crash.specs.Laws.{IsClosed}
use Rattle.bc_facts.specs.Torn.{NoTornRecord}
use Rattle.bc_leaves.specs.Parts as parts
use Rattle.bc_image.specs.Pair.{Pair}
use Rattle.bc_image.specs.Pointers.{PointsIntoData}
use Rattle.bc_image.specs.Reading.{Reading, IsReading, View, IsView, keys_of, key_of}
use Rattle.bc_image.specs.Shown.{is_live, value_by, shown_by}
use Rattle.bc_whole.specs.State.{Opening}
use Rattle.bc_known.specs.Acts.{State, Event}
use Rattle.bc_known.specs.Run.{IsRun, run, start}
use Rattle.bc_known.specs.Laws.{IsSound}
use Rattle.bc_origin.specs.Keys.{WasThere, new_keys}
use Rattle.bc_shows.specs.On.{IsMachineOf, IsRunOn}

-- what a sector has, by what was read of the cache device
abbrev pub value_of : Geometry → Reading → (c b : Image) → ℕ → Value
value_of g r c b s = value_by g r.gens c (key_of r s) s (b s)

-- Of two images, and what was read of the first.
pub record Shows (g : Geometry) (w : Opening) (st : State) (c b : Image)
    (r : Reading) : Type 0 where
  pub reads : IsReading g c r
  pub allowed : (s : ℕ) → Allowed w.flow.image st.whole.flow.history s (value_of g r c b s)
  -- both devices have a sector's value where its key is live and clean
  pub agree : (s : ℕ) (key : Key) → key_of r s ≡ Some key → is_live g r.gens key ≡ true
      → key.dirty ≡ false → c (place_at key 0 s) ≡ b s
  pub closed : IsClosed st.whole.flow → (s : ℕ)
      → value_of g r c b s ≡ now w.flow.image st.whole.flow.history s
  pub keys : All (PointsIntoData g) (keys_of r)

-- at the end of every run, and so at every state of one
abbrev pub LawShows : Type 0
LawShows =
    (g : Geometry) (w : Opening) (x : parts.State) (next_seq : ℕ) (es : List Event)
    → IsRunOn g w x next_seq es → let st = run w (start w x next_seq) es in
    (c b : Image) → MayLeave st.whole.flow.cache c → MayLeave st.whole.flow.backing b
    → (r : Reading) × Shows g w st c b r

-- A crash may leave this pair, whose backing device has its data from an offset on.
pub record IsLeftAs (st : State) (p : Pair) (v : View) : Type 0 where
  pub view : IsView p v
  pub cache : MayLeave st.whole.flow.cache p.cache
  pub backing : MayLeave st.whole.flow.backing (λ s. p.backing (v.backing.data_offset + s))

abbrev pub LawShown : Type 0
LawShown =
    (w : Opening) (x : parts.State) (next_seq : ℕ) (es : List Event) (p : Pair) (v : View)
    → IsRunOn v.geometry w x next_seq es → let st = run w (start w x next_seq) es in
    IsLeftAs st p v → (s : ℕ) → Allowed w.flow.image st.whole.flow.history s (shown_by p v s)

-- Whatever its keys point to, each key that is read was the opening's, or came in with an act.
abbrev pub LawKeys : Type 0
LawKeys =
    (g : Geometry) (w : Opening) (x : parts.State) (next_seq : ℕ) (es : List Event)
    → IsMachineOf g w → IsSound w x → IsRun w (start w x next_seq) es
    → let st = run w (start w x next_seq) es in
    NoTornRecord g w.store.image st.whole.store.places
    → (c : Image) → MayLeave st.whole.flow.cache c → (r : Reading) → IsReading g c r
    → (key : Key) → In key (keys_of r) → WasThere w key ⊎ In key (new_keys es)
