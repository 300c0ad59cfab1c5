-- The machine opened on a pair that was made anew.
use Rattle.std.specs.Prelude.{◌≡◌, ℕ, ◌+◌, true, List, [], ◌∷◌, None}
use Rattle.bc_key.specs.declared.key.Key.{Key}
use Rattle.bc_disk.specs.declared.geometry.Geometry.{Geometry}
use Rattle.bc_super.specs.Super.{data_sectors}
use Rattle.bc_super.specs.declared.backing.BackingSuper.{BackingSuper}
use Rattle.bc_super.specs.declared.cache.CacheSuper.{CacheSuper}
use Rattle.bc_model.specs.History.{Allowed}
use Rattle.bc_meta.specs.Facts.{In}
use Rattle.bc_meta.specs.Layout.{Layout}
use Rattle.bc_leaves.specs.Parts as parts
use Rattle.bc_image.specs.Formatted.{IsFormatted, table_bucket}
use Rattle.bc_image.specs.NewPair.{new_pair}
use Rattle.bc_image.specs.Pair.{Pair}
use Rattle.bc_image.specs.Pointers.{PointsIntoData}
use Rattle.bc_image.specs.Reading.{View}
use Rattle.bc_image.specs.Shown.{shown_by}
use Rattle.bc_image.specs.Sound.{HasSuperblocks}
use Rattle.bc_facts.specs.Layout.{IsLayoutOf}
use Rattle.bc_facts.specs.Seen.{counted}
use Rattle.bc_facts.specs.Torn.{NoTornRecord}
use Rattle.bc_whole.specs.State.{Opening}
use Rattle.bc_known.specs.Acts.{Event}
use Rattle.bc_known.specs.Run.{IsRun, run, start}
use Rattle.bc_known.specs.Laws.{IsSound}
use Rattle.bc_origin.specs.Keys.{WasThere, new_keys}
use Rattle.bc_shows.specs.On.{IsMachineOf, IsRunOn}
use Rattle.bc_shows.specs.Laws.{IsLeftAs}
use Rattle.bc_opened.specs.Opening.{IsSoundOpeningOf}
use Rattle.bc_ranges.specs.Laws.{IsRunOf}

-- A sound opening of a machine of the device, without keys. The backing device has its data from an
-- offset on.
pub record IsOpenedOn (p : Pair) (b : BackingSuper) (g : Geometry) (w : Opening)
    (x : parts.State) : Type 0 where
  pub machine : IsMachineOf g w
  pub sound : IsSound w x
  pub cache : w.flow.cache ≡ p.cache
  pub backing : (s : ℕ) → w.flow.backing s ≡ p.backing (b.data_offset + s)
  pub shows : (s : ℕ) → w.flow.image s ≡ p.backing (b.data_offset + s)
  pub size : w.flow.books.size ≡ data_sectors p.backing_sectors b
  pub empty : (s : ℕ) → w.flow.books.index s ≡ None
  pub no_key : (key : Key) → WasThere w key → ⊥
  -- nobody raises the bucket of the uuid table, or takes it
  pub table : w.flow.books.fixed (counted g (table_bucket g)) ≡ true

abbrev pub LawAnew : Type 0
LawAnew =
    (p : Pair) (b : BackingSuper) (c : CacheSuper) (g : Geometry) (layout : Layout)
    → IsFormatted p b c g → HasSuperblocks b c → IsLayoutOf g layout
    → (w : Opening) × (x : parts.State) × (w.layout ≡ layout) × IsOpenedOn p b g w x

-- So it is an opening of a sound pair, whatever such a pair holds.
abbrev pub LawOpening : Type 0
LawOpening =
    (p : Pair) (b : BackingSuper) (c : CacheSuper) (g : Geometry) (layout : Layout)
    → IsFormatted p b c g → HasSuperblocks b c → IsLayoutOf g layout
    → (v : View) × (w : Opening) × (x : parts.State) × (v.geometry ≡ g) × IsSoundOpeningOf p v w x

-- a run from there, all whose keys lie in data whole, and of which no torn record matched by chance
pub record IsRunFrom (g : Geometry) (w : Opening) (x : parts.State) (next_seq : ℕ)
    (es : List Event) : Type 0 where
  pub course : IsRun w (start w x next_seq) es
  pub keys : (key : Key) → In key (new_keys es) → PointsIntoData g key
  pub no_torn : NoTornRecord g w.store.image (run w (start w x next_seq) es).whole.store.places

abbrev pub LawShown : Type 0
LawShown =
    (p : Pair) (b : BackingSuper) (g : Geometry) (w : Opening) (x : parts.State)
    → IsOpenedOn p b g w x → (next_seq : ℕ) (es : List Event) → IsRunFrom g w x next_seq es
    → let st = run w (start w x next_seq) es in
    (left : Pair) (v : View) → v.geometry ≡ g → IsLeftAs st left v
    → (s : ℕ) → Allowed w.flow.image st.whole.flow.history s (shown_by left v s)

-- the machine on the small pair, before anything happens
abbrev pub HasExample : Type 0
HasExample = (b : BackingSuper) × (g : Geometry) × (w : Opening) × (x : parts.State)
    × IsOpenedOn new_pair b g w x × ((next_seq : ℕ) → IsRunOn g w x next_seq [])

-- it opens that pair as a sound one
abbrev pub HasOpening : Type 0
HasOpening = (v : View) × (w : Opening) × (x : parts.State) × IsSoundOpeningOf new_pair v w x

-- and a run goes on from there, in which something is done
abbrev pub HasRun : Type 0
HasRun = (v : View) × (w : Opening) × (x : parts.State) × (first : Event) × (rest : List Event)
    × ((next_seq : ℕ) → IsRunOf new_pair v w x next_seq (first ∷ rest))
