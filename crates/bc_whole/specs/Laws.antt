-- What holds of every run from a sound pair.
use Rattle.std.specs.Prelude.{◌≡◌, ◌≢◌, ℕ, true, false, List, Option, Some, None, if◌then◌else◌}
use Rattle.bc_key.specs.declared.key.Key.{Key}
use Rattle.bc_model.specs.Sector.{Value, Image}
use Rattle.bc_model.specs.History.{IsLegal, Allowed, now}
use Rattle.bc_disk.specs.Device.{MayLeave}
use Rattle.bc_books.specs.Versions.{is_stale}
use Rattle.bc_books.specs.Enabled.{CanRaise}
use Rattle.bc_data.specs.Laws.{IsPair}
use Rattle.bc_crash.specs.Laws.{IsClosed}
use Rattle.bc_meta.specs.Keys.{Ref, last_ref}
use Rattle.bc_meta.specs.Entries.{Entry, AreEntries}
use Rattle.bc_meta.specs.Layout.{ring_entries, image_keys}
use Rattle.bc_meta.specs.Chain.{Chain, chain_in}
use Rattle.bc_meta.specs.Records.{owners}
use Rattle.bc_meta.specs.Places.{NoChance}
use Rattle.bc_meta.specs.Laws as meta
use Rattle.bc_leaves.specs.Parts.{NoNode, IsLive}
use Rattle.bc_leaves.specs.Parts as parts
use Rattle.bc_leaves.specs.Fits.{Fits}
use Rattle.bc_leaves_runs.specs.Reopen.{AllReplay}
use Rattle.bc_whole.specs.State.{Opening, State, Event}
use Rattle.bc_whole.specs.Together.{ref_of, gen_from}
use Rattle.bc_whole.specs.Run.{IsRun, run, start}

-- ---- sound pairs

-- the keys that a reader of the cache device's image finds, with these entries
abbrev pub keys_in : Opening → (st : State) → Image → Entry → List Entry → List Key
keys_in w st c newest older =
    image_keys w.layout (owners st.store.places.records.nodes) c newest older

-- Both halves are sound and of one pair, and the parts fit.
pub record IsSound (w : Opening) (x : parts.State) : Type 0 where
  pub pair : IsPair w.flow
  pub store : meta.IsSound w.layout w.store
  pub fits : Fits x
  pub records : x.records ≡ (meta.opened w.layout w.store).places.records
  pub image : w.store.image ≡ w.flow.cache
  -- the keys and the chain that the device has say what the books do
  pub index : (s : ℕ) → last_ref (image_keys w.layout w.store.owners w.store.image w.store.newest
      w.store.older) s ≡ ref_of (w.flow.books.index s)
  pub gens : (b : ℕ) → gen_from w.before w.store.gens b ≡ w.flow.books.version b
  pub chain : (b : ℕ) → (meta.opened w.layout w.store).chain_of b
      ≡ (if w.flow.books.chain b then Some 0 else None)
  pub nodes : (q : ℕ) → w.store.unused q ≡ false → w.flow.books.node q ≡ true

-- ---- what a reader of two images finds

-- where a sector's data lies by this key, whose generation the chain may have made stale
abbrev pub shown_by : (bucket gen : ℕ → ℕ) → Option Ref → Image → Value → Value
shown_by bucket gen None c v = v
shown_by bucket gen (Some r) c v =
    if is_stale (gen (bucket r.place)) r.generation then v else c r.place

abbrev pub shown : (bucket gen : ℕ → ℕ) → List Key → (c b : Image) → ℕ → Value
shown bucket gen keys c b s = shown_by bucket gen (last_ref keys s) c (b s)

-- What was read opens a sound pair again, whatever its leaves are numbered and however the keys of
-- its entries are cut.
pub record Opens (w : Opening) (st : State) (c b : Image) (newest : Entry) (older : List Entry)
    (chain : Chain) (pending : ℕ → List parts.Pending) : Type 0 where
  pub next : Opening
  pub parts : parts.State
  pub sound : IsSound next parts
  pub layout : next.layout ≡ w.layout
  pub before : next.before ≡ w.before
  pub cache : next.flow.cache ≡ c
  pub backing : next.flow.backing ≡ b
  pub entries : (next.store.newest ≡ newest) × (next.store.older ≡ older)
  pub image : (s : ℕ) → next.flow.image s
      ≡ shown w.flow.books.bucket (gen_from w.before chain.gens)
      (keys_in w st c newest older) c b s
  pub pending_is : (k : ℕ) → (parts.leaves k).pending ≡ pending k
  -- each slot is a node of the tree that was found, or none
  pub live : (k : ℕ) → (parts.leaves k).role ≢ NoNode → IsLive (parts.leaves k).role
  pub inner_live : (k : ℕ) → (parts.inner_nodes k).role ≢ NoNode
      → IsLive (parts.inner_nodes k).role
  -- buckets lie where they were
  pub fixed : next.flow.books.fixed ≡ w.flow.books.fixed
  pub bucket : next.flow.books.bucket ≡ w.flow.books.bucket
  pub sets : next.flow.books.sets ≡ w.flow.books.sets

-- Of a pair of images: entries, and the chain that the newest names; what these show is allowed,
-- the devices agree where a key is live and clean, nothing dirty lies in what may be raised, and it
-- is a sound pair again.
pub record Reads (w : Opening) (st : State) (c b : Image) : Type 0 where
  pub newest : Entry
  pub older : List Entry
  pub chain : Chain
  pub entries : AreEntries (ring_entries w.layout c w.layout.journal) newest older
  pub chain_is : chain_in w.layout c newest.prio ≡ Some chain
  pub allowed : (s : ℕ) → Allowed w.flow.image st.flow.history s
      (shown w.flow.books.bucket (gen_from w.before chain.gens)
      (keys_in w st c newest older) c b s)
  pub agree : (s : ℕ) (r : Ref) → last_ref (keys_in w st c newest older) s ≡ Some r
      → r.dirty ≡ false → is_stale (gen_from w.before chain.gens (w.flow.books.bucket r.place)) r.generation
      ≡ false → c r.place ≡ b s
  pub raise : (q : ℕ) → CanRaise w.flow.books st.flow.books q → (s : ℕ) (r : Ref)
      → last_ref (keys_in w st c newest older) s ≡ Some r → r.dirty ≡ true
      → w.flow.books.bucket r.place ≡ q → ⊥
  pub closed : IsClosed st.flow → (s : ℕ)
      → shown w.flow.books.bucket (gen_from w.before chain.gens)
      (keys_in w st c newest older) c b s
      ≡ now w.flow.image st.flow.history s
  pub again : (leaf : ℕ → ℕ) (pending : ℕ → List parts.Pending)
      → AllReplay st.parts newest older pending → Opens w st c b newest older chain pending

-- ---- laws

-- at the end of every run, and so at every state of one
abbrev pub Always : (Opening → State → Type 0) → Type 0
Always P = (w : Opening) (x : parts.State) (es : List Event) → IsSound w x
    → IsRun w (start w x) es → P w (run w (start w x) es)

-- each answer's values are those of the last writes before it
abbrev pub LawNow : Type 0
LawNow = Always (λ w st. IsLegal w.flow.image st.flow.history)

-- Whatever a crash leaves is read so, if no torn record matches by chance.
abbrev pub LawCrash : Type 0
LawCrash = Always (λ w st. NoChance w.layout w.store.image st.store.places → (c b : Image)
    → MayLeave st.flow.cache c → MayLeave st.flow.backing b → Reads w st c b)

-- a bucket that may be raised is no node's, of no chain, and not of superblock, journal or uuid
-- table, in memory and in whatever a crash may leave
pub record IsUnneeded (w : Opening) (st : State) (q : ℕ) : Type 0 where
  pub no_node : st.store.places.records.unused q ≡ true
  pub no_chain : st.store.chain_of q ≡ None
  pub not_fixed : w.flow.books.fixed q ≡ false

abbrev pub LawRaise : Type 0
LawRaise = Always (λ w st. (q : ℕ) → CanRaise w.flow.books st.flow.books q → IsUnneeded w st q)
