-- What a crash leaves at every state of every run from a sound pair of devices.
use Rattle.std.specs.Prelude.{◌≡◌, ◌⊎◌, ℕ, false, Some, ◌%◌}
use Rattle.bc_model.specs.Sector.{Value, Image}
use Rattle.bc_model.specs.History.{now, Allowed}
use Rattle.bc_disk.specs.Device.{Among, MayLeave}
use Rattle.bc_books.specs.Index.{Clean, Pointer}
use Rattle.bc_books.specs.Versions.{is_stale}
use Rattle.bc_books.specs.Laws.{Snapshot, durable_snapshot, sealed_snapshot}
use Rattle.bc_data.specs.Data.{Opening, Stage, Nothing, Fixed, Ready, Sent, Safe, State}
use Rattle.bc_data.specs.Laws.{shown, Always}

-- a barrier of the cache device came behind the seal of the entry that waits
abbrev pub IsReady : Stage → Type 0
IsReady Nothing = ⊥
IsReady Fixed = ⊥
IsReady Ready = Unit {0}
IsReady Sent = Unit {0}
IsReady Safe = Unit {0}

-- A crash finds the durable entry as the newest one; or the sealed one, which is written no earlier
-- than it is ready.
abbrev pub Finds : State → Snapshot → Type 0
Finds st shot = (shot ≡ durable_snapshot st.books)
    ⊎ (IsReady st.stage × (shot ≡ sealed_snapshot st.books))

-- what the devices show of a sector is allowed, and they agree where a key is live and clean
pub record IsSafe (w : Opening) (st : State) (shot : Snapshot) (c b : Image) (s : ℕ) : Type 0 where
  pub allowed : Allowed w.image st.history s
      (shown w.books.bucket (st.books.index.at shot.count) shot.version c b s)
  pub agree : (r : Pointer) → st.books.index.at shot.count s ≡ Some r → r.kind ≡ Clean
      → is_stale (shot.version (w.books.bucket r.place) % 256) (r.version % 256) ≡ false
      → c r.place ≡ b s

-- whatever a crash leaves of both devices is safe
abbrev pub LawCrash : Type 0
LawCrash = Always (λ w st. (shot : Snapshot) (c b : Image) → Finds st shot → MayLeave st.cache c
    → MayLeave st.backing b → (s : ℕ) → IsSafe w st shot c b s)

-- what a closing leaves: every insertion is durable, and so is what the backing device reads
pub record IsClosed (st : State) : Type 0 where
  pub running : st.halted ≡ false
  pub journal : st.books.journal.durable ≡ st.books.index.count
  pub backing : (s : ℕ) (x : Value) → Among x (st.backing.leaves s)
      → Among x (st.backing.reads s)

-- then each sector shows its last write, whatever a crash leaves
abbrev pub LawClosed : Type 0
LawClosed = Always (λ w st. IsClosed st → (shot : Snapshot) (c b : Image) → Finds st shot
    → MayLeave st.cache c → MayLeave st.backing b → (s : ℕ)
    → shown w.books.bucket (st.books.index.at shot.count) shot.version c b s
    ≡ now w.image st.history s)
