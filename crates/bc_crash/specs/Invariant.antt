-- What makes crashes harmless, at every state of every run: what each index that a crash may find
-- shows is allowed to each flush that the index answers for. An index answers for a flush if it has
-- the insertions that the flush needs; and the backing device does if it is as firm as that.
use Rattle.std.specs.Prelude.{◌≡◌, ◌⊎◌, ℕ, ◌≤◌, Bool, true, false, List, length, Some}
use Rattle.bc_model.specs.Sector.{Value, Image}
use Rattle.bc_model.specs.History.{AllowedFrom, written_by}
use Rattle.bc_model.specs.declared.history.Entry.{Entry}
use Rattle.bc_disk.specs.Device.{Content, Among}
use Rattle.bc_books.specs.Index.{Clean, Pointer, within}
use Rattle.bc_books.specs.Books.{Books}
use Rattle.bc_data.specs.Seats.{Seat, Covers}
use Rattle.bc_data.specs.Data.{Opening, Stage, State}
use Rattle.bc_data.specs.Enabled.{IsBacked}
use Rattle.bc_data.specs.Invariant.{IsLasting}
use Rattle.bc_crash.specs.Laws.{IsReady}
use Rattle.bc_crash.specs.Tables.{Tables}
use Rattle.bc_crash.specs.Reached.{has_from, from_of, reached, AreBegun}

-- Of sector s, read with the first n insertions: each value of the source is allowed to each flush
-- for which the source is ok and that needs no more insertions.
abbrev pub IsGood : Image → List Entry → ℕ → ℕ → (need : ℕ → ℕ) → (ok : ℕ → Type 0)
    → (source : Value → Type 0) → Type 0
IsGood opening H s n need ok source = (f : ℕ) → f ≤ length H → need f ≤ n → ok f
    → (x : Value) → source x → AllowedFrom f opening H s x

-- the source is ok for all
abbrev pub any_flush : ℕ → Type 0
any_flush f = Unit {0}

-- The tables of one sector, when its leaf's last insertion has number c and the history so many
-- entries: later flushes need no less, and from the end on nothing changes.
pub record IsTable (c len : ℕ) (need : ℕ → ℕ) (safe : ℕ → Bool) : Type 0 where
  pub zero : need 0 ≡ 0
  pub top : (f : ℕ) → need f ≤ c
  pub mono : (f g : ℕ) → f ≤ g → need f ≤ need g
  pub flat : (f : ℕ) → len ≤ f → need f ≡ need len
  pub safe_zero : safe 0 ≡ true
  pub safe_flat : (f : ℕ) → len ≤ f → safe f ≡ safe len

-- worker i's open flush
pub record IsFlushKnown (i : ℕ) (H : List Entry) (need : ℕ → ℕ → ℕ) (safe : ℕ → ℕ → Bool)
    (x : Seat) : Type 0 where
  pub begun : has_from i x.flush.line H ≡ true
  pub counted : (s : ℕ) → need s (from_of i x.flush.line H) ≤ x.flush.keys
  pub firm : x.flush.firm ≡ true → (s : ℕ) → safe s (from_of i x.flush.line H) ≡ true

-- its write under its claim, which may become durable
pub record IsLastKnown (i : ℕ) (H : List Entry) (need : ℕ → ℕ → ℕ) (safe : ℕ → ℕ → Bool)
    (x : Seat) : Type 0 where
  pub exclusive : x.claim.exclusive ≡ true
  pub some : within x.last.first x.last.count x.last.first ≡ true
  pub covers : (s : ℕ) → within x.last.first x.last.count s ≡ true → Covers x.claim s
  pub counted : (s : ℕ) → within x.last.first x.last.count s ≡ true
      → need s (written_by i x.last.line x.last.first H) ≤ x.last.keys
  pub firm : x.last.firm ≡ true → (s : ℕ) → within x.last.first x.last.count s ≡ true
      → safe s (written_by i x.last.line x.last.first H) ≡ true

-- what it needs, and the insertions that its notes rest on
pub record IsSeatKnown (i : ℕ) (halted : Bool) (H : List Entry) (need : ℕ → ℕ → ℕ)
    (safe : ℕ → ℕ → Bool) (x : Seat) : Type 0 where
  pub flush : halted ≡ false → x.flush.going ≡ true → IsFlushKnown i H need safe x
  pub last : halted ≡ false → x.claim.wrote ≡ true → IsLastKnown i H need safe x
  pub few : x.claim.looked ≡ true → x.claim.exclusive ≡ true → (s : ℕ) → Covers x.claim s
      → need s (length H) ≤ x.claim.keys
  pub gone : (s : ℕ) → x.claim.gone s ≡ true → Covers x.claim s × (x.claim.exclusive ≡ true)
      × (need s (length H) ≤ x.claim.gone_keys)

-- the insertions that a crash may find last
abbrev pub MayStand : Books → Stage → ℕ → Type 0
MayStand k stage n = (n ≡ k.journal.durable)
    ⊎ (IsReady stage × (k.journal.durable ≤ n) × (n ≤ k.journal.sealed))

-- what is durable answers for the first f entries
abbrev pub IsAnswered : ℕ → List Entry → (ℕ → ℕ) → (ℕ → Bool) → ℕ → Type 0
IsAnswered durable H need safe f = (safe f ≡ true) × (need f ≤ durable) × (f ≤ length H)

pub record IsHarmlessOf (w : Opening) (k : Books) (stage : Stage) (cache backing : Content)
    (all : ℕ → Seat) (H : List Entry) (halted : Bool) (need : ℕ → ℕ → ℕ)
    (safe : ℕ → ℕ → Bool) : Type 0 where
  pub tables : (s : ℕ) → IsTable (k.index.changed (k.index.leaf s)) (length H) (need s) (safe s)
  pub floors : (s : ℕ) → IsAnswered k.journal.durable H (need s) (safe s) (reached H s)
  pub begun : AreBegun H
  pub seats : (i : ℕ) → IsSeatKnown i halted H need safe (all i)
  pub honest : (t : ℕ) (x : Value) → Among x (cache.reads t) → Among x (cache.leaves t)
  pub honest_back : (s : ℕ) (x : Value) → Among x (backing.reads s) → Among x (backing.leaves s)
  pub filled : (t : ℕ) → (x : Value) × Among x (cache.reads t)
  -- what the cache holds of a live key, what the backing device may leave, and what it reads
  pub cached : (n s : ℕ) (r : Pointer) → k.journal.durable ≤ n → n ≤ k.index.count
      → k.index.at n s ≡ Some r → IsLasting w k r
      → IsGood w.image H s n (need s) any_flush (λ x. Among x (cache.reads r.place))
  pub backed : (n s : ℕ) → k.journal.durable ≤ n → n ≤ k.index.count
      → IsBacked (k.index.at n s)
      → IsGood w.image H s n (need s) (λ f. safe s f ≡ true) (λ x. Among x (backing.leaves s))
  pub present : halted ≡ false → (n s : ℕ) → k.journal.durable ≤ n → n ≤ k.index.count
      → IsBacked (k.index.at n s)
      → IsGood w.image H s n (need s) any_flush (λ x. Among x (backing.reads s))
  -- what a crash index names is stable, and the devices agree on what is clean
  pub firm : (n s : ℕ) (r : Pointer) → MayStand k stage n → k.index.at n s ≡ Some r
      → IsLasting w k r → (x : Value) → Among x (cache.leaves r.place)
      → Among x (cache.reads r.place)
  pub agree : (n s : ℕ) (r : Pointer) → k.journal.durable ≤ n → n ≤ k.index.count
      → k.index.at n s ≡ Some r → r.kind ≡ Clean → IsLasting w k r
      → (x y : Value) → Among x (cache.reads r.place) → Among y (backing.leaves s) → x ≡ y

abbrev pub IsHarmless : Opening → State → Tables → Type 0
IsHarmless w st x = IsHarmlessOf w st.books st.stage st.cache st.backing st.seats st.history
    st.halted x.need x.safe
