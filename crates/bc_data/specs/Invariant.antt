-- What makes answers right, at every state of every run: the devices hold what each sector's last
-- write gave it, and what seats noted is still so. Each part speaks of the components that it names
-- alone.
use Rattle.std.specs.Prelude.{◌≡◌, ◌≢◌, ℕ, ◌≤◌, Bool, true, false, List, Option, Some, None}
use Rattle.bc_model.specs.Sector.{Value}
use Rattle.bc_model.specs.History.{now, IsLegal}
use Rattle.bc_model.specs.declared.history.Entry.{Entry}
use Rattle.bc_disk.specs.Device.{Only}
use Rattle.bc_books.specs.Index.{Clean, Pointer, latest, within, run_place}
use Rattle.bc_books.specs.Shelves.{Own, Kept}
use Rattle.bc_books.specs.Books.{Books}
use Rattle.bc_books.specs.Invariant.{IsInOrder}
use Rattle.bc_books.specs.Laws.{IsAged}
use Rattle.bc_data.specs.Seats.{Claim, Seat, Candidate, Covers, Apart}
use Rattle.bc_data.specs.Data.{Opening, State}
use Rattle.bc_data.specs.Enabled.{IsBacked}

-- the books, what reads give, what a crash may leave of the backing device, and each sector's last
-- write
pub record View : Type 0 where
  pub books : Books
  pub cache : ℕ → List Value
  pub reads : ℕ → List Value
  pub leaves : ℕ → List Value
  pub now : ℕ → Value

abbrev pub view : Opening → State → View
view w st = record {
  books = st.books;
  cache = st.cache.reads;
  reads = st.backing.reads;
  leaves = st.backing.leaves;
  now = now w.image st.history;
}

-- the durable entry has its version
abbrev pub IsLasting : Opening → Books → Pointer → Type 0
IsLasting w k r = k.generations.durable (w.books.bucket r.place) ≡ r.version

-- with this pointer the devices hold x for the sector
abbrev pub IsTrueAt : Opening → View → Option Pointer → ℕ → Value → Type 0
IsTrueAt w v None s x = Only x (v.reads s)
IsTrueAt w v (Some r) s x = IsAged w.books v.books r
    × (IsLasting w v.books r → Only x (v.cache r.place)) × (r.kind ≡ Clean → Only x (v.reads s))

-- an index that has the first m insertions, and that a crash may still leave
abbrev pub IsSince : Books → ℕ → ℕ → Type 0
IsSince k m n = (m ≤ n) × (k.journal.durable ≤ n) × (n ≤ k.index.count)

-- no such index has a key for the sector
abbrev pub IsBareSince : Books → ℕ → ℕ → Type 0
IsBareSince k m s = (n : ℕ) → IsSince k m n → k.index.at n s ≡ None

-- in each of them it is true
abbrev pub IsTrueSince : Opening → View → ℕ → ℕ → Type 0
IsTrueSince w v m s =
    (n : ℕ) → IsSince v.books m n → IsTrueAt w v (v.books.index.at n s) s (v.now s)

-- what a seat noted under its claim
pub record IsNoted (w : Opening) (v : View) (c : Claim) : Type 0 where
  pub young : (c.keys ≤ v.books.index.count) × (c.gone_keys ≤ v.books.index.count)
  pub bare : c.looked ≡ true → c.exclusive ≡ true → c.wrote ≡ false → (s : ℕ) → Covers c s
      → c.sight s ≡ None → IsBareSince v.books c.keys s
  pub gone : (s : ℕ) → c.gone s ≡ true → Covers c s × (c.exclusive ≡ true)
      × (c.wrote ≡ false → IsBareSince v.books c.gone_keys s)
  pub sight : c.looked ≡ true → (s : ℕ) → Covers c s → IsTrueAt w v (c.sight s) s (v.now s)
  pub deep : c.looked ≡ true → (s : ℕ) → Covers c s → IsTrueSince w v c.keys s
  pub cached : (s : ℕ) (x : Value) (r : Pointer) → c.from_cache s ≡ Some x → c.sight s ≡ Some r
      → (c.looked ≡ true) × Covers c s × IsAged w.books v.books r
      × (IsLasting w v.books r → x ≡ v.now s)
  pub backed : (s : ℕ) (x : Value) → c.from_backing s ≡ Some x
      → Covers c s × (IsBacked (c.sight s) → (x ≡ v.now s) × Only (v.now s) (v.reads s))
  pub checked : (s : ℕ) (x : Value) → c.checked s ≡ Some x → Covers c s × (x ≡ v.now s)
      × IsTrueSince w v c.checked_keys s
  pub copied : (s : ℕ) → c.back s ≡ true → Covers c s × Only (v.now s) (v.reads s)
  pub firmed : (s : ℕ) → c.firm s ≡ true → Covers c s × Only (v.now s) (v.reads s)
      × Only (v.now s) (v.leaves s)
  pub through : (s : ℕ) (x : Value) → c.through s ≡ Some x → Covers c s × (c.exclusive ≡ true)
      × (c.wrote ≡ true) × (x ≡ v.now s) × Only (v.now s) (v.reads s)

-- what a seat wrote to its places stands there
abbrev pub ArePlaced : View → ℕ → (ℕ → Option Value) → Type 0
ArePlaced v i placed = (t : ℕ) (x : Value) → v.books.owner t ≡ Own i → placed t ≡ Some x
    → Only x (v.cache t)

-- an exclusive claim over the sector is of the seat that wrote it
abbrev pub IsGuarded : (ℕ → Seat) → ℕ → Type 0
IsGuarded seats s = (i : ℕ) → (seats i).claim.exclusive ≡ true → Covers (seats i).claim s
    → (seats i).claim.wrote ≡ true

-- a candidate that wasn't killed has the sector's last write at its place
pub record IsPromised (w : Opening) (v : View) (x : Candidate) (s p : ℕ) : Type 0 where
  pub backed : Only (v.now s) (v.reads s)
  pub cached : Only (v.now s) (v.cache p)
  pub firm : x.firm ≡ true → Only (v.now s) (v.leaves s)

abbrev pub IsKeptFor : Opening → View → (ℕ → Seat) → ℕ → Candidate → Type 0
IsKeptFor w v seats c x = x.stands ≡ true
    → ((t : ℕ) → within x.place x.count t ≡ true → v.books.owner t ≡ Kept c)
    × (x.alive ≡ true → (s p : ℕ) → run_place x.first x.place x.count s ≡ Some p
    → IsPromised w v x s p × IsGuarded seats s)

abbrev pub AreApart : (ℕ → Seat) → Type 0
AreApart seats = (i k : ℕ) → i ≢ k → Apart (seats i).claim (seats k).claim

pub record IsTruthfulOf (w : Opening) (v : View) (halted : Bool) (seats : ℕ → Seat)
    (kept : ℕ → Candidate) (H : List Entry) : Type 0 where
  pub books : IsInOrder w.books v.books
  pub apart : AreApart seats
  pub truth : halted ≡ false → (s : ℕ) → IsTrueAt w v (latest v.books.index s) s (v.now s)
  pub notes : (i : ℕ) → IsNoted w v (seats i).claim
  pub placed : halted ≡ false → (i : ℕ) → ArePlaced v i (seats i).placed
  pub candidates : (c : ℕ) → IsKeptFor w v seats c (kept c)
  pub legal : IsLegal w.image H
  pub plain : w.plain ≡ true → (v.books.index.count ≡ 0)
      × ((s : ℕ) → v.books.index.at 0 s ≡ None)

abbrev pub IsTruthful : Opening → State → Type 0
IsTruthful w st = IsTruthfulOf w (view w st) st.halted st.seats st.candidates st.history
