-- The entries of a journal; each list of them here has the newest first.
use Rattle.std.specs.Prelude.{◌≡◌, ℕ, suc, ◌≤◌, List, [], ◌∷◌, ◌++◌, if◌then◌else◌, nat_le}
use Rattle.bc_key.specs.declared.key.Key.{Key}
use Rattle.bc_meta.specs.Facts.{In}

pub record Entry : Type 0 where
  pub number : ℕ
  -- the oldest entry that is replayed with this one
  pub last_seq : ℕ
  -- the root's bucket, the word of the pointer to it, and how many levels of parents there are
  pub root : ℕ
  pub word : ℕ
  pub level : ℕ
  -- the first bucket of the chain that it names
  pub prio : ℕ
  pub keys : List Key
  -- what else its record says
  pub rest : List ℕ

abbrev pub all_keys : List Entry → List Key
all_keys [] = []
all_keys (e ∷ es) = e.keys ++ all_keys es

-- of all entries found, those from one number up to the one before the next, newest first, each
-- number once
abbrev pub CountDown : List Entry → ℕ → List Entry → ℕ → Type 0
CountDown all low [] next = next ≡ low
CountDown all low (e ∷ es) next = (suc e.number ≡ next) × (low ≤ e.number) × In e all
    × ((x : Entry) → In x all → x.number ≡ e.number → x ≡ e) × CountDown all low es e.number

-- the entries of a device, where all of these are found in its journal buckets
pub record AreEntries (all : List Entry) (newest : Entry) (older : List Entry) : Type 0 where
  pub greatest : (x : Entry) → In x all → x.number ≤ newest.number
  pub down : CountDown all newest.last_seq (newest ∷ older) (suc newest.number)

-- the first ones, as long as the number is at least this
abbrev pub live : ℕ → List Entry → List Entry
live low [] = []
live low (e ∷ es) = if nat_le low e.number then e ∷ live low es else []
