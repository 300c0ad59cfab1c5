-- Where a bucket stands and what it is held for, and who may write each of its places. One shelf
-- for each bucket and one owner for each place, so that no two lists have a bucket in common.
use Rattle.std.specs.Prelude.{◌≡◌, ◌⊎◌, ℕ, Bool, true, false, Option, Some, None, if◌then◌else◌, ◌==◌}
use Rattle.bc_books.specs.Index.{within}

-- what a bucket is asked for: priority sets, moved data and rewritten nodes, new nodes, data. Each
-- has its reserve list; that of Plain is the list none, from which each purpose takes first
pub data Purpose : Type 0 where
  Priorities Moving Tree Plain : Purpose

pub data Shelf : Type 0 where
  -- on no list, and nobody's
  Loose : Shelf
  -- on a reserve list
  Listed : (purpose : Purpose) → Shelf
  -- on the raised list: its new generation may not be durable yet
  Raised : Shelf
  -- open for data
  Open : Shelf
  -- held by a seat, for the chain of an entry, for data, or for a node
  Held : (seat : ℕ) → (purpose : Purpose) → Shelf

-- who may write a place
pub data Owner : Type 0 where
  -- nobody yet since its bucket was raised
  Fresh : Owner
  -- the seat that pinned it
  Own : (seat : ℕ) → Owner
  -- nobody, while this candidate waits for its key
  Kept : (candidate : ℕ) → Owner
  -- nobody any more until its bucket is raised: a key points there, or the pin was let go
  Spent : Owner

-- a pin of a seat or a candidate stands on the place
abbrev pub IsPinned : Owner → Type 0
IsPinned Fresh = ⊥
IsPinned (Own i) = Unit {0}
IsPinned (Kept c) = Unit {0}
IsPinned Spent = ⊥

-- it was pinned since its bucket was raised
abbrev pub WasPinned : Owner → Type 0
WasPinned Fresh = ⊥
WasPinned (Own i) = Unit {0}
WasPinned (Kept c) = Unit {0}
WasPinned Spent = Unit {0}

-- data may go into a bucket that is open, or held for data
abbrev pub IsForData : ℕ → Shelf → Type 0
IsForData i x = (x ≡ Open) ⊎ (x ≡ Held i Moving)

-- no data went into a bucket that stands here since it was raised
abbrev pub IsUnwritten : Shelf → Type 0
IsUnwritten Loose = ⊥
IsUnwritten (Listed p) = Unit {0}
IsUnwritten Raised = Unit {0}
IsUnwritten Open = ⊥
IsUnwritten (Held i Priorities) = Unit {0}
IsUnwritten (Held i Moving) = ⊥
IsUnwritten (Held i Tree) = Unit {0}
IsUnwritten (Held i Plain) = Unit {0}

-- A bucket is taken from the list none or from the list of its purpose. One for a node is taken from
-- the list for moving, too: a node that is written anew asks there.
abbrev pub IsFor : Purpose → Shelf → Type 0
IsFor p x = (x ≡ Listed Plain) ⊎ (x ≡ Listed p) ⊎ ((p ≡ Tree) × (x ≡ Listed Moving))

-- where it then stands
abbrev pub taken_to : ℕ → Purpose → Shelf
taken_to i Plain = Open
taken_to i p = Held i p

abbrev pub IsHeldBy : ℕ → Shelf → Type 0
IsHeldBy i x = (p : Purpose) × (x ≡ Held i p)

-- the places of a run get another owner
abbrev pub put_run : (ℕ → Owner) → ℕ → ℕ → Owner → ℕ → Owner
put_run owner place count x t = if within place count t then x else owner t

-- each place of a bucket is as new
abbrev pub fresh_in : (ℕ → ℕ) → ℕ → (ℕ → Owner) → ℕ → Owner
fresh_in bucket b owner t = if bucket t == b then Fresh else owner t

-- a raised bucket goes to a list that has room, or to none
abbrev pub by_room : Option Purpose → Shelf
by_room None = Loose
by_room (Some p) = Listed p

-- a bucket of priority sets goes back to its list, if that has room
abbrev pub back : Bool → Shelf
back true = Listed Priorities
back false = Loose

-- so does one that is let go though it was taken for them; another one is on no list then
abbrev pub put_back : Bool → Shelf → Shelf
put_back room (Held i Priorities) = back room
put_back room x = Loose
