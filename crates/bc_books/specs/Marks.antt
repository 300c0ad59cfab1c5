-- Marks: what forbids that a bucket is raised, and what a walk over all keys makes of them.
use Rattle.std.specs.Prelude.{ℕ, zero, suc, Bool, true, false, Option, Some, None, if◌then◌else◌, ◌==◌, ◌||◌, ◌&&◌, nat_le}
use Rattle.bc_books.specs.Index.{Pointer, is_dirty}

-- no live key was found; only clean data; dirty data; superblock, journal, uuid table, node or
-- priority set
pub data Mark : Type 0 where
  Unmarked Reclaimable Dirtied Metadata : Mark

-- neither dirty data nor metadata
abbrev pub is_free : Mark → Bool
is_free Unmarked = true
is_free Reclaimable = true
is_free Dirtied = false
is_free Metadata = false

-- a key that comes in makes its bucket dirty, or at least reclaimable
abbrev pub with_key : (dirty any : Bool) → Mark → Mark
with_key true any m = Dirtied
with_key false true Unmarked = Reclaimable
with_key false any m = m

-- some number below n
abbrev pub any : ℕ → (ℕ → Bool) → Bool
any zero f = false
any (suc n) f = f n || any n f

-- a sector's dirty key points into the bucket
abbrev pub dirty_in : (ℕ → ℕ) → ℕ → Option Pointer → Bool
dirty_in bucket b None = false
dirty_in bucket b (Some r) = is_dirty r.kind && (bucket r.place == b)

-- its key, of any kind, does
abbrev pub points_into : (ℕ → ℕ) → ℕ → Option Pointer → Bool
points_into bucket b None = false
points_into bucket b (Some r) = bucket r.place == b

-- it is as new as its bucket
abbrev pub is_live : (ℕ → ℕ) → (ℕ → ℕ) → Option Pointer → Bool
is_live bucket version None = false
is_live bucket version (Some r) = version (bucket r.place) == r.version

abbrev pub older : (ℕ → ℕ) → ℕ → Option Pointer → ℕ → ℕ
older bucket b None x = x
older bucket b (Some r) x =
    if bucket r.place == b then (if nat_le r.version x then r.version else x) else x

-- the oldest version that a key among the first n sectors, stale or not, has for the bucket, or the
-- bucket's own
abbrev pub oldest : (ℕ → ℕ) → ℕ → ℕ → (ℕ → Option Pointer) → ℕ → ℕ
oldest bucket b own seen zero = own
oldest bucket b own seen (suc n) = older bucket b (seen n) (oldest bucket b own seen n)

-- the mark by the live keys of a walk: dirty ones, clean ones or none. Dirty keys are live always
abbrev pub mark_by : Bool → Bool → Mark
mark_by true live = Dirtied
mark_by false true = Reclaimable
mark_by false false = Unmarked

abbrev pub found_mark : (ℕ → ℕ) → ℕ → (ℕ → Option Pointer) → (ℕ → Bool) → ℕ → Mark
found_mark bucket b seen live n =
    mark_by (any n (λ s. dirty_in bucket b (seen s)))
    (any n (λ s. live s && points_into bucket b (seen s)))

abbrev pub unless : {A : Type 0} → Bool → A → A → A
unless true old new = old
unless false old new = new

-- a walk leaves the mark Metadata alone
abbrev pub settled : Mark → Mark → Mark
settled Metadata new = Metadata
settled old new = new
