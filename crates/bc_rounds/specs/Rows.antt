-- A row of a leaf is counted by a walk: what that is to a round, which sees by sectors where each one
-- points.
use Rattle.std.specs.Prelude.{◌≡◌, ◌⊎◌, ℕ, ◌+◌, ◌%◌, ◌<◌, ◌≤◌, ◌==◌, Bool, true, false, List, length, Option, Some, None}
use Rattle.bc_books.specs.Books.{Setup}
use Rattle.bc_books.specs.Index.{Pointer, is_dirty}
use Rattle.bc_books.specs.Round.{Round}
use Rattle.bc_bucket.specs.Walk.{found_at, walked}
use Rattle.bc_bucket.specs.declared.walk.Found.{Found}
use Rattle.bc_bucket.specs.declared.walk.Reference.{Reference}
use Rattle.bc_machine.specs.Containers.{IsFoundFor, IsSeenIn}

-- where each sector of a walked leaf pointed, and whether that was live
pub record Sight : Type 0 where
  pub seen : ℕ → Option Pointer
  pub live : ℕ → Bool

-- so many buckets have what a walk with this sight finds for them
abbrev pub AreFound : (w : Setup) (before count : ℕ) → Sight → List Found → Type 0
AreFound w before count x walk = (q : ℕ) → before + q < count
    → IsFoundFor w x.seen x.live q (found_at walk (before + q))

-- what a round has seen
abbrev pub sight_of : Round → Sight
sight_of x = record { seen = x.seen; live = x.live }

-- a version is another one of its bucket, or the same, and not long past
pub record IsNear (now then_ : ℕ) : Type 0 where
  pub past : then_ ≤ now
  pub near : now ≤ then_ + 96

-- each pointer into the bucket that was seen is near the version that the bucket has now
abbrev pub AreNear : (w : Setup) (x : Sight) (q now : ℕ) → Type 0
AreNear w x q now = (s : ℕ) (r : Pointer) → IsSeenIn w x.seen q s r → IsNear now r.version

-- One more row: its sectors, of which none was seen yet, point into this bucket, whose version is
-- `now`. All have one version, and are dirty or clean as the row's pointer is.
pub record IsRowIn (w : Setup) (x y : Sight) (q now own : ℕ) (ref : Reference) : Type 0 where
  pub on : ℕ → Bool
  pub old : ℕ
  pub new : (s : ℕ) → on s ≡ true → (r : Pointer) × (y.seen s ≡ Some r) × (w.bucket r.place ≡ q)
      × (r.version ≡ old) × (is_dirty r.kind ≡ ref.dirty)
  pub live : (s : ℕ) → on s ≡ true → y.live s ≡ (now == old)
  pub unseen : (s : ℕ) → on s ≡ true → x.seen s ≡ None
  pub others : (s : ℕ) → on s ≡ false → (y.seen s ≡ x.seen s) × (y.live s ≡ x.live s)
  -- it has one sector at least
  pub one : ℕ
  pub one_on : on one ≡ true
  pub within : one < w.size
  pub near : IsNear now old
  -- what is dirty is live always
  pub dirty : ref.dirty ≡ true → now ≡ old
  -- the device has bytes of both versions
  pub generation : ref.generation ≡ old % 256
  pub own_is : own ≡ now % 256

-- Once the row was counted, the walk has what the round saw with it.
abbrev pub LawRow : Type 0
LawRow = (w : Setup) (before count q now own : ℕ) (x y : Sight) (walk : List Found)
    (ref : Reference) → length walk ≡ count → before + q < count → AreNear w x q now
    → AreFound w before count x walk → IsRowIn w x y q now own ref
    → AreFound w before count y (walked (before + q) own ref walk)

-- It finds the same where each sector pointed to the same, and was live alike if it pointed anywhere.
abbrev pub LawAlike : Type 0
LawAlike = (w : Setup) (before count : ℕ) (x y : Sight) (walk : List Found)
    → ((s : ℕ) → y.seen s ≡ x.seen s) → ((s : ℕ) → (y.live s ≡ x.live s) ⊎ (x.seen s ≡ None))
    → AreFound w before count x walk → AreFound w before count y walk
