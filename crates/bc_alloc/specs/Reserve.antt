-- A list of buckets that are ready to be taken.
use Rattle.std.specs.Prelude.{ℕ, ◌-◌, ◌≤◌, ◌==◌, Bool, true, false, nat_lt, List, [], ◌∷◌, ◌++◌, length, count_by}

-- what a `Reserve` is seen as
pub record Reserve : Type 0 where
  -- how many buckets it may have
  pub room : ℕ
  -- the one that is taken next is the first
  pub buckets : List ℕ

abbrev pub no_reserve : Reserve
no_reserve = record { room = 0; buckets = [] }

abbrev pub has_room : Reserve → Bool
has_room l = nat_lt (length l.buckets) l.room

-- how many more it may have
abbrev pub free : Reserve → ℕ
free l = l.room - length l.buckets

-- one more, at the end or at the front
abbrev pub appended : ℕ → Reserve → Reserve
appended k l = record l { buckets = l.buckets ++ k ∷ [] }

abbrev pub prepended : ℕ → Reserve → Reserve
prepended k l = record l { buckets = k ∷ l.buckets }

-- how often a bucket stands on a list
abbrev pub times : ℕ → List ℕ → ℕ
times k ks = count_by (λ x. x == k) ks

-- no bucket stands on the list twice
abbrev pub IsDistinct : List ℕ → Type 0
IsDistinct ks = (k : ℕ) → times k ks ≤ 1

abbrev pub flag : Bool → ℕ
flag true = 1
flag false = 0
