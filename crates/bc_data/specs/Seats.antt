-- What a seat knows: its claim with what it noted under it, its last write, its open flush, and
-- what it wrote to places that it pinned.
use Rattle.std.specs.Prelude.{◌≡◌, ◌⊎◌, ℕ, suc, ◌+◌, ◌<◌, ◌≤◌, Bool, true, false, ◌&&◌, Option, Some, None, if◌then◌else◌, ◌==◌, nat_le}
use Rattle.bc_model.specs.Sector.{Value}
use Rattle.bc_books.specs.Index.{Pointer}

-- a claim of `count` sectors, none where count is 0
pub record Claim : Type 0 where
  pub first : ℕ
  pub count : ℕ
  pub exclusive : Bool
  -- a write of this seat stands in the history under this claim, or was tried
  pub wrote : Bool
  pub looked : Bool
  -- at the look: how many insertions there were after the leaf's last one, and where each sector
  -- points
  pub keys : ℕ
  pub sight : ℕ → Option Pointer
  -- what was read since
  pub from_cache : ℕ → Option Value
  pub from_backing : ℕ → Option Value
  -- what was read from the cache between the last two looks, from buckets that were not raised, and
  -- `keys` of the first of them
  pub checked : ℕ → Option Value
  pub checked_keys : ℕ
  -- copied to the backing device, and since a barrier durably so
  pub back : ℕ → Bool
  pub firm : ℕ → Bool
  -- dropped, by the insertion of this number at the latest
  pub gone : ℕ → Bool
  pub gone_keys : ℕ
  -- written around the cache
  pub through : ℕ → Option Value

-- the write under the claim: how many insertions must be durable for it to be so, and whether no
-- barrier of the backing device has to come
pub record Last : Type 0 where
  pub line : ℕ
  pub first : ℕ
  pub count : ℕ
  pub keys : ℕ
  pub firm : Bool

-- an open flush, with the same
pub record Flush : Type 0 where
  pub going : Bool
  pub line : ℕ
  pub keys : ℕ
  pub firm : Bool

pub record Seat : Type 0 where
  pub claim : Claim
  pub last : Last
  pub flush : Flush
  pub placed : ℕ → Option Value

-- places whose values wait for a key
pub record Candidate : Type 0 where
  pub first : ℕ
  pub count : ℕ
  pub place : ℕ
  pub stands : Bool
  pub alive : Bool
  -- a barrier of the backing device stands after it
  pub firm : Bool

abbrev pub Covers : Claim → ℕ → Type 0
Covers c s = (c.first ≤ s) × (s < c.first + c.count)

abbrev pub Apart : Claim → Claim → Type 0
Apart a b = ((a.exclusive ≡ false) × (b.exclusive ≡ false))
    ⊎ ((s : ℕ) → Covers a s → Covers b s → ⊥)

abbrev pub nothing : {A : Type 0} → ℕ → Option A
nothing s = None

-- a claim without notes
abbrev pub new_claim : ℕ → ℕ → Bool → Claim
new_claim first count exclusive = record {
  first = first;
  count = count;
  exclusive = exclusive;
  wrote = false;
  looked = false;
  keys = 0;
  sight = nothing;
  from_cache = nothing;
  from_backing = nothing;
  checked = nothing;
  checked_keys = 0;
  back = λ s. false;
  firm = λ s. false;
  gone = λ s. false;
  gone_keys = 0;
  through = nothing;
}

-- a claim under which its seat put a write into the history, or tried to
abbrev pub with_write : Claim → (ℕ → Option Value) → Claim
with_write c through =
    record (new_claim c.first c.count c.exclusive) { wrote = true; through = through }

abbrev pub no_seat : Seat
no_seat = record {
  claim = new_claim 0 0 false;
  last = record { line = 0; first = 0; count = 0; keys = 0; firm = false };
  flush = record { going = false; line = 0; keys = 0; firm = false };
  placed = nothing;
}

abbrev pub no_candidate : Candidate
no_candidate =
    record { first = 0; count = 0; place = 0; stands = false; alive = false; firm = false }

abbrev pub put_seat : (ℕ → Seat) → ℕ → Seat → ℕ → Seat
put_seat seats i x k = if k == i then x else seats k

-- what is noted, over what was
abbrev pub noted : Option Value → Option Value → Option Value
noted None old = old
noted (Some v) old = Some v

-- the new one where the run has a value
abbrev pub unless_run : {A : Type 0} → Option Value → A → A → A
unless_run None old new = old
unless_run (Some v) old new = new

-- two runs have a number in common
abbrev pub overlap : ℕ → ℕ → ℕ → ℕ → Bool
overlap a n b m = nat_le (suc a) (b + m) && nat_le (suc b) (a + n)

-- an exclusive claim kills the candidates of its sectors
abbrev pub killed : ℕ → ℕ → Bool → Candidate → Candidate
killed first count exclusive x = record x {
  alive = if exclusive && overlap first count x.first x.count then false else x.alive;
}

-- every seat learns of a barrier of the backing device
abbrev pub firmed : Seat → Seat
firmed x = record x {
  claim = record x.claim { firm = x.claim.back };
  last = record x.last { firm = true };
  flush = record x.flush { firm = true };
}
