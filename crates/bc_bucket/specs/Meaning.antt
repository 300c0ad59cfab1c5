-- What a walk's record of a bucket says of the keys that it saw.
use Rattle.std.specs.Prelude.{◌≡◌, ℕ, ◌-◌, ◌<◌, ◌≤◌, ◌^◌, Bool, true, false, not, min, List, [], ◌∷◌, length, filter, sum_by, slice_index_or, MatchOption}
use Rattle.std.specs.List.{list_any}
use Rattle.bc_key.specs.Generation.{behind}
use Rattle.bc_bucket.specs.declared.bucket.Mark.{Mark}
use Rattle.bc_bucket.specs.declared.bucket.Mark.TheVariants as marks
use Rattle.bc_bucket.specs.declared.walk.Found.{Found}
use Rattle.bc_bucket.specs.declared.walk.Reference.{Reference}
use Rattle.bc_bucket.specs.Walk.{is_stale}

abbrev pub no_reference : Reference
no_reference = record { generation = 0; sectors = 0; dirty = false }

-- the pointers that aren't stale, into a bucket whose generation is `own`
abbrev pub live_ones : ℕ → List Reference → List Reference
live_ones own rs = filter (λ r. not (is_stale own r.generation)) rs

-- dirty if a live one is, else reclaimable if there is one
abbrev pub mark_by : Bool → List Reference → Mark
mark_by true rs = marks.Dirty
mark_by false [] = marks.None
mark_by false (r ∷ rs) = marks.Reclaimable

-- no pointer has an older generation than this one, which one has
pub record IsOldest (own : ℕ) (rs : List Reference) (generation : ℕ) : Type 0 where
  pub place : ℕ
  pub within : place < length rs
  pub is : (slice_index_or rs place no_reference).generation ≡ generation
  pub none_older : (i : ℕ) → i < length rs → behind own (slice_index_or rs i no_reference).generation ≤ behind own generation

-- this is what was found for a bucket into which these pointers of keys point
pub record IsFound (own : ℕ) (rs : List Reference) (f : Found) : Type 0 where
  pub mark : f.mark ≡ mark_by (list_any (λ r. r.dirty) (live_ones own rs)) (live_ones own rs)
  pub used : f.used ≡ min (sum_by (λ r. r.sectors) (live_ones own rs)) (2 ^ 32 - 1)
  pub oldest : MatchOption f.last_gc (rs ≡ []) (λ g. IsOldest own rs g)
