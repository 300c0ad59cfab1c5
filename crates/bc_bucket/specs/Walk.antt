-- What a walk over keys finds for each bucket.
use Rattle.std.specs.Prelude.{ℕ, ◌+◌, ◌-◌, ◌^◌, Bool, true, false, ◌&&◌, nat_lt, nat_le, min, List, slice_index_or, slice_set, Option, Some, None, if◌then◌else◌}
use Rattle.bc_key.specs.Generation.{behind}
use Rattle.bc_bucket.specs.declared.bucket.Mark.{Mark}
use Rattle.bc_bucket.specs.declared.bucket.Mark.TheVariants as marks
use Rattle.bc_bucket.specs.declared.walk.Found.{Found}
use Rattle.bc_bucket.specs.declared.walk.Reference.{Reference}

-- of a bucket into which no key was found
abbrev pub none_found : Found
none_found = record { mark = marks.None; used = 0; last_gc = None }

abbrev pub found_at : List Found → ℕ → Found
found_at walk k = slice_index_or walk k none_found

-- the bucket was given up since this generation; the bucket has the generation `own`
abbrev pub is_stale : ℕ → ℕ → Bool
is_stale own generation = nat_le 1 (behind own generation) && nat_le (behind own generation) 128

-- the one that lies further behind the bucket's own
abbrev pub older : ℕ → Option ℕ → ℕ → ℕ
older own None generation = generation
older own (Some oldest) generation = if nat_lt (behind own oldest) (behind own generation) then generation else oldest

-- a live key makes a bucket dirty, or at least reclaimable
abbrev pub mark_with : Bool → Mark → Mark
mark_with true m = marks.Dirty
mark_with false marks.None = marks.Reclaimable
mark_with false m = m

-- the bucket's use with one more key that points into it; of a stale key the generation alone
-- counts
abbrev pub counted : ℕ → Reference → Found → Found
counted own r f =
    if is_stale own r.generation then record f { last_gc = Some (older own f.last_gc r.generation) }
    else record { mark = mark_with r.dirty f.mark; used = min (f.used + r.sectors) (2 ^ 32 - 1); last_gc = Some (older own f.last_gc r.generation) }

abbrev pub walked : ℕ → ℕ → Reference → List Found → List Found
walked k own r walk = slice_set walk k (counted own r (found_at walk k))
