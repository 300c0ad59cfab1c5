-- The calls of an object in memory: how many were made, how many failed, and which are to fail.
use Rattle.std.specs.Prelude.{ℕ, ◌+◌, min, Bool, false, ◌||◌, nat_le, ◌==◌, List, [], ◌∷◌, ◌++◌, Option, Some, None, Result, Ok, Err}
use Rattle.std.specs.List.{list_any}
use Rattle.bc_disk.specs.Device.{next_count}

pub record Tally : Type 0 where
  -- the numbers of the calls that were told to fail
  pub failing : List ℕ
  -- after how many calls each one fails, where that was told
  pub stop : Option ℕ
  pub made : ℕ
  pub faults : ℕ

-- no call was made, and none is to fail
abbrev pub none_made : Tally
none_made = record { failing = []; stop = None; made = 0; faults = 0 }

-- so many calls were made that the next one fails
abbrev pub is_stopped : Option ℕ → ℕ → Bool
is_stopped None made = false
is_stopped (Some calls) made = nat_le calls made

-- the next call was told to fail by its number; the first call has number 1
abbrev pub is_named : Tally → Bool
is_named t = list_any (λ n. n == t.made + 1) t.failing

-- whether the next call is one that was told to fail
abbrev pub next_fails : Tally → Bool
next_fails t = is_stopped t.stop t.made || is_named t

-- told that the call with this number fails
abbrev pub failing_at : ℕ → Tally → Tally
failing_at call t = record t { failing = t.failing ++ call ∷ [] }

-- told that every call after so many fails; of two such numbers the smaller one counts
abbrev pub earlier : Option ℕ → ℕ → ℕ
earlier None calls = calls
earlier (Some stop) calls = min stop calls

abbrev pub stopping_after : ℕ → Tally → Tally
stopping_after calls t = record t { stop = Some (earlier t.stop calls) }

-- after a call that succeeded, and after one that failed
abbrev pub succeeded : Tally → Tally
succeeded t = record t { made = next_count t.made }

abbrev pub faulted : Tally → Tally
faulted t = record t { made = next_count t.made; faults = next_count t.faults }

abbrev pub counted : {T E : Type 0} → Result T E → Tally → Tally
counted (Ok _) t = succeeded t
counted (Err _) t = faulted t
