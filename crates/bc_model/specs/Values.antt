-- What the runs of a `Values` stand for: the values of sectors, one behind the other.
use Rattle.std.specs.Prelude.{◌≡◌, ℕ, zero, suc, ◌+◌, ◌*◌, ◌/◌, ◌<◌, ◌≤◌, ◌^◌, List, [], ◌∷◌, ◌++◌, None, length, replicate, option_to_list}
use Rattle.std.specs.List.{flat_map}
use Rattle.bc_model.specs.Sector.{Value, values_of}
use Rattle.bc_model.specs.Pattern.{pattern, zeros}
use Rattle.bc_model.specs.declared.run.Run.{Run}
use Rattle.bc_model.specs.declared.run.Runs.{Runs}
use Rattle.bc_model.specs.declared.run.Run.TheVariants.{Pattern, Zero, Raw}

-- the patterns of one stamp for neighbouring sectors
abbrev pub patterns : ℕ → ℕ → ℕ → List Value
patterns stamp sector zero = []
patterns stamp sector (suc n) = pattern stamp sector ∷ patterns stamp (suc sector) n

abbrev pub values_in : Run → List Value
values_in (Pattern stamp first count) = patterns stamp first count
values_in (Zero count) = replicate count zeros
values_in (Raw bytes) = values_of bytes.items

abbrev pub all_values : List Run → List Value
all_values runs = flat_map values_in runs

-- a pattern has a stamp, and its last sector a number
abbrev pub IsRun : Run → Type 0
IsRun (Pattern stamp first count) = (1 ≤ stamp) × (first + count ≤ 2 ^ 64)
IsRun (Zero count) = Unit {0}
IsRun (Raw bytes) = (length bytes.items ≡ 512 * (length bytes.items / 512)) × (length bytes.items / 512 < 2 ^ 32)

abbrev pub runs_of : Runs → List Run
runs_of runs = runs.rest.items ++ option_to_list runs.last

-- One run stands for both: patterns of one stamp that go on at the next sector, or zeros. So a list of
-- runs takes memory for each change of what is written, and not for each sector. Sectors with other
-- values are never joined.
abbrev pub AreOne : Run → Run → Type 0
AreOne (Pattern stamp first count) (Pattern other behind more) =
    (stamp ≡ other) × (behind ≡ first + count)
AreOne (Pattern stamp first count) (Zero more) = ⊥
AreOne (Pattern stamp first count) (Raw bytes) = ⊥
AreOne (Zero count) (Pattern stamp first more) = ⊥
AreOne (Zero count) (Zero more) = Unit {0}
AreOne (Zero count) (Raw bytes) = ⊥
AreOne (Raw bytes) run = ⊥

-- the run doesn't go on in the first of these
abbrev pub IsApart : Run → List Run → Type 0
IsApart run [] = Unit {0}
IsApart run (next ∷ runs) = AreOne run next → ⊥

-- no run goes on in the next one
abbrev pub AreApart : List Run → Type 0
AreApart [] = Unit {0}
AreApart (run ∷ runs) = IsApart run runs × AreApart runs

-- so are these, and a single one is the last
abbrev pub AreJoined : Runs → Type 0
AreJoined runs = (runs.last ≡ None → runs.rest.items ≡ []) × AreApart (runs_of runs)
