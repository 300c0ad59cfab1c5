-- What a source and a sink of the outside are to their callers.
use Rattle.std.specs.Prelude.{◌≡◌, ℕ, ◌<◌, ◌≤◌, List, [], ◌++◌, length, take, Option, Some, None, Result, Ok, Err, ◌==◌, if◌then◌else◌}
use Rattle.bc_disk.specs.Device.{next_count}

-- `text` is what a source has left, or what a sink has taken, where it is told
pub record StreamFacts : Type 0 where
  pub text : Option (List ℕ)
  pub faults : ℕ
  -- how often a sink took nothing of a piece that isn't empty; 0 of a source
  pub stops : ℕ

-- told before and after and so related, or told at neither time
abbrev pub BothToldText : (List ℕ → List ℕ → Type 0) → Option (List ℕ) → Option (List ℕ) → Type 0
BothToldText R None None = Unit {0}
BothToldText R None (Some new) = ⊥
BothToldText R (Some old) None = ⊥
BothToldText R (Some old) (Some new) = R old new

-- the first n bytes of what was left stand at the front of the slice
abbrev pub IsMoved : ℕ → List ℕ → List ℕ → List ℕ → Type 0
IsMoved n slice old new = (old ≡ take n slice ++ new)

-- after `next`: a failed call moves nothing; 0 bytes come into a slice that isn't empty only at the end
abbrev pub IsNext : {E : Type 0} → Result ℕ E → List ℕ → StreamFacts → StreamFacts → Type 0
IsNext (Ok n) slice old new = (n ≤ length slice) × BothToldText (IsMoved n slice) old.text new.text
    × (0 < length slice → n ≡ 0 → BothToldText (λ (a b : List ℕ). a ≡ []) old.text new.text) × (new.faults ≡ old.faults)
IsNext (Err _) slice old new = BothToldText (λ (a b : List ℕ). b ≡ a) old.text new.text × (new.faults ≡ next_count old.faults)

-- the count of such puts after one that took n bytes of the piece
abbrev pub stops_after : ℕ → List ℕ → ℕ → ℕ
stops_after n piece stops = if n == 0 then (if length piece == 0 then stops else next_count stops) else stops

-- after `put`: the first n bytes of the piece were taken, and none by a failed call
abbrev pub IsPut : {E : Type 0} → Result ℕ E → List ℕ → StreamFacts → StreamFacts → Type 0
IsPut (Ok n) piece old new = (n ≤ length piece) × BothToldText (λ (a b : List ℕ). b ≡ a ++ take n piece) old.text new.text × (new.faults ≡ old.faults)
    × (new.stops ≡ stops_after n piece old.stops)
IsPut (Err _) piece old new = BothToldText (λ (a b : List ℕ). b ≡ a) old.text new.text × (new.faults ≡ next_count old.faults) × (new.stops ≡ old.stops)
