-- What the flags say.
use Rattle.std.proofs.Common.{◌≡◌, ◌≢◌, ℕ, ◌^◌, ◌<◌, arith}
use Rattle.bc_super.specs.Super.{state_number, mode_number}
use Rattle.bc_super.specs.declared.state.BackingState.{BackingState}
use Rattle.bc_super.specs.declared.state.BackingState.TheVariants as state
use Rattle.bc_state.specs.State.{IsCached, flags_with, number_of}
use Rattle.bc_state.specs.Laws.{LawFlags, LawUsable}

-- the number is read as it was set
pub number_again : (n flags : ℕ) → n < 4 → state_number (flags_with n flags) ≡ n
number_again n flags small = omega arith

same_mode : (n flags : ℕ) → mode_number (flags_with n flags) ≡ mode_number flags
same_mode n flags = omega arith

within : (n flags : ℕ) → n < 4 → flags < 2 ^ 64 → flags_with n flags < 2 ^ 64
within n flags small low = omega arith

says : (n flags : ℕ) → n < 4 → flags < 2 ^ 64 → (flags_with n flags < 2 ^ 64)
    × (state_number (flags_with n flags) ≡ n) × (mode_number (flags_with n flags) ≡ mode_number flags)
says n flags small low = (within n flags small low, number_again n flags small, same_mode n flags)

pub law_flags : LawFlags
law_flags state.None flags low = says 0 flags (omega arith) low
law_flags state.Clean flags low = says 1 flags (omega arith) low
law_flags state.Dirty flags low = says 2 flags (omega arith) low
law_flags state.Stale flags low = says 3 flags (omega arith) low

-- a device with a cache is clean or dirty, and never stale
pub not_stale : (state : BackingState) (flags : ℕ) → IsCached state
    → state_number (flags_with (number_of state) flags) ≢ 3
not_stale state.None flags cached = absurd cached
not_stale state.Clean flags cached =
    let is = number_again 1 flags (omega arith) in λ three. absurd (omega arith)
not_stale state.Dirty flags cached =
    let is = number_again 2 flags (omega arith) in λ three. absurd (omega arith)
not_stale state.Stale flags cached = absurd cached

pub law_usable : LawUsable
law_usable sectors s state cached usable = record {
  version = usable.version;
  fixed = usable.fixed;
  data_offset = usable.data_offset;
  state = not_stale state s.flags cached;
}
