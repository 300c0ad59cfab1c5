-- The text by which two superblocks are shown.
use Rattle.std.specs.Prelude.{◌≡◌, ℕ, ◌/◌, ◌%◌, ◌^◌, List, [], ◌∷◌, ◌++◌, codes, ◌==◌, if◌then◌else◌}
use Rattle.std.specs.Char.{digit_char}
use Rattle.std.specs.Fmt.{decimal}
use Rattle.std.specs.List.{flat_map}
use Rattle.bc_mode.specs.Mode.{mode_text}
use Rattle.bc_super.specs.Super.{IsMode, IsState, mode_number, state_number}
use Rattle.bc_super.specs.declared.backing.BackingSuper.{BackingSuper}
use Rattle.bc_super.specs.declared.cache.CacheSuper.{CacheSuper}
use Rattle.bc_mode.specs.declared.mode.Mode.{Mode}
use Rattle.bc_mode.specs.declared.mode.Mode.TheVariants as modes
use Rattle.bc_super.specs.declared.state.BackingState.{BackingState}
use Rattle.bc_super.specs.declared.state.BackingState.TheVariants as states

-- two lower-case hexadecimal digits for each byte
abbrev pub hex : List ℕ → List ℕ
hex bytes = flat_map (λ b. digit_char (b / 16) ∷ digit_char (b % 16) ∷ []) bytes

-- the line's words, ended
abbrev pub ended : List ℕ → List ℕ
ended words = words ++ codes "\n"

abbrev pub state_text : BackingState → List ℕ
state_text states.None = codes "none"
state_text states.Clean = codes "clean"
state_text states.Dirty = codes "dirty"
state_text states.Stale = codes "stale"

-- which bucket of a cache device is given up first: bits 2 to 4 of its flags
abbrev pub replacement_text : ℕ → List ℕ
replacement_text n = if n == 0 then codes "lru" else (if n == 1 then codes "fifo" else (if n == 2 then codes "random" else codes "other"))

-- a word and its value, each behind a space
abbrev pub pair : List ℕ → List ℕ → List ℕ
pair word value = codes " " ++ word ++ codes " " ++ value

abbrev pub cache_line : CacheSuper → List ℕ
cache_line c = ended (codes "cache" ++ pair (codes "version") (decimal c.version) ++ pair (codes "block") (decimal c.block) ++ pair (codes "bucket") (decimal c.bucket)
    ++ pair (codes "buckets") (decimal c.nbuckets) ++ pair (codes "first") (decimal c.first_bucket) ++ pair (codes "journal") (decimal c.journal)
    ++ pair (codes "replacement") (replacement_text (c.flags / 2 ^ 2 % 2 ^ 3)) ++ pair (codes "sync") (decimal (c.flags % 2)) ++ pair (codes "discard") (decimal (c.flags / 2 % 2)))

abbrev pub backing_line : BackingSuper → ℕ → Mode → BackingState → List ℕ
backing_line b size mode state = ended (codes "backing" ++ pair (codes "version") (decimal b.version) ++ pair (codes "offset") (decimal b.data_offset)
    ++ pair (codes "size") (decimal size) ++ pair (codes "mode") (mode_text mode) ++ pair (codes "state") (state_text state))

-- the line of the uuids of a device and its set
abbrev pub uuid_line : List ℕ → List ℕ → List ℕ → List ℕ
uuid_line device uuid set = ended (device ++ pair (codes "uuid") (hex uuid) ++ pair (codes "set") (hex set))

-- the four lines, with the mode and the state that the flags of the backing device name
abbrev pub IsShown : CacheSuper → BackingSuper → ℕ → List ℕ → Type 0
IsShown c b size text = (mode : Mode) × (state : BackingState) × IsMode (mode_number b.flags) mode × IsState (state_number b.flags) state
    × (text ≡ cache_line c ++ uuid_line (codes "cache") c.uuid c.set_uuid ++ backing_line b size mode state ++ uuid_line (codes "backing") b.uuid b.set_uuid)
