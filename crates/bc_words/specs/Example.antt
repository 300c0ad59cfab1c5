-- Lines that spell a command: options stand in any order, and a value behind a space or behind `=`.
use Rattle.std.specs.Prelude.{ℕ, List, [], ◌∷◌, Some, codes, replicate, ◌++◌}
use Rattle.bc_words.specs.declared.command.Command.{Command}
use Rattle.bc_words.specs.declared.command.Command.TheVariants.{Format, Serve}
use Rattle.bc_mode.specs.declared.mode.Mode.TheVariants.{Writeback}

-- a cache set with blocks of one sector, which isn't said, buckets of 64, and data from sector 2,048 on, in mode writeback
abbrev pub format_command : Command
format_command = Format (replicate 15 0 ++ 1 ∷ []) (replicate 15 16 ++ 171 ∷ []) (replicate 16 255) 1 64 Writeback 2048

abbrev pub format_words : List (List ℕ)
format_words = codes "format" ∷ codes "--bucket=64" ∷ codes "--cuuid" ∷ codes "101010101010101010101010101010ab"
    ∷ codes "--set=00000000000000000000000000000001" ∷ codes "--mode=writeback" ∷ codes "--offset" ∷ codes "2048" ∷ codes "--buuid" ∷ codes "ffffffffffffffffffffffffffffffff" ∷ []

abbrev pub serve_command : Command
serve_command = Serve (record { mode = Some Writeback; cutoff = 0; slots = 1024 })

abbrev pub serve_words : List (List ℕ)
serve_words = codes "serve" ∷ codes "--cutoff=0" ∷ codes "--mode" ∷ codes "writeback" ∷ []

abbrev pub check_words : List (List ℕ)
check_words = codes "check" ∷ codes "--list" ∷ []
