-- How a mode is written.
use Rattle.std.specs.Prelude.{ℕ, List, codes}
use Rattle.bc_mode.specs.declared.mode.Mode.{Mode}
use Rattle.bc_mode.specs.declared.mode.Mode.TheVariants as modes

-- on a command line, and where a superblock is shown
abbrev pub mode_text : Mode → List ℕ
mode_text modes.Writethrough = codes "writethrough"
mode_text modes.Writeback = codes "writeback"
mode_text modes.Writearound = codes "writearound"
mode_text modes.None = codes "none"
