-- Which of its choices each sector has after a crash.
use Rattle.std.specs.Prelude.{ℕ, ◌+◌, ◌%◌, List, [], length, slice_index_or}
use Rattle.bc_model.specs.Sector.{Image}
use Rattle.bc_disk.specs.declared.crash.Pick.{Pick}
use Rattle.bc_disk.specs.declared.crash.Pick.TheVariants.{Stable, Newest, Mixed}
use Rattle.bc_disk.specs.declared.log.Logged.{Logged}
use Rattle.bc_disk.specs.Log.{values_at, choices}

-- which of its choices a sector takes that was written so often
abbrev pub choice : Pick → ℕ → ℕ → ℕ
choice Stable s written = 0
choice Newest s written = written
choice (Mixed n) s written = (n + s) % (written + 1)

-- what this sector is after a crash
abbrev pub picked : Pick → List ℕ → List Logged → Image
picked pick stable log s = slice_index_or (choices stable log s) (choice pick s (length (values_at s log))) []
