-- What nobody writes.
use Rattle.std.specs.Prelude.{◌≡◌, ℕ, ◌+◌, ◌<◌, ◌≤◌, true, List}
use Rattle.bc_model.specs.Sector.{Image}
use Rattle.bc_disk.specs.Device.{MayLeave}
use Rattle.bc_leaves.specs.Parts as parts
use Rattle.bc_whole.specs.State.{Opening}
use Rattle.bc_known.specs.Acts.{Event}
use Rattle.bc_known.specs.Run.{IsRun, run, start}
use Rattle.bc_known.specs.Laws.{IsSound}
use Rattle.bc_ranges.specs.Made.{Frame, AreWellMade}

-- the sector lies in no bucket, or in one that the books know as fixed and that isn't the journal's
abbrev pub IsUntouched : Opening → ℕ → Type 0
IsUntouched w s = (q : ℕ) → q < w.layout.buckets → w.layout.first q ≤ s
    → s < w.layout.first q + w.layout.bucket_sectors
    → (w.layout.journal ≤ q) × (w.flow.books.fixed q ≡ true)

-- Whatever a crash leaves, there it is what it was at the opening.
abbrev pub LawStill : Type 0
LawStill =
    (f : Frame) (w : Opening) (x : parts.State) (next_seq : ℕ) (es : List Event) → IsSound w x
    → IsRun w (start w x next_seq) es → AreWellMade f w (start w x next_seq) es
    → (c : Image) → MayLeave (run w (start w x next_seq) es).whole.flow.cache c
    → (s : ℕ) → IsUntouched w s → c s ≡ w.flow.cache s
