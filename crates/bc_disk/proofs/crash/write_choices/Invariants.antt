use Rattle.std.proofs.Common.{◌≡◌, ℕ, drop, get_or}
use Rattle.bc_disk.specs.Bytes.{image_of}
use Rattle.bc_disk.specs.Log.{values_at}
use Rattle.bc_disk.proofs.Choices.{advance}
use Rattle.bc_disk.proofs.crash.write_choices.Given as goal

-- what is left of the log makes of each sector what the whole log made of it
abbrev pub invariant-loop-written : goal.invariant-loop-written
invariant-loop-written l =
    (s : ℕ) → advance (get_or l.wanted s 0) (image_of l.bytes s) (values_at s (drop l.written-index l.log)) ≡ advance (get_or l.initial.wanted s 0) (image_of l.initial.bytes s) (values_at s l.log)
