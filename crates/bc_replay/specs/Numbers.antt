-- The numbers of the refusals.
use Rattle.std.specs.Prelude.{ℕ}
use Rattle.bc_replay.specs.declared.error.OpenError.{OpenError}
use Rattle.bc_replay.specs.declared.error.OpenError.TheVariants as errors

-- the number by which a refusal is printed
abbrev pub number_of : OpenError → ℕ
number_of (errors.Super device why) = 1
number_of errors.NoJournal = 2
number_of (errors.JournalGap from to) = 3
number_of (errors.Prio why) = 4
number_of (errors.Node bucket why) = 5
number_of (errors.PointerRange word) = 6
number_of (errors.Fault device) = 7
number_of errors.Memory = 8
number_of (errors.JournalEnd seq) = 9
number_of (errors.TwoUses bucket) = 10
number_of errors.Uuid = 11
number_of (errors.NoSpare found) = 12
