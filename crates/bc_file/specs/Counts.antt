-- Counts of calls and faults.
use Rattle.std.specs.Prelude.{Result, Ok, Err}
use Rattle.bc_disk.specs.Device.{next_count}
use Rattle.bc_file.specs.declared.counts.Counts.{Counts}

abbrev pub none_made : Counts
none_made = record { calls = 0; faults = 0 }

-- after a call with this outcome
abbrev pub counted : {T E : Type 0} → Result T E → Counts → Counts
counted (Ok _) c = record { calls = next_count c.calls; faults = c.faults }
counted (Err _) c = record { calls = next_count c.calls; faults = next_count c.faults }
