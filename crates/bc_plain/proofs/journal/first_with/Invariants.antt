use Rattle.std.proofs.Common.{◌≡◌, drop}
use Rattle.bc_jset.specs.Entries.{first_with}
use Rattle.bc_plain.proofs.journal.first_with.Given as goal

abbrev pub invariant-loop-entry : goal.invariant-loop-entry
invariant-loop-entry l = first_with l.number l.all ≡ first_with l.number (drop l.entry-index l.all)
