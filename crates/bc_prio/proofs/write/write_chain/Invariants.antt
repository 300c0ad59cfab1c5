use Rattle.std.proofs.Common.{◌≡◌, drop}
use Rattle.std.specs.Prelude.{Result}
use Rattle.bc_disk.specs.declared.disk.Failed.{Failed}
use Rattle.bc_prio.specs.Writes.{WritesSets}
use Rattle.bc_prio.proofs.write.write_chain.Given as goal

abbrev pub invariant-loop-part : goal.invariant-loop-part
invariant-loop-part g l = record {
  -- what is written from here on ends what was written before
  goes_on : (answer : Result (Unit {0}) Failed) (end : g.row.D.Denot) → WritesSets g.D.Disk.facts l.g l.gens.records answer l.part (drop l.part l.into) l.disk end
      → WritesSets g.D.Disk.facts l.g l.gens.records answer 0 l.into l.initial.disk end;
  size : (g.D.Disk.facts l.disk).sectors ≡ (g.D.Disk.facts l.initial.disk).sectors;
}
