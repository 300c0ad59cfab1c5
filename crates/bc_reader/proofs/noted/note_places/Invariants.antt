use Rattle.std.specs.Prelude.{Contains}
use Rattle.bc_reader.specs.Noted.{AreNotedFor}
use Rattle.bc_reader.specs.declared.noted.Noted.{Noted}
use Rattle.bc_reader.proofs.noted.note_places.Given as goal

abbrev pub invariant-loop-k : goal.invariant-loop-k
invariant-loop-k l = ((n : Noted) → Contains l.initial.noted.items n → Contains l.noted.items n)
    × AreNotedFor l.noted.items l.buckets l.at l.k
