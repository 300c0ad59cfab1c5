use Rattle.std.proofs.Common.{◌≡◌, ℕ, ◌+◌, ◌-◌, ◌*◌, List, ◌++◌}
use Rattle.bc_disk.specs.Bytes.{image_of}
use Rattle.bc_record.specs.Kind.{behind}
use Rattle.bc_record.specs.Places.{placed}
use Rattle.bc_jset.specs.declared.entry.JEntry.{JEntry}
use Rattle.bc_jset.specs.Records.{entry_kind}
use Rattle.bc_plain.proofs.Listed.{ListsOn}
use Rattle.bc_plain.proofs.journal.add_bucket.Given as goal

abbrev pub invariant-loop-entry : goal.invariant-loop-entry
invariant-loop-entry l = record {
  blocks : ℕ;
  whole : l.end ≡ l.place + l.g.block * blocks;
  here : List JEntry;
  all : l.all.items ≡ l.initial.all.items ++ placed (entry_kind l.g) l.start here;
  next : l.place ≡ behind (entry_kind l.g) l.start here;
  lists : ListsOn (entry_kind l.g) (image_of l.image) l.end l.start here l.place;
}

abbrev pub decreases-loop-entry : goal.decreases-loop-entry
decreases-loop-entry l = l.end - l.place
