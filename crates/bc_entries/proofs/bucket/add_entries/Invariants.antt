use Rattle.std.proofs.Common.{◌≡◌, ℕ, ◌+◌, ◌-◌, ◌*◌, List, ◌++◌}
use Rattle.bc_disk.specs.Bytes.{image_of}
use Rattle.bc_record.specs.Kind.{behind}
use Rattle.bc_record.specs.Places.{placed}
use Rattle.bc_jset.specs.declared.entry.JEntry.{JEntry}
use Rattle.bc_jset.specs.Records.{entry_kind}
use Rattle.bc_entries.proofs.There.{ListsOn}
use Rattle.bc_entries.proofs.bucket.add_entries.Given as goal

abbrev pub invariant-loop-item : goal.invariant-loop-item
invariant-loop-item l = record {
  blocks : ℕ;
  whole : l.g.bucket ≡ l.place + l.g.block * blocks;
  here : List JEntry;
  all : l.all.items ≡ l.initial.all.items ++ placed (entry_kind l.g) l.start here;
  lists : ListsOn (entry_kind l.g) (image_of l.bytes) l.g.bucket 0 here l.place;
  at : behind (entry_kind l.g) l.start here ≡ l.start + l.place;
}

abbrev pub decreases-loop-item : goal.decreases-loop-item
decreases-loop-item l = l.g.bucket - l.place
