use Rattle.std.proofs.Common.{◌≡◌, ℕ, ◌+◌, ◌-◌, ◌*◌, ◌^◌, ◌≤◌, List, ◌++◌}
use Rattle.bc_disk.specs.Bytes.{image_of}
use Rattle.bc_set.specs.declared.set.Set.{Set}
use Rattle.bc_set.specs.Records.{numbered_kind}
use Rattle.bc_plain_pair.proofs.Sets.{ListsOn}
use Rattle.bc_plain_pair.proofs.node.add_further.Given as goal

abbrev pub invariant-loop-set : goal.invariant-loop-set
invariant-loop-set l = record {
  small : l.end ≤ 2 ^ 44;
  blocks : ℕ;
  whole : l.end ≡ l.place + l.g.block * blocks;
  here : List Set;
  all : l.sets.items ≡ l.initial.sets.items ++ here;
  lists : ListsOn (numbered_kind l.g l.word l.kind l.seq) (image_of l.image) l.end l.from here l.place;
}

abbrev pub decreases-loop-set : goal.decreases-loop-set
decreases-loop-set l = l.end - l.place
