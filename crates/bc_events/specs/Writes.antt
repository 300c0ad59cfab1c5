-- What writes of the cache device are to the whole machine.
use Rattle.std.specs.Prelude.{ℕ, false, List, [], ◌∷◌, take, Option, Some, None}
use Rattle.bc_model.specs.Sector.{Value}
use Rattle.bc_meta.specs.Tree.{NodeSet, Owner}
use Rattle.bc_leaves.specs.Parts.{Draft, leaf_owner, inner_owner}
use Rattle.bc_leaves.specs.Parts as parts
use Rattle.bc_whole.specs.State.{Opening, Write, OfData, OfEntry, OfSet, OfParent, OfLeaf, OfInner, OfPriorities}
use Rattle.bc_known.specs.Acts.{State, Act, WriteCache, FailCache, BeginChange}
use Rattle.bc_events.specs.Changes.{buckets_come, without}
use Rattle.bc_events.specs.declared.event.Change.{Change}
use Rattle.bc_events.specs.declared.event.NewNode.{NewNode}
use Rattle.bc_events.specs.declared.event.Written.{Written}
use Rattle.bc_events.specs.declared.event.Written.TheVariants.{Data, Entry, Set, Parent, Leaf, Inner, Priorities}

-- a node that nothing names yet
abbrev pub draft_leaf : NewNode → parts.Leaf
draft_leaf x = record {
  first = x.first;
  end = x.end;
  bucket = x.bucket;
  word = x.word;
  role = Draft;
  loaded = false;
  pending = [];
}

abbrev pub draft_inner : NewNode → parts.InnerNode
draft_inner x = record {
  first = x.first;
  end = x.end;
  bucket = x.bucket;
  word = x.word;
  height = x.height;
  role = Draft;
  loaded = false;
}

abbrev pub map_some : {A B : Type 0} → (A → B) → Option A → Option B
map_some f None = None
map_some f (Some x) = Some (f x)

-- what values spell that are read so
abbrev pub set_in : Opening → Owner → List Value → Option NodeSet
set_in w o values = w.layout.sets.spelled o values

-- what a write of these values to this place is
abbrev pub write_of : Opening → State → Written → ℕ → List Value → Option Write
write_of w st Data at values = Some (OfData (w.flow.books.bucket at) at)
write_of w st Entry at values = Some OfEntry
write_of w st (Set leaf) at values =
    map_some (OfSet leaf) (set_in w (leaf_owner (st.whole.parts.leaves leaf)) values)
write_of w st (Parent inner change) at values =
    map_some (OfParent inner) (set_in w (inner_owner (st.whole.parts.inner_nodes inner)) values)
write_of w st (Leaf x) at values =
    map_some (OfLeaf x.slot (draft_leaf x)) (set_in w (leaf_owner (draft_leaf x)) (take x.sectors values))
write_of w st (Inner x) at values =
    map_some (OfInner x.slot (draft_inner x)) (set_in w (inner_owner (draft_inner x)) (take x.sectors values))
write_of w st (Priorities bucket part) at values =
    map_some (OfPriorities bucket part) (w.layout.prios.spelled part values)

-- a change of the tree begins with what makes it
abbrev pub beginning : State → Change → Act
beginning st c = BeginChange c.low c.high c.gone.items c.come.items c.old.items c.new.items
    (without st.whole.parts.records.unused (buckets_come st.whole.parts c))

abbrev pub with_beginning : State → Written → List Act → List Act
with_beginning st (Parent inner change) acts = beginning st change ∷ acts
with_beginning st what acts = acts

-- a write, and one that fails
abbrev pub acts_of_write : Opening → State → Written → ℕ → List Value → Option (List Act)
acts_of_write w st what at values =
    map_some (λ x. with_beginning st what (WriteCache x values ∷ [])) (write_of w st what at values)

abbrev pub acts_of_failure : Opening → State → Written → ℕ → List Value → Option (List Act)
acts_of_failure w st what at values =
    map_some (λ x. with_beginning st what (FailCache x values ∷ [])) (write_of w st what at values)
