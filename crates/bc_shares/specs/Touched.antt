-- Which deeds change a part's share.
use Rattle.std.specs.Prelude.{◌≡◌, ℕ, Bool, true, false, ◌==◌, ◌||◌, Option, Some, None}
use Rattle.bc_leaves.specs.Parts.{Leaving, Coming}
use Rattle.bc_leaves.specs.Parts as parts
use Rattle.bc_leaves.specs.After.{has}
use Rattle.bc_events.specs.declared.event.Change.{Change}
use Rattle.bc_events.specs.declared.event.NewChain.{NewChain}
use Rattle.bc_events.specs.declared.event.NewRoot.{NewRoot}
use Rattle.bc_events.specs.declared.event.Written.{Written}
use Rattle.bc_events.specs.declared.event.Written.TheVariants as written
use Rattle.bc_events.specs.declared.event.Failure.{Failure}
use Rattle.bc_events.specs.declared.event.Failure.TheVariants as failure
use Rattle.bc_events.specs.declared.event.Deed.{Deed}
use Rattle.bc_events.specs.declared.event.Deed.TheVariants as deed

-- keys come in, and entries are sealed and durable
abbrev pub touches_journal : Deed → Bool
touches_journal (deed.InsertWrite leaf keys of first values) = true
touches_journal (deed.Insert leaf keys form) = true
touches_journal (deed.Settle leaf candidate keys) = true
touches_journal (deed.Seal last_seq bucket rest new_root chain) = true
touches_journal deed.Sealed = true
touches_journal d = false

abbrev pub is_new : Option NewChain → Bool
is_new None = false
is_new (Some x) = true

-- places and buckets are taken, let go and raised, keys come in, a new chain is named, nodes change,
-- and rounds
abbrev pub touches_buckets : Deed → Bool
touches_buckets (deed.Pin at count full) = true
touches_buckets (deed.Unpin kind) = true
touches_buckets (deed.Take purpose bucket) = true
touches_buckets (deed.Raise bucket) = true
touches_buckets (deed.Ready back named) = true
touches_buckets (deed.InsertWrite leaf keys of first values) = true
touches_buckets (deed.Insert leaf keys form) = true
touches_buckets (deed.Settle leaf candidate keys) = true
touches_buckets (deed.Seal last_seq bucket rest new_root chain) = is_new chain
touches_buckets (deed.Install change come gone) = true
touches_buckets (deed.Mark form) = true
touches_buckets d = false

-- ---- a leaf

abbrev pub among_leaves : ℕ → Change → Bool
among_leaves k c = has c.gone.items k || has c.come.items k

abbrev pub write_touches_leaf : ℕ → Written → Bool
write_touches_leaf k (written.Set leaf) = k == leaf
write_touches_leaf k (written.Parent inner change) = among_leaves k change
write_touches_leaf k (written.Leaf node) = k == node.slot
write_touches_leaf k what = false

abbrev pub root_touches_leaf : ℕ → Option NewRoot → Bool
root_touches_leaf k None = false
root_touches_leaf k (Some x) = among_leaves k x.change

abbrev pub fault_touches_leaf : ℕ → Failure → Bool
fault_touches_leaf k (failure.CacheWrite at what values) = write_touches_leaf k what
fault_touches_leaf k x = false

-- keys come into the leaf, a set of it is written, or a change of the tree takes it or brings it
abbrev pub touches_leaf : ℕ → Deed → Bool
touches_leaf k (deed.InsertWrite leaf keys of first values) = k == leaf
touches_leaf k (deed.Insert leaf keys form) = k == leaf
touches_leaf k (deed.Settle leaf candidate keys) = k == leaf
touches_leaf k (deed.CacheWrite at what values) = write_touches_leaf k what
touches_leaf k (deed.Seal last_seq bucket rest new_root chain) = root_touches_leaf k new_root
touches_leaf k (deed.Install change come gone) = among_leaves k change
touches_leaf k (deed.DeviceFault x) = fault_touches_leaf k x
touches_leaf k d = false

-- An install names each leaf that leaves or comes, and says of no other that it comes.
pub record NamesChange (st : parts.State) (c : Change) : Type 0 where
  pub gone : (k : ℕ) → (st.leaves k).role ≡ Leaving → has c.gone.items k ≡ true
  pub come : (k : ℕ) → (st.leaves k).role ≡ Coming → has c.come.items k ≡ true
  pub only : (k : ℕ) → has c.come.items k ≡ true → (st.leaves k).role ≡ Coming

abbrev pub NamesItsChange : parts.State → Deed → Type 0
NamesItsChange st (deed.Install change come gone) = NamesChange st change
NamesItsChange st d = Unit {0}

-- ---- the spine

abbrev pub write_touches_spine : Written → Bool
write_touches_spine (written.Parent inner change) = true
write_touches_spine (written.Leaf node) = true
write_touches_spine (written.Inner node) = true
write_touches_spine what = false

abbrev pub is_root : Option NewRoot → Bool
is_root None = false
is_root (Some x) = true

abbrev pub fault_touches_spine : Failure → Bool
fault_touches_spine (failure.CacheWrite at what values) = write_touches_spine what
fault_touches_spine x = false

-- new nodes are written, and a change of the tree begins, is made, or is over
abbrev pub touches_spine : Deed → Bool
touches_spine (deed.CacheWrite at what values) = write_touches_spine what
touches_spine (deed.Seal last_seq bucket rest new_root chain) = is_root new_root
touches_spine (deed.Install change come gone) = true
touches_spine (deed.DeviceFault x) = fault_touches_spine x
touches_spine d = false
