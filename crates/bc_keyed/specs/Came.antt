-- What keys that come into a leaf make of the state.
use Rattle.std.specs.Prelude.{◌≡◌, ◌≢◌, ℕ, List, [], ◌∷◌, ◌++◌, reverse}
use Rattle.bc_data.specs.Data as flow
use Rattle.bc_journal.specs.Journal.{Journal}
use Rattle.bc_key.specs.declared.key.Key.{Key}
use Rattle.bc_known.specs.Acts.{Keyed, State, after}
use Rattle.bc_leaves.specs.Parts.{AllUpTo, Change, InnerNode, Leaf, Pending, next_number}
use Rattle.bc_leaves.specs.Parts as parts
use Rattle.bc_begun.specs.bc_machine.Containers.{IsJournalOf, IsLeafFor}
use Rattle.bc_node.specs.Leaf as node
use Rattle.bc_node.specs.Leaf.{ArePut, AreAdded, IsSameNode, noted_for}
use Rattle.bc_shares.specs.Shares.{LeafShare, entries_in, journal_share}
use Rattle.bc_whole.specs.State.{Opening}

-- keys, the newest first, as they wait for the entry of this number
abbrev pub pending_as : ℕ → List Key → List Pending
pending_as number [] = []
pending_as number (key ∷ keys) = record { number = number; key = key } ∷ pending_as number keys

abbrev pub with_keys : ℕ → List Key → Leaf → Leaf
with_keys number keys x = record x { pending = pending_as number keys ++ x.pending }

-- These keys, the newest first, came into the leaf of a slot, and that is all that changed of the
-- tree and of the records.
pub record HaveCome (slot : ℕ) (keys : List Key) (a b : parts.State) : Type 0 where
  pub there : b.leaves slot ≡ with_keys (next_number a.records) keys (a.leaves slot)
  pub others : (k : ℕ) → k ≢ slot → b.leaves k ≡ a.leaves k
  pub entries : entries_in b.records
      ≡ record (entries_in a.records) { waiting = keys ++ a.records.waiting }
  pub number : next_number b.records ≡ next_number a.records
  pub nodes : b.records.nodes ≡ a.records.nodes
  pub unused : b.records.unused ≡ a.records.unused
  pub inner_nodes : b.inner_nodes ≡ a.inner_nodes
  pub end : b.end ≡ a.end
  pub change : b.change ≡ a.change

abbrev pub LawCame : Type 0
LawCame = (w : Opening) (st : State) (i : ℕ) (act : flow.Act) (slot : ℕ) (keys : List Key)
    → HaveCome slot keys st.whole.parts (after w st i (Keyed act slot keys)).whole.parts

-- The journal has the keys behind those that waited, of which there is one at least.
abbrev pub LawJournal : Type 0
LawJournal = (w : Opening) (st : State) (i : ℕ) (act : flow.Act) (slot : ℕ) (keys : List Key)
    (j : Journal) → keys ≢ [] → IsJournalOf w (journal_share st) j
    → IsJournalOf w (journal_share (after w st i (Keyed act slot keys)))
    (record j { waiting = j.waiting ++ reverse keys })

-- keys were added to the leaf in memory, the newest of them last, which this entry will hold
pub record WereAdded (keys : List Key) (number : ℕ) (old new : node.Leaf) : Type 0 where
  pub same : IsSameNode old new
  pub put : ArePut keys old.keys new.keys
  pub added : AreAdded keys old.pending new.pending
  pub entries : new.entries ≡ noted_for keys number old.entries

-- The leaf in memory stands for the one that they came into, where what was pending is of no later
-- entry.
abbrev pub LawLeaf : Type 0
LawLeaf = (w : Opening) (x : LeafShare) (number : ℕ) (keys : List Key) (old new : node.Leaf)
    → IsLeafFor w x old → AllUpTo number x.leaf.pending
    → WereAdded keys number old new
    → IsLeafFor w (record x { leaf = with_keys number (reverse keys) x.leaf }) new
