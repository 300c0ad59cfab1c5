-- What an act asks of the state, beside what the data asks: of the parts in a seat's hand, of its
-- own acts before, and of lasting facts. So no writer of data asks where nodes are, and nobody asks
-- what a crash may leave.
use Rattle.std.specs.Prelude.{◌≡◌, ◌≢◌, ℕ, suc, ◌+◌, ◌<◌, ◌≤◌, Bool, true, List, [], ◌∷◌, length, Some, None}
use Rattle.bc_model.specs.Sector.{Value}
use Rattle.bc_books.specs.Shelves.{Plain, Priorities, Tree, Held}
use Rattle.bc_books.specs.Books.{Step}
use Rattle.bc_books.specs.Books as book
use Rattle.bc_collect.specs.Spare.{IsRoomy}
use Rattle.bc_meta.specs.Tree.{NodeSet, Owner}
use Rattle.bc_meta.specs.Layout.{Layout, set_len, node_end, is_within}
use Rattle.bc_meta.specs.Chain.{bytes_of, Distinct}
use Rattle.bc_meta.specs.Records.{Ready, Safe, IsFewer}
use Rattle.bc_meta.specs.Places.{CanEnter, CanAppend, IsFirstWrite, IsOutside}
use Rattle.bc_meta.specs.Acts.{IsBuilt, head_of}
use Rattle.bc_leaves.specs.Parts.{Role, NoNode, Draft, Free, Leaving, Coming, leaf_owner, inner_owner}
use Rattle.bc_leaves.specs.Parts as parts
use Rattle.bc_leaves.specs.Keys.{last_said}
use Rattle.bc_leaves.specs.Events as parts_event
use Rattle.bc_leaves.specs.Enabled.{IsVacant, CanWriteSet, CanSetParent, CanBegin, CanInstall}
use Rattle.bc_leaves.specs.Enabled as parts_act
use Rattle.bc_leaves.specs.Frame.{AllWithin}
use Rattle.bc_whole.specs.State.{Opening, Write, OfData, OfEntry, OfSet, OfParent, OfLeaf, OfInner, OfPriorities, Outside, Chain, SameChain, NewChain}
use Rattle.bc_whole.specs.Together.{is_quiet, Brings, AreHeldFor, parts_seal, prio_of}
use Rattle.bc_known.specs.Acts.{State, Act, Alone, Keyed, WriteCache, FailCache, CacheBarrier, Seal, MakeDurable, BeginBucket, Take, LetGo, ReadyChain, BeginChange, Install, ForgetDrafts}

-- some values inside one bucket of the device
pub record IsInBucket (w : Layout) (q place : ℕ) (values : List Value) : Type 0 where
  pub some : values ≢ []
  pub low : w.first q ≤ place
  pub high : place + length values ≤ w.first q + w.bucket_sectors
  pub bucket : q < w.buckets

-- The first set of a new node, with zeros behind it, in a bucket that the seat holds for one.
pub record CanStartNode (w : Opening) (st : State) (seat q : ℕ) (o : Owner) (set : NodeSet)
    (values : List Value) : Type 0 where
  pub held : st.whole.flow.books.shelf q ≡ Held seat Tree
  pub unnamed : st.whole.flow.books.chains.of q ≡ None
  pub vacant : IsVacant st.whole.parts q
  pub room : w.layout.begins o + set_len w.layout set ≤ node_end w.layout o
  pub inside : is_within w.layout q o ≡ true
  pub first : IsFirstWrite w.layout o set values
  pub seq : set.seq ≡ st.next_seq

-- A priority set, in a bucket that the seat holds for a chain.
pub record CanWritePriorities (w : Layout) (st : State) (seat q part : ℕ)
    (values : List Value) : Type 0 where
  pub held : st.whole.flow.books.shelf q ≡ Held seat Priorities
  pub unnamed : st.whole.flow.books.chains.of q ≡ None
  pub within : IsInBucket w q (w.first q) values

abbrev pub AsksWrite : Opening → State → ℕ → Write → List Value → Type 0
AsksWrite w st seat (OfData q place) values = IsInBucket w.layout q place values
AsksWrite w st seat OfEntry values = (st.whole.parts.records.stage ≡ Ready)
    × CanEnter w.layout st.whole.store.places values
AsksWrite w st seat (OfSet i set) values = CanWriteSet st.whole.parts i set
    × CanAppend w.layout st.whole.store.places (st.whole.parts.leaves i).bucket set values
AsksWrite w st seat (OfParent i set) values = CanSetParent st.whole.parts i set
    × CanAppend w.layout st.whole.store.places (st.whole.parts.inner_nodes i).bucket set values
AsksWrite w st seat (OfLeaf i leaf set) values =
    ((st.whole.parts.leaves i).role ≡ NoNode) × (leaf.role ≡ Draft) × (leaf.pending ≡ [])
    × ((s : ℕ) → (parts.InRange leaf s → ⊥)
    → last_said set.keys s ≡ None)
    × CanStartNode w st seat leaf.bucket (leaf_owner leaf) set values
AsksWrite w st seat (OfInner i inner set) values =
    ((st.whole.parts.inner_nodes i).role ≡ NoNode) × (inner.role ≡ Draft)
    × CanStartNode w st seat inner.bucket (inner_owner inner) set values
AsksWrite w st seat (OfPriorities q part set) values =
    CanWritePriorities w.layout st seat q part values
    × (w.layout.prios.spelled part values ≡ Some set)
AsksWrite w st seat (Outside place) values = IsOutside w.layout place values

-- a chain that the seat wrote
abbrev pub AsksChain : Opening → State → Chain → Type 0
AsksChain w st SameChain = Unit {0}
AsksChain w st (NewChain buckets gens) = Distinct buckets
    × (length buckets ≡ w.layout.chain_sets)
    × IsBuilt st.whole.store.made 0 (head_of buckets) buckets (bytes_of gens)

-- of a node that is there after the change that is under way
abbrev pub IsAfter : Role → Type 0
IsAfter NoNode = ⊥
IsAfter Draft = Unit {0}
IsAfter Free = Unit {0}
IsAfter Leaving = ⊥
IsAfter Coming = Unit {0}

-- no such node lies in the bucket
abbrev pub IsGivenUp : parts.State → ℕ → Type 0
IsGivenUp st q = ((k : ℕ) → IsAfter (st.leaves k).role → (st.leaves k).bucket ≢ q)
    × ((x : ℕ) → IsAfter (st.inner_nodes x).role → (st.inner_nodes x).bucket ≢ q)

abbrev pub AsksStep : parts.State → ℕ → (ℕ → Bool) → Step → Type 0
AsksStep st seat unused (book.Regroup leaf changed counts last) = Unit {0}
AsksStep st seat unused (book.MakeNode i b) = i ≡ seat
AsksStep st seat unused (book.DropNode b) = (unused b ≡ true) × IsGivenUp st b
AsksStep st seat unused x = ⊥

abbrev pub AsksSteps : parts.State → ℕ → (ℕ → Bool) → List Step → Type 0
AsksSteps st seat unused [] = Unit {0}
AsksSteps st seat unused (x ∷ xs) = AsksStep st seat unused x × AsksSteps st seat unused xs

-- each bucket of the next chain is the seat's
abbrev pub HoldsNext : State → ℕ → Type 0
HoldsNext st seat = (b : ℕ)
    → st.whole.flow.books.chains.of b ≡ Some (suc st.whole.flow.books.chains.ready)
    → st.whole.flow.books.shelf b ≡ Held seat Priorities

abbrev pub Asks : Opening → State → ℕ → Act → Type 0
Asks w st seat (Alone act) = is_quiet act ≡ true
Asks w st seat (Keyed act slot keys) = Brings act slot keys
    × ((st.whole.parts.leaves slot).role ≡ Free) × AllWithin st.whole.parts slot keys
Asks w st seat (WriteCache x values) = AsksWrite w st seat x values
Asks w st seat (FailCache x values) = AsksWrite w st seat x values
Asks w st seat CacheBarrier = Unit {0}
Asks w st seat (Seal last_seq rest root chain) =
    parts_act.IsEnabled st.whole.parts
    (parts_seal last_seq (prio_of st.whole.parts.records chain) rest root)
    × AsksChain w st chain
Asks w st seat MakeDurable = st.whole.parts.records.stage ≡ Safe
Asks w st seat (BeginBucket b) =
    parts_act.IsEnabled st.whole.parts (parts_event.BeginBucket b) × (b < w.layout.journal)
Asks w st seat (Take p b) = p ≢ Plain
Asks w st seat (LetGo b room) =
    IsRoomy w.flow.books st.whole.flow.books (book.LetGo seat b room)
    × (st.whole.flow.books.shelf b ≡ Held seat Tree → IsVacant st.whole.parts b)
Asks w st seat (ReadyChain room) =
    IsRoomy w.flow.books st.whole.flow.books (book.ReadyChain room) × HoldsNext st seat
Asks w st seat (BeginChange low high gone come old new unused) =
    CanBegin st.whole.parts low high gone come old new unused
    × AreHeldFor st.whole seat unused
Asks w st seat (Install unused steps) = CanInstall st.whole.parts unused
    × IsFewer st.whole.parts.records.unused unused
    × AsksSteps st.whole.parts seat unused steps
Asks w st seat ForgetDrafts = Unit {0}
