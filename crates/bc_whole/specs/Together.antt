-- What an act is to each of the machines below, and which acts of theirs go together.
use Rattle.std.specs.Prelude.{◌≡◌, ◌⊎◌, ◌≢◌, ℕ, zero, suc, drop, Bool, true, false, List, [], ◌∷◌, ◌++◌, Option, Some, None, ◌%◌}
use Rattle.bc_model.specs.Sector.{Value}
use Rattle.bc_key.specs.declared.key.Key.{Key}
use Rattle.bc_books.specs.Index.{Pointer, hit, is_dirty}
use Rattle.bc_books.specs.Index as books
use Rattle.bc_books.specs.Shelves.{Plain, Tree, Held}
use Rattle.bc_books.specs.Books.{Step}
use Rattle.bc_books.specs.Books as book
use Rattle.bc_data.specs.Data as flow
use Rattle.bc_meta.specs.Keys.{Ref}
use Rattle.bc_meta.specs.Entries.{Entry}
use Rattle.bc_meta.specs.Layout.{Layout}
use Rattle.bc_meta.specs.Records.{Records, IsFewer}
use Rattle.bc_meta.specs.Events as event
use Rattle.bc_meta.specs.Acts.{head_of}
use Rattle.bc_meta.specs.Acts as meta
use Rattle.bc_leaves.specs.Keys.{last_said}
use Rattle.bc_leaves.specs.Parts.{leaf_owner, inner_owner}
use Rattle.bc_leaves.specs.Events.{next_entry, same_root, new_root}
use Rattle.bc_leaves.specs.Events as parts
use Rattle.bc_leaves.specs.After.{has}
use Rattle.bc_leaves.specs.Laws as joint
use Rattle.bc_whole.specs.State.{Opening, State, Write, OfData, OfEntry, OfSet, OfParent, OfLeaf, OfInner, OfPriorities, Outside, Root, SameRoot, NewRoot, Chain, SameChain, NewChain, Act, Alone, Keyed, WriteCache, FailCache, CacheBarrier, Seal, MakeDurable, BeginBucket, Take, LetGo, ReadyChain, KeepSpare, BeginChange, Install, ForgetDrafts}

-- ---- keys

-- The device has a pointer's version modulo 256, and its only device is number 0.
abbrev pub ref_of : Option Pointer → Option Ref
ref_of None = None
ref_of (Some r) = Some (record {
  dirty = is_dirty r.kind;
  dev = 0;
  place = r.place;
  generation = r.version % 256;
})

abbrev pub said_of : Option (Option Pointer) → Option (Option Ref)
said_of None = None
said_of (Some o) = Some (ref_of o)

-- keys as the records have them, and as the books have them, say the same of each sector
abbrev pub SayTheSame : List Key → List books.Key → Type 0
SayTheSame keys ks = (s : ℕ) → last_said keys s ≡ said_of (hit ks s)

-- the version of a bucket in a chain
abbrev pub gen_at : List ℕ → ℕ → ℕ
gen_at [] b = 0
gen_at (g ∷ gs) zero = g
gen_at (g ∷ gs) (suc b) = gen_at gs b

-- and that of a bucket of the layout, before which so many others lie
abbrev pub gen_from : ℕ → List ℕ → ℕ → ℕ
gen_from before gens b = gen_at (drop before gens) b

-- ---- writes of the cache device

abbrev pub payload_of : Write → flow.Payload
payload_of (OfData q place) = flow.Data
payload_of OfEntry = flow.JournalEntry
payload_of write = flow.Metadata

-- the place that it goes to
abbrev pub place_of : Layout → State → Write → ℕ
place_of w st (OfData q place) = place
place_of w st OfEntry = st.store.places.ring_next st.store.places.records.bucket
place_of w st (OfSet i set) = st.store.places.node_next (st.parts.leaves i).bucket
place_of w st (OfParent i set) = st.store.places.node_next (st.parts.inner_nodes i).bucket
place_of w st (OfLeaf i leaf set) = w.begins (leaf_owner leaf)
place_of w st (OfInner i inner set) = w.begins (inner_owner inner)
place_of w st (OfPriorities q part set) = w.first q
place_of w st (Outside place) = place

-- what it is to the metadata, and to the parts
abbrev pub meta_write : State → ℕ → Write → List Value → meta.Act
meta_write st seat (OfData q place) values = meta.WriteData q place values
meta_write st seat OfEntry values = meta.Plain (event.WriteEntry values)
meta_write st seat (OfSet i set) values =
    meta.Plain (event.AddSet (st.parts.leaves i).bucket set values st.parts.records.unused)
meta_write st seat (OfParent i set) values =
    meta.Plain (event.AddSet (st.parts.inner_nodes i).bucket set values st.parts.records.unused)
meta_write st seat (OfLeaf i leaf set) values =
    meta.WriteNode seat leaf.bucket (leaf_owner leaf) set values
meta_write st seat (OfInner i inner set) values =
    meta.WriteNode seat inner.bucket (inner_owner inner) set values
meta_write st seat (OfPriorities q part set) values = meta.WriteSet seat q part set values
meta_write st seat (Outside place) values = meta.Plain (event.Elsewhere place values)

abbrev pub parts_write : Layout → Write → List Value → parts.Event
parts_write w (OfData q place) values = parts.Fill q place values
parts_write w OfEntry values = parts.WriteEntry values
parts_write w (OfSet i set) values = parts.WriteSet i set values
parts_write w (OfParent i set) values = parts.SetParent i set values
parts_write w (OfLeaf i leaf set) values = parts.NewLeaf i leaf set values
parts_write w (OfInner i inner set) values = parts.NewInner i inner set values
parts_write w (OfPriorities q part set) values = parts.Fill q (w.first q) values
parts_write w (Outside place) values = parts.Elsewhere place values

-- and where it fails
abbrev pub meta_fault : Layout → State → ℕ → Write → List Value → meta.Act
meta_fault w st seat (OfData q place) values = meta.FailData q place values
meta_fault w st seat OfEntry values = meta.Plain (event.FailEntry values)
meta_fault w st seat (OfSet i set) values =
    meta.Plain (event.FailSet (st.parts.leaves i).bucket set values)
meta_fault w st seat (OfParent i set) values =
    meta.Plain (event.FailSet (st.parts.inner_nodes i).bucket set values)
meta_fault w st seat (OfLeaf i leaf set) values =
    meta.FailHeld seat leaf.bucket (w.begins (leaf_owner leaf)) values (Some set)
meta_fault w st seat (OfInner i inner set) values =
    meta.FailHeld seat inner.bucket (w.begins (inner_owner inner)) values (Some set)
meta_fault w st seat (OfPriorities q part set) values =
    meta.FailHeld seat q (w.first q) values None
meta_fault w st seat (Outside place) values = meta.Plain (event.FailElsewhere place values)

abbrev pub parts_fault : Layout → Write → List Value → parts.Event
parts_fault w (OfData q place) values = parts.FailFill q place values None
parts_fault w OfEntry values = parts.FailEntry values
parts_fault w (OfSet i set) values = parts.FailSet i set values
parts_fault w (OfParent i set) values = parts.FailParent i set values
parts_fault w (OfLeaf i leaf set) values =
    parts.FailFill leaf.bucket (w.begins (leaf_owner leaf)) values (Some set)
parts_fault w (OfInner i inner set) values =
    parts.FailFill inner.bucket (w.begins (inner_owner inner)) values (Some set)
parts_fault w (OfPriorities q part set) values = parts.FailFill q (w.first q) values None
parts_fault w (Outside place) values = parts.FailElsewhere place values

-- ---- seals

abbrev pub prio_of : Records → Chain → ℕ
prio_of r SameChain = r.newest.prio
prio_of r (NewChain buckets gens) = head_of buckets

abbrev pub entry_of : State → ℕ → List ℕ → Root → Chain → Entry
entry_of st last_seq rest SameRoot chain =
    same_root st.parts.records last_seq (prio_of st.parts.records chain) rest
entry_of st last_seq rest (NewRoot r) chain =
    new_root st.parts.records last_seq (prio_of st.parts.records chain) rest
    (st.parts.inner_nodes r)

abbrev pub step_of_seal : ℕ → ℕ → Chain → Step
step_of_seal before seat SameChain = book.Seal
step_of_seal before seat (NewChain buckets gens) =
    book.SealChain seat (gen_from before gens) (has buckets)

abbrev pub meta_seal : ℕ → Entry → (ℕ → Bool) → Chain → meta.Act
meta_seal seat entry unused SameChain = meta.Seal entry unused
meta_seal seat entry unused (NewChain buckets gens) =
    meta.SealChain seat buckets gens entry unused

abbrev pub parts_seal : ℕ → ℕ → List ℕ → Root → parts.Event
parts_seal last_seq prio rest SameRoot = parts.Seal last_seq prio rest
parts_seal last_seq prio rest (NewRoot r) = parts.SealRoot last_seq prio rest r

-- ---- all acts

abbrev pub shelved : List Step → List flow.Act
shelved [] = []
shelved (x ∷ xs) = flow.Shelve x ∷ shelved xs

-- what it is to the data, with the books
abbrev pub data_of : Opening → State → ℕ → Act → List flow.Act
data_of w st seat (Alone act) = act ∷ []
data_of w st seat (Keyed act slot keys) = act ∷ []
data_of w st seat (WriteCache write values) =
    flow.CacheWrite (payload_of write) (place_of w.layout st write) values ∷ []
data_of w st seat (FailCache write values) =
    flow.Fail (flow.CacheFault (payload_of write) (place_of w.layout st write) values) ∷ []
data_of w st seat CacheBarrier = flow.CacheBarrier ∷ []
data_of w st seat (Seal last_seq rest root chain) = flow.Shelve (step_of_seal w.before seat chain) ∷ []
data_of w st seat MakeDurable = flow.Shelve book.Sealed ∷ []
data_of w st seat (BeginBucket b) = []
data_of w st seat (Take purpose b) = flow.Shelve (book.Take seat purpose b) ∷ []
data_of w st seat (LetGo b room) = flow.Shelve (book.LetGo seat b room) ∷ []
data_of w st seat (ReadyChain room spare) = flow.Shelve (book.ReadyChain room) ∷ []
data_of w st seat (KeepSpare spare) = []
data_of w st seat (BeginChange low high gone come old new unused) = []
data_of w st seat (Install unused steps) = shelved steps
data_of w st seat ForgetDrafts = []

abbrev pub step : meta.Act → parts.Event → List joint.Step
step act e = record { act = act; events = e ∷ [] } ∷ []

-- keys come in one by one, the newest of them last
abbrev pub inserted : ℕ → List Key → List joint.Step
inserted slot [] = []
inserted slot (key ∷ keys) =
    inserted slot keys ++ step (meta.Plain (event.AddKey key)) (parts.Insert slot key)

-- a bucket that becomes a node's is let go
abbrev pub released : List Step → List joint.Step
released [] = []
released (book.MakeNode i b ∷ xs) = record { act = meta.LetGo i b; events = [] } ∷ released xs
released (x ∷ xs) = released xs

-- what it is to the metadata, with the parts
abbrev pub steps_of : Layout → State → ℕ → Act → List joint.Step
steps_of w st seat (Alone act) = []
steps_of w st seat (Keyed act slot keys) = inserted slot keys
steps_of w st seat (WriteCache write values) =
    step (meta_write st seat write values) (parts_write w write values)
steps_of w st seat (FailCache write values) =
    step (meta_fault w st seat write values) (parts_fault w write values)
steps_of w st seat CacheBarrier = step (meta.Plain event.Barrier) parts.Barrier
steps_of w st seat (Seal last_seq rest root chain) =
    step (meta_seal seat (entry_of st last_seq rest root chain) st.parts.records.unused chain)
    (parts_seal last_seq (prio_of st.parts.records chain) rest root)
steps_of w st seat MakeDurable = step meta.Durable parts.MakeDurable
steps_of w st seat (BeginBucket b) =
    step (meta.Plain (event.BeginBucket b)) (parts.BeginBucket b)
steps_of w st seat (Take purpose b) = step (meta.Take seat b) (parts.Reuse b)
steps_of w st seat (LetGo b room) = record { act = meta.LetGo seat b; events = [] } ∷ []
steps_of w st seat (ReadyChain room spare) =
    record { act = meta.ChainReady seat spare; events = [] } ∷ []
steps_of w st seat (KeepSpare spare) =
    record { act = meta.KeepSpare spare; events = [] } ∷ []
steps_of w st seat (BeginChange low high gone come old new unused) =
    step (meta.Plain (event.GiveUp unused))
    (parts.BeginChange low high gone come old new unused)
steps_of w st seat (Install unused steps) =
    step (meta.Plain (event.GiveUp unused)) (parts.Install unused) ++ released steps
steps_of w st seat ForgetDrafts = []

-- ---- which go together

-- a step of the books that the metadata has no part in
abbrev pub is_quiet_step : Step → Bool
is_quiet_step (book.Put leaf keys) = false
is_quiet_step (book.Regroup leaf changed counts last) = false
is_quiet_step (book.Take i Plain b) = true
is_quiet_step (book.Take i purpose b) = false
is_quiet_step (book.LetGo i b room) = false
is_quiet_step (book.MakeNode i b) = false
is_quiet_step (book.DropNode b) = false
is_quiet_step (book.ReadyChain room) = false
is_quiet_step book.Seal = false
is_quiet_step (book.SealChain i versions chain) = false
is_quiet_step book.Sealed = false
is_quiet_step x = true

abbrev pub is_quiet_fault : flow.Fault → Bool
is_quiet_fault (flow.CacheFault payload place values) = false
is_quiet_fault fault = true

abbrev pub is_quiet : flow.Act → Bool
is_quiet (flow.CacheWrite payload place values) = false
is_quiet flow.CacheBarrier = false
is_quiet (flow.InsertWrite line leaf keys first values) = false
is_quiet (flow.Insert form leaf keys) = false
is_quiet (flow.Settle number leaf keys) = false
is_quiet (flow.Shelve step) = is_quiet_step step
is_quiet (flow.Fail fault) = is_quiet_fault fault
is_quiet act = true

-- the keys that come in, and their leaf
abbrev pub Brings : flow.Act → ℕ → List Key → Type 0
Brings (flow.InsertWrite line leaf ks first values) slot keys =
    (leaf ≡ slot) × SayTheSame keys ks
Brings (flow.Insert form leaf ks) slot keys = (leaf ≡ slot) × SayTheSame keys ks
Brings (flow.Settle number leaf ks) slot keys = (leaf ≡ slot) × SayTheSame keys ks
Brings act slot keys = ⊥

-- a node that a change brings lies in a bucket that the seat holds for one
abbrev pub AreHeldFor : State → ℕ → (ℕ → Bool) → Type 0
AreHeldFor st seat unused = (q : ℕ) → unused q ≡ false → (st.parts.records.unused q ≡ false)
    ⊎ (st.flow.books.shelf q ≡ Held seat Tree)

-- of the books an install gives leaves to sectors, makes buckets nodes, and gives up those that no
-- node is in any more
abbrev pub IsInstalled : (ℕ → Bool) → Step → Type 0
IsInstalled unused (book.Regroup leaf changed counts last) = Unit {0}
IsInstalled unused (book.MakeNode i b) = Unit {0}
IsInstalled unused (book.DropNode b) = unused b ≡ true
IsInstalled unused x = ⊥

abbrev pub AreInstalled : (ℕ → Bool) → List Step → Type 0
AreInstalled unused [] = Unit {0}
AreInstalled unused (x ∷ xs) = IsInstalled unused x × AreInstalled unused xs

abbrev pub GoTogether : State → ℕ → Act → Type 0
GoTogether st seat (Alone act) = is_quiet act ≡ true
GoTogether st seat (Keyed act slot keys) = Brings act slot keys
GoTogether st seat (Take purpose b) = purpose ≢ Plain
GoTogether st seat (LetGo b room) = st.parts.records.unused b ≡ true
GoTogether st seat (BeginChange low high gone come old new unused) = AreHeldFor st seat unused
GoTogether st seat (Install unused steps) = IsFewer st.parts.records.unused unused
    × AreInstalled unused steps
GoTogether st seat act = Unit {0}
