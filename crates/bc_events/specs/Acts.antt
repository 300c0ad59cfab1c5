-- The table: what each event is to the whole machine, as acts in a row.
use Rattle.std.specs.Prelude.{ℕ, Bool, true, false, List, [], ◌∷◌, ◌++◌, reverse, Option, Some, None}
use Rattle.bc_model.specs.Sector.{Value}
use Rattle.bc_flight.specs.declared.claim.Share.{Share}
use Rattle.bc_flight.specs.declared.claim.Share.TheVariants.{Shared, Exclusive}
use Rattle.bc_alloc.specs.declared.purpose.Purpose.{Purpose}
use Rattle.bc_alloc.specs.declared.purpose.Purpose.TheVariants as list
use Rattle.bc_key.specs.declared.key.Key.{Key}
use Rattle.bc_books.specs.Index as index
use Rattle.bc_books.specs.Shelves as shelf
use Rattle.bc_books.specs.Books as book
use Rattle.bc_data.specs.Data as flow
use Rattle.bc_meta.specs.Acts.{Made}
use Rattle.bc_leaves.specs.After.{has}
use Rattle.bc_whole.specs.State.{Opening, Root, SameRoot, NewRoot as RootOf, Chain, SameChain, NewChain as ChainIn}
use Rattle.bc_known.specs.Acts.{State, Act, Alone, Keyed, CacheBarrier, Seal, MakeDurable, BeginBucket, Take, LetGo, ReadyChain, Install}
use Rattle.bc_events.specs.Keys.{book_keys, versions_by}
use Rattle.bc_events.specs.Changes.{buckets_gone, with, regroup, made, dropped}
use Rattle.bc_events.specs.Writes.{beginning, acts_of_write, acts_of_failure}
use Rattle.bc_events.specs.declared.event.LineNumber.{LineNumber}
use Rattle.bc_events.specs.declared.event.Change.{Change}
use Rattle.bc_events.specs.declared.event.Form.{Form}
use Rattle.bc_events.specs.declared.event.Form.TheVariants as form
use Rattle.bc_events.specs.declared.event.MarkForm.{MarkForm}
use Rattle.bc_events.specs.declared.event.MarkForm.TheVariants as mark
use Rattle.bc_events.specs.declared.event.UnpinKind.{UnpinKind}
use Rattle.bc_events.specs.declared.event.UnpinKind.TheVariants as unpin
use Rattle.bc_events.specs.declared.event.Failure.{Failure}
use Rattle.bc_events.specs.declared.event.Failure.TheVariants as failure
use Rattle.bc_events.specs.declared.event.Listing.{Listing}
use Rattle.bc_events.specs.declared.event.NewChain.{NewChain}
use Rattle.bc_events.specs.declared.event.NewRoot.{NewRoot}
use Rattle.bc_events.specs.declared.event.Deed.{Deed}
use Rattle.bc_events.specs.declared.event.Deed.TheVariants as deed

-- ---- words of the containers, and of the machines

abbrev pub is_exclusive : Share → Bool
is_exclusive Shared = false
is_exclusive Exclusive = true

abbrev pub purpose_of : Purpose → shelf.Purpose
purpose_of list.Priorities = shelf.Priorities
purpose_of list.Moving = shelf.Moving
purpose_of list.Tree = shelf.Tree
purpose_of list.Plain = shelf.Plain

abbrev pub list_of : Option Purpose → Option shelf.Purpose
list_of None = None
list_of (Some p) = Some (purpose_of p)

abbrev pub form_of : Form → flow.Form
form_of form.Drop = flow.DropKeys
form_of form.Clean = flow.CleanKeys
form_of form.Move = flow.MoveKeys
form_of form.Stale = flow.StaleKeys

abbrev pub route_of : Option LineNumber → flow.Route
route_of None = flow.Copy
route_of (Some of) = flow.Around of.line

abbrev pub say : flow.Speech → List Act
say speech = Alone (flow.Say speech) ∷ []

abbrev pub shelve : book.Step → List Act
shelve step = Alone (flow.Shelve step) ∷ []

-- ---- rows that need more than a line

-- In a plain run there is no leaf to look at, so a claim is a look too.
abbrev pub claimed : Bool → ℕ → ℕ → ℕ → Bool → List Act
claimed false leaf first count exclusive = Alone (flow.MakeClaim first count exclusive) ∷ []
claimed true leaf first count exclusive =
    Alone (flow.MakeClaim first count exclusive) ∷ Alone (flow.Learn (flow.Look leaf)) ∷ []

abbrev pub pinned : Opening → ℕ → ℕ → Bool → List Act
pinned w at count false = Alone (flow.PinPlaces at count) ∷ []
pinned w at count true =
    Alone (flow.PinPlaces at count) ∷ shelve (book.Shut (w.flow.books.bucket at))

abbrev pub let_go : UnpinKind → List Act
let_go (unpin.Place at count) = Alone (flow.UnpinPlaces at count) ∷ []
let_go (unpin.Dead candidate) = Alone (flow.UnpinDead candidate) ∷ []
let_go (unpin.Hold bucket back) = LetGo bucket back ∷ []

abbrev pub taken : ℕ → Purpose → ℕ → List Act
taken i list.Plain b = shelve (book.Take i shelf.Plain b)
taken i p b = Take (purpose_of p) b ∷ []

abbrev pub listed : List Listing → List Act
listed [] = []
listed (x ∷ xs) = shelve (book.MakeReady x.bucket (list_of x.list)) ++ listed xs

-- What no claim is of, such as a node, teaches the seat nothing of data: to the machine it is a call
-- like one that failed and is made again.
abbrev pub read_for : Option ℕ → List Value → List Act
read_for None values = Alone (flow.Fail flow.ReadFault) ∷ []
read_for (Some first) values = Alone (flow.Learn (flow.CacheRead first values)) ∷ []

-- keys come into a leaf, the last of them on top
abbrev pub put_keys : Opening → State → List Key → (List index.Key → flow.Act) → ℕ → List Act
put_keys w st keys act leaf = Keyed
    (act (book_keys w.flow.books.bucket st.whole.flow.books.generations.version (reverse keys)))
    leaf (reverse keys) ∷ []

abbrev pub begun : Option ℕ → List Act
begun None = []
begun (Some bucket) = BeginBucket bucket ∷ []

abbrev pub root_of : Option NewRoot → Root
root_of None = SameRoot
root_of (Some x) = RootOf x.inner

abbrev pub root_beginning : State → Option NewRoot → List Act
root_beginning st None = []
root_beginning st (Some x) = beginning st x.change ∷ []

-- the bytes of the priority sets that were written into these buckets
abbrev pub bytes_of_made : Option Made → List ℕ
bytes_of_made None = []
bytes_of_made (Some x) = x.set.gens

abbrev pub bytes_in : State → List ℕ → List ℕ
bytes_in st [] = []
bytes_in st (q ∷ qs) = bytes_of_made (st.whole.store.made q) ++ bytes_in st qs

abbrev pub chain_of : Opening → State → Option NewChain → Chain
chain_of w st None = SameChain
chain_of w st (Some x) = ChainIn x.buckets.items
    (versions_by w.before st.whole.flow.books.generations.version 0 (bytes_in st x.buckets.items))

abbrev pub installed : State → ℕ → Change → List ℕ → List ℕ → List Act
installed st i c come gone =
    Install (with st.whole.parts.records.unused (buckets_gone st.whole.parts c))
    (regroup st.whole.flow.books.index st.whole.parts.leaves c ∷ (made i come ++ dropped gone))
    ∷ []

abbrev pub marked : MarkForm → List Act
marked mark.Begin = shelve book.Begin
marked (mark.Walk leaf) = shelve (book.Walk leaf)
marked mark.End = shelve book.End
marked mark.Drop = shelve book.Drop

abbrev pub failed : Opening → State → Failure → Option (List Act)
failed w st (failure.Read device) = Some (Alone (flow.Fail flow.ReadFault) ∷ [])
failed w st (failure.Barrier device) = Some (Alone (flow.Fail flow.BarrierFault) ∷ [])
failed w st (failure.CacheWrite at what values) = acts_of_failure w st what at values
failed w st (failure.BackingWrite first of values) =
    Some (Alone (flow.Fail (flow.BackingFault (route_of of) first values)) ∷ [])

-- ---- the table

-- what a seat's deed is, where it is anything
abbrev pub acts_of : Opening → State → ℕ → Deed → Option (List Act)
acts_of w st i (deed.Claim first count how) = Some (claimed w.flow.plain
    (st.whole.flow.books.index.leaf first) first count (is_exclusive how))
acts_of w st i deed.Release = Some (Alone flow.Release ∷ [])
acts_of w st i (deed.Look leaf) = Some (Alone (flow.Learn (flow.Look leaf)) ∷ [])
acts_of w st i (deed.Pin at count full) = Some (pinned w at count full)
acts_of w st i (deed.Unpin kind) = Some (let_go kind)
acts_of w st i (deed.Take purpose bucket) = Some (taken i purpose bucket)
acts_of w st i (deed.Raise bucket) = Some (shelve (book.Raise bucket))
acts_of w st i (deed.Ready back named) = Some (ReadyChain (has back.items) ∷ listed named.items)
acts_of w st i (deed.CacheRead at first values) = Some (read_for first values)
acts_of w st i (deed.CacheWrite at what values) = acts_of_write w st what at values
acts_of w st i deed.CacheBarrier = Some (CacheBarrier ∷ [])
acts_of w st i (deed.BackingRead first values) =
    Some (Alone (flow.Learn (flow.BackingRead first values)) ∷ [])
acts_of w st i (deed.BackingWrite first of values) =
    Some (Alone (flow.BackingWrite (route_of of) first values) ∷ [])
acts_of w st i deed.BackingBarrier = Some (Alone flow.BackingBarrier ∷ [])
acts_of w st i (deed.InsertWrite leaf keys of first values) =
    Some (put_keys w st keys (λ ks. flow.InsertWrite of.line leaf ks first values) leaf)
acts_of w st i (deed.Insert leaf keys form) =
    Some (put_keys w st keys (flow.Insert (form_of form) leaf) leaf)
acts_of w st i (deed.Candidate candidate first count at) =
    Some (Alone (flow.NoteCandidate candidate first count at) ∷ [])
acts_of w st i (deed.Settle leaf candidate keys) =
    Some (put_keys w st keys (flow.Settle candidate leaf) leaf)
acts_of w st i (deed.Seal last_seq bucket rest new_root chain) = Some (begun bucket
    ++ (root_beginning st new_root
    ++ (Seal last_seq rest.items (root_of new_root) (chain_of w st chain) ∷ [])))
acts_of w st i deed.Sealed = Some (MakeDurable ∷ [])
acts_of w st i (deed.Install change come gone) = Some (installed st i change come.items gone.items)
acts_of w st i (deed.Mark form) = Some (marked form)
acts_of w st i (deed.Answer of first values) = Some (say (flow.Answer of.line first values))
acts_of w st i (deed.FlushFrom of) = Some (say (flow.BeginFlush of.line))
acts_of w st i (deed.FlushDone of) = Some (say (flow.EndFlush of.line))
acts_of w st i (deed.Durable of first count) = Some (say (flow.Acknowledge of.line first count))
acts_of w st i (deed.LineFrom of) = Some []
acts_of w st i (deed.LineDone of) = Some []
acts_of w st i (deed.DeviceFault failure) = failed w st failure
