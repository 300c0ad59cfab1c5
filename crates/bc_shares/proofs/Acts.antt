-- What an act of the machine leaves alone of the journal and of the buckets.
use Rattle.std.proofs.Common.{◌≡◌, ℕ, Bool, true, false, List, [], ◌∷◌, Option, refl, sym, ap, ◌∙◌, if◌then◌else◌}
use Rattle.bc_model.specs.Sector.{Value}
use Rattle.bc_books.specs.Index.{within}
use Rattle.bc_books.specs.Shelves.{Owner, Fresh, Own, Kept, Spent, IsPinned}
use Rattle.bc_books.specs.Books.{Setup, Books, Step, Put, Regroup, Keep, MakeNode, DropNode, Seal, SealChain, Sealed}
use Rattle.bc_books.specs.After.{fold}
use Rattle.bc_books.specs.After as book_step
use Rattle.bc_data.specs.Seats.{Candidate}
use Rattle.bc_data.specs.Data as flow
use Rattle.bc_data.specs.Enabled.{steps_of}
use Rattle.bc_data.specs.After as flow_step
use Rattle.bc_meta.specs.Entries.{Entry}
use Rattle.bc_meta.specs.Events.{GiveUp}
use Rattle.bc_meta.specs.Layout.{Layout}
use Rattle.bc_meta.specs.Acts as meta
use Rattle.bc_meta.specs.Acts.{fold as fold_acts}
use Rattle.bc_meta.specs.Records.{Stage, Nothing, Fixed, Ready, Sent, Safe, after_barrier}
use Rattle.bc_leaves.specs.Parts as parts
use Rattle.bc_leaves.specs.Events as parts_event
use Rattle.bc_leaves.specs.After as parts_step
use Rattle.bc_leaves.specs.Laws.{acts_of, parts_of}
use Rattle.bc_whole.specs.State.{Opening, Write, OfData, OfEntry, OfSet, OfParent, OfLeaf, OfInner, OfPriorities, Outside, Chain, SameChain, NewChain}
use Rattle.bc_whole.specs.Together.{is_quiet, is_quiet_step, released, shelved}
use Rattle.bc_whole.specs.Run.{by}
use Rattle.bc_known.specs.Acts.{State, Act, Alone, Keyed, WriteCache, FailCache, CacheBarrier, MakeDurable, BeginBucket, BeginChange, Install, ForgetDrafts, after}
use Rattle.bc_known.specs.Acts as known
use Rattle.bc_known.specs.Asked.{AsksSteps}
use Rattle.bc_known.specs.Run.{IsEnabled, IsRun, run}
use Rattle.bc_events.specs.Run as core
use Rattle.bc_shares.specs.Shares.{if_sealed, Entries, entries_in, Counts, counts_in, JournalShare, journal_share, use_of, SameBuckets, books_of}

-- ---- facts that acts keep, a run of them keeps

abbrev pub AllActs : (Act → Type 0) → List Act → Type 0
AllActs P [] = Unit {0}
AllActs P (act ∷ acts) = P act × AllActs P acts

-- a relation of states that acts with P keep
pub record IsKept (P : Act → Type 0) (R : State → State → Type 0) : Type 0 where
  pub same : (a : State) → R a a
  pub both : (a b c : State) → R a b → R b c → R a c
  pub one : (w : Opening) (st : State) (i : ℕ) (act : Act) → P act → IsEnabled w st i act
      → R st (after w st i act)

pub kept_run : (P : Act → Type 0) (R : State → State → Type 0) → IsKept P R → (w : Opening)
    (st : State) (i : ℕ) (acts : List Act) → AllActs P acts → IsRun w st (core.by i acts)
    → R st (run w st (core.by i acts))
kept_run P R k w st i [] all on = k.same st
kept_run P R k w st i (act ∷ acts) all on = k.both st (after w st i act) _
    (k.one w st i act all.0 on.0) (kept_run P R k w (after w st i act) i acts all.1 on.1)

-- ---- the parts

pub released_parts : (p : parts.State) (xs : List Step) → parts_of p (released xs) ≡ p
released_parts p [] = refl
released_parts p (MakeNode i b ∷ xs) = released_parts p xs
released_parts p (x ∷ xs) = released_parts p xs

-- ---- the journal

abbrev pub journal_act : Act → Bool
journal_act (Keyed act slot keys) = true
journal_act (known.Seal last_seq rest root chain) = true
journal_act MakeDurable = true
journal_act (BeginBucket b) = true
journal_act act = false

abbrev next_in : State → ℕ → ℕ
next_in st = st.whole.store.places.ring_next

abbrev share : Entries → Counts → (ℕ → ℕ) → JournalShare
share e c n = record { entries = e; counts = c; next = n }

share_is : (a b : State) → entries_in b.whole.parts.records ≡ entries_in a.whole.parts.records
    → counts_in (books_of b) ≡ counts_in (books_of a) → next_in b ≡ next_in a
    → journal_share b ≡ journal_share a
share_is a b e c n = ap (λ (x : Entries). share x (counts_in (books_of b)) (next_in b)) e
    ∙ ap (λ (x : Counts). share (entries_in a.whole.parts.records) x (next_in b)) c
    ∙ ap (λ (x : ℕ → ℕ). share (entries_in a.whole.parts.records) (counts_in (books_of a)) x) n

barrier_sealed : (g : Stage) (e : Entry) → if_sealed (after_barrier g) e ≡ if_sealed g e
barrier_sealed Nothing e = refl
barrier_sealed Fixed e = refl
barrier_sealed Ready e = refl
barrier_sealed Sent e = refl
barrier_sealed Safe e = refl

counts_quiet : (w : Setup) (k : Books) (x : Step) → is_quiet_step x ≡ true
    → counts_in (book_step.after w k x) ≡ counts_in k
counts_quiet w k (Put leaf keys) q = absurd (cc)
counts_quiet w k Seal q = absurd (cc)
counts_quiet w k (SealChain i versions chain) q = absurd (cc)
counts_quiet w k Sealed q = absurd (cc)
counts_quiet w k x q = refl

counts_alone : (w : Setup) (k : Books) (c : ℕ → Candidate) (i : ℕ) (act : flow.Act)
    → is_quiet act ≡ true → counts_in (fold w k (steps_of c i act)) ≡ counts_in k
counts_alone w k c i (flow.InsertWrite line leaf keys first values) q = absurd (cc)
counts_alone w k c i (flow.Insert form leaf keys) q = absurd (cc)
counts_alone w k c i (flow.Settle number leaf keys) q = absurd (cc)
counts_alone w k c i (flow.Shelve x) q = counts_quiet w k x q
counts_alone w k c i act q = refl

-- what an install does to the books
counts_installed : (w : Opening) (st : flow.State) (p : parts.State) (i : ℕ) (un : ℕ → Bool)
    (xs : List Step) → AsksSteps p i un xs
    → counts_in (flow_step.course w.flow st (by i (shelved xs))).books ≡ counts_in st.books
counts_installed w st p i un [] asks = refl
counts_installed w st p i un (Regroup leaf changed counts last ∷ xs) asks =
    counts_installed w (flow_step.after w.flow st i (flow.Shelve (Regroup leaf changed counts last)))
    p i un xs asks.1
counts_installed w st p i un (MakeNode j b ∷ xs) asks =
    counts_installed w (flow_step.after w.flow st i (flow.Shelve (MakeNode j b))) p i un xs asks.1
counts_installed w st p i un (DropNode b ∷ xs) asks =
    counts_installed w (flow_step.after w.flow st i (flow.Shelve (DropNode b))) p i un xs asks.1
counts_installed w st p i un (x ∷ xs) asks = absurd asks.0

-- an entry is written where it is ready
written_sealed : (g : Stage) (e : Entry) → g ≡ Ready → if_sealed Sent e ≡ if_sealed g e
written_sealed g e is = sym (ap (λ x. if_sealed x e) is)

abbrev with_sealed : Option Entry → Entries → Entries
with_sealed x e = record e { sealed = x }

entries_written : (w : Opening) (st : State) (i : ℕ) (x : Write) (values : List Value)
    → IsEnabled w st i (WriteCache x values)
    → entries_in (after w st i (WriteCache x values)).whole.parts.records
    ≡ entries_in st.whole.parts.records
entries_written w st i OfEntry values on =
    let r = st.whole.parts.records in
    ap (λ o. with_sealed o (entries_in r)) (written_sealed r.stage r.entry on.asks.0)
entries_written w st i (OfData q place) values on = refl
entries_written w st i (OfSet slot set) values on = refl
entries_written w st i (OfParent slot set) values on = refl
entries_written w st i (OfLeaf slot leaf set) values on = refl
entries_written w st i (OfInner slot inner set) values on = refl
entries_written w st i (OfPriorities q part set) values on = refl
entries_written w st i (Outside place) values on = refl

entries_failed : (w : Opening) (st : State) (i : ℕ) (x : Write) (values : List Value)
    → entries_in (after w st i (FailCache x values)).whole.parts.records
    ≡ entries_in st.whole.parts.records
entries_failed w st i OfEntry values = refl
entries_failed w st i (OfData q place) values = refl
entries_failed w st i (OfSet slot set) values = refl
entries_failed w st i (OfParent slot set) values = refl
entries_failed w st i (OfLeaf slot leaf set) values = refl
entries_failed w st i (OfInner slot inner set) values = refl
entries_failed w st i (OfPriorities q part set) values = refl
entries_failed w st i (Outside place) values = refl

-- a write leaves each bucket's next place alone, and so does one that fails
next_written : (w : Opening) (st : State) (i : ℕ) (x : Write) (values : List Value)
    → next_in (after w st i (WriteCache x values)) ≡ next_in st
next_written w st i OfEntry values = refl
next_written w st i (OfData q place) values = refl
next_written w st i (OfSet slot set) values = refl
next_written w st i (OfParent slot set) values = refl
next_written w st i (OfLeaf slot leaf set) values = refl
next_written w st i (OfInner slot inner set) values = refl
next_written w st i (OfPriorities q part set) values = refl
next_written w st i (Outside place) values = refl

next_failed : (w : Opening) (st : State) (i : ℕ) (x : Write) (values : List Value)
    → next_in (after w st i (FailCache x values)) ≡ next_in st
next_failed w st i OfEntry values = refl
next_failed w st i (OfData q place) values = refl
next_failed w st i (OfSet slot set) values = refl
next_failed w st i (OfParent slot set) values = refl
next_failed w st i (OfLeaf slot leaf set) values = refl
next_failed w st i (OfInner slot inner set) values = refl
next_failed w st i (OfPriorities q part set) values = refl
next_failed w st i (Outside place) values = refl

-- and so do buckets that are let go
next_released : (w : Layout) (m : meta.State) (xs : List Step)
    → (fold_acts w m (acts_of (released xs))).places.ring_next ≡ m.places.ring_next
next_released w m [] = refl
next_released w m (MakeNode i b ∷ xs) = next_released w (meta.after w m (meta.LetGo i b)) xs
next_released w m (x ∷ xs) = next_released w m xs

journal_one : (w : Opening) (st : State) (i : ℕ) (act : Act) → journal_act act ≡ false
    → IsEnabled w st i act → journal_share (after w st i act) ≡ journal_share st
journal_one w st i (Keyed act slot keys) off on = absurd (cc)
journal_one w st i (known.Seal last_seq rest root chain) off on = absurd (cc)
journal_one w st i MakeDurable off on = absurd (cc)
journal_one w st i (BeginBucket b) off on = absurd (cc)
journal_one w st i (Alone act) off on = share_is st (after w st i (Alone act)) refl
    (counts_alone w.flow.books (books_of st) st.whole.flow.candidates i act on.asks) refl
journal_one w st i (WriteCache x values) off on =
    share_is st (after w st i (WriteCache x values)) (entries_written w st i x values on) refl
    (next_written w st i x values)
journal_one w st i (FailCache x values) off on =
    share_is st (after w st i (FailCache x values)) (entries_failed w st i x values) refl
    (next_failed w st i x values)
journal_one w st i CacheBarrier off on =
    let r = st.whole.parts.records in
    share_is st (after w st i CacheBarrier)
    (ap (λ o. with_sealed o (entries_in r)) (barrier_sealed r.stage r.entry)) refl refl
journal_one w st i (Install un steps) off on = share_is st (after w st i (Install un steps))
    (ap (λ (p : parts.State). entries_in p.records)
    (released_parts (parts_step.after st.whole.parts (parts_event.Install un)) steps))
    (counts_installed w st.whole.flow st.whole.parts i un steps on.asks.2)
    (next_released w.layout (meta.after w.layout st.whole.store (meta.Plain (GiveUp un))) steps)
journal_one w st i act off on = refl

pub journal_kept : IsKept (λ act. journal_act act ≡ false) (λ a b. journal_share b ≡ journal_share a)
journal_kept = record {
  same = λ a. refl;
  both = λ a b c x y. y ∙ x;
  one = journal_one;
}

-- ---- the buckets

-- steps of the books that leave buckets alone
abbrev pub buckets_alone : flow.Act → Bool
buckets_alone (flow.PinPlaces place count) = true
buckets_alone (flow.UnpinPlaces place count) = true
buckets_alone (flow.UnpinDead number) = true
buckets_alone (flow.Shelve step) = true
buckets_alone act = false

abbrev pub buckets_seal : Chain → Bool
buckets_seal SameChain = false
buckets_seal (NewChain buckets gens) = true

abbrev pub buckets_act : Act → Bool
buckets_act (Alone act) = buckets_alone act
buckets_act (Keyed act slot keys) = true
buckets_act (known.Seal last_seq rest root chain) = buckets_seal chain
buckets_act (known.Take p b) = true
buckets_act (known.LetGo b room) = true
buckets_act (known.ReadyChain room) = true
buckets_act (Install un steps) = true
buckets_act act = false

same_buckets : (a : Books) → SameBuckets a a
same_buckets a = record { share = refl; uses = λ t. refl }

-- a pin that becomes a candidate's stays one
pinned_used : (x : Owner) (c : ℕ) → IsPinned x → use_of (Kept c) ≡ use_of x
pinned_used Fresh c p = absurd p
pinned_used (Own i) c p = refl
pinned_used (Kept d) c p = refl
pinned_used Spent c p = absurd p

kept_uses : (k : Books) (c place count : ℕ)
    → ((t : ℕ) → within place count t ≡ true → IsPinned (k.owner t)) → (t : ℕ)
    → use_of (book_step.owner_after (λ x. 0) k.owner (Keep c place count) t) ≡ use_of (k.owner t)
kept_uses k c place count can t = cases (within place count t) refl
  where
    cases : (b : Bool) → within place count t ≡ b
        → use_of (if b then Kept c else k.owner t) ≡ use_of (k.owner t)
    cases true is = pinned_used (k.owner t) c (can t is)
    cases false is = refl

buckets_quiet : (w : Opening) (st : State) (i : ℕ) (act : flow.Act) → buckets_alone act ≡ false
    → is_quiet act ≡ true → IsEnabled w st i (Alone act)
    → SameBuckets (books_of st) (fold w.flow.books (books_of st) (steps_of st.whole.flow.candidates i act))
buckets_quiet w st i (flow.InsertWrite line leaf keys first values) off q on = absurd (cc)
buckets_quiet w st i (flow.Insert form leaf keys) off q on = absurd (cc)
buckets_quiet w st i (flow.Settle number leaf keys) off q on = absurd (cc)
buckets_quiet w st i (flow.PinPlaces place count) off q on = absurd (cc)
buckets_quiet w st i (flow.UnpinPlaces place count) off q on = absurd (cc)
buckets_quiet w st i (flow.UnpinDead number) off q on = absurd (cc)
buckets_quiet w st i (flow.Shelve step) off q on = absurd (cc)
buckets_quiet w st i (flow.NoteCandidate number first count place) off q on = record {
  share = refl;
  uses = kept_uses (books_of st) number place count on.data_allows.0.steps.0;
}
buckets_quiet w st i act off q on = same_buckets (books_of st)

buckets_one : (w : Opening) (st : State) (i : ℕ) (act : Act) → buckets_act act ≡ false
    → IsEnabled w st i act → SameBuckets (books_of st) (books_of (after w st i act))
buckets_one w st i (Alone act) off on = buckets_quiet w st i act off on.asks on
buckets_one w st i (Keyed act slot keys) off on = absurd (cc)
buckets_one w st i (known.Seal last_seq rest root SameChain) off on =
    record { share = refl; uses = λ t. refl }
buckets_one w st i (known.Seal last_seq rest root (NewChain buckets gens)) off on = absurd (cc)
buckets_one w st i (known.Take p b) off on = absurd (cc)
buckets_one w st i (known.LetGo b room) off on = absurd (cc)
buckets_one w st i (known.ReadyChain room) off on = absurd (cc)
buckets_one w st i (Install un steps) off on = absurd (cc)
buckets_one w st i act off on = record { share = refl; uses = λ t. refl }

pub buckets_kept : IsKept (λ act. buckets_act act ≡ false)
    (λ a b. SameBuckets (books_of a) (books_of b))
buckets_kept = record {
  same = λ a. same_buckets (books_of a);
  both = λ a b c x y. record {
    share = y.share ∙ x.share;
    uses = λ t. y.uses t ∙ x.uses t;
  };
  one = buckets_one;
}
