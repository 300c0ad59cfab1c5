-- Which deeds leave a held bucket alone: by the table of events.
use Rattle.std.proofs.Common.{◌≡◌, ◌≢◌, ℕ, Bool, true, false, List, [], ◌∷◌, ◌++◌, Option, Some, None, refl, sym, subst}
use Rattle.std.specs.Prelude.{◌==◌, not, if◌then◌else◌}
use Rattle.bc_model.specs.Sector.{Value}
use Rattle.bc_alloc.specs.declared.purpose.Purpose.{Purpose}
use Rattle.bc_alloc.specs.declared.purpose.Purpose.TheVariants as list
use Rattle.bc_books.specs.Shelves as shelf
use Rattle.bc_data.specs.Data as flow
use Rattle.bc_data.specs.Data.{Act, Look, CacheRead, BackingRead, MakeClaim, Release, Learn, BackingWrite, BackingBarrier, Say}
use Rattle.bc_data.specs.After as flow_step
use Rattle.bc_events.specs.Acts.{acts_of, is_exclusive, claimed, taken, listed, let_go, pinned, read_for, begun, root_of, root_beginning, chain_of, installed, marked, failed}
use Rattle.bc_events.specs.Changes.{made, dropped}
use Rattle.bc_events.specs.Run as core
use Rattle.bc_events.specs.Run.{acts_or_none}
use Rattle.bc_events.specs.Writes.{map_some, with_beginning, write_of}
use Rattle.bc_events.specs.declared.event.Change.{Change}
use Rattle.bc_events.specs.declared.event.Deed.{Deed}
use Rattle.bc_events.specs.declared.event.Deed.TheVariants as deed
use Rattle.bc_events.specs.declared.event.Event.{Event}
use Rattle.bc_events.specs.declared.event.Failure.{Failure}
use Rattle.bc_events.specs.declared.event.Failure.TheVariants as failure
use Rattle.bc_events.specs.declared.event.Listing.{Listing}
use Rattle.bc_events.specs.declared.event.MarkForm.{MarkForm}
use Rattle.bc_events.specs.declared.event.MarkForm.TheVariants as mark
use Rattle.bc_events.specs.declared.event.NewChain.{NewChain}
use Rattle.bc_events.specs.declared.event.NewRoot.{NewRoot}
use Rattle.bc_events.specs.declared.event.UnpinKind.{UnpinKind}
use Rattle.bc_events.specs.declared.event.UnpinKind.TheVariants as unpin
use Rattle.bc_events.specs.declared.event.Written.{Written}
use Rattle.bc_events.specs.declared.event.Written.TheVariants as written
use Rattle.bc_known.specs.Acts as known
use Rattle.bc_known.specs.Acts.{Alone, Keyed, WriteCache, FailCache, Seal, MakeDurable, BeginBucket, Take, LetGo, ReadyChain, BeginChange, Install, ForgetDrafts}
use Rattle.bc_known.specs.Run as machine
use Rattle.bc_leaves.specs.After.{has}
use Rattle.bc_meta.proofs.Lists.{by_test}
use Rattle.bc_place.specs.bc_machine.Frame.{AllData, AllOf, IsOf}
use Rattle.bc_shares.specs.Shares.{books_of}
use Rattle.bc_whole.specs.State as whole
use Rattle.bc_whole.specs.State.{Root, OfEntry, OfInner, OfLeaf, OfParent, OfPriorities, OfSet}
use Rattle.bc_whole.specs.Run.{by as by_data}
use Rattle.bc_whole.specs.Together.{shelved}
use Rattle.bc_held.specs.Held.{chain_leaves, leaves_held}
use Rattle.bc_held.proofs.Steps.{SparesAct, Stands, act_stands}

-- ---- acts, one behind the other

-- of the data, an act is these
data_is : (w : whole.Opening) (st : known.State) (i : ℕ) (act : known.Act)
    → (known.after w st i act).whole.flow
    ≡ flow_step.course w.flow st.whole.flow (by_data i (machine.data_of w st i act))
data_is w st i (Alone act) = refl
data_is w st i (Keyed act slot keys) = refl
data_is w st i (WriteCache x values) = refl
data_is w st i (FailCache x values) = refl
data_is w st i known.CacheBarrier = refl
data_is w st i (Seal last_seq rest root chain) = refl
data_is w st i MakeDurable = refl
data_is w st i (BeginBucket b) = refl
data_is w st i (Take p b) = refl
data_is w st i (LetGo b room) = refl
data_is w st i (ReadyChain room) = refl
data_is w st i (BeginChange low high gone come old new unused) = refl
data_is w st i (Install unused steps) = refl
data_is w st i ForgetDrafts = refl

module _ (w : whole.Opening) (j i q : ℕ) (p : shelf.Purpose) (n : ℕ) where
  abbrev IsSpared : Act → Type 0
  IsSpared = SparesAct w.flow.books.bucket j i q

  data_stands : (st : flow.State) (acts : List Act)
      → flow_step.IsCourse w.flow st (by_data j acts) → AllData IsSpared acts
      → Stands w.flow.books i q p n st.books
      → Stands w.flow.books i q p n (flow_step.course w.flow st (by_data j acts)).books
  data_stands st [] on all h = h
  data_stands st (act ∷ acts) on all h = data_stands (flow_step.after w.flow st j act) acts on.1 all.1
      (act_stands w.flow.books i q p n st.books j st.candidates act on.0.steps all.0 h)

  act_one : (st : known.State) (act : known.Act) → machine.IsEnabled w st j act
      → IsOf IsSpared j act → Stands w.flow.books i q p n (books_of st)
      → Stands w.flow.books i q p n (books_of (known.after w st j act))
  act_one st act on of h =
      subst (λ (f : flow.State). Stands w.flow.books i q p n f.books) (sym (data_is w st j act))
      (data_stands st.whole.flow (machine.data_of w st j act) on.data_allows (of w st) h)

  acts_stand : (st : known.State) (acts : List known.Act) → machine.IsRun w st (core.by j acts)
      → AllOf IsSpared j acts → Stands w.flow.books i q p n (books_of st)
      → Stands w.flow.books i q p n (books_of (machine.run w st (core.by j acts)))
  acts_stand st [] on all h = h
  acts_stand st (act ∷ acts) on all h = acts_stand (known.after w st j act) acts on.1 all.1
      (act_one st act on.0 all.0 h)

-- ---- the rows of the table

-- a bucket isn't this one
not_same : (b q : ℕ) → not (b == q) ≡ true → q ≢ b
not_same b q off same = by_test b q (λ x. not x ≡ true → ⊥) (λ e on. cc) (λ ne on. ne (sym same)) off

not_has : (x : Bool) → not x ≡ true → x ≡ false
not_has true off = absurd (cc)
not_has false off = refl

has_not : (b q : ℕ) (bs : List ℕ) → has (b ∷ bs) q ≡ false → (q ≢ b) × (has bs q ≡ false)
has_not b q bs = by_test q b
    (λ x. (if x then true else has bs q) ≡ false → (q ≢ b) × (has bs q ≡ false))
    (λ same off. absurd (true_not off)) (λ ne off. (ne, off))
  where
    true_not : true ≡ false → ⊥
    true_not e = cc

module _ (bucket : ℕ → ℕ) (j i q : ℕ) where
  abbrev Spares : Act → Type 0
  Spares = SparesAct bucket j i q

  all_claimed : (plain : Bool) (leaf first count : ℕ) (exclusive : Bool)
      → AllOf Spares j (claimed plain leaf first count exclusive)
  all_claimed false leaf first count exclusive = ((λ w st. (tt, tt)), tt)
  all_claimed true leaf first count exclusive = ((λ w st. (tt, tt)), ((λ w st. (tt, tt)), tt))

  all_taken : (p : Purpose) (b : ℕ) → AllOf Spares j (taken j p b)
  all_taken list.Plain b = ((λ w st. (tt, tt)), tt)
  all_taken list.Priorities b = ((λ w st. (tt, tt)), tt)
  all_taken list.Moving b = ((λ w st. (tt, tt)), tt)
  all_taken list.Tree b = ((λ w st. (tt, tt)), tt)

  all_pinned : (w : whole.Opening) (at count : ℕ) (full : Bool) → j ≢ i
      → AllOf Spares j (pinned w at count full)
  all_pinned w at count false ne = ((λ x y. ((λ same. absurd (ne same)), tt)), tt)
  all_pinned w at count true ne = ((λ x y. ((λ same. absurd (ne same)), tt)), ((λ x y. (tt, tt)), tt))

  all_let_go : (kind : UnpinKind) → (j ≡ i → leaves_held q (deed.Unpin kind) ≡ true)
      → AllOf Spares j (let_go kind)
  all_let_go (unpin.Place at count) on = ((λ x y. (tt, tt)), tt)
  all_let_go (unpin.Dead candidate) on = ((λ x y. (tt, tt)), tt)
  all_let_go (unpin.Hold b back) on = ((λ x y. ((λ same. not_same b q (on same)), tt)), tt)

  all_listed : (xs : List Listing) → AllOf Spares j (listed xs)
  all_listed [] = tt
  all_listed (x ∷ xs) = ((λ w st. (tt, tt)), all_listed xs)

  all_read : (first : Option ℕ) (values : List Value) → AllOf Spares j (read_for first values)
  all_read None values = ((λ w st. (tt, tt)), tt)
  all_read (Some first) values = ((λ w st. (tt, tt)), tt)

  all_marked : (form : MarkForm) → AllOf Spares j (marked form)
  all_marked mark.Begin = ((λ w st. (tt, tt)), tt)
  all_marked (mark.Walk leaf) = ((λ w st. (tt, tt)), tt)
  all_marked mark.End = ((λ w st. (tt, tt)), tt)
  all_marked mark.Drop = ((λ w st. (tt, tt)), tt)

  seal_spares : (w : whole.Opening) (st : known.State) (last_seq : ℕ) (rest : List ℕ) (root : Root)
      (chain : Option NewChain) → (j ≡ i → chain_leaves q chain ≡ true)
      → IsOf Spares j (Seal last_seq rest root (chain_of w st chain))
  seal_spares w st last_seq rest root None on = λ x y. (tt, tt)
  seal_spares w st last_seq rest root (Some c) on =
      λ x y. ((λ same. not_has (has c.buckets.items q) (on same)), tt)

  all_sealed : (st : known.State) (bucket : Option ℕ) (root : Option NewRoot) (seal : known.Act)
      → IsOf Spares j seal → AllOf Spares j (begun bucket ++ (root_beginning st root ++ (seal ∷ [])))
  all_sealed st None None seal of = (of, tt)
  all_sealed st None (Some x) seal of = ((λ w y. tt), (of, tt))
  all_sealed st (Some b) None seal of = ((λ w y. tt), (of, tt))
  all_sealed st (Some b) (Some x) seal of = ((λ w y. tt), ((λ w z. tt), (of, tt)))

  all_dropped : (gone : List ℕ) → AllData Spares (shelved (dropped gone))
  all_dropped [] = tt
  all_dropped (b ∷ bs) = (tt, all_dropped bs)

  all_made : (come gone : List ℕ) → (j ≡ i → has come q ≡ false)
      → AllData Spares (shelved (made j come ++ dropped gone))
  all_made [] gone on = all_dropped gone
  all_made (b ∷ bs) gone on = (
    (λ same. (has_not b q bs (on same)).0),
    all_made bs gone (λ same. (has_not b q bs (on same)).1),
  )

  all_installed : (st : known.State) (change : Change) (come gone : List ℕ)
      → (j ≡ i → has come q ≡ false) → AllOf Spares j (installed st j change come gone)
  all_installed st change come gone on = ((λ w x. (tt, all_made come gone on)), tt)

  module _ (st : known.State) (values : List Value) where
    begun_with : (what : Written) (act : known.Act) → IsOf Spares j act
        → AllOf Spares j (with_beginning st what (act ∷ []))
    begun_with (written.Parent inner change) act of = ((λ w x. tt), (of, tt))
    begun_with what act of = (of, tt)

    all_written : (what : Written) (o : Option whole.Write)
        → AllOf Spares j (acts_or_none (map_some (λ x. with_beginning st what
        (WriteCache x values ∷ [])) o))
    all_written what None = tt
    all_written what (Some x) = begun_with what (WriteCache x values) (λ w y. (tt, tt))

    all_lost : (what : Written) (o : Option whole.Write)
        → AllOf Spares j (acts_or_none (map_some (λ x. with_beginning st what
        (FailCache x values ∷ [])) o))
    all_lost what None = tt
    all_lost what (Some x) = begun_with what (FailCache x values) (λ w y. (tt, tt))

  all_failed : (w : whole.Opening) (st : known.State) (x : Failure)
      → AllOf Spares j (acts_or_none (failed w st x))
  all_failed w st (failure.Read device) = ((λ x y. (tt, tt)), tt)
  all_failed w st (failure.Barrier device) = ((λ x y. (tt, tt)), tt)
  all_failed w st (failure.CacheWrite at what values) =
      all_lost st values what (write_of w st what at values)
  all_failed w st (failure.BackingWrite first of values) = ((λ x y. (tt, tt)), tt)

  rows : (w : whole.Opening) (st : known.State) (d : Deed) → (j ≡ i → leaves_held q d ≡ true)
      → AllOf Spares j (acts_or_none (acts_of w st j d))
  rows w st (deed.Claim first count how) on = all_claimed w.flow.plain
      (st.whole.flow.books.index.leaf first) first count (is_exclusive how)
  rows w st deed.Release on = ((λ x y. (tt, tt)), tt)
  rows w st (deed.Look leaf) on = ((λ x y. (tt, tt)), tt)
  rows w st (deed.Pin at count full) on = all_pinned w at count full (λ same. off (on same))
    where
      off : false ≡ true → ⊥
      off e = cc
  rows w st (deed.Unpin kind) on = all_let_go kind on
  rows w st (deed.Take purpose b) on = all_taken purpose b
  rows w st (deed.Raise b) on = ((λ x y. (tt, tt)), tt)
  rows w st (deed.Ready back named) on = ((λ x y. (tt, tt)), all_listed named.items)
  rows w st (deed.CacheRead at first values) on = all_read first values
  rows w st (deed.CacheWrite at what values) on =
      all_written st values what (write_of w st what at values)
  rows w st deed.CacheBarrier on = ((λ x y. (tt, tt)), tt)
  rows w st (deed.BackingRead first values) on = ((λ x y. (tt, tt)), tt)
  rows w st (deed.BackingWrite first of values) on = ((λ x y. (tt, tt)), tt)
  rows w st deed.BackingBarrier on = ((λ x y. (tt, tt)), tt)
  rows w st (deed.InsertWrite leaf keys of first values) on = ((λ x y. (tt, tt)), tt)
  rows w st (deed.Insert leaf keys form) on = ((λ x y. (tt, tt)), tt)
  rows w st (deed.Candidate candidate first count at) on = ((λ x y. (tt, tt)), tt)
  rows w st (deed.Settle leaf candidate keys) on = ((λ x y. (tt, tt)), tt)
  rows w st (deed.Seal last_seq b rest new_root chain) on = all_sealed st b new_root
      (Seal last_seq rest.items (root_of new_root) (chain_of w st chain))
      (seal_spares w st last_seq rest.items (root_of new_root) chain on)
  rows w st deed.Sealed on = ((λ x y. (tt, tt)), tt)
  rows w st (deed.Install change come gone) on = all_installed st change come.items gone.items
      (λ same. not_has (has come.items q) (on same))
  rows w st (deed.Mark form) on = all_marked form
  rows w st (deed.Answer of first values) on = ((λ x y. (tt, tt)), tt)
  rows w st (deed.FlushFrom of) on = ((λ x y. (tt, tt)), tt)
  rows w st (deed.FlushDone of) on = ((λ x y. (tt, tt)), tt)
  rows w st (deed.Durable of first count) on = ((λ x y. (tt, tt)), tt)
  rows w st (deed.LineFrom of) on = tt
  rows w st (deed.LineDone of) on = tt
  rows w st (deed.DeviceFault x) on = all_failed w st x

in_order : (w : core.Opening) (st : core.State) (e : Event) (o : Option (List known.Act))
    → core.IsSome o (core.CanDo w st e)
    → machine.IsRun w.machine st.machine (core.by e.seat (acts_or_none o))
in_order w st e None on = absurd on
in_order w st e (Some acts) on = on.course

-- an event of another seat leaves it, and so does one of its own that leaves it alone
pub event_stands : (w : core.Opening) (st : core.State) (e : Event) (i q : ℕ) (p : shelf.Purpose)
    (n : ℕ) → core.IsEnabled w st e → (e.seat ≡ i → leaves_held q e.deed ≡ true)
    → Stands w.machine.flow.books i q p n (books_of st.machine)
    → Stands w.machine.flow.books i q p n (books_of (core.after w st e).machine)
event_stands w st e i q p n on leaves = acts_stand w.machine e.seat i q p n st.machine
    (acts_or_none (acts_of w.machine st.machine e.seat e.deed))
    (in_order w st e (acts_of w.machine st.machine e.seat e.deed) on)
    (rows w.machine.flow.books.bucket e.seat i q w.machine st.machine e.deed leaves)
