-- Which acts each row of the table has, as far as the shares go.
use Rattle.std.proofs.Common.{◌≡◌, ℕ, Bool, true, false, List, [], ◌∷◌, ◌++◌, take, Option, Some, None, refl, subst}
use Rattle.bc_model.specs.Sector.{Value}
use Rattle.bc_books.specs.Books as book
use Rattle.bc_books.specs.Shelves as shelf
use Rattle.bc_data.specs.Data as flow
use Rattle.bc_leaves.specs.Parts.{leaf_owner, inner_owner}
use Rattle.bc_leaves.specs.After.{has}
use Rattle.bc_whole.specs.State as whole
use Rattle.bc_known.specs.Acts.{State, Act, Alone, WriteCache, FailCache, CacheBarrier, Seal, Take, LetGo, ReadyChain, Install}
use Rattle.bc_events.specs.Acts.{acts_of, is_exclusive, route_of, list_of, root_of, chain_of, claimed, pinned, let_go, taken, listed, read_for, begun, root_beginning, marked, failed}
use Rattle.bc_events.specs.Writes.{map_some, beginning, with_beginning, write_of, set_in, draft_leaf, draft_inner}
use Rattle.bc_events.specs.Run.{acts_or_none}
use Rattle.bc_events.specs.declared.event.Deed.{Deed}
use Rattle.bc_events.specs.declared.event.Deed.TheVariants as deed
use Rattle.bc_events.specs.declared.event.Failure.{Failure}
use Rattle.bc_events.specs.declared.event.Failure.TheVariants as failure
use Rattle.bc_events.specs.declared.event.Listing.{Listing}
use Rattle.bc_events.specs.declared.event.MarkForm.{MarkForm}
use Rattle.bc_events.specs.declared.event.MarkForm.TheVariants as mark
use Rattle.bc_events.specs.declared.event.NewChain.{NewChain}
use Rattle.bc_events.specs.declared.event.NewRoot.{NewRoot}
use Rattle.bc_events.specs.declared.event.UnpinKind.{UnpinKind}
use Rattle.bc_events.specs.declared.event.UnpinKind.TheVariants as unpin
use Rattle.bc_events.specs.declared.event.Written.{Written}
use Rattle.bc_events.specs.declared.event.Written.TheVariants as written
use Rattle.bc_alloc.specs.declared.purpose.Purpose.{Purpose}
use Rattle.bc_alloc.specs.declared.purpose.Purpose.TheVariants as list
use Rattle.bc_shares.specs.Touched.{touches_journal, is_new, touches_buckets, write_touches_leaf, root_touches_leaf, fault_touches_leaf, touches_leaf, is_root, write_touches_spine, fault_touches_spine, touches_spine}
use Rattle.bc_shares.proofs.Acts.{AllActs, journal_act, buckets_act}
use Rattle.bc_shares.proofs.Parts.{leaf_write, leaf_fault, leaf_act, spine_write, spine_act}

-- these acts leave a share alone
abbrev pub Off : (Act → Bool) → List Act → Type 0
Off f acts = AllActs (λ act. f act ≡ false) acts

-- Writes of the cache device, with the change of the tree that some begin.
module _ (f : Act → Bool) (st : State) where
  -- the beginning of a write's change
  abbrev BeginsOff : Written → Type 0
  BeginsOff (written.Parent inner change) = f (beginning st change) ≡ false
  BeginsOff what = Unit {0}

  with_begun : (what : Written) (act : Act) → BeginsOff what → f act ≡ false
      → Off f (with_beginning st what (act ∷ []))
  with_begun (written.Parent inner change) act begin off = (begin, (off, tt))
  with_begun what act begin off = (off, tt)

  -- each write that it may be
  written_by : (what : Written) (act : whole.Write → Act) → BeginsOff what
      → (o : Option whole.Write) → ((x : whole.Write) → o ≡ Some x → f (act x) ≡ false)
      → Off f (acts_or_none (map_some (λ x. with_beginning st what (act x ∷ [])) o))
  written_by what act begin None off = tt
  written_by what act begin (Some x) off = with_begun what (act x) begin (off x refl)

-- ---- rows of acts that neither keys nor nodes come in by

-- a share that these acts leave alone
pub record IsCalm (f : Act → Bool) : Type 0 where
  pub alone : (act : flow.Act) → f (Alone act) ≡ false
  pub take : (p : shelf.Purpose) (b : ℕ) → f (Take p b) ≡ false
  pub let_go : (b : ℕ) (room : Bool) → f (LetGo b room) ≡ false
  pub ready : (room : ℕ → Bool) → f (ReadyChain room) ≡ false
  pub barrier : f CacheBarrier ≡ false

-- the rows of deeds that bring no keys, name no entry, write nothing to the cache device and
-- install nothing
abbrev pub IsCalmDeed : Deed → Type 0
IsCalmDeed (deed.InsertWrite leaf keys of first values) = ⊥
IsCalmDeed (deed.Insert leaf keys form) = ⊥
IsCalmDeed (deed.Settle leaf candidate keys) = ⊥
IsCalmDeed (deed.Seal last_seq bucket rest new_root chain) = ⊥
IsCalmDeed deed.Sealed = ⊥
IsCalmDeed (deed.Install change come gone) = ⊥
IsCalmDeed (deed.CacheWrite at what values) = ⊥
IsCalmDeed (deed.DeviceFault x) = ⊥
IsCalmDeed d = Unit {0}

-- a failed call that is no write of the cache device
abbrev IsOtherFault : Failure → Type 0
IsOtherFault (failure.CacheWrite at what values) = ⊥
IsOtherFault x = Unit {0}

module _ (f : Act → Bool) (calm : IsCalm f) where
  all_claimed : (plain : Bool) (leaf first count : ℕ) (exclusive : Bool)
      → Off f (claimed plain leaf first count exclusive)
  all_claimed false leaf first count exclusive =
      (calm.alone (flow.MakeClaim first count exclusive), tt)
  all_claimed true leaf first count exclusive = (
    calm.alone (flow.MakeClaim first count exclusive),
    (calm.alone (flow.Learn (flow.Look leaf)), tt),
  )

  all_pinned : (w : whole.Opening) (at count : ℕ) (full : Bool) → Off f (pinned w at count full)
  all_pinned w at count false = (calm.alone (flow.PinPlaces at count), tt)
  all_pinned w at count true = (
    calm.alone (flow.PinPlaces at count),
    (calm.alone (flow.Shelve (book.Shut (w.flow.books.bucket at))), tt),
  )

  all_let_go : (kind : UnpinKind) → Off f (let_go kind)
  all_let_go (unpin.Place at count) = (calm.alone (flow.UnpinPlaces at count), tt)
  all_let_go (unpin.Dead candidate) = (calm.alone (flow.UnpinDead candidate), tt)
  all_let_go (unpin.Hold bucket back) = (calm.let_go bucket back, tt)

  all_taken : (i : ℕ) (p : Purpose) (b : ℕ) → Off f (taken i p b)
  all_taken i list.Plain b = (calm.alone (flow.Shelve (book.Take i shelf.Plain b)), tt)
  all_taken i list.Priorities b = (calm.take shelf.Priorities b, tt)
  all_taken i list.Moving b = (calm.take shelf.Moving b, tt)
  all_taken i list.Tree b = (calm.take shelf.Tree b, tt)

  all_listed : (xs : List Listing) → Off f (listed xs)
  all_listed [] = tt
  all_listed (x ∷ xs) = (
    calm.alone (flow.Shelve (book.MakeReady x.bucket (list_of x.list))),
    all_listed xs,
  )

  all_read : (first : Option ℕ) (values : List Value) → Off f (read_for first values)
  all_read None values = (calm.alone (flow.Fail flow.ReadFault), tt)
  all_read (Some first) values = (calm.alone (flow.Learn (flow.CacheRead first values)), tt)

  all_marked : (form : MarkForm) → Off f (marked form)
  all_marked mark.Begin = (calm.alone (flow.Shelve book.Begin), tt)
  all_marked (mark.Walk leaf) = (calm.alone (flow.Shelve (book.Walk leaf)), tt)
  all_marked mark.End = (calm.alone (flow.Shelve book.End), tt)
  all_marked mark.Drop = (calm.alone (flow.Shelve book.Drop), tt)

  pub calm_row : (w : whole.Opening) (st : State) (i : ℕ) (d : Deed) → IsCalmDeed d
      → Off f (acts_or_none (acts_of w st i d))
  calm_row w st i (deed.InsertWrite leaf keys of first values) c = absurd c
  calm_row w st i (deed.Insert leaf keys form) c = absurd c
  calm_row w st i (deed.Settle leaf candidate keys) c = absurd c
  calm_row w st i (deed.Seal last_seq bucket rest new_root chain) c = absurd c
  calm_row w st i deed.Sealed c = absurd c
  calm_row w st i (deed.Install change come gone) c = absurd c
  calm_row w st i (deed.CacheWrite at what values) c = absurd c
  calm_row w st i (deed.DeviceFault x) c = absurd c
  calm_row w st i (deed.Claim first count how) c = all_claimed w.flow.plain
      (st.whole.flow.books.index.leaf first) first count (is_exclusive how)
  calm_row w st i deed.Release c = (calm.alone flow.Release, tt)
  calm_row w st i (deed.Look leaf) c = (calm.alone (flow.Learn (flow.Look leaf)), tt)
  calm_row w st i (deed.Pin at count full) c = all_pinned w at count full
  calm_row w st i (deed.Unpin kind) c = all_let_go kind
  calm_row w st i (deed.Take purpose bucket) c = all_taken i purpose bucket
  calm_row w st i (deed.Raise bucket) c = (calm.alone (flow.Shelve (book.Raise bucket)), tt)
  calm_row w st i (deed.Ready back named) c = (calm.ready (has back.items), all_listed named.items)
  calm_row w st i (deed.CacheRead at first values) c = all_read first values
  calm_row w st i deed.CacheBarrier c = (calm.barrier, tt)
  calm_row w st i (deed.BackingRead first values) c =
      (calm.alone (flow.Learn (flow.BackingRead first values)), tt)
  calm_row w st i (deed.BackingWrite first of values) c =
      (calm.alone (flow.BackingWrite (route_of of) first values), tt)
  calm_row w st i deed.BackingBarrier c = (calm.alone flow.BackingBarrier, tt)
  calm_row w st i (deed.Candidate candidate first count at) c =
      (calm.alone (flow.NoteCandidate candidate first count at), tt)
  calm_row w st i (deed.Mark form) c = all_marked form
  calm_row w st i (deed.Answer of first values) c =
      (calm.alone (flow.Say (flow.Answer of.line first values)), tt)
  calm_row w st i (deed.FlushFrom of) c = (calm.alone (flow.Say (flow.BeginFlush of.line)), tt)
  calm_row w st i (deed.FlushDone of) c = (calm.alone (flow.Say (flow.EndFlush of.line)), tt)
  calm_row w st i (deed.Durable of first count) c =
      (calm.alone (flow.Say (flow.Acknowledge of.line first count)), tt)
  calm_row w st i (deed.LineFrom of) c = tt
  calm_row w st i (deed.LineDone of) c = tt

  pub calm_failed : (w : whole.Opening) (st : State) (x : Failure) → IsOtherFault x
      → Off f (acts_or_none (failed w st x))
  calm_failed w st (failure.CacheWrite at what values) c = absurd c
  calm_failed w st (failure.Read device) c = (calm.alone (flow.Fail flow.ReadFault), tt)
  calm_failed w st (failure.Barrier device) c = (calm.alone (flow.Fail flow.BarrierFault), tt)
  calm_failed w st (failure.BackingWrite first of values) c =
      (calm.alone (flow.Fail (flow.BackingFault (route_of of) first values)), tt)

-- ---- the journal

journal_calm : IsCalm journal_act
journal_calm = record {
  alone = λ act. refl;
  take = λ p b. refl;
  let_go = λ b room. refl;
  ready = λ room. refl;
  barrier = refl;
}

journal_begins : (st : State) (what : Written) → BeginsOff journal_act st what
journal_begins st (written.Parent inner change) = refl
journal_begins st what = tt

journal_failed : (w : whole.Opening) (st : State) (x : Failure)
    → Off journal_act (acts_or_none (failed w st x))
journal_failed w st (failure.CacheWrite at what values) = written_by journal_act st what
    (λ x. FailCache x values) (journal_begins st what) (write_of w st what at values) (λ x is. refl)
journal_failed w st x = calm_failed journal_act journal_calm w st x tt

pub journal_row : (w : whole.Opening) (st : State) (i : ℕ) (d : Deed) → touches_journal d ≡ false
    → Off journal_act (acts_or_none (acts_of w st i d))
journal_row w st i (deed.InsertWrite leaf keys of first values) off = absurd (cc)
journal_row w st i (deed.Insert leaf keys form) off = absurd (cc)
journal_row w st i (deed.Settle leaf candidate keys) off = absurd (cc)
journal_row w st i (deed.Seal last_seq bucket rest new_root chain) off = absurd (cc)
journal_row w st i deed.Sealed off = absurd (cc)
journal_row w st i (deed.Install change come gone) off = (refl, tt)
journal_row w st i (deed.CacheWrite at what values) off = written_by journal_act st what
    (λ x. WriteCache x values) (journal_begins st what) (write_of w st what at values) (λ x is. refl)
journal_row w st i (deed.DeviceFault x) off = journal_failed w st x
journal_row w st i d off = calm_row journal_act journal_calm w st i d tt

-- ---- the buckets

buckets_begins : (st : State) (what : Written) → BeginsOff buckets_act st what
buckets_begins st (written.Parent inner change) = refl
buckets_begins st what = tt

buckets_claimed : (plain : Bool) (leaf first count : ℕ) (exclusive : Bool)
    → Off buckets_act (claimed plain leaf first count exclusive)
buckets_claimed false leaf first count exclusive = (refl, tt)
buckets_claimed true leaf first count exclusive = (refl, (refl, tt))

buckets_read : (first : Option ℕ) (values : List Value) → Off buckets_act (read_for first values)
buckets_read None values = (refl, tt)
buckets_read (Some first) values = (refl, tt)

buckets_failed : (w : whole.Opening) (st : State) (x : Failure)
    → Off buckets_act (acts_or_none (failed w st x))
buckets_failed w st (failure.CacheWrite at what values) = written_by buckets_act st what
    (λ x. FailCache x values) (buckets_begins st what) (write_of w st what at values) (λ x is. refl)
buckets_failed w st (failure.Read device) = (refl, tt)
buckets_failed w st (failure.Barrier device) = (refl, tt)
buckets_failed w st (failure.BackingWrite first of values) = (refl, tt)

buckets_sealed : (w : whole.Opening) (st : State) (last_seq : ℕ) (bucket : Option ℕ)
    (rest : List ℕ) (root : Option NewRoot) (chain : Option NewChain) → is_new chain ≡ false
    → Off buckets_act (begun bucket ++ (root_beginning st root
    ++ (Seal last_seq rest (root_of root) (chain_of w st chain) ∷ [])))
buckets_sealed w st last_seq bucket rest root (Some x) off = absurd (cc)
buckets_sealed w st last_seq None rest None None off = (refl, tt)
buckets_sealed w st last_seq None rest (Some x) None off = (refl, (refl, tt))
buckets_sealed w st last_seq (Some b) rest None None off = (refl, (refl, tt))
buckets_sealed w st last_seq (Some b) rest (Some x) None off = (refl, (refl, (refl, tt)))

pub buckets_row : (w : whole.Opening) (st : State) (i : ℕ) (d : Deed) → touches_buckets d ≡ false
    → Off buckets_act (acts_or_none (acts_of w st i d))
buckets_row w st i (deed.Pin at count full) off = absurd (cc)
buckets_row w st i (deed.Unpin kind) off = absurd (cc)
buckets_row w st i (deed.Take purpose bucket) off = absurd (cc)
buckets_row w st i (deed.Raise bucket) off = absurd (cc)
buckets_row w st i (deed.Ready back named) off = absurd (cc)
buckets_row w st i (deed.InsertWrite leaf keys of first values) off = absurd (cc)
buckets_row w st i (deed.Insert leaf keys form) off = absurd (cc)
buckets_row w st i (deed.Settle leaf candidate keys) off = absurd (cc)
buckets_row w st i (deed.Install change come gone) off = absurd (cc)
buckets_row w st i (deed.Mark form) off = absurd (cc)
buckets_row w st i (deed.Seal last_seq bucket rest new_root chain) off =
    buckets_sealed w st last_seq bucket rest.items new_root chain off
buckets_row w st i (deed.Claim first count how) off = buckets_claimed w.flow.plain
    (st.whole.flow.books.index.leaf first) first count (is_exclusive how)
buckets_row w st i (deed.CacheRead at first values) off = buckets_read first values
buckets_row w st i (deed.CacheWrite at what values) off = written_by buckets_act st what
    (λ x. WriteCache x values) (buckets_begins st what) (write_of w st what at values) (λ x is. refl)
buckets_row w st i (deed.DeviceFault x) off = buckets_failed w st x
buckets_row w st i (deed.LineFrom of) off = tt
buckets_row w st i (deed.LineDone of) off = tt
buckets_row w st i d off = (refl, tt)

-- ---- a leaf

leaf_calm : (k : ℕ) → IsCalm (leaf_act k)
leaf_calm k = record {
  alone = λ act. refl;
  take = λ p b. refl;
  let_go = λ b room. refl;
  ready = λ room. refl;
  barrier = refl;
}

leaf_begins : (k : ℕ) (st : State) (what : Written) → write_touches_leaf k what ≡ false
    → BeginsOff (leaf_act k) st what
leaf_begins k st (written.Parent inner change) off = off
leaf_begins k st what off = tt

-- what holds of each write that values may be
given : {A : Type 0} (a b : A) → Some a ≡ Some b → a ≡ b
given a b is = cc

mapped : {A : Type 0} (P : whole.Write → Type 0) (g : A → whole.Write) (o : Option A)
    (x : whole.Write) → ((a : A) → P (g a)) → map_some g o ≡ Some x → P x
mapped P g None x all is = absurd (cc)
mapped P g (Some a) x all is = subst P (given (g a) x is) (all a)

leaf_written : (k : ℕ) (w : whole.Opening) (st : State) (what : Written) (at : ℕ)
    (values : List Value) (x : whole.Write) → write_touches_leaf k what ≡ false
    → write_of w st what at values ≡ Some x → leaf_write k x ≡ false
leaf_written k w st written.Data at values x off is = subst (λ y. leaf_write k y ≡ false)
    (given (whole.OfData (w.flow.books.bucket at) at) x is) refl
leaf_written k w st written.Entry at values x off is =
    subst (λ y. leaf_write k y ≡ false) (given whole.OfEntry x is) refl
leaf_written k w st (written.Set leaf) at values x off is = mapped (λ y. leaf_write k y ≡ false)
    (whole.OfSet leaf) (set_in w (leaf_owner (st.whole.parts.leaves leaf)) values) x (λ set. off) is
leaf_written k w st (written.Parent inner change) at values x off is =
    mapped (λ y. leaf_write k y ≡ false) (whole.OfParent inner)
    (set_in w (inner_owner (st.whole.parts.inner_nodes inner)) values) x (λ set. refl) is
leaf_written k w st (written.Leaf n) at values x off is = mapped (λ y. leaf_write k y ≡ false)
    (whole.OfLeaf n.slot (draft_leaf n))
    (set_in w (leaf_owner (draft_leaf n)) (take n.sectors values)) x (λ set. off) is
leaf_written k w st (written.Inner n) at values x off is = mapped (λ y. leaf_write k y ≡ false)
    (whole.OfInner n.slot (draft_inner n))
    (set_in w (inner_owner (draft_inner n)) (take n.sectors values)) x (λ set. refl) is
leaf_written k w st (written.Priorities bucket part) at values x off is =
    mapped (λ y. leaf_write k y ≡ false) (whole.OfPriorities bucket part)
    (w.layout.prios.spelled part values) x (λ set. refl) is

leaf_faulted : (k : ℕ) (x : whole.Write) → leaf_write k x ≡ false → leaf_fault k x ≡ false
leaf_faulted k (whole.OfSet i set) off = off
leaf_faulted k x off = refl

leaf_failed : (k : ℕ) (w : whole.Opening) (st : State) (x : Failure)
    → fault_touches_leaf k x ≡ false → Off (leaf_act k) (acts_or_none (failed w st x))
leaf_failed k w st (failure.CacheWrite at what values) off = written_by (leaf_act k) st what
    (λ x. FailCache x values) (leaf_begins k st what off) (write_of w st what at values)
    (λ x is. leaf_faulted k x (leaf_written k w st what at values x off is))
leaf_failed k w st x off = calm_failed (leaf_act k) (leaf_calm k) w st x tt

leaf_sealed : (k : ℕ) (w : whole.Opening) (st : State) (last_seq : ℕ) (bucket : Option ℕ)
    (rest : List ℕ) (root : Option NewRoot) (chain : Option NewChain)
    → root_touches_leaf k root ≡ false
    → Off (leaf_act k) (begun bucket ++ (root_beginning st root
    ++ (Seal last_seq rest (root_of root) (chain_of w st chain) ∷ [])))
leaf_sealed k w st last_seq None rest None chain off = (refl, tt)
leaf_sealed k w st last_seq None rest (Some x) chain off = (off, (refl, tt))
leaf_sealed k w st last_seq (Some b) rest None chain off = (refl, (refl, tt))
leaf_sealed k w st last_seq (Some b) rest (Some x) chain off = (refl, (off, (refl, tt)))

-- an install has a law of its own
abbrev pub IsNoInstall : Deed → Type 0
IsNoInstall (deed.Install change come gone) = ⊥
IsNoInstall d = Unit {0}

pub leaf_row : (k : ℕ) (w : whole.Opening) (st : State) (i : ℕ) (d : Deed) → IsNoInstall d
    → touches_leaf k d ≡ false → Off (leaf_act k) (acts_or_none (acts_of w st i d))
leaf_row k w st i (deed.InsertWrite leaf keys of first values) there off = (off, tt)
leaf_row k w st i (deed.Insert leaf keys form) there off = (off, tt)
leaf_row k w st i (deed.Settle leaf candidate keys) there off = (off, tt)
leaf_row k w st i (deed.Seal last_seq bucket rest new_root chain) there off =
    leaf_sealed k w st last_seq bucket rest.items new_root chain off
leaf_row k w st i deed.Sealed there off = (refl, tt)
leaf_row k w st i (deed.Install change come gone) there off = absurd there
leaf_row k w st i (deed.CacheWrite at what values) there off = written_by (leaf_act k) st what
    (λ x. WriteCache x values) (leaf_begins k st what off) (write_of w st what at values)
    (λ x is. leaf_written k w st what at values x off is)
leaf_row k w st i (deed.DeviceFault x) there off = leaf_failed k w st x off
leaf_row k w st i d there off = calm_row (leaf_act k) (leaf_calm k) w st i d tt

-- ---- the spine

spine_calm : IsCalm spine_act
spine_calm = record {
  alone = λ act. refl;
  take = λ p b. refl;
  let_go = λ b room. refl;
  ready = λ room. refl;
  barrier = refl;
}

spine_begins : (st : State) (what : Written) → write_touches_spine what ≡ false
    → BeginsOff spine_act st what
spine_begins st (written.Parent inner change) off = absurd (cc)
spine_begins st what off = tt

spine_written : (w : whole.Opening) (st : State) (what : Written) (at : ℕ) (values : List Value)
    (x : whole.Write) → write_touches_spine what ≡ false → write_of w st what at values ≡ Some x
    → spine_write x ≡ false
spine_written w st written.Data at values x off is = subst (λ y. spine_write y ≡ false)
    (given (whole.OfData (w.flow.books.bucket at) at) x is) refl
spine_written w st written.Entry at values x off is =
    subst (λ y. spine_write y ≡ false) (given whole.OfEntry x is) refl
spine_written w st (written.Set leaf) at values x off is = mapped (λ y. spine_write y ≡ false)
    (whole.OfSet leaf) (set_in w (leaf_owner (st.whole.parts.leaves leaf)) values) x (λ set. refl) is
spine_written w st (written.Parent inner change) at values x off is = absurd (cc)
spine_written w st (written.Leaf n) at values x off is = absurd (cc)
spine_written w st (written.Inner n) at values x off is = absurd (cc)
spine_written w st (written.Priorities bucket part) at values x off is =
    mapped (λ y. spine_write y ≡ false) (whole.OfPriorities bucket part)
    (w.layout.prios.spelled part values) x (λ set. refl) is

spine_failed : (w : whole.Opening) (st : State) (x : Failure) → fault_touches_spine x ≡ false
    → Off spine_act (acts_or_none (failed w st x))
spine_failed w st (failure.CacheWrite at what values) off = written_by spine_act st what
    (λ x. FailCache x values) (spine_begins st what off) (write_of w st what at values)
    (λ x is. spine_written w st what at values x off is)
spine_failed w st x off = calm_failed spine_act spine_calm w st x tt

spine_sealed : (w : whole.Opening) (st : State) (last_seq : ℕ) (bucket : Option ℕ)
    (rest : List ℕ) (root : Option NewRoot) (chain : Option NewChain) → is_root root ≡ false
    → Off spine_act (begun bucket ++ (root_beginning st root
    ++ (Seal last_seq rest (root_of root) (chain_of w st chain) ∷ [])))
spine_sealed w st last_seq bucket rest (Some x) chain off = absurd (cc)
spine_sealed w st last_seq None rest None chain off = (refl, tt)
spine_sealed w st last_seq (Some b) rest None chain off = (refl, (refl, tt))

pub spine_row : (w : whole.Opening) (st : State) (i : ℕ) (d : Deed) → touches_spine d ≡ false
    → Off spine_act (acts_or_none (acts_of w st i d))
spine_row w st i (deed.InsertWrite leaf keys of first values) off = (refl, tt)
spine_row w st i (deed.Insert leaf keys form) off = (refl, tt)
spine_row w st i (deed.Settle leaf candidate keys) off = (refl, tt)
spine_row w st i (deed.Seal last_seq bucket rest new_root chain) off =
    spine_sealed w st last_seq bucket rest.items new_root chain off
spine_row w st i deed.Sealed off = (refl, tt)
spine_row w st i (deed.Install change come gone) off = absurd (cc)
spine_row w st i (deed.CacheWrite at what values) off = written_by spine_act st what
    (λ x. WriteCache x values) (spine_begins st what off) (write_of w st what at values)
    (λ x is. spine_written w st what at values x off is)
spine_row w st i (deed.DeviceFault x) off = spine_failed w st x off
spine_row w st i d off = calm_row spine_act spine_calm w st i d tt

-- ---- what installs nothing

abbrev pub installs : Act → Bool
installs (Install un steps) = true
installs act = false

installs_calm : IsCalm installs
installs_calm = record {
  alone = λ act. refl;
  take = λ p b. refl;
  let_go = λ b room. refl;
  ready = λ room. refl;
  barrier = refl;
}

installs_begins : (st : State) (what : Written) → BeginsOff installs st what
installs_begins st (written.Parent inner change) = refl
installs_begins st what = tt

installs_sealed : (w : whole.Opening) (st : State) (last_seq : ℕ) (bucket : Option ℕ)
    (rest : List ℕ) (root : Option NewRoot) (chain : Option NewChain)
    → Off installs (begun bucket ++ (root_beginning st root
    ++ (Seal last_seq rest (root_of root) (chain_of w st chain) ∷ [])))
installs_sealed w st last_seq None rest None chain = (refl, tt)
installs_sealed w st last_seq None rest (Some x) chain = (refl, (refl, tt))
installs_sealed w st last_seq (Some b) rest None chain = (refl, (refl, tt))
installs_sealed w st last_seq (Some b) rest (Some x) chain = (refl, (refl, (refl, tt)))

installs_failed : (w : whole.Opening) (st : State) (x : Failure)
    → Off installs (acts_or_none (failed w st x))
installs_failed w st (failure.CacheWrite at what values) = written_by installs st what
    (λ x. FailCache x values) (installs_begins st what) (write_of w st what at values)
    (λ x is. refl)
installs_failed w st x = calm_failed installs installs_calm w st x tt

pub no_install_row : (w : whole.Opening) (st : State) (i : ℕ) (d : Deed) → IsNoInstall d
    → Off installs (acts_or_none (acts_of w st i d))
no_install_row w st i (deed.InsertWrite leaf keys of first values) there = (refl, tt)
no_install_row w st i (deed.Insert leaf keys form) there = (refl, tt)
no_install_row w st i (deed.Settle leaf candidate keys) there = (refl, tt)
no_install_row w st i (deed.Seal last_seq bucket rest new_root chain) there =
    installs_sealed w st last_seq bucket rest.items new_root chain
no_install_row w st i deed.Sealed there = (refl, tt)
no_install_row w st i (deed.Install change come gone) there = absurd there
no_install_row w st i (deed.CacheWrite at what values) there = written_by installs st what
    (λ x. WriteCache x values) (installs_begins st what) (write_of w st what at values)
    (λ x is. refl)
no_install_row w st i (deed.DeviceFault x) there = installs_failed w st x
no_install_row w st i d there = calm_row installs installs_calm w st i d tt
