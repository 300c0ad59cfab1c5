-- A part goes on to stand for its share of the state whatever events happen that don't change it.
use Rattle.std.specs.Prelude.{◌≡◌, ◌≢◌, ℕ, zero, suc, ◌+◌, ◌-◌, ◌*◌, ◌%◌, ◌≤◌, Bool, true, false, ◌==◌, ◌&&◌, ◌||◌, List, [], ◌∷◌, ◌++◌, length, fold, Option, Some, None, if◌then◌else◌, refl}
use Rattle.std.proofs.Common.{inl, inr, sym, ap, ◌∙◌, subst, arith}
use Rattle.bc_disk.specs.Device.{Content}
use Rattle.bc_disk.specs.Disk.{DiskFacts, StandsFor}
use Rattle.bc_disk.specs.declared.disk.Device.{Device}
use Rattle.bc_disk.specs.declared.disk.Device.TheVariants.{Cache, Backing}
use Rattle.bc_flight.specs.Flight.{InFlight, claim_at}
use Rattle.bc_flight.specs.declared.candidate.Candidate.{Candidate}
use Rattle.bc_books.specs.Shelves.{Owner}
use Rattle.bc_data.specs.Seats.{Claim}
use Rattle.bc_leaves.specs.Parts.{Role, NoNode, Draft, Free, Leaving, Coming}
use Rattle.bc_leaves.specs.Parts as parts
use Rattle.bc_leaves.specs.After.{has}
use Rattle.bc_whole.specs.State as whole
use Rattle.bc_known.specs.Acts as known
use Rattle.bc_parts.specs.Course.{IsCourse}
use Rattle.bc_inner.specs.Inner.{Inner}
use Rattle.bc_tree.specs.Spine.{Spine}
use Rattle.bc_journal.specs.Journal.{Journal}
use Rattle.bc_bucket.specs.Buckets.{bucket_of}
use Rattle.bc_cache.specs.Slots.{NodeCache}
use Rattle.bc_events.specs.Run as core
use Rattle.bc_events.specs.Columns.{Call, call_by, device_of_failure}
use Rattle.bc_events.specs.declared.event.Change.{Change}
use Rattle.bc_events.specs.declared.event.NewRoot.{NewRoot}
use Rattle.bc_events.specs.declared.event.Written.{Written}
use Rattle.bc_events.specs.declared.event.Written.TheVariants as written
use Rattle.bc_events.specs.declared.event.Failure.{Failure}
use Rattle.bc_events.specs.declared.event.Failure.TheVariants as failure
use Rattle.bc_events.specs.declared.event.Deed.{Deed}
use Rattle.bc_events.specs.declared.event.Deed.TheVariants as deed
use Rattle.bc_events.specs.declared.event.Event.{Event}
use Rattle.bc_shares.specs.Shares.{Shape, JournalShare, journal_share, BucketsShare, buckets_in, use_of, books_of, LeafShare, leaf_share, InnerShare, inner_share, SameSpine}
use Rattle.bc_shares.specs.Touched.{touches_journal, touches_buckets, among_leaves, write_touches_leaf, root_touches_leaf, fault_touches_leaf, touches_leaf, NamesItsChange, touches_spine}
use Rattle.bc_needs.specs.Needs.{NeedsFrom}
use Rattle.bc_needs.proofs.Lasting.{law_lasts}
use Rattle.bc_shares.specs.Laws.{Happens}
use Rattle.bc_shares.proofs.Law.{law_journal, law_buckets, law_spine, law_slot, law_leaf}
use Rattle.bc_places.proofs.Others.{law_kept}
use Rattle.bc_machine.specs.declared.part.BackingPart.{BackingPart}
use Rattle.bc_machine.specs.declared.part.BucketsPart.{BucketsPart}
use Rattle.bc_machine.specs.declared.part.SpinePart.{SpinePart}
use Rattle.bc_machine.specs.declared.part.CorePart.{CorePart}
use Rattle.bc_machine.specs.declared.part.CorePart.TheVariants as part
use Rattle.bc_machine.specs.Containers.{IsInTree, IsTreeLeaf, IsTreeInner, inner_slot, IsSpineOf, Rests, IsAtRest, IsSpinePartOf, IsLeafFor, AreLeavesOf, IsJournalOf, IsBucketFor, pins_of, pins_in, IsChainOf, IsRoundOf, AreBucketsOf}
use Rattle.bc_machine.specs.World.{Side, model, behind, same_device, called, counted, held_after, held_after_failure, Begun, World, is_told, after, data_of, Origin, replay, IsCourseOf, IsOrigin, EndsItsChange, CanFollow, IsEnabled, is_call_of, touches_flight, lies_in, any_in, change_in, write_in, root_in, fault_in, touches_leaves, changes, claim_in, share_of, Kept, kept_of, notes_candidate, candidates_noted, IsCandidateOf, EachIsOf, AreCandidatesOf, seen_from, IsView, InEach, IsFlightOf, FromEach, IsSpine, IsSpinePart, AreBuckets, IsJournal, AreLeaves, IsCache, IsBackingOf, StandsAs, opening}
use Rattle.bc_machine.specs.Roots.{NameTheSame, law_root}
use Rattle.bc_machine.specs.Comes.{write_spares, root_spares, fault_spares, spares, tree_spared, law_comes}
use Rattle.bc_machine.specs.Frame.{Range, range_of, by_test, Claims, OnBacking, stays_event}

-- ---- claims and devices

not_or : (a b : Bool) → (a || b) ≡ false → (a ≡ false) × (b ≡ false)
not_or false b is = (refl, is)
not_or true b is = absurd (cc)

true_and : (b : Bool) → (true && b) ≡ false → b ≡ false
true_and b is = is

by_claims : (n : ℕ) (a b : Claim) → range_of a ≡ range_of b → claim_in n a ≡ claim_in n b
by_claims n a b is = ap (λ (r : Range). if r.count == 0 then None
    else Some (claim_at n r.first r.count (share_of r.exclusive))) is

each_stays : (cs : List Candidate) (a b : ℕ → Kept) → ((n : ℕ) → b n ≡ a n)
    → EachIsOf a cs → EachIsOf b cs
each_stays [] a b same h = tt
each_stays (c ∷ cs) a b same h = (
  subst (λ k. IsCandidateOf k c) (sym (same c.number)) h.0,
  each_stays cs a b same h.1,
)

pub candidates_stay : (cs : List Candidate) (a b : ℕ → Kept) → ((n : ℕ) → b n ≡ a n)
    → AreCandidatesOf cs a → AreCandidatesOf cs b
candidates_stay cs a b same h = record {
  each = each_stays cs a b same h.each;
  all = λ n stands. h.all n (sym (ap (λ (k : Kept). k.stands) (same n)) ∙ stands);
}

noted_off : (d : Deed) → touches_flight d ≡ false → notes_candidate d ≡ false
noted_off (deed.Candidate candidate first count at) off = absurd (cc)
noted_off d off = refl

flight_stays : (f : InFlight) (x : World) (e : Event) → touches_flight e.deed ≡ false
    → IsFlightOf f x → IsFlightOf f (after x e)
flight_stays f x e off h = record {
  seats = h.seats;
  claims = λ n. h.claims n ∙ by_claims n ((data_of x).seats n).claim ((data_of (after x e)).seats n).claim
      (sym ((stays_event Claims x e off).ranges n));
  candidates = candidates_stay f.candidates (λ n. kept_of ((data_of x).candidates n))
      (λ n. kept_of ((data_of (after x e)).candidates n)) (stays_event Claims x e off).candidates
      h.candidates;
  next = h.next ∙ ap (λ b. if b then suc (candidates_noted x.log) else candidates_noted x.log)
      (sym (noted_off e.deed off));
}

called_none : (device : Device) (o : Option Call) (x : Side) → is_call_of device o ≡ false
    → called device o x ≡ x
called_none device None x off = refl
called_none device (Some call) x off = ap (λ b. if b then counted call.failed x else x) off

-- a deed that is no call of the cache device leaves what that holds
failure_stays : (c : Content) (x : Failure) → same_device (device_of_failure x) Cache ≡ false
    → held_after_failure c x ≡ c
failure_stays c (failure.CacheWrite at what values) off = absurd (cc)
failure_stays c x off = refl

held_stays : (c : Content) (d : Deed) → is_call_of Cache (call_by d) ≡ false → held_after c d ≡ c
held_stays c (deed.CacheWrite at what values) off = absurd (cc)
held_stays c deed.CacheBarrier off = absurd (cc)
held_stays c (deed.DeviceFault x) off = failure_stays c x off
held_stays c d off = refl

-- ---- an opening of the core, and the run from it

called_told : (device : Device) (o : Option Call) (x : Side) → (called device o x).told ≡ x.told
called_told device None x = refl
called_told device (Some call) x = go (same_device call.device device)
  where
    go : (b : Bool) → (if b then counted call.failed x else x).told ≡ x.told
    go true = refl
    go false = refl

pub told_event : (x : World) (e : Event) → is_told (after x e) ≡ is_told x
told_event x e = ap (λ b. b && (after x e).backing.told) (called_told Cache (call_by e.deed) x.cache)
    ∙ ap (λ b. x.cache.told && b) (called_told Backing (call_by e.deed) x.backing)

-- an event makes no other opening one that the run goes on from
pub origin_before : (x : World) (e : Event) (o : Origin) → IsOrigin (after x e) o → IsOrigin x o
origin_before x e o h = record {
  with_cache = h.with_cache;
  told = sym (told_event x e) ∙ h.told;
  cached = h.cached;
  size = h.size;
  worker = h.worker;
  cache = h.cache;
  backing = h.backing;
  sound = h.sound;
  slots = h.slots;
  order = h.order;
  ends = h.ends;
  calm = h.calm;
  begun = h.begun;
}

-- each view behind an event is that of one before it
pub view_before : (x : World) (e : Event) (y : World) → IsView (after x e) y
    → (z : World) × IsView x z × (y ≡ after z e)
view_before x e y (inl is) = (x, inl refl, is)
view_before x e y (inr (o, seen)) = (
  seen_from o x,
  inr (
    o,
    record {
      is = refl;
      origin = origin_before x e o seen.origin;
      course = seen.course.2;
    },
  ),
  seen.is,
)

-- what an event makes of each view
pub leads_each : (x : World) (e : Event) (P Q : World → Type 0)
    → ((y : World) → IsView x y → P y → Q (after y e)) → InEach x P → InEach (after x e) Q
leads_each x e P Q leads h = λ y view. let one = view_before x e y view in
    subst Q (sym one.2) (leads one.0 one.1 (h one.0 one.1))

-- what it keeps in each
pub in_each : (x : World) (e : Event) (P : World → Type 0)
    → ((y : World) → IsView x y → P y → P (after y e)) → InEach x P → InEach (after x e) P
in_each x e P keeps h = leads_each x e P P keeps h

pub begun_stays : (x : World) (es : List Event) → (fold after x es).begun ≡ x.begun
begun_stays x [] = refl
begun_stays x (e ∷ es) = begun_stays (after x e) es

-- ---- the run, its first event first

abbrev pub oldest_first : List Event → List Event
oldest_first [] = []
oldest_first (e ∷ es) = oldest_first es ++ (e ∷ [])

run_behind : (w : core.Opening) (st : core.State) (es fs : List Event)
    → core.run w st (es ++ fs) ≡ core.run w (core.run w st es) fs
run_behind w st [] fs = refl
run_behind w st (e ∷ es) fs = run_behind w (core.after w st e) es fs

runs_behind : (w : core.Opening) (st : core.State) (es fs : List Event) → core.IsRun w st es
    → core.IsRun w (core.run w st es) fs → core.IsRun w st (es ++ fs)
runs_behind w st [] fs a b = b
runs_behind w st (e ∷ es) fs a b = (a.0, runs_behind w (core.after w st e) es fs a.1 b)

pub replay_is : (o : Origin) (es : List Event) → replay o es
    ≡ core.run o.opening (core.start o.opening o.parts o.next_seq) (oldest_first es)
replay_is o [] = refl
replay_is o (e ∷ es) = ap (λ st. core.after o.opening st e) (replay_is o es)
    ∙ sym (run_behind o.opening (core.start o.opening o.parts o.next_seq) (oldest_first es) (e ∷ []))

pub replay_runs : (o : Origin) (es : List Event) → IsCourseOf o es
    → core.IsRun o.opening (core.start o.opening o.parts o.next_seq) (oldest_first es)
replay_runs o [] on = tt
replay_runs o (e ∷ es) on = runs_behind o.opening (core.start o.opening o.parts o.next_seq)
    (oldest_first es) (e ∷ []) (replay_runs o es on.2)
    (subst (λ st. core.IsEnabled o.opening st e) (replay_is o es) on.0.enabled, tt)

happens : (x : World) (o : Origin) (e : Event) → IsOrigin x o → IsCourseOf o x.log
    → core.IsEnabled o.opening (replay o x.log) e
    → Happens o.opening o.parts o.next_seq (oldest_first x.log) e
happens x o e is course on = record {
  sound = is.sound;
  course = replay_runs o x.log course;
  enabled = subst (λ st. core.IsEnabled o.opening st e) (replay_is o x.log) on;
}

-- ---- parts in memory

-- what holds of the parts in memory, from each opening, holds behind an event that keeps it there
from_each : (x : World) (e : Event) (P : Origin → core.State → Type 0)
    → ((o : Origin) → IsOrigin x o → IsCourseOf o x.log → CanFollow (seen_from o x) e
    → P o (replay o x.log) → P o (core.after o.opening (replay o x.log) e))
    → FromEach x P → FromEach (after x e) P
from_each x e P keeps h = λ o is course. let before = origin_before x e o is in
    keeps o before course.2 course.0 (h o before course.2)

in_tree_some : (r : Role) → IsInTree r → r ≢ NoNode
in_tree_some NoNode live none = live
in_tree_some Draft live none = live
in_tree_some Free live none = cc
in_tree_some Leaving live none = cc
in_tree_some Coming live none = live

same_spine : (w : whole.Opening) (a b : known.State) (sp : Spine) → SameSpine a b
    → IsSpineOf w a.whole.parts sp → IsSpineOf w b.whole.parts sp
same_spine w a b sp same h = record {
  leaves = λ l in'. subst (IsTreeLeaf w l.from l.end l.ptr) (sym (same.leaves l.number)) (h.leaves l in');
  all_leaves = λ k live. h.all_leaves k (subst IsInTree (ap (λ (x : Shape). x.role) (same.leaves k)) live);
  nodes = λ n in'. inner (inner_slot w n) n (h.nodes n in');
  all_nodes = λ x live. h.all_nodes x (subst (λ (f : ℕ → parts.InnerNode). IsInTree (f x).role) same.slots live);
  end = same.end ∙ h.end;
}
  where
    inner : (x : ℕ) (n : Inner) → IsTreeInner w a.whole.parts.change x n (inner_share a.whole.parts x)
        → IsTreeInner w b.whole.parts.change x n (inner_share b.whole.parts x)
    inner x n one = subst (λ c. IsTreeInner w c x n (inner_share b.whole.parts x)) (sym same.change)
        (subst (λ (s : InnerShare). IsTreeInner w a.whole.parts.change x n s)
        (sym (same.inner_nodes x (in_tree_some _ one.role))) one)

same_rest : (w : whole.Opening) (a b : known.State) (sp : Spine) → SameSpine a b
    → NameTheSame a.whole.parts b.whole.parts → IsAtRest w a.whole.parts sp
    → IsAtRest w b.whole.parts sp
same_rest w a b sp same names h = record {
  change = same.change ∙ h.change;
  leaves = λ k. subst Rests (sym (ap (λ (x : Shape). x.role) (same.leaves k))) (h.leaves k);
  inner_nodes = λ x. subst (λ (f : ℕ → parts.InnerNode). Rests (f x).role) (sym same.slots)
      (h.inner_nodes x);
  root = names (w.flow.books.bucket sp.root.ptr.offset) h.root;
}

same_part : (w : whole.Opening) (a b : known.State) (p : SpinePart) → SameSpine a b
    → NameTheSame a.whole.parts b.whole.parts → IsSpinePartOf w a p → IsSpinePartOf w b p
same_part w a b p same names h = record {
  spine = same_spine w a b p.spine same h.spine;
  next_seq = h.next_seq ∙ sym same.next_seq;
  rest = λ off. same_rest w a b p.spine same names (h.rest off);
}

spine_stays : (p : SpinePart) (x : World) (e : Event)
    → touches_spine e.deed ≡ false → IsSpinePart p x → IsSpinePart p (after x e)
spine_stays p x e off = from_each x e
    (λ o st. IsSpinePartOf o.opening.machine st.machine p)
    (λ o is course follows h. same_part o.opening.machine (replay o x.log).machine
    (core.after o.opening (replay o x.log) e).machine p
    (subst (λ (st : core.State). SameSpine st.machine (core.after o.opening st e).machine)
    (sym (replay_is o x.log))
    (law_spine o.opening o.parts o.next_seq (oldest_first x.log) e
    (happens x o e is course follows.enabled) off))
    (law_root o.opening (replay o x.log) e follows.enabled off) h)

-- the part has the tree
pub has_spine : (p : SpinePart) (x : World) → IsSpinePart p x → IsSpine p.spine x
has_spine p x h = λ o is course. (h o is course).spine

-- what no leaf waits for, none ever will
pub needs_stay : (low : ℕ) (x : World) (e : Event) → FromEach x (λ o st. NeedsFrom low st)
    → FromEach (after x e) (λ o st. NeedsFrom low st)
needs_stay low x e = from_each x e (λ o st. NeedsFrom low st)
    (λ o is course follows h. subst (λ (st : core.State). NeedsFrom low (core.after o.opening st e))
    (sym (replay_is o x.log))
    (law_lasts o.opening o.parts o.next_seq (oldest_first x.log) e
    (happens x o e is course follows.enabled) low
    (subst (λ (st : core.State). NeedsFrom low st) (replay_is o x.log) h)))

journal_stays : (j : Journal) (x : World) (e : Event)
    → touches_journal e.deed ≡ false → IsJournal j x → IsJournal j (after x e)
journal_stays j x e off h = record {
  stands = from_each x e
      (λ o st. IsJournalOf o.opening.machine (journal_share st.machine) j)
      (λ o is course follows h. subst (λ (s : JournalShare). IsJournalOf o.opening.machine s j)
      (sym (law_journal o.opening (replay o x.log) e follows.enabled off)) h) h.stands;
  needs = needs_stay j.needed x e h.needs;
}

pins_stay : (a b : ℕ → Owner) → ((t : ℕ) → use_of (b t) ≡ use_of (a t)) → (place n : ℕ)
    → pins_in b place n ≡ pins_in a place n
pins_stay a b same place zero = refl
pins_stay a b same place (suc n) = ap (λ u. pins_of u + pins_in b place n) (same (place + n))
    ∙ ap (λ m. pins_of (use_of (a (place + n))) + m) (pins_stay a b same place n)

buckets_stay : (p : BucketsPart) (x : World) (e : Event)
    → touches_buckets e.deed ≡ false → AreBuckets p x → AreBuckets p (after x e)
buckets_stay p x e off = from_each x e
    (λ o st. AreBucketsOf o.opening.machine (books_of st.machine) p)
    (λ o is course follows h. record {
      cut = h.cut;
      data_from = h.data_from;
      records = λ q low.
          let same = law_buckets o.opening (replay o x.log) e follows.enabled off in
          let version = o.opening.machine.flow.books.version q in
          let b = bucket_of p.buckets (o.opening.machine.before + q) in
          let first = (o.opening.machine.before + q) * p.buckets.size in
          subst (λ n. IsBucketFor version q
          (buckets_in (books_of (core.after o.opening (replay o x.log) e).machine)) n b)
          (sym (pins_stay (books_of (replay o x.log).machine).owner
          (books_of (core.after o.opening (replay o x.log) e).machine).owner same.uses first
          p.buckets.size))
          (subst (λ (s : BucketsShare). IsBucketFor version q s
          (pins_in (books_of (replay o x.log).machine).owner first p.buckets.size) b)
          (sym same.share) (h.records q low));
      places = law_kept o.opening (replay o x.log) e p.buckets.size p.fill p.reserves
          follows.enabled off h.places;
      outside = h.outside;
      room = h.room;
      chain = subst (λ (s : BucketsShare). IsChainOf o.opening.machine.before
          o.opening.machine.flow.books.sets s.chain s.ready s.sealed p.chain.items p.renewing)
          (sym (law_buckets o.opening (replay o x.log) e follows.enabled off).share) h.chain;
      round = subst (λ (s : BucketsShare). IsRoundOf o.opening.machine.flow.books
          o.opening.machine.before (length p.buckets.records) s.round p.buckets.touched p.round)
          (sym (law_buckets o.opening (replay o x.log) e follows.enabled off).share) h.round;
    })

-- ---- leaves

-- a deed that touches no leaf of a part touches none of its leaves
lies_off : (count part k leaf : ℕ) → k % count ≡ part → lies_in count part leaf ≡ false
    → (k == leaf) ≡ false
lies_off count part k leaf is off = by_test k leaf (λ b. b ≡ false)
    (λ same. absurd (by_test (leaf % count) part (λ b. b ≡ false → ⊥) (λ _ f. cc)
    (λ ne _. ne (ap (λ n. n % count) (sym same) ∙ is)) off))
    (λ ne. refl)

any_off : (count part k : ℕ) (xs : List ℕ) → k % count ≡ part → any_in count part xs ≡ false
    → has xs k ≡ false
any_off count part k [] is off = refl
any_off count part k (y ∷ ys) is off = let both = not_or (lies_in count part y) (any_in count part ys) off in
    ap (λ b. if b then true else has ys k) (lies_off count part k y is both.0)
    ∙ any_off count part k ys is both.1

change_off : (count part k : ℕ) (c : Change) → k % count ≡ part → change_in count part c ≡ false
    → has c.come.items k ≡ false → among_leaves k c ≡ false
change_off count part k c is off new =
    ap (λ b. b || has c.come.items k) (any_off count part k c.gone.items is off) ∙ new

write_leaf_off : (count part k : ℕ) (what : Written) → k % count ≡ part
    → write_in count part what ≡ false → write_spares k what → write_touches_leaf k what ≡ false
write_leaf_off count part k (written.Set leaf) is off new = lies_off count part k leaf is off
write_leaf_off count part k (written.Parent inner change) is off new =
    change_off count part k change is off new
write_leaf_off count part k (written.Leaf node) is off new = new
write_leaf_off count part k what is off new = refl

fault_leaf_off : (count part k : ℕ) (x : Failure) → k % count ≡ part → fault_in count part x ≡ false
    → fault_spares k x → fault_touches_leaf k x ≡ false
fault_leaf_off count part k (failure.CacheWrite at what values) is off new =
    write_leaf_off count part k what is off new
fault_leaf_off count part k x is off new = refl

root_off : (count part k : ℕ) (o : Option NewRoot) → k % count ≡ part → root_in count part o ≡ false
    → root_spares k o → root_touches_leaf k o ≡ false
root_off count part k None is off new = refl
root_off count part k (Some x) is off new = change_off count part k x.change is off new

leaf_off : (count part k : ℕ) (d : Deed) → k % count ≡ part → touches_leaves count part d ≡ false
    → spares k d → touches_leaf k d ≡ false
leaf_off count part k (deed.InsertWrite leaf keys of first values) is off new = lies_off count part k leaf is off
leaf_off count part k (deed.Insert leaf keys form) is off new = lies_off count part k leaf is off
leaf_off count part k (deed.Settle leaf candidate keys) is off new = lies_off count part k leaf is off
leaf_off count part k (deed.CacheWrite at what values) is off new = write_leaf_off count part k what is off new
leaf_off count part k (deed.Seal last_seq bucket rest new_root chain) is off new =
    root_off count part k new_root is off new
leaf_off count part k (deed.Install change come gone) is off new = change_off count part k change is off new
leaf_off count part k (deed.DeviceFault x) is off new = fault_leaf_off count part k x is off new
leaf_off count part k d is off new = refl

-- so it names what leaves and comes
pub ends_named : (st : parts.State) (d : Deed) → EndsItsChange st d → NamesItsChange st d
ends_named st (deed.Install change come gone) ends = ends.0
ends_named st d ends = tt

leaf_same : (x : World) (o : Origin) (e : Event) (k : ℕ) → IsOrigin x o → IsCourseOf o x.log
    → CanFollow (seen_from o x) e → touches_leaf k e.deed ≡ false
    → ((replay o x.log).machine.whole.parts.leaves k).role ≢ NoNode
    → leaf_share (core.after o.opening (replay o x.log) e).machine.whole.parts k
    ≡ leaf_share (replay o x.log).machine.whole.parts k
leaf_same x o e k is course follows off some = subst (λ (st : core.State). NamesItsChange st.machine.whole.parts e.deed
    → (st.machine.whole.parts.leaves k).role ≢ NoNode
    → leaf_share (core.after o.opening st e).machine.whole.parts k ≡ leaf_share st.machine.whole.parts k)
    (sym (replay_is o x.log))
    (λ names there. law_leaf o.opening o.parts o.next_seq (oldest_first x.log) e
    (happens x o e is course follows.enabled) k off names there)
    (ends_named (replay o x.log).machine.whole.parts e.deed follows.names) some

-- what a leaf of the tree is to a deed that touches none of its part
tree_off : (x : World) (o : Origin) (e : Event) (part k : ℕ) → CanFollow (seen_from o x) e
    → k % x.begun.leaf_parts ≡ part → touches_leaves x.begun.leaf_parts part e.deed ≡ false
    → IsInTree ((replay o x.log).machine.whole.parts.leaves k).role → touches_leaf k e.deed ≡ false
tree_off x o e part k follows its off there = leaf_off x.begun.leaf_parts part k e.deed its off
    (tree_spared o.opening (replay o x.log) e.seat k there e.deed follows.enabled follows.names)

slot_stays : (x : World) (o : Origin) (e : Event) (part k : ℕ) → CanFollow (seen_from o x) e
    → k % x.begun.leaf_parts ≡ part → touches_leaves x.begun.leaf_parts part e.deed ≡ false
    → IsInTree ((replay o x.log).machine.whole.parts.leaves k).role
    → (core.after o.opening (replay o x.log) e).machine.whole.parts.leaves k
    ≡ (replay o x.log).machine.whole.parts.leaves k
slot_stays x o e part k follows its off there =
    law_slot o.opening (replay o x.log) e follows.enabled k
    (tree_off x o e part k follows its off there)
    (ends_named (replay o x.log).machine.whole.parts e.deed follows.names)

free_leaving : Free ≡ Leaving → ⊥
free_leaving is = cc

leaves_stay : (part : ℕ) (c : NodeCache) (x : World) (e : Event)
    → touches_leaves x.begun.leaf_parts part e.deed ≡ false → AreLeaves part c x
    → AreLeaves part c (after x e)
leaves_stay part c x e off = from_each x e
    (λ o st. AreLeavesOf o.opening.machine st.machine.whole.parts x.begun.leaf_parts part c)
    (λ o is course follows h. record {
      layout = h.layout;
      rest = h.rest;
      leaves = λ i cached at. let one = h.leaves i cached at in
          subst (λ (s : LeafShare). IsLeafFor o.opening.machine s cached.leaf)
          (sym (leaf_same x o e cached.number is course follows
          (tree_off x o e part cached.number follows (h.rest i cached at) off one.at.role)
          (in_tree_some _ one.at.role))) one;
      others = λ k its live misses.
          elim (law_comes o.opening (replay o x.log) e follows.enabled follows.names k live) [
            | inl there ↦ ap (λ (l : parts.Leaf). l.pending)
                (slot_stays x o e part k follows its off there) ∙ h.others k its there misses
            | inr new ↦ new.bare
          ];
      leaving = λ k its leaves.
          elim (law_comes o.opening (replay o x.log) e follows.enabled follows.names k
          (subst IsInTree (sym leaves) tt)) [
            | inl there ↦ h.leaving k its (sym (ap (λ (l : parts.Leaf). l.role)
                (slot_stays x o e part k follows its off there)) ∙ leaves)
            | inr new ↦ absurd (free_leaving (sym new.role ∙ leaves))
          ];
    })

-- ---- all parts

number_off : (n k j : ℕ) (e : Event) → k ≡ j → changes n e k ≡ false → changes n e j ≡ false
number_off n k j e is off = ap (λ i. changes n e i) (sym is) ∙ off

not_number : (k j : ℕ) → k ≢ j → (k == j) ≡ false
not_number k j ne = by_test k j (λ b. b ≡ false) (λ is. absurd (ne is)) (λ no. refl)

-- a number from 6 on is of leaves
at_leaves : (n k : ℕ) (e : Event) → 6 ≤ k → changes n e k ≡ touches_leaves (n - 6) (k - 6) e.deed
at_leaves n k e low = let d = e.deed in let rest = touches_leaves (n - 6) (k - 6) d in
    ap (λ b. if b then touches_spine d else (if k == 1 then touches_flight d
    else (if k == 2 then touches_buckets d else (if k == 3 then touches_journal d
    else (if k == 4 then is_call_of Cache (call_by d)
    else (if k == 5 then is_call_of Backing (call_by d) else rest)))))) (not_number k 0 (omega arith))
    ∙ ap (λ b. if b then touches_flight d
    else (if k == 2 then touches_buckets d else (if k == 3 then touches_journal d
    else (if k == 4 then is_call_of Cache (call_by d)
    else (if k == 5 then is_call_of Backing (call_by d) else rest))))) (not_number k 1 (omega arith))
    ∙ ap (λ b. if b then touches_buckets d else (if k == 3 then touches_journal d
    else (if k == 4 then is_call_of Cache (call_by d)
    else (if k == 5 then is_call_of Backing (call_by d) else rest)))) (not_number k 2 (omega arith))
    ∙ ap (λ b. if b then touches_journal d
    else (if k == 4 then is_call_of Cache (call_by d)
    else (if k == 5 then is_call_of Backing (call_by d) else rest))) (not_number k 3 (omega arith))
    ∙ ap (λ b. if b then is_call_of Cache (call_by d)
    else (if k == 5 then is_call_of Backing (call_by d) else rest)) (not_number k 4 (omega arith))
    ∙ ap (λ b. if b then is_call_of Backing (call_by d) else rest) (not_number k 5 (omega arith))

leaves_off : (n k : ℕ) (e : Event) → 6 ≤ k → changes n e k ≡ false
    → touches_leaves (n - 6) (k - 6) e.deed ≡ false
leaves_off n k e low off = sym (at_leaves n k e low) ∙ off

module _ {C B : Type 0} (cache_facts : C → DiskFacts) (backing_facts : B → DiskFacts) where
  cache_stays : (c : C) (x : World) (e : Event) → is_call_of Cache (call_by e.deed) ≡ false
      → IsCache {C = C} {B = B} cache_facts backing_facts c x → IsCache {C = C} {B = B} cache_facts backing_facts c (after x e)
  cache_stays c x e off h = record {
    stands = subst (λ m. StandsFor (cache_facts c) m)
        (ap (λ d. model d x.held) (sym (called_none Cache (call_by e.deed) x.cache off))
        ∙ ap (λ d. model (after x e).cache d) (sym (held_stays x.held e.deed off)))
        h.stands;
  }

  backing_stays : (b : BackingPart B) (x : World) (e : Event) → is_call_of Backing (call_by e.deed) ≡ false
      → IsBackingOf cache_facts backing_facts b x → IsBackingOf cache_facts backing_facts b (after x e)
  backing_stays b x e off h = record {
    stands = subst (λ m. StandsFor (backing_facts b.disk) m)
        (ap (λ d. model d (behind x.offset x.ahead (data_of x).backing))
        (sym (called_none Backing (call_by e.deed) x.backing off))
        ∙ ap (λ d. model (after x e).backing (behind x.offset x.ahead d)) (sym (stays_event OnBacking x e off)))
        h.stands;
    offset = h.offset;
    size = h.size;
    inside = subst (λ (d : Side). b.offset + b.size ≤ d.sectors)
        (sym (called_none Backing (call_by e.deed) x.backing off)) h.inside;
  }

  part_stays : (n k : ℕ) (p : CorePart C B) (x : World) (e : Event)
      → x.begun.leaf_parts ≡ n - 6 → changes n e k ≡ false
      → StandsAs cache_facts backing_facts k p x → StandsAs cache_facts backing_facts k p (after x e)
  part_stays n k part.Absent x e count off h = record {
    not_flight = h.not_flight;
    not_backing = h.not_backing;
    plain = h.plain;
  }
  part_stays n k (part.Spine p) x e count off h =
      (h.0, spine_stays p x e (number_off n k 0 e h.0 off) h.1)
  part_stays n k (part.Flight f) x e count off h =
      (h.0, in_each x e (IsFlightOf f) (λ y view on. flight_stays f y e (number_off n k 1 e h.0 off) on) h.1)
  part_stays n k (part.Buckets p) x e count off h =
      (h.0, buckets_stay p x e (number_off n k 2 e h.0 off) h.1)
  part_stays n k (part.Journal j) x e count off h =
      (h.0, journal_stays j x e (number_off n k 3 e h.0 off) h.1)
  part_stays n k (part.Cache c) x e count off h =
      (h.0, cache_stays c x e (number_off n k 4 e h.0 off) h.1)
  part_stays n k (part.Backing b) x e count off h = (
    h.0,
    in_each x e (IsBackingOf cache_facts backing_facts b)
        (λ y view on. backing_stays b y e (number_off n k 5 e h.0 off) on) h.1,
  )
  part_stays n k (part.Leaves c) x e count off h = (
    h.0,
    leaves_stay (k - 6) c x e
        (subst (λ m. touches_leaves m (k - 6) e.deed ≡ false) (sym count) (leaves_off n k e h.0 off)) h.1,
  )

  pub frames : (start : List (CorePart C B)) (es : List Event) (k : ℕ) (p : CorePart C B) (e : Event)
      → IsCourse IsEnabled after (opening cache_facts backing_facts start) es
      → IsEnabled (fold after (opening cache_facts backing_facts start) es) e
      → changes (length start) e k ≡ false
      → StandsAs cache_facts backing_facts k p (fold after (opening cache_facts backing_facts start) es)
      → StandsAs cache_facts backing_facts k p
      (after (fold after (opening cache_facts backing_facts start) es) e)
  frames start es k p e run on off h = let x = opening cache_facts backing_facts start in
      part_stays (length start) k p (fold after x es) e
      (ap (λ (b : Begun). b.leaf_parts) (begun_stays x es)) off h
