-- What the cache device holds to the core, from each opening, is what the calls of it left.
use Rattle.std.proofs.Common.{◌≡◌, ℕ, List, [], ◌∷◌, Option, Some, None, refl, sym, ap, subst}
use Rattle.std.specs.Prelude.{fold}
use Rattle.bc_model.specs.Sector.{Value, at_run}
use Rattle.bc_disk.specs.Device.{Content, instead, besides, written, failed}
use Rattle.bc_disk.specs.Disk.{DiskFacts}
use Rattle.bc_leaves.specs.Parts.{leaf_owner, inner_owner}
use Rattle.bc_whole.specs.State.{Write, OfSet, OfParent, OfLeaf, OfInner, OfPriorities}
use Rattle.bc_whole.specs.Together.{place_of}
use Rattle.bc_known.specs.Acts.{Act, WriteCache, FailCache}
use Rattle.bc_known.specs.Run as machine
use Rattle.bc_events.specs.Run as core
use Rattle.bc_events.specs.Run.{IsSome, CanDo, acts_or_none}
use Rattle.bc_events.specs.Writes.{map_some, beginning, set_in, draft_leaf, draft_inner}
use Rattle.bc_events.specs.declared.event.Change.{Change}
use Rattle.bc_events.specs.declared.event.Failure.{Failure}
use Rattle.bc_events.specs.declared.event.Failure.TheVariants as failure
use Rattle.bc_events.specs.declared.event.Written.{Written}
use Rattle.bc_events.specs.declared.event.Written.TheVariants as written
use Rattle.bc_events.specs.declared.event.Deed.{Deed}
use Rattle.bc_events.specs.declared.event.Deed.TheVariants as deed
use Rattle.bc_events.specs.declared.event.Event.{Event}
use Rattle.std.specs.Prelude.{take}
use Rattle.bc_looks.specs.bc_machine.declared.part.CorePart.{CorePart}
use Rattle.bc_looks.specs.bc_machine.World.{World, after, held_after, held_after_failure, opening, Origin, IsOrigin, IsCourseOf, seen_from, replay}
use Rattle.bc_looks.specs.bc_machine.Frame.{OnCache, stays_event}
use Rattle.bc_looks.specs.bc_machine.Standing.{origin_before}
use Rattle.bc_deed.specs.bc_hand.Seats.{by}

-- ---- one event

abbrev pub cache_of : core.State → Content
cache_of st = st.machine.whole.flow.cache

abbrev ran : core.Opening → core.State → ℕ → Option (List Act) → Content
ran w st i acts = (machine.run w.machine st.machine (core.by i (acts_or_none acts))).whole.flow.cache

abbrev Placed : core.Opening → core.State → ℕ → Option Write → Type 0
Placed w st at o = IsSome o (λ x. place_of w.machine.layout st.machine.whole x ≡ at)

-- a write that may be one, which goes where the machine has its place
module _ (w : core.Opening) (st : core.State) (i at : ℕ) (values : List Value) (e : Event) where
  wrote : {A : Type 0} (make : A → Write) (o : Option A)
      → IsSome (map_some (λ x. WriteCache x values ∷ []) (map_some make o)) (CanDo w st e)
      → ((acts : List Act) → CanDo w st e acts → Placed w st at (map_some make o))
      → ran w st i (map_some (λ x. WriteCache x values ∷ []) (map_some make o))
      ≡ written at values (cache_of st)
  wrote make None on fit = absurd on
  wrote make (Some a) on fit =
      ap (λ n. written n values (cache_of st)) (fit (WriteCache (make a) values ∷ []) on)

  wrote_parent : (inner : ℕ) (change : Change) (o : Option _)
      → IsSome (map_some (λ x. beginning st.machine change ∷ WriteCache x values ∷ []) (map_some (OfParent inner) o)) (CanDo w st e)
      → ((acts : List Act) → CanDo w st e acts → Placed w st at (map_some (OfParent inner) o))
      → ran w st i (map_some (λ x. beginning st.machine change ∷ WriteCache x values ∷ []) (map_some (OfParent inner) o))
      ≡ written at values (cache_of st)
  wrote_parent inner change None on fit = absurd on
  wrote_parent inner change (Some set) on fit = ap (λ n. written n values (cache_of st))
      (fit (beginning st.machine change ∷ WriteCache (OfParent inner set) values ∷ []) on)

  lost : {A : Type 0} (make : A → Write) (o : Option A)
      → IsSome (map_some (λ x. FailCache x values ∷ []) (map_some make o)) (CanDo w st e)
      → ((acts : List Act) → CanDo w st e acts → Placed w st at (map_some make o))
      → ran w st i (map_some (λ x. FailCache x values ∷ []) (map_some make o))
      ≡ failed at values (cache_of st)
  lost make None on fit = absurd on
  lost make (Some a) on fit =
      ap (λ n. failed n values (cache_of st)) (fit (FailCache (make a) values ∷ []) on)

  lost_parent : (inner : ℕ) (change : Change) (o : Option _)
      → IsSome (map_some (λ x. beginning st.machine change ∷ FailCache x values ∷ []) (map_some (OfParent inner) o)) (CanDo w st e)
      → ((acts : List Act) → CanDo w st e acts → Placed w st at (map_some (OfParent inner) o))
      → ran w st i (map_some (λ x. beginning st.machine change ∷ FailCache x values ∷ []) (map_some (OfParent inner) o))
      ≡ failed at values (cache_of st)
  lost_parent inner change None on fit = absurd on
  lost_parent inner change (Some set) on fit = ap (λ n. failed n values (cache_of st))
      (fit (beginning st.machine change ∷ FailCache (OfParent inner set) values ∷ []) on)

write_event : (w : core.Opening) (st : core.State) (i at : ℕ) (what : Written) (values : _)
    → core.IsEnabled w st (by i (deed.CacheWrite at what values))
    → cache_of (core.after w st (by i (deed.CacheWrite at what values)))
    ≡ written at values (cache_of st)
write_event w st i at written.Data values on = refl
write_event w st i at written.Entry values on = ap (λ n. written n values (cache_of st)) on.fit
write_event w st i at (written.Set leaf) values on =
    wrote w st i at values (by i (deed.CacheWrite at (written.Set leaf) values)) (OfSet leaf)
    (set_in w.machine (leaf_owner (st.machine.whole.parts.leaves leaf)) values) on (λ acts can. can.fit)
write_event w st i at (written.Parent inner change) values on =
    wrote_parent w st i at values (by i (deed.CacheWrite at (written.Parent inner change) values)) inner change
    (set_in w.machine (inner_owner (st.machine.whole.parts.inner_nodes inner)) values) on (λ acts can. can.fit)
write_event w st i at (written.Leaf x) values on =
    wrote w st i at values (by i (deed.CacheWrite at (written.Leaf x) values)) (OfLeaf x.slot (draft_leaf x))
    (set_in w.machine (leaf_owner (draft_leaf x)) (take x.sectors values)) on (λ acts can. can.fit)
write_event w st i at (written.Inner x) values on =
    wrote w st i at values (by i (deed.CacheWrite at (written.Inner x) values)) (OfInner x.slot (draft_inner x))
    (set_in w.machine (inner_owner (draft_inner x)) (take x.sectors values)) on (λ acts can. can.fit)
write_event w st i at (written.Priorities bucket part) values on =
    wrote w st i at values (by i (deed.CacheWrite at (written.Priorities bucket part) values)) (OfPriorities bucket part)
    (w.machine.layout.prios.spelled part values) on (λ acts can. can.fit)

fault_event : (w : core.Opening) (st : core.State) (i at : ℕ) (what : Written) (values : _)
    → core.IsEnabled w st (by i (deed.DeviceFault (failure.CacheWrite at what values)))
    → cache_of (core.after w st (by i (deed.DeviceFault (failure.CacheWrite at what values))))
    ≡ failed at values (cache_of st)
fault_event w st i at written.Data values on = refl
fault_event w st i at written.Entry values on = ap (λ n. failed n values (cache_of st)) on.fit
fault_event w st i at (written.Set leaf) values on =
    lost w st i at values (by i (deed.DeviceFault (failure.CacheWrite at (written.Set leaf) values))) (OfSet leaf)
    (set_in w.machine (leaf_owner (st.machine.whole.parts.leaves leaf)) values) on (λ acts can. can.fit)
fault_event w st i at (written.Parent inner change) values on =
    lost_parent w st i at values (by i (deed.DeviceFault (failure.CacheWrite at (written.Parent inner change) values))) inner change
    (set_in w.machine (inner_owner (st.machine.whole.parts.inner_nodes inner)) values) on (λ acts can. can.fit)
fault_event w st i at (written.Leaf x) values on =
    lost w st i at values (by i (deed.DeviceFault (failure.CacheWrite at (written.Leaf x) values))) (OfLeaf x.slot (draft_leaf x))
    (set_in w.machine (leaf_owner (draft_leaf x)) (take x.sectors values)) on (λ acts can. can.fit)
fault_event w st i at (written.Inner x) values on =
    lost w st i at values (by i (deed.DeviceFault (failure.CacheWrite at (written.Inner x) values))) (OfInner x.slot (draft_inner x))
    (set_in w.machine (inner_owner (draft_inner x)) (take x.sectors values)) on (λ acts can. can.fit)
fault_event w st i at (written.Priorities bucket part) values on =
    lost w st i at values (by i (deed.DeviceFault (failure.CacheWrite at (written.Priorities bucket part) values))) (OfPriorities bucket part)
    (w.machine.layout.prios.spelled part values) on (λ acts can. can.fit)

failed_event : (w : core.Opening) (st : core.State) (i : ℕ) (x : Failure)
    → core.IsEnabled w st (by i (deed.DeviceFault x))
    → cache_of (core.after w st (by i (deed.DeviceFault x))) ≡ held_after_failure (cache_of st) x
failed_event w st i (failure.CacheWrite at what values) on = fault_event w st i at what values on
failed_event w st i (failure.Read device) on = refl
failed_event w st i (failure.Barrier device) on = refl
failed_event w st i (failure.BackingWrite first of values) on = refl

held_event : (x : World) (o : Origin) (i : ℕ) (d : Deed)
    → core.IsEnabled o.opening (replay o x.log) (by i d)
    → cache_of (core.after o.opening (replay o x.log) (by i d)) ≡ held_after (cache_of (replay o x.log)) d
held_event x o i (deed.CacheWrite at what values) on =
    write_event o.opening (replay o x.log) i at what values on
held_event x o i deed.CacheBarrier on = refl
held_event x o i (deed.CacheRead at None values) on = refl
held_event x o i (deed.CacheRead at (Some first) values) on = refl
held_event x o i (deed.DeviceFault f) on = failed_event o.opening (replay o x.log) i f on
held_event x o i d on = stays_event OnCache (seen_from o x) (by i d) refl

-- ---- the same of each sector

pub record Alike (a b : Content) : Type 0 where
  pub reads : (t : ℕ) → b.reads t ≡ a.reads t
  pub leaves : (t : ℕ) → b.leaves t ≡ a.leaves t

alike_failure : (a b : Content) (x : Failure) → Alike a b
    → Alike (held_after_failure a x) (held_after_failure b x)
alike_failure a b (failure.CacheWrite at what values) h = record {
  reads = λ t. ap (besides (at_run at values t)) (h.reads t);
  leaves = λ t. ap (besides (at_run at values t)) (h.leaves t);
}
alike_failure a b x h = h

alike_after : (a b : Content) (d : Deed) → Alike a b → Alike (held_after a d) (held_after b d)
alike_after a b (deed.CacheWrite at what values) h = record {
  reads = λ t. ap (instead (at_run at values t)) (h.reads t);
  leaves = λ t. ap (besides (at_run at values t)) (h.leaves t);
}
alike_after a b deed.CacheBarrier h = record { reads = h.reads; leaves = h.reads }
alike_after a b (deed.DeviceFault x) h = alike_failure a b x h
alike_after a b d h = h

-- ---- a run

abbrev pub IsHeld : World → Type 0
IsHeld x = (o : Origin) → IsOrigin x o → IsCourseOf o x.log → Alike x.held (cache_of (replay o x.log))

pub held_stays : (x : World) (e : Event) → IsHeld x → IsHeld (after x e)
held_stays x e h o is course =
    subst (Alike (held_after x.held e.deed))
    (sym (held_event x o e.seat e.deed course.0.enabled))
    (alike_after x.held (cache_of (replay o x.log)) e.deed (h o (origin_before x e o is) course.2))

module _ {C B : Type 0} (cache_facts : C → DiskFacts) (backing_facts : B → DiskFacts) where
  first_held : (start : List (CorePart C B)) → IsHeld (opening cache_facts backing_facts start)
  first_held start o is course = record {
    reads = λ t. ap (λ (v : Value). v ∷ []) (is.cache t);
    leaves = λ t. ap (λ (v : Value). v ∷ []) (is.cache t);
  }

  all_held : (x : World) (es : List Event) → IsHeld x → IsHeld (fold after x es)
  all_held x [] h = h
  all_held x (e ∷ es) h = all_held (after x e) es (held_stays x e h)

  pub run_held : (start : List (CorePart C B)) (es : List Event)
      → IsHeld (fold after (opening cache_facts backing_facts start) es)
  run_held start es = all_held (opening cache_facts backing_facts start) es (first_held start)
