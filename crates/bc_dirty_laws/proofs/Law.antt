-- What tells of dirty keys, in each state of a run.
use Rattle.std.proofs.Common.{◌≡◌, inl, inr, ℕ, zero, suc, ◌+◌, ◌<◌, ◌≤◌, Bool, true, false, List, [], ◌∷◌, ◌++◌, length, Option, Some, None, refl, sym, ap, ◌∙◌, subst, arith}
use Rattle.std.specs.Prelude.{Any, slice_get, slice_index_or}
use Rattle.bc_books.specs.Books.{Books}
use Rattle.bc_books.specs.Index.{Kind, Clean, Dirty, Pointer, is_dirty, latest}
use Rattle.bc_books.specs.Invariant.{IsInOrder, IsKnown}
use Rattle.bc_books.specs.Marks as books
use Rattle.bc_bucket.specs.Buckets.{Buckets, bucket_of}
use Rattle.bc_bucket.specs.declared.bucket.Bucket.{Bucket}
use Rattle.bc_bucket.specs.declared.bucket.Mark.{Mark}
use Rattle.bc_bucket.specs.declared.bucket.Mark.TheVariants as marks
use Rattle.bc_events.specs.Run.{State}
use Rattle.bc_events.specs.Run as core
use Rattle.bc_events.specs.declared.event.Deed.{Deed}
use Rattle.bc_events.specs.declared.event.Deed.TheVariants as deed
use Rattle.bc_events.specs.declared.event.Event.{Event}
use Rattle.bc_events.specs.declared.event.Failure.{Failure}
use Rattle.bc_events.specs.declared.event.Failure.TheVariants as failure
use Rattle.bc_key.specs.declared.key.Key.{Key}
use Rattle.bc_known.proofs.Law.{At, inv_at, order_at}
use Rattle.bc_leaves.proofs.Pend.{append_none}
use Rattle.bc_leaves.proofs.Said.{said_ref}
use Rattle.bc_leaves.specs.Fits.{Journal, Roots, journal_of}
use Rattle.bc_leaves.specs.Keys.{last_said, ref_said}
use Rattle.bc_looks.proofs.Law.{law_keys, law_live}
use Rattle.bc_looks.specs.bc_machine.Containers.{mark_of}
use Rattle.bc_looks.specs.bc_machine.Standing.{oldest_first, origin_before, replay_is, replay_runs}
use Rattle.bc_looks.specs.bc_machine.World.{FromEach, IsCourseOf, IsOrigin, Origin, World, after, replay}
use Rattle.bc_meta.specs.Keys.{Ref, last_ref}
use Rattle.bc_meta.specs.Records.{Nothing, Fixed, Ready, Sent, Safe, Records, Stage}
use Rattle.bc_shares.proofs.Law.{at_state}
use Rattle.bc_shares.specs.Shares.{books_of}
use Rattle.bc_whole.proofs.Kept.{Inv}
use Rattle.bc_whole.specs.Linked.{if_sealed}
use Rattle.bc_whole.specs.State as whole
use Rattle.bc_whole.specs.State.{Opening}
use Rattle.bc_whole.specs.Together.{ref_of}
use Rattle.bc_dirty_laws.specs.Dirty.{AreCleanBelow, HasDirtyMark, IsDirtyAt, IsNoneDirty, IsSomeDirty, LawBeyond, LawInside, LawLeaf, LawMarked, LawStays, SaysDirty, StaysDirty, is_no_write, leaves_keys}

-- ---- what a pointer and what a key say

dirty_kind : (k : Kind) → is_dirty k ≡ true → k ≡ Dirty
dirty_kind Clean is = absurd (cc)
dirty_kind Dirty is = refl

pointer_there : (o : Option Pointer) (r : Ref) → ref_of o ≡ Some r → r.dirty ≡ true
    → (p : Pointer) × (o ≡ Some p) × (p.kind ≡ Dirty)
pointer_there None r is dirty = absurd (cc)
pointer_there (Some p) r is dirty =
    (p, refl, dirty_kind p.kind (let same : Some (is_dirty p.kind) ≡ Some r.dirty = dirty_of is in cc))
  where
    in_ref : Option Ref → Option Bool
    in_ref None = None
    in_ref (Some x) = Some x.dirty

    dirty_of : ref_of (Some p) ≡ Some r → Some (is_dirty p.kind) ≡ Some r.dirty
    dirty_of e = ap in_ref e

ref_there : (o : Option Pointer) (said : Option Ref) → ref_of o ≡ said → (p : Pointer) → o ≡ Some p
    → p.kind ≡ Dirty → (r : Ref) × (said ≡ Some r) × (r.dirty ≡ true)
ref_there o said is p there dirty = (
  record { dirty = is_dirty p.kind; dev = 0; place = p.place; generation = _ },
  sym is ∙ ap ref_of there,
  ap is_dirty dirty,
)

none_there : (o : Option Pointer) → ref_of o ≡ None → o ≡ None
none_there None is = refl
none_there (Some p) is = absurd (cc)

-- ---- a leaf

pub law_leaf : LawLeaf
law_leaf x part cache slot cached on there o is course =
    let leaf = (on o is course).leaves slot cached there in
    let first = leaf.at.first in
    let end = leaf.at.end_is in
    let st = replay o x.log in
    let said : (s : ℕ) → cached.leaf.from ≤ s → s < cached.leaf.end
    → ref_of (latest (books_of st.machine).index s) ≡ ref_said (last_said cached.leaf.keys s)
    = λ s low high. sym (law_keys x o is course cached.number s leaf.at.role
    (omega (arith, first, low), omega (arith, end, high))) ∙ sym (leaf.keys s low high) in
    record {
      dirty = λ s says. (let p = pointer_there (latest (books_of st.machine).index s) says.ref
          (said s says.from says.end ∙ says.is) says.dirty in
          record { pointer = p.0; is = p.1; dirty = p.2 });
      all = λ s low high at. (let r = ref_there (latest (books_of st.machine).index s)
          (ref_said (last_said cached.leaf.keys s)) (said s low high) at.pointer at.is at.dirty in
          record { from = low; end = high; ref = r.0; is = r.1; dirty = r.2 });
    }

-- ---- the machine's own laws

module _ (x : World) (o : Origin) (is : IsOrigin x o) (course : IsCourseOf o x.log) where
  abbrev pub reached : whole.State
  reached = (replay o x.log).machine.whole

  reached_at : At o.opening.machine o.parts (replay o x.log).machine
  reached_at = subst (λ (st : State). At o.opening.machine o.parts st.machine)
      (sym (replay_is o x.log))
      (at_state o.opening o.parts o.next_seq (oldest_first x.log) is.sound
      (replay_runs o x.log course))

  in_order : IsInOrder o.opening.machine.flow.books reached.flow.books
  in_order = order_at o.opening.machine o.parts reached is.sound reached_at.at

  holds : Inv o.opening.machine reached
  holds = inv_at o.opening.machine o.parts reached is.sound reached_at.at

  known : (s : ℕ) (r : Pointer) → latest reached.flow.books.index s ≡ Some r
      → IsKnown o.opening.machine.flow.books reached.flow.books.generations
      reached.flow.books.mark reached.flow.books.owner s r
  known s r at =
      let low = in_order.counted.durable in
      let high = in_order.counted.sealed in
      in_order.known.keys reached.flow.books.index.count s (omega (arith, low, high)) r at

-- ---- marks

marked_dirty : (m : Mark) → mark_of m ≡ books.Dirtied → m ≡ marks.Dirty
marked_dirty marks.None is = absurd (cc)
marked_dirty marks.Reclaimable is = absurd (cc)
marked_dirty marks.Dirty is = refl
marked_dirty marks.Metadata is = absurd (cc)

any_default : {A : Type 0} (xs : List A) (i : ℕ) (d e : A) → i < length xs
    → slice_index_or xs i d ≡ slice_index_or xs i e
any_default [] i d e lt = absurd (omega (arith, lt))
any_default (x ∷ xs) zero d e lt = refl
any_default (x ∷ xs) (suc i) d e lt = any_default xs i d e (omega (arith, lt))

any_at : {A : Type 0} (P : A → Type 0) (xs : List A) (i : ℕ) (d : A) → i < length xs
    → P (slice_index_or xs i d) → Any P xs
any_at P xs i d lt h =
    (i, slice_index_or xs i d, lt, any_default xs i (slice_index_or xs i d) d lt, h)

pub law_marked : LawMarked
law_marked x p on none o is course s at =
    let w = o.opening.machine in
    let key = known x o is course s at.pointer at.is in
    let q = w.flow.books.bucket at.pointer.place in
    let live = law_live x o is course s at.pointer at.is in
    let inside = live.inside (live.dirty at.dirty) in
    let count = (on o is course).cut.buckets in
    let within : w.before + q < length p.buckets.records = omega (arith, inside, count) in
    let b = (on o is course).records q within in
    none (any_at (λ (r : Bucket). r.mark ≡ marks.Dirty) p.buckets.records (w.before + q) _ within
    (marked_dirty (bucket_of p.buckets (w.before + q)).mark (b.mark ∙ key.marked at.dirty)))

-- ---- the end of the tree, and of the device

module _ (j : Journal) (inner : _) (end : ℕ) (change : _) (roots : Roots j inner end change) (s : ℕ)
    (high : end ≤ s) where
  durable_none : ref_said (last_said j.index s) ≡ None
  durable_none = roots.index s high

  sealed_none : (g : Stage) → j.stage ≡ g
      → ref_said (last_said (if_sealed g j.entry.keys ++ j.index) s) ≡ None
  sealed_none Nothing at = durable_none
  sealed_none Fixed at = ap ref_said (append_none j.entry.keys j.index s
      (roots.sealed (λ e. (let same = sym at ∙ e in absurd (cc))) s high)) ∙ durable_none
  sealed_none Ready at = ap ref_said (append_none j.entry.keys j.index s
      (roots.sealed (λ e. (let same = sym at ∙ e in absurd (cc))) s high)) ∙ durable_none
  sealed_none Sent at = ap ref_said (append_none j.entry.keys j.index s
      (roots.sealed (λ e. (let same = sym at ∙ e in absurd (cc))) s high)) ∙ durable_none
  sealed_none Safe at = ap ref_said (append_none j.entry.keys j.index s
      (roots.sealed (λ e. (let same = sym at ∙ e in absurd (cc))) s high)) ∙ durable_none

  none_beyond : ref_said (last_said (j.waiting ++ (if_sealed j.stage j.entry.keys ++ j.index)) s)
      ≡ None
  none_beyond = ap ref_said (append_none j.waiting (if_sealed j.stage j.entry.keys ++ j.index) s
      (roots.waiting s high)) ∙ sealed_none j.stage refl

not_both : (o : Option Pointer) (p : Pointer) → o ≡ None → o ≡ Some p → ⊥
not_both o p a b = cc

pub law_beyond : LawBeyond
law_beyond x sp on o is course s high at =
    let st = reached x o is course in
    let inv = holds x o is course in
    let q = st.store.places.records in
    let end = (on o is course).end in
    let none : (r : Records) → r ≡ q
    → ref_said (last_said (r.waiting ++ (if_sealed r.stage r.entry.keys ++ r.index)) s) ≡ None
    → ref_said (last_said (q.waiting ++ (if_sealed q.stage q.entry.keys ++ q.index)) s) ≡ None
    = λ r same h. subst (λ (z : Records). ref_said (last_said (z.waiting
    ++ (if_sealed z.stage z.entry.keys ++ z.index)) s) ≡ None) same h in
    not_both (latest st.flow.books.index s) at.pointer
    (none_there (latest st.flow.books.index s) (sym (inv.link.index.all_keys s)
    ∙ sym (said_ref (q.waiting ++ (if_sealed q.stage q.entry.keys ++ q.index)) s)
    ∙ none st.parts.records inv.same (none_beyond (journal_of st.parts.records) st.parts.inner_nodes
    st.parts.end st.parts.change inv.fits.roots s (omega (arith, end, high))))) at.is

pub law_inside : LawInside
law_inside x o is course s high at =
    let key = known x o is course s at.pointer at.is in
    let inside = key.inside in
    let size = is.size in omega (arith, inside, size, high)

-- ---- what leaves keys as they are

same_failed : (w : core.Opening) (st : State) (i : ℕ) (x : Failure) → is_no_write x ≡ true
    → (books_of (core.after w st (record { seat = i; deed = deed.DeviceFault x })).machine).index
    ≡ (books_of st.machine).index
same_failed w st i (failure.Read device) is = refl
same_failed w st i (failure.Barrier device) is = refl
same_failed w st i x is = absurd (cc)

same_deed : (w : core.Opening) (st : State) (i : ℕ) (d : Deed) → leaves_keys d ≡ true
    → (books_of (core.after w st (record { seat = i; deed = d })).machine).index
    ≡ (books_of st.machine).index
same_deed w st i (deed.CacheRead at None values) is = refl
same_deed w st i deed.BackingBarrier is = refl
same_deed w st i (deed.DeviceFault x) is = same_failed w st i x is
same_deed w st i d is = absurd (cc)

dirty_same : (a b : State) (s : ℕ) → (books_of b.machine).index ≡ (books_of a.machine).index
    → IsDirtyAt a s → IsDirtyAt b s
dirty_same a b s same at = record {
  pointer = at.pointer;
  is = ap (λ index. latest index s) same ∙ at.is;
  dirty = at.dirty;
}

pub law_stays : LawStays
law_stays x e leaves = record {
  some = λ h o is course. (let one = h o (origin_before x e o is) course.2 in (
    one.0,
    dirty_same (replay o x.log) (replay o (e ∷ x.log)) one.0
        (same_deed o.opening (replay o x.log) e.seat e.deed leaves) one.1,
  ));
  below = λ n h o is course s low at. h o (origin_before x e o is) course.2 s low
      (dirty_same (replay o (e ∷ x.log)) (replay o x.log) s
      (sym (same_deed o.opening (replay o x.log) e.seat e.deed leaves)) at);
  none = λ h o is course s at. h o (origin_before x e o is) course.2 s
      (dirty_same (replay o (e ∷ x.log)) (replay o x.log) s
      (sym (same_deed o.opening (replay o x.log) e.seat e.deed leaves)) at);
}
