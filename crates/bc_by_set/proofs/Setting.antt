-- What the set leaves that makes the change, and the barrier behind it.
use Rattle.std.proofs.Common.{◌≡◌, ℕ, length, List, [], ◌∷◌, Option, None, Some, refl, sym, ap, ◌∙◌, subst}
use Rattle.std.specs.Prelude.{Contains, IfSome, Ok}
use Rattle.bc_by_root.proofs.Before.{holds_tree}
use Rattle.bc_by_root.proofs.Copied.{change_same, under_same}
use Rattle.bc_by_root.proofs.Later.{fixed_done}
use Rattle.bc_by_root.proofs.Putting.{none_done, same_some}
use Rattle.bc_by_root.proofs.Sealing.{few_buckets, some_bucket}
use Rattle.bc_by_root.proofs.of_bc_install.Sides.{law_ends}
use Rattle.bc_by_root.proofs.of_bc_install.of_bc_append.of_bc_place.Keeping.{keeps_deed, keeps_waited}
use Rattle.bc_by_root.proofs.of_bc_install.of_bc_deed.Sequence.{done_one, done_then}
use Rattle.bc_by_root.proofs.of_bc_install.of_bc_hand.Knowing.{View}
use Rattle.bc_by_root.specs.Done.{IsToInstall}
use Rattle.bc_by_root.specs.Prepared.{SameChange}
use Rattle.bc_by_root.specs.bc_install.Ended.{AreEndsOf, ByNodeSet, CountsFrom, IsMadeBySet}
use Rattle.bc_by_root.specs.bc_install.bc_append.bc_place.Written.{KeepsPlaces}
use Rattle.bc_by_root.specs.bc_install.bc_change.Goes.{IsChangeBy, numbers}
use Rattle.bc_by_root.specs.bc_install.bc_deed.Flushed.{HasDone}
use Rattle.bc_by_root.specs.bc_install.bc_entry.Failed.{HasFailedAtCache}
use Rattle.bc_by_root.specs.bc_install.bc_hand.Seats.{Did, IsCoreSeat, Works, world}
use Rattle.bc_by_root.specs.bc_install.bc_hand.declared.error.StepError.{StepError}
use Rattle.bc_by_root.specs.bc_install.bc_hand.declared.error.StepError.TheVariants as step
use Rattle.bc_by_root.specs.bc_install.bc_hand.declared.hand.Hand.{Hand}
use Rattle.bc_by_root.specs.bc_install.bc_machine.Containers.{inner_slot}
use Rattle.bc_by_root.specs.bc_install.bc_machine.World.{FromEach, IsJournal, Origin, replay}
use Rattle.bc_by_root.specs.bc_install.bc_machine.declared.part.CorePart.{CorePart}
use Rattle.bc_by_root.specs.bc_install.bc_machine.declared.part.SpinePart.{SpinePart}
use Rattle.bc_by_set.proofs.Asked.{change_at, journal_now, slot_at, spine_now}
use Rattle.bc_by_set.proofs.Handed.{rest_by, rest_same}
use Rattle.bc_by_set.proofs.Staying.{by_set_did, by_set_waited, made_did, named_did, named_waited}
use Rattle.bc_by_set.proofs.With.{all_ends_now, change_now, leaves_now, makes_now, taker_now}
use Rattle.bc_by_set.specs.Done.{HasLostSet, HasNoBarrier, HasNotPutSet, HasPutSet, HasSetThen, IsNoSet}
use Rattle.bc_by_set.specs.Given.{MayChangeBySet}
use Rattle.bc_by_set.specs.Prepared.{IsPreparedSet}
use Rattle.bc_by_set.specs.declared.error.BySetError.TheVariants as error
use Rattle.bc_by_set.specs.declared.error.NoSet.{NoSet}
use Rattle.bc_by_set.specs.declared.prepare.PreparedSet.{PreparedSet}
use Rattle.bc_disk.specs.Disk.{DiskFacts}
use Rattle.bc_disk.specs.declared.disk.Device.TheVariants.{Cache}
use Rattle.bc_disk.specs.declared.disk.Failed.{Failed}
use Rattle.bc_events.specs.Run as core
use Rattle.bc_events.specs.declared.event.Change.{Change}
use Rattle.bc_events.specs.declared.event.Deed.{Deed}
use Rattle.bc_events.specs.declared.event.Deed.TheVariants as deed
use Rattle.bc_events.specs.declared.event.Failure.TheVariants as failure
use Rattle.bc_image.specs.Children.{with_children}
use Rattle.bc_inner.specs.Inner.{Inner}
use Rattle.bc_journal.specs.Journal.{Journal}
use Rattle.bc_key.specs.Words.{ptr_word}
use Rattle.bc_key.specs.declared.key.Key.{Key}
use Rattle.bc_key.specs.declared.ptr.Ptr.{Ptr}
use Rattle.bc_node.specs.Writing.{HasSet, set_of}
use Rattle.bc_by_root.proofs.of_bc_install.of_bc_parent_set.Taker.{same_taker}
use Rattle.bc_by_root.specs.bc_install.bc_parent_set.BySet.{IsBySet, IsMadeSet, NamesThis}
use Rattle.bc_by_root.specs.bc_install.bc_parent_set.Takes.{IsTaker}
use Rattle.bc_by_root.specs.bc_install.bc_parent_set.Write.{HasFailedParent, HasLostParent, HasWrittenParent, lost_by, parent_by}
use Rattle.bc_parts.specs.Seat.{Holds, PartsView}
use Rattle.bc_plan.specs.Parent.{HasMoreIn}
use Rattle.bc_spine.specs.Exchange.{going}
use Rattle.bc_spine.specs.declared.leaf.LeafRange.{LeafRange}
use Rattle.bc_tree.specs.Plan.{Fits}
use Rattle.bc_tree.specs.Same.{SameShape}
use Rattle.bc_tree.specs.Spine.{Spine}
use Rattle.bc_tree.specs.declared.plan.Plan.{Plan}

-- the same change in memory of its own is made so
made_same : (a b : Change) → SameChange a b → (i : ℕ) (plan : Plan) (slot : ℕ)
    (children : List Key) (o : Origin) (st : core.State) → IsMadeSet i plan a slot children o st
    → IsMadeSet i plan b slot children o st
made_same a b same i plan slot children o st h = record {
  by_set = record {
    under = under_same a b same o.opening.machine st.machine.whole.parts plan h.by_set.under;
    holds = h.by_set.holds;
    change = h.by_set.change;
    stays = h.by_set.stays;
    children_are = h.by_set.children_are;
  };
  stable = h.stable;
}

module _ {C B : Type 0} (cache_facts : C → DiskFacts) (backing_facts : B → DiskFacts) where
  -- a barrier that failed leaves places alone
  pub keeps_failed : (v w : View cache_facts backing_facts)
      → IsCoreSeat cache_facts backing_facts v → (e : StepError)
      → HasFailedAtCache cache_facts backing_facts e
      (deed.DeviceFault (failure.Barrier Cache)) v w → KeepsPlaces cache_facts backing_facts v w
  keeps_failed v w seat (step.Fault device) failed = keeps_deed cache_facts backing_facts v w
      (deed.DeviceFault (failure.Barrier Cache)) seat refl failed.1
  keeps_failed v w seat (step.Halted device) failed =
      keeps_waited cache_facts backing_facts v w seat failed.1.is
  keeps_failed v w seat step.Memory failed = absurd failed

  -- a write that failed leaves all of the hand but the device
  pub rest_failed : (e : StepError) (plan : Plan) (slot : ℕ) (c : Change) (h k : Hand C B)
      (v w : View cache_facts backing_facts)
      → HasFailedParent cache_facts backing_facts e plan slot c h k v w
      → k ≡ record h { spine = k.spine; cache = k.cache }
  rest_failed (step.Fault device) plan slot c h k v w failed = rest_by h k h.spine failed.1.is
  rest_failed (step.Halted device) plan slot c h k v w failed = rest_same h k failed.2
  rest_failed step.Memory plan slot c h k v w failed = absurd failed

  pub wrote_rest : (plan : Plan) (slot : ℕ) (c : Change) (h k : Hand C B)
      (v w : View cache_facts backing_facts)
      → HasWrittenParent cache_facts backing_facts plan slot c h k v w
      → k ≡ record h { spine = k.spine; cache = k.cache }
  wrote_rest plan slot c h k v w wrote =
      rest_by h k (Some (record wrote.spine { spine = wrote.now })) wrote.is

  -- What the write of the set leaves, of the node that is known to take it.
  pub record WroteOf (h k : Hand C B) (plan : Plan) (slot : ℕ) (c : Change) (q : SpinePart)
      (taker : Inner) (put : List Key) (v u : View cache_facts backing_facts) : Type 0 where
    pub bytes : List ℕ
    pub set : HasSet q.spine.geometry (ptr_word taker.ptr) (set_of taker.seq put) bytes
    pub did : Did cache_facts backing_facts
        (Some (parent_by q.spine.geometry taker put slot c bytes)) v u
    pub now : Spine
    pub well : Unit {0}
    pub more : HasMoreIn {E = Failed} (Ok well) taker put q.spine now
    pub is : k ≡ record h { spine = Some (record q { spine = now }); cache = k.cache }
    pub fits : Fits now plan
    pub knows : FromEach (world cache_facts backing_facts u)
        (IsBySet v.first plan c slot (with_children put taker.children))
    pub named : FromEach (world cache_facts backing_facts u) (NamesThis now.root)

  module _ (p : PartsView (CorePart C B)) (v : View cache_facts backing_facts) (h : Hand C B)
      (works : Works cache_facts backing_facts p v h) (j : Journal) (is : h.journal ≡ Some j)
      (plan : Plan) where
    -- nothing was done
    pub not_begun : (sectors : ℕ) (why : NoSet) → IsNoSet sectors h plan why j
        → HasNotPutSet cache_facts backing_facts sectors h (record h { cache = h.cache }) plan
        (error.NotBegun why) v v
    not_begun sectors why why_is = (
      refl,
      record {
        at = v;
        journal = j;
        stood = record {
          before = none_done cache_facts backing_facts v works.seat;
          stands = subst (λ (o : Option Journal). IfSome o
              (λ q. IsJournal q (world cache_facts backing_facts v))) is works.stand.journal;
        };
        why_is = why_is;
        since = none_done cache_facts backing_facts v works.seat;
      },
    )

    module _ (may : MayChangeBySet h (length p.run.start) v.first plan
        (world cache_facts backing_facts v)) (r : PreparedSet)
        (ready : IsPreparedSet j.ring.geometry may.spine.spine plan may.taker r)
        (u : View cache_facts backing_facts) (k : Hand C B) where
      abbrev sp : SpinePart
      sp = may.spine

      lost_set : HasLostParent cache_facts backing_facts plan r.slot r.change h k v u
          → HasLostSet cache_facts backing_facts h plan r.slot r.change v u
      lost_set lost = record {
        spine = lost.spine;
        is_spine = lost.is_spine;
        at = lost.at;
        taker = lost.taker;
        put = lost.put;
        takes = lost.takes;
        bytes = lost.bytes;
        set = lost.set;
        done = done_one cache_facts backing_facts (Some (lost_by lost.spine.spine.geometry
            lost.taker lost.put r.slot r.change lost.bytes)) v u lost.did;
      }

      -- the write failed, or a device had halted the run before
      pub not_set : (sectors : ℕ) (e : StepError)
          → HasFailedParent cache_facts backing_facts e plan r.slot r.change h k v u
          → HasNotPutSet cache_facts backing_facts sectors h (record k { cache = h.cache }) plan
          (error.Set e) v u
      not_set sectors (step.Fault device) failed = (
        ap (λ (x : Hand C B). record x { cache = h.cache }) failed.1.is,
        (
          failed.0,
          (
            r.slot,
            r.change,
            lost_set failed.1,
          ),
        ),
      )
      not_set sectors (step.Halted device) failed = (
        ap (λ (x : Hand C B). record x { cache = h.cache }) failed.2,
        (
          failed.0,
          done_one cache_facts backing_facts None v u failed.1,
        ),
      )
      not_set sectors step.Memory failed = absurd failed

      wrote_of : HasWrittenParent cache_facts backing_facts plan r.slot r.change h k v u
          → WroteOf h k plan r.slot r.change sp may.taker may.put v u
      wrote_of wrote =
          let same = same_some h.spine wrote.spine sp wrote.is_spine may.is_spine in
          let takes = subst (λ (q : SpinePart).
          IsTaker q.spine plan wrote.at wrote.taker wrote.put) same wrote.takes in
          let one = same_taker sp.spine plan wrote.at may.at wrote.taker may.taker wrote.put may.put
          takes may.by.takes in
          subst (λ (q : SpinePart). WroteOf h k plan r.slot r.change q may.taker may.put v u) same
          (subst (λ (n : Inner). WroteOf h k plan r.slot r.change wrote.spine n may.put v u) one.0
          (subst (λ (ks : List Key).
          WroteOf h k plan r.slot r.change wrote.spine wrote.taker ks v u) one.1 (record {
            bytes = wrote.bytes;
            set = wrote.set;
            did = wrote.did;
            now = wrote.now;
            well = wrote.done;
            more = wrote.more;
            is = wrote.is;
            fits = wrote.fits;
            knows = wrote.knows;
            named = wrote.named;
          })))

      module _ (wrote : HasWrittenParent cache_facts backing_facts plan r.slot r.change h k v u)
          (works_u : Works cache_facts backing_facts p u k) (w : View cache_facts backing_facts)
          (l : Hand C B) (rest : l ≡ record k { cache = l.cache }) where
        it : WroteOf h k plan r.slot r.change sp may.taker may.put v u
        it = wrote_of wrote

        abbrev children : List Key
        children = with_children may.put may.taker.children

        abbrev by_deed : Deed
        by_deed = parent_by sp.spine.geometry may.taker may.put r.slot r.change it.bytes

        abbrev part_now : SpinePart
        part_now = record sp { spine = it.now }

        first_is : u.first ≡ v.first
        first_is = it.did.is.same.first

        held : Holds u.parts 0
        held = holds_tree cache_facts backing_facts p u k works_u part_now
            (ap (λ (x : Hand C B). x.spine) it.is)

        knows_u : FromEach (world cache_facts backing_facts u)
            (IsBySet u.first plan r.change r.slot children)
        knows_u = subst (λ n. FromEach (world cache_facts backing_facts u)
            (IsBySet n plan r.change r.slot children)) (sym first_is) it.knows

        wrote_done : HasDone cache_facts backing_facts (by_deed ∷ []) v u
        wrote_done = done_one cache_facts backing_facts (Some by_deed) v u it.did

        -- the hand but for the device
        but_device : record l { cache = h.cache } ≡ record h { spine = Some part_now }
        but_device = ap (λ (x : Hand C B). record x { cache = h.cache }) rest
            ∙ ap (λ (x : Hand C B). record x { cache = h.cache }) it.is

        set_then : (behind : List Deed)
            → HasDone cache_facts backing_facts (by_deed ∷ behind) v w
            → FromEach (world cache_facts backing_facts w)
            (IsBySet u.first plan r.change r.slot children)
            → FromEach (world cache_facts backing_facts w) (NamesThis it.now.root)
            → HasSetThen cache_facts backing_facts behind h (record l { cache = h.cache }) plan
            r.slot r.change v w
        set_then behind done knows named = record {
          spine = sp;
          is_spine = may.is_spine;
          at = may.at;
          taker = may.taker;
          put = may.put;
          takes = may.by.takes;
          bytes = it.bytes;
          set = it.set;
          done = done;
          now = it.now;
          well = it.well;
          more = it.more;
          is = but_device;
          fits = it.fits;
          knows = subst (λ n. FromEach (world cache_facts backing_facts w)
              (IsBySet n plan r.change r.slot children)) first_is knows;
          named = named;
        }

        -- ---- no barrier came behind it

        no_barrier : (e : StepError)
            → HasFailedAtCache cache_facts backing_facts e
            (deed.DeviceFault (failure.Barrier Cache)) u w
            → HasNoBarrier cache_facts backing_facts e h (record l { cache = h.cache }) plan v w
        no_barrier (step.Fault device) failed = (
          failed.0,
          (
            r.slot,
            r.change,
            set_then (deed.DeviceFault (failure.Barrier Cache) ∷ [])
                (done_then cache_facts backing_facts (by_deed ∷ [])
                (Some (deed.DeviceFault (failure.Barrier Cache))) v u w wrote_done failed.1)
                (by_set_did cache_facts backing_facts u held works_u.seat.seat.live plan r.change
                r.slot children w (deed.DeviceFault (failure.Barrier Cache)) refl refl failed.1
                knows_u)
                (named_did cache_facts backing_facts u held works_u.seat.seat.live it.now.root w
                (deed.DeviceFault (failure.Barrier Cache)) refl failed.1 it.named),
          ),
        )
        no_barrier (step.Halted device) failed = (
          failed.0,
          (
            r.slot,
            r.change,
            set_then []
                (done_then cache_facts backing_facts (by_deed ∷ []) None v u w wrote_done failed.1)
                (by_set_waited cache_facts backing_facts u held works_u.seat.seat.live plan r.change
                r.slot children w failed.1 knows_u)
                (named_waited cache_facts backing_facts u held works_u.seat.seat.live it.now.root w
                failed.1 it.named),
          ),
        )
        no_barrier step.Memory failed = absurd failed

        pub not_firm : (sectors : ℕ) (e : StepError)
            → HasFailedAtCache cache_facts backing_facts e
            (deed.DeviceFault (failure.Barrier Cache)) u w
            → HasNotPutSet cache_facts backing_facts sectors h (record l { cache = h.cache }) plan
            (error.Barrier e) v w
        not_firm sectors e failed = no_barrier e failed

        -- ---- it did

        module _ (did : Did cache_facts backing_facts (Some deed.CacheBarrier) u w) where
          both_done : HasDone cache_facts backing_facts (by_deed ∷ deed.CacheBarrier ∷ []) v w
          both_done = done_then cache_facts backing_facts (by_deed ∷ []) (Some deed.CacheBarrier)
              v u w wrote_done did

          named_w : FromEach (world cache_facts backing_facts w) (NamesThis it.now.root)
          named_w = named_did cache_facts backing_facts u held works_u.seat.seat.live it.now.root w
              deed.CacheBarrier refl did it.named

          pub has_put : HasPutSet cache_facts backing_facts h (record l { cache = h.cache }) plan
              r.later v w
          has_put = record {
            slot = r.slot;
            change = r.change;
            same = ready.later.same;
            put = set_then (deed.CacheBarrier ∷ []) both_done
                (by_set_did cache_facts backing_facts u held works_u.seat.seat.live plan r.change
                r.slot children w deed.CacheBarrier refl refl did knows_u) named_w;
          }

          -- what is said of the opening alone
          fixed : (P : Origin → Type 0) → FromEach (world cache_facts backing_facts v) (λ o st. P o)
              → FromEach (world cache_facts backing_facts w) (λ o st. P o)
          fixed P known = fixed_done cache_facts backing_facts P v w
              (by_deed ∷ deed.CacheBarrier ∷ []) both_done known

          next : (n : Inner) × IsTaker it.now plan may.at n may.put × SameShape may.taker n
          next = taker_now sp.spine it.now may.taker may.put it.well it.more plan may.at may.put
              may.by.takes

          counts : FromEach (world cache_facts backing_facts w) (CountsFrom r.later.first)
          counts = fixed (λ o. o.opening.machine.before ≡ r.later.first)
              (λ o origin course. ((journal_now cache_facts backing_facts p v h works plan may j is
              r ready).stands o origin course).ring.before ∙ sym ready.later.first)

          ends : FromEach (world cache_facts backing_facts w) (λ o st.
              AreEndsOf o.opening.machine it.now plan r.later.come.items r.later.gone.items)
          ends o origin course = all_ends_now sp.spine it.now may.taker may.put it.well it.more plan
              o.opening.machine r.later.come.items r.later.gone.items
              (fixed (λ o. AreEndsOf o.opening.machine sp.spine plan r.later.come.items
              r.later.gone.items) (λ o origin course.
              law_ends (world cache_facts backing_facts v) o origin course j.ring.geometry
              sp.spine plan r.later.come.items r.later.gone.items v.first
              ((journal_now cache_facts backing_facts p v h works plan may j is r ready).stands o
              origin course).ring.layout (some_bucket j.ring.geometry) (few_buckets j.ring.geometry)
              (spine_now cache_facts backing_facts p v h works plan may j is r ready o origin
              course).spine (may.ready o origin course).holds ready.later.ends) o origin course)

          made_set : FromEach (world cache_facts backing_facts w)
              (IsMadeSet v.first plan r.later.change r.slot (with_children may.put next.0.children))
          made_set o origin course = subst (λ (ks : List Key). IsMadeSet v.first plan
              r.later.change r.slot (with_children may.put ks) o
              (replay o (world cache_facts backing_facts w).log))
              (sym next.2.children_are)
              (made_same r.change r.later.change ready.later.same v.first plan r.slot children o
              (replay o (world cache_facts backing_facts w).log)
              (subst (λ n. FromEach (world cache_facts backing_facts w)
              (IsMadeSet n plan r.change r.slot children)) first_is
              (made_did cache_facts backing_facts u held works_u.seat.seat.live plan r.change r.slot
              children w did knows_u) o origin course))

          made : FromEach (world cache_facts backing_facts w) (IsMadeBySet v.first it.now plan
              next.0 may.put r.later.change r.slot)
          made o origin course = record {
            change = change_same r.change r.later.change ready.later.same o.opening.machine it.now
                plan (change_now sp.spine it.now may.taker may.put it.well it.more plan
                o.opening.machine r.change
                (fixed (λ o. IsChangeBy o.opening.machine sp.spine plan r.change)
                (change_at cache_facts backing_facts p v h works plan may j is r ready) o origin
                course));
            by_set = made_set o origin course;
            slot_is = ap (λ (t : Ptr). o.opening.machine.flow.books.bucket t.offset) next.2.ptr
                ∙ fixed (λ o. inner_slot o.opening.machine may.taker ≡ r.slot)
                (slot_at cache_facts backing_facts p v h works plan may j is r ready) o origin
                course;
            named = named_w o origin course;
          }

          to_install_at : IsToInstall l (length p.run.start) v.first plan r.later
              (world cache_facts backing_facts w)
          to_install_at b = record {
            at = record {
              spine = part_now;
              is_spine = ap (λ (x : Hand C B). x.spine) rest ∙ ap (λ (x : Hand C B). x.spine) it.is;
              leaves = may.leaves;
              are_leaves = ap (λ (x : Hand C B). x.leaves) rest
                  ∙ ap (λ (x : Hand C B). x.leaves) it.is ∙ may.are_leaves;
              buckets = b;
              are_buckets = refl;
              fits = it.fits;
            };
            gone_are = ready.later.same.gone ∙ ready.change.gone
                ∙ sym (ap (λ (ls : List LeafRange). numbers (going ls plan.leaves)) same_leaves);
            its_part = λ range m. (may.gone range
                (subst (λ (ls : List LeafRange). Contains (going ls plan.leaves) range) same_leaves
                m)).its_part;
            how = ByNodeSet may.at next.0 may.put r.slot;
            up = makes_now sp.spine it.now may.taker may.put it.well it.more plan may.at r.slot
                next.0 may.put may.by.tree it.fits may.by.both next.1;
            proper = may.proper;
            counts = counts;
            made = made;
            ends = ends;
          }
            where
              same_leaves : it.now.leaves ≡ sp.spine.leaves
              same_leaves = leaves_now sp.spine it.now may.taker may.put it.well it.more

          pub to_install : IsToInstall l (length p.run.start) w.first plan r.later
              (world cache_facts backing_facts w)
          to_install = subst (λ n. IsToInstall l (length p.run.start) n plan r.later
              (world cache_facts backing_facts w)) (sym both_done.same.first) to_install_at
