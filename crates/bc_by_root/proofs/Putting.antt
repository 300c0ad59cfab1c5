-- What the entry leaves that makes the change.
use Rattle.std.proofs.Common.{◌≡◌, ◌⊎◌, inl, inr, ℕ, length, Option, None, Some, sym, ap, ◌∙◌, subst, refl, arith}
use Rattle.bc_disk.specs.Disk.{DiskFacts}
use Rattle.bc_disk.specs.declared.disk.Device.{Device}
use Rattle.bc_events.specs.Columns.{halt_of}
use Rattle.bc_install.proofs.Sides.{law_ends}
use Rattle.bc_install.proofs.of_bc_hand.Knowing.{View}
use Rattle.bc_install.specs.Ended.{AreEndsOf, ByNewRoot, CountsFrom, IsMadeByRoot}
use Rattle.bc_install.specs.RootPut.{HasCutRoot, HasCutRootAt, HasNotSealed, HasPutRoot}
use Rattle.bc_install.specs.bc_change.Goes.{IsChangeBy}
use Rattle.bc_install.specs.bc_change.Ready.{IsReadyFor}
use Rattle.bc_install.specs.bc_change.Root.{IsUnheard}
use Rattle.bc_install.specs.bc_deed.Flushed.{HasDone}
use Rattle.bc_install.specs.bc_entry.Put.{IsCause, IsNoFault}
use Rattle.bc_install.specs.bc_hand.Seats.{IsCoreSeat, Works, world}
use Rattle.bc_install.specs.bc_hand.declared.error.StepError.{StepError}
use Rattle.bc_install.specs.bc_hand.declared.error.StepError.TheVariants as step
use Rattle.bc_install.specs.bc_hand.declared.hand.Hand.{Hand}
use Rattle.bc_install.specs.bc_machine.Containers.{inner_slot}
use Rattle.bc_install.specs.bc_machine.World.{FromEach, IsJournal, Origin}
use Rattle.bc_install.specs.bc_machine.declared.part.CorePart.{CorePart}
use Rattle.bc_install.specs.bc_machine.declared.part.SpinePart.{SpinePart}
use Rattle.bc_install.proofs.of_bc_deed.May.{did_nothing}
use Rattle.bc_install.proofs.of_bc_deed.Sequence.{done_one}
use Rattle.bc_journal.specs.Journal.{Journal}
use Rattle.bc_meta.specs.Entries.{Entry}
use Rattle.bc_parts.specs.Seat.{PartsView}
use Rattle.bc_tree.specs.declared.plan.Plan.{Plan}
use Rattle.bc_install.specs.bc_change.Goes.{BringsRoot}
use Rattle.std.specs.Prelude.{IfSome, []}
use Rattle.bc_by_root.proofs.Copied.{by_root_same, change_same}
use Rattle.bc_by_root.proofs.Before.{holds_tree}
use Rattle.bc_by_root.proofs.Handed.{may_as}
use Rattle.bc_by_root.proofs.Later.{fixed_done, ready_waited}
use Rattle.bc_by_root.proofs.Named.{names_next}
use Rattle.bc_by_root.proofs.Sealing.{change_now, few_buckets, journal_now, some_bucket, spine_now}
use Rattle.bc_by_root.specs.Done.{HasCut, HasCutAt, HasNotBegun, HasNotPut, HasPut, HasStood, IsBroughtTo, IsToInstall, IsUnheardAt, IsWhy, KeepsPromises, MayAgain, refused_by}
use Rattle.bc_by_root.specs.Given.{MayChange}
use Rattle.bc_by_root.specs.Prepared.{IsPrepared}
use Rattle.bc_by_root.specs.declared.error.ByRootError.{ByRootError}
use Rattle.bc_by_root.specs.declared.error.NotBegun.{NotBegun}
use Rattle.bc_by_root.specs.declared.prepare.Prepared.{Prepared}

-- what a step's error says of a halt
unheard_as : (e : StepError) (heard : Option Device) → IsUnheard e heard
    → IsUnheardAt (refused_by e) heard
unheard_as (step.Fault device) heard h = tt
unheard_as (step.Halted device) heard h = tt
unheard_as step.Memory heard h = h

pub unheard_at : (e : StepError) (heard : Option Device) → IsUnheard e heard → (b : ByRootError)
    → b ≡ refused_by e → IsUnheardAt b heard
unheard_at e heard h b is = subst (λ x. IsUnheardAt x heard) (sym is) (unheard_as e heard h)

pub same_some : {A : Type 0} (o : Option A) (a b : A) → o ≡ Some a → o ≡ Some b → a ≡ b
same_some o a b is at = let both : Some a ≡ Some b = sym is ∙ at in cc

module _ {C B : Type 0} (cache_facts : C → DiskFacts) (backing_facts : B → DiskFacts) where
  pub none_done : (v : View cache_facts backing_facts) → IsCoreSeat cache_facts backing_facts v
      → HasDone cache_facts backing_facts [] v v
  none_done v seat = done_one cache_facts backing_facts None v v
      (did_nothing cache_facts backing_facts v seat)

  module _ (p : PartsView (CorePart C B)) (v : View cache_facts backing_facts) (h : Hand C B)
      (works : Works cache_facts backing_facts p v h) (j : Journal) (is : h.journal ≡ Some j)
      (plan : Plan) where
    stood : HasStood cache_facts backing_facts j v v
    stood = record {
      before = none_done v works.seat;
      stands = subst (λ (o : Option Journal). IfSome o
          (λ q. IsJournal q (world cache_facts backing_facts v))) is works.stand.journal;
    }

    -- a halt was heard of before
    pub halted_before : (device : Device) → halt_of v.seen ≡ Some device
        → HasCut cache_facts backing_facts h plan (step.Halted device) v v
    halted_before device is = record {
      far = inl (tt, none_done v works.seat);
      cause = is;
    }

    pub not_begun : (sectors : ℕ) (why : NotBegun) → IsWhy sectors h plan why j
        → HasNotBegun cache_facts backing_facts sectors h plan why v v
    not_begun sectors why why_is = record {
      at = v;
      journal = j;
      stood = stood;
      why_is = why_is;
      since = none_done v works.seat;
    }

    module _ (may : MayChange h (length p.run.start) v.first plan
        (world cache_facts backing_facts v)) (r : Prepared)
        (ready : IsPrepared j.ring.geometry may.spine.spine plan may.root j.heads r)
        (w : View cache_facts backing_facts) where
      brought_to : IsBroughtTo h plan may.root
      brought_to q at = subst (λ (s : SpinePart). BringsRoot s.spine plan may.root)
          (same_some h.spine may.spine q may.is_spine at) may.up.brings

      cut_at : (e : StepError) → HasCutRootAt cache_facts backing_facts e j r.heads r.slot
          r.change v w → HasCutAt cache_facts backing_facts h plan e v w
      cut_at e cut = record {
        at = v;
        journal = j;
        stood = stood;
        root = may.root;
        brought = brought_to;
        heads = r.heads;
        named = ready.heads;
        change = r.change;
        slot = r.slot;
        cut = cut;
      }

      -- nothing was done, or it came so far
      far : (e : StepError) (k : Hand C B) → HasCutRoot cache_facts backing_facts e j r.heads r.slot
          r.change h k v w → (IsNoFault e × HasDone cache_facts backing_facts [] v w)
          ⊎ HasCutAt cache_facts backing_facts h plan e v w
      far e k (inl none) = inl (none.no_fault, done_one cache_facts backing_facts None v w none.did)
      far e k (inr cut) = inr (cut_at e cut)

      never_memory : (k : Hand C B) → HasCutRoot cache_facts backing_facts step.Memory j r.heads
          r.slot r.change h k v w → HasNotSealed cache_facts backing_facts step.Memory h k v w
      never_memory k (inl none) = none
      never_memory k (inr cut) = absurd cut.cut.cut

      cut_as : (sectors : ℕ) (e : StepError) (k : Hand C B)
          → HasCutRoot cache_facts backing_facts e j r.heads r.slot r.change h k v w
          → IsCause e w.seen
          → HasNotPut cache_facts backing_facts sectors h plan (refused_by e) v w
      cut_as sectors (step.Fault device) k cut cause = record {
        far = far (step.Fault device) k cut;
        cause = cause;
      }
      cut_as sectors (step.Halted device) k cut cause = record {
        far = far (step.Halted device) k cut;
        cause = cause;
      }
      cut_as sectors step.Memory k cut cause = record {
        at = v;
        journal = j;
        stood = stood;
        why_is = tt;
        since = done_one cache_facts backing_facts None v w (never_memory k cut).did;
      }

      pub has_cut : (sectors : ℕ) (e : StepError) (k : Hand C B)
          → HasCutRoot cache_facts backing_facts e j r.heads r.slot r.change h k v w
          → IsCause e w.seen → (b : ByRootError) → b ≡ refused_by e
          → HasNotPut cache_facts backing_facts sectors h plan b v w
      has_cut sectors e k cut cause b is = subst (λ x. HasNotPut cache_facts backing_facts sectors h
          plan x v w) (sym is) (cut_as sectors e k cut cause)

      -- where there was no memory, it may be tried again
      again_as : (e : StepError) (k : Hand C B)
          → HasCutRoot cache_facts backing_facts e j r.heads r.slot r.change h k v w
          → MayAgain (refused_by e) k (length p.run.start) w.first plan
          (world cache_facts backing_facts w)
      again_as (step.Fault device) k cut = tt
      again_as (step.Halted device) k cut = tt
      again_as step.Memory k cut = let none = never_memory k cut in
          let first = none.did.is.same.first in
          may_as h k (length p.run.start) v.first w.first plan
          (world cache_facts backing_facts v) (world cache_facts backing_facts w) (record {
            spine = ap (λ (x : Hand C B). x.spine) none.same;
            leaves = ap (λ (x : Hand C B). x.leaves) none.same;
          }) may (subst (λ n. FromEach (world cache_facts backing_facts w) (IsReadyFor n plan))
          (sym first) (ready_waited cache_facts backing_facts v w
          (holds_tree cache_facts backing_facts p v h works may.spine may.is_spine) works.seat.seat.live
          none.did.is plan may.ready))

      kept_as : (e : StepError) (k : Hand C B)
          → HasCutRoot cache_facts backing_facts e j r.heads r.slot r.change h k v w
          → KeepsPromises (refused_by e) v.promises w.promises
      kept_as (step.Fault device) k cut = tt
      kept_as (step.Halted device) k cut = tt
      kept_as step.Memory k cut = let same = (never_memory k cut).did.is.promises in
          omega (arith, same)

      pub kept_cut : (e : StepError) (k : Hand C B)
          → HasCutRoot cache_facts backing_facts e j r.heads r.slot r.change h k v w
          → (b : ByRootError) → b ≡ refused_by e → KeepsPromises b v.promises w.promises
      kept_cut e k cut b is = subst (λ x. KeepsPromises x v.promises w.promises) (sym is)
          (kept_as e k cut)

      pub again_cut : (e : StepError) (k : Hand C B)
          → HasCutRoot cache_facts backing_facts e j r.heads r.slot r.change h k v w
          → (b : ByRootError) → b ≡ refused_by e
          → MayAgain b k (length p.run.start) w.first plan (world cache_facts backing_facts w)
      again_cut e k cut b is = subst (λ x. MayAgain x k (length p.run.start) w.first plan
          (world cache_facts backing_facts w)) (sym is) (again_as e k cut)

      module _ (put : HasPutRoot cache_facts backing_facts j r.heads r.slot plan r.change v w)
        where
          pub has_put : HasPut cache_facts backing_facts h plan r.later v w
          has_put = record {
            at = v;
            journal = j;
            stood = stood;
            root = may.root;
            brought = brought_to;
            heads = r.heads;
            named = ready.heads;
            change = r.change;
            same = ready.later.same;
            slot = r.slot;
            put = put;
          }

          -- what is said of the opening alone
          fixed : (P : Origin → Type 0) → FromEach (world cache_facts backing_facts v) (λ o st. P o)
              → FromEach (world cache_facts backing_facts w) (λ o st. P o)
          fixed P known = fixed_done cache_facts backing_facts P v w put.deeds put.done known

          counts : FromEach (world cache_facts backing_facts w) (CountsFrom r.later.first)
          counts = fixed (λ o. o.opening.machine.before ≡ r.later.first)
              (λ o origin course. ((journal_now cache_facts backing_facts p v h works plan may j is r
              ready).stands o origin course).ring.before ∙ sym ready.later.first)

          ends : FromEach (world cache_facts backing_facts w) (λ o st.
              AreEndsOf o.opening.machine may.spine.spine plan r.later.come.items
              r.later.gone.items)
          ends = fixed (λ o. AreEndsOf o.opening.machine may.spine.spine plan r.later.come.items
              r.later.gone.items) (λ o origin course.
              law_ends (world cache_facts backing_facts v) o origin course j.ring.geometry
              may.spine.spine plan r.later.come.items r.later.gone.items v.first
              ((journal_now cache_facts backing_facts p v h works plan may j is r ready).stands o
              origin course).ring.layout (some_bucket j.ring.geometry) (few_buckets j.ring.geometry)
              (spine_now cache_facts backing_facts p v h works plan may j is r ready o origin
              course).spine (may.ready o origin course).holds ready.later.ends)

          slot_at : FromEach (world cache_facts backing_facts w)
              (λ o st. inner_slot o.opening.machine may.root ≡ r.slot)
          slot_at = fixed (λ o. inner_slot o.opening.machine may.root ≡ r.slot)
              (λ o origin course. (names_next (world cache_facts backing_facts v) o origin course
              j.ring.geometry ((journal_now cache_facts backing_facts p v h works plan may j is r
              ready).stands o origin course).ring.layout (some_bucket j.ring.geometry)
              (few_buckets j.ring.geometry) v.first may.spine.spine plan may.root may.up.brings
              (may.ready o origin course).holds j.heads r.heads r.slot ready.heads
              ready.slot).slot_is)

          change_at : FromEach (world cache_facts backing_facts w)
              (λ o st. IsChangeBy o.opening.machine may.spine.spine plan r.change)
          change_at = fixed (λ o. IsChangeBy o.opening.machine may.spine.spine plan r.change)
              (change_now cache_facts backing_facts p v h works plan may j is r ready)

          made : FromEach (world cache_facts backing_facts w) (IsMadeByRoot v.first
              may.spine.spine plan may.root r.later.change put.at.sealed.entry.seq r.slot)
          made o origin course = record {
            change = change_same r.change r.later.change ready.later.same o.opening.machine
                may.spine.spine plan (change_at o origin course);
            by_root = by_root_same r.change r.later.change ready.later.same v.first plan
                put.at.sealed.entry.seq r.slot o _ (put.under o origin course);
            slot_is = slot_at o origin course;
            made = let number = ap (λ (e : Entry). e.number) (put.newest o origin course) in
                omega (arith, number);
          }

          pub to_install : IsToInstall h (length p.run.start) v.first plan r.later
              (world cache_facts backing_facts w)
          to_install b = record {
            at = record {
              spine = may.spine;
              is_spine = may.is_spine;
              leaves = may.leaves;
              are_leaves = may.are_leaves;
              buckets = b;
              are_buckets = refl;
              fits = may.up.fits;
            };
            gone_are = ready.later.same.gone ∙ ready.change.gone;
            its_part = λ range m. (may.gone range m).its_part;
            how = ByNewRoot may.root put.at.sealed.entry.seq r.slot;
            up = record {
              tree = may.up.tree;
              fits = may.up.fits;
              both = may.up.both;
              by = may.up.brings;
            };
            proper = may.proper;
            counts = counts;
            made = made;
            ends = ends;
          }
