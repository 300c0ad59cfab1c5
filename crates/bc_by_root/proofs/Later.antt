-- What a seat knows goes on to hold while it waits, and behind its deeds.
use Rattle.std.proofs.Common.{◌≡◌, inl, ◌<◌, List, [], ◌∷◌, sym, ap, ◌∙◌, subst, arith}
use Rattle.std.specs.Prelude.{fold}
use Rattle.std.proofs.lemmas.List.{append-nil}
use Rattle.bc_disk.specs.Disk.{DiskFacts}
use Rattle.bc_events.specs.declared.event.Change.{Change}
use Rattle.bc_events.specs.declared.event.Deed.{Deed}
use Rattle.bc_events.specs.declared.event.Event.{Event}
use Rattle.bc_install.proofs.of_bc_append.Lasting.{law_lasts}
use Rattle.bc_install.proofs.of_bc_change.Keeping.{law_ready}
use Rattle.bc_install.proofs.of_bc_change.Staying.{by_root_since}
use Rattle.bc_install.proofs.of_bc_deed.Sequence.{done_both}
use Rattle.bc_install.proofs.of_bc_hand.Knowing.{View, m}
use Rattle.bc_image.specs.Children.{with_children}
use Rattle.bc_install.proofs.of_bc_parent_set.Keeping.{law_by_set, law_stays}
use Rattle.bc_install.specs.Ended.{ByNewRoot, ByNodeSet, How, IsMadeSo}
use Rattle.bc_install.specs.bc_parent_set.BySet.{IsMadeSet, NamesThis}
use Rattle.bc_install.specs.bc_append.Durable.{IsDurableTo}
use Rattle.bc_install.specs.bc_change.Goes.{IsChangeBy}
use Rattle.bc_install.specs.bc_change.Ready.{IsReadyFor}
use Rattle.bc_install.specs.bc_deed.Flushed.{HasDone}
use Rattle.bc_install.specs.bc_hand.Seats.{world}
use Rattle.bc_install.specs.bc_machine.Containers.{inner_slot}
use Rattle.bc_install.specs.bc_machine.Standing.{origin_before}
use Rattle.bc_install.specs.bc_machine.World.{FromEach, Origin, World, after, opening}
use Rattle.bc_install.specs.bc_machine.declared.part.CorePart.{CorePart}
use Rattle.bc_parts.specs.Seat.{Holds, Run}
use Rattle.bc_seats.proofs.Knowing.{lasts, still, waited}
use Rattle.bc_seats.specs.Seats.{Waited}
use Rattle.bc_tree.specs.Spine.{Spine}
use Rattle.bc_tree.specs.declared.plan.Plan.{Plan}

-- what is said of the opening alone
pub fixed_fold : (P : Origin → Type 0) (x : World) (es : List Event)
    → FromEach x (λ o st. P o) → FromEach (fold after x es) (λ o st. P o)
fixed_fold P x [] h = h
fixed_fold P x (e ∷ es) h = fixed_fold P (after x e) es
    (λ o is course. h o (origin_before x e o is) course.2)

module _ {C B : Type 0} (cache_facts : C → DiskFacts) (backing_facts : B → DiskFacts) where
  abbrev seen : View cache_facts backing_facts → World
  seen v = world cache_facts backing_facts v

  pub fixed_done : (P : Origin → Type 0) (v w : View cache_facts backing_facts) (ds : List Deed)
      → HasDone cache_facts backing_facts ds v w → FromEach (seen v) (λ o st. P o)
      → FromEach (seen w) (λ o st. P o)
  fixed_done P v w ds done h = subst (λ (x : World). FromEach x (λ o st. P o)) (sym done.is)
      (fixed_fold P (seen v) done.all h)

  -- a seat that has seen no more knows the same state
  pub same_world : (v w : View cache_facts backing_facts)
      → Waited (m cache_facts backing_facts) v w → w.seen ≡ v.seen → seen w ≡ seen v
  same_world v w h same = ap (λ (r : Run (CorePart C B)).
      fold after (opening cache_facts backing_facts r.start) w.seen) h.same.run
      ∙ ap (λ (l : List Event). fold after (opening cache_facts backing_facts v.run.start) l) same

  pub as_done : (v w : View cache_facts backing_facts) → Waited (m cache_facts backing_facts) v w
      → HasDone cache_facts backing_facts [] v w
  as_done v w h = waited (m cache_facts backing_facts) v w h

  pub twice_done : (t u v : View cache_facts backing_facts)
      → HasDone cache_facts backing_facts [] t u → HasDone cache_facts backing_facts [] u v
      → HasDone cache_facts backing_facts [] t v
  twice_done t u v a b = done_both cache_facts backing_facts [] [] t u v a b

  pub then_done : (ds : List Deed) (u v w : View cache_facts backing_facts)
      → HasDone cache_facts backing_facts ds u v → HasDone cache_facts backing_facts [] v w
      → HasDone cache_facts backing_facts ds u w
  then_done ds u v w a b = subst (λ (l : List Deed). HasDone cache_facts backing_facts l u w)
      (append-nil ds) (done_both cache_facts backing_facts ds [] u v w a b)

  -- while it waits with the tree in hand
  module _ (v w : View cache_facts backing_facts) (spine : Holds v.parts 0) (live : v.first < v.end)
      (wait : Waited (m cache_facts backing_facts) v w) where
    pub ready_waited : (plan : Plan) → FromEach (seen v) (IsReadyFor v.first plan)
        → FromEach (seen w) (IsReadyFor v.first plan)
    ready_waited plan h = still (m cache_facts backing_facts) v (seen w)
        (λ y. FromEach y (IsReadyFor v.first plan))
        (λ y e on foreign before. law_ready y e v.first plan (foreign.0 v.first (omega arith) live)
        (foreign.1 0 spine) before) wait.since h

    pub fixed_waited : (P : Origin → Type 0) → FromEach (seen v) (λ o st. P o)
        → FromEach (seen w) (λ o st. P o)
    fixed_waited P h = fixed_done P v w [] (as_done v w wait) h

    pub made_waited : (sp : Spine) (plan : Plan) (c : Change) (how : How)
        → FromEach (seen v) (IsMadeSo v.first sp plan c how)
        → FromEach (seen w) (IsMadeSo v.first sp plan c how)
    made_waited sp plan c (ByNodeSet at taker put slot) h o is course = record {
      change = fixed_waited (λ o. IsChangeBy o.opening.machine sp plan c)
          (λ o is course. (h o is course).change) o is course;
      by_set = still (m cache_facts backing_facts) v (seen w)
          (λ y. FromEach y (IsMadeSet v.first plan c slot (with_children put taker.children)))
          (λ y e on foreign before. law_by_set.made y e v.first plan c slot
          (with_children put taker.children) (foreign.1 0 spine)
          (inl (foreign.0 v.first (omega arith) live)) before) wait.since
          (λ o is course. (h o is course).by_set) o is course;
      slot_is = fixed_waited (λ o. inner_slot o.opening.machine taker ≡ slot)
          (λ o is course. (h o is course).slot_is) o is course;
      named = still (m cache_facts backing_facts) v (seen w)
          (λ y. FromEach y (NamesThis sp.root))
          (λ y e on foreign before. law_stays y e sp.root (foreign.1 0 spine) before) wait.since
          (λ o is course. (h o is course).named) o is course;
    }
    made_waited sp plan c (ByNewRoot root number slot) h o is course = record {
      change = fixed_waited (λ o. IsChangeBy o.opening.machine sp plan c)
          (λ o is course. (h o is course).change) o is course;
      by_root = by_root_since cache_facts backing_facts v spine live plan c number slot (seen w)
          wait.since (λ o is course. (h o is course).by_root) o is course;
      slot_is = fixed_waited (λ o. inner_slot o.opening.machine root ≡ slot)
          (λ o is course. (h o is course).slot_is) o is course;
      made = lasts (m cache_facts backing_facts) v (seen w)
          (λ y. FromEach y (IsDurableTo number))
          (λ y e on before. law_lasts y e number before) wait.since
          (λ o is course. (h o is course).made) o is course;
    }
