-- What the whole step did, by how far it came.
use Rattle.std.proofs.Common.{◌≡◌, ℕ, ◌+◌, true, List, [], append-nil, length, None, Some, refl, sym, ap, ◌∙◌, subst}
use Rattle.std.specs.Prelude.{Err, IfErr, Ok, OnOk, Result}
use Rattle.bc_change.specs.bc_entry.Failed.{HasFailedAtCache}
use Rattle.bc_disk.specs.Disk.{DiskFacts}
use Rattle.bc_disk.specs.declared.disk.Device.TheVariants.{Cache}
use Rattle.bc_events.specs.declared.event.Deed.{Deed}
use Rattle.bc_events.specs.declared.event.Deed.TheVariants as deed
use Rattle.bc_events.specs.declared.event.Failure.TheVariants as failure
use Rattle.bc_new_node.proofs.of_bc_held.Keeping.{held_deed, keeps_waited as held_waited}
use Rattle.bc_new_node.proofs.of_bc_place.Keeping.{keeps_deed, keeps_waited}
use Rattle.bc_new_node.specs.bc_hand.Seats.{Did, IsCoreSeat, View}
use Rattle.bc_new_node.specs.bc_hand.declared.error.StepError.{StepError}
use Rattle.bc_new_node.specs.bc_hand.declared.error.StepError.TheVariants as error
use Rattle.bc_new_node.specs.bc_hand.declared.hand.Hand.{Hand}
use Rattle.bc_new_node.specs.bc_held.declared.held.HeldBucket.{HeldBucket}
use Rattle.bc_new_node.specs.bc_machine.declared.part.SpinePart.{SpinePart}
use Rattle.bc_new_node.specs.bc_place.Written.{KeepsPlaces}
use Rattle.bc_new_nodes.specs.Course.{HaveStoppedAt, counted}
use Rattle.bc_planned.specs.Nodes.{nodes_of}
use Rattle.bc_new_nodes.specs.Wrote.{HaveNotWritten, HaveStopped, HaveWritten, KeepsBuckets, changed, noted}
use Rattle.bc_plan.specs.declared.write.NewNode.{NewNode}
use Rattle.bc_tree.specs.declared.plan.Plan.{Plan}

pub map_if_err : {A E : Type 0} {P Q : E → Type 0} (r : Result A E) → ((e : E) → P e → Q e)
    → IfErr r P → IfErr r Q
map_if_err (Ok a) f h = tt
map_if_err (Err e) f h = f e h

abbrev failed_barrier : Deed
failed_barrier = deed.DeviceFault (failure.Barrier Cache)

module _ {C B : Type 0} (cache_facts : C → DiskFacts) (backing_facts : B → DiskFacts) where
  -- ---- the barrier leaves buckets and places

  module _ (v w : View cache_facts backing_facts) (seat : IsCoreSeat cache_facts backing_facts v) where
    abbrev Keeps : Type 0
    Keeps = KeepsBuckets cache_facts backing_facts v w × KeepsPlaces cache_facts backing_facts v w

    by_nothing : Did cache_facts backing_facts None v w → Keeps
    by_nothing did = (
      λ a h. (held_waited cache_facts backing_facts None v w seat did.is).held a tt h,
      keeps_waited cache_facts backing_facts v w seat did.is,
    )

    by_failure : (e : StepError) → HasFailedAtCache cache_facts backing_facts e failed_barrier v w
        → Keeps
    by_failure (error.Fault device) h = (
      λ a. held_deed cache_facts backing_facts v w failed_barrier seat (λ q. refl) h.1 a,
      keeps_deed cache_facts backing_facts v w failed_barrier seat refl h.1,
    )
    by_failure (error.Halted device) h = by_nothing h.1
    by_failure error.Memory h = absurd h

    pub keeps_barrier : (r : Result (Unit {0}) StepError)
        → OnOk r (Did cache_facts backing_facts (Some deed.CacheBarrier) v w)
        → IfErr r (λ e. HasFailedAtCache cache_facts backing_facts e failed_barrier v w) → Keeps
    keeps_barrier (Ok done) ok err = (
      λ a. held_deed cache_facts backing_facts v w deed.CacheBarrier seat (λ q. refl) ok a,
      keeps_deed cache_facts backing_facts v w deed.CacheBarrier seat refl ok,
    )
    keeps_barrier (Err e) ok err = by_failure e err

  -- ---- where it came no further

  module _ (before : ℕ) (nodes : List NewNode) (bs : List HeldBucket) (p q : Plan) (sp : SpinePart)
      (h k new : Hand C B) (u : View cache_facts backing_facts) (are : nodes ≡ nodes_of p)
      (note : k ≡ noted h sp) where
    abbrev at : SpinePart
    at = record sp { changing = true }

    hand_is : (used : ℕ) → counted k at used new → new ≡ changed h sp used new.cache
    hand_is used is = is ∙ ap (λ (x : Hand C B). record x {
      spine = Some (record at { next_seq = sp.next_seq + used });
      cache = new.cache;
    }) note

    stop : (e : StepError) (w : View cache_facts backing_facts)
        → HaveStoppedAt cache_facts backing_facts e before nodes bs p q at k new u w
        → HaveStopped cache_facts backing_facts e before bs p q sp h new u w
    stop e w s = record {
      these = s.these;
      more = s.more;
      nodes_are = sym are ∙ s.nodes_are;
      full = s.full;
      rest = s.rest;
      buckets_are = s.buckets_are;
      between = s.between;
      wrote = s.wrote;
      used = s.used;
      why = s.why;
      hand = hand_is s.used s.hand;
    }

    pub stopped_before : (e : StepError) (w : View cache_facts backing_facts)
        → HaveStoppedAt cache_facts backing_facts e before nodes bs p q at k new u w
        → HaveNotWritten cache_facts backing_facts e before bs p q sp h new u w
    stopped_before (error.Fault device) w s = stop (error.Fault device) w s
    stopped_before (error.Halted device) w s = stop (error.Halted device) w s
    stopped_before error.Memory w s = absurd s.why

    module _ (mid : Hand C B) (v w : View cache_facts backing_facts)
        (wrote : HaveWritten cache_facts backing_facts before sp.spine.geometry nodes bs p q u v)
        (hand : counted k at (length bs) mid) (rest : new ≡ record mid { cache = new.cache }) where
      pub hand_behind : new ≡ changed h sp (length bs) new.cache
      hand_behind = hand_is (length bs)
          (rest ∙ ap (λ (x : Hand C B). record x { cache = new.cache }) hand)

      pub wrote_all : HaveWritten cache_facts backing_facts before sp.spine.geometry (nodes_of p) bs p
          q u v
      wrote_all = subst (λ ns. HaveWritten cache_facts backing_facts before sp.spine.geometry ns bs p q
          u v) are wrote

      pub stopped_behind : (e : StepError)
          → HasFailedAtCache cache_facts backing_facts e failed_barrier v w
          → HaveNotWritten cache_facts backing_facts e before bs p q sp h new u w
      stopped_behind (error.Fault device) f = record {
        these = nodes_of p;
        more = [];
        nodes_are = sym (append-nil (nodes_of p));
        full = bs;
        rest = [];
        buckets_are = sym (append-nil bs);
        between = v;
        wrote = wrote_all;
        used = length bs;
        why = (f.0, (refl, refl, f.1));
        hand = hand_behind;
      }
      stopped_behind (error.Halted device) f = record {
        these = nodes_of p;
        more = [];
        nodes_are = sym (append-nil (nodes_of p));
        full = bs;
        rest = [];
        buckets_are = sym (append-nil bs);
        between = v;
        wrote = wrote_all;
        used = length bs;
        why = (f.0, refl, f.1);
        hand = hand_behind;
      }
      stopped_behind error.Memory f = absurd f
