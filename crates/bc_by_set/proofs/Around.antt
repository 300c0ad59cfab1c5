-- What was done between taking the journal and the device and giving them back.
use Rattle.std.proofs.Common.{◌≡◌, ℕ, List, [], ◌∷◌, length, None, Some, sym, ◌∙◌, subst}
use Rattle.std.specs.Prelude.{All, Err, IfErr, IfOk, Ok, Result}
use Rattle.bc_by_root.proofs.Before.{holds_tree, ready_both}
use Rattle.bc_by_root.proofs.Handed.{SameTree, install_as}
use Rattle.bc_by_root.proofs.Later.{fixed_waited, same_world, then_done, twice_done}
use Rattle.bc_by_root.proofs.of_bc_install.Keeping.{keeps_none}
use Rattle.bc_by_root.proofs.of_bc_install.of_bc_append.of_bc_place.Keeping.{keeps_both}
use Rattle.bc_by_root.proofs.of_bc_install.of_bc_deed.Sequence.{done_both}
use Rattle.bc_by_root.proofs.of_bc_install.of_bc_hand.Knowing.{View, m}
use Rattle.bc_by_root.specs.Done.{IsToInstall}
use Rattle.bc_by_root.specs.bc_install.bc_append.bc_place.Written.{KeepsPlaces}
use Rattle.bc_by_root.specs.bc_install.bc_deed.Flushed.{HasDone}
use Rattle.bc_by_root.specs.bc_install.bc_hand.Seats.{HasNoneBehindLeaves, Works, world}
use Rattle.bc_by_root.specs.bc_install.bc_hand.declared.error.StepError.TheVariants as step
use Rattle.bc_by_root.specs.bc_install.bc_hand.declared.hand.Hand.{Hand}
use Rattle.bc_by_root.specs.bc_install.bc_machine.World.{FromEach, World}
use Rattle.bc_by_root.specs.bc_install.bc_machine.declared.part.CorePart.{CorePart}
use Rattle.bc_by_root.specs.declared.prepare.Installing.{Installing}
use Rattle.bc_by_set.proofs.Handed.{back_same, back_with, first_tree, last_tree, may_as}
use Rattle.bc_by_set.proofs.Staying.{named_lasts}
use Rattle.bc_by_set.specs.Done.{HasLostSet, HasNotChangedBySet, HasNotPutSet, HasPutSet, HasSetThen, IsNoSet, MayAgainSet}
use Rattle.bc_by_set.specs.Given.{MayChangeBySet}
use Rattle.bc_by_set.specs.declared.error.BySetError.{BySetError}
use Rattle.bc_by_set.specs.declared.error.BySetError.TheVariants as error
use Rattle.bc_by_set.specs.declared.error.NoSet.{NoSet}
use Rattle.bc_by_set.specs.declared.error.NoSet.TheVariants as no
use Rattle.bc_disk.specs.Disk.{DiskFacts}
use Rattle.bc_disk.specs.declared.disk.Device.TheVariants.{Cache}
use Rattle.bc_events.specs.Columns.{halt_of}
use Rattle.bc_events.specs.declared.event.Change.{Change}
use Rattle.bc_events.specs.declared.event.Deed.{Deed}
use Rattle.bc_events.specs.declared.event.Deed.TheVariants as deed
use Rattle.bc_events.specs.declared.event.Event.{Event}
use Rattle.bc_events.specs.declared.event.Failure.TheVariants as failure
use Rattle.bc_facts.specs.Layout.{IsLayoutOf}
use Rattle.bc_image.specs.Children.{with_children}
use Rattle.bc_journal.specs.Journal.{Journal}
use Rattle.bc_by_root.specs.bc_install.bc_parent_set.BySet.{IsBySet, NamesThis}
use Rattle.bc_by_root.specs.bc_install.bc_parent_set.Write.{PointsTo, lost_by, parent_by}
use Rattle.bc_parts.specs.Seat.{PartsView}
use Rattle.bc_seats.specs.Seats.{Waited}
use Rattle.bc_tree.specs.declared.plan.Plan.{Plan}

-- the same tree and leaves, from hand to hand
pub tree_twice : {C B : Type 0} (a b c : Hand C B) → SameTree a b → SameTree b c → SameTree a c
tree_twice a b c one two = record {
  spine = two.spine ∙ one.spine;
  leaves = two.leaves ∙ one.leaves;
}

module _ {C B : Type 0} (cache_facts : C → DiskFacts) (backing_facts : B → DiskFacts) where
  abbrev seen : View cache_facts backing_facts → World
  seen v = world cache_facts backing_facts v

  -- what kept the set from being written, as the whole tells it
  pub not_changed : (sectors : ℕ) (h k : Hand C B) (plan : Plan)
      (v w : View cache_facts backing_facts) (x : BySetError)
      → HasNotPutSet cache_facts backing_facts sectors h k plan x v w
      → HasNotChangedBySet cache_facts backing_facts sectors h k plan x v w
  not_changed sectors h k plan v w (error.NotBegun why) it = it
  not_changed sectors h k plan v w (error.Set e) it = it
  not_changed sectors h k plan v w (error.Barrier e) it = it
  not_changed sectors h k plan v w (error.Install e) it = absurd it

  -- ---- a part was taken, and put into the hand

  module _ (p : PartsView (CorePart C B)) (t u v : View cache_facts backing_facts) (h k : Hand C B)
      (works : Works cache_facts backing_facts p t h) (same : SameTree h k)
      (first : Waited (m cache_facts backing_facts) t u)
      (second : Waited (m cache_facts backing_facts) u v) (seen_is : v.seen ≡ u.seen)
      (plan : Plan) where
    pub may_both : MayChangeBySet h (length p.run.start) t.first plan (seen t)
        → MayChangeBySet k (length p.run.start) v.first plan (seen v)
    may_both may =
        let holds = holds_tree cache_facts backing_facts p t h works may.spine may.is_spine in
        let live = works.seat.seat.live in
        let there = sym (same_world cache_facts backing_facts u v second seen_is) in
        may_as h k (length p.run.start) t.first v.first plan (seen t) (seen v) same may
        (ready_both cache_facts backing_facts p t u v h works may.spine may.is_spine first second
        seen_is plan may.ready)
        (subst (λ (x : World). FromEach x
        (λ o st. IsLayoutOf may.spine.spine.geometry o.opening.machine.layout)) there
        (fixed_waited cache_facts backing_facts t u holds live first
        (λ o. IsLayoutOf may.spine.spine.geometry o.opening.machine.layout) may.divided))
        (subst (λ (x : World). FromEach x
        (λ o st. All (PointsTo may.spine.spine.geometry o) may.put)) there
        (fixed_waited cache_facts backing_facts t u holds live first
        (λ o. All (PointsTo may.spine.spine.geometry o) may.put) may.points))
        (subst (λ (x : World). FromEach x (NamesThis may.spine.spine.root)) there
        (named_lasts cache_facts backing_facts t holds live may.spine.spine.root u first may.named))

  -- ---- taken before, and given back

  module _ (t u v w : View cache_facts backing_facts)
      (first : HasDone cache_facts backing_facts [] t u)
      (last : HasDone cache_facts backing_facts [] v w) (same : w.seen ≡ v.seen)
      (world_is : world cache_facts backing_facts w ≡ world cache_facts backing_facts v)
      (h e f k : Hand C B) (none : HasNoneBehindLeaves h)
      (taken : e ≡ record h { journal = e.journal; cache = e.cache })
      (gave : k ≡ record f { journal = None; cache = None }) (plan : Plan) where
    abbrev tree : SameTree h e
    tree = first_tree h e f k none taken gave

    then_on : (behind : List Deed) (slot : ℕ) (c : Change)
        → HasSetThen cache_facts backing_facts behind e (record f { cache = e.cache }) plan slot c
        u v → HasSetThen cache_facts backing_facts behind h k plan slot c t w
    then_on behind slot c it = record {
      spine = it.spine;
      is_spine = sym tree.spine ∙ it.is_spine;
      at = it.at;
      taker = it.taker;
      put = it.put;
      takes = it.takes;
      bytes = it.bytes;
      set = it.set;
      done = then_done cache_facts backing_facts
          (parent_by it.spine.spine.geometry it.taker it.put slot c it.bytes ∷ behind) t v w
          (done_both cache_facts backing_facts []
          (parent_by it.spine.spine.geometry it.taker it.put slot c it.bytes ∷ behind) t u v first
          it.done) last;
      now = it.now;
      well = it.well;
      more = it.more;
      is = back_with h e f k none taken gave (Some (record it.spine { spine = it.now })) it.is;
      fits = it.fits;
      knows = subst (λ (x : World). FromEach x
          (IsBySet t.first plan c slot (with_children it.put it.taker.children))) (sym world_is)
          (subst (λ n. FromEach (seen v)
          (IsBySet n plan c slot (with_children it.put it.taker.children))) first.same.first
          it.knows);
      named = subst (λ (x : World). FromEach x (NamesThis it.now.root)) (sym world_is) it.named;
    }

    put_on : (s : Installing)
        → HasPutSet cache_facts backing_facts e (record f { cache = e.cache }) plan s u v
        → HasPutSet cache_facts backing_facts h k plan s t w
    put_on s it = record {
      slot = it.slot;
      change = it.change;
      same = it.same;
      put = then_on (deed.CacheBarrier ∷ []) it.slot it.change it.put;
    }

    pub put_around : {E : Type 0} (r : Result Installing E) → IfOk r (λ s.
        HasPutSet cache_facts backing_facts e (record f { cache = e.cache }) plan s u v)
        → IfOk r (λ s. HasPutSet cache_facts backing_facts h k plan s t w)
    put_around (Ok s) it = put_on s it
    put_around (Err e) it = tt

    why_as : (sectors : ℕ) (why : NoSet) (j : Journal) → IsNoSet sectors e plan why j
        → IsNoSet sectors h plan why j
    why_as sectors no.Memory j is = tt
    why_as sectors no.Pending j is =
        λ p l spine leaves. is p l (tree.spine ∙ spine) (tree.leaves ∙ leaves)
    why_as sectors no.Outside j is = λ p spine. is p (tree.spine ∙ spine)

    lost_on : (slot : ℕ) (c : Change) → HasLostSet cache_facts backing_facts e plan slot c u v
        → HasLostSet cache_facts backing_facts h plan slot c t w
    lost_on slot c lost = record {
      spine = lost.spine;
      is_spine = sym tree.spine ∙ lost.is_spine;
      at = lost.at;
      taker = lost.taker;
      put = lost.put;
      takes = lost.takes;
      bytes = lost.bytes;
      set = lost.set;
      done = then_done cache_facts backing_facts
          (lost_by lost.spine.spine.geometry lost.taker lost.put slot c lost.bytes ∷ []) t v w
          (done_both cache_facts backing_facts []
          (lost_by lost.spine.spine.geometry lost.taker lost.put slot c lost.bytes ∷ []) t u v
          first lost.done) last;
    }

    refused_on : (sectors : ℕ) (x : BySetError)
        → HasNotPutSet cache_facts backing_facts sectors e (record f { cache = e.cache }) plan x u v
        → HasNotPutSet cache_facts backing_facts sectors h k plan x t w
    refused_on sectors (error.NotBegun why) it = let not_ = it.1 in (
      back_same h e f k none taken gave it.0,
      record {
        at = not_.at;
        journal = not_.journal;
        stood = record {
          before = twice_done cache_facts backing_facts t u not_.at first not_.stood.before;
          stands = not_.stood.stands;
        };
        why_is = why_as sectors why not_.journal not_.why_is;
        since = twice_done cache_facts backing_facts not_.at v w not_.since last;
      },
    )
    refused_on sectors (error.Set (step.Fault device)) it = let lost = it.1.1 in (
      back_same h e f k none taken gave it.0,
      (
        it.1.0,
        (
          lost.0,
          lost.1,
          lost_on lost.0 lost.1 lost.2,
        ),
      ),
    )
    refused_on sectors (error.Set (step.Halted device)) it = (
      back_same h e f k none taken gave it.0,
      (
        subst (λ (es : List Event). halt_of es ≡ Some device) (sym same) it.1.0,
        twice_done cache_facts backing_facts t v w
            (twice_done cache_facts backing_facts t u v first it.1.1) last,
      ),
    )
    refused_on sectors (error.Set step.Memory) it = absurd it.1
    refused_on sectors (error.Barrier (step.Fault device)) it = let set = it.1 in (
      it.0,
      (
        set.0,
        set.1,
        then_on (deed.DeviceFault (failure.Barrier Cache) ∷ []) set.0 set.1 set.2,
      ),
    )
    refused_on sectors (error.Barrier (step.Halted device)) it = let set = it.1 in (
      subst (λ (es : List Event). halt_of es ≡ Some device) (sym same) it.0,
      (
        set.0,
        set.1,
        then_on [] set.0 set.1 set.2,
      ),
    )
    refused_on sectors (error.Barrier step.Memory) it = absurd it
    refused_on sectors (error.Install x) it = absurd it

    pub refused_around : {A : Type 0} (sectors : ℕ) (r : Result A BySetError) → IfErr r (λ x.
        HasNotPutSet cache_facts backing_facts sectors e (record f { cache = e.cache }) plan x u v)
        → IfErr r (λ x. HasNotPutSet cache_facts backing_facts sectors h k plan x t w)
    refused_around sectors (Ok s) it = tt
    refused_around sectors (Err x) it = refused_on sectors x it

    -- ---- may be installed, and may be tried again

    back_tree : SameTree k f
    back_tree = let one = last_tree h e f k none taken gave in
        record { spine = sym one.spine; leaves = sym one.leaves }

    pub may_around : {E : Type 0} (n : ℕ) (r : Result Installing E)
        → IfOk r (λ s. IsToInstall f n v.first plan s (seen v))
        → IfOk r (λ s. IsToInstall k n w.first plan s (seen w))
    may_around n (Ok s) may =
        subst (λ i. IsToInstall k n i plan s (seen w)) (sym last.same.first)
        (subst (λ (x : World). IsToInstall k n v.first plan s x) (sym world_is)
        (install_as f k n v.first plan s (seen v) back_tree may))
    may_around n (Err x) may = tt

    again_hand : (n i : ℕ) (x : World) → MayChangeBySet f n i plan x
        → MayChangeBySet k n i plan x
    again_hand n i x may = may_as f k n i i plan x x (last_tree h e f k none taken gave) may
        may.ready may.divided may.points may.named

    again_on : (n : ℕ) (x : BySetError) → MayAgainSet x f n v.first plan (seen v)
        → MayAgainSet x k n w.first plan (seen w)
    again_on n (error.NotBegun why) may =
        subst (λ i. MayChangeBySet k n i plan (seen w)) (sym last.same.first)
        (subst (λ (x : World). MayChangeBySet k n v.first plan x) (sym world_is)
        (again_hand n v.first (seen v) may))
    again_on n (error.Set x) may = tt
    again_on n (error.Barrier x) may = tt
    again_on n (error.Install x) may = tt

    pub again_around : {A : Type 0} (n : ℕ) (r : Result A BySetError)
        → IfErr r (λ x. MayAgainSet x f n v.first plan (seen v))
        → IfErr r (λ x. MayAgainSet x k n w.first plan (seen w))
    again_around n (Ok a) may = tt
    again_around n (Err x) may = again_on n x may

    pub places_around : KeepsPlaces cache_facts backing_facts u v
        → KeepsPlaces cache_facts backing_facts t w
    places_around keeps = keeps_both cache_facts backing_facts t v w
        (keeps_both cache_facts backing_facts t u v
        (keeps_none cache_facts backing_facts t u first) keeps)
        (keeps_none cache_facts backing_facts v w last)
