-- The step of a seat, whatever came of the call of the device.
use Rattle.std.proofs.Common.{◌≡◌, ℕ, ◌*◌, true, false, List, length, Some, None, refl, sym, ap, ◌∙◌, subst}
use Rattle.std.specs.Prelude.{Err, IfErr, Ok, OnErr, OnOk, Result, is_some}
use Rattle.bc_append.specs.bc_place.Written.{KeepsPlaces}
use Rattle.bc_change.specs.Ready.{IsTree}
use Rattle.bc_change.specs.bc_hand.Seats.{Did, MayDo, Works, by, kinds, world}
use Rattle.bc_change.specs.bc_hand.declared.error.StepError.{StepError}
use Rattle.bc_change.specs.bc_hand.declared.hand.Hand.{Hand}
use Rattle.bc_change.specs.bc_machine.World.{are_plain, changes}
use Rattle.bc_change.specs.bc_machine.declared.part.CorePart.{CorePart}
use Rattle.bc_change.specs.bc_machine.declared.part.SpinePart.{SpinePart}
use Rattle.bc_change.proofs.of_bc_hand.Knowing.{View, m}
use Rattle.bc_disk.specs.Disk.{DiskFacts, IsCounted, IsFailedWrite, IsWritten}
use Rattle.bc_disk.specs.declared.disk.Failed.{Failed}
use Rattle.bc_disk.specs.declared.geometry.Geometry.{Geometry}
use Rattle.bc_events.specs.declared.event.Change.{Change}
use Rattle.bc_events.specs.declared.event.Deed.{Deed}
use Rattle.bc_events.specs.declared.event.Deed.TheVariants as deed
use Rattle.bc_events.specs.declared.event.Failure.TheVariants as failure
use Rattle.bc_events.specs.declared.event.Written.{Written}
use Rattle.bc_events.specs.declared.event.Written.TheVariants as written
use Rattle.bc_inner.specs.Inner.{Inner}
use Rattle.bc_key.specs.Words.{ptr_word}
use Rattle.bc_key.specs.declared.key.Key.{Key}
use Rattle.bc_model.specs.Sector.{Value}
use Rattle.bc_node.specs.Writing.{HasSet, set_of}
use Rattle.bc_parts.specs.Seat.{Holds, PartsView}
use Rattle.bc_plan.specs.Parent.{HasMoreIn}
use Rattle.bc_seats.specs.Seats.{Kept}
use Rattle.bc_tree.specs.Plan.{Fits}
use Rattle.bc_tree.specs.Spine.{Spine}
use Rattle.bc_tree.specs.declared.plan.Plan.{Plan}
use Rattle.bc_parent_set.specs.Takes.{IsTaker}
use Rattle.bc_parent_set.specs.Write.{HasFailedParent, HasSentParent, HasWrittenParent, IsSentParent, MayWriteParent, answer_to, lost_by, parent_by, parent_place, parent_values, sent_by}
use Rattle.bc_parent_set.proofs.Seated.{holds_err, holds_ok, lost_err, may_err, may_ok, places_err, places_ok, works_err, works_ok, written_ok}
use Rattle.bc_parent_set.proofs.Taker.{same_taker}

-- ---- the hand

pub same_in : {X : Type 0} (o : _) (a b : X) → o ≡ Some a → o ≡ Some b → a ≡ b
same_in o a b x y = let both : Some a ≡ Some b = sym x ∙ y in cc

pub sent_in : {C B : Type 0} (facts : C → DiskFacts) (plan : Plan) (r : Result (Unit {0}) Failed)
    (place : ℕ) (values : List Value) (q p : SpinePart) (x d : C) (h : Hand C B) (now : Spine)
    (new : C) → q ≡ p → x ≡ d
    → IsSentParent plan r place values q.spine now (facts x) (facts new) → OnErr r (now ≡ q.spine)
    → Fits now plan → IsTree q.spine
    → HasSentParent facts plan r place values p d h
    (record h { spine = Some (record q { spine = now }); cache = Some new })
sent_in {C} {B} facts plan r place values q p x d h now new q_is x_is sent kept fits tree =
    subst (λ (s : SpinePart). HasSentParent facts plan r place values s d h
    (record h { spine = Some (record q { spine = now }); cache = Some new })) q_is
    (subst (λ (y : C). HasSentParent facts plan r place values q y h
    (record h { spine = Some (record q { spine = now }); cache = Some new })) x_is (record {
      now = now;
      device = new;
      sent = sent;
      kept = kept;
      fits = fits;
      tree = tree;
      is = refl;
    }))

-- ---- the call, of the node that is known to take the set

pub record IsSentOf (g : Geometry) (taker : Inner) (put : List Key)
    (r : Result (Unit {0}) Failed) (place : ℕ) (values : List Value) (old now : Spine)
    (before after : DiskFacts) : Type 0 where
  pub bytes : List ℕ
  pub set : HasSet g (ptr_word taker.ptr) (set_of taker.seq put) bytes
  pub whole : length bytes ≡ 512 * g.node_sectors
  pub place_is : place ≡ parent_place taker
  pub values_are : values ≡ parent_values g taker put bytes
  pub good : OnOk r (IsWritten (parent_place taker) (parent_values g taker put bytes) before after)
  pub failed : OnErr r
      (IsFailedWrite (parent_place taker) (parent_values g taker put bytes) before after)
  pub counted : IsCounted r before after
  pub more : HasMoreIn r taker put old now

pub sent_of : (plan : Plan) (r : Result (Unit {0}) Failed) (place : ℕ) (values : List Value)
    (old now : Spine) (before after : DiskFacts) (at : ℕ) (taker : Inner) (put : List Key)
    → IsTaker old plan at taker put
    → IsSentParent plan r place values old now before after
    → IsSentOf old.geometry taker put r place values old now before after
sent_of plan r place values old now before after at taker put take s =
    let one = same_taker old plan s.at at s.taker taker s.put put s.takes take in
    subst (λ (n : Inner). IsSentOf old.geometry n put r place values old now before after) one.0
    (subst (λ (ks : List Key). IsSentOf old.geometry s.taker ks r place values old now before after)
    one.1 (record {
      bytes = s.bytes;
      set = s.set;
      whole = s.whole;
      place_is = s.place_is;
      values_are = s.values_are;
      good = subst (λ k. OnOk r (IsWritten k (parent_values old.geometry s.taker s.put s.bytes)
          before after)) s.place_is
          (subst (λ (vs : List Value). OnOk r (IsWritten place vs before after)) s.values_are s.good);
      failed = subst (λ k. OnErr r
          (IsFailedWrite k (parent_values old.geometry s.taker s.put s.bytes) before after)) s.place_is
          (subst (λ (vs : List Value). OnErr r (IsFailedWrite place vs before after)) s.values_are
          s.failed);
      counted = s.counted;
      more = s.more;
    }))

-- ---- the step

module _ {C B : Type 0} (cache_facts : C → DiskFacts) (backing_facts : B → DiskFacts)
    (p : PartsView (CorePart C B)) (v : View cache_facts backing_facts) (h : Hand C B)
    (works : Works cache_facts backing_facts p v h)
    (cached : are_plain cache_facts backing_facts v.run.start ≡ false) (unheard : v.heard ≡ None)
    (plan : Plan) (slot : ℕ) (c : Change)
    (may : MayWriteParent h (length p.run.start) v.first plan slot c
    (world cache_facts backing_facts v)) (old : C) (cache_is : h.cache ≡ Some old)
    (r : Result (Unit {0}) Failed) (place : ℕ) (values : List Value) (h2 : Hand C B)
    (has : HasSentParent cache_facts plan r place values may.spine old h h2) where
  abbrev g : Geometry
  g = may.spine.spine.geometry

  abbrev sent : IsSentOf g may.taker may.put r place values may.spine.spine has.now
      (cache_facts old) (cache_facts has.device)
  sent = sent_of plan r place values may.spine.spine has.now (cache_facts old)
      (cache_facts has.device) may.at may.taker may.put may.takes has.sent

  abbrev what : Written
  what = written.Parent slot c

  deed_ok : (done : Unit {0}) → sent_by place what values (Ok done)
      ≡ parent_by g may.taker may.put slot c sent.bytes
  deed_ok done = ap (λ k. deed.CacheWrite k what values) sent.place_is
      ∙ ap (λ (vs : List Value). deed.CacheWrite (parent_place may.taker) what vs) sent.values_are

  deed_err : (lost : Failed) → sent_by place what values (Err lost)
      ≡ lost_by g may.taker may.put slot c sent.bytes
  deed_err lost = ap (λ k. deed.DeviceFault (failure.CacheWrite k what values)) sent.place_is
      ∙ ap (λ (vs : List Value).
      deed.DeviceFault (failure.CacheWrite (parent_place may.taker) what vs)) sent.values_are

  pub may_sent : MayDo cache_facts backing_facts v (sent_by place what values r)
  may_sent = go r
    where
      go : (x : Result (Unit {0}) Failed)
          → MayDo cache_facts backing_facts v (sent_by place what values x)
      go (Ok done) = subst (MayDo cache_facts backing_facts v) (sym (deed_ok done))
          (may_ok cache_facts backing_facts p v h works cached unheard plan slot c may has.tree old
          cache_is sent.bytes sent.set sent.whole)
      go (Err lost) = subst (MayDo cache_facts backing_facts v) (sym (deed_err lost))
          (may_err cache_facts backing_facts p v h works cached unheard plan slot c may has.tree old
          cache_is sent.bytes sent.set sent.whole)

  pub holds_sent : v.run ≡ p.run → (k : ℕ)
      → changes (length v.run.start) (by v.first (sent_by place what values r)) k ≡ true
      → Holds v.parts k
  holds_sent run = go r
    where
      go : (x : Result (Unit {0}) Failed) → (k : ℕ)
          → changes (length v.run.start) (by v.first (sent_by place what values x)) k ≡ true
          → Holds v.parts k
      go (Ok done) k on = holds_ok cache_facts backing_facts p v h works cached unheard plan slot c
          may has.tree old cache_is sent.bytes sent.set sent.whole run k
          (subst (λ (d : Deed). changes (length v.run.start) (by v.first d) k ≡ true)
          (deed_ok done) on)
      go (Err lost) k on = holds_err cache_facts backing_facts p v h works cached unheard plan slot c
          may has.tree old cache_is sent.bytes sent.set sent.whole run k
          (subst (λ (d : Deed). changes (length v.run.start) (by v.first d) k ≡ true)
          (deed_err lost) on)

  module _ (w : View cache_facts backing_facts)
      (did : Did cache_facts backing_facts (Some (sent_by place what values r)) v w)
      (kept : Kept (m cache_facts backing_facts) v w
      (changes (length v.run.start) (by v.first (sent_by place what values r))))
      (answer : Result (Unit {0}) StepError) (answer_is : answer ≡ answer_to r) where
    -- all that it comes to, by what came of the call
    pub record Comes (x : Result (Unit {0}) Failed) : Type 0 where
      pub works_now : Works cache_facts backing_facts p w h2
      pub wrote : OnOk (answer_to x) (HasWrittenParent cache_facts backing_facts plan slot c h h2 v w)
      pub not_wrote : IfErr (answer_to x)
          (λ e. HasFailedParent cache_facts backing_facts e plan slot c h h2 v w)
      pub places : KeepsPlaces cache_facts backing_facts v w

    comes_by : (x : Result (Unit {0}) Failed)
        → IsSentOf g may.taker may.put x place values may.spine.spine has.now
        (cache_facts old) (cache_facts has.device) → OnErr x (has.now ≡ may.spine.spine)
        → Did cache_facts backing_facts (Some (sent_by place what values x)) v w
        → Kept (m cache_facts backing_facts) v w
        (changes (length v.run.start) (by v.first (sent_by place what values x))) → Comes x
    comes_by (Ok done) s same d k =
        let deed_is = ap (λ k. deed.CacheWrite k what values) s.place_is
        ∙ ap (λ (vs : List Value). deed.CacheWrite (parent_place may.taker) what vs) s.values_are in
        let d2 = subst (λ (y : Deed). Did cache_facts backing_facts (Some y) v w) deed_is d in
        let k2 = subst (λ (y : Deed). Kept (m cache_facts backing_facts) v w
        (changes (length v.run.start) (by v.first y))) deed_is k in record {
          works_now = subst (Works cache_facts backing_facts p w) (sym has.is)
              (works_ok cache_facts backing_facts p v h works cached unheard plan slot c may has.tree
              old cache_is s.bytes s.set s.whole w has.device d2 k2 s.good done s.counted has.now
              s.more);
          wrote = written_ok cache_facts backing_facts p v h works cached unheard plan slot c may
              has.tree old cache_is s.bytes s.set s.whole w has.device d2 k2 s.good done s.counted
              has.now s.more h2 has.is has.fits;
          not_wrote = tt;
          places = places_ok cache_facts backing_facts p v h works cached unheard plan slot c may
              has.tree old cache_is s.bytes s.set s.whole w has.device d2 k2 s.good done s.counted
              has.now s.more;
        }
    comes_by (Err lost) s same d k =
        let deed_is = ap (λ k. deed.DeviceFault (failure.CacheWrite k what values)) s.place_is
        ∙ ap (λ (vs : List Value).
        deed.DeviceFault (failure.CacheWrite (parent_place may.taker) what vs)) s.values_are in
        let d2 = subst (λ (y : Deed). Did cache_facts backing_facts (Some y) v w) deed_is d in
        let k2 = subst (λ (y : Deed). Kept (m cache_facts backing_facts) v w
        (changes (length v.run.start) (by v.first y))) deed_is k in
        let is = has.is ∙ ap (λ (n : Spine).
        record h { spine = Some (record may.spine { spine = n }); cache = Some has.device }) same in
        record {
          works_now = subst (Works cache_facts backing_facts p w) (sym is)
              (works_err cache_facts backing_facts p v h works cached unheard plan slot c may has.tree
              old cache_is s.bytes s.set s.whole w has.device d2 k2 s.failed lost s.counted);
          wrote = tt;
          not_wrote = (
            refl,
            lost_err cache_facts backing_facts p v h works cached unheard plan slot c may has.tree
                old cache_is s.bytes s.set s.whole w has.device d2 k2 s.failed lost s.counted h2 is,
          );
          places = places_err cache_facts backing_facts p v h works cached unheard plan slot c may
              has.tree old cache_is s.bytes s.set s.whole w has.device d2 k2 s.failed lost s.counted;
        }

    comes : Comes r
    comes = comes_by r sent has.kept did kept

    pub works_now : Works cache_facts backing_facts p w h2
    works_now = comes.works_now

    pub wrote_now : OnOk answer (HasWrittenParent cache_facts backing_facts plan slot c h h2 v w)
    wrote_now = subst (λ x. OnOk x (HasWrittenParent cache_facts backing_facts plan slot c h h2 v w))
        (sym answer_is) comes.wrote

    pub failed_now : IfErr answer
        (λ e. HasFailedParent cache_facts backing_facts e plan slot c h h2 v w)
    failed_now = subst (λ x. IfErr x
        (λ e. HasFailedParent cache_facts backing_facts e plan slot c h h2 v w)) (sym answer_is)
        comes.not_wrote

    pub places_now : KeepsPlaces cache_facts backing_facts v w
    places_now = comes.places

    pub kinds_now : kinds h2 ≡ kinds h
    kinds_now = ap (λ (x : Hand C B). kinds x) has.is
        ∙ ap (λ t. record (kinds h) { spine = t; cache = true })
        (sym (ap is_some may.is_spine))
        ∙ ap (λ t. record (kinds h) { cache = t }) (sym (ap is_some cache_is))
