-- When a seat may read a node of the cache device, and what it knows of what was read.
use Rattle.std.proofs.Common.{◌≡◌, inr, ℕ, Bool, true, false, List, Option, Some, None, refl, sym, ap, ◌∙◌, subst, if◌then◌else◌}
use Rattle.std.specs.Prelude.{fold, ◌&&◌}
use Rattle.bc_model.specs.Sector.{Image, Value}
use Rattle.bc_disk.specs.Device.{Among, Content}
use Rattle.bc_disk.specs.Disk.{Allows, DiskFacts, IfTold, IsKept, IsRead}
use Rattle.bc_disk.proofs.Stands.{CountsGood, read_stands}
use Rattle.bc_disk.specs.declared.disk.Device.TheVariants as device
use Rattle.bc_events.specs.Columns.{halt_of}
use Rattle.bc_events.specs.declared.event.Deed.{Deed}
use Rattle.bc_events.specs.declared.event.Deed.TheVariants as deed
use Rattle.bc_events.specs.declared.event.Event.{Event}
use Rattle.bc_events.specs.declared.event.Failure.TheVariants as failure
use Rattle.bc_sight.specs.bc_hand.Seats.{Did, IsCoreSeat, MayDo, by, world}
use Rattle.bc_sight.specs.bc_hand.declared.error.StepError.{StepError}
use Rattle.bc_sight.specs.bc_hand.declared.error.StepError.TheVariants as error
use Rattle.bc_sight.proofs.of_bc_hand.Between.{did_between}
use Rattle.bc_sight.proofs.of_bc_hand.Knowing.{View, framed, m}
use Rattle.bc_data.specs.Data as flow
use Rattle.bc_sight.proofs.of_bc_deed.May.{can_alone, low}
use Rattle.bc_sight.specs.bc_machine.Standing.{origin_before}
use Rattle.bc_sight.specs.bc_machine.World.{IsCache, World, after, model, opening}
use Rattle.bc_sight.specs.bc_machine.declared.part.CorePart.{CorePart}
use Rattle.bc_sight.specs.bc_machine.declared.part.CorePart.TheVariants as part
use Rattle.bc_parts.specs.Seat.{Holds, Run}
use Rattle.bc_record.specs.Sectors.{Has}
use Rattle.bc_seats.specs.Seats.{Since, Waited}
use Rattle.bc_seats.proofs.Knowing.{held, lasts}
use Rattle.bc_sight.specs.Asked.{HasFailedRead}
use Rattle.bc_sight.proofs.Held.{IsHeld, held_stays, run_held}
use Rattle.bc_fetch.specs.Fetch.{MayStandAt, MayStandIn, node_read}

and_left : (p q : Bool) → (p && q) ≡ true → p ≡ true
and_left true q is = refl
and_left false q is = absurd (cc)

-- what a device that tells holds is what reads of its model may give
held_told : (t : Bool) (c : Content) (holds : Option Image) (may : Image → Type 0) → t ≡ true
    → Allows (if t then Some c else None) holds may
    → (image : Image) × (holds ≡ Some image) × ((s : ℕ) → Among (image s) (c.reads s))
held_told false c holds may is allows = absurd (cc)
held_told true c None may is allows = absurd allows
held_told true c (Some image) may is allows = (image, refl, allows.0)

module _ {C B : Type 0} (cache_facts : C → DiskFacts) (backing_facts : B → DiskFacts) where
  pub may_read_node : (v : View cache_facts backing_facts)
      → IsCoreSeat cache_facts backing_facts v → v.heard ≡ None → (at : ℕ) (values : List Value)
      → MayDo cache_facts backing_facts v (deed.CacheRead at None values)
  may_read_node v seat unheard at values = λ x y at_ told. can_alone y v.first
      (deed.CacheRead at None values)
      (flow.Fail flow.ReadFault) (low cache_facts backing_facts v seat) refl refl
      (record { heard = inr (at_.late unheard); steps = tt; can = tt }) tt tt tt tt

  -- the cache device behind a commit that changed it
  committed_cache : (v w : View cache_facts backing_facts) (old new : C) (d : Deed)
      → IsCoreSeat cache_facts backing_facts v → Holds v.parts 4
      → IsCache {C = C} {B = B} cache_facts backing_facts old (world cache_facts backing_facts v)
      → Did cache_facts backing_facts (Some d) v w
      → ((x : World) → IsCache {C = C} {B = B} cache_facts backing_facts old x
      → IsCache {C = C} {B = B} cache_facts backing_facts new (after x (by v.first d)))
      → IsCache {C = C} {B = B} cache_facts backing_facts new (world cache_facts backing_facts w)
  committed_cache v w old new d seat holds on did step =
      subst (IsCache {C = C} {B = B} cache_facts backing_facts new) (sym did.is.state)
      (step did.is.before (held (m cache_facts backing_facts) (framed cache_facts backing_facts) v
      did.is.before 4 (part.Cache old) seat.seat did.is.since holds (refl, on)).1)

  pub node_read_stands : (v w : View cache_facts backing_facts) (old new : C) (at : ℕ)
      → IsCoreSeat cache_facts backing_facts v → Holds v.parts 4
      → IsCache {C = C} {B = B} cache_facts backing_facts old (world cache_facts backing_facts v)
      → Did cache_facts backing_facts (Some (node_read at)) v w
      → IsKept (cache_facts old) (cache_facts new) → CountsGood (cache_facts old) (cache_facts new)
      → IsCache {C = C} {B = B} cache_facts backing_facts new (world cache_facts backing_facts w)
  node_read_stands v w old new at seat holds on did kept counts =
      committed_cache v w old new (node_read at) seat holds on did (λ x h. record {
        stands = read_stands (cache_facts old) (cache_facts new) (model x.cache x.held) h.stands kept
            counts;
      })

  -- ---- what was read

  -- what the cache device holds to the core, at each state behind the seat's
  held_at : (v : View cache_facts backing_facts) (x : World) → Since (m cache_facts backing_facts) v x
      → IsHeld x
  held_at v x since = lasts (m cache_facts backing_facts) v x IsHeld
      (λ y e may h. held_stays y e h) since
      (run_held cache_facts backing_facts v.run.start v.seen)

  -- it stands in what the device holds, which the core may read
  module _ (v : View cache_facts backing_facts) (old : C) (at : ℕ) (values : List Value)
      (read : IsRead at values (cache_facts old)) where
    in_core : (x : World) → Since (m cache_facts backing_facts) v x
        → IsCache {C = C} {B = B} cache_facts backing_facts old x
        → MayStandIn x at values
    in_core x since on o is course =
        let one = held_told x.cache.told x.held (cache_facts old).holds (cache_facts old).may_leave
        (and_left x.cache.told x.backing.told is.told) on.stands.content in (
          one.0,
          λ s. subst (Among (one.0 s))
              (sym ((held_at v x since o is course).reads s)) (one.2 s),
          subst (λ (h : Option Image). IfTold h (λ image. Has image at values)) one.1 read,
        )

    -- behind the read it may read the same
    behind : (x : World) (i : ℕ) → MayStandIn x at values
        → MayStandIn (after x (by i (node_read at))) at values
    behind x i h = λ o is course.
        h o (origin_before x (by i (node_read at)) o is) course.2

    pub stand_at : (w : View cache_facts backing_facts) → IsCoreSeat cache_facts backing_facts v
        → Holds v.parts 4
        → IsCache {C = C} {B = B} cache_facts backing_facts old (world cache_facts backing_facts v)
        → Did cache_facts backing_facts (Some (node_read at)) v w
        → MayStandAt cache_facts backing_facts w at values
    stand_at w seat holds on did = subst (λ (x : World). MayStandIn x at values) (sym did.is.state)
        (behind did.is.before v.first (in_core did.is.before did.is.since
        (held (m cache_facts backing_facts) (framed cache_facts backing_facts) v
        did.is.before 4 (part.Cache old) seat.seat did.is.since holds (refl, on)).1))

  -- a seat that gave a part back has seen the same
  pub seen_world : (v w : View cache_facts backing_facts) → Waited (m cache_facts backing_facts) v w
      → w.seen ≡ v.seen → world cache_facts backing_facts w ≡ world cache_facts backing_facts v
  seen_world v w waited seen =
      ap (λ (es : List Event). fold after (opening cache_facts backing_facts w.run.start) es) seen
      ∙ ap (λ (r : Run (CorePart C B)). fold after (opening cache_facts backing_facts r.start) v.seen)
      waited.same.run

  -- and it stays so
  pub stand_seen : (v w : View cache_facts backing_facts) (at : ℕ) (values : List Value)
      → world cache_facts backing_facts w ≡ world cache_facts backing_facts v
      → MayStandAt cache_facts backing_facts v at values
      → MayStandAt cache_facts backing_facts w at values
  stand_seen v w at values same h = subst (λ (x : World). MayStandIn x at values) (sym same) h

  -- ---- a step between borrowing the device and returning it

  pub read_failed : (error : StepError) (u v w x : View cache_facts backing_facts)
      → ((k : ℕ) → Holds u.parts k → Holds v.parts k) → Waited (m cache_facts backing_facts) u v
      → HasFailedRead cache_facts backing_facts error v w → Waited (m cache_facts backing_facts) w x
      → x.seen ≡ w.seen → x.heard ≡ w.heard → IsCoreSeat cache_facts backing_facts x
      → HasFailedRead cache_facts backing_facts error u x
  read_failed (error.Fault which) u v w x still first h last seen heard seat = (
    h.0,
    did_between cache_facts backing_facts (Some (deed.DeviceFault (failure.Read device.Cache))) u v w
        x still first h.1 last seen heard seat,
  )
  read_failed (error.Halted which) u v w x still first h last seen heard seat = (
    ap halt_of seen ∙ h.0,
    did_between cache_facts backing_facts None u v w x still first h.1 last seen heard seat,
  )
  read_failed error.Memory u v w x still first h last seen heard seat = absurd h
