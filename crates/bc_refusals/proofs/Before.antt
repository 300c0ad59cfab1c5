-- What a run is seen from, it was seen from before.
use Rattle.std.proofs.Common.{List, [], ◌∷◌, subst}
use Rattle.std.specs.Prelude.{fold}
use Rattle.bc_request.specs.bc_deed.Flushed.{HasDone}
use Rattle.bc_disk.specs.Disk.{DiskFacts}
use Rattle.bc_disk.specs.declared.geometry.Geometry.{Geometry}
use Rattle.bc_events.specs.declared.event.Deed.{Deed}
use Rattle.bc_events.specs.declared.event.Event.{Event}
use Rattle.bc_request.specs.bc_hand.Seats.{View, world}
use Rattle.bc_request.specs.bc_machine.Standing.{origin_before}
use Rattle.bc_request.specs.bc_machine.World.{IsCourseOf, IsOrigin, Origin, World, after, cache_among}
use Rattle.bc_request.specs.bc_machine.declared.part.CorePart.{CorePart}
use Rattle.bc_parts.specs.Seat.{Run}
use Rattle.bc_refusals.specs.Over.{IsOfDevice, IsOver}

before : (es : List Event) (x : World) (o : Origin) → IsOrigin (fold after x es) o
    → IsCourseOf o (fold after x es).log → IsOrigin x o × IsCourseOf o x.log
before [] x o is course = (is, course)
before (e ∷ es) x o is course =
    let h = before es (after x e) o is course in (origin_before x e o h.0, h.1.2)

module _ {C B : Type 0} (cache_facts : C → DiskFacts) (backing_facts : B → DiskFacts) where
  pub over_before : (o : Origin) (g : Geometry) (ds : List Deed)
      (v w : View cache_facts backing_facts) → HasDone cache_facts backing_facts ds v w
      → IsOver cache_facts backing_facts o g w → IsOver cache_facts backing_facts o g v
  over_before o g ds v w done over =
      let h = before done.all (world cache_facts backing_facts v) o
      (subst (λ (x : World). IsOrigin x o) done.is over.origin)
      (subst (λ (x : World). IsCourseOf o x.log) done.is over.course) in record {
        origin = h.0;
        course = h.1;
        device = subst (λ (r : Run (CorePart C B)). IsOfDevice o g
            (cache_among cache_facts backing_facts r.start).sectors) done.same.run over.device;
      }
