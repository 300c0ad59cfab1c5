-- A run that was started over a sound pair is seen from a sound opening.
use Rattle.std.proofs.Common.{◌<◌, List, [], ◌∷◌, refl, sym, ◌∙◌, subst, arith}
use Rattle.std.specs.Prelude.{fold, length}
use Rattle.bc_cached.specs.Begun.{HasBegun}
use Rattle.bc_cached.proofs.Beginning.{newcomer_works}
use Rattle.bc_cached.proofs.Seen.{law_seen}
use Rattle.bc_disk.specs.Disk.{DiskFacts}
use Rattle.bc_events.specs.declared.event.Event.{Event}
use Rattle.bc_entry.proofs.of_bc_hand.Knowing.{m}
use Rattle.bc_entry.specs.bc_machine.Standing.{told_event}
use Rattle.bc_entry.specs.bc_machine.World.{IsCourseOf, IsOrigin, Origin, World, after, opening}
use Rattle.bc_entry.specs.bc_machine.declared.part.CorePart.{CorePart}
use Rattle.bc_parts.specs.Machine.{IsRun}
use Rattle.bc_parts.specs.Seat.{Run, newcomer}
use Rattle.bc_started.specs.Laws.{AreUntorn, LawStarted}

origin_after : (x : World) (e : Event) (o : Origin) → IsOrigin x o → IsOrigin (after x e) o
origin_after x e o h = record {
  with_cache = h.with_cache;
  told = told_event x e ∙ h.told;
  cached = h.cached;
  size = h.size;
  worker = h.worker;
  cache = h.cache;
  backing = h.backing;
  sound = h.sound;
  slots = h.slots;
  order = h.order;
  ends = h.ends;
  calm = h.calm;
  begun = h.begun;
}

origin_behind : (x : World) (es : List Event) (o : Origin) → IsOrigin x o
    → IsOrigin (fold after x es) o
origin_behind x [] o h = h
origin_behind x (e ∷ es) o h = origin_behind (after x e) es o (origin_after x e o h)

-- what a state before it needs, a later one needs too
untorn_before : (x : World) (es : List Event) (o : Origin) → AreUntorn o (fold after x es).log
    → AreUntorn o x.log
untorn_before x [] o h = h
untorn_before x (e ∷ es) o h = (untorn_before (after x e) es o h).1

module _ {C B : Type 0} (cache_facts : C → DiskFacts) (backing_facts : B → DiskFacts) where
  -- each event was admitted, so it follows from there
  course_behind : (x : World) (es : List Event) (o : Origin)
      → IsRun (m {C = C} {B = B} cache_facts backing_facts) x es → IsOrigin x o
      → IsCourseOf o x.log → AreUntorn o (fold after x es).log
      → IsCourseOf o (fold after x es).log
  course_behind x [] o run is course untorn = course
  course_behind x (e ∷ es) o run is course untorn =
      let here = untorn_before (after x e) es o untorn in
      course_behind (after x e) es o run.1 (origin_after x e o is)
      (run.0.follows o is course, here.0, course) untorn

  pub law_started : LawStarted {C = C} {B = B} cache_facts backing_facts
  law_started p v layout read pending count was ready parts seat h view sound divided
      of on =
      let many : 5 < length parts.run.start =
      subst (λ (ps : List (CorePart C B)). 5 < length ps) (sym h.start) (omega arith) in
      let begun : HasBegun cache_facts backing_facts ready parts (newcomer parts) = record {
        beginning = h.beginning;
        made = h.made;
        start = h.start;
        seats = h.seats;
        first = refl;
        end = h.seats;
        seen = refl;
        promises = refl;
        works = newcomer_works cache_facts backing_facts parts h.seats many;
      } in
      let one = law_seen cache_facts backing_facts p v layout read pending count was ready
      parts (newcomer parts) begun view sound divided of on in
      let o = one.0 in
      let first : World = opening cache_facts backing_facts seat.run.start in
      let run : IsOrigin first o = subst (λ (r : Run (CorePart C B)).
      IsOrigin (opening cache_facts backing_facts r.start) o) (sym h.works.run) one.1.origin in (
        o,
        record {
          opened = one.1.opened;
          seq = one.1.seq;
          origin = origin_behind first seat.seen o run;
          seen = λ untorn. record {
            is = refl;
            origin = origin_behind first seat.seen o run;
            course = course_behind first seat.seen o h.works.seat.seat.run run
                (untorn_before first seat.seen o untorn) untorn;
          };
        },
      )
