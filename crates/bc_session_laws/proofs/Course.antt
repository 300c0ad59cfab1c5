-- A run's events, seen from an opening of the core.
use Rattle.std.proofs.Common.{◌≡◌, List, [], ◌∷◌, ◌++◌, refl, ◌∙◌, append_assoc}
use Rattle.std.specs.Prelude.{fold}
use Rattle.bc_disk.specs.Disk.{DiskFacts}
use Rattle.bc_events.specs.declared.event.Event.{Event}
use Rattle.bc_plain_laws.proofs.of_bc_hand.Knowing.{m}
use Rattle.bc_recoverable.specs.bc_machine.Standing.{oldest_first, origin_before, told_event}
use Rattle.bc_recoverable.specs.bc_machine.World.{IsCourseOf, IsOrigin, Origin, World, after}
use Rattle.bc_parts.specs.Machine.{IsRun}
use Rattle.bc_session.specs.bc_started.Laws.{AreUntorn}

-- ---- whose opening it is

origin_after : (x : World) (e : Event) (o : Origin) → IsOrigin x o → IsOrigin (after x e) o
origin_after x e o h = record {
  with_cache = h.with_cache;
  told = told_event x e ∙ h.told;
  cached = h.cached;
  size = h.size;
  worker = h.worker;
  cache = h.cache;
  backing = h.backing;
  sound = h.sound;
  slots = h.slots;
  order = h.order;
  ends = h.ends;
  calm = h.calm;
  begun = h.begun;
}

pub origin_behind : (x : World) (es : List Event) (o : Origin) → IsOrigin x o
    → IsOrigin (fold after x es) o
origin_behind x [] o h = h
origin_behind x (e ∷ es) o h = origin_behind (after x e) es o (origin_after x e o h)

pub origin_ahead : (x : World) (es : List Event) (o : Origin) → IsOrigin (fold after x es) o
    → IsOrigin x o
origin_ahead x [] o h = h
origin_ahead x (e ∷ es) o h = origin_before x e o (origin_ahead (after x e) es o h)

-- ---- its course

untorn_before : (x : World) (es : List Event) (o : Origin) → AreUntorn o (fold after x es).log
    → AreUntorn o x.log
untorn_before x [] o h = h
untorn_before x (e ∷ es) o h = (untorn_before (after x e) es o h).1

-- each event was admitted, so it follows from there
pub course_behind : {C B : Type 0} (cache_facts : C → DiskFacts) (backing_facts : B → DiskFacts)
    (x : World) (es : List Event) (o : Origin)
    → IsRun (m {C = C} {B = B} cache_facts backing_facts) x es → IsOrigin x o
    → IsCourseOf o x.log → AreUntorn o (fold after x es).log → IsCourseOf o (fold after x es).log
course_behind cache_facts backing_facts x [] o run is course untorn = course
course_behind {C} {B} cache_facts backing_facts x (e ∷ es) o run is course untorn =
    let here = untorn_before (after x e) es o untorn in
    course_behind {C = C} {B = B} cache_facts backing_facts (after x e) es o run.1
    (origin_after x e o is) (run.0.follows o is course, here.0, course) untorn

-- of one that had none before it
pub untorn_first : (x : World) (es : List Event) (o : Origin) → x.log ≡ []
    → AreUntorn o (fold after x es).log → AreUntorn o x.log
untorn_first x es o none h = untorn_before x es o h

-- ---- the list itself

pub oldest_log : (x : World) (es : List Event)
    → oldest_first (fold after x es).log ≡ oldest_first x.log ++ es
oldest_log x [] = none (oldest_first x.log)
  where
    none : (l : List Event) → l ≡ l ++ []
    none [] = refl
    none (e ∷ l) = λ i. e ∷ none l i
oldest_log x (e ∷ es) = oldest_log (after x e) es
    ∙ append_assoc (oldest_first x.log) (e ∷ []) es
