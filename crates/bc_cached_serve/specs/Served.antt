-- The lines of a trace, served in order in a run with a cache.
use Rattle.std.specs.Prelude.{◌≡◌, ℕ, suc, List, [], ◌∷◌, ◌++◌, length, map, Result, Ok, Err}
use Rattle.bc_disk.specs.Disk.{DiskFacts}
use Rattle.bc_events.specs.declared.event.Deed.{Deed}
use Rattle.bc_serve.specs.bc_hand.Seats.{View, by}
use Rattle.bc_serve.specs.bc_machine.declared.part.CorePart.{CorePart}
use Rattle.bc_parts.specs.Seat.{PartsView}
use Rattle.bc_script.specs.Served.{Served}
use Rattle.bc_script.specs.declared.answer.Answer.{Answer}
use Rattle.bc_script.specs.declared.line.Line.{Line}
use Rattle.bc_serve.specs.Causes.{entries_by}
use Rattle.bc_cached_serve.specs.Answered.{HasHalfServedLine, HasServedLine}
use Rattle.bc_cached_serve.specs.Deeds.{AreKeeping}
use Rattle.bc_cached_serve.specs.declared.unsound.Unsound.{Unsound}

module _ {C B : Type 0} (cache_facts : C → DiskFacts) (backing_facts : B → DiskFacts) where
  -- Line by line, each with its answer; the first of them has this number.
  abbrev pub AreAnswered : PartsView (CorePart C B) → (size number : ℕ) → List Line → List Answer
      → View cache_facts backing_facts → View cache_facts backing_facts → Type 0
  AreAnswered p size number [] [] v w = w ≡ v
  AreAnswered p size number (l ∷ ls) (a ∷ others) v w = (u : View cache_facts backing_facts)
      × HasServedLine cache_facts backing_facts p size number l a v u
      × AreAnswered p size (suc number) ls others u w
  AreAnswered p size number [] (a ∷ others) v w = ⊥
  AreAnswered p size number (l ∷ ls) [] v w = ⊥

  -- The seat of worker 1 has served the lines, changing no value, and nothing else happened.
  pub record HaveAnswered (p : PartsView (CorePart C B)) (size : ℕ) (lines : List Line)
      (answers : List Answer) (v w : View cache_facts backing_facts) : Type 0 where
    pub deeds : List Deed
    pub run : w.run ≡ v.run
    pub seen : w.seen ≡ v.seen ++ map (by 16) deeds
    pub keeping : AreKeeping deeds
    pub served : Served size lines answers (entries_by deeds)
    pub by_line : AreAnswered p size 1 lines answers v w

  -- It has served the lines before one of them, and of that the pieces before one that wasn't read.
  pub record HaveStopped (p : PartsView (CorePart C B)) (size : ℕ) (stop : Unsound)
      (lines : List Line) (answers : List Answer) (v w : View cache_facts backing_facts)
      : Type 0 where
    pub before : List Line
    pub refused : Line
    pub others : List Line
    pub lines_are : lines ≡ before ++ refused ∷ others
    pub number : stop.line ≡ suc (length before)
    pub at : View cache_facts backing_facts
    pub answered : HaveAnswered p size before answers v at
    pub stopped : HasHalfServedLine cache_facts backing_facts p size stop.line refused stop.why at
        w

  -- all of them were served, or those before one
  abbrev pub HaveServed : PartsView (CorePart C B) → (size : ℕ) → List Line → List Answer
      → Result (Unit {0}) Unsound → View cache_facts backing_facts
      → View cache_facts backing_facts → Type 0
  HaveServed p size lines answers (Ok u) v w = HaveAnswered p size lines answers v w
  HaveServed p size lines answers (Err stop) v w = HaveStopped p size stop lines answers v w
