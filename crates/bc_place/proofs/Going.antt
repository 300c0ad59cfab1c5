-- What goes on to hold of a place.
use Rattle.std.proofs.Common.{◌≡◌, ℕ, ◌%◌, Some, sym, ap, ◌∙◌, subst, arith}
use Rattle.std.specs.Prelude.{Option, IfSome}
use Rattle.bc_books.specs.Shelves.{Own}
use Rattle.bc_events.specs.Run as core
use Rattle.bc_events.specs.declared.event.Event.{Event}
use Rattle.bc_fill.specs.Fresh.{IsOf}
use Rattle.bc_holds.proofs.Law.{law_pinned}
use Rattle.bc_holds.specs.Laws.{StaysPinned}
use Rattle.bc_journal.specs.Journal.{Journal}
use Rattle.bc_deed.specs.bc_machine.Containers.{IsJournalOf}
use Rattle.bc_deed.specs.bc_machine.Standing.{oldest_first, origin_before, replay_is, replay_runs}
use Rattle.bc_deed.specs.bc_machine.World.{IsCourseOf, IsOrigin, Origin, World, replay}
use Rattle.bc_shares.specs.Laws.{Happens}
use Rattle.bc_shares.specs.Shares.{books_of, journal_share}
use Rattle.bc_place.specs.Laws.{LawBefore, LawOwn}

pub happens : (x : World) (o : Origin) (e : Event) → IsOrigin x o → IsCourseOf o x.log
    → core.IsEnabled o.opening (replay o x.log) e
    → Happens o.opening o.parts o.next_seq (oldest_first x.log) e
happens x o e is course on = record {
  sound = is.sound;
  course = replay_runs o x.log course;
  enabled = subst (λ st. core.IsEnabled o.opening st e) (replay_is o x.log) on;
}

pub law_own : LawOwn
law_own x e i p ne h o is course =
    let before = origin_before x e o is in
    let was = h o before course.2 in
    let stays : (t : ℕ) → IsOf p t → StaysPinned i o.opening (books_of (replay o x.log).machine)
    (books_of (core.after o.opening (replay o x.log) e).machine) t
    = λ t of. subst (λ (st : core.State). (books_of st.machine).owner t ≡ Own i
    → StaysPinned i o.opening (books_of st.machine) (books_of (core.after o.opening st e).machine) t)
    (sym (replay_is o x.log))
    (law_pinned o.opening o.parts o.next_seq (oldest_first x.log) e
    (happens x o e before course.2 course.0.enabled) i ne t) (was.own t of) in
    record {
      some = was.some;
      own = λ t of. (stays t of).owner;
      bucket = was.bucket;
      lies = was.lies;
      generation = was.generation ∙ ap (λ n. n % 256) (sym (stays p.ptr.offset
          (omega arith, let some = was.some in omega (arith, some))).version);
    }

pub law_before : LawBefore
law_before x j at o is course = go x.begun.journal at is.begun.journal
  where
    go : (b : Option Journal) → b ≡ Some j → IfSome b (IsJournalOf o.opening.machine
        (journal_share (core.start o.opening o.parts o.next_seq).machine))
        → o.opening.machine.before ≡ j.ring.geometry.first_bucket
    go b at h = (subst (λ b. IfSome b (IsJournalOf o.opening.machine
        (journal_share (core.start o.opening o.parts o.next_seq).machine))) at h).ring.before
