-- Each event is some steps of the books.
use Rattle.std.proofs.Common.{List, [], ◌∷◌, ◌++◌, refl, sym, ap, ◌∙◌, subst}
use Rattle.bc_books.specs.Books.{Books, Step}
use Rattle.bc_books.specs.Books as openings
use Rattle.bc_books.specs.After as books
use Rattle.bc_books.proofs.Opening.{fold_on}
use Rattle.bc_books.proofs.Small.{run_both}
use Rattle.bc_data.specs.Data.{Opening, State, Event, start}
use Rattle.bc_data.specs.Enabled.{steps_of}
use Rattle.bc_data.specs.After.{after, IsCourse, course}
use Rattle.bc_data.specs.Laws.{HasBooks, LawBooks}

steps_on : (w : Opening) (st : State) (es : List Event) → IsCourse w st es → HasBooks w st
    → HasBooks w (course w st es)
steps_on w st [] run has = has
steps_on w st (e ∷ es) run has =
    let k : Books = openings.opened w.books in
    let more : List Step = steps_of st.candidates e.seat e.act in
    steps_on w (after w st e.seat e.act) es run.1 (record {
      list = has.list ++ more;
      run = run_both w.books k has.list more has.run
          (subst (λ x. books.IsRun w.books x more) has.same run.0.steps);
      same = ap (λ (x : Books). books.fold w.books x more) has.same ∙ sym
          (fold_on w.books k has.list more);
    })

pub law_books : LawBooks
law_books w es pair run = steps_on w (start w) es run (record { list = []; run = tt; same = refl })
