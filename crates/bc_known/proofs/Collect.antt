-- A run of what seats know is some steps of the books, so that collection is complete in it.
use Rattle.std.proofs.Common.{◌≡◌, ℕ, List, [], ◌∷◌, ◌++◌, refl, sym, ap, ◌∙◌, subst}
use Rattle.bc_books.specs.Books.{Setup, Books, Step, Begin, End}
use Rattle.bc_books.specs.Books as book
use Rattle.bc_books.specs.After as book_step
use Rattle.bc_books.proofs.Opening.{fold_on}
use Rattle.bc_books.proofs.Small.{run_both}
use Rattle.bc_books.specs.Enabled.{CanRaise}
use Rattle.bc_collect.specs.Collect.{AllQuiet, IsCollected, CouldBeHad}
use Rattle.bc_collect.specs.Collect as collect
use Rattle.bc_collect.proofs.Collect as collect_law
use Rattle.bc_data.specs.Data as flow
use Rattle.bc_data.specs.Enabled.{steps_of}
use Rattle.bc_data.specs.After.{IsCourse, course}
use Rattle.bc_data.specs.After as flow_step
use Rattle.bc_whole.specs.State.{Opening}
use Rattle.bc_whole.specs.Run.{by}
use Rattle.bc_known.specs.Acts.{State, Act, Alone, Keyed, WriteCache, FailCache, CacheBarrier, Seal, MakeDurable, BeginBucket, Take, LetGo, ReadyChain, BeginChange, Install, ForgetDrafts, Event, after}
use Rattle.bc_known.specs.Run.{data_of, IsRun, run, start}
use Rattle.bc_known.specs.Collect.{flow_steps, all_steps, begins, ends, with_round, LawCollect, LawHad}

-- a run of the books, and where it ends
record Goes (w : Setup) (k : Books) (xs : List Step) (end : Books) : Type 0 where
  runs : book_step.IsRun w k xs
  at : end ≡ book_step.fold w k xs

joined : (w : Setup) (k mid end : Books) (xs ys : List Step) → Goes w k xs mid → Goes w mid ys end
    → Goes w k (xs ++ ys) end
joined w k mid end xs ys a b = record {
  runs = run_both w k xs ys a.runs (subst (λ x. book_step.IsRun w x ys) a.at b.runs);
  at = b.at ∙ ap (λ x. book_step.fold w x ys) a.at ∙ sym (fold_on w k xs ys);
}

flow_goes : (w : flow.Opening) (f : flow.State) (es : List flow.Event) → IsCourse w f es
    → Goes w.books f.books (flow_steps w f es) (course w f es).books
flow_goes w f [] on = record { runs = tt; at = refl }
flow_goes w f (e ∷ es) on =
    joined w.books f.books (flow_step.after w f e.seat e.act).books (course w f (e ∷ es)).books
    (steps_of f.candidates e.seat e.act)
    (flow_steps w (flow_step.after w f e.seat e.act) es)
    (record { runs = on.0.steps; at = refl })
    (flow_goes w (flow_step.after w f e.seat e.act) es on.1)

-- the data goes on by what the act is to it
flow_is : (w : Opening) (st : State) (seat : ℕ) (act : Act) → (after w st seat act).whole.flow
    ≡ course w.flow st.whole.flow (by seat (data_of w st seat act))
flow_is w st seat (Alone act) = refl
flow_is w st seat (Keyed act slot keys) = refl
flow_is w st seat (WriteCache x values) = refl
flow_is w st seat (FailCache x values) = refl
flow_is w st seat CacheBarrier = refl
flow_is w st seat (Seal last_seq rest root chain) = refl
flow_is w st seat MakeDurable = refl
flow_is w st seat (BeginBucket b) = refl
flow_is w st seat (Take p b) = refl
flow_is w st seat (LetGo b room) = refl
flow_is w st seat (ReadyChain room) = refl
flow_is w st seat (BeginChange low high gone come old new un) = refl
flow_is w st seat (Install un steps) = refl
flow_is w st seat ForgetDrafts = refl

all_goes : (w : Opening) (st : State) (es : List Event) → IsRun w st es
    → Goes w.flow.books st.whole.flow.books (all_steps w st es) (run w st es).whole.flow.books
all_goes w st [] on = record { runs = tt; at = refl }
all_goes w st (e ∷ es) on =
    let acts = by e.seat (data_of w st e.seat e.act) in
    let one = flow_goes w.flow st.whole.flow acts on.0.data_allows in
    joined w.flow.books st.whole.flow.books (after w st e.seat e.act).whole.flow.books
    (run w st (e ∷ es)).whole.flow.books
    (flow_steps w.flow st.whole.flow acts) (all_steps w (after w st e.seat e.act) es)
    (record {
      runs = one.runs;
      at = ap (λ (f : flow.State). f.books) (flow_is w st e.seat e.act) ∙ one.at;
    })
    (all_goes w (after w st e.seat e.act) es on.1)

-- ---- runs one behind the other

steps_join : (w : Opening) (st : State) (xs ys : List Event)
    → all_steps w st (xs ++ ys) ≡ all_steps w st xs ++ all_steps w (run w st xs) ys
steps_join w st [] ys = refl
steps_join w st (e ∷ es) ys =
    let acts = flow_steps w.flow st.whole.flow (by e.seat (data_of w st e.seat e.act)) in
    ap (λ l. acts ++ l) (steps_join w (after w st e.seat e.act) es ys)
    ∙ append_same acts (all_steps w (after w st e.seat e.act) es)
    (all_steps w (run w (after w st e.seat e.act) es) ys)
  where
    append_same : (a b c : List Step) → a ++ (b ++ c) ≡ (a ++ b) ++ c
    append_same [] b c = refl
    append_same (x ∷ a) b c = ap (λ l. x ∷ l) (append_same a b c)

run_join : (w : Opening) (st : State) (xs ys : List Event)
    → run w st (xs ++ ys) ≡ run w (run w st xs) ys
run_join w st [] ys = refl
run_join w st (e ∷ es) ys = run_join w (after w st e.seat e.act) es ys

is_run_first : (w : Opening) (st : State) (xs ys : List Event) → IsRun w st (xs ++ ys)
    → IsRun w st xs
is_run_first w st [] ys on = tt
is_run_first w st (e ∷ es) ys on =
    (on.0, is_run_first w (after w st e.seat e.act) es ys on.1)

-- the steps of a run with a round
module _ (w : Opening) (st : State) (seat : ℕ) (before inside later : List Event) where
  abbrev begun : State
  begun = run w st (before ++ (begins seat ∷ []))

  abbrev ended : State
  ended = run w st (before ++ (begins seat ∷ (inside ++ (ends seat ∷ []))))

  begun_is : begun ≡ run w (run w st before) (begins seat ∷ [])
  begun_is = run_join w st before (begins seat ∷ [])

  ended_is : ended ≡ run w (run w begun inside) (ends seat ∷ [])
  ended_is = run_join w st before (begins seat ∷ (inside ++ (ends seat ∷ [])))
      ∙ run_join w (run w (run w st before) (begins seat ∷ [])) inside (ends seat ∷ [])
      ∙ ap (λ (y : State). run w (run w y inside) (ends seat ∷ [])) (sym begun_is)

  round_steps : all_steps w st (with_round seat before inside later)
      ≡ collect.with_round (all_steps w st before) (all_steps w begun inside)
      (all_steps w ended later)
  round_steps = steps_join w st before (begins seat ∷ (inside ++ (ends seat ∷ later)))
      ∙ ap (λ l. all_steps w st before ++ (Begin ∷ l))
      (steps_join w (run w (run w st before) (begins seat ∷ [])) inside (ends seat ∷ later)
      ∙ ap (λ (y : State). all_steps w y inside
      ++ (End ∷ all_steps w (run w (run w y inside) (ends seat ∷ [])) later)) (sym begun_is)
      ∙ ap (λ (y : State). all_steps w begun inside ++ (End ∷ all_steps w y later))
      (sym ended_is))

pub law_collect : LawCollect
law_collect w x next_seq seat before inside later sound on quiet still =
    let st = start w x next_seq in
    let g = all_goes w st (with_round seat before inside later) on in
    let is = round_steps w st seat before inside later in
    subst (λ (k : Books). IsCollected w.flow.books k) (sym (g.at
    ∙ ap (λ l. book_step.fold w.flow.books (book.opened w.flow.books) l) is))
    (collect_law.law_collect w.flow.books (all_steps w st before)
    (all_steps w (begun w st seat before inside later) inside)
    (all_steps w (ended w st seat before inside later) later) sound.whole.pair.books
    (subst (λ l. book_step.IsRun w.flow.books (book.opened w.flow.books) l) is g.runs) quiet
    still)

pub law_had : LawHad
law_had w x next_seq seat before inside b sound on had =
    let st = start w x next_seq in
    let g = all_goes w st (with_round seat before inside []) on in
    let first = all_goes w st before
    (is_run_first w st before (begins seat ∷ (inside ++ (ends seat ∷ []))) on) in
    let is = round_steps w st seat before inside [] in
    subst (λ (k : Books). CanRaise w.flow.books k b) (sym (g.at
    ∙ ap (λ l. book_step.fold w.flow.books (book.opened w.flow.books) l) is))
    (collect_law.law_had w.flow.books (all_steps w st before)
    (all_steps w (begun w st seat before inside []) inside) b sound.whole.pair.books
    (subst (λ l. book_step.IsRun w.flow.books (book.opened w.flow.books) l) is g.runs)
    (subst (λ (k : Books). CouldBeHad w.flow.books k
    (all_steps w (begun w st seat before inside []) inside) b) first.at had))
