-- Rounds of events are rounds of the machine.
use Rattle.std.proofs.Common.{◌≡◌, ℕ, List, [], ◌∷◌, ◌++◌, refl, sym, ap, ◌∙◌, subst}
use Rattle.bc_books.specs.Enabled.{CanRaise}
use Rattle.bc_collect.specs.Collect.{AllQuiet, IsCollected, CouldBeHad}
use Rattle.bc_leaves.specs.Parts as parts
use Rattle.bc_known.specs.Acts as known
use Rattle.bc_known.specs.Run as machine
use Rattle.bc_known.specs.Collect as known_collect
use Rattle.bc_known.proofs.Collect as known_law
use Rattle.bc_events.specs.Run.{Opening, State, start, by, acts, after, IsRun, run, machine_events}
use Rattle.bc_events.specs.Collect.{begins, ends, with_round, LawCollect, LawHad}
use Rattle.bc_events.specs.declared.event.Event.{Event}
use Rattle.bc_events.proofs.Machine.{law_machine}

append_same : {A : Type 0} (a b c : List A) → (a ++ b) ++ c ≡ a ++ (b ++ c)
append_same [] b c = refl
append_same (x ∷ a) b c = ap (λ l. x ∷ l) (append_same a b c)

run_join : (w : Opening) (st : State) (xs ys : List Event)
    → run w st (xs ++ ys) ≡ run w (run w st xs) ys
run_join w st [] ys = refl
run_join w st (e ∷ es) ys = run_join w (after w st e) es ys

events_join : (w : Opening) (st : State) (xs ys : List Event) → machine_events w st (xs ++ ys)
    ≡ machine_events w st xs ++ machine_events w (run w st xs) ys
events_join w st [] ys = refl
events_join w st (e ∷ es) ys = let these = by e.seat (acts w st e) in
    ap (λ l. these ++ l) (events_join w (after w st e) es ys)
    ∙ sym (append_same these (machine_events w (after w st e) es)
    (machine_events w (run w (after w st e) es) ys))

is_run_first : (w : Opening) (st : State) (xs ys : List Event) → IsRun w st (xs ++ ys)
    → IsRun w st xs
is_run_first w st [] ys on = tt
is_run_first w st (e ∷ es) ys on = (on.0, is_run_first w (after w st e) es ys on.1)

module _ (w : Opening) (st : State) (seat : ℕ) (before inside later : List Event) where
  abbrev begun : State
  begun = run w st (before ++ (begins seat ∷ []))

  abbrev ended : State
  ended = run w st (before ++ (begins seat ∷ (inside ++ (ends seat ∷ []))))

  begun_is : begun ≡ run w (run w st before) (begins seat ∷ [])
  begun_is = run_join w st before (begins seat ∷ [])

  ended_is : ended ≡ run w (run w begun inside) (ends seat ∷ [])
  ended_is = run_join w st before (begins seat ∷ (inside ++ (ends seat ∷ [])))
      ∙ run_join w (run w (run w st before) (begins seat ∷ [])) inside (ends seat ∷ [])
      ∙ ap (λ (y : State). run w (run w y inside) (ends seat ∷ [])) (sym begun_is)

  round_is : machine_events w st (with_round seat before inside later)
      ≡ known_collect.with_round seat (machine_events w st before) (machine_events w begun inside)
      (machine_events w ended later)
  round_is = events_join w st before (begins seat ∷ (inside ++ (ends seat ∷ later)))
      ∙ ap (λ l. machine_events w st before ++ (known_collect.begins seat ∷ l))
      (events_join w (run w (run w st before) (begins seat ∷ [])) inside (ends seat ∷ later)
      ∙ ap (λ (y : State). machine_events w y inside ++ (known_collect.ends seat
      ∷ machine_events w (run w (run w y inside) (ends seat ∷ [])) later)) (sym begun_is)
      ∙ ap (λ (y : State). machine_events w begun inside
      ++ (known_collect.ends seat ∷ machine_events w y later)) (sym ended_is))

  -- the machine's states at the beginning and at the end of the round
  begun_events : machine_events w st (before ++ (begins seat ∷ []))
      ≡ machine_events w st before ++ (known_collect.begins seat ∷ [])
  begun_events = events_join w st before (begins seat ∷ [])

  ended_events : machine_events w st (before ++ (begins seat ∷ (inside ++ (ends seat ∷ []))))
      ≡ machine_events w st before ++ (known_collect.begins seat
      ∷ (machine_events w begun inside ++ (known_collect.ends seat ∷ [])))
  ended_events = events_join w st before (begins seat ∷ (inside ++ (ends seat ∷ [])))
      ∙ ap (λ l. machine_events w st before ++ (known_collect.begins seat ∷ l))
      (events_join w (run w (run w st before) (begins seat ∷ [])) inside (ends seat ∷ [])
      ∙ ap (λ (y : State). machine_events w y inside ++ (known_collect.ends seat ∷ []))
      (sym begun_is))

module _ (w : Opening) (x : parts.State) (n seat : ℕ) (before inside later : List Event)
    (on : IsRun w (start w x n) (with_round seat before inside later)) where
  abbrev first : State
  first = start w x n

  machine_at : (xs ys : List Event) → with_round seat before inside later ≡ xs ++ ys
      → (run w first xs).machine
      ≡ machine.run w.machine first.machine (machine_events w first xs)
  machine_at xs ys e =
      (law_machine w first xs (is_run_first w first xs ys (subst (IsRun w first) e on))).last

  begun_at : (begun w first seat before inside later).machine
      ≡ machine.run w.machine first.machine
      (machine_events w first before ++ (known_collect.begins seat ∷ []))
  begun_at = machine_at (before ++ (begins seat ∷ [])) (inside ++ (ends seat ∷ later))
      (sym (append_same before (begins seat ∷ []) (inside ++ (ends seat ∷ later))))
      ∙ ap (λ l. machine.run w.machine first.machine l) (begun_events w first seat before inside later)

  ended_at : (ended w first seat before inside later).machine
      ≡ machine.run w.machine first.machine (machine_events w first before
      ++ (known_collect.begins seat ∷ (machine_events w (begun w first seat before inside later) inside
      ++ (known_collect.ends seat ∷ []))))
  ended_at = machine_at (before ++ (begins seat ∷ (inside ++ (ends seat ∷ [])))) later
      (ap (λ l. before ++ (begins seat ∷ l)) (sym (append_same inside (ends seat ∷ []) later))
      ∙ sym (append_same before (begins seat ∷ (inside ++ (ends seat ∷ []))) later))
      ∙ ap (λ l. machine.run w.machine first.machine l) (ended_events w first seat before inside later)

  before_at : (run w first before).machine
      ≡ machine.run w.machine first.machine (machine_events w first before)
  before_at = machine_at before (begins seat ∷ (inside ++ (ends seat ∷ later))) refl

  all_at : (run w first (with_round seat before inside later)).machine
      ≡ machine.run w.machine first.machine (known_collect.with_round seat
      (machine_events w first before)
      (machine_events w (begun w first seat before inside later) inside)
      (machine_events w (ended w first seat before inside later) later))
  all_at = (law_machine w first (with_round seat before inside later) on).last
      ∙ ap (λ l. machine.run w.machine first.machine l) (round_is w first seat before inside later)

  course : machine.IsRun w.machine first.machine (known_collect.with_round seat
      (machine_events w first before)
      (machine_events w (begun w first seat before inside later) inside)
      (machine_events w (ended w first seat before inside later) later))
  course = subst (machine.IsRun w.machine first.machine) (round_is w first seat before inside later)
      (law_machine w first (with_round seat before inside later) on).course

pub law_collect : LawCollect
law_collect w x n seat before inside later sound on quiet_inside quiet_later =
    let st = start w x n in
    let a = machine_events w st before in
    let b = machine_events w (begun w st seat before inside later) inside in
    let c = machine_events w (ended w st seat before inside later) later in
    subst (λ (y : known.State). IsCollected w.machine.flow.books y.whole.flow.books)
    (sym (all_at w x n seat before inside later on))
    (known_law.law_collect w.machine x n seat a b c sound (course w x n seat before inside later on)
    (subst (λ (y : known.State). AllQuiet (known_collect.all_steps w.machine y b))
    (begun_at w x n seat before inside later on) quiet_inside)
    (subst (λ (y : known.State). AllQuiet (known_collect.all_steps w.machine y c))
    (ended_at w x n seat before inside later on) quiet_later))

pub law_had : LawHad
law_had w x n seat before inside bucket sound on could =
    let st = start w x n in
    let a = machine_events w st before in
    let b = machine_events w (begun w st seat before inside []) inside in
    subst (λ (y : known.State). CanRaise w.machine.flow.books y.whole.flow.books bucket)
    (sym (all_at w x n seat before inside [] on))
    (known_law.law_had w.machine x n seat a b bucket sound (course w x n seat before inside [] on)
    (subst (λ (y : known.State). CouldBeHad w.machine.flow.books
    (machine.run w.machine st.machine a).whole.flow.books
    (known_collect.all_steps w.machine y b) bucket) (begun_at w x n seat before inside [] on)
    (subst (λ (y : known.State). CouldBeHad w.machine.flow.books y.whole.flow.books
    (known_collect.all_steps w.machine (begun w st seat before inside []).machine b) bucket)
    (before_at w x n seat before inside [] on) could)))
