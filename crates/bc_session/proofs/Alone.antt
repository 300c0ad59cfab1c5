-- A seat that has all numbers, and did all that has happened, goes on to have done so.
use Rattle.std.proofs.Common.{◌≡◌, ◌≢◌, inl, inr, ℕ, ◌<◌, List, [], ◌∷◌, ◌++◌, refl, sym, ap, ◌∙◌, arith, eq-eqb, ne_eqb}
use Rattle.std.specs.Prelude.{◌==◌, filter, map, if◌then◌else◌}
use Rattle.std.proofs.lemmas.Bool.{cases_eq, ltb-true}
use Rattle.bc_started.specs.bc_deed.Flushed.{HasDone}
use Rattle.bc_disk.specs.Disk.{DiskFacts}
use Rattle.bc_events.specs.declared.event.Deed.{Deed}
use Rattle.bc_events.specs.declared.event.Event.{Event}
use Rattle.bc_started.specs.bc_hand.Seats.{IsCoreSeat, View, by}
use Rattle.bc_started.proofs.of_bc_hand.Knowing.{m}
use Rattle.bc_started.specs.bc_machine.World.{World, after, opening}
use Rattle.bc_parts.specs.Machine.{IsRun}
use Rattle.bc_started.specs.First.{HasAll}

abbrev of_seat : ℕ → List Event → List Event
of_seat n es = filter (λ e. e.seat == n) es

-- one that another seat did isn't there
rest_none : (e : Event) (es : List Event) (n : ℕ) → e.seat ≢ n → of_seat n (e ∷ es) ≡ []
    → of_seat n es ≡ []
rest_none e es n other none =
    sym (ap (λ b. if b then e ∷ of_seat n es else of_seat n es) (ne_eqb e.seat n other)) ∙ none

first_is : (e : Event) (es : List Event) (n : ℕ) → e.seat ≡ n
    → of_seat n (e ∷ es) ≡ e ∷ of_seat n es
first_is e es n same =
    ap (λ b. if b then e ∷ of_seat n es else of_seat n es) (eq-eqb e.seat n same)

not_empty : (e : Event) (es : List Event) → e ∷ es ≡ [] → ⊥
not_empty e es is = cc

-- of deeds of seat 0
all_by : (ds : List Deed) → of_seat 0 (map (by 0) ds) ≡ map (by 0) ds
all_by [] = refl
all_by (d ∷ ds) = ap (λ (l : List Event). by 0 d ∷ l) (all_by ds)

none_by : (n : ℕ) (ds : List Deed) → 0 < n → of_seat n (map (by 0) ds) ≡ []
none_by n [] some = refl
none_by n (d ∷ ds) some =
    ap (λ b. if b then by 0 d ∷ of_seat n (map (by 0) ds) else of_seat n (map (by 0) ds))
    (ne_eqb 0 n (λ is. omega (arith, is, some))) ∙ none_by n ds some

module _ {C B : Type 0} (cache_facts : C → DiskFacts) (backing_facts : B → DiskFacts) where
  only_own : (x : World) (es : List Event) → IsRun (m cache_facts backing_facts) x es
      → ((n : ℕ) → 0 < n → n < 320 → of_seat n es ≡ []) → of_seat 0 es ≡ es
  only_own x [] follow none = refl
  only_own x (e ∷ es) follow none = elim (cases_eq e.seat 0) [
    | inl zero ↦ first_is e es 0 zero ∙ ap (λ (l : List Event). e ∷ l)
        (only_own (after x e) es follow.1 (λ n some low. rest_none e es n
        (λ same. (let is : 0 ≡ n = sym zero ∙ same in omega (arith, is, some))) (none n some low)))
    | inr other ↦ absurd (not_empty e (of_seat e.seat es) (sym (first_is e es e.seat refl)
        ∙ none e.seat (omega (arith, other)) (ltb-true e.seat 320 follow.0.seat)))
  ]

  pub own_more : (v w : View cache_facts backing_facts) (ds es : List Deed)
      → HasAll cache_facts backing_facts v → v.seen ≡ map (by 0) ds
      → HasDone cache_facts backing_facts es v w → IsCoreSeat cache_facts backing_facts w
      → w.seen ≡ map (by 0) ds ++ map (by 0) es
  own_more v w ds es all seen done seat =
      let zero = all.first in
      let end = all.end in
      let none : (n : ℕ) → 0 < n → n < 320 → of_seat n w.seen ≡ [] = λ n some low.
      done.grown.rest n (omega (arith, zero, some)) (omega (arith, end, low))
      ∙ ap (of_seat n) seen ∙ none_by n ds some in
      let first : w.first ≡ 0 = done.same.first ∙ zero in
      let own : of_seat 0 w.seen ≡ map (by 0) ds ++ map (by 0) es =
      ap (λ n. of_seat n w.seen) (sym first) ∙ done.own
      ∙ ap (λ (l : List Event). l ++ map (by v.first) es)
      (ap (of_seat v.first) seen ∙ ap (λ n. of_seat n (map (by 0) ds)) zero ∙ all_by ds)
      ∙ ap (λ n. map (by 0) ds ++ map (by n) es) zero in
      sym (only_own (opening cache_facts backing_facts w.run.start) w.seen seat.seat.run none) ∙ own
