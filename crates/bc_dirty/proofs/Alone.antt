-- A seat that has all numbers of its run: what it did is all that has happened since.
use Rattle.std.proofs.Common.{◌≡◌, ◌≢◌, inl, inr, ℕ, ◌<◌, List, [], ◌∷◌, ◌++◌, refl, sym, ap, ◌∙◌, subst, arith, eq-eqb, ne_eqb}
use Rattle.std.specs.Prelude.{◌==◌, filter, fold, map, if◌then◌else◌}
use Rattle.std.proofs.lemmas.Bool.{cases_eq, ltb-true}
use Rattle.std.proofs.lemmas.List.{append_cancel_left}
use Rattle.std.proofs.lemmas.List.Elements.{filter-append}
use Rattle.std.proofs.lemmas.List.Sums.{fold-append}
use Rattle.bc_disk.specs.Disk.{DiskFacts}
use Rattle.bc_events.specs.declared.event.Deed.{Deed}
use Rattle.bc_events.specs.declared.event.Event.{Event}
use Rattle.bc_fetch.proofs.of_bc_hand.Knowing.{View, m}
use Rattle.bc_fetch.specs.bc_deed.Flushed.{HasDone}
use Rattle.bc_fetch.specs.bc_hand.Seats.{IsCoreSeat, by, world}
use Rattle.bc_fetch.specs.bc_machine.World.{World, after, opening}
use Rattle.bc_fetch.specs.bc_machine.declared.part.CorePart.{CorePart}
use Rattle.bc_parts.specs.Machine.{IsRun}
use Rattle.bc_dirty.specs.Walk.{IsAlone}
use Rattle.bc_parts.specs.Seat.{Run}

abbrev of_seat : ℕ → List Event → List Event
of_seat n es = filter (λ e. e.seat == n) es

rest_none : (e : Event) (es : List Event) (n : ℕ) → e.seat ≢ n → of_seat n (e ∷ es) ≡ []
    → of_seat n es ≡ []
rest_none e es n other none =
    sym (ap (λ b. if b then e ∷ of_seat n es else of_seat n es) (ne_eqb e.seat n other)) ∙ none

first_is : (e : Event) (es : List Event) (n : ℕ) → e.seat ≡ n
    → of_seat n (e ∷ es) ≡ e ∷ of_seat n es
first_is e es n same =
    ap (λ b. if b then e ∷ of_seat n es else of_seat n es) (eq-eqb e.seat n same)

not_empty : (e : Event) (es : List Event) → e ∷ es ≡ [] → ⊥
not_empty e es is = cc

none_more : (xs ys : List Event) → xs ++ ys ≡ xs → ys ≡ []
none_more [] ys is = is
none_more (x ∷ xs) ys is = append_cancel_left (x ∷ xs) ys [] (is ∙ all_of (x ∷ xs))
  where
    all_of : (zs : List Event) → zs ≡ zs ++ []
    all_of [] = refl
    all_of (z ∷ zs) = ap (λ (l : List Event). z ∷ l) (all_of zs)

module _ {C B : Type 0} (cache_facts : C → DiskFacts) (backing_facts : B → DiskFacts) where
  only_own : (x : World) (es : List Event) → IsRun (m {C = C} {B = B} cache_facts backing_facts) x es
      → ((n : ℕ) → 0 < n → n < 320 → of_seat n es ≡ []) → of_seat 0 es ≡ es
  only_own x [] follow none = refl
  only_own x (e ∷ es) follow none = elim (cases_eq e.seat 0) [
    | inl zero ↦ first_is e es 0 zero ∙ ap (λ (l : List Event). e ∷ l)
        (only_own (after x e) es follow.1 (λ n some low. rest_none e es n
        (λ same. (let is : 0 ≡ n = sym zero ∙ same in omega (arith, is, some))) (none n some low)))
    | inr other ↦ absurd (not_empty e (of_seat e.seat es) (sym (first_is e es e.seat refl)
        ∙ none e.seat (omega (arith, other)) (ltb-true e.seat 320 follow.0.seat)))
  ]

  later_run : (x : World) (es fs : List Event)
      → IsRun (m {C = C} {B = B} cache_facts backing_facts) x (es ++ fs)
      → IsRun (m {C = C} {B = B} cache_facts backing_facts) (fold after x es) fs
  later_run x [] fs h = h
  later_run x (e ∷ es) fs h = later_run (after x e) es fs h.1

  -- what a seat still has
  pub all_still : (v w : View cache_facts backing_facts) (ds : List Deed)
      → IsAlone cache_facts backing_facts v → HasDone cache_facts backing_facts ds v w
      → IsAlone cache_facts backing_facts w
  all_still v w ds all done = record {
    first = done.same.first ∙ all.first;
    end = done.same.end ∙ all.end;
  }

  -- the state is what its own deeds have made of it
  pub only_done : (v w : View cache_facts backing_facts) (ds : List Deed)
      → IsAlone cache_facts backing_facts v → HasDone cache_facts backing_facts ds v w
      → IsCoreSeat cache_facts backing_facts w
      → world cache_facts backing_facts w
      ≡ fold after (world cache_facts backing_facts v) (map (by v.first) ds)
  only_done v w ds all done seat =
      let zero = all.first in
      let end = all.end in
      let more = done.grown.more in
      let start = opening cache_facts backing_facts v.run.start in
      let ran : IsRun (m {C = C} {B = B} cache_facts backing_facts) start (v.seen ++ more) =
      subst (λ (es : List Event). IsRun (m {C = C} {B = B} cache_facts backing_facts) start es)
      done.grown.seen
      (subst (λ (r : Run (CorePart C B)). IsRun (m {C = C} {B = B} cache_facts backing_facts)
      (opening cache_facts backing_facts r.start) w.seen) done.same.run seat.seat.run) in
      let none : (n : ℕ) → 0 < n → n < 320 → of_seat n more ≡ [] = λ n some low.
      none_more (of_seat n v.seen) (of_seat n more)
      (sym (filter-append (λ (e : Event). e.seat == n) v.seen more)
      ∙ ap (of_seat n) (sym done.grown.seen)
      ∙ done.grown.rest n (omega (arith, zero, some)) (omega (arith, end, low))) in
      let own : of_seat 0 more ≡ map (by v.first) ds =
      append_cancel_left (of_seat 0 v.seen) (of_seat 0 more) (map (by v.first) ds)
      (sym (filter-append (λ (e : Event). e.seat == 0) v.seen more)
      ∙ ap (of_seat 0) (sym done.grown.seen)
      ∙ ap (λ n. of_seat n w.seen) (sym (done.same.first ∙ zero)) ∙ done.own
      ∙ ap (λ n. of_seat n v.seen ++ map (by v.first) ds) zero) in
      let is : more ≡ map (by v.first) ds =
      sym (only_own (fold after start v.seen) more (later_run start v.seen more ran) none) ∙ own in
      ap (λ (r : Run (CorePart C B)). fold after (opening cache_facts backing_facts r.start) w.seen)
      done.same.run
      ∙ ap (λ (es : List Event). fold after start es) done.grown.seen
      ∙ fold-append after start v.seen more
      ∙ ap (λ (es : List Event). fold after (fold after start v.seen) es) is
