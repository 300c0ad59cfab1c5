-- What a run of two seats comes to, of which one serves the lines and the other closes the run.
use Rattle.std.proofs.Common.{◌≡◌, ◌≢◌, ◌⊎◌, inl, inr, ℕ, ◌<◌, ◌≤◌, List, [], ◌∷◌, ◌++◌, refl, sym, ap, ◌∙◌, subst, arith}
use Rattle.std.specs.Prelude.{map, if◌then◌else◌}
use Rattle.std.proofs.lemmas.Bool.{cases_lt, ltb-true}
use Rattle.bc_model.proofs.Cases.{by_test}
use Rattle.bc_disk.specs.Disk.{DiskFacts}
use Rattle.bc_parts.specs.Machine.{IsRun}
use Rattle.bc_events.specs.declared.event.Deed.{Deed}
use Rattle.bc_events.specs.declared.event.Deed.TheVariants as deed
use Rattle.bc_events.specs.declared.event.Event.{Event}
use Rattle.bc_plain_laws.specs.bc_machine.World.{World}
use Rattle.bc_plain_laws.specs.bc_hand.Seats.{by}
use Rattle.bc_plain_laws.proofs.of_bc_hand.Knowing.{View, m}
use Rattle.bc_job.specs.bc_deed.Begun.{HasJoined}
use Rattle.bc_job.specs.bc_deed.Flushed.{HasDone}
use Rattle.bc_serve.specs.Causes.{CallsBacking, entries_by}
use Rattle.bc_serve.specs.Closed.{ClosedBy}
use Rattle.bc_serve.specs.Run.{events_by}
use Rattle.bc_serve.specs.declared.closing.Closing.{Closing}
use Rattle.bc_serve.specs.declared.closing.Closing.TheVariants as closing

-- ---- events of seats

-- each is by a seat that the run has
abbrev AreBySeats : List Event → Type 0
AreBySeats [] = Unit {0}
AreBySeats (e ∷ es) = (e.seat < 320) × AreBySeats es

module _ {C B : Type 0} (cache_facts : C → DiskFacts) (backing_facts : B → DiskFacts) where
  run_by_seats : (es : List Event) (x : World) → IsRun (m cache_facts backing_facts) x es → AreBySeats es
  run_by_seats [] x run = tt
  run_by_seats (e ∷ es) x run = (
    ltb-true e.seat 320 run.0.seat,
    run_by_seats es (Rattle.bc_plain_laws.specs.bc_machine.World.after x e) run.1,
  )

by_behind : (xs ys : List Event) → AreBySeats (xs ++ ys) → AreBySeats ys
by_behind [] ys h = h
by_behind (x ∷ xs) ys h = by_behind xs ys h.1

own_both : (i : ℕ) (xs ys : List Event) → events_by i (xs ++ ys) ≡ events_by i xs ++ events_by i ys
own_both i [] ys = refl
own_both i (x ∷ xs) ys = by_test x.seat i
    (λ b. (if b then x ∷ events_by i (xs ++ ys) else events_by i (xs ++ ys))
    ≡ (if b then x ∷ events_by i xs else events_by i xs) ++ events_by i ys)
    (λ same. ap (λ (l : List Event). x ∷ l) (own_both i xs ys)) (λ other. own_both i xs ys)

-- where no other seat did anything all is this one's
sole : (i : ℕ) (es : List Event) → AreBySeats es → ((n : ℕ) → n < 320 → n ≢ i → events_by n es ≡ []) → es ≡ events_by i es
sole i [] seats none = refl
sole i (e ∷ es) seats none = by_test e.seat i
    (λ b. e ∷ es ≡ (if b then e ∷ events_by i es else events_by i es))
    (λ same. ap (λ (l : List Event). e ∷ l) (sole i es seats.1 rest))
    (λ other. absurd (found (none e.seat seats.0 other)))
  where
    rest : (n : ℕ) → n < 320 → n ≢ i → events_by n es ≡ []
    rest n low other = by_test e.seat n (λ b. (if b then e ∷ events_by n es else events_by n es) ≡ [] → events_by n es ≡ [])
        (λ same at. absurd (cc)) (λ no at. at) (none n low other)

    found : events_by e.seat (e ∷ es) ≡ [] → ⊥
    found at = by_test e.seat e.seat (λ b. (if b then e ∷ events_by e.seat es else events_by e.seat es) ≡ [] → ⊥)
        (λ same is. cc) (λ no is. no refl) at

-- what stands behind a list and leaves it as it is is nothing
nothing_behind : (xs ys : List Event) → xs ++ ys ≡ xs → ys ≡ []
nothing_behind [] ys is = is
nothing_behind (x ∷ xs) ys is = nothing_behind xs ys (let same : xs ++ ys ≡ xs = cc in same)

-- ---- the closing

-- it puts nothing into the history, and calls the backing device alone
pub closed_entries : (how : Closing) (ds : List Deed) (seen : List Event) → ClosedBy how ds seen
    → (entries_by ds ≡ []) × CallsBacking ds
closed_entries closing.Done ds seen h = (ap entries_by h.0, subst CallsBacking (sym h.0) (refl, tt))
closed_entries (closing.Failed d) ds seen h = (ap entries_by h.1, subst CallsBacking (sym h.1) (refl, tt))
closed_entries (closing.Halted d) ds seen h = by_case h.0
  where
    by_case : (ds ≡ []) ⊎ (ds ≡ deed.BackingBarrier ∷ []) → (entries_by ds ≡ []) × CallsBacking ds
    by_case (inl is) = (ap entries_by is, subst CallsBacking (sym is) tt)
    by_case (inr is) = (ap entries_by is, subst CallsBacking (sym is) (refl, tt))
closed_entries closing.Memory ds seen h = (ap entries_by h, subst CallsBacking (sym h) tt)

-- ---- both seats

-- what both seats know of the run as it ends
pub record IsWhole (ds last : List Deed) (seen events : List Event) : Type 0 where
  pub alone : seen ≡ events_by 16 seen
  pub lines : seen ≡ map (by 16) ds
  pub all : events ≡ seen ++ map (by 0) last

module _ {C B : Type 0} (cache_facts : C → DiskFacts) (backing_facts : B → DiskFacts) where
  pub whole : (v u o x w : View cache_facts backing_facts) (start : World) (ds last : List Deed)
      → v.first ≡ 0 → v.end ≡ 16 → v.seen ≡ [] → u.first ≡ 16 → u.end ≡ 320 → u.seen ≡ []
      → HasDone cache_facts backing_facts ds u o → HasJoined cache_facts backing_facts v o x
      → HasDone cache_facts backing_facts last x w → IsRun (m cache_facts backing_facts) start w.seen
      → IsWhole ds last o.seen w.seen
  whole v u o x w start ds last vf ve vs uf ue us served joined closed run =
      let of : o.first ≡ 16 = served.same.first ∙ uf in
      let oe : o.end ≡ 320 = served.same.end ∙ ue in
      let xf : x.first ≡ 0 = joined.first ∙ vf in
      let xe : x.end ≡ 320 = joined.end ∙ oe in
      let seats = run_by_seats cache_facts backing_facts w.seen start run in
      let seats_x : AreBySeats x.seen = front x.seen closed.grown.more (subst AreBySeats closed.grown.seen seats) in
      let seats_o : AreBySeats o.seen = front o.seen joined.seen.0 (subst AreBySeats joined.seen.1 seats_x) in
      let own_o : events_by 16 o.seen ≡ map (by 16) ds =
      ap (λ n. events_by n o.seen) (sym of) ∙ served.own
      ∙ ap (λ (l : List Event). events_by u.first l ++ map (by u.first) ds) us
      ∙ ap (λ n. map (by n) ds) uf in
      let own_x : events_by 16 x.seen ≡ events_by 16 o.seen = joined.others 16 (omega arith) (omega arith) in
      let alone_x : x.seen ≡ events_by 16 x.seen = sole 16 x.seen seats_x none_x in
      let low_o : (n : ℕ) → n < 16 → events_by n o.seen ≡ [] = λ n low. nil_front (events_by n o.seen) (events_by n joined.seen.0)
      (sym (own_both n o.seen joined.seen.0) ∙ ap (λ (l : List Event). events_by n l) (sym joined.seen.1) ∙ none_x n (omega arith) (λ is. omega (arith, is))) in
      let alone_o : o.seen ≡ events_by 16 o.seen = sole 16 o.seen seats_o (λ n low other. elim (at_sixteen n other) [
        | inl less ↦ low_o n less
        | inr more ↦ high_o n more low
      ]) in
      let same : x.seen ≡ o.seen = alone_x ∙ own_x ∙ sym alone_o in
      let more = closed.grown.more in
      let seats_more : AreBySeats more = by_behind x.seen more (subst AreBySeats closed.grown.seen seats) in
      let alone_more : more ≡ events_by 0 more = sole 0 more seats_more (λ n low other. nothing_behind (events_by n x.seen) (events_by n more)
      (sym (own_both n x.seen more) ∙ ap (λ (l : List Event). events_by n l) (sym closed.grown.seen)
      ∙ closed.grown.rest n (omega (arith, other, xf)) (omega arith))) in
      let own_more : events_by 0 more ≡ map (by 0) last =
      cancel (events_by 0 x.seen) (events_by 0 more) (map (by 0) last) (none_x 0 (omega arith) (λ is. omega (arith, is)))
      (sym (own_both 0 x.seen more) ∙ ap (λ (l : List Event). events_by 0 l) (sym closed.grown.seen)
      ∙ ap (λ n. events_by n w.seen) (sym (closed.same.first ∙ xf)) ∙ closed.own
      ∙ ap (λ n. events_by n x.seen ++ map (by n) last) xf) in record {
        alone = alone_o;
        lines = alone_o ∙ own_o;
        all = closed.grown.seen ∙ ap (λ (l : List Event). l ++ more) same
            ∙ ap (λ (l : List Event). o.seen ++ l) (alone_more ∙ own_more);
      }
    where
      front : (xs ys : List Event) → AreBySeats (xs ++ ys) → AreBySeats xs
      front [] ys h = tt
      front (y ∷ xs) ys h = (h.0, front xs ys h.1)

      above : (n : ℕ) → n ≢ 16 → 16 ≤ n → 16 < n
      above n other more = grind (arith, other, more)

      at_sixteen : (n : ℕ) → n ≢ 16 → (n < 16) ⊎ (16 < n)
      at_sixteen n other = elim (cases_lt n 16) [
        | inl less ↦ inl less
        | inr more ↦ inr (above n other more)
      ]

      nil_front : (xs ys : List Event) → xs ++ ys ≡ [] → xs ≡ []
      nil_front [] ys is = refl
      nil_front (y ∷ xs) ys is = absurd (cc)

      cancel : (xs ys zs : List Event) → xs ≡ [] → xs ++ ys ≡ xs ++ zs → ys ≡ zs
      cancel xs ys zs none is = subst (λ (l : List Event). l ++ ys ≡ l ++ zs → ys ≡ zs) (sym none) (λ e. e) is

      high_o : (n : ℕ) → 16 < n → n < 320 → events_by n o.seen ≡ []
      high_o n low high = let a = uf in let b = ue in
          served.grown.rest n (omega arith) (omega arith) ∙ ap (λ (l : List Event). events_by n l) us

      none_x : (n : ℕ) → n < 320 → n ≢ 16 → events_by n x.seen ≡ []
      none_x n high other = elim (at_sixteen n other) [
        | inl less ↦ (let a = vf in let b = ve in
            joined.own n (omega arith) (omega arith) ∙ ap (λ (l : List Event). events_by n l) vs)
        | inr more ↦ (let a = uf in let b = ue in let c = served.same.first in let d = served.same.end in
            joined.others n (omega arith) (omega arith) ∙ high_o n more high)
      ]
