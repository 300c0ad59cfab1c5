-- What a seat did behind what was done before, where no other seat did anything.
use Rattle.std.proofs.Common.{◌≡◌, ◌≢◌, ℕ, ◌<◌, List, [], ◌∷◌, ◌++◌, append-nil, refl, sym, ap, ◌∙◌, subst}
use Rattle.std.specs.Prelude.{map, if◌then◌else◌}
use Rattle.std.proofs.lemmas.Bool.{ltb-true}
use Rattle.bc_disk.specs.Disk.{DiskFacts}
use Rattle.bc_events.specs.declared.event.Deed.{Deed}
use Rattle.bc_events.specs.declared.event.Event.{Event}
use Rattle.bc_serve.proofs.of_bc_hand.Knowing.{m}
use Rattle.bc_serve.specs.bc_hand.Seats.{by}
use Rattle.bc_serve.specs.bc_machine.World.{World, after}
use Rattle.bc_model.proofs.Cases.{by_test}
use Rattle.bc_parts.specs.Machine.{IsRun}
use Rattle.bc_serve.specs.Run.{events_by}

-- each is by a seat that the run has
abbrev AreBySeats : List Event → Type 0
AreBySeats [] = Unit {0}
AreBySeats (e ∷ es) = (e.seat < 320) × AreBySeats es

module _ {C B : Type 0} (cache_facts : C → DiskFacts) (backing_facts : B → DiskFacts) where
  run_by_seats : (es : List Event) (x : World) → IsRun (m cache_facts backing_facts) x es
      → AreBySeats es
  run_by_seats [] x run = tt
  run_by_seats (e ∷ es) x run =
      (ltb-true e.seat 320 run.0.seat, run_by_seats es (after x e) run.1)

by_behind : (xs ys : List Event) → AreBySeats (xs ++ ys) → AreBySeats ys
by_behind [] ys h = h
by_behind (x ∷ xs) ys h = by_behind xs ys h.1

pub own_both : (i : ℕ) (xs ys : List Event)
    → events_by i (xs ++ ys) ≡ events_by i xs ++ events_by i ys
own_both i [] ys = refl
own_both i (x ∷ xs) ys = by_test x.seat i
    (λ b. (if b then x ∷ events_by i (xs ++ ys) else events_by i (xs ++ ys))
    ≡ (if b then x ∷ events_by i xs else events_by i xs) ++ events_by i ys)
    (λ same. ap (λ (l : List Event). x ∷ l) (own_both i xs ys)) (λ other. own_both i xs ys)

found : (e : Event) (es : List Event) → events_by e.seat (e ∷ es) ≡ [] → ⊥
found e es at = by_test e.seat e.seat
    (λ b. (if b then e ∷ events_by e.seat es else events_by e.seat es) ≡ [] → ⊥)
    (λ same is. cc) (λ no is. no refl) at

-- where no seat did anything nothing happened
none_left : (es : List Event) → AreBySeats es → ((n : ℕ) → n < 320 → events_by n es ≡ []) → es ≡ []
none_left [] seats none = refl
none_left (e ∷ es) seats none = absurd (found e es (none e.seat seats.0))

-- where no other seat did anything all is this one's
sole : (i : ℕ) (es : List Event) → AreBySeats es
    → ((n : ℕ) → n < 320 → n ≢ i → events_by n es ≡ []) → es ≡ events_by i es
sole i [] seats none = refl
sole i (e ∷ es) seats none = by_test e.seat i
    (λ b. e ∷ es ≡ (if b then e ∷ events_by i es else events_by i es))
    (λ same. ap (λ (l : List Event). e ∷ l) (sole i es seats.1 rest))
    (λ other. absurd (found e es (none e.seat seats.0 other)))
  where
    rest : (n : ℕ) → n < 320 → n ≢ i → events_by n es ≡ []
    rest n low other = by_test e.seat n
        (λ b. (if b then e ∷ events_by n es else events_by n es) ≡ [] → events_by n es ≡ [])
        (λ same at. absurd (cc)) (λ no at. at) (none n low other)

-- what stands behind a list and leaves it as it is is nothing
pub nothing_behind : (xs ys : List Event) → xs ++ ys ≡ xs → ys ≡ []
nothing_behind [] ys is = is
nothing_behind (x ∷ xs) ys is = nothing_behind xs ys (let same : xs ++ ys ≡ xs = cc in same)

same_behind : (xs ys zs : List Event) → xs ++ ys ≡ xs ++ zs → ys ≡ zs
same_behind [] ys zs is = is
same_behind (x ∷ xs) ys zs is =
    same_behind xs ys zs (let same : xs ++ ys ≡ xs ++ zs = cc in same)

-- deeds of one seat
pub all_by : (i : ℕ) (ds : List Deed) → events_by i (map (by i) ds) ≡ map (by i) ds
all_by i [] = refl
all_by i (d ∷ ds) = by_test i i
    (λ b. (if b then by i d ∷ events_by i (map (by i) ds) else events_by i (map (by i) ds))
    ≡ by i d ∷ map (by i) ds)
    (λ same. ap (λ (l : List Event). by i d ∷ l) (all_by i ds)) (λ other. absurd (other refl))

pub none_by : (n i : ℕ) (ds : List Deed) → i ≢ n → events_by n (map (by i) ds) ≡ []
none_by n i [] other = refl
none_by n i (d ∷ ds) other = by_test i n
    (λ b. (if b then by i d ∷ events_by n (map (by i) ds) else events_by n (map (by i) ds)) ≡ [])
    (λ same. absurd (other same)) (λ no. none_by n i ds other)

module _ {C B : Type 0} (cache_facts : C → DiskFacts) (backing_facts : B → DiskFacts) where
  -- The list went on, by no event of any seat but one, whose new events are these.
  pub went_on : (start : World) (old new : List Event) (i : ℕ) (more : List Event) (ds : List Deed)
      → IsRun (m cache_facts backing_facts) start new → new ≡ old ++ more
      → ((n : ℕ) → n < 320 → n ≢ i → events_by n new ≡ events_by n old)
      → events_by i new ≡ events_by i old ++ map (by i) ds → new ≡ old ++ map (by i) ds
  went_on start old new i more ds run is others own =
      let seats = by_behind old more
      (subst AreBySeats is (run_by_seats cache_facts backing_facts new start run)) in
      let none : (n : ℕ) → n < 320 → n ≢ i → events_by n more ≡ [] = λ n low other.
      nothing_behind (events_by n old) (events_by n more)
      (sym (own_both n old more) ∙ ap (λ (l : List Event). events_by n l) (sym is)
      ∙ others n low other) in
      let mine : events_by i more ≡ map (by i) ds =
      same_behind (events_by i old) (events_by i more) (map (by i) ds)
      (sym (own_both i old more) ∙ ap (λ (l : List Event). events_by i l) (sym is) ∙ own) in
      is ∙ ap (λ (l : List Event). old ++ l) (sole i more seats none ∙ mine)

  -- nothing comes behind these, of which no seat did anything more
  pub ended_there : (start : World) (old new more : List Event)
      → IsRun (m cache_facts backing_facts) start new → new ≡ old ++ more
      → ((n : ℕ) → n < 320 → events_by n more ≡ []) → old ≡ new
  ended_there start old new more run is none =
      let nothing = none_left more (by_behind old more
      (subst AreBySeats is (run_by_seats cache_facts backing_facts new start run))) none in
      sym (is ∙ ap (λ (l : List Event). old ++ l) nothing ∙ append-nil old)
