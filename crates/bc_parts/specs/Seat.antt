-- What contracts see of the parts and of a seat.
use Rattle.std.specs.Prelude.{◌≡◌, ◌⊎◌, ℕ, ◌<◌, ◌≤◌, ◌==◌, not, List, [], ◌∷◌, filter, Option, None, refl}
use Rattle.std.specs.Coded.{Coded, code_by, coded×, coded_ℕ, coded_list, coded_option}
use Rattle.atomic_table.specs.Seated.{TableId, table_id_coded}

-- which run it is: the table that the parts lie in, and the parts as the run began
pub record Run (P : Type 0) : Type 0 where
  pub table : TableId
  pub start : List P

-- the parts of a run, and how many numbers its seats have together
pub record PartsView (P : Type 0) : Type 0 where
  pub run : Run P
  pub seats : ℕ

-- a seat has the numbers from `first` up to `end`. It has seen a list of events, holds parts, of which the one that it
-- took last comes first, has room for so many events, and was told of a stop or of none
pub record SeatView (P E T : Type 0) : Type 0 where
  pub run : Run P
  pub first : ℕ
  pub end : ℕ
  pub seen : List E
  pub parts : List ℕ
  pub promises : ℕ
  pub heard : Option T

-- the only seat of a run that begins
abbrev pub newcomer : {P E T : Type 0} → PartsView P → SeatView P E T
newcomer p = record { run = p.run; first = 0; end = p.seats; seen = []; parts = []; promises = 0; heard = None }

-- the number is one of the seat's
abbrev pub HasNumber : {P E T : Type 0} → SeatView P E T → ℕ → Type 0
HasNumber v n = (v.first ≤ n) × (n < v.end)

-- the part k is among those in hand
abbrev pub Holds : List ℕ → ℕ → Type 0
Holds [] k = ⊥
Holds (h ∷ hs) k = (k ≡ h) ⊎ Holds hs k

-- the parts in hand but for k
abbrev pub without : ℕ → List ℕ → List ℕ
without k hs = filter (λ h. not (h == k)) hs

-- the codes by which a proof tells such values apart
abbrev pub coded_run : {P : Type 0} → Coded P → Coded (Run P)
coded_run {P} p = code_by (TableId × List P) (coded× table_id_coded (coded_list p)) (λ r. (r.table, r.start)) (λ z. record { table = z.0; start = z.1 }) (λ _. refl)

abbrev pub coded_parts : {P : Type 0} → Coded P → Coded (PartsView P)
coded_parts {P} p = code_by (Run P × ℕ) (coded× (coded_run p) coded_ℕ) (λ v. (v.run, v.seats)) (λ z. record { run = z.0; seats = z.1 }) (λ _. refl)

abbrev pub coded_seat : {P E T : Type 0} → Coded P → Coded E → Coded T → Coded (SeatView P E T)
coded_seat {P} {E} {T} p e t = code_by (Run P × (ℕ × (ℕ × (List E × (List ℕ × (ℕ × Option T))))))
    (coded× (coded_run p) (coded× coded_ℕ (coded× coded_ℕ (coded× (coded_list e) (coded× (coded_list coded_ℕ) (coded× coded_ℕ (coded_option t)))))))
    (λ s. (s.run, (s.first, (s.end, (s.seen, (s.parts, (s.promises, s.heard)))))))
    (λ z. record { run = z.0; first = z.1.0; end = z.1.1.0; seen = z.1.1.1.0; parts = z.1.1.1.1.0; promises = z.1.1.1.1.1.0; heard = z.1.1.1.1.1.1 })
    (λ _. refl)
