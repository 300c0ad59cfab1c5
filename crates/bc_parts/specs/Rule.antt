-- What holds of the table between any two steps: there is one list of events, for which all parts stand.
use Rattle.std.specs.Prelude.{◌≡◌, ◌≢◌, ℕ, ◌+◌, ◌<◌, ◌≤◌, List, [], ◌∷◌, ◌++◌, map, length, slice_index, sum_by, Option, Some, None, All, Vec, vec_capacity}
use Rattle.std.specs.declared.alloc.Global.{Global}
use mathlib.Core.Option.{some}
use mathlib.Core.Option as maybe
use lib.ListN.{get_elem?}
use Rattle.atomic_table.specs.Table.{State}
use Rattle.bc_parts.specs.declared.machine.Machine.{Ghosts}
use Rattle.bc_parts.specs.declared.table.Cargo.{Cargo}
use Rattle.bc_parts.specs.declared.table.Cargo.TheVariants.{Part, Book, Vector}
use Rattle.bc_parts.specs.declared.table.Knowledge.{Knowledge}
use Rattle.bc_parts.specs.declared.table.Start.{Start}
use Rattle.bc_parts.specs.Machine.{state_after, IsRun}
use Rattle.bc_parts.specs.Seat.{Holds}
use Rattle.bc_parts.specs.Later.{Grows}

-- what the first seat of a run knows
abbrev pub unaware : {P E : Type 0} → Start P → Knowledge P E
unaware key = record { start = key.parts.value.items; first = 0; middle = key.seats; end = key.seats; seen = []; beside = []; cut = 0; held = []; out = None; promises = 0; owed = 0 }

-- what is left of a seat that was joined to another
abbrev pub spent : {P E : Type 0} → Knowledge P E
spent = record { start = []; first = 0; middle = 0; end = 0; seen = []; beside = []; cut = 0; held = []; out = None; promises = 0; owed = 0 }

-- the slot k is in hand
abbrev pub Has : {P E : Type 0} → Knowledge P E → ℕ → Type 0
Has v k = Holds v.held k

-- what lies in a slot: nothing where there is no such slot, and where it is out with a seat
abbrev pub Lying : Type 0 → Type 0 → Type 0
Lying P B = maybe.Option (maybe.Option (Option (Cargo P B)))

-- the slots with these parts, the Book and the vector
abbrev pub laid : {P B : Type 0} → List P → B → Vec P Global → List (Option (Cargo P B))
laid ps b v = map (λ p. Some (Part p)) ps ++ Some (Book b) ∷ Some (Vector v) ∷ []

-- the word of the slot k
abbrev pub claim_of : List ℕ → ℕ → ℕ
claim_of words k = slice_index words (k + 2)

-- which seat has a slot, and which one has a number
pub record Owners : Type 0 where
  pub slot : ℕ → ℕ
  pub number : ℕ → ℕ

module _ {Z P E B T : Type 0} (m : Ghosts Z P E B T) (start : List P) (seats : ℕ) where
  -- at home, with a value of its part
  abbrev pub PartIsHome : List E → ℕ → Lying P B → Type 0
  PartIsHome log k lying = (p : P) × (lying ≡ some (some (Some (Part p)))) × m.stands k p (state_after m start log)

  -- at home, with the list of all events, and with room for each that was promised
  abbrev pub BookIsHome : List E → ℕ → Lying P B → Type 0
  BookIsHome log owed lying = (b : B) × (lying ≡ some (some (Some (Book b)))) × (m.events b ≡ log) × (owed ≤ m.room b)

  -- at home, empty, and with room for all parts
  abbrev pub VectorIsHome : Lying P B → Type 0
  VectorIsHome lying = (v : Vec P Global) × (lying ≡ some (some (Some (Vector v)))) × (v.items ≡ []) × (length start ≤ vec_capacity v)

  -- what holds of the view of the seat `id`
  pub record Knows (log : List E) (owed : ℕ) (by : Owners) (claim : ℕ → ℕ) (lying : ℕ → Lying P B) (id : ℕ) (v : Knowledge P E) : Type 0 where
    pub grows : Grows m (length start) v.first v.middle v.held v.seen log
    pub beside : v.middle < v.end → Grows m (length start) v.middle v.end [] v.beside log
    pub middle : (v.first ≤ v.middle) × (v.middle ≤ v.end)
    pub begun : v.first < v.end → v.start ≡ start
    pub bare : v.end ≤ v.first → v.held ≡ []
    pub numbers : (n : ℕ) → v.first ≤ n → n < v.end → (n < seats) × (by.number n ≡ id)
    pub slots : (k : ℕ) → Has v k → (k ≤ length start) × (claim k ≢ 0) × (by.slot k ≡ id)
    pub book : Has v (length start) → (v.seen ≡ log) × (v.owed ≡ owed)
    pub emptied : (k : ℕ) → Has v k → v.out ≢ Some k → lying k ≡ some (some None)

  pub record Kept (s : State (Option (Cargo P B)) (Knowledge P E)) : Type 0 where
    pub log : List E
    pub owed : ℕ
    pub by : Owners
    pub words : length s.words ≡ length start + 3
    pub slots : length s.homes ≡ length start + 2
    pub run : IsRun m (m.opening start) log
    pub numbered : All (λ e. m.number e < seats) log
    pub count : slice_index s.words 0 ≡ length log
    pub parts : (k : ℕ) → k < length start → claim_of s.words k ≡ 0 → PartIsHome log k (get_elem? s.homes k)
    pub book : claim_of s.words (length start) ≡ 0 → BookIsHome log owed (get_elem? s.homes (length start))
    pub vector : VectorIsHome (get_elem? s.homes (length start + 1))
    pub promises : sum_by (λ v. v.promises) s.views ≡ owed
    pub taken : (k : ℕ) → k ≤ length start → claim_of s.words k ≢ 0 → (v : Knowledge P E) × (get_elem? s.views (by.slot k) ≡ some v) × Has v k
    pub each : (id : ℕ) (v : Knowledge P E) → get_elem? s.views id ≡ some v → Knows log owed by (claim_of s.words) (λ k. get_elem? s.homes k) id v

  -- the slots as a run begins: each part as it stands for the opening state, and a Book without events
  pub record Fresh (words : List ℕ) (slots : List (Option (Cargo P B))) : Type 0 where
    pub zeros : (i : ℕ) → slice_index words i ≡ 0
    pub word_count : length words ≡ length start + 3
    pub slot_count : length slots ≡ length start + 2
    pub parts : (k : ℕ) → k < length start → (p : P) × (get_elem? slots k ≡ some (Some (Part p))) × m.stands k p (m.opening start)
    pub book : (b : B) × (get_elem? slots (length start) ≡ some (Some (Book b))) × (m.events b ≡ [])
    pub vector : (v : Vec P Global) × (get_elem? slots (length start + 1) ≡ some (Some (Vector v))) × (v.items ≡ []) × (length start ≤ vec_capacity v)

  -- the slots as a run ends with this list of events
  pub record Whole (log : List E) (slots : List (Option (Cargo P B))) : Type 0 where
    pub parts : (k : ℕ) → k < length start → (p : P) × (get_elem? slots k ≡ some (Some (Part p))) × m.stands k p (state_after m start log)
    pub book : (b : B) × (get_elem? slots (length start) ≡ some (Some (Book b))) × (m.events b ≡ log)
    pub vector : (v : Vec P Global) × (get_elem? slots (length start + 1) ≡ some (Some (Vector v))) × (v.items ≡ []) × (length start ≤ vec_capacity v)
    pub run : IsRun m (m.opening start) log
