-- What each kind of step tells the seat that makes it.
use Rattle.std.specs.Prelude.{◌≡◌, ◌≢◌, ℕ, ◌+◌, ◌-◌, ◌^◌, ◌<◌, ◌≤◌, List, [], ◌∷◌, length, Option, Some, None}
use Rattle.atomic_table.specs.Table.{Me, Step, rest}
use Rattle.bc_parts.specs.declared.machine.Machine.{Ghosts}
use Rattle.bc_parts.specs.declared.table.Cargo.{Cargo}
use Rattle.bc_parts.specs.declared.table.Cargo.TheVariants.{Part, Book}
use Rattle.bc_parts.specs.declared.table.Knowledge.{Knowledge}
use Rattle.bc_parts.specs.Machine.{state_after}
use Rattle.bc_parts.specs.Seat.{without}
use Rattle.bc_parts.specs.Later.{Later}
use Rattle.bc_parts.specs.Rule.{Has}

module _ {P E : Type 0} where
  -- with the slot k, where the list was seen, and the promises of all seats
  abbrev pub taking : Knowledge P E → ℕ → List E → ℕ → Knowledge P E
  taking v k seen owed = record v { seen = seen; held = k ∷ v.held; out = Some k; owed = owed }

  -- each slot in hand is at home
  abbrev pub laying : Knowledge P E → Knowledge P E
  laying v = record v { out = None }

  -- each slot in hand but k is at home
  abbrev pub fetching : Knowledge P E → ℕ → Knowledge P E
  fetching v k = record v { out = Some k }

  -- without the slot k
  abbrev pub giving : Knowledge P E → ℕ → Knowledge P E
  giving v k = record v { held = without k v.held; out = None }

  -- the list was seen, by all numbers of the seat
  abbrev pub looking : Knowledge P E → List E → Knowledge P E
  looking v seen = record v { seen = seen; middle = v.end }

  -- an event was committed, which makes this list
  abbrev pub committing : Knowledge P E → List E → Knowledge P E
  committing v seen = record v { seen = seen; promises = v.promises - 1; owed = v.owed - 1 }

  -- room was made for so many events more
  abbrev pub promising : Knowledge P E → ℕ → Knowledge P E
  promising v more = record v { promises = v.promises + more; owed = v.owed + more }

  abbrev pub cutting : Knowledge P E → ℕ → Knowledge P E
  cutting v at = record v { cut = at }

  -- the numbers below the cut, with all that is in hand
  abbrev pub below : Knowledge P E → Knowledge P E
  below v = record v { middle = v.cut; end = v.cut }

  -- the numbers from the cut on, with nothing in hand
  abbrev pub above : Knowledge P E → Knowledge P E
  above v = record v { first = v.cut; held = []; out = None; promises = 0; owed = 0 }

  abbrev pub joining : Knowledge P E → Knowledge P E → Knowledge P E
  joining v w = record v { end = w.end; beside = w.seen; promises = v.promises + w.promises }

module _ {Z P E B T : Type 0} (m : Ghosts Z P E B T) where
  abbrev pub Slot : Type 0
  Slot = Option (Cargo P B)

  abbrev pub Mine : Type 0
  Mine = Me Slot (Knowledge P E)

  -- the slot k has what the list has made of its part, or the Book with the list
  abbrev pub Bears : List P → List E → ℕ → ℕ → Slot → Type 0
  Bears start log owed k c =
      (k < length start → (p : P) × (c ≡ Some (Part p)) × m.stands k p (state_after m start log))
      × (k ≡ length start → (b : B) × (c ≡ Some (Book b)) × (m.events b ≡ log) × (owed ≤ m.room b))

  -- the seat may see this list later
  abbrev pub LaterOf : Knowledge P E → List E → Type 0
  LaterOf v es = Later m v.start v.first v.end v.held v.seen es

  -- the slot k is in hand and not at home, as it was found
  pub record Takes (k : ℕ) (me new : Mine) : Type 0 where
    pub cargo : Slot
    pub carried : new.1 ≡ (k, cargo) ∷ me.1
    pub view : new.0 ≡ taking me.0 k new.0.seen new.0.owed
    pub later : LaterOf me.0 new.0.seen
    pub bears : Bears me.0.start new.0.seen new.0.owed k cargo
    pub owed : me.0.promises ≤ new.0.owed

  abbrev pub claimed : Step Slot → Mine → ℕ → Mine → Type 0
  claimed st me found new = (k : ℕ) → st.word ≡ k + 2 → (found ≢ 0 → new ≡ me) × (found ≡ 0 → Takes k me new)

  abbrev pub laid : Step Slot → Mine → ℕ → Mine → Type 0
  laid st me found new = new ≡ (laying me.0, rest me.1)

  abbrev pub fetched : Step Slot → Mine → ℕ → Mine → Type 0
  fetched st me found new = (k : ℕ) → st.word ≡ k + 2 → new ≡ (fetching me.0 k, (k, None) ∷ me.1)

  abbrev pub filled : Step Slot → Mine → ℕ → Mine → Type 0
  filled st me found new = (k : ℕ) → st.word ≡ k + 2 → new ≡ (giving me.0 k, rest me.1)

  -- the list is as long as the number found. It is later than what the seat saw, and than what a seat saw that was
  -- joined since its last look
  pub record Looks (me : Mine) (found : ℕ) (new : Mine) : Type 0 where
    pub is : new ≡ (looking me.0 new.0.seen, me.1)
    pub long : length new.0.seen ≡ found
    pub later : Later m me.0.start me.0.first me.0.middle me.0.held me.0.seen new.0.seen
    pub beside : me.0.middle < me.0.end → Later m me.0.start me.0.middle me.0.end [] me.0.beside new.0.seen

  abbrev pub looked : Step Slot → Mine → ℕ → Mine → Type 0
  looked st me found new = Looks me found new

  -- the list is that of the Book in hand
  abbrev pub committed : Step Slot → Mine → ℕ → Mine → Type 0
  committed st me found new =
      (k : ℕ) (b : B) → me.1 ≡ (k, Some (Book b)) ∷ [] → new ≡ (committing me.0 (m.events b), me.1)

  abbrev pub promised : Step Slot → Mine → ℕ → Mine → Type 0
  promised st me found new = new ≡ (promising me.0 st.first, me.1)

  abbrev pub marked : Step Slot → Mine → ℕ → Mine → Type 0
  marked st me found new = new ≡ (cutting me.0 st.first, me.1)

  -- a seat between two calls: each slot in hand is the empty one of a part, and lies at home
  pub record Rests (me : Mine) : Type 0 where
    pub bare : me.1 ≡ []
    pub home : me.0.out ≡ None
    pub live : me.0.first < me.0.end
    pub whole : me.0.middle ≡ me.0.end
    pub parts : (k : ℕ) → Has me.0 k → k < length me.0.start

  -- of a live seat that was joined to none since its last look, the slot k is in hand and not at home
  pub record IsAway (k : ℕ) (v : Knowledge P E) : Type 0 where
    pub live : v.first < v.end
    pub whole : v.middle ≡ v.end
    pub has : Has v k
    pub out : v.out ≡ Some k

  -- the Book lies in this slot, with this list and with room for so many events
  pub record HasBook (es : List E) (more : ℕ) (c : Slot) : Type 0 where
    pub book : B
    pub is : c ≡ Some (Book book)
    pub events : m.events book ≡ es
    pub room : more ≤ m.room book

  -- an event was put into it, which makes this list; these events have made this stop
  pub record HasPut (es : List E) (more : ℕ) (c : Slot) (stop : Option T) : Type 0 where
    pub book : HasBook es more c
    pub few : length es < 2 ^ 64
    pub stops : stop ≡ m.stop es

  -- the Book is in hand, in the slot k
  abbrev pub HoldsBook : ℕ → List E → ℕ → Mine → Type 0
  HoldsBook k es more me = (c : Slot) × (me.1 ≡ (k, c) ∷ []) × HasBook es more c

  -- the slot k is in hand and not at home, and has this cargo
  pub record Carries (k : ℕ) (me : Mine) (c : Slot) : Type 0 where
    pub live : me.0.first < me.0.end
    pub whole : me.0.middle ≡ me.0.end
    pub has : Has me.0 k
    pub out : me.0.out ≡ Some k
    pub carried : me.1 ≡ (k, c) ∷ []
