-- Places that became candidates, one behind the other.
use Rattle.std.specs.Prelude.{◌≡◌, ◌⊎◌, ℕ, ◌+◌, ◌<◌, ◌≤◌, List, [], ◌∷◌, length, take, drop, Option, Some, None}
use Rattle.bc_candidate.specs.Noted.{HasNoted, HasNotNoted, IsKeepable}
use Rattle.bc_disk.specs.Disk.{DiskFacts}
use Rattle.bc_events.specs.Run.{State}
use Rattle.bc_fill.specs.declared.fill.Placed.{Placed}
use Rattle.bc_stored.specs.All.{AreOwnApart, unpins}
use Rattle.bc_stored.specs.bc_deed.Asked.{IsHalted}
use Rattle.bc_stored.specs.bc_deed.Flushed.{HasDone}
use Rattle.bc_stored.specs.bc_hand.Seats.{Did, View, world}
use Rattle.bc_stored.specs.bc_hand.declared.error.StepError.{StepError}
use Rattle.bc_stored.specs.bc_machine.World.{FromEach, Origin}

-- each has a sector, and no more than a key can name
abbrev pub AreFit : List Placed → Type 0
AreFit [] = Unit {0}
AreFit (p ∷ ps) = ((1 ≤ p.count) × (p.count ≤ 32768)) × AreFit ps

-- what they have may be kept, one behind the other
abbrev pub AreKeepable : ℕ → ℕ → List Placed → Origin → State → Type 0
AreKeepable i first [] o st = Unit {0}
AreKeepable i first (p ∷ ps) o st =
    IsKeepable i first p o st × AreKeepable i (first + p.count) ps o st

module _ {C B : Type 0} (cache_facts : C → DiskFacts) (backing_facts : B → DiskFacts) where
  -- They became candidates for the sectors from `first` on.
  abbrev pub HaveNoted : ℕ → List Placed → View cache_facts backing_facts
      → View cache_facts backing_facts → Type 0
  HaveNoted first [] v w = w ≡ v
  HaveNoted first (p ∷ ps) v w = (number : ℕ) × (u : View cache_facts backing_facts)
      × HasNoted cache_facts backing_facts number first p v u
      × HaveNoted (first + p.count) ps u w

  -- no more may stand, or the run was halted
  abbrev pub HasRefused : Option StepError → View cache_facts backing_facts
      → View cache_facts backing_facts → Type 0
  HasRefused None v w = HasNotNoted cache_facts backing_facts v w
  HasRefused (Some e) v w = IsHalted e w.seen × Did cache_facts backing_facts None v w

  -- all of them were noted, or so many and the next was refused
  abbrev pub HasEnded : (count all : ℕ) → Option StepError → View cache_facts backing_facts
      → View cache_facts backing_facts → Type 0
  HasEnded count all e v w = ((count ≡ all) × (e ≡ None) × (w ≡ v))
      ⊎ ((count < all) × HasRefused e v w)

  -- So many of these places became candidates. The others are the seat's still.
  pub record HaveStopped (first count : ℕ) (e : Option StepError) (ps : List Placed)
      (v w : View cache_facts backing_facts) : Type 0 where
    pub noted : View cache_facts backing_facts
    pub were : HaveNoted first (take count ps) v noted
    pub ended : HasEnded count (length ps) e noted w
    pub own : FromEach (world cache_facts backing_facts w) (AreOwnApart w.first (drop count ps))

  -- So many became candidates, and the others were let go.
  pub record HaveLetGo (first count : ℕ) (e : Option StepError) (ps : List Placed)
      (v w : View cache_facts backing_facts) : Type 0 where
    pub stopped : View cache_facts backing_facts
    pub were : HaveStopped first count e ps v stopped
    pub let_go : HasDone cache_facts backing_facts (unpins (drop count ps)) stopped w

  abbrev pub HaveKept : (first count : ℕ) → List Placed → View cache_facts backing_facts
      → View cache_facts backing_facts → Type 0
  HaveKept first count ps v w = HaveLetGo first count None ps v w

  abbrev pub HaveNotKept : (first : ℕ) → StepError → List Placed → View cache_facts backing_facts
      → View cache_facts backing_facts → Type 0
  HaveNotKept first e ps v w = (count : ℕ) × HaveLetGo first count (Some e) ps v w
