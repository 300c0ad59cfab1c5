-- How far candidates are firm, as a seat knows it. It is said from each opening of the core from
-- which the run so far is one.
use Rattle.std.specs.Prelude.{◌≡◌, ℕ, ◌<◌, ◌≤◌, true, Some}
use Rattle.bc_deed.specs.bc_hand.Seats.{Did, View, world}
use Rattle.bc_deed.specs.bc_machine.World.{FromEach, Origin, World, candidates_noted}
use Rattle.bc_disk.specs.Disk.{DiskFacts}
use Rattle.bc_events.specs.Run.{State}
use Rattle.bc_events.specs.declared.event.Deed.TheVariants as deed

-- A barrier of the backing device came behind each candidate that has a number below this one.
abbrev pub IsFirmBelow : ℕ → Origin → State → Type 0
IsFirmBelow n o st = (c : ℕ) → c < n → (st.machine.whole.flow.candidates c).firm ≡ true

-- So many candidates were noted, and each of them is firm. Which it was the claims in hand tell no
-- more later, but no later one gets the number of one before.
pub record AreFirm (n : ℕ) (x : World) : Type 0 where
  pub noted : n ≤ candidates_noted x.log
  pub firm : FromEach x (IsFirmBelow n)

module _ {C B : Type 0} (cache_facts : C → DiskFacts) (backing_facts : B → DiskFacts) where
  -- A barrier was made, behind which all candidates below this number are firm; those that the seat
  -- had seen noted are among them.
  pub record HasMadeFirm (n : ℕ) (v w : View cache_facts backing_facts) : Type 0 where
    pub did : Did cache_facts backing_facts (Some deed.BackingBarrier) v w
    pub seen : candidates_noted (world cache_facts backing_facts v).log ≤ n
    pub firm : AreFirm n (world cache_facts backing_facts w)
