-- The numbers of leaves, and those that are free.
use Rattle.std.specs.Prelude.{◌≡◌, ℕ, ◌%◌, ◌<◌, ◌≤◌, List, Contains}
use Rattle.bc_spine.specs.declared.leaf.LeafRange.{LeafRange}

-- some leaf has this number
abbrev pub HasNumber : List LeafRange → ℕ → Type 0
HasNumber leaves number = (leaf : LeafRange) × Contains leaves leaf × (leaf.number ≡ number)

-- the least number from n on that no leaf has
pub record IsLeastFree (leaves : List LeafRange) (n number : ℕ) : Type 0 where
  pub from : n ≤ number
  pub free : ¬ (HasNumber leaves number)
  pub least : (k : ℕ) → n ≤ k → k < number → HasNumber leaves k

-- Of the numbers that leave this rest by so many parts, the least one that no leaf has.
pub record IsLeastAlike (leaves : List LeafRange) (parts rest number : ℕ) : Type 0 where
  pub alike : number % parts ≡ rest
  pub free : ¬ (HasNumber leaves number)
  pub least : (k : ℕ) → k % parts ≡ rest → k < number → HasNumber leaves k
