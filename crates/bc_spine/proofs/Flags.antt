-- Flags of numbers.
use Rattle.std.proofs.Common.{◌≡◌, ◌⊎◌, inl, inr, ℕ, ◌+◌, ◌<◌, ◌≤◌, Bool, true, false, List, length, get_or, ap, ◌∙◌, arith}
use Rattle.std.specs.Prelude.{All, ◌↔◌}
use Rattle.std.proofs.lemmas.Bool.{cases_lt}
use Rattle.std.proofs.lemmas.List.{get_or_default}
use Rattle.std.proofs.lemmas.List.Elements.{All-contains}
use Rattle.bc_spine.proofs.Rows.{no_leaf}
use Rattle.bc_spine.specs.declared.leaf.LeafRange.{LeafRange}
use Rattle.bc_spine.specs.Numbers.{HasNumber, IsLeastFree}

-- some leaf below a place has this number
abbrev pub HasNumberBelow : List LeafRange → ℕ → ℕ → Type 0
HasNumberBelow leaves i number = (k : ℕ) × (k < i) × (k < length leaves) × ((d : LeafRange) → (get_or leaves k d).number ≡ number)

-- the flags that are set are those of the first leaves
abbrev pub AreFlags : List LeafRange → ℕ → List Bool → Type 0
AreFlags leaves i flags = (k : ℕ) → k < length flags → (get_or flags k false ≡ true) ↔ HasNumberBelow leaves i k

-- all of them
pub all_flagged : (leaves : List LeafRange) (flags : List Bool) → AreFlags leaves (length leaves) flags → (k : ℕ) → k < length flags → (get_or flags k false ≡ true) ↔ HasNumber leaves k
all_flagged leaves flags old k within = (
  λ set_now. there ((old k within).0 set_now),
  λ h. (old k within).1 (h.1.0, h.1.1, h.1.1, λ d. ap (λ (x : LeafRange). x.number) (get_or_default leaves h.1.0 d h.0 h.1.1 ∙ h.1.2) ∙ h.2),
)
  where
    there : HasNumberBelow leaves (length leaves) k → HasNumber leaves k
    there h = (get_or leaves h.0 no_leaf, (h.0, h.2, get_or_default leaves h.0 (get_or leaves h.0 no_leaf) no_leaf h.2), h.3 no_leaf)

-- the first flag that isn't set is of the least number
pub least_unset : (leaves : List LeafRange) (flags : List Bool) (from most number : ℕ) → ((k : ℕ) → k < length flags → (get_or flags k false ≡ true) ↔ HasNumber leaves k)
    → All (λ leaf. leaf.number ≤ most) leaves → from ≤ most → length flags ≡ most + 2 → from ≤ number → number ≤ length flags
    → (number < length flags → get_or flags number false ≡ false) → ((k : ℕ) → from ≤ k → k < number → get_or flags k false ≡ true) → IsLeastFree leaves from number
least_unset leaves flags from most number are all some long low high unset set_before = record {
  from = low;
  free = λ h. go h (cases_lt number (length flags));
  least = λ k a b. (are k (omega arith)).0 (set_before k a b);
}
  where
    go : HasNumber leaves number → (number < length flags) ⊎ (length flags ≤ number) → ⊥
    go h (inl less) = let on = (are number less).1 h in let off = unset less in absurd (cc)
    go h (inr more) = let small = All-contains (λ (x : LeafRange). x.number ≤ most) leaves h.0 all h.1 in omega (arith, small, h.2)
