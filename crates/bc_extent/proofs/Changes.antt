-- The two sides of a range, and the keys between them.
use Rattle.std.proofs.Common.{inl, inr, ℕ, ◌+◌, ◌-◌, ◌<◌, ◌≤◌, List, [], ◌∷◌, length, Option, Some, None, arith}
use Rattle.std.specs.Prelude.{option_to_list, IfSome}
use Rattle.std.specs.List.{AllWithin}
use Rattle.std.proofs.lemmas.Bool.{cases_lt}
use Rattle.bc_key.specs.declared.key.Key.{Key}
use Rattle.bc_key.specs.Key.{start_of}
use Rattle.bc_extent.specs.Extents.{IsInOrder}
use Rattle.bc_extent.specs.Sides.{HoldsWithin}

-- a list that has a place has a key
some_key : (keys : List Key) (place : ℕ) → place < length keys → Key
some_key [] place inside = absurd (omega arith)
some_key (key ∷ keys) place inside = key

pub length-option : (key : Option Key) → length (option_to_list key) ≤ 1
length-option None = omega arith
length-option (Some key) = omega arith

module _ (keys : List Key) (order : IsInOrder keys) (first end below above : ℕ) (some : first < end) (within : below ≤ length keys) (ended : AllWithin (λ key. key.end ≤ first) keys 0 below) (later : AllWithin (λ key. end ≤ start_of key) keys above (length keys)) where
  -- no key ends before the range and begins behind it
  pub sides_meet : below ≤ above
  sides_meet = elim (cases_lt above below) [
    | inr apart ↦ apart
    | inl across ↦
        let key = some_key keys above (omega arith) in
        let low = ended above key (omega arith) across in
        let high = later above key (omega arith) (omega arith) in
        let range = order.0 above key (omega arith) in
        let extent = range.0 in
        let size = range.1 in
        absurd (omega arith)
  ]

  left_between : (part : Option Key) → IfSome part (λ _. HoldsWithin (λ key. start_of key < first) keys below) → length (option_to_list part) ≤ above - below
  left_between None cut = omega arith
  left_between (Some part) cut = elim (cases_lt below above) [
    | inl apart ↦ omega arith
    | inr across ↦
        let key = some_key keys below cut.0 in
        let begins = cut.1 key in
        let high = later below key across cut.0 in
        absurd (omega arith)
  ]

  right_between : (part : Option Key) → IfSome part (λ _. (0 < above) × HoldsWithin (λ key. end < key.end) keys (above - 1)) → length (option_to_list part) ≤ above - below
  right_between None cut = omega arith
  right_between (Some part) cut = elim (cases_lt below above) [
    | inl apart ↦ omega arith
    | inr across ↦
        let key = some_key keys (above - 1) cut.1.0 in
        let ends = cut.1.1 key in
        let some_before = cut.0 in
        let low = ended (above - 1) key (omega arith) (omega arith) in
        absurd (omega arith)
  ]

  -- with a key between them there are at most one more, and that key, than stood there
  pub few_between : (left right key : Option Key) → IfSome left (λ _. HoldsWithin (λ k. start_of k < first) keys below) → IfSome right (λ _. (0 < above) × HoldsWithin (λ k. end < k.end) keys (above - 1))
      → length (option_to_list left) + length (option_to_list key) + length (option_to_list right) ≤ above - below + 1 + length (option_to_list key)
  few_between left right key cut_left cut_right =
      let a = left_between left cut_left in
      let b = right_between right cut_right in
      let one = length-option left in
      let other = length-option right in
      omega arith
