-- Which leaves have keys of the journal, part by part.
use Rattle.std.specs.Prelude.{ℕ, ◌%◌, ◌==◌, ◌&&◌, List, [], ◌∷◌, Bool, true, false, length, slice_index_or}
use Rattle.std.specs.List.{filter, range_with_len}
use Rattle.bc_pending.specs.declared.numbered.Numbered.{Numbered}

-- the journal has keys of a leaf
abbrev pub has_keys : List Numbered → Bool
has_keys [] = false
has_keys (key ∷ keys) = true

-- the leaf of this number, of which it has some, lies in a part, of so many
abbrev pub is_in : List (List Numbered) → ℕ → ℕ → ℕ → Bool
is_in pending count part number =
    has_keys (slice_index_or pending number []) && (number % count == part)

-- the numbers of all such leaves, in their order
abbrev pub numbers_in : List (List Numbered) → ℕ → ℕ → List ℕ
numbers_in pending count part =
    filter (is_in pending count part) (range_with_len 0 (length pending))

-- how many leaves have some
abbrev pub readings : List (List Numbered) → ℕ
readings pending = length (filter has_keys pending)
