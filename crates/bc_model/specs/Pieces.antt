-- How a request is cut: at each multiple of `piece_sectors`.
use Rattle.std.specs.Prelude.{◌≡◌, ℕ, zero, suc, ◌+◌, ◌-◌, ◌*◌, ◌/◌, List, [], ◌∷◌, ◌++◌, length, map, take, drop, max, min}
use Rattle.bc_model.specs.Sector.{Value}
use Rattle.bc_model.specs.declared.history.Entry.{Entry}
use Rattle.bc_model.specs.declared.history.Entry.TheVariants as entry

-- neighbouring sectors
pub record Piece : Type 0 where
  pub first : ℕ
  pub count : ℕ

-- how many sectors a piece has at most: a multiple of so many begins the next one
abbrev pub piece_sectors : ℕ
piece_sectors = 256

-- what a range has of the sectors of piece q
abbrev pub piece_in : ℕ → ℕ → ℕ → Piece
piece_in first count q = record {
  first = max first (piece_sectors * q);
  count = min (first + count) (piece_sectors * q + piece_sectors) - max first (piece_sectors * q);
}

-- so many of these, from number q on
abbrev pub pieces_from : ℕ → ℕ → ℕ → ℕ → List Piece
pieces_from first count q zero = []
pieces_from first count q (suc n) = piece_in first count q ∷ pieces_from first count (suc q) n

-- the pieces of a range that isn't empty, in order
abbrev pub pieces : ℕ → ℕ → List Piece
pieces first count = pieces_from first count (first / piece_sectors)
    ((first + count + (piece_sectors - 1)) / piece_sectors - first / piece_sectors)

-- a range is served up to a piece that is refused: these pieces are served
abbrev pub ServedUpTo : ℕ → ℕ → List Piece → Piece → Type 0
ServedUpTo first count served refused = (rest : List Piece) × (pieces first count ≡ served ++ refused ∷ rest)

-- one Read for each of these pieces, with as many values as it has sectors; one behind the other these are the values
abbrev pub AreReads : ℕ → ℕ → List Piece → List Value → List Entry → Type 0
AreReads worker line [] values entries = (values ≡ []) × (entries ≡ [])
AreReads worker line (p ∷ ps) values entries = (own : List Value) × (rest : List Value) × (later : List Entry)
    × (length own ≡ p.count) × (values ≡ own ++ rest) × (entries ≡ entry.Read worker line p.first own ∷ later) × AreReads worker line ps rest later

-- what a piece has of the values for the sectors from `first` on
abbrev pub piece_of : ℕ → List Value → Piece → List Value
piece_of first values p = take p.count (drop (p.first - first) values)

-- one Write for each of these pieces, with its part of the values for the sectors from `first` on
abbrev pub writes_of : ℕ → ℕ → ℕ → List Value → List Piece → List Entry
writes_of worker line first values pieces = map (λ p. entry.Write worker line p.first (piece_of first values p)) pieces
