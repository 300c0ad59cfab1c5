-- The pieces of a request.
use Rattle.std.proofs.Common.{◌≡◌, ℕ, zero, suc, ◌+◌, ◌-◌, ◌/◌, ◌^◌, ◌<◌, ◌≤◌, List, [], ◌∷◌, ◌++◌, subst, arith}
use Rattle.bc_model.specs.Pieces.{Piece, piece_in, pieces, pieces_from}
use Rattle.bc_refusals.specs.Laws.{AreInPiece}

-- one of these is that of some number
numbered : (first count q n : ℕ) (served rest : List Piece) (piece : Piece)
    → pieces_from first count q n ≡ served ++ piece ∷ rest
    → (k : ℕ) × (q ≤ k) × (k < q + n) × (piece_in first count k ≡ piece)
numbered first count q zero [] rest piece is = absurd (cc)
numbered first count q zero (x ∷ served) rest piece is = absurd (cc)
numbered first count q (suc n) [] rest piece is = (q, omega arith, omega arith, cc)
numbered first count q (suc n) (x ∷ served) rest piece is =
    let later : pieces_from first count (suc q) n ≡ served ++ piece ∷ rest = cc in
    let k = numbered first count (suc q) n served rest piece later in
    let low = k.1 in
    let high = k.2 in
    (k.0, omega arith, omega arith, k.3)

one_piece : (first count q : ℕ) → 0 < count → first + count ≤ 2 ^ 40 → first / 256 ≤ q
    → q < (first + count + 255) / 256
    → AreInPiece (piece_in first count q).first (piece_in first count q).count
one_piece first count q some below low high = record {
  some = omega arith;
  together = omega arith;
  below = omega arith;
}

pub in_piece : (first count : ℕ) (served rest : List Piece) (piece : Piece)
    → pieces first count ≡ served ++ piece ∷ rest → 0 < count → first + count ≤ 2 ^ 40
    → AreInPiece piece.first piece.count
in_piece first count served rest piece is some below =
    let k = numbered first count (first / 256) ((first + count + 255) / 256 - first / 256) served
    rest piece is in
    let low = k.1 in
    let high = k.2 in
    subst (λ (p : Piece). AreInPiece p.first p.count) k.3
    (one_piece first count k.0 some below low (omega arith))
