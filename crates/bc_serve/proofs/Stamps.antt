-- The patterns of a line, piece by piece.
use Rattle.std.proofs.Common.{◌≡◌, ℕ, zero, suc, ◌+◌, ◌-◌, ◌/◌, ◌≤◌, List, [], ◌∷◌, ◌++◌, length, take, drop, refl, ap, ◌∙◌, subst, arith}
use Rattle.bc_model.specs.Sector.{Value}
use Rattle.bc_model.specs.Pattern.{pattern}
use Rattle.bc_model.specs.Values.{patterns}
use Rattle.bc_model.specs.Pieces.{Piece, piece_in, pieces_from, pieces, piece_of, writes_of, ServedUpTo}
use Rattle.bc_model.specs.declared.history.Entry.{Entry}
use Rattle.bc_model.specs.declared.history.Entry.TheVariants as entry
use Rattle.bc_script.specs.Served.{writes}

pub length_patterns : (stamp sector n : ℕ) → length (patterns stamp sector n) ≡ n
length_patterns stamp sector zero = refl
length_patterns stamp sector (suc n) = ap suc (length_patterns stamp (suc sector) n)

-- what stands behind the first d of them, and in front
front : (stamp sector n c : ℕ) → c ≤ n → take c (patterns stamp sector n) ≡ patterns stamp sector c
front stamp sector n zero h = refl
front stamp sector zero (suc c) h = absurd (omega arith)
front stamp sector (suc n) (suc c) h = ap (λ (vs : List Value). pattern stamp sector ∷ vs) (front stamp (suc sector) n c (omega arith))

behind : (stamp sector n d : ℕ) → d ≤ n → drop d (patterns stamp sector n) ≡ patterns stamp (sector + d) (n - d)
behind stamp sector n zero h = let a : sector ≡ sector + 0 = omega arith in let b : n ≡ n - 0 = omega arith in ap (λ k. patterns stamp k n) a ∙ ap (λ k. patterns stamp (sector + 0) k) b
behind stamp sector zero (suc d) h = absurd (omega arith)
behind stamp sector (suc n) (suc d) h =
    let a : suc sector + d ≡ sector + suc d = omega arith in
    let b : n - d ≡ suc n - suc d = omega arith in
    behind stamp (suc sector) n d (omega arith) ∙ ap (λ k. patterns stamp k (n - d)) a ∙ ap (λ k. patterns stamp (sector + suc d) k) b

-- a piece's part of the patterns of a range are the piece's own
abbrev pub IsOwn : ℕ → ℕ → ℕ → Piece → Type 0
IsOwn stamp first count p = piece_of first (patterns stamp first count) p ≡ patterns stamp p.first p.count

own_part : (stamp first count : ℕ) (p : Piece) → first ≤ p.first → p.first + p.count ≤ first + count → IsOwn stamp first count p
own_part stamp first count p low high =
    let d = p.first - first in
    let at : first + d ≡ p.first = omega arith in
    ap (λ (vs : List Value). take p.count vs) (behind stamp first count d (omega arith))
    ∙ front stamp (first + d) (count - d) p.count (omega arith)
    ∙ ap (λ k. patterns stamp k p.count) at

abbrev pub AllOwn : ℕ → ℕ → ℕ → List Piece → Type 0
AllOwn stamp first count [] = Unit {0}
AllOwn stamp first count (p ∷ ps) = IsOwn stamp first count p × AllOwn stamp first count ps

all_from : (stamp first count q n : ℕ) → first / 256 ≤ q → (q + n) ≤ (first + count + 255) / 256 → AllOwn stamp first count (pieces_from first count q n)
all_from stamp first count q zero low high = tt
all_from stamp first count q (suc n) low high = (own_part stamp first count (piece_in first count q) (omega arith) (omega arith), all_from stamp first count (suc q) n (omega arith) (omega arith))

pub all_own : (stamp first count : ℕ) → AllOwn stamp first count (pieces first count)
all_own stamp first count = all_from stamp first count (first / 256) ((first + count + 255) / 256 - first / 256) (omega arith) (omega arith)

own_front : (stamp first count : ℕ) (ps : List Piece) (p : Piece) (qs : List Piece) → AllOwn stamp first count (ps ++ p ∷ qs) → AllOwn stamp first count ps × IsOwn stamp first count p
own_front stamp first count [] p qs all = (tt, all.0)
own_front stamp first count (x ∷ xs) p qs all = let rest = own_front stamp first count xs p qs all.1 in ((all.0, rest.0), rest.1)

-- the Writes of pieces before one that is refused, and the refused one
pub own_up_to : (stamp first count : ℕ) (served : List Piece) (refused : Piece) → ServedUpTo first count served refused → AllOwn stamp first count served × IsOwn stamp first count refused
own_up_to stamp first count served refused upto = own_front stamp first count served refused upto.0 (subst (AllOwn stamp first count) upto.1 (all_own stamp first count))

pub writes_same : (worker line stamp first count : ℕ) (ps : List Piece) → AllOwn stamp first count ps → writes_of worker line first (patterns stamp first count) ps ≡ writes worker line stamp ps
writes_same worker line stamp first count [] all = refl
writes_same worker line stamp first count (p ∷ ps) all =
    ap (λ (vs : List Value). entry.Write worker line p.first vs ∷ writes_of worker line first (patterns stamp first count) ps) all.0
    ∙ ap (λ (es : List Entry). entry.Write worker line p.first (patterns stamp p.first p.count) ∷ es) (writes_same worker line stamp first count ps all.1)
