-- A bucket that goes to the first list that has room.
use Rattle.std.proofs.Common.{◌≡◌, ℕ, zero, suc, ◌<◌, true, false, List, [], ◌∷◌, length, get_or, set, refl, ap, ◌∙◌, arith, if◌then◌else◌}
use Rattle.bc_alloc.specs.Reserve.{Reserve, no_reserve, appended, prepended, has_room}
use Rattle.bc_alloc.specs.Reserves.{put_back, returned, stored}

pub stored_at : (k : ℕ) (ls : List Reserve) (i : ℕ) → i < length ls → has_room (get_or ls i no_reserve) ≡ true → ((j : ℕ) → j < i → has_room (get_or ls j no_reserve) ≡ false) → stored k ls ≡ set ls i (appended k (get_or ls i no_reserve))
stored_at k [] i within room full = absurd (omega arith)
stored_at k (l ∷ ls) zero within room full = ap (λ b. if b then appended k l ∷ ls else l ∷ stored k ls) room
stored_at k (l ∷ ls) (suc i) within room full =
    ap (λ b. if b then appended k l ∷ ls else l ∷ stored k ls) (full 0 (omega arith))
    ∙ ap (λ (xs : List Reserve). l ∷ xs) (stored_at k ls i (omega arith) room (λ j lt. full (suc j) (omega arith)))

pub stored_nowhere : (k : ℕ) (ls : List Reserve) → ((j : ℕ) → j < length ls → has_room (get_or ls j no_reserve) ≡ false) → stored k ls ≡ ls
stored_nowhere k [] full = refl
stored_nowhere k (l ∷ ls) full =
    ap (λ b. if b then appended k l ∷ ls else l ∷ stored k ls) (full 0 (omega arith))
    ∙ ap (λ (xs : List Reserve). l ∷ xs) (stored_nowhere k ls (λ j lt. full (suc j) (omega arith)))

-- it is the first list that has room
abbrev pub IsFirst : List Reserve → ℕ → Type 0
IsFirst ls i = (i < length ls) × (has_room (get_or ls i no_reserve) ≡ true) × ((j : ℕ) → j < i → has_room (get_or ls j no_reserve) ≡ false)

pub returned_at : (k : ℕ) (ls : List Reserve) → 0 < length ls → has_room (get_or ls 0 no_reserve) ≡ true → returned k ls ≡ set ls 0 (appended k (get_or ls 0 no_reserve))
returned_at k [] within room = absurd (omega arith)
returned_at k (l ∷ ls) within room = ap (λ b. (if b then appended k l else l) ∷ ls) room

pub returned_nowhere : (k : ℕ) (ls : List Reserve) → has_room (get_or ls 0 no_reserve) ≡ false → returned k ls ≡ ls
returned_nowhere k [] full = refl
returned_nowhere k (l ∷ ls) full = ap (λ b. (if b then appended k l else l) ∷ ls) full

pub put_back_at : (k : ℕ) (ls : List Reserve) → 0 < length ls → has_room (get_or ls 0 no_reserve) ≡ true → put_back k ls ≡ set ls 0 (prepended k (get_or ls 0 no_reserve))
put_back_at k [] within room = absurd (omega arith)
put_back_at k (l ∷ ls) within room = ap (λ b. (if b then prepended k l else l) ∷ ls) room

pub put_back_nowhere : (k : ℕ) (ls : List Reserve) → has_room (get_or ls 0 no_reserve) ≡ false → put_back k ls ≡ ls
put_back_nowhere k [] full = refl
put_back_nowhere k (l ∷ ls) full = ap (λ b. (if b then prepended k l else l) ∷ ls) full
