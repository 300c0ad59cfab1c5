-- What is seen of a sector is one thing, so an answer has one text.
use Rattle.std.proofs.Common.{◌≡◌, ℕ, suc, ◌<◌, ◌≤◌, ◌^◌, List, [], ◌∷◌, take, refl, sym, ap, ◌∙◌, arith}
use Rattle.std.specs.Int.{w64, from_le_bytes}
use Rattle.std.proofs.lemmas.Nat.{from_le_bytes-to_le_bytes_8}
use Rattle.bc_model.specs.Sector.{Value}
use Rattle.bc_model.specs.Pattern.{pattern, zeros}
use Rattle.bc_script.specs.declared.answer.Answer.{Answer}
use Rattle.bc_script.specs.declared.answer.Answer.TheVariants.{Silent, Done, Runs, Refused}
use Rattle.bc_script.specs.declared.seen.Seen.{Seen}
use Rattle.bc_script.specs.declared.seen.Seen.TheVariants.{Stamp, Zero, Other}
use Rattle.bc_script.specs.Runs.{IsSeen, AreSeen, runs_text}
use Rattle.bc_script.specs.Answer.{IsText}

-- a pattern begins with its stamp, and zeros with 0
stamp_first : (stamp sector : ℕ) → stamp < 2 ^ 64 → from_le_bytes w64 (take 8 (pattern stamp sector)) ≡ stamp
unfolding pattern
stamp_first stamp sector fits = from_le_bytes-to_le_bytes_8 stamp fits

zero_first : from_le_bytes w64 (take 8 zeros) ≡ 0
unfolding zeros
zero_first = refl

one_stamp : (a b sector : ℕ) (value : Value) → a < 2 ^ 64 → b < 2 ^ 64 → value ≡ pattern a sector → value ≡ pattern b sector → a ≡ b
one_stamp a b sector value small_a small_b is_a is_b =
    sym (stamp_first a sector small_a) ∙ ap (λ (v : Value). from_le_bytes w64 (take 8 v)) (sym is_a ∙ is_b) ∙ stamp_first b sector small_b

no_stamp : (a sector : ℕ) (value : Value) → 1 ≤ a → a < 2 ^ 64 → value ≡ pattern a sector → value ≡ zeros → ⊥
no_stamp a sector value some small is_a is_zero =
    let none : a ≡ 0 = sym (stamp_first a sector small) ∙ ap (λ (v : Value). from_le_bytes w64 (take 8 v)) (sym is_a ∙ is_zero) ∙ zero_first in
    omega arith

one_seen : (sector : ℕ) (value : Value) (x y : Seen) → IsSeen sector value x → IsSeen sector value y → x ≡ y
one_seen sector value (Stamp a) (Stamp b) p q = ap Stamp (one_stamp a b sector value p.1 q.1 p.0.1 q.0.1)
one_seen sector value (Stamp a) Zero p q = absurd (no_stamp a sector value p.0.0 p.1 p.0.1 q)
one_seen sector value (Stamp a) (Other v) p q = absurd (q.0.1 a p.0.0 p.1 p.0.1)
one_seen sector value Zero (Stamp b) p q = absurd (no_stamp b sector value q.0.0 q.1 q.0.1 p)
one_seen sector value Zero Zero p q = refl
one_seen sector value Zero (Other v) p q = absurd (q.0.0 p)
one_seen sector value (Other u) (Stamp b) p q = absurd (p.0.1 b q.0.0 q.1 q.0.1)
one_seen sector value (Other u) Zero p q = absurd (p.0.0 q)
one_seen sector value (Other u) (Other v) p q = ap Other (p.1 ∙ sym q.1)

all_seen : (first : ℕ) (values : List Value) (xs ys : List Seen) → AreSeen first values xs → AreSeen first values ys → xs ≡ ys
all_seen first [] [] [] p q = refl
all_seen first [] [] (y ∷ ys) p q = absurd q
all_seen first [] (x ∷ xs) ys p q = absurd p
all_seen first (v ∷ vs) [] ys p q = absurd p
all_seen first (v ∷ vs) (x ∷ xs) [] p q = absurd q
all_seen first (v ∷ vs) (x ∷ xs) (y ∷ ys) p q =
    ap (λ (z : Seen). z ∷ xs) (one_seen first v x y p.0 q.0) ∙ ap (λ (zs : List Seen). y ∷ zs) (all_seen (suc first) vs xs ys p.1 q.1)

pub text_is_one : (answer : Answer) (a b : List ℕ) → IsText answer a → IsText answer b → a ≡ b
text_is_one Silent a b p q = p ∙ sym q
text_is_one Done a b p q = p ∙ sym q
text_is_one (Runs first values) a b p q = p.2 ∙ ap (λ (xs : List Seen). runs_text xs) (all_seen first values p.0 q.0 p.1 q.1) ∙ sym q.2
text_is_one (Refused refusal) a b p q = p ∙ sym q
