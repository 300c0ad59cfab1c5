-- Words of a line.
use Rattle.std.proofs.Common.{◌≡◌, ◌∙◌, ℕ, suc, Bool, true, false, cond, List, [], ◌∷◌, ◌==◌, not, length, refl, ap, arith}
use Rattle.std.specs.Prelude.{filter}
use Rattle.std.proofs.lemmas.Bool.{ne_eqb}
use Rattle.bc_script.specs.Line.{is_word}

-- a word has a byte
pub same_words : (ws : List (List ℕ)) → filter (λ word. not (length word == 0)) ws ≡ filter is_word ws
same_words [] = refl
same_words ([] ∷ ws) = same_words ws
same_words ((b ∷ bs) ∷ ws) =
    ap (λ t. cond (not t) ((b ∷ bs) ∷ filter (λ word. not (length word == 0)) ws) (filter (λ word. not (length word == 0)) ws)) (ne_eqb (suc (length bs)) 0 (omega arith))
    ∙ ap (λ (rest : List (List ℕ)). (b ∷ bs) ∷ rest) (same_words ws)
