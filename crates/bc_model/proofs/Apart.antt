-- Runs of which none goes on in the next one.
use Rattle.std.proofs.Common.{◌≡◌, List, [], ◌∷◌, ◌++◌, Option, Some, sym, subst}
use Rattle.std.specs.Prelude.{option_to_list}
use Rattle.bc_model.specs.declared.run.Run.{Run}
use Rattle.bc_model.specs.Values.{AreApart, AreOne, IsApart}

apart_more : (first : Run) (rest : List Run) (last run : Run) → IsApart first (rest ++ last ∷ [])
    → IsApart first ((rest ++ last ∷ []) ++ run ∷ [])
apart_more first [] last run apart = apart
apart_more first (x ∷ xs) last run apart = apart

-- a run behind them in which the last doesn't go on
pub apart_pushed : (rest : List Run) (last run : Run) → AreApart (rest ++ last ∷ [])
    → (AreOne last run → ⊥) → AreApart ((rest ++ last ∷ []) ++ run ∷ [])
apart_pushed [] last run apart never = (never, (tt, tt))
apart_pushed (x ∷ xs) last run apart never =
    (apart_more x xs last run apart.0, apart_pushed xs last run apart.1 never)

apart_so : (first : Run) (rest : List Run) (last both : Run)
    → ((before : Run) → AreOne before both → AreOne before last)
    → IsApart first (rest ++ last ∷ []) → IsApart first (rest ++ both ∷ [])
apart_so first [] last both begins apart = λ one. apart (begins first one)
apart_so first (x ∷ xs) last both begins apart = apart

-- a run in place of the last that begins as that does
pub apart_joined : (rest : List Run) (last both : Run)
    → ((before : Run) → AreOne before both → AreOne before last)
    → AreApart (rest ++ last ∷ []) → AreApart (rest ++ both ∷ [])
apart_joined [] last both begins apart = (tt, tt)
apart_joined (x ∷ xs) last both begins apart =
    (apart_so x xs last both begins apart.0, apart_joined xs last both begins apart.1)

-- the same of a list and what may stand behind it
pub joined_pushed : (rest new : List Run) (o : Option Run) (last run : Run) → AreApart (rest ++ option_to_list o)
    → o ≡ Some last → (AreOne last run → ⊥) → new ≡ rest ++ last ∷ [] → AreApart (new ++ run ∷ [])
joined_pushed rest new o last run apart is never e =
    let whole : AreApart (rest ++ last ∷ []) = subst (λ (q : Option Run). AreApart (rest ++ option_to_list q)) is apart in
    subst (λ (rs : List Run). AreApart (rs ++ run ∷ [])) (sym e) (apart_pushed rest last run whole never)

pub joined_replaced : (rest : List Run) (o : Option Run) (last both : Run) → AreApart (rest ++ option_to_list o)
    → o ≡ Some last → ((before : Run) → AreOne before both → AreOne before last) → AreApart (rest ++ both ∷ [])
joined_replaced rest o last both apart is begins = apart_joined rest last both begins
    (subst (λ (q : Option Run). AreApart (rest ++ option_to_list q)) is apart)

pub joined_alone : (rest : List Run) (run : Run) → rest ≡ [] → AreApart (rest ++ run ∷ [])
joined_alone rest run none = subst (λ (rs : List Run). AreApart (rs ++ run ∷ [])) (sym none) (tt, tt)
