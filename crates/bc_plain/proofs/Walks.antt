-- What is found with one more pointer.
use Rattle.std.proofs.Common.{◌≡◌, ℕ, ◌+◌, ◌<◌, ◌∷◌, ◌++◌, [], List, length, take, get_or, sym, subst}
use Rattle.std.proofs.lemmas.List.{take_more}
use Rattle.bc_bucket.specs.declared.walk.Found.{Found}
use Rattle.bc_bucket.specs.declared.walk.Reference.{Reference}
use Rattle.bc_bucket.specs.Meaning.{IsFound}
use Rattle.bc_bucket.specs.Walk.{counted}

pub found_more : (own i : ℕ) (refs : List Reference) (f g : Found) (d : Reference) → i < length refs → IsFound own (take i refs) f → g ≡ counted own (get_or refs i d) f → ((own : ℕ) (refs : List Reference) (r : Reference) (found : Found) → IsFound own refs found → IsFound own (refs ++ r ∷ []) (counted own r found)) → IsFound own (take (i + 1) refs) g
found_more own i refs f g d low before is law =
    subst (λ (x : Found). IsFound own (take (i + 1) refs) x) (sym is)
    (subst (λ (rs : List Reference). IsFound own rs (counted own (get_or refs i d) f)) (sym (take_more refs i d low)) (law own (take i refs) (get_or refs i d) f before))
