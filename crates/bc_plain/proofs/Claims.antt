-- The claims of a seat, one claim after the other.
use Rattle.std.proofs.Common.{◌≡◌, ℕ, ◌+◌, ◌<◌, ◌==◌, Bool, true, false, cond, List, [], ◌∷◌, ◌++◌, length, take, get_or, refl, sym, ap, ◌∙◌, if◌then◌else◌}
use Rattle.std.proofs.lemmas.List.{take_more}
use Rattle.bc_flight.specs.declared.claim.Claim.{Claim}
use Rattle.bc_flight.specs.Flight.{without}

pub without-append : (seat : ℕ) (cs ds : List Claim) → without seat (cs ++ ds) ≡ without seat cs ++ without seat ds
without-append seat [] ds = refl
without-append seat (c ∷ cs) ds = go (c.seat == seat) (without-append seat cs ds)
  where
    go : (b : Bool) → without seat (cs ++ ds) ≡ without seat cs ++ without seat ds → cond {A = List Claim} b (without seat (cs ++ ds)) (c ∷ without seat (cs ++ ds)) ≡ cond {A = List Claim} b (without seat cs) (c ∷ without seat cs) ++ without seat ds
    go true same = same
    go false same = ap (λ (xs : List Claim). c ∷ xs) same

pub kept_more : (seat i : ℕ) (cs others more : List Claim) (d : Claim) → i < length cs → others ≡ without seat (take i cs) → more ≡ others ++ without seat (get_or cs i d ∷ []) → more ≡ without seat (take (i + 1) cs)
kept_more seat i cs others more d low before is =
    is
    ∙ ap (λ (xs : List Claim). xs ++ without seat (get_or cs i d ∷ [])) before
    ∙ sym (ap (λ (xs : List Claim). without seat xs) (take_more cs i d low) ∙ without-append seat (take i cs) (get_or cs i d ∷ []))
