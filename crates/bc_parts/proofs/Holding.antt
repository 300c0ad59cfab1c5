-- Which parts are in hand, after a part is taken and after it is given back.
use Rattle.std.proofs.Common.{◌≡◌, ◌≢◌, ℕ, Bool, not, if◌then◌else◌, List, [], ◌∷◌, refl, sym, ap, ◌∙◌, subst, inl, inr, ⊎_elim, eq-eqb, ne_eqb}
use mathlib.Core.Logic.{dite}
use native.Mathlib.Decide.{ℕ_discrete}
use Rattle.bc_parts.specs.Seat.{Holds, without}

abbrev kept_if : Bool → ℕ → List ℕ → List ℕ
kept_if b h hs = if not b then h ∷ hs else hs

-- what is not the part k itself stays
without_other : (k h : ℕ) (hs : List ℕ) → h ≢ k → without k (h ∷ hs) ≡ h ∷ without k hs
without_other k h hs other = ap (λ b. kept_if b h (without k hs)) (ne_eqb h k other)

without_same : (k h : ℕ) (hs : List ℕ) → h ≡ k → without k (h ∷ hs) ≡ without k hs
without_same k h hs same = ap (λ b. kept_if b h (without k hs)) (eq-eqb h k same)

-- a part that is in hand after k was given back was in hand before, and is another
pub Holds-without : (k i : ℕ) (hs : List ℕ) → Holds (without k hs) i → (i ≢ k) × Holds hs i
Holds-without k i [] here = absurd here
Holds-without k i (h ∷ hs) here = dite (ℕ_discrete h k)
    (λ same. let t = Holds-without k i hs (subst (λ l. Holds l i) (without_same k h hs same) here) in (t.0, inr t.1))
    (λ other. ⊎_elim (λ (is : i ≡ h). ((λ e. other (sym is ∙ e)), inl is))
    (λ (there : Holds (without k hs) i). let t = Holds-without k i hs there in (t.0, inr t.1))
    (subst (λ l. Holds l i) (without_other k h hs other) here))

-- another part than k stays in hand
pub without-Holds : (k i : ℕ) (hs : List ℕ) → i ≢ k → Holds hs i → Holds (without k hs) i
without-Holds k i [] other here = here
without-Holds k i (h ∷ hs) other here = dite (ℕ_discrete h k)
    (λ same. subst (λ l. Holds l i) (sym (without_same k h hs same)) (⊎_elim (λ (is : i ≡ h). absurd (other (is ∙ same))) (λ (there : Holds hs i). without-Holds k i hs other there) here))
    (λ ne. subst (λ l. Holds l i) (sym (without_other k h hs ne)) (⊎_elim (λ (is : i ≡ h). inl is) (λ (there : Holds hs i). inr (without-Holds k i hs other there)) here))

-- where k is not in hand, nothing is given back
pub without-none : (k : ℕ) (hs : List ℕ) → (Holds hs k → ⊥) → without k hs ≡ hs
without-none k [] none = refl
without-none k (h ∷ hs) none = without_other k h hs (λ e. none (inl (sym e))) ∙ ap (λ l. h ∷ l) (without-none k hs (λ there. none (inr there)))

-- a part that is taken and given back leaves in hand what was
pub without-taken : (k : ℕ) (hs : List ℕ) → (Holds hs k → ⊥) → without k (k ∷ hs) ≡ hs
without-taken k hs none = without_same k k hs refl ∙ without-none k hs none

-- the only part in hand is given back
pub without-last : (k : ℕ) → without k (k ∷ []) ≡ []
without-last k = without-taken k [] (λ none. none)
