-- The number of the oldest entry that has keys, entry after entry.
use Rattle.std.proofs.Common.{false, ◌≡◌, ◌≢◌, ◌⊎◌, inl, inr, ℕ, ◌+◌, ◌≤◌, List, [], ◌∷◌, length, min, take, sym, ◌∙◌, subst, arith, refl}
use Rattle.std.specs.Prelude.{IsTrue, All, Contains, Some, slice_get}
use Rattle.std.proofs.lemmas.Bool.{cases_lt}
use Rattle.std.proofs.lemmas.List.{take_all}
use Rattle.std.proofs.lemmas.List.Elements.{All-nil, All-cons, All-append, All-weaker}
use Rattle.bc_jset.specs.Entries.{FoundEntry}
use Rattle.bc_resume.proofs.Next.{contained, taken_next}

-- an entry that has keys doesn't lie before this one
abbrev pub IsNeeded : ℕ → FoundEntry → Type 0
IsNeeded low f = f.item.keys ≢ [] → low ≤ f.item.seq

abbrev pub IsReached : List FoundEntry → ℕ → ℕ → Type 0
IsReached es next low = (low ≡ next) ⊎ ((f : FoundEntry) × Contains es f × (f.item.keys ≢ []) × (low ≡ f.item.seq))

-- of the first i entries none that has keys lies before this one
pub record LowSoFar (es : List FoundEntry) (next low i : ℕ) : Type 0 where
  pub most : low ≤ next
  pub reached : IsReached es next low
  pub needed : All (IsNeeded low) (take i es)

pub not_false : ¬ (IsTrue false)
not_false e = absurd (cc)

pub low_first : (es : List FoundEntry) (next : ℕ) → LowSoFar es next next 0
low_first es next = record { most = omega arith; reached = inl refl; needed = All-nil (IsNeeded next) }

one_more : (es : List FoundEntry) (low new i : ℕ) (e : FoundEntry) → slice_get es i ≡ Some e → All (IsNeeded low) (take i es) → new ≤ low → IsNeeded new e
    → All (IsNeeded new) (take (i + 1) es)
one_more es low new i e here so down last =
    let weaker = All-weaker (IsNeeded low) (IsNeeded new) (λ (x : FoundEntry) need some. (let le = need some in omega (arith, le, down))) (take i es) so in
    subst (λ (xs : List FoundEntry). All (IsNeeded new) xs) (sym (taken_next es i e here))
    (All-append (IsNeeded new) (take i es) (e ∷ []) weaker (All-cons (IsNeeded new) e [] last (All-nil (IsNeeded new))))

pub low_kept : (es : List FoundEntry) (next low new i : ℕ) (e : FoundEntry) → LowSoFar es next low i → slice_get es i ≡ Some e → e.item.keys ≡ [] → new ≡ low → LowSoFar es next new (i + 1)
low_kept es next low new i e so here bare same =
    subst (λ n. LowSoFar es next n (i + 1)) (sym same)
    (record { most = so.most; reached = so.reached; needed = one_more es low low i e here so.needed (omega arith) (λ some. absurd (some bare)) })

pub low_lower : (es : List FoundEntry) (next low new i : ℕ) (e : FoundEntry) → LowSoFar es next low i → slice_get es i ≡ Some e → e.item.keys ≢ [] → new ≡ min low e.item.seq → LowSoFar es next new (i + 1)
low_lower es next low new i e so here some least =
    elim (cases_lt e.item.seq low) [
      | inl below ↦
          let what : new ≡ e.item.seq = least ∙ (omega arith) in
          let most = so.most in
          record {
            most = omega (arith, what, below, most);
            reached = inr (e, contained es i e here, some, what);
            needed = one_more es low new i e here so.needed (omega (arith, what, below)) (λ _. omega (arith, what));
          }
      | inr above ↦
          let what : new ≡ low = least ∙ (omega arith) in
          let most = so.most in
          record {
            most = omega (arith, what, most);
            reached = subst (λ n. IsReached es next n) (sym what) so.reached;
            needed = one_more es low new i e here so.needed (omega (arith, what)) (λ _. omega (arith, what, above));
          }
    ]

pub low_needed : (es : List FoundEntry) (next low i : ℕ) → length es ≤ i → LowSoFar es next low i → All (IsNeeded low) es
low_needed es next low i done so = subst (λ (xs : List FoundEntry). All (IsNeeded low) xs) (take_all i es done) so.needed
