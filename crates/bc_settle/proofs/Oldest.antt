-- The oldest candidate that is due, among candidates whose numbers rise.
use Rattle.std.proofs.Common.{◌≡◌, ◌≢◌, ◌⊎◌, inl, inr, ℕ, suc, ◌<◌, ◌≤◌, Bool, true, false, List, [], ◌∷◌, Some, None, refl, sym, ap, ◌∙◌, subst, arith, if◌then◌else◌}
use Rattle.std.specs.Prelude.{◌&&◌, nat_lt, not}
use Rattle.std.proofs.lemmas.Bool.{cases_eq, ltb-true}
use Rattle.bc_flight.specs.Candidates.{AreNumbered, first_of, is_wanted, without_first}
use Rattle.bc_flight.specs.declared.candidate.Candidate.{Candidate}
use Rattle.bc_flight.specs.declared.candidate.Wanted.{Wanted}
use Rattle.bc_flight.specs.declared.candidate.Wanted.TheVariants.{Due}
use Rattle.bc_candidate.specs.bc_machine.World.{AreCandidatesOf, EachIsOf, IsAmong, IsCandidateOf, Kept}

same_one : (x c : Candidate) → Some x ≡ Some c → x ≡ c
same_one x c is = cc

none_one : (c : Candidate) → None ≡ Some c → ⊥
none_one c is = absurd (cc)

-- each is so high
above : (low next n : ℕ) (cs : List Candidate) → AreNumbered low next cs → IsAmong n cs → low ≤ n
above low next n [] h is = absurd is
above low next n (c ∷ cs) h (inl is) = let l = h.0 in omega (arith, l, is)
above low next n (c ∷ cs) h (inr is) =
    let l = h.0 in let rest = above (suc c.number) next n cs h.1 is in omega (arith, l, rest)

each_other : (kept new : ℕ → Kept) (cs : List Candidate)
    → ((n : ℕ) → IsAmong n cs → new n ≡ kept n) → EachIsOf kept cs → EachIsOf new cs
each_other kept new [] same h = tt
each_other kept new (c ∷ cs) same h = (
  subst (λ k. IsCandidateOf k c) (sym (same c.number (inl refl))) h.0,
  each_other kept new cs (λ n is. same n (inr is)) h.1,
)

module _ (wanted : Wanted) where
  -- the oldest that is wanted is one of them
  found : (kept : ℕ → Kept) (cs : List Candidate) (c : Candidate) → first_of wanted cs ≡ Some c
      → EachIsOf kept cs → (is_wanted wanted c ≡ true) × IsCandidateOf (kept c.number) c
  found kept [] c is h = absurd (none_one c is)
  found kept (x ∷ xs) c is h = go (λ at. found kept xs c at h.1) (is_wanted wanted x) refl is
    where
      go : (first_of wanted xs ≡ Some c
          → (is_wanted wanted c ≡ true) × IsCandidateOf (kept c.number) c)
          → (b : Bool) → is_wanted wanted x ≡ b
          → (if b then Some x else first_of wanted xs) ≡ Some c
          → (is_wanted wanted c ≡ true) × IsCandidateOf (kept c.number) c
      go later true on at = subst (λ (y : Candidate).
          (is_wanted wanted y ≡ true) × IsCandidateOf (kept y.number) y) (same_one x c at) (on, h.0)
      go later false off at = later at

  among_found : (cs : List Candidate) (c : Candidate) → first_of wanted cs ≡ Some c
      → IsAmong c.number cs
  among_found [] c is = absurd (none_one c is)
  among_found (x ∷ xs) c is = go (among_found xs c) (is_wanted wanted x) is
    where
      go : (first_of wanted xs ≡ Some c → IsAmong c.number xs) → (b : Bool)
          → (if b then Some x else first_of wanted xs) ≡ Some c → IsAmong c.number (x ∷ xs)
      go later true at = inl (ap (λ (y : Candidate). y.number) (same_one x c at))
      go later false at = inr (later at)

  each_without : (low next : ℕ) (cs : List Candidate) (c : Candidate) (kept new : ℕ → Kept)
      → AreNumbered low next cs → first_of wanted cs ≡ Some c
      → ((n : ℕ) → n ≢ c.number → new n ≡ kept n) → EachIsOf kept cs
      → EachIsOf new (without_first wanted cs)
  each_without low next [] c kept new numbers is same h = tt
  each_without low next (x ∷ xs) c kept new numbers is same h =
      go (λ at. each_without (suc x.number) next xs c kept new numbers.1 at same h.1)
      (is_wanted wanted x) is
    where
      go : (first_of wanted xs ≡ Some c → EachIsOf new (without_first wanted xs)) → (b : Bool)
          → (if b then Some x else first_of wanted xs) ≡ Some c
          → EachIsOf new (if b then xs else x ∷ without_first wanted xs)
      go later true at = each_other kept new xs (λ n there. same n (λ e.
          let its = ap (λ (y : Candidate). y.number) (same_one x c at) in
          let high = above (suc x.number) next n xs numbers.1 there in
          omega (arith, its, high, e)))
          h.1
      go later false at = (
        subst (λ k. IsCandidateOf k x) (sym (same x.number (λ e.
            let high = above (suc x.number) next c.number xs numbers.1 (among_found xs c at) in
            omega (arith, high, e)))) h.0,
        later at,
      )

  among_without : (n : ℕ) (cs : List Candidate) (c : Candidate) → first_of wanted cs ≡ Some c
      → n ≢ c.number → IsAmong n cs → IsAmong n (without_first wanted cs)
  among_without n [] c is ne there = absurd there
  among_without n (x ∷ xs) c is ne there =
      go (λ at rest. among_without n xs c at ne rest) (is_wanted wanted x) is there
    where
      go : (first_of wanted xs ≡ Some c → IsAmong n xs → IsAmong n (without_first wanted xs))
          → (b : Bool) → (if b then Some x else first_of wanted xs) ≡ Some c
          → IsAmong n (x ∷ xs) → IsAmong n (if b then xs else x ∷ without_first wanted xs)
      go later true at (inl e) =
          absurd (ne (sym e ∙ ap (λ (y : Candidate). y.number) (same_one x c at)))
      go later true at (inr rest) = rest
      go later false at (inl e) = inl e
      go later false at (inr rest) = inr (later at rest)

  not_both : (b : Bool) → b ≡ true → b ≡ false → ⊥
  not_both b on off = cc

  -- one less
  pub one_less : (next : ℕ) (cs : List Candidate) (c : Candidate) (kept new : ℕ → Kept)
      → AreNumbered 0 next cs → first_of wanted cs ≡ Some c
      → ((n : ℕ) → n ≢ c.number → new n ≡ kept n) → (new c.number).stands ≡ false
      → AreCandidatesOf cs kept → AreCandidatesOf (without_first wanted cs) new
  one_less next cs c kept new numbers is same gone h = record {
    each = each_without 0 next cs c kept new numbers is same h.each;
    all = λ n stands. all n stands (cases_eq n c.number);
  }
    where
      all : (n : ℕ) → (new n).stands ≡ true → (n ≡ c.number) ⊎ (n ≢ c.number)
          → IsAmong n (without_first wanted cs)
      all n stands (inl e) = absurd (not_both (new n).stands stands
          (ap (λ m. (new m).stands) e ∙ gone))
      all n stands (inr ne) = among_without n cs c is ne (h.all n
          (sym (ap (λ (k : Kept). k.stands) (same n ne)) ∙ stands))

-- one that is due stands alive, and its number is below
pub record IsDueOf (before : ℕ) (kept : ℕ → Kept) (c : Candidate) : Type 0 where
  pub alive : c.killed ≡ false
  pub below : c.number < before
  pub is : IsCandidateOf (kept c.number) c

due_parts : (b : Bool) (n before : ℕ) → (not b && nat_lt n before) ≡ true
    → (b ≡ false) × (n < before)
due_parts true n before on = absurd (cc)
due_parts false n before on = (refl, ltb-true n before on)

pub due_found : (before : ℕ) (kept : ℕ → Kept) (cs : List Candidate) (c : Candidate)
    → first_of (Due before) cs ≡ Some c → EachIsOf kept cs → IsDueOf before kept c
due_found before kept cs c is h =
    let both = found (Due before) kept cs c is h in
    let parts = due_parts c.killed c.number before both.0 in
    record { alive = parts.0; below = parts.1; is = both.1 }
