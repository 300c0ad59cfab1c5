-- Lists of candidates, whose numbers rise, and the candidates of the core.
use Rattle.std.proofs.Common.{◌≡◌, ◌≢◌, ◌⊎◌, inl, inr, ℕ, suc, ◌≤◌, Bool, true, false, List, [], ◌∷◌, ◌++◌, Some, None, refl, sym, ap, ◌∙◌, subst, arith, if◌then◌else◌}
use Rattle.std.specs.Prelude.{not}
use Rattle.std.proofs.lemmas.Bool.{cases_eq}
use Rattle.bc_flight.specs.Candidates.{AreNumbered, first_of, without_first}
use Rattle.bc_flight.specs.declared.candidate.Candidate.{Candidate}
use Rattle.bc_flight.specs.declared.candidate.Wanted.TheVariants.{Dead}
use Rattle.bc_place.specs.bc_machine.World.{AreCandidatesOf, EachIsOf, IsAmong, IsCandidateOf, Kept}

-- ---- numbers

ends : (low next : ℕ) (cs : List Candidate) → AreNumbered low next cs → low ≤ next
ends low next [] h = h
ends low next (c ∷ cs) h =
    let rest = ends (suc c.number) next cs h.1 in let n = h.0 in omega (arith, rest, n)

-- the next number is none of theirs
pub not_among : (low next : ℕ) (cs : List Candidate) → AreNumbered low next cs → IsAmong next cs → ⊥
not_among low next [] h is = is
not_among low next (c ∷ cs) h (inl is) =
    let rest = ends (suc c.number) next cs h.1 in omega (arith, rest, is)
not_among low next (c ∷ cs) h (inr is) = not_among (suc c.number) next cs h.1 is

-- each is so high
above : (low next n : ℕ) (cs : List Candidate) → AreNumbered low next cs → IsAmong n cs → low ≤ n
above low next n [] h is = absurd is
above low next n (c ∷ cs) h (inl is) = let l = h.0 in omega (arith, l, is)
above low next n (c ∷ cs) h (inr is) =
    let l = h.0 in let rest = above (suc c.number) next n cs h.1 is in omega (arith, l, rest)

-- ---- one more

each_other : (kept new : ℕ → Kept) (cs : List Candidate)
    → ((n : ℕ) → IsAmong n cs → new n ≡ kept n) → EachIsOf kept cs → EachIsOf new cs
each_other kept new [] same h = tt
each_other kept new (c ∷ cs) same h = (
  subst (λ k. IsCandidateOf k c) (sym (same c.number (inl refl))) h.0,
  each_other kept new cs (λ n is. same n (inr is)) h.1,
)

each_more : (kept : ℕ → Kept) (cs : List Candidate) (c : Candidate) → EachIsOf kept cs
    → IsCandidateOf (kept c.number) c → EachIsOf kept (cs ++ c ∷ [])
each_more kept [] c h one = (one, tt)
each_more kept (x ∷ xs) c h one = (h.0, each_more kept xs c h.1 one)

among_old : (n : ℕ) (cs : List Candidate) (c : Candidate) → IsAmong n cs → IsAmong n (cs ++ c ∷ [])
among_old n [] c is = absurd is
among_old n (x ∷ xs) c (inl is) = inl is
among_old n (x ∷ xs) c (inr is) = inr (among_old n xs c is)

among_new : (n : ℕ) (cs : List Candidate) (c : Candidate) → c.number ≡ n → IsAmong n (cs ++ c ∷ [])
among_new n [] c is = inl is
among_new n (x ∷ xs) c is = inr (among_new n xs c is)

pub one_more : (next : ℕ) (cs : List Candidate) (c : Candidate) (kept new : ℕ → Kept)
    → AreNumbered 0 next cs → c.number ≡ next → ((n : ℕ) → n ≢ next → new n ≡ kept n)
    → IsCandidateOf (new c.number) c → AreCandidatesOf cs kept → AreCandidatesOf (cs ++ c ∷ []) new
one_more next cs c kept new numbers is same one h = record {
  each = each_more new cs c (each_other kept new cs (λ n there. same n (λ e.
      not_among 0 next cs numbers (subst (λ m. IsAmong m cs) e there))) h.each) one;
  all = λ n stands. all n stands (cases_eq n next);
}
  where
    all : (n : ℕ) → (new n).stands ≡ true → (n ≡ next) ⊎ (n ≢ next) → IsAmong n (cs ++ c ∷ [])
    all n stands (inl e) = among_new n cs c (is ∙ sym e)
    all n stands (inr ne) = among_old n cs c (h.all n
        (sym (ap (λ (k : Kept). k.stands) (same n ne)) ∙ stands))

-- ---- one less

same_one : (x c : Candidate) → Some x ≡ Some c → x ≡ c
same_one x c is = cc

none_one : (c : Candidate) → None ≡ Some c → ⊥
none_one c is = absurd (cc)

one_none : (c : Candidate) → Some c ≡ None → ⊥
one_none c is = absurd (cc)

-- the oldest that was killed is one of them
pub found : (kept : ℕ → Kept) (cs : List Candidate) (c : Candidate) → first_of Dead cs ≡ Some c
    → EachIsOf kept cs → (c.killed ≡ true) × IsCandidateOf (kept c.number) c
found kept [] c is h = absurd (none_one c is)
found kept (x ∷ xs) c is h = go (λ at. found kept xs c at h.1) x.killed refl is
  where
    go : (first_of Dead xs ≡ Some c → (c.killed ≡ true) × IsCandidateOf (kept c.number) c)
        → (b : Bool) → x.killed ≡ b → (if b then Some x else first_of Dead xs) ≡ Some c
        → (c.killed ≡ true) × IsCandidateOf (kept c.number) c
    go later true killed at =
        subst (λ (y : Candidate). (y.killed ≡ true) × IsCandidateOf (kept y.number) y)
        (same_one x c at) (killed, h.0)
    go later false alive at = later at

among_found : (cs : List Candidate) (c : Candidate) → first_of Dead cs ≡ Some c
    → IsAmong c.number cs
among_found [] c is = absurd (none_one c is)
among_found (x ∷ xs) c is = go (among_found xs c) x.killed is
  where
    go : (first_of Dead xs ≡ Some c → IsAmong c.number xs) → (b : Bool)
        → (if b then Some x else first_of Dead xs) ≡ Some c → IsAmong c.number (x ∷ xs)
    go later true at = inl (ap (λ (y : Candidate). y.number) (same_one x c at))
    go later false at = inr (later at)

each_without : (low next : ℕ) (cs : List Candidate) (c : Candidate) (kept new : ℕ → Kept)
    → AreNumbered low next cs → first_of Dead cs ≡ Some c
    → ((n : ℕ) → n ≢ c.number → new n ≡ kept n) → EachIsOf kept cs
    → EachIsOf new (without_first Dead cs)
each_without low next [] c kept new numbers is same h = tt
each_without low next (x ∷ xs) c kept new numbers is same h =
    go (λ at. each_without (suc x.number) next xs c kept new numbers.1 at same h.1) x.killed is
  where
    go : (first_of Dead xs ≡ Some c → EachIsOf new (without_first Dead xs)) → (b : Bool)
        → (if b then Some x else first_of Dead xs) ≡ Some c
        → EachIsOf new (if b then xs else x ∷ without_first Dead xs)
    go later true at = each_other kept new xs (λ n there. same n (λ e.
        let its = ap (λ (y : Candidate). y.number) (same_one x c at) in
        let high = above (suc x.number) next n xs numbers.1 there in omega (arith, its, high, e)))
        h.1
    go later false at = (
      subst (λ k. IsCandidateOf k x) (sym (same x.number (λ e.
          let high = above (suc x.number) next c.number xs numbers.1 (among_found xs c at) in
          omega (arith, high, e)))) h.0,
      later at,
    )

among_without : (n : ℕ) (cs : List Candidate) (c : Candidate) → first_of Dead cs ≡ Some c
    → n ≢ c.number → IsAmong n cs → IsAmong n (without_first Dead cs)
among_without n [] c is ne there = absurd there
among_without n (x ∷ xs) c is ne there =
    go (λ at rest. among_without n xs c at ne rest) x.killed is there
  where
    go : (first_of Dead xs ≡ Some c → IsAmong n xs → IsAmong n (without_first Dead xs)) → (b : Bool)
        → (if b then Some x else first_of Dead xs) ≡ Some c → IsAmong n (x ∷ xs)
        → IsAmong n (if b then xs else x ∷ without_first Dead xs)
    go later true at (inl e) =
        absurd (ne (sym e ∙ ap (λ (y : Candidate). y.number) (same_one x c at)))
    go later true at (inr rest) = rest
    go later false at (inl e) = inl e
    go later false at (inr rest) = inr (later at rest)

pub one_less : (next : ℕ) (cs : List Candidate) (c : Candidate) (kept new : ℕ → Kept)
    → AreNumbered 0 next cs → first_of Dead cs ≡ Some c
    → ((n : ℕ) → n ≢ c.number → new n ≡ kept n) → (new c.number).stands ≡ false
    → AreCandidatesOf cs kept → AreCandidatesOf (without_first Dead cs) new
one_less next cs c kept new numbers is same gone h = record {
  each = each_without 0 next cs c kept new numbers is same h.each;
  all = λ n stands. all n stands (cases_eq n c.number);
}
  where
    not_both : (b : Bool) → b ≡ true → b ≡ false → ⊥
    not_both b on off = cc

    all : (n : ℕ) → (new n).stands ≡ true → (n ≡ c.number) ⊎ (n ≢ c.number)
        → IsAmong n (without_first Dead cs)
    all n stands (inl e) = absurd (not_both (new n).stands stands
        (ap (λ m. (new m).stands) e ∙ gone))
    all n stands (inr ne) = among_without n cs c is ne (h.all n
        (sym (ap (λ (k : Kept). k.stands) (same n ne)) ∙ stands))

-- where none was killed, each is alive
pub all_alive : (kept : ℕ → Kept) (cs : List Candidate) → first_of Dead cs ≡ None
    → EachIsOf kept cs → (n : ℕ) → IsAmong n cs → (kept n).alive ≡ true
all_alive kept [] is h n there = absurd there
all_alive kept (x ∷ xs) is h n there =
    go (λ at rest. all_alive kept xs at h.1 n rest) x.killed refl is there
  where
    go : (first_of Dead xs ≡ None → IsAmong n xs → (kept n).alive ≡ true) → (b : Bool)
        → x.killed ≡ b → (if b then Some x else first_of Dead xs) ≡ None
        → IsAmong n (x ∷ xs) → (kept n).alive ≡ true
    go later true killed at there = absurd (one_none x at)
    go later false alive at (inl e) =
        subst (λ m. (kept m).alive ≡ true) e (h.0.alive ∙ ap not alive)
    go later false alive at (inr rest) = later at rest
