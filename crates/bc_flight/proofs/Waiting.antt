-- Lists of candidates.
use Rattle.std.proofs.Common.{◌≡◌, ℕ, suc, ◌+◌, ◌<◌, ◌≤◌, Bool, true, false, List, [], ◌∷◌, ◌++◌, length, drop, get_or, Some, refl, sym, ap, ◌∙◌, subst, arith, if◌then◌else◌}
use Rattle.std.specs.Prelude.{slice_get}
use Rattle.std.proofs.lemmas.List.{drop_more, length-map}
use Rattle.std.proofs.lemmas.Option.{slice_get-get_or}
use Rattle.bc_flight.specs.declared.candidate.Candidate.{Candidate}
use Rattle.bc_flight.specs.declared.candidate.Wanted.{Wanted}
use Rattle.bc_flight.specs.Candidates.{is_over, killed_over, kill_over, is_wanted, first_of, without_first, AreNumbered}

-- nothing before place i is wanted, and what stands there is
pub found : (w : Wanted) (cs : List Candidate) (i : ℕ) (d : Candidate) → i < length cs → first_of w cs ≡ first_of w (drop i cs) → is_wanted w (get_or cs i d) ≡ true → first_of w cs ≡ slice_get cs i
found w cs i d low before is =
    before ∙ ap (λ (xs : List Candidate). first_of w xs) (drop_more cs i d low)
    ∙ ap (λ b. if b then Some (get_or cs i d) else first_of w (drop (i + 1) cs)) is
    ∙ sym (slice_get-get_or cs i d low)

-- a lower bound, or a later next number
pub wider : (low high next more : ℕ) (cs : List Candidate) → low ≤ high → next ≤ more → AreNumbered high next cs → AreNumbered low more cs
wider low high next more [] p q h = omega arith
wider low high next more (c ∷ cs) p q h = let n = h.0 in (omega arith, wider (suc c.number) (suc c.number) next more cs (omega arith) q h.1)

ends : (low next : ℕ) (cs : List Candidate) → AreNumbered low next cs → low ≤ next
ends low next [] h = h
ends low next (c ∷ cs) h = let rest = ends (suc c.number) next cs h.1 in let n = h.0 in omega arith

pub numbered_more : (low next : ℕ) (cs : List Candidate) (c : Candidate) → c.number ≡ next → AreNumbered low next cs → AreNumbered low (next + 1) (cs ++ c ∷ [])
numbered_more low next [] c is h = (omega arith, omega arith)
numbered_more low next (x ∷ xs) c is h = (h.0, numbered_more (suc x.number) next xs c is h.1)

pub numbered_without : (w : Wanted) (low next : ℕ) (cs : List Candidate) → AreNumbered low next cs → AreNumbered low next (without_first w cs)
numbered_without w low next [] h = h
numbered_without w low next (x ∷ xs) h = go (is_wanted w x) (numbered_without w (suc x.number) next xs h.1)
  where
    go : (b : Bool) → AreNumbered (suc x.number) next (without_first w xs) → AreNumbered low next (if b then xs else x ∷ without_first w xs)
    go true rest = let n = h.0 in wider low (suc x.number) next next xs (omega arith) (omega arith) h.1
    go false rest = (h.0, rest)

pub fewer : (w : Wanted) (cs : List Candidate) → length (without_first w cs) ≤ length cs
fewer w [] = omega arith
fewer w (x ∷ xs) = go (is_wanted w x) (fewer w xs)
  where
    go : (b : Bool) → length (without_first w xs) ≤ length xs → length (if b then xs else x ∷ without_first w xs) ≤ suc (length xs)
    go true h = omega arith
    go false h = omega arith

same_number : (first count : ℕ) (c : Candidate) → (killed_over first count c).number ≡ c.number
same_number first count c = go (is_over first count c)
  where
    go : (b : Bool) → (if b then (record c { killed = true }) else c).number ≡ c.number
    go true = refl
    go false = refl

pub numbered_killed : (first count low next : ℕ) (cs : List Candidate) → AreNumbered low next cs → AreNumbered low next (kill_over first count cs)
numbered_killed first count low next [] h = h
numbered_killed first count low next (x ∷ xs) h =
    let same = sym (same_number first count x) in
    (subst (λ k. low ≤ k) same h.0, subst (λ k. AreNumbered (suc k) next (kill_over first count xs)) same (numbered_killed first count (suc x.number) next xs h.1))

pub as_many : (first count : ℕ) (cs : List Candidate) → length (kill_over first count cs) ≡ length cs
as_many first count cs = length-map cs (killed_over first count)
