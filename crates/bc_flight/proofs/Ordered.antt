-- Lists of claims that are in order.
use Rattle.std.proofs.Common.{◌≡◌, ◌≢◌, ◌⊎◌, inl, inr, ℕ, zero, suc, ◌+◌, ◌<◌, ◌≤◌, Bool, true, false, ◌==◌, ◌&&◌, ◌||◌, List, [], ◌∷◌, ◌++◌, length, get_or, Option, Some, None, refl, sym, ap, ◌∙◌, subst, arith, if◌then◌else◌}
use Rattle.std.specs.Prelude.{nat_lt, slice_get, All, IfSome}
use Rattle.std.specs.List.{remove}
use Rattle.std.proofs.lemmas.Bool.Decides.{eqb_tells}
use Rattle.bc_flight.specs.Claims.{conflicts, conflicts_any, is_exclusive}
use Rattle.bc_flight.specs.Flight.{claim_of, without, IsInOrder, IsRanged, HasConflict}
use Rattle.bc_flight.specs.declared.claim.Claim.{Claim}

pub by_test : (a b : ℕ) (P : Bool → Type 0) → (a ≡ b → P true) → (a ≢ b → P false) → P (a == b)
by_test a b P same other = go (eqb_tells a b)
  where
    go : (((a == b) ≡ true) × (a ≡ b)) ⊎ (((a == b) ≡ false) × (a ≢ b)) → P (a == b)
    go (inl t) = subst P (sym t.0) (same t.1)
    go (inr t) = subst P (sym t.0) (other t.1)

turned : (a b c d : Bool) → ((a && b) && (c || d)) ≡ ((b && a) && (d || c))
turned true true true true = refl
turned true true true false = refl
turned true true false true = refl
turned true true false false = refl
turned true false c d = refl
turned false true c d = refl
turned false false c d = refl

conflicts_turned : (a b : Claim) → conflicts a b ≡ conflicts b a
conflicts_turned a b = turned (nat_lt a.first (b.first + b.count)) (nat_lt b.first (a.first + a.count)) (is_exclusive a.share) (is_exclusive b.share)

neither : (a b : Bool) → (a || b) ≡ false → (a ≡ false) × (b ≡ false)
neither true b h = absurd (cc)
neither false b h = (refl, h)

nor : (a b : Bool) → a ≡ false → b ≡ false → (a || b) ≡ false
nor true b p q = absurd (cc)
nor false b p q = q

-- one more claim, at the end
claim_of_end : (seat : ℕ) (cs : List Claim) (c : Claim) → claim_of seat (cs ++ c ∷ []) ≡ (elim (claim_of seat cs) as (λ _. Option Claim) [ None ↦ claim_of seat (c ∷ []) | Some x ↦ Some x ])
claim_of_end seat [] c = refl
claim_of_end seat (x ∷ xs) c =
    by_test x.seat seat (λ b. (if b then Some x else claim_of seat (xs ++ c ∷ [])) ≡ (elim (if b then Some x else claim_of seat xs) as (λ _. Option Claim) [ None ↦ claim_of seat (c ∷ []) | Some y ↦ Some y ]))
    (λ _. refl) (λ _. claim_of_end seat xs c)

pub claim_of_new : (cs : List Claim) (c : Claim) → claim_of c.seat cs ≡ None → claim_of c.seat (cs ++ c ∷ []) ≡ Some c
claim_of_new cs c none =
    claim_of_end c.seat cs c ∙ ap (λ (o : Option Claim). elim o as (λ _. Option Claim) [ None ↦ claim_of c.seat (c ∷ []) | Some x ↦ Some x ]) none
    ∙ by_test c.seat c.seat (λ b. (if b then Some c else None) ≡ Some c) (λ _. refl) (λ ne. absurd (ne refl))

pub claim_of_old : (seat : ℕ) (cs : List Claim) (c : Claim) → c.seat ≢ seat → claim_of seat (cs ++ c ∷ []) ≡ claim_of seat cs
claim_of_old seat [] c ne = by_test c.seat seat (λ b. (if b then Some c else None) ≡ None) (λ e. absurd (ne e)) (λ _. refl)
claim_of_old seat (x ∷ xs) c ne = by_test x.seat seat (λ b. (if b then Some x else claim_of seat (xs ++ c ∷ [])) ≡ (if b then Some x else claim_of seat xs)) (λ _. refl) (λ _. claim_of_old seat xs c ne)

conflicts_end : (a : Claim) (cs : List Claim) (c : Claim) → conflicts_any a cs ≡ false → conflicts a c ≡ false → conflicts_any a (cs ++ c ∷ []) ≡ false
conflicts_end a [] c p q = nor (conflicts a c) false q refl
conflicts_end a (x ∷ xs) c p q = let n = neither (conflicts a x) (conflicts_any a xs) p in nor (conflicts a x) (conflicts_any a (xs ++ c ∷ [])) n.0 (conflicts_end a xs c n.1 q)

some_none : (b : Bool) (x : Claim) (o : Option Claim) → (if b then Some x else o) ≡ None → (b ≡ false) × (o ≡ None)
some_none true x o h = absurd (cc)
some_none false x o h = (refl, h)

pub in_order_more : (seats : ℕ) (cs : List Claim) (c : Claim) → IsInOrder seats cs → c.seat < seats → IsRanged c → claim_of c.seat cs ≡ None → conflicts_any c cs ≡ false → IsInOrder seats (cs ++ c ∷ [])
in_order_more seats [] c h inside ranged none free = (inside, ranged, refl, refl, tt)
in_order_more seats (x ∷ xs) c h inside ranged none free =
    let n = some_none (x.seat == c.seat) x (claim_of c.seat xs) none in
    let f = neither (conflicts c x) (conflicts_any c xs) free in (
      h.0,
      h.1,
      claim_of_old x.seat xs c (λ e. apart (x.seat) (c.seat) n.0 (sym e)) ∙ h.2,
      conflicts_end x xs c h.3 (conflicts_turned x c ∙ f.0),
      in_order_more seats xs c h.4 inside ranged n.1 f.1,
    )
  where
    apart : (a b : ℕ) → (a == b) ≡ false → a ≡ b → ⊥
    apart a b = by_test a b (λ t. t ≡ false → a ≡ b → ⊥) (λ e not _. cc) (λ ne _ e. ne e)

-- without a seat's claims
pub claim_of_gone : (seat : ℕ) (cs : List Claim) → claim_of seat (without seat cs) ≡ None
claim_of_gone seat [] = refl
claim_of_gone seat (x ∷ xs) =
    by_test x.seat seat (λ b. claim_of seat (if b then without seat xs else x ∷ without seat xs) ≡ None) (λ _. claim_of_gone seat xs)
    (λ ne. by_test x.seat seat (λ b. (if b then Some x else claim_of seat (without seat xs)) ≡ None) (λ e. absurd (ne e)) (λ _. claim_of_gone seat xs))

pub claim_of_kept : (seat other : ℕ) (cs : List Claim) → seat ≢ other → claim_of other (without seat cs) ≡ claim_of other cs
claim_of_kept seat other [] ne = refl
claim_of_kept seat other (x ∷ xs) ne =
    by_test x.seat seat (λ b. claim_of other (if b then without seat xs else x ∷ without seat xs) ≡ (if x.seat == other then Some x else claim_of other xs))
    (λ e. claim_of_kept seat other xs ne ∙ by_test x.seat other (λ b. claim_of other xs ≡ (if b then Some x else claim_of other xs)) (λ e2. absurd (ne (sym e ∙ e2))) (λ _. refl))
    (λ _. by_test x.seat other (λ b. (if b then Some x else claim_of other (without seat xs)) ≡ (if b then Some x else claim_of other xs)) (λ _. refl) (λ _. claim_of_kept seat other xs ne))

conflicts_without : (a : Claim) (seat : ℕ) (cs : List Claim) → conflicts_any a cs ≡ false → conflicts_any a (without seat cs) ≡ false
conflicts_without a seat [] h = refl
conflicts_without a seat (x ∷ xs) h =
    let n = neither (conflicts a x) (conflicts_any a xs) h in
    by_test x.seat seat (λ b. conflicts_any a (if b then without seat xs else x ∷ without seat xs) ≡ false)
    (λ _. conflicts_without a seat xs n.1) (λ _. nor (conflicts a x) (conflicts_any a (without seat xs)) n.0 (conflicts_without a seat xs n.1))

claim_of_less : (seat other : ℕ) (cs : List Claim) → claim_of other cs ≡ None → claim_of other (without seat cs) ≡ None
claim_of_less seat other [] h = refl
claim_of_less seat other (x ∷ xs) h =
    let n = some_none (x.seat == other) x (claim_of other xs) h in
    by_test x.seat seat (λ b. claim_of other (if b then without seat xs else x ∷ without seat xs) ≡ None)
    (λ _. claim_of_less seat other xs n.1)
    (λ _. subst (λ b. (if b then Some x else claim_of other (without seat xs)) ≡ None) (sym n.0) (claim_of_less seat other xs n.1))

pub in_order_without : (seats seat : ℕ) (cs : List Claim) → IsInOrder seats cs → IsInOrder seats (without seat cs)
in_order_without seats seat [] h = tt
in_order_without seats seat (x ∷ xs) h =
    by_test x.seat seat (λ b. IsInOrder seats (if b then without seat xs else x ∷ without seat xs))
    (λ _. in_order_without seats seat xs h.4)
    (λ _. (h.0, h.1, claim_of_less seat x.seat xs h.2, conflicts_without x seat xs h.3, in_order_without seats seat xs h.4))

without_none : (seat : ℕ) (cs : List Claim) → claim_of seat cs ≡ None → without seat cs ≡ cs
without_none seat [] h = refl
without_none seat (x ∷ xs) h =
    let n = some_none (x.seat == seat) x (claim_of seat xs) h in
    subst (λ b. (if b then without seat xs else x ∷ without seat xs) ≡ x ∷ xs) (sym n.0) (ap (λ (ys : List Claim). x ∷ ys) (without_none seat xs n.1))

-- each is one of a seat that there is, which has no other
abbrev IsSeated : ℕ → List Claim → Type 0
IsSeated seats [] = Unit {0}
IsSeated seats (c ∷ cs) = (c.seat < seats) × (claim_of c.seat cs ≡ None) × IsSeated seats cs

seated : (seats : ℕ) (cs : List Claim) → IsInOrder seats cs → IsSeated seats cs
seated seats [] h = tt
seated seats (x ∷ xs) h = (h.0, h.2, seated seats xs h.4)

seated_without : (seats seat : ℕ) (cs : List Claim) → IsSeated seats cs → IsSeated seats (without seat cs)
seated_without seats seat [] h = tt
seated_without seats seat (x ∷ xs) h =
    by_test x.seat seat (λ b. IsSeated seats (if b then without seat xs else x ∷ without seat xs))
    (λ _. seated_without seats seat xs h.2)
    (λ _. (h.0, claim_of_less seat x.seat xs h.1, seated_without seats seat xs h.2))

few_less : (seats seat : ℕ) (cs : List Claim) → IsSeated seats cs → length cs ≤ suc (length (without seat cs))
few_less seats seat [] h = omega arith
few_less seats seat (x ∷ xs) h =
    by_test x.seat seat (λ b. suc (length xs) ≤ suc (length (if b then without seat xs else x ∷ without seat xs)))
    (λ e. let same = ap (λ (ys : List Claim). length ys) (without_none seat xs (subst (λ n. claim_of n xs ≡ None) e h.1)) in omega arith)
    (λ _. let rest = few_less seats seat xs h.2 in omega arith)

less : (a b : ℕ) → a ≢ b → a < suc b → a < b
less a b ne lt = grind (arith, ne, lt)

lower : (n : ℕ) (cs : List Claim) → IsSeated (suc n) cs → claim_of n cs ≡ None → IsSeated n cs
lower n [] h none = tt
lower n (x ∷ xs) h none =
    let k = some_none (x.seat == n) x (claim_of n xs) none in
    (by_test x.seat n (λ b. b ≡ false → x.seat < n) (λ e not. absurd (cc)) (λ ne _. less x.seat n ne h.0) k.0, h.1, lower n xs h.2 k.1)

-- there are no more claims than seats
few : (seats : ℕ) (cs : List Claim) → IsSeated seats cs → length cs ≤ seats
few zero [] h = omega arith
few zero (x ∷ xs) h = absurd (let low = h.0 in omega arith)
few (suc n) cs h =
    let rest = few n (without n cs) (lower n (without n cs) (seated_without (suc n) n cs h) (claim_of_gone n cs)) in
    let most = few_less (suc n) n cs h in omega arith

-- and where a seat has none there is room for one more
pub room_for : (seats : ℕ) (cs : List Claim) (c : Claim) → IsInOrder seats cs → c.seat < seats → claim_of c.seat cs ≡ None → length cs < seats
room_for seats cs c h inside none = let most = few seats (c ∷ cs) (inside, none, seated seats cs h) in omega arith

pub ranged : (seats : ℕ) (cs : List Claim) → IsInOrder seats cs → All IsRanged cs
ranged seats [] h = λ k d inside. absurd (omega arith)
ranged seats (x ∷ xs) h = go (ranged seats xs h.4)
  where
    go : All IsRanged xs → All IsRanged (x ∷ xs)
    go rest zero d inside = h.1
    go rest (suc k) d inside = rest k d (omega arith)

-- the claim of a seat is the one at the place that has this seat
pub remove_without : (seats seat : ℕ) (cs : List Claim) (i : ℕ) (c : Claim) → IsInOrder seats cs → slice_get cs i ≡ Some c → c.seat ≡ seat → remove cs i ≡ without seat cs
remove_without seats seat [] i c h at is = absurd (cc)
remove_without seats seat (x ∷ xs) zero c h at is =
    let e : x ≡ c = cc in
    let own : x.seat ≡ seat = ap (λ (y : Claim). y.seat) e ∙ is in
    by_test x.seat seat (λ b. xs ≡ (if b then without seat xs else x ∷ without seat xs))
    (λ _. sym (without_none seat xs (subst (λ n. claim_of n xs ≡ None) own h.2)))
    (λ ne. absurd (ne own))
remove_without seats seat (x ∷ xs) (suc i) c h at is =
    by_test x.seat seat (λ b. x ∷ remove xs i ≡ (if b then without seat xs else x ∷ without seat xs))
    (λ e. absurd (twice xs i (subst (λ n. claim_of n xs ≡ None) e h.2) at))
    (λ _. ap (λ (ys : List Claim). x ∷ ys) (remove_without seats seat xs i c h.4 at is))
  where
    twice : (xs : List Claim) (i : ℕ) → claim_of seat xs ≡ None → slice_get xs i ≡ Some c → ⊥
    twice xs i none at = found xs i none at is
      where
        found : (xs : List Claim) (i : ℕ) → claim_of seat xs ≡ None → slice_get xs i ≡ Some c → c.seat ≡ seat → ⊥
        found [] i none at is = cc
        found (y ∷ ys) zero none at is =
            let e : y ≡ c = cc in
            by_test y.seat seat (λ b. (if b then Some y else claim_of seat ys) ≡ None → ⊥) (λ _ not. cc) (λ ne _. ne (ap (λ (z : Claim). z.seat) e ∙ is)) none
        found (y ∷ ys) (suc i) none at is = found ys i (some_none (y.seat == seat) y (claim_of seat ys) none).1 at is

some_there : (cs : List Claim) (i : ℕ) → i < length cs → slice_get cs i ≡ None → ⊥
some_there [] i lt none = omega arith
some_there (x ∷ xs) zero lt none = cc
some_there (x ∷ xs) (suc i) lt none = some_there xs i (omega arith) none

pub removed : (seats seat : ℕ) (cs : List Claim) (i : ℕ) → IsInOrder seats cs → i < length cs → IfSome (slice_get cs i) (λ (c : Claim). c.seat ≡ seat) → remove cs i ≡ without seat cs
removed seats seat cs i h lt some = go (slice_get cs i) refl some
  where
    go : (o : Option Claim) → slice_get cs i ≡ o → IfSome o (λ (c : Claim). c.seat ≡ seat) → remove cs i ≡ without seat cs
    go None is own = absurd (some_there cs i lt is)
    go (Some c) is own = remove_without seats seat cs i c h is own

taken_by : (c x : Claim) (xs : List Claim) → claim_of x.seat xs ≡ None → HasConflict c xs → HasConflict c (x ∷ xs)
taken_by c x xs none taken =
    let other = taken.0 in
    let has = taken.1 in (
      other,
      by_test x.seat other.seat (λ b. (if b then Some x else claim_of other.seat xs) ≡ Some other) (λ same. let gone = subst (λ n. claim_of n xs ≡ None) same none in absurd (cc)) (λ ne. has),
      taken.2,
    )

-- where one conflicts, it is the claim of a seat
pub taken : (seats : ℕ) (c : Claim) (cs : List Claim) → IsInOrder seats cs → conflicts_any c cs ≡ true → HasConflict c cs
taken seats c [] order h = absurd (cc)
taken seats c (x ∷ xs) order h = go (conflicts c x) refl (λ later. taken seats c xs order.4 later)
  where
    go : (b : Bool) → conflicts c x ≡ b → (conflicts_any c xs ≡ true → HasConflict c xs) → HasConflict c (x ∷ xs)
    go true is later = (x, by_test x.seat x.seat (λ b. (if b then Some x else claim_of x.seat xs) ≡ Some x) (λ _. refl) (λ ne. absurd (ne refl)), is)
    go false is later = taken_by c x xs order.2 (later (ap (λ b. b || conflicts_any c xs) (sym is) ∙ h))

pub at_most : (seats : ℕ) (cs : List Claim) → IsInOrder seats cs → length cs ≤ seats
at_most seats cs h = few seats cs (seated seats cs h)

-- each claim is its seat's
pub stand : (seats : ℕ) (cs : List Claim) → IsInOrder seats cs → All (λ (c : Claim). claim_of c.seat cs ≡ Some c) cs
stand seats [] h = λ i d inside. absurd (omega arith)
stand seats (x ∷ xs) h = go (stand seats xs h.4)
  where
    go : All (λ (c : Claim). claim_of c.seat xs ≡ Some c) xs → All (λ (c : Claim). claim_of c.seat (x ∷ xs) ≡ Some c) (x ∷ xs)
    go rest zero d inside = by_test x.seat x.seat (λ b. (if b then Some x else claim_of x.seat xs) ≡ Some x) (λ _. refl) (λ ne. absurd (ne refl))
    go rest (suc i) d inside =
        let own : claim_of (get_or xs i d).seat xs ≡ Some (get_or xs i d) = rest i d (omega arith) in
        by_test x.seat (get_or xs i d).seat (λ b. (if b then Some x else claim_of (get_or xs i d).seat xs) ≡ Some (get_or xs i d))
        (λ same. absurd (let gone : claim_of (get_or xs i d).seat xs ≡ None = subst (λ n. claim_of n xs ≡ None) same h.2 in cc))
        (λ ne. own)
