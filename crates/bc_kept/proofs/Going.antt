-- Places that are noted one behind the other.
use Rattle.std.proofs.Common.{◌≡◌, ℕ, zero, suc, ◌+◌, ◌<◌, ◌≤◌, List, [], ◌∷◌, ◌++◌, length, take, get_or, refl, sym, ap, ◌∙◌, subst, arith}
use Rattle.std.proofs.lemmas.List.{take_more}
use Rattle.bc_candidate.specs.Noted.{HasNoted, KeepsClaim}
use Rattle.bc_disk.specs.Disk.{DiskFacts}
use Rattle.bc_fill.specs.declared.fill.Placed.{Placed}
use Rattle.bc_stored.proofs.of_bc_hand.Knowing.{View}
use Rattle.bc_stored.specs.All.{AreOwnApart}
use Rattle.bc_stored.specs.bc_hand.Seats.{world}
use Rattle.bc_stored.specs.bc_machine.World.{FromEach}
use Rattle.bc_stored.specs.bc_place.Named.{IsApartFrom, sectors_of}
use Rattle.bc_stored.specs.bc_place.Written.{AreApart, KeepsPlaces}
use Rattle.bc_kept.specs.Kept.{AreFit, AreKeepable, HaveNoted}

-- ---- sectors

sectors_append : (xs ys : List Placed) → sectors_of (xs ++ ys) ≡ sectors_of xs + sectors_of ys
sectors_append [] ys = omega arith
sectors_append (x ∷ xs) ys = let rest = sectors_append xs ys in omega (arith, rest)

pub sectors_more : (ps : List Placed) (i : ℕ) (d : Placed) → i < length ps
    → sectors_of (take (i + 1) ps) ≡ sectors_of (take i ps) + (get_or ps i d).count
sectors_more ps i d inside = ap sectors_of (take_more ps i d inside)
    ∙ sectors_append (take i ps) (get_or ps i d ∷ [])
    ∙ (let e : sectors_of (take i ps) + ((get_or ps i d).count + 0)
    ≡ sectors_of (take i ps) + (get_or ps i d).count = omega arith in e)

pub sectors_most : (ps : List Placed) (i : ℕ) → sectors_of (take i ps) ≤ sectors_of ps
sectors_most [] zero = omega arith
sectors_most [] (suc i) = omega arith
sectors_most (p ∷ ps) zero = omega arith
sectors_most (p ∷ ps) (suc i) = let rest = sectors_most ps i in omega (arith, rest)

-- ---- the one at a number

pub fit_at : (ps : List Placed) (i : ℕ) (d : Placed) → i < length ps → AreFit ps
    → (1 ≤ (get_or ps i d).count) × ((get_or ps i d).count ≤ 32768)
fit_at [] i d inside fit = absurd (omega (arith, inside))
fit_at (p ∷ ps) zero d inside fit = fit.0
fit_at (p ∷ ps) (suc i) d inside fit = fit_at ps i d (omega (arith, inside)) fit.1

module _ {C B : Type 0} (cache_facts : C → DiskFacts) (backing_facts : B → DiskFacts) where
  -- ---- what the seat knows of the others

  from_still : (v w : View cache_facts backing_facts)
      → ((p q : Placed) → FromEach (world cache_facts backing_facts v) (AreApart p q)
      → FromEach (world cache_facts backing_facts w) (AreApart p q))
      → (p : Placed) (ps : List Placed)
      → FromEach (world cache_facts backing_facts v) (λ o st. IsApartFrom p ps)
      → FromEach (world cache_facts backing_facts w) (λ o st. IsApartFrom p ps)
  from_still v w still p [] h o is course = tt
  from_still v w still p (q ∷ qs) h o is course = (
    still p q (λ o is course. (h o is course).0) o is course,
    from_still v w still p qs (λ o is course. (h o is course).1) o is course,
  )

  pub rest_own : (number first : ℕ) (p : Placed) (ps : List Placed)
      (v w : View cache_facts backing_facts)
      → FromEach (world cache_facts backing_facts v) (AreOwnApart v.first (p ∷ ps))
      → HasNoted cache_facts backing_facts number first p v w
      → FromEach (world cache_facts backing_facts w) (AreOwnApart w.first ps)
  rest_own number first p [] v w h gone o is course = tt
  rest_own number first p (q ∷ qs) v w h gone o is course = (
    gone.own q (λ o is course. (h o is course).1.0.0) (λ o is course. (h o is course).1.1.0) o is
        course,
    (
      from_still v w gone.opening.apart q qs (λ o is course. (h o is course).1.1.1.0) o is course,
      rest_own number first p qs v w (λ o is course. (
        (h o is course).0,
        ((h o is course).1.0.1, (h o is course).1.1.1.1),
      )) gone o is course,
    ),
  )

  pub rest_keepable : (n : ℕ) (ps : List Placed) (v w : View cache_facts backing_facts)
      → KeepsClaim cache_facts backing_facts v w
      → FromEach (world cache_facts backing_facts v) (AreKeepable v.first n ps)
      → FromEach (world cache_facts backing_facts w) (AreKeepable w.first n ps)
  rest_keepable n [] v w keeps h o is course = tt
  rest_keepable n (p ∷ ps) v w keeps h o is course = (
    keeps.keepable n p (λ o is course. (h o is course).0) o is course,
    rest_keepable (n + p.count) ps v w keeps (λ o is course. (h o is course).1) o is course,
  )

  -- ---- one more

  noted_then : (first next number : ℕ) (xs : List Placed) (p : Placed)
      (u v w : View cache_facts backing_facts) → next ≡ first + sectors_of xs
      → HaveNoted cache_facts backing_facts first xs u v
      → HasNoted cache_facts backing_facts number next p v w
      → HaveNoted cache_facts backing_facts first (xs ++ p ∷ []) u w
  noted_then first next number [] p u v w is before one = (
    number,
    w,
    subst (λ n. HasNoted cache_facts backing_facts number n p u w)
        (let e : next ≡ first = omega (arith, is) in e)
        (subst (λ x. HasNoted cache_facts backing_facts number next p x w) before one),
    refl,
  )
  noted_then first next number (x ∷ xs) p u v w is before one = (
    before.0,
    before.1,
    before.2,
    noted_then (first + x.count) next number xs p before.1 v w
        (let e : next ≡ (first + x.count) + sectors_of xs = omega (arith, is) in e) before.3 one,
  )

  pub noted_more : (first next number : ℕ) (ps : List Placed) (i : ℕ) (p : Placed)
      (u v w : View cache_facts backing_facts) → i < length ps → p ≡ get_or ps i p
      → next ≡ first + sectors_of (take i ps)
      → HaveNoted cache_facts backing_facts first (take i ps) u v
      → HasNoted cache_facts backing_facts number next p v w
      → HaveNoted cache_facts backing_facts first (take (i + 1) ps) u w
  noted_more first next number ps i p u v w inside is at before one =
      subst (λ (xs : List Placed). HaveNoted cache_facts backing_facts first xs u w)
      (ap (λ q. take i ps ++ q ∷ []) is ∙ sym (take_more ps i p inside))
      (noted_then first next number (take i ps) p u v w at before one)

  -- what the seat knows of them goes on where it keeps what it knows of its places
  pub kept_own : (ps : List Placed) (v w : View cache_facts backing_facts)
      → KeepsPlaces cache_facts backing_facts v w
      → FromEach (world cache_facts backing_facts v) (AreOwnApart v.first ps)
      → FromEach (world cache_facts backing_facts w) (AreOwnApart w.first ps)
  kept_own [] v w keeps h o is course = tt
  kept_own (p ∷ ps) v w keeps h o is course = (
    keeps.own p (λ o is course. (h o is course).0) o is course,
    (
      from_still v w keeps.opening.apart p ps (λ o is course. (h o is course).1.0) o is course,
      kept_own ps v w keeps (λ o is course. (h o is course).1.1) o is course,
    ),
  )
