-- A list of the places that were given.
use Rattle.std.proofs.Common.{◌⊎◌, inl, inr, ℕ, zero, suc, ◌+◌, ◌*◌, ◌<◌, ◌≤◌, List, [], ◌∷◌, ◌++◌, length, get_or, arith}
use Rattle.std.specs.Prelude.{All}
use Rattle.std.proofs.lemmas.List.Elements.{All-append}
use Rattle.bc_bucket.specs.Buckets.{Buckets}
use Rattle.bc_alloc.specs.Reserves.{Reserves}
use Rattle.bc_fill.specs.declared.fill.Open.{Open}
use Rattle.bc_fill.specs.declared.fill.Placed.{Placed}
use Rattle.bc_fill.specs.Fill.{just_opened, AreOpen, IsCut}
use Rattle.bc_fill.specs.Fresh.{AreGone, IsApart, IsFreeIn, IsOf, IsOutside}
use Rattle.bc_fill.proofs.Freshness.{are_gone, others_stay, were_free}

pub apart : (fs gs : List Open) (r : Reserves) (b d : Buckets) (count : ℕ) (p : Placed) (ps : List Placed) → AreOpen fs r b → IsCut fs gs b d count p → AreGone b.size fs ps → All (IsApart p) ps
apart fs gs r b d count p ps are cut gone = λ i e within. λ s of other. gone i e within s other (were_free fs gs r b d count p are cut s of)

none_of_one : (size : ℕ) (gs : List Open) (p : Placed) → ((s : ℕ) → IsOf p s → IsFreeIn size gs s → ⊥) → AreGone size gs (p ∷ [])
none_of_one size gs p gone zero e within = gone
none_of_one size gs p gone (suc i) e within = absurd (omega arith)

pub more : (fs gs : List Open) (r : Reserves) (b d : Buckets) (count : ℕ) (p : Placed) (ps : List Placed) → AreOpen fs r b → IsCut fs gs b d count p → AreGone b.size fs ps → AreGone b.size gs (ps ++ p ∷ [])
more fs gs r b d count p ps are cut gone =
    All-append (λ (q : Placed). (s : ℕ) → IsOf q s → IsFreeIn b.size gs s → ⊥) ps (p ∷ [])
    (λ i e within. λ s of free. gone i e within s of (others_stay fs gs b d count p cut s free))
    (none_of_one b.size gs p (λ s of free. are_gone fs gs r b d count p are cut s of free))

-- a free sector is one of the bucket that was just opened, or was free before
opened_free : (size k s : ℕ) (fs : List Open) → IsFreeIn size (fs ++ just_opened k ∷ []) s → IsFreeIn size fs s ⊎ ((k * size ≤ s) × (s < k * size + size))
opened_free size k s [] (inl h) = let low = h.0 in inr (omega arith, h.1)
opened_free size k s [] (inr h) = elim h [ ]
opened_free size k s (o ∷ fs) (inl h) = inl (inl h)
opened_free size k s (o ∷ fs) (inr h) = go (opened_free size k s fs h)
  where
    go : IsFreeIn size fs s ⊎ ((k * size ≤ s) × (s < k * size + size)) → IsFreeIn size (o ∷ fs) s ⊎ ((k * size ≤ s) × (s < k * size + size))
    go (inl free) = inl (inr free)
    go (inr own) = inr own

pub opened : (size k : ℕ) (fs : List Open) (ps : List Placed) → AreGone size fs ps → All (IsOutside size k) ps → AreGone size (fs ++ just_opened k ∷ []) ps
opened size k fs ps gone outside = λ i e within. λ s of free. go i e within s of (opened_free size k s fs free)
  where
    go : (i : ℕ) (e : Placed) → i < length ps → (s : ℕ) → IsOf (get_or ps i e) s → IsFreeIn size fs s ⊎ ((k * size ≤ s) × (s < k * size + size)) → ⊥
    go i e within s of (inl free) = gone i e within s of free
    go i e within s of (inr own) = outside i e within s of own.0 own.1

pub begins : (size : ℕ) (fs : List Open) → AreGone size fs []
begins size fs = λ i e within. absurd (omega arith)
