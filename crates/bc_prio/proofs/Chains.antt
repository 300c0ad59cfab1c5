-- Chains of sets: one set more, other records, another disk.
use Rattle.std.proofs.Common.{◌≡◌, ◌≢◌, ℕ, zero, suc, ◌+◌, ◌*◌, ◌<◌, ◌≤◌, List, [], ◌∷◌, ◌++◌, length, refl, sym, subst, ap, ◌∙◌, arith}
use Rattle.std.specs.Prelude.{Option, Some, None, AllPairs, Contains}
use Rattle.std.proofs.lemmas.List.{get_or_default}
use Rattle.std.proofs.lemmas.List.Quantifiers.{all_pairs_push}
use Rattle.bc_model.specs.Sector.{Image, Value, values_of, Gives}
use Rattle.bc_disk.specs.Device.{next_count}
use Rattle.bc_disk.specs.Disk.{DiskFacts, IsKept, IsRead, IfTold, BothTold}
use Rattle.bc_disk.specs.declared.geometry.Geometry.{Geometry}
use Rattle.bc_prio.specs.declared.error.PrioError.{PrioError}
use Rattle.bc_prio.specs.declared.error.PrioError.TheVariants as errors
use Rattle.bc_prio.specs.Set.{IsSet, IsWrong, next_in}
use Rattle.bc_prio.specs.Chain.{IsInBucket, IsPlace, Leads}
use Rattle.bc_prio.specs.Refusal.{IsFresh, IsCause, HasRead, CallsUntil, counted}

-- bytes that are no set are the cause
pub wrong_is_cause : (g : Geometry) (d : DiskFacts) (chain : List ℕ) (at : ℕ) (bytes : List ℕ) → IsFresh g chain at → IsInBucket g d at bytes
    → (e : PrioError) → IsWrong g (length chain) bytes e → IsCause g d chain at e
wrong_is_cause g d chain at bytes fresh there errors.Magic wrong = (fresh, (bytes, there, wrong))
wrong_is_cause g d chain at bytes fresh there errors.Checksum wrong = (fresh, (bytes, there, wrong))
wrong_is_cause g d chain at bytes fresh there errors.Count wrong = (fresh, (bytes, there, wrong))
wrong_is_cause g d chain at bytes fresh there errors.Range wrong = elim wrong [ ]
wrong_is_cause g d chain at bytes fresh there errors.Cycle wrong = elim wrong [ ]
wrong_is_cause g d chain at bytes fresh there errors.Fault wrong = elim wrong [ ]
wrong_is_cause g d chain at bytes fresh there errors.Memory wrong = tt

-- one set more
pub leads_more : (g : Geometry) (d : DiskFacts) (P : ℕ → List ℕ → Type 0) (n part from : ℕ) (chain : List ℕ) (at next : ℕ) (bytes : List ℕ) → n ≡ part + length chain
    → Leads g d P part from chain at → IsPlace g at → IsInBucket g d at bytes → IsSet g n bytes → P n bytes → next ≡ next_in bytes → Leads g d P part from (chain ++ at ∷ []) next
leads_more g d P n part from [] at next bytes count lead place there set holds names =
    let same : n ≡ part = omega arith in
    (lead, place, (bytes, there, subst (λ (k : ℕ). IsSet g k bytes) same set, subst (λ (k : ℕ). P k bytes) same holds, sym names))
leads_more g d P n part from (bucket ∷ chain) at next bytes count lead place there set holds names =
    let more = lead.2 in
    (lead.0, lead.1, (more.0, more.1, more.2, more.3, leads_more g d P n (suc part) (next_in more.0) chain at next bytes (omega arith) more.4 place there set holds names))

-- other records that say the same of these sets
pub leads_map : (g : Geometry) (d : DiskFacts) (P Q : ℕ → List ℕ → Type 0) (part from : ℕ) (chain : List ℕ) (at : ℕ)
    → ((k : ℕ) (bytes : List ℕ) → part ≤ k → k < part + length chain → P k bytes → Q k bytes) → Leads g d P part from chain at → Leads g d Q part from chain at
leads_map g d P Q part from [] at f lead = lead
leads_map g d P Q part from (bucket ∷ chain) at f lead =
    let more = lead.2 in (
      lead.0,
      lead.1,
      (
        more.0,
        more.1,
        more.2,
        f part more.0 (omega arith) (omega arith) more.3,
        leads_map g d P Q (suc part) (next_in more.0) chain at (λ k bytes low high. f k bytes (omega arith) (omega arith)) more.4,
      ),
    )

-- what was read of a disk that kept all was there before
pub read_before : (at : ℕ) (vs : List Value) (old new : DiskFacts) → IsKept old new → IsRead at vs new → IsRead at vs old
read_before at vs old new kept = go old.holds new.holds kept.holds
  where
    go : (a b : Option Image) → BothTold (λ (x y : Image). (s : ℕ) → y s ≡ x s) a b → IfTold b (λ held. Gives at vs (λ s v. v ≡ held s)) → IfTold a (λ held. Gives at vs (λ s v. v ≡ held s))
    go None b both read = tt
    go (Some x) None both read = elim both [ ]
    go (Some x) (Some y) both read = λ s v is. read s v is ∙ both s

pub stood_before : (g : Geometry) (old new : DiskFacts) (bucket : ℕ) (bytes : List ℕ) → IsKept old new → IsInBucket g new bucket bytes → IsInBucket g old bucket bytes
stood_before g old new bucket bytes kept there = record { whole = there.whole; read = read_before (g.bucket * bucket) (values_of bytes) old new kept there.read }

pub kept_both : (a b c : DiskFacts) → IsKept a b → IsKept b c → IsKept a c
kept_both a b c first then = record {
  sectors = then.sectors ∙ first.sectors;
  holds = go a.holds b.holds c.holds first.holds then.holds;
  leaves = λ image. ((λ may. (first.leaves image).0 ((then.leaves image).0 may)), (λ may. (then.leaves image).1 ((first.leaves image).1 may)));
}
  where
    go : (x y z : Option Image) → BothTold (λ (p q : Image). (s : ℕ) → q s ≡ p s) x y → BothTold (λ (p q : Image). (s : ℕ) → q s ≡ p s) y z → BothTold (λ (p q : Image). (s : ℕ) → q s ≡ p s) x z
    go None None z one two = two
    go None (Some y) z one two = elim one [ ]
    go (Some x) None z one two = elim one [ ]
    go (Some x) (Some y) None one two = two
    go (Some x) (Some y) (Some z) one two = λ s. two s ∙ one s

pub kept_all : (a : DiskFacts) → IsKept a a
kept_all a = record {
  sectors = refl;
  holds = go a.holds;
  leaves = λ image. ((λ may. may), (λ may. may));
}
  where
    go : (x : Option Image) → BothTold (λ (p q : Image). (s : ℕ) → q s ≡ p s) x x
    go None = tt
    go (Some x) = λ s. refl

-- reads one after another
counted_both : (n m count : ℕ) → counted m (counted n count) ≡ counted (m + n) count
counted_both n zero count = let none : 0 + n ≡ n = omega arith in ap (λ (k : ℕ). counted k count) (sym none)
counted_both n (suc m) count = let more : suc (m + n) ≡ suc m + n = omega arith in ap next_count (counted_both n m count) ∙ ap (λ (k : ℕ). counted k count) more

pub read_both : (n m : ℕ) (a b c : DiskFacts) → HasRead n a b → HasRead m b c → HasRead (m + n) a c
read_both n m a b c first then = record { calls = then.calls ∙ ap (counted m) first.calls ∙ counted_both n m a.calls; faults = then.faults ∙ first.faults }

one_more : (n : ℕ) (a b c : DiskFacts) → HasRead n a b → HasRead 1 b c → HasRead (suc n) a c
one_more n a b c first then = let more : 1 + n ≡ suc n = omega arith in subst (λ (k : ℕ). HasRead k a c) more (read_both n 1 a b c first then)

same_many : (n : ℕ) (a b c : DiskFacts) → HasRead n a b → HasRead 0 b c → HasRead n a c
same_many n a b c first then = let same : 0 + n ≡ n = omega arith in subst (λ (k : ℕ). HasRead k a c) same (read_both n 0 a b c first then)

pub calls_behind : (e : PrioError) (n : ℕ) (a b c : DiskFacts) → HasRead n a b → CallsUntil e 0 b c → CallsUntil e n a c
calls_behind errors.Range n a b c first then = same_many n a b c first then
calls_behind errors.Cycle n a b c first then = same_many n a b c first then
calls_behind errors.Fault n a b c first then = record { calls = then.calls ∙ ap next_count first.calls; faults = then.faults ∙ ap next_count first.faults }
calls_behind errors.Magic n a b c first then = one_more n a b c first then
calls_behind errors.Checksum n a b c first then = one_more n a b c first then
calls_behind errors.Count n a b c first then = one_more n a b c first then
calls_behind errors.Memory n a b c first then = (then.0 + n, read_both n then.0 a b c first then.1)

-- the cause at a disk that kept all is the cause at the disk as it was
pub cause_before : (g : Geometry) (old new : DiskFacts) (chain : List ℕ) (at : ℕ) → IsKept old new → (e : PrioError) → IsCause g new chain at e → IsCause g old chain at e
cause_before g old new chain at kept errors.Range cause = cause
cause_before g old new chain at kept errors.Cycle cause = cause
cause_before g old new chain at kept errors.Fault cause = cause
cause_before g old new chain at kept errors.Magic cause = (cause.0, (cause.1.0, stood_before g old new at cause.1.0 kept cause.1.1, cause.1.2))
cause_before g old new chain at kept errors.Checksum cause = (cause.0, (cause.1.0, stood_before g old new at cause.1.0 kept cause.1.1, cause.1.2))
cause_before g old new chain at kept errors.Count cause = (cause.0, (cause.1.0, stood_before g old new at cause.1.0 kept cause.1.1, cause.1.2))
cause_before g old new chain at kept errors.Memory cause = tt

-- a bucket that isn't among different ones makes one more of them
pub distinct_more : (chain : List ℕ) (at : ℕ) → AllPairs (λ a b. a ≢ b) chain → (Contains chain at → ⊥) → AllPairs (λ a b. a ≢ b) (chain ++ at ∷ [])
distinct_more chain at distinct fresh =
    all_pairs_push (λ a b. a ≢ b) chain at distinct (λ k d inside same. fresh (k, inside, get_or_default chain k at d inside ∙ same))
