-- What stands firm on a device, and what a write leaves of it.
use Rattle.std.proofs.Common.{◌≡◌, ◌⊎◌, inl, inr, ℕ, suc, ◌+◌, ◌<◌, ◌≤◌, List, [], ◌∷◌, length, Option, Some, None, refl, sym, ap, ◌∙◌, subst, arith, if◌then◌else◌, ◌==◌}
use Rattle.bc_model.specs.Sector.{Image, Value, at_run}
use Rattle.bc_disk.specs.Device.{Content, Only, besides, failed, instead, settled, written}
use Rattle.bc_record.specs.Sectors.{Has}
use Rattle.bc_meta.specs.Facts.{Stand}
use Rattle.bc_meta.proofs.Runs.{by_test, at_range, at_miss, reads_other, leaves_other, instead_only}

abbrev pub FirmOn : Content → Image → ℕ → ℕ → Type 0
FirmOn d z a b = (t : ℕ) → a ≤ t → t < b → Only (z t) (d.reads t) × Only (z t) (d.leaves t)

abbrev pub Off : Content → Content → ℕ → Type 0
Off old new t = (new.reads t ≡ old.reads t) × (new.leaves t ≡ old.leaves t)

-- a write where the run has no value
pub off_write : (d : Content) (p : ℕ) (vs : List Value) (t : ℕ) → at_run p vs t ≡ None → Off d (written p vs d) t
off_write d p vs t miss = (ap (λ (o : Option Value). instead o (d.reads t)) miss, ap (λ (o : Option Value). besides o (d.leaves t)) miss)

pub off_fail_write : (d : Content) (p : ℕ) (vs : List Value) (t : ℕ) → at_run p vs t ≡ None → Off d (failed p vs d) t
off_fail_write d p vs t miss = (ap (λ (o : Option Value). besides o (d.reads t)) miss, ap (λ (o : Option Value). besides o (d.leaves t)) miss)

pub off_run : (d : Content) (p : ℕ) (vs : List Value) (t : ℕ) → ((p ≤ t) × (t < p + length vs) → ⊥) → Off d (written p vs d) t
off_run d p vs t out = (reads_other d p vs t out, leaves_other d p vs t out)

pub off_failed : (d : Content) (p : ℕ) (vs : List Value) (t : ℕ) → ((p ≤ t) × (t < p + length vs) → ⊥) → Off d (failed p vs d) t
off_failed d p vs t out = let miss = at_miss p vs t out in (ap (λ (o : Option Value). besides o (d.reads t)) miss, ap (λ (o : Option Value). besides o (d.leaves t)) miss)

pub firm_kept : (old new : Content) (z : Image) (a b : ℕ) → ((t : ℕ) → a ≤ t → t < b → Off old new t) → FirmOn old z a b → FirmOn new z a b
firm_kept old new z a b same f t ge lt =
    let m = same t ge lt in
    let k = f t ge lt in
    (subst (λ l. Only (z t) l) (sym m.0) k.0, subst (λ l. Only (z t) l) (sym m.1) k.1)

pub firm_settled : (d : Content) (z : Image) (a b : ℕ) → FirmOn d z a b → FirmOn (settled d) z a b
firm_settled d z a b f t ge lt = let k = f t ge lt in (k.0, k.0)

-- what is read there is one value
abbrev pub ReadsOn : Content → ℕ → List Value → Type 0
ReadsOn d p vs = (t : ℕ) (v : Value) → at_run p vs t ≡ Some v → Only v (d.reads t)

abbrev pub LeavesOn : Content → ℕ → List Value → Type 0
LeavesOn d p vs = (t : ℕ) (v : Value) → at_run p vs t ≡ Some v → Only v (d.leaves t)

pub reads_written : (d : Content) (p : ℕ) (vs : List Value) → ReadsOn (written p vs d) p vs
reads_written d p vs t v h = instead_only (at_run p vs t) (d.reads t) v (λ x e. some_value x v (sym e ∙ h)) (λ e. absurd (cc (e, h)))
  where
    some_value : (a b : Value) → Some a ≡ Some b → a ≡ b
    some_value a b e = cc

pub reads_kept : (old new : Content) (p : ℕ) (vs : List Value) → ((t : ℕ) → p ≤ t → t < p + length vs → Off old new t) → ReadsOn old p vs → ReadsOn new p vs
reads_kept old new p vs same f t v g = let r = at_range p vs t v g in subst (λ l. Only v l) (sym (same t r.0 r.1).0) (f t v g)

pub leaves_kept : (old new : Content) (p : ℕ) (vs : List Value) → ((t : ℕ) → p ≤ t → t < p + length vs → Off old new t) → LeavesOn old p vs → LeavesOn new p vs
leaves_kept old new p vs same f t v g = let r = at_range p vs t v g in subst (λ l. Only v l) (sym (same t r.0 r.1).1) (f t v g)

-- an image with a run laid over it
abbrev pub over_value : Option Value → Value → Value
over_value None v = v
over_value (Some x) v = x

abbrev pub laid : Image → ℕ → List Value → Image
laid z p vs t = over_value (at_run p vs t) (z t)

pub laid_below : (z : Image) (p : ℕ) (vs : List Value) (t : ℕ) → t < p → z t ≡ laid z p vs t
laid_below z p vs t lt = sym (ap (λ (o : Option Value). over_value o (z t)) (at_miss p vs t (λ r. let r0 = r.0 in absurd (omega arith))))

pub laid_has : (z : Image) (p : ℕ) (vs : List Value) → Has (laid z p vs) p vs
laid_has z p vs t v h = sym (ap (λ (o : Option Value). over_value o (z t)) h)

pub laid_firm : (d : Content) (z : Image) (a p : ℕ) (vs : List Value) → FirmOn d z a p → ReadsOn d p vs → LeavesOn d p vs → FirmOn d (laid z p vs) a (p + length vs)
laid_firm d z a p vs f rs ls t ge lt = go (at_run p vs t) refl
  where
    full : (n : ℕ) (xs : List Value) → n ≤ t → t < n + length xs → at_run n xs t ≡ None → ⊥
    full n [] le below = λ none_. absurd (omega arith)
    full n (x ∷ xs) le below = test n x xs le below (full (suc n) xs)
      where
        test : (n : ℕ) (x : Value) (xs : List Value) → n ≤ t → t < n + suc (length xs) → (suc n ≤ t → t < suc n + length xs → at_run (suc n) xs t ≡ None → ⊥) → (if n == t then Some x else at_run (suc n) xs t) ≡ None → ⊥
        test n x xs le below ih = by_test n t (λ b. (if b then Some x else at_run (suc n) xs t) ≡ None → ⊥) (λ _ e. absurd (cc)) (λ ne e. ih (omega arith) (omega arith) e)

    below_case : at_run p vs t ≡ None → t < p
    below_case none_ = split (p) (λ ge2. full p vs ge2 lt none_)
      where
        split : (q : ℕ) → (q ≤ t → ⊥) → t < q
        split q no_ = elim (either q) [ inl l ↦ l | inr g ↦ absurd (no_ g) ]
          where
            either : (q : ℕ) → (t < q) ⊎ (q ≤ t)
            either q = grind arith

    go : (o : Option Value) → at_run p vs t ≡ o → Only (over_value o (z t)) (d.reads t) × Only (over_value o (z t)) (d.leaves t)
    go None is = f t ge (below_case is)
    go (Some v) is = (rs t v is, ls t v is)

pub stands_high : {A : Type 0} → (len : A → ℕ) (found : ℕ → Option A) (start : ℕ) (es : List A) (q : ℕ) → Stand len found start es q → start ≤ q
stands_high len found start [] q h = omega arith
stands_high len found start (e ∷ es) q h = let l = stands_high len found start es h.0 h.1 in let is = h.3 in omega arith
