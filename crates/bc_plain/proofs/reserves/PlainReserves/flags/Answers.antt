use Rattle.std.proofs.Common.{◌≡◌, ◌⊎◌, ◌↔◌, inl, inr, ℕ, ◌+◌, ◌<◌, ◌≤◌, ◌∷◌, [], Bool, true, false, List, get_or, sym, ap, ◌∙◌, subst, arith}
use Rattle.std.proofs.lemmas.Bool.{cases_lt}
use Rattle.std.proofs.lemmas.List.{get_or_append_left, get_or_push}
use Rattle.bc_alloc.specs.Reserves.{times_listed}
use Rattle.bc_plain.proofs.reserves.PlainReserves.flags.Goals as goal

pub loop-bucket-preserved : goal.loop-bucket-preserved
loop-bucket-preserved c =
    let n = c.in_ok-push.ensures.len in
    let i = c.loop-bucket.invariant.0 in
    (omega arith, λ k lt. at k lt (cases_lt k c.loop-bucket.bucket))
  where
    at : (k : ℕ) → k < c.loop-bucket.bucket + 1 → (k < c.loop-bucket.bucket) ⊎ (c.loop-bucket.bucket ≤ k) → (get_or c.push.new.self.items k false ≡ true) ↔ (0 < times_listed c.args.self.now k)
    at k lt (inl below) =
        let i = c.loop-bucket.invariant.0 in
        let old = get_or_append_left c.loop-bucket.flags.items (c.has.result ∷ []) false k (omega arith) in
        subst (λ (f : Bool). (f ≡ true) ↔ (0 < times_listed c.args.self.now k)) (sym (ap (λ (xs : List Bool). get_or xs k false) c.in_ok-push.ensures.items ∙ old)) (c.loop-bucket.invariant.1 k below)
    at k lt (inr above) =
        let i = c.loop-bucket.invariant.0 in
        let is : k ≡ c.loop-bucket.bucket = omega arith in
        let new = get_or_push c.loop-bucket.flags.items c.has.result false k (omega arith) in
        subst (λ (f : Bool). (f ≡ true) ↔ (0 < times_listed c.args.self.now k)) (sym (ap (λ (xs : List Bool). get_or xs k false) c.in_ok-push.ensures.items ∙ new))
        (subst (λ j. (c.has.result ≡ true) ↔ (0 < times_listed c.args.self.now j)) (sym is) c.has.ensures)
