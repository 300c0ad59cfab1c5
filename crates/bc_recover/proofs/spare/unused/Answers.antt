use Rattle.std.proofs.Common.{◌+◌, ◌∙◌, ℕ, List, Vec, Global, refl, sym, ap, subst}
use Rattle.bc_recover.specs.Spare.{AreThose, IsUnused}
use Rattle.bc_recover.proofs.Those.{one_missing, one_there}
use Rattle.bc_recover.proofs.spare.unused.Goals as goal
use Rattle.bc_recover.proofs.spare.unused.Goals.{then-is_unused+in_ok-push, else-is_unused}

pub loop-bucket-preserved : goal.loop-bucket-preserved
loop-bucket-preserved c =
    let P = IsUnused c.args.uses.now in
    let n = c.loop-bucket.bucket in
    let ks = c.loop-bucket.spare.items in
    elim c.if-is_unused.branch [
      | then-is_unused+in_ok-push w ↦
          subst (λ (xs : List ℕ). AreThose P (n + 1) xs) (sym w.in_ok-push.ensures.items ∙ ap (λ (v : Vec ℕ Global). v.items) (sym w.spare-is))
          (one_there P n ks c.loop-bucket.invariant (w.if-is_unused.ensures.0 refl))
      | else-is_unused w ↦
          subst (λ (xs : List ℕ). AreThose P (n + 1) xs) (ap (λ (v : Vec ℕ Global). v.items) (sym w.spare-is))
          (one_missing P n ks c.loop-bucket.invariant (λ p. let yes = w.if-is_unused.ensures.1 p in absurd (cc)))
    ]
