use Rattle.std.proofs.Common.{◌≡◌, ◌≢◌, ◌+◌, ◌++◌, ◌∷◌, [], ℕ, List, Bool, true, sym, subst, arith}
use Rattle.std.specs.Prelude.{slice_set}
use Rattle.bc_alloc.specs.Victims.{IsBefore, IsOpen}
use Rattle.bc_plain.proofs.Selected.{Selected, one_selected}
use Rattle.bc_plain.proofs.alloc.first_candidates.Goals as goal

pub loop-i-preserved : goal.loop-i-preserved
loop-i-preserved c =
    let records = c.args.records.now in
    let listed = c.args.listed.now in
    let left = c.loop-i.left.items in
    let chosen = c.loop-i.chosen.items in
    let bucket = c.in-Some.bucket in
    let own = subst (λ (xs : List Bool). IsOpen records xs bucket × ((k : ℕ) → IsOpen records xs k → k ≢ bucket → IsBefore records bucket k)) c.deref.ensures.value c.in-Some.ensures.some in
    let n = c.loop-i.invariant.1 in
    let more = c.in_ok-push.ensures.len in (
      subst (λ (ks : List ℕ). Selected records listed (slice_set left bucket true) ks) (sym c.in_ok-push.ensures.items)
          (one_selected records listed left chosen bucket c.loop-i.invariant.0 own.0 own.1),
      omega arith,
    )
