use Rattle.std.proofs.Common.{ℕ, ◌-◌, ◌<◌, List, [], ◌∷◌, ◌++◌, length, get_or, sym, ap, ◌∙◌, arith}
use Rattle.std.proofs.lemmas.List.{length_push}
use Rattle.bc_ready.proofs.Free.{back_more}
use Rattle.bc_ready.proofs.plan.list_back.Goals as goal

pub loop-i-preserved : goal.loop-i-preserved
loop-i-preserved c =
    let l = c.loop-i in
    let before = c.args.before in
    let ks = c.args.old.now in
    let items = c.push_reserved.ensures.items in
    let capacity = c.push_reserved.ensures.capacity in
    let below = c.loop-i-test.true in
    let end = l.auto.i-end in
    let most = c.min-count.ensures in
    let few = l.invariant.1 in
    let room = l.invariant.2 in
    let inside : l.i < length ks = omega (arith, below, end, most) in
    let long = ap (λ (x : List ℕ). length x) items ∙ length_push l.back.items
    c.saturating_sub.result in (
      items ∙ ap (λ k. l.back.items ++ k ∷ []) c.saturating_sub.ensures
          ∙ ap (λ (xs : List ℕ). xs ++ (get_or ks l.i 0 - before) ∷ []) l.invariant.0
          ∙ sym (back_more before ks l.i inside),
      omega (arith, long, few),
      omega (arith, capacity, room),
    )
