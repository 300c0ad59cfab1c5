use Rattle.std.proofs.Common.{◌≡◌, inl, inr, ◌<◌, ◌≤◌, get_or, subst, sym, ap, ◌∙◌, arith}
use Rattle.std.proofs.lemmas.Bool.{cases_eq}
use Rattle.std.proofs.lemmas.List.{get_or_default}
use Rattle.bc_key.specs.declared.key.Key.{Key}
use Rattle.bc_node.proofs.KeyLists.{key_here}
use Rattle.bc_check.specs.Window.{IsAgedKey}
use Rattle.bc_check.proofs.window.first_aged_row.Goals as goal

pub loop-i-preserved : goal.loop-i-preserved
loop-i-preserved c = λ k d low.
    let rows = c.args.index.now.keys in
    let i = c.loop-i.i in
    let row = c.key-row.result in
    let inside = subst (λ n. i < n) c.len-i-end.ensures.count c.loop-i-test.true in
    elim (cases_eq k i) [
      | inl same ↦ (let at : get_or rows k d ≡ row = ap (λ n. get_or rows n d) same ∙ get_or_default rows i d row inside ∙ sym (key_here rows i row c.key-row.ensures.key) in
          λ aged. c.if-is_aged.ensures (subst (λ (x : Key). IsAgedKey c.args.g.now c.args.gens.now x) at aged))
      | inr other ↦ c.loop-i.invariant k d (omega (arith, low, other))
    ]

pub returns : goal.returns
returns c = λ k d low.
    let all = subst (λ n. n ≤ c.loop-i.i) c.len-i-end.ensures.count c.loop-i-test.false in
    c.loop-i.invariant k d (omega (arith, low, all))
