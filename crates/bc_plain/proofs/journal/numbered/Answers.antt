use Rattle.std.proofs.Common.{◌≡◌, ℕ, suc, ◌+◌, ◌<◌, Some, List, ◌++◌, subst, sym, ap, ◌∙◌, arith}
use Rattle.bc_jset.specs.Entries.{FoundEntry, first_with, AreNumbered}
use Rattle.bc_plain.proofs.Listed.{numbered_more, needs_more, none_numbered}
use Rattle.bc_plain.proofs.journal.numbered.Goals as goal

pub returns-in_default : goal.returns-in_default
returns-in_default c = λ es p.
    let so = c.loop-entry.invariant in
    let rest = so.needs es p in
    none_numbered c.args.all.now c.loop-entry.number c.args.high so.high c.in_default.ensures rest.0 rest.1

pub loop-entry-preserved : goal.loop-entry-preserved
loop-entry-preserved c =
    let so = c.loop-entry.invariant in
    let one : suc c.loop-entry.number ≡ c.loop-entry.number + 1 = omega arith in
    let all = c.args.all.now in
    let list = c.loop-entry.list.items in
    let found : first_with c.loop-entry.number all ≡ Some c.in_ok-copy.field-0 = c.in-Some.ensures ∙ ap (λ (e : FoundEntry). Some e) (sym c.in_ok-copy.ensures) in
    let below : c.loop-entry.number < c.args.high = omega (arith, so.high, c.if-number-high.false) in
    record {
      low = omega (arith, so.low);
      high = omega (arith, below);
      lists = λ rest next more.
          subst (λ (xs : List FoundEntry). AreNumbered all c.args.low (xs ++ rest) next) (sym c.in_ok-push.ensures.items)
          (numbered_more all c.args.low c.loop-entry.number list c.in_ok-copy.field-0 so.lists found rest next (subst (λ (n : ℕ). AreNumbered all n rest next) (sym one) more));
      needs = λ es p.
          let rest = so.needs es p in
          let more = needs_more all c.loop-entry.number c.args.high below rest.0 rest.1 in
          (more.0, subst (λ (n : ℕ). AreNumbered all n more.0 (suc c.args.high)) one more.1);
    }
