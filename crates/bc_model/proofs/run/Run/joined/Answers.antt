use Rattle.std.proofs.Common.{◌≡◌, ◌+◌, ◌++◌, sym, ap, ◌∙◌, length, subst, arith, replicate}
use Rattle.std.proofs.lemmas.List.{replicate-append-replicate}
use Rattle.bc_model.specs.declared.run.Run.{Run}
use Rattle.bc_model.specs.Pattern.{zeros}
use Rattle.bc_model.specs.Values.{values_in, IsRun, patterns}
use Rattle.bc_model.proofs.Lists.{length_patterns, patterns_join}
use Rattle.bc_model.proofs.run.Run.joined.Goals as goal

pub overflow_add-result : goal.overflow_add-result
overflow_add-result c =
    let n = ap (λ (r : Run). length (values_in r)) c.in-Pattern-Pattern.is-0 ∙ length_patterns c.in-Pattern-Pattern.stamp c.in-Pattern-Pattern.first c.in-Pattern-Pattern.count in
    let m = ap (λ (r : Run). length (values_in r)) c.in-Pattern-Pattern.is-1 ∙ length_patterns c.in-Pattern-Pattern.other c.in-Pattern-Pattern.behind c.in-Pattern-Pattern.more in
    omega arith

pub returns-then-behind-first-clause-both : goal.returns-then-behind-first-clause-both
returns-then-behind-first-clause-both c =
    let this = subst IsRun c.in-Pattern-Pattern.is-0 c.requires.this in
    let that = subst IsRun c.in-Pattern-Pattern.is-1 c.requires.that in
    let low = this.0 in
    let high = that.1 in
    let place : c.in-Pattern-Pattern.first + c.in-Pattern-Pattern.count ≡ c.in-Pattern-Pattern.behind = omega arith in
    let stamps : c.in-Pattern-Pattern.stamp ≡ c.in-Pattern-Pattern.other = omega arith in (
      sym (
          ap (λ (r : Run). values_in r ++ values_in c.args.next.now) c.in-Pattern-Pattern.is-0
          ∙ ap (λ (r : Run). patterns c.in-Pattern-Pattern.stamp c.in-Pattern-Pattern.first c.in-Pattern-Pattern.count ++ values_in r) c.in-Pattern-Pattern.is-1
          ∙ ap (λ k. patterns c.in-Pattern-Pattern.stamp c.in-Pattern-Pattern.first c.in-Pattern-Pattern.count ++ patterns k c.in-Pattern-Pattern.behind c.in-Pattern-Pattern.more) (sym stamps)
          ∙ ap (λ k. patterns c.in-Pattern-Pattern.stamp c.in-Pattern-Pattern.first c.in-Pattern-Pattern.count ++ patterns c.in-Pattern-Pattern.stamp k c.in-Pattern-Pattern.more) (sym place)
          ∙ patterns_join c.in-Pattern-Pattern.stamp c.in-Pattern-Pattern.first c.in-Pattern-Pattern.count c.in-Pattern-Pattern.more),
      (low, omega arith),
    )

pub returns-in-Zero-Zero-clause-both : goal.returns-in-Zero-Zero-clause-both
returns-in-Zero-Zero-clause-both c = (
  sym (
      ap (λ (r : Run). values_in r ++ values_in c.args.next.now) c.in-Zero-Zero.is-0
      ∙ ap (λ (r : Run). replicate c.in-Zero-Zero.count zeros ++ values_in r) c.in-Zero-Zero.is-1
      ∙ replicate-append-replicate c.in-Zero-Zero.count c.in-Zero-Zero.more zeros),
  tt,
)
