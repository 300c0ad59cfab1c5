use Rattle.std.proofs.Common.{rules, sym, ap, subst, arith}
use Rattle.std.specs.Prelude.{OnOk}
use Rattle.bc_parts_bench.specs.Seats.{EachAdded}
use Rattle.bc_parts_bench.proofs.Counting.{EachAdded-join, OnOk-and}
use Rattle.bc_parts_bench.proofs.in_parts.+crowd+fn-crowd-join+arg2+fn-crowd-join+arg3.Goals as goal

pub returns : goal.returns
returns g t c = let lent = c.split-above.new.seat in let above = c.split-above.result in
    let low = c.join-low.result.0.0 in let high = c.join-low.result.1.0 in
    let low_added = c.join-low.ensures.first in let high_added = c.join-low.ensures.second in
    let lent_first = ap (λ v. v.first) c.split-above.ensures.kept in let lent_end = ap (λ v. v.end) c.split-above.ensures.kept in
    let above_first = ap (λ v. v.first) c.split-above.ensures.new in let above_end = ap (λ v. v.end) c.split-above.ensures.new in (
      search rules,
      subst (λ r. OnOk r (EachAdded c.args.seat.first c.args.seat.end c.args.events c.join.new.seat.seen)) (sym c.and.ensures)
          (OnOk-and {P = EachAdded lent.first lent.end c.args.events low.seen} {Q = EachAdded above.first above.end c.args.events high.seen} _ _ low_added.1 high_added.1
          (λ p q. EachAdded-join _ lent.end _ _ _ _ _
          (λ n from to. p n (omega (arith, lent_first, from)) to)
          (λ n from to. q n (omega (arith, lent_end, above_first, from)) (omega (arith, above_end, to)))
          (λ n from to. c.join.ensures.later.own n (omega (arith, low_added.0.1, lent_first, from)) (omega (arith, low_added.0.2, to)))
          (λ n from to. c.join.ensures.other.own n (omega (arith, high_added.0.1, lent_end, above_first, from)) (omega (arith, high_added.0.2, above_end, to))))),
    )
