use Rattle.std.proofs.Common.{arith}
use Rattle.bc_ready.proofs.Free.{next_first, next_fourth, next_second, next_third}
use Rattle.bc_ready.proofs.plan.next_list.Goals as goal

pub returns-then-free-gt0 : goal.returns-then-free-gt0
returns-then-free-gt0 c = λ ls k are.
    let some = c.if-free-gt0.true in next_first c.args.free.now ls k are (omega (arith, some))

pub returns-then-free-gt0-2 : goal.returns-then-free-gt0-2
returns-then-free-gt0-2 c = λ ls k are.
    let none = c.if-free-gt0.false in
    let some = c.if-free-gt0-2.true in
    next_second c.args.free.now ls k are (omega (arith, none)) (omega (arith, some))

pub returns-then-free-gt0-3 : goal.returns-then-free-gt0-3
returns-then-free-gt0-3 c = λ ls k are.
    let none = c.if-free-gt0.false in
    let none_b = c.if-free-gt0-2.false in
    let some = c.if-free-gt0-3.true in
    next_third c.args.free.now ls k are (omega (arith, none)) (omega (arith, none_b))
    (omega (arith, some))

pub returns-then-free-gt0-4 : goal.returns-then-free-gt0-4
returns-then-free-gt0-4 c = λ ls k are.
    let none = c.if-free-gt0.false in
    let none_b = c.if-free-gt0-2.false in
    let none_c = c.if-free-gt0-3.false in
    let some = c.if-free-gt0-4.true in
    next_fourth c.args.free.now ls k are (omega (arith, none)) (omega (arith, none_b))
    (omega (arith, none_c)) (omega (arith, some))
