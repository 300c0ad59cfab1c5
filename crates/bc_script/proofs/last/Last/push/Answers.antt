use Rattle.std.proofs.Common.{◌+◌, ◌∙◌, ◌≤◌, sym, refl, arith}
use Rattle.bc_script.specs.declared.last.Last.{Last}
use Rattle.bc_script.proofs.Printed.{prints_joined, prints_next}
use Rattle.bc_script.proofs.last.Last.push.Goals as goal

pub returns-then-is_joined-clause-prints : goal.returns-then-is_joined-clause-prints
returns-then-is_joined-clause-prints c = λ xs h.
    let old = c.args.self.now in
    let new : Last = record { seen = old.seen; count = old.count + c.args.count } in
    prints_joined xs c.args.seen.now c.args.count old new c.args.text.now.items (sym c.is_joined.ensures ∙ c.if-is_joined.true) refl refl h

pub returns-clause-prints : goal.returns-clause-prints
returns-clause-prints c = λ xs h.
    let old = c.args.self.now in
    let new : Last = record { seen = c.args.seen.now; count = c.args.count } in
    let some : 1 ≤ old.count = omega arith in
    prints_next xs c.args.seen.now c.args.count old new c.args.text.now.items c.push_seen.new.text.items c.push.new.self.items
    (sym c.is_joined.ensures ∙ c.if-is_joined.false) some c.requires.last c.requires.some refl refl c.in_ok-push_seen.ensures c.in_ok-push.ensures.items h
