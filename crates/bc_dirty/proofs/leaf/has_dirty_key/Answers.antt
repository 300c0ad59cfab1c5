use Rattle.std.proofs.Common.{List, length, ap, arith}
use Rattle.bc_key.specs.declared.key.Key.{Key}
use Rattle.bc_dirty.proofs.Keys.{dirty_found, none_more, said_by_one}
use Rattle.bc_dirty.proofs.leaf.has_dirty_key.Goals as goal
use Rattle.bc_dirty.proofs.leaf.has_dirty_key.Goals.{else-key-via-then-key+else-key-gt0, else-key-via-else-key}

pub returns-then-key-gt0 : goal.returns-then-key-gt0
returns-then-key-gt0 c = dirty_found c.args.leaf.now _ c.loop-i.i c.key-key.result
    c.keys-keys.ensures.keys c.keys-keys.ensures.proper c.key-key.ensures.key c.if-key.true
    c.if-key-gt0.true

pub loop-i-preserved : goal.loop-i-preserved
loop-i-preserved c = none_more c.args.leaf.now.keys _ c.loop-i.i c.key-key.result
    c.keys-keys.ensures.keys c.key-key.ensures.key
    (λ dirty. elim c.else-key.branch [
      | else-key-via-then-key+else-key-gt0 w ↦ (let none = w.if-key-gt0.false in
          let some = dirty.1 in absurd (omega (arith, none, some)))
      | else-key-via-else-key w ↦ (let none = w.if-key.false in
          let some = dirty.0 in absurd (cc))
    ]) c.loop-i.invariant

pub returns : goal.returns
returns c = λ dirty. said_by_one c.args.leaf.now.keys dirty.0 dirty.1.ref dirty.1.is dirty.1.dirty
    (λ i d lt. c.loop-i.invariant i d (let end = c.loop-i-test.false in
    let count = c.len-i-end.ensures.count in let same = ap (λ (xs : List Key). length xs) c.keys-keys.ensures.keys in
    omega (arith, lt, end, count)))
