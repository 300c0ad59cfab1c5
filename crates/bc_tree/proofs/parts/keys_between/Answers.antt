use Rattle.std.proofs.Common.{◌≤◌, ◌++◌, [], ◌∷◌, Vec, Global, length, take, sym, ap, ◌∙◌, subst, arith}
use Rattle.std.proofs.lemmas.List.{take_all}
use Rattle.bc_key.specs.declared.key.Key.{Key}
use Rattle.bc_tree.specs.Parts.{AreParts}
use Rattle.bc_tree.proofs.Cuts.{got, met, missed, misses, order_read, parts_order, parts_show, parts_within}
use Rattle.bc_tree.proofs.parts.keys_between.Goals as goal
use Rattle.bc_tree.proofs.parts.keys_between.Goals.{then-meets+in_ok-push, else-meets}

pub loop-i-preserved : goal.loop-i-preserved
loop-i-preserved c =
    let keys = c.args.keys.now.keys in
    let from = c.args.from in
    let end = c.args.end in
    let key = c.key-key.result in
    let more = got keys c.loop-i.i key c.key-key.ensures.key in
    let front = take c.loop-i.i keys in
    let parts = c.loop-i.parts.items in
    let all = c.loop-i.invariant.parts in
    record {
      parts = subst (λ ks. AreParts from end ks c.if-meets.parts.items) more
          (elim c.if-meets.branch [
            | then-meets+in_ok-push w ↦
                subst (λ ps. AreParts from end (front ++ key ∷ []) ps)
                (sym w.in_ok-push.ensures.items ∙ ap (λ (v : Vec Key Global). v.items) (sym w.parts-is))
                (met from end front parts key w.part.result all w.part.ensures)
            | else-meets w ↦
                subst (λ ps. AreParts from end (front ++ key ∷ []) ps)
                (ap (λ (v : Vec Key Global). v.items) (sym w.parts-is))
                (missed from end front parts key all (misses from end key (λ m. let e = w.if-meets.ensures.1 m in absurd (cc))))
          ]);
      order = λ some. c.key-key.ensures.order;
    }

pub returns-clause-shows : goal.returns-clause-shows
returns-clause-shows c =
    let keys = c.args.keys.now.keys in
    let over : length keys ≤ c.loop-i.i = omega (arith, c.loop-i-test.false, c.len-i-end.ensures) in
    parts_show c.args.from c.args.end keys c.loop-i.parts.items (order_read keys c.loop-i.i over c.loop-i.invariant.order)
    (subst (λ ks. AreParts c.args.from c.args.end ks c.loop-i.parts.items) (take_all c.loop-i.i keys over) c.loop-i.invariant.parts)

pub returns-clause-order : goal.returns-clause-order
returns-clause-order c =
    let keys = c.args.keys.now.keys in
    let over : length keys ≤ c.loop-i.i = omega (arith, c.loop-i-test.false, c.len-i-end.ensures) in
    parts_order c.args.from c.args.end keys c.loop-i.parts.items (order_read keys c.loop-i.i over c.loop-i.invariant.order)
    (subst (λ ks. AreParts c.args.from c.args.end ks c.loop-i.parts.items) (take_all c.loop-i.i keys over) c.loop-i.invariant.parts)

pub returns-clause-within : goal.returns-clause-within
returns-clause-within c =
    let keys = c.args.keys.now.keys in
    let over : length keys ≤ c.loop-i.i = omega (arith, c.loop-i-test.false, c.len-i-end.ensures) in
    parts_within c.args.from c.args.end keys c.loop-i.parts.items
    (subst (λ ks. AreParts c.args.from c.args.end ks c.loop-i.parts.items) (take_all c.loop-i.i keys over) c.loop-i.invariant.parts)
