use Rattle.std.proofs.Common.{◌≡◌, ◌-◌, ◌∙◌, ◌++◌, ap, arith, take, drop}
use Rattle.std.proofs.lemmas.List.{take-append-drop}
use Rattle.bc_plain.proofs.Vectors.{written_removed, put_written}
use Rattle.bc_plain.proofs.vector.splice.replace_between.Goals as goal

pub returns-then-parts-had-clause-items : goal.returns-then-parts-had-clause-items
returns-then-parts-had-clause-items c =
    c.remove_between.ensures.items
    ∙ written_removed c.args.keys.now.items c.args.parts.now c.write_over.new.keys.items c.args.from c.args.to (omega arith) (omega arith) c.write_over.ensures.items

pub returns-else-parts-had-clause-items : goal.returns-else-parts-had-clause-items
returns-else-parts-had-clause-items c =
    let instead = c.split_at.result.0.now in
    let more = c.split_at.result.1.now in
    let kept = c.args.to - c.args.from in
    let whole : instead ++ more ≡ c.args.parts.now =
    ap (λ xs. xs ++ more) c.split_at.ensures.front
    ∙ ap (λ xs. take kept c.args.parts.now ++ xs) c.split_at.ensures.back
    ∙ take-append-drop kept c.args.parts.now in
    c.write_over-else-parts-had.ensures.items
    ∙ put_written c.args.keys.now.items instead more c.put_before.new.keys.items c.args.from c.args.to (omega arith) (omega arith) c.put_before.ensures.items
    ∙ ap (λ xs. take c.args.from c.args.keys.now.items ++ (xs ++ drop c.args.to c.args.keys.now.items)) whole
