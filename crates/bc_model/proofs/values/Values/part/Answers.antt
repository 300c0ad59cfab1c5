use Rattle.std.proofs.Common.{List, [], ◌∷◌, ◌++◌, drop, sym, ap, ◌∙◌}
use Rattle.bc_model.specs.Sector.{Value}
use Rattle.bc_model.proofs.Sectors.{take_more, get_behind}
use Rattle.bc_model.proofs.values.Values.part.Goals as goal

pub loop-i-preserved : goal.loop-i-preserved
loop-i-preserved c =
    let here = get_behind c.args.from c.loop-i.i c.args.self.now ∙ c.get-value.ensures in
    c.in_ok-push.ensures.ok ∙ ap (λ (vs : List Value). vs ++ c.get-value.result ∷ []) c.loop-i.invariant
    ∙ sym (take_more c.loop-i.i (drop c.args.from c.args.self.now) c.get-value.result here)
