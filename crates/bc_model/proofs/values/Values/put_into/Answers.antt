use Rattle.std.proofs.Common.{◌≡◌, List, [], ◌∷◌, ◌++◌, take, sym, ap, ◌∙◌, arith, length}
use Rattle.std.proofs.Math.Seq.{take-length}
use Rattle.bc_model.specs.Sector.{Value}
use Rattle.bc_model.proofs.Sectors.{take_more, values_whole}
use Rattle.bc_model.proofs.values.Values.put_into.Goals as goal

pub loop-i-preserved : goal.loop-i-preserved
loop-i-preserved c =
    c.put_sector.ensures ∙ ap (λ (vs : List Value). vs ++ c.get-value.result ∷ []) c.loop-i.invariant
    ∙ sym (take_more c.loop-i.i c.args.self.now c.get-value.result c.get-value.ensures)

pub returns : goal.returns
returns c =
    let n : c.loop-i.i ≡ length c.args.self.now = omega (arith, c.len-i-end.ensures) in
    values_whole c.loop-i.i c.loop-i.into (omega arith) ∙ c.loop-i.invariant ∙ ap (λ k. take k c.args.self.now) n ∙ take-length c.args.self.now
