use Rattle.std.proofs.Common.{◌≡◌, suc, ◌+◌, ◌/◌, ◌++◌, [], ◌∷◌, List, length, take, get_or, sym, ap, ◌∙◌, arith}
use Rattle.std.proofs.Math.Seq.{take-suc}
use Rattle.std.proofs.lemmas.List.{length-take-le, take_all}
use Rattle.bc_model.specs.Sector.{Value}
use Rattle.bc_model.proofs.Sectors.{first_chunks-sectors}
use Rattle.bc_model.proofs.values.Values.from_bytes.Goals as goal

pub push-requires : goal.push-requires
push-requires c =
    let n = ap (λ (vs : List Value). length vs) c.loop-place.invariant ∙ length-take-le c.loop-place.place c.as_chunks.result.0.now (omega arith) in
    omega arith

pub loop-place-preserved : goal.loop-place-preserved
loop-place-preserved c = let i = c.loop-place.place in let xs = c.as_chunks.result.0.now in let next : i + 1 ≡ suc i = omega arith in
    c.in_ok-push.ensures.ok ∙ ap (λ (vs : List Value). vs ++ get_or xs i [] ∷ []) c.loop-place.invariant
    ∙ sym (take-suc xs i [] (omega arith)) ∙ ap (λ n. take n xs) (sym next)

pub returns : goal.returns
returns c = let xs = c.as_chunks.result.0.now in
    c.loop-place.invariant ∙ take_all c.loop-place.place xs (omega arith) ∙ c.as_chunks.ensures.front ∙ first_chunks-sectors (length c.args.bytes.now / 512) c.args.bytes.now
