use Rattle.std.proofs.Common.{inl, inr, subst, arith}
use Rattle.std.proofs.lemmas.Bool.{cases_eq}
use Rattle.std.specs.Prelude.{All}
use Rattle.bc_image.specs.Sound.{IsDataKey}
use Rattle.bc_plain_pair.specs.Sectors.{IsAgedAt}
use Rattle.bc_plain_pair.proofs.Sectors.{within}
use Rattle.bc_plain_pair.proofs.data.first_aged.Goals as goal

pub loop-sector-preserved : goal.loop-sector-preserved
loop-sector-preserved c = λ k low. elim (cases_eq k c.loop-sector.sector) [
  | inl same ↦ (λ aged. c.if-is_aged.ensures (subst (IsAgedAt c.args.v.now) same aged))
  | inr other ↦ c.loop-sector.invariant k (omega (arith, low, other))
]

pub returns : goal.returns
returns c =
    let end = c.loop-sector-test.false in
    within c.args.v.now c.args.size (subst (All (IsDataKey c.args.v.now.geometry c.args.size)) c.requires.keys c.requires.ends) (λ k low. c.loop-sector.invariant k (omega (arith, low, end)))
