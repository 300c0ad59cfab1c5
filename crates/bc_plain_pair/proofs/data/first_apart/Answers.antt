use Rattle.std.proofs.Common.{inl, inr, subst, sym, arith}
use Rattle.std.proofs.lemmas.Bool.{cases_eq}
use Rattle.std.specs.Prelude.{All}
use Rattle.bc_plain_pair.specs.PairBytes.{pair_of}
use Rattle.bc_image.specs.Sound.{IsDataKey}
use Rattle.bc_plain_pair.specs.Sectors.{AgreesAt}
use Rattle.bc_plain_pair.proofs.Sectors.{agrees}
use Rattle.bc_plain_pair.proofs.data.first_apart.Goals as goal

pub returns-then-has_apart : goal.returns-then-has_apart
returns-then-has_apart c = record {
  holds = c.if-has_apart.ensures;
  least = λ k low apart. apart.2.2 (c.loop-sector.invariant k low apart.0 apart.1 apart.2.0 apart.2.1);
}

pub loop-sector-preserved : goal.loop-sector-preserved
loop-sector-preserved c = λ k low. elim (cases_eq k c.loop-sector.sector) [
  | inl same ↦ subst (AgreesAt (pair_of c.args.cache.now c.args.backing.now) c.args.v.now) (sym same) c.if-has_apart.ensures
  | inr other ↦ c.loop-sector.invariant k (omega (arith, low, other))
]

pub returns : goal.returns
returns c =
    let end = c.loop-sector-test.false in
    agrees c.args.v.now c.args.size (subst (All (IsDataKey c.args.v.now.geometry c.args.size)) c.requires.keys c.requires.ends) (pair_of c.args.cache.now c.args.backing.now) (λ k low. c.loop-sector.invariant k (omega (arith, low, end)))
