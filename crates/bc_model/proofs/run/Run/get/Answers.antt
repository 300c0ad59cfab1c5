use Rattle.std.proofs.Common.{◌≡◌, ℕ, List, [], ◌∷◌, ◌++◌, ◌<◌, ◌+◌, sym, ap, ◌∙◌, length, subst, arith, Some}
use Rattle.std.specs.Prelude.{slice_get}
use Rattle.bc_model.specs.declared.run.Run.{Run}
use Rattle.bc_model.specs.Pattern.{zeros}
use Rattle.bc_model.specs.Values.{values_in, IsRun, patterns}
use Rattle.bc_model.proofs.Lists.{length_patterns, get_patterns, get_zeros}
use Rattle.bc_model.specs.Sector.{values_of, sectors}
use Rattle.bc_model.proofs.Sectors.{length_raw, get_values}
use Rattle.bc_model.proofs.run.Run.get.Goals as goal

pub overflow_add-first : goal.overflow_add-first
overflow_add-first c =
    let fits = subst IsRun c.in-Pattern.is c.requires.run in
    let high = fits.1 in
    let inside : c.args.i < length (patterns c.in-Pattern.stamp c.in-Pattern.first c.in-Pattern.count) = subst (λ (r : Run). c.args.i < length (values_in r)) c.in-Pattern.is c.requires.inside in
    let count = length_patterns c.in-Pattern.stamp c.in-Pattern.first c.in-Pattern.count in
    omega arith

pub returns-in-Pattern : goal.returns-in-Pattern
returns-in-Pattern c =
    let inside : c.args.i < length (patterns c.in-Pattern.stamp c.in-Pattern.first c.in-Pattern.count) = subst (λ (r : Run). c.args.i < length (values_in r)) c.in-Pattern.is c.requires.inside in
    let count = length_patterns c.in-Pattern.stamp c.in-Pattern.first c.in-Pattern.count in
    ap (λ (r : Run). slice_get (values_in r) c.args.i) c.in-Pattern.is ∙ get_patterns c.in-Pattern.stamp c.in-Pattern.first c.in-Pattern.count c.args.i (omega arith) ∙ ap Some (sym c.pattern.ensures)

pub returns-in-Zero : goal.returns-in-Zero
unfolding zeros
returns-in-Zero c =
    ap (λ (r : Run). slice_get (values_in r) c.args.i) c.in-Zero.is ∙ get_zeros c.in-Zero.count c.args.i (subst (λ (r : Run). c.args.i < length (values_in r)) c.in-Zero.is c.requires.inside)

pub sector_at-requires : goal.sector_at-requires
sector_at-requires c =
    let fits = subst IsRun c.in-Raw.is c.requires.run in
    let whole = fits.0 in
    let inside : c.args.i < length (values_of c.in-Raw.bytes.items) = subst (λ (r : Run). c.args.i < length (values_in r)) c.in-Raw.is c.requires.inside in
    let same = ap (λ (bs : List ℕ). length bs) c.deref.ensures.value in
    omega (arith, length_raw c.in-Raw.bytes.items)

pub returns-in-Raw : goal.returns-in-Raw
returns-in-Raw c =
    let inside : c.args.i < length (values_of c.in-Raw.bytes.items) = subst (λ (r : Run). c.args.i < length (values_in r)) c.in-Raw.is c.requires.inside in
    let there = subst (λ (bs : List ℕ). sectors (c.args.i + 1) bs ≡ sectors c.args.i bs ++ c.sector_at.result ∷ []) c.deref.ensures.value c.sector_at.ensures in
    ap (λ (r : Run). slice_get (values_in r) c.args.i) c.in-Raw.is ∙ get_values c.in-Raw.bytes.items c.args.i c.sector_at.result (omega (arith, length_raw c.in-Raw.bytes.items)) there
