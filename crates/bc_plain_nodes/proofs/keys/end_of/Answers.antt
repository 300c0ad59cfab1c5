use Rattle.std.proofs.Common.{◌≡◌, ◌∙◌, inl, inr, ap, arith}
use Rattle.std.proofs.lemmas.Bool.{cases_lt, iff_false}
use Rattle.bc_plain_nodes.specs.Look.{look_of}
use Rattle.bc_plain_nodes.proofs.Looks.{look_found}
use Rattle.bc_plain_nodes.proofs.keys.end_of.Goals as goal

pub overflow_add-end : goal.overflow_add-end
overflow_add-end c =
    let found = look_found c.args.bare c.args.keys.now c.args.sector c.args.whole.now c.requires in
    let high = found.1.1 in
    omega (arith, c.args.whole.now.end_fits)

pub loop-end-init : goal.loop-end-init
loop-end-init c =
    let found = look_found c.args.bare c.args.keys.now c.args.sector c.args.whole.now c.requires in
    let high = found.1.1 in
    record {
      behind = omega arith;
      within = omega arith;
      all = λ s from to.
          let same : s ≡ c.args.sector = omega arith in
          ap (look_of c.args.bare c.args.keys.now) same ∙ c.requires;
    }

pub loop-end-preserved : goal.loop-end-preserved
loop-end-preserved c =
    let old = c.loop-end.invariant in
    let behind = old.behind in
    let test = c.loop-end-test.true in
    record {
      behind = omega arith;
      within = omega arith;
      all = λ s from to. elim (cases_lt s c.loop-end.end) [
        | inl before ↦ old.all s from before
        | inr above ↦
            let same : s ≡ c.loop-end.end = omega arith in
            ap (look_of c.args.bare c.args.keys.now) same ∙ c.gives.ensures.0 c.if-gives.true
      ];
    }

pub returns-else-gives-clause-behind : goal.returns-else-gives-clause-behind
returns-else-gives-clause-behind c = iff_false c.gives.ensures c.if-gives.false

pub returns-after-loop-end-clause-behind : goal.returns-after-loop-end-clause-behind
returns-after-loop-end-clause-behind c given =
    let found = look_found c.args.bare c.args.keys.now c.loop-end.end c.args.whole.now given in
    let high = found.1.1 in
    omega (arith, c.loop-end-test.false)
