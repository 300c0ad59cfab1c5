use Rattle.std.proofs.Common.{◌≡◌, ◌-◌, ◌∙◌, inl, inr, ap, arith}
use Rattle.std.proofs.lemmas.Bool.{cases_lt, iff_false}
use Rattle.bc_plain_nodes.specs.Look.{look_of}
use Rattle.bc_plain_nodes.proofs.Looks.{look_found}
use Rattle.bc_plain_nodes.proofs.keys.first_of.Goals as goal

pub loop-first-init : goal.loop-first-init
loop-first-init c =
    let found = look_found c.args.bare c.args.keys.now c.args.sector c.args.whole.now c.requires in
    let low = found.1.0 in
    record {
      before = omega arith;
      within = low;
      all = λ s from to.
          let same : s ≡ c.args.sector = omega arith in
          ap (look_of c.args.bare c.args.keys.now) same ∙ c.requires;
    }

pub loop-first-preserved : goal.loop-first-preserved
loop-first-preserved c =
    let old = c.loop-first.invariant in
    let before = old.before in
    let test = c.loop-first-test.true in
    record {
      before = omega arith;
      within = omega (arith, c.start.ensures);
      all = λ s from to. elim (cases_lt s c.loop-first.first) [
        | inr above ↦ old.all s above to
        | inl below ↦
            let same : s ≡ c.loop-first.first - 1 = omega arith in
            ap (look_of c.args.bare c.args.keys.now) same ∙ c.gives.ensures.0 c.if-gives.true
      ];
    }

pub returns-else-gives-clause-before : goal.returns-else-gives-clause-before
returns-else-gives-clause-before c = inr (iff_false c.gives.ensures c.if-gives.false)
