use Rattle.std.proofs.Common.{◌≡◌, ◌⊎◌, inr, ℕ, suc, ◌+◌, ◌<◌, List, [], Option, length, refl, subst, sym, ◌∙◌, arith}
use Rattle.std.specs.Prelude.{All}
use Rattle.std.proofs.lemmas.List.Elements.{All-nil, All-push}
use Rattle.std.proofs.lemmas.Option.{slice_get_within}
use Rattle.bc_jset.specs.Entries.{AreNumbered}
use Rattle.bc_entries.specs.Lists.{IsAt, picked}
use Rattle.bc_entries.proofs.Lists.{numbered_more, gap_from}
use Rattle.bc_entries.proofs.list.count_up.Goals as goal

pub loop-number-init : goal.loop-number-init
loop-number-init c =
    let all = c.args.all.now in
    let none = c.new-order.ensures.items in
    record {
      listed = subst (λ (xs : List ℕ). AreNumbered all c.args.low (picked all xs) c.args.low) (sym none) refl;
      places = subst (λ (xs : List ℕ). All (λ place. place < length all) xs) (sym none) (All-nil (λ place. place < length all));
    }

pub returns-in-None-clause-gap : goal.returns-in-None-clause-gap
returns-in-None-clause-gap c =
    let all = c.args.all.now in
    let number = c.loop-number.number-counter in
    inr (number, c.last_missing-to.result, refl, gap_from all (picked all c.loop-number.order.items) c.args.low number c.last_missing-to.result c.loop-number.auto.number-counter c.loop-number.invariant.listed c.last_missing-to.ensures)

pub loop-number-preserved : goal.loop-number-preserved
loop-number-preserved c =
    let all = c.args.all.now in
    let number = c.loop-number.number-counter in
    let place = c.in-Some.place.now in
    let so = c.loop-number.invariant in
    let at = subst (λ (o : Option ℕ). IsAt all all number o) (sym c.in-Some.ensures.value) (c.requires.places number) in
    let put = c.in_ok-push-in-Some.ensures.items in
    record {
      listed = subst (λ (xs : List ℕ). AreNumbered all c.args.low (picked all xs) (number + 1)) (sym put)
          (numbered_more all c.args.low number (number + 1) c.loop-number.order.items place at.0 (omega arith) so.listed at.1 at.2);
      places = subst (λ (xs : List ℕ). All (λ p. p < length all) xs) (sym put) (All-push (λ p. p < length all) c.loop-number.order.items place so.places (slice_get_within all place at.0 at.1));
    }

pub returns-clause-places : goal.returns-clause-places
returns-clause-places c = c.loop-number.invariant.places

pub returns-clause-listed : goal.returns-clause-listed
returns-clause-listed c =
    let all = c.args.all.now in
    let below = c.loop-number.auto.number-counter-end c.requires.order in
    let last : c.loop-number.number-counter ≡ c.args.high = omega (arith, below, c.loop-number-test.false) in
    subst (λ n. AreNumbered all c.args.low (picked all c.loop-number.order.items) n) last c.loop-number.invariant.listed
