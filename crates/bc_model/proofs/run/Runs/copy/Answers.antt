use Rattle.std.proofs.Common.{◌≡◌, suc, ◌<◌, List, length, ap, subst, arith, length-append}
use Rattle.std.specs.Prelude.{option_to_list}
use Rattle.std.proofs.Common.{get_or}
use Rattle.std.proofs.lemmas.Grind.{flat_map-append}
use Rattle.bc_model.specs.Sector.{Value}
use Rattle.bc_model.specs.declared.run.Run.{Run}
use Rattle.bc_model.specs.Values.{values_in, all_values}
use Rattle.bc_model.proofs.Lists.{behind_one, few_taken}
use Rattle.bc_model.proofs.run.Runs.copy.Goals as goal

pub push-requires-clause-room : goal.push-requires-clause-room
push-requires-clause-room c =
    let rest = c.args.self.now.rest.items in
    let same = c.deref-run-items.ensures.value in
    let some : c.loop-run.run-index < length rest = subst (λ (rs : List Run). c.loop-run.run-index < length rs) same c.loop-run-test.true in
    let is : c.run-item.result ≡ get_or rest c.loop-run.run-index c.run-item.result = subst (λ (rs : List Run). c.run-item.result ≡ get_or rs c.loop-run.run-index c.run-item.result) same c.run-item.is in
    let one = behind_one rest c.run-item.result c.loop-run.run-index some is in
    let few = few_taken rest (suc c.loop-run.run-index) in
    let whole = ap (λ (vs : List Value). length vs) (flat_map-append values_in rest (option_to_list c.args.self.now.last)) in
    let sum = length-append (all_values rest) (all_values (option_to_list c.args.self.now.last)) in
    let copied = ap (λ (vs : List Value). length vs) c.in_ok-copy.ensures.0 in
    let so_far = ap (λ (vs : List Value). length vs) c.loop-run.invariant.0 in
    omega arith
