use Rattle.std.proofs.Common.{◌≡◌, ◌+◌, List, length, subst}
use Rattle.std.specs.Prelude.{slice_get, Some}
use Rattle.bc_model.specs.declared.run.Run.{Run}
use Rattle.bc_model.specs.Values.{all_values}
use Rattle.bc_model.proofs.Lists.{get_early, get_late}
use Rattle.bc_model.proofs.run.Runs.get.Goals as goal

pub returns-in-Ok : goal.returns-in-Ok
returns-in-Ok c =
    let P : List Run → Type 0 = λ rs. slice_get (all_values rs) c.args.i ≡ Some c.in-Ok.value in
    get_early c.args.self.now.rest.items c.args.self.now.last c.args.i c.in-Ok.value (subst P c.deref.ensures.value c.in-Ok.ensures.found)

pub returns-in-Some : goal.returns-in-Some
returns-in-Some c =
    let P : List Run → Type 0 = λ rs. c.in-Err.left + length (all_values rs) ≡ c.args.i in
    get_late c.args.self.now.rest.items c.args.self.now.last c.in-Some.last c.args.i c.in-Err.left c.get.result c.in-Some.is (subst P c.deref.ensures.value c.in-Err.ensures.behind) c.get.ensures
