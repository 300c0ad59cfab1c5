use Rattle.std.proofs.Common.{◌∙◌, ◌+◌, ap, subst, List, length, arith}
use Rattle.std.specs.Prelude.{option_to_list}
use Rattle.bc_model.specs.declared.run.Run.{Run}
use Rattle.bc_model.specs.Values.{all_values}
use Rattle.bc_script.specs.Last.{Goes}
use Rattle.bc_script.proofs.Printed.{all_printed, option_run, room_runs}
use Rattle.bc_script.proofs.print.runs_of.Goals as goal

pub push_runs-requires-clause-room : goal.push_runs-requires-clause-room
push_runs-requires-clause-room c =
    let runs = c.runs-runs.result.now in
    let long = room_runs runs.rest.items (option_to_list runs.last) c.args.values.now c.runs-runs.ensures.values in
    let same = ap (λ (rs : List Run). length (all_values rs)) c.deref.ensures.value in
    let few = c.runs-runs.ensures.few in
    let none = c.none-last.ensures in
    omega arith

pub push_option-requires-clause-runs : goal.push_option-requires-clause-runs
push_option-requires-clause-runs c = option_run c.runs-runs.result.now.rest.items c.runs-runs.result.now.last c.runs-runs.ensures.runs

pub push_option-requires-clause-room : goal.push_option-requires-clause-room
push_option-requires-clause-room c =
    let runs = c.runs-runs.result.now in
    let long = room_runs runs.rest.items (option_to_list runs.last) c.args.values.now c.runs-runs.ensures.values in
    let same = ap (λ (rs : List Run). length (all_values rs)) c.deref.ensures.value in
    let few = c.runs-runs.ensures.few in
    let none = c.none-last.ensures in
    let came = c.in_ok-next.ensures.goes.few in
    omega arith

pub returns : goal.returns
returns c =
    let runs = c.runs-runs.result.now in
    let P : List Run → Type 0 = λ rs. Goes c.args.first (all_values rs) c.none-last.result c.push_runs.new.self c.new-text.result.items c.push_runs.new.text.items in
    all_printed c.args.first c.in_ok-next.next runs.rest.items (option_to_list runs.last) c.args.values.now c.none-last.result c.push_runs.new.self c.push_option.new.self
    c.new-text.result.items c.push_runs.new.text.items c.push_option.new.text.items c.end.new.text.items
    c.none-last.ensures c.new-text.ensures.items
    (c.in_ok-next.ensures.next ∙ ap (λ (rs : List Run). c.args.first + length (all_values rs)) c.deref.ensures.value) c.runs-runs.ensures.values
    (subst P c.deref.ensures.value c.in_ok-next.ensures.goes) c.in_ok-push_option.ensures c.in_ok-end.ensures
