use Rattle.std.proofs.Common.{sym, ◌∙◌}
use Rattle.std.specs.Prelude.{option_to_list}
use Rattle.bc_model.specs.Values.{IsRun}
use Rattle.bc_model.proofs.Apart.{joined_pushed, joined_replaced}
use Rattle.bc_model.proofs.Lists.{all_front, all_last, all_pushed}
use Rattle.bc_model.proofs.run.Runs.push.Goals as goal

pub returns-in-Some-joined-clause-runs : goal.returns-in-Some-joined-clause-runs
returns-in-Some-joined-clause-runs c = all_last IsRun c.args.self.now.rest.items c.in-Some-joined.both (all_front IsRun c.args.self.now.rest.items (option_to_list c.args.self.now.last) c.requires.runs) c.in-Some-joined.ensures.both.1

pub returns-clause-runs : goal.returns-clause-runs
returns-clause-runs c = all_pushed IsRun c.args.self.now.rest.items _ c.args.self.now.last c.in-Some.last c.args.run c.requires.runs (sym c.take.ensures.value ∙ c.in-Some.is) c.requires.run c.in_default-push.ensures.items

pub returns-in-Some-joined-clause-joined : goal.returns-in-Some-joined-clause-joined
returns-in-Some-joined-clause-joined c = λ was. (λ none. absurd (cc), joined_replaced c.args.self.now.rest.items c.args.self.now.last c.in-Some.last c.in-Some-joined.both was.1 (sym c.take.ensures.value ∙ c.in-Some.is) c.in-Some-joined.ensures.begins)

pub returns-clause-joined : goal.returns-clause-joined
returns-clause-joined c = λ was. (λ none. absurd (cc), joined_pushed c.args.self.now.rest.items _ c.args.self.now.last c.in-Some.last c.args.run was.1 (sym c.take.ensures.value ∙ c.in-Some.is) (λ one. let never = c.in_default-joined.ensures.one.1 one in cc) c.in_default-push.ensures.items)
