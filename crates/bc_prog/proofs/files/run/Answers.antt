use Rattle.std.proofs.Common.{inl, inr, sym, subst, ap, ◌∙◌}
use Rattle.std.specs.Prelude.{Err}
use Rattle.bc_output.proofs.Taken.{to_end}
use Rattle.std.specs.Prelude.{List, String}
use Rattle.std.specs.declared.alloc.Global.{Global}
use Rattle.bc_top.specs.Top.{IsServe, Says}
use Rattle.bc_prog.proofs.Ended.{began, refused, unknown}
use Rattle.bc_prog.proofs.files.run.Goals as goal

pub returns-in-Err-clause-unknown : goal.returns-in-Err-clause-unknown
returns-in-Err-clause-unknown g c = λ _. refused _ _ (λ is. c.open_disks.ensures.memory (c.in-Err.is ∙ ap Err is)) c.refuse.ensures.ended

pub returns-in-Ok-clause-unknown : goal.returns-in-Ok-clause-unknown
returns-in-Ok-clause-unknown g c = λ other. unknown _ (c.bcache.ensures.unknown (λ command says. other command (subst (λ (words : List (String Global)). Says words command) (to_end 2 c.args.words.now) says)))

pub returns-in-Ok-clause-done : goal.returns-in-Ok-clause-done
returns-in-Ok-clause-done g c = λ serves zero.
    let over = c.bcache.ensures.serves (subst IsServe (sym (to_end 2 c.args.words.now)) serves) in
    elim (began _ _ _ _ _ _ _ _ _ _ _ _
    (λ none. elim (over.stopped none) [
      | inl it ↦ inl (it.0, it.1)
      | inr opened ↦ inr opened
    ]) over.run zero) [
      | inl run ↦ (elim run.1 [
        | inl alone ↦ (let done = alone.served.done zero in inl (record {
          lines = alone.served.lines;
          trace = alone.served.trace;
          whole = alone.served.whole;
          size = _;
          answers = alone.served.answers;
          history = _;
          served = alone.served.run.served;
          text = done.text;
          printed = done.are_lines;
          taken = done.taken;
        }))
        | inr cached ↦ (let done = cached.reported.done zero in inl (record {
          lines = cached.lines;
          trace = cached.trace;
          whole = cached.whole;
          size = _;
          answers = cached.reported.outcome.answers.items;
          history = _;
          served = cached.reported.served zero;
          text = done.text;
          printed = done.are_lines;
          taken = done.taken;
        }))
      ])
      | inr idle ↦ inr idle
    ]

pub returns-in-Ok-clause-usage : goal.returns-in-Ok-clause-usage
returns-in-Ok-clause-usage g c = λ two command says. c.bcache.ensures.usage two command (subst (λ (words : List (String Global)). Says words command) (sym (to_end 2 c.args.words.now)) says)
