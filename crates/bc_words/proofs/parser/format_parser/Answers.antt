use Rattle.std.proofs.Common.{ap₂, refl, ◌∙◌}
use Rattle.std.proofs.lemmas.Result.{IfOk-weaker}
use Rattle.clap.specs.Words.{with_rule}
use Rattle.bc_words.proofs.parser.format_parser.Goals as goal

pub returns-clause-app : goal.returns-clause-app
returns-clause-app c =
    let set = c.in_ok-arg.ensures.shape c.required.ensures.own ∙ ap₂ with_rule c.new.ensures.app c.required.ensures.rule in
    let cuuid = c.in_ok-arg-2.ensures.shape c.required-2.ensures.own ∙ ap₂ with_rule set c.required-2.ensures.rule in
    let buuid = c.in_ok-arg-3.ensures.shape c.required-3.ensures.own ∙ ap₂ with_rule cuuid c.required-3.ensures.rule in
    let block = c.in_ok-arg-4.ensures.shape c.optional.ensures.own ∙ ap₂ with_rule buuid c.optional.ensures.rule in
    let bucket = c.in_ok-arg-5.ensures.shape c.optional-2.ensures.own ∙ ap₂ with_rule block c.optional-2.ensures.rule in
    let mode = c.in_ok-arg-6.ensures.shape c.optional-3.ensures.own ∙ ap₂ with_rule bucket c.optional-3.ensures.rule in
    IfOk-weaker c.arg-7.result _ _ (λ m h. h.shape c.optional-4.ensures.own ∙ ap₂ with_rule mode c.optional-4.ensures.rule) c.arg-7.ensures

pub returns-clause-own : goal.returns-clause-own
returns-clause-own c = IfOk-weaker c.arg-7.result _ _ (λ m h.
    rw (
      h.globals,
      c.in_ok-arg-6.ensures.globals,
      c.in_ok-arg-5.ensures.globals,
      c.in_ok-arg-4.ensures.globals,
      c.in_ok-arg-3.ensures.globals,
      c.in_ok-arg-2.ensures.globals,
      c.in_ok-arg.ensures.globals,
      c.new.ensures.local,
      c.required.ensures.own,
      c.required-2.ensures.own,
      c.required-3.ensures.own,
      c.optional.ensures.own,
      c.optional-2.ensures.own,
      c.optional-3.ensures.own,
      c.optional-4.ensures.own,
    ) refl) c.arg-7.ensures
