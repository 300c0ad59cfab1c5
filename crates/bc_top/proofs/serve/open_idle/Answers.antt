use Rattle.std.specs.Prelude.{IfErr, Result, Err}
use Rattle.std.proofs.Common.{◌≡◌, inr, ap, ◌∙◌, subst}
use Rattle.bc_replay.specs.declared.error.OpenError.{OpenError}
use Rattle.bc_session_laws.specs.bc_session.Idle.{IsIdleStop}
use Rattle.bc_output.specs.Message.{message_text}
use Rattle.bc_top.specs.Ended.{IsPutOf}
use Rattle.bc_top.specs.Stops.{message_of, status_of}
use Rattle.bc_top.specs.declared.stop.Stop.{Stop}
use Rattle.bc_top.proofs.serve.open_idle.Goals as goal

at_err : {A E : Type 0} (P : E → Type 0) (r : Result A E) (e : E) → r ≡ Err e → IfErr r P → P e
at_err P r e is h = subst (λ x. IfErr x P) is h

pub returns-in-Err-clause-ends : goal.returns-in-Err-clause-ends
returns-in-Err-clause-ends g c =
    let r = c.open_and_close-cache.result in
    let e = c.in-Err.error in
    inr (
      e,
      subst (λ (x : Result (Unit {0}) OpenError). IsIdleStop g.C.Disk.facts g.B.Disk.facts
          c.args.survey.now c.args.cache c.args.backing
          (record { cache = r.cache; backing = r.backing; result = x }) e) c.in-Err.is
          (at_err (IsIdleStop g.C.Disk.facts g.B.Disk.facts c.args.survey.now c.args.cache
          c.args.backing r) r.result e c.in-Err.is c.open_and_close-cache.ensures.cause),
      c.tell.ensures.status ∙ ap status_of c.from.ensures,
      subst (λ (s : Stop). IsPutOf (message_text (message_of s)) (g.K.Sink.facts c.args.out.now)
          (g.K.Sink.facts c.tell.new.out)) c.from.ensures c.tell.ensures.put,
    )
