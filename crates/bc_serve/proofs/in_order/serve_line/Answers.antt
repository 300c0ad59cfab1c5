use Rattle.std.proofs.Common.{[], refl, sym, subst}
use Rattle.bc_script.specs.declared.line.Action.{Action}
use Rattle.bc_script.specs.declared.line.Line.{Line}
use Rattle.bc_script.specs.declared.answer.Answer.TheVariants.{Silent, Done}
use Rattle.bc_script.specs.Served.{ServesAction, ServesLine}
use Rattle.bc_job.proofs.Looping.{done_none}
use Rattle.bc_serve.specs.Deeds.{AreActionDeeds, AreDeedsFor}
use Rattle.bc_serve.proofs.in_order.serve_line.Goals as goal

pub returns-in_default-clause-serves : goal.returns-in_default-clause-serves
returns-in_default-clause-serves g c = record {
  deeds = [];
  done = done_none g.C.Disk.facts g.B.Disk.facts c.args.seat.now c.requires.ready.works.seat;
  did = subst (λ (l : Line). AreDeedsFor c.args.size c.args.number l Silent []) (sym c.in_default.is) refl;
  serves = subst (λ (l : Line). ServesLine c.args.size c.args.number l Silent []) (sym c.in_default.is) (refl, refl);
  caused = refl;
  calls = tt;
}

pub returns-in-Round-clause-serves : goal.returns-in-Round-clause-serves
returns-in-Round-clause-serves g c = record {
  deeds = [];
  done = done_none g.C.Disk.facts g.B.Disk.facts c.args.seat.now c.requires.ready.works.seat;
  did = subst (λ (l : Line). AreDeedsFor c.args.size c.args.number l Done []) (sym c.in-Request.is)
      (subst (λ (a : Action). AreActionDeeds c.args.size
      (record { worker = c.in-Request.worker; line = c.args.number }) a Done []) (sym c.in-Round.is) refl);
  serves = subst (λ (l : Line). ServesLine c.args.size c.args.number l Done []) (sym c.in-Request.is)
      (subst (λ (a : Action). ServesAction c.args.size c.in-Request.worker c.args.number a Done [])
      (sym c.in-Round.is) refl);
  caused = refl;
  calls = tt;
}
