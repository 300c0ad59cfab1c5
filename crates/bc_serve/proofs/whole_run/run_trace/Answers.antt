use Rattle.bc_serve.proofs.Promised.{has_run, outside, stable, survives}
use Rattle.bc_serve.proofs.whole_run.run_trace.Goals as goal

pub returns-clause-run : goal.returns-clause-run
returns-clause-run g c = (
  c.close-closing.new.seat.seen,
  has_run g.C.Disk.facts g.B.Disk.facts c.args.backing
      c.end-backing.result.backing c.args.lines.now c.serve_lines.new.answers.items c.close-closing.result
      c.end-backing.result.pass c.in-Ok-begin.run'.0 c.in-Ok-begin.run'.1 c.split-worker.new.seat
      c.split-worker.result c.serve_lines.new.seat c.join.new.seat c.close-closing.new.seat (record {
        begun = c.in-Ok-begin.ensures.ok;
        kept = c.split-worker.ensures.kept;
        other = c.split-worker.ensures.new;
        served = c.serve_lines.ensures.served;
        joined = c.join.ensures.joined;
        last = c.close-closing.ensures.closed.0;
        done = c.close-closing.ensures.closed.1;
        closed = c.close-closing.ensures.closed.2;
        run = c.end-backing.ensures.run;
        stands = c.end-backing.ensures.backing;
        told = c.end-backing.ensures.events;
        history = c.end-backing.ensures.history;
      }),
)

pub returns-clause-survives : goal.returns-clause-survives
returns-clause-survives g c = survives g.C.Disk.facts g.B.Disk.facts c.args.backing
    c.end-backing.result.backing c.args.lines.now c.serve_lines.new.answers.items c.close-closing.result
    c.end-backing.result.pass c.in-Ok-begin.run'.0 c.in-Ok-begin.run'.1 c.split-worker.new.seat
    c.split-worker.result c.serve_lines.new.seat c.join.new.seat c.close-closing.new.seat (record {
      begun = c.in-Ok-begin.ensures.ok;
      kept = c.split-worker.ensures.kept;
      other = c.split-worker.ensures.new;
      served = c.serve_lines.ensures.served;
      joined = c.join.ensures.joined;
      last = c.close-closing.ensures.closed.0;
      done = c.close-closing.ensures.closed.1;
      closed = c.close-closing.ensures.closed.2;
      run = c.end-backing.ensures.run;
      stands = c.end-backing.ensures.backing;
      told = c.end-backing.ensures.events;
      history = c.end-backing.ensures.history;
    })

pub returns-clause-stable : goal.returns-clause-stable
returns-clause-stable g c = stable g.C.Disk.facts g.B.Disk.facts c.args.backing
    c.end-backing.result.backing c.args.lines.now c.serve_lines.new.answers.items c.close-closing.result
    c.end-backing.result.pass c.in-Ok-begin.run'.0 c.in-Ok-begin.run'.1 c.split-worker.new.seat
    c.split-worker.result c.serve_lines.new.seat c.join.new.seat c.close-closing.new.seat (record {
      begun = c.in-Ok-begin.ensures.ok;
      kept = c.split-worker.ensures.kept;
      other = c.split-worker.ensures.new;
      served = c.serve_lines.ensures.served;
      joined = c.join.ensures.joined;
      last = c.close-closing.ensures.closed.0;
      done = c.close-closing.ensures.closed.1;
      closed = c.close-closing.ensures.closed.2;
      run = c.end-backing.ensures.run;
      stands = c.end-backing.ensures.backing;
      told = c.end-backing.ensures.events;
      history = c.end-backing.ensures.history;
    })

pub returns-clause-outside : goal.returns-clause-outside
returns-clause-outside g c = outside g.C.Disk.facts g.B.Disk.facts c.args.backing
    c.end-backing.result.backing c.args.lines.now c.serve_lines.new.answers.items c.close-closing.result
    c.end-backing.result.pass c.in-Ok-begin.run'.0 c.in-Ok-begin.run'.1 c.split-worker.new.seat
    c.split-worker.result c.serve_lines.new.seat c.join.new.seat c.close-closing.new.seat (record {
      begun = c.in-Ok-begin.ensures.ok;
      kept = c.split-worker.ensures.kept;
      other = c.split-worker.ensures.new;
      served = c.serve_lines.ensures.served;
      joined = c.join.ensures.joined;
      last = c.close-closing.ensures.closed.0;
      done = c.close-closing.ensures.closed.1;
      closed = c.close-closing.ensures.closed.2;
      run = c.end-backing.ensures.run;
      stands = c.end-backing.ensures.backing;
      told = c.end-backing.ensures.events;
      history = c.end-backing.ensures.history;
    })
