use Rattle.bc_cached_serve.proofs.Cutting.{ready_alone}
use Rattle.bc_cached_serve.proofs.Order.{gone_on}
use Rattle.bc_cached_serve.proofs.Whole.{has_run_on, usable_still}
use Rattle.bc_cached_serve.proofs.whole_run.serve_run.Goals as goal

pub serve_lines-served-requires-clause-ready : goal.serve_lines-served-requires-clause-ready
serve_lines-served-requires-clause-ready g c = ready_alone g.C.Disk.facts g.B.Disk.facts
    c.args.parts c.args.seat c.requires.works c.requires.alone c.requires.cached c.requires.leaves
    c.requires.durable

pub close-closed-requires-clause-usable : goal.close-closed-requires-clause-usable
close-closed-requires-clause-usable g c =
    let went = gone_on g.C.Disk.facts g.B.Disk.facts c.args.parts c.args.size
    c.serve_lines-served.result c.args.lines.now c.serve_lines-served.new.answers.items
    c.args.seat c.serve_lines-served.new.seat c.serve_lines-served.ensures.served in
    usable_still g.C.Disk.facts g.B.Disk.facts c.args.superblock.now c.args.seat
    c.serve_lines-served.new.seat went.run c.requires.usable

pub returns-clause-run : goal.returns-clause-run
returns-clause-run g c = has_run_on g.C.Disk.facts g.B.Disk.facts c.args.parts c.args.superblock.now
    c.args.dirty c.args.size c.args.lines.now c.args.seat c.serve_lines-served.new.seat (record {
      answers = c.serve_lines-served.new.answers;
      served = c.serve_lines-served.result;
      closed = c.close-closed.result;
    }) c.serve_lines-served.ensures.served c.serve_lines-served.ensures.ready
    c.close-closed.ensures
