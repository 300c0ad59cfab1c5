use Rattle.std.proofs.Common.{◌∙◌}
use Rattle.bc_output.proofs.Taken.{front_more, inside_more, took_some}
use Rattle.bc_output.proofs.put.put_all.Goals as goal

pub loop-taken-preserved : goal.loop-taken-preserved
loop-taken-preserved g c =
    let facts = g.K.Sink.facts in
    let put = c.in-Ok.ensures in
    record {
      inside = inside_more c.loop-taken.taken c.in-Ok.count c.args.text.now c.loop-taken.invariant.inside put.0;
      taken = front_more c.loop-taken.taken c.in-Ok.count c.args.text.now (facts c.args.out.now) (facts c.loop-taken.out) (facts c.put.new.self) c.loop-taken.invariant.taken put.1 put.2 (put.3 ∙ took_some c.in-Ok.count _ _ c.in-Ok.count-test.1);
    }
