use Rattle.std.proofs.Common.{◌+◌, ◌∷◌, ◌++◌, [], sym, ap, ◌∙◌, subst, arith}
use Rattle.bc_reads.specs.Reads.{AreLongest, AreRuns}
use Rattle.bc_reads.proofs.Said.{HaveEnded, ended_more, longest_more, one_more}
use Rattle.bc_reads.proofs.runs.runs_of.Goals as goal

pub loop-done-preserved : goal.loop-done-preserved
loop-done-preserved c =
    let leaf = c.args.leaf.now in
    let b = c.args.buckets.now in
    let run = c.in-Some.run' in
    let is = c.in-Some.ensures.run in
    let done = c.loop-done.done in
    let from = c.from.ensures in
    let below = c.loop-done-test.true in
    let most = c.loop-done.invariant.most in
    let few = is.2 in
    let first = is.0 ∙ ap (λ n. c.args.first + n) from in record {
      most = omega (arith, few, below, most);
      runs = subst (λ rs. AreRuns leaf b c.args.first (c.args.first + (done + run.count)) rs)
          (sym c.in_ok-push.ensures.items)
          (subst (λ n. AreRuns leaf b c.args.first n (c.loop-done.runs.items ++ run ∷ []))
          (omega arith)
          (one_more leaf b c.args.first (c.args.first + done) c.loop-done.runs.items run
          c.loop-done.invariant.runs first is.1 is.3));
      longest = subst (λ rs. AreLongest rs) (sym c.in_ok-push.ensures.items)
          (longest_more leaf b c.args.first (c.args.first + done) c.loop-done.runs.items run
          c.loop-done.invariant.runs c.loop-done.invariant.longest
          (c.loop-done.invariant.ended below) first is.1 is.3);
      ended = λ more. subst (λ rs. HaveEnded leaf b rs) (sym c.in_ok-push.ensures.items)
          (ended_more leaf b c.loop-done.runs.items run
          (c.in-Some.ensures.longest (omega (arith, more, below))));
    }
