use Rattle.std.proofs.Common.{◌≡◌, ◌+◌, List, [], ◌∷◌, ◌++◌, sym, subst, arith, rules}
use Rattle.bc_bypass.proofs.Emptying.{empty_more}
use Rattle.bc_bypass.specs.Empty.{AreEmpty}
use Rattle.bc_key.specs.declared.key.Key.{Key}
use Rattle.bc_bypass.proofs.keys.empty_keys.Goals as goal

pub loop-done-preserved : goal.loop-done-preserved
loop-done-preserved c =
    let l = c.loop-done in
    let pushed : c.push.new.self.items ≡ l.keys.items ++ c.new.result ∷ [] = search rules in
    let end = c.new.ensures.end in
    let size = c.new.ensures.size in
    let min = c.min-more.ensures in
    let wide = c.from.ensures in
    let long = c.from-in-loop-done.ensures in
    let test = c.loop-done-test.true in
    let some = c.requires.some in
    record {
      most = omega (arith, min, wide, test);
      keys = subst (λ (ks : List Key). AreEmpty c.args.bucket c.args.first
          (c.args.first + (l.done + c.min-more.result)) ks) (sym pushed)
          (subst (λ n. AreEmpty c.args.bucket c.args.first n (l.keys.items ++ c.new.result ∷ []))
          (omega (arith, end, long))
          (empty_more c.args.bucket c.args.first (c.args.first + l.done) l.keys.items c.new.result
          l.invariant.keys (record {
            none = c.new.ensures.count;
            some = omega (arith, size, min, wide, test, some);
            few = omega (arith, size, min, wide);
            end = omega (arith, end, long, size);
          })));
    }
