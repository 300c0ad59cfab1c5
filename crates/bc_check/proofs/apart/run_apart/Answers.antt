use Rattle.std.proofs.Common.{◌≡◌, ◌*◌, ◌/◌, ◌+◌, Option, None, Some, ℕ, length, take, subst, ◌∙◌, arith, rules}
use Rattle.std.proofs.lemmas.List.{length-take-le}
use Rattle.bc_replay.specs.Causes.{OfHeld}
use Rattle.bc_check.specs.Apart.{IsFirstNot, AreSame}
use Rattle.bc_check.proofs.Pairs.{both_kept}
use Rattle.bc_check.proofs.Runs.{run_some, run_none}
use Rattle.bc_check.proofs.apart.run_apart.Goals as goal

pub returns-in-Some-clause-found : goal.returns-in-Some-clause-found
returns-in-Some-clause-found g c =
    let done = c.loop-done.done in
    let piece = c.min-piece.result in
    let bytes = length (take (512 * piece) c.loop-done.one) in
    let whole = c.loop-done.invariant.one in
    let long : bytes ≡ 512 * piece = length-take-le (512 * piece) c.loop-done.one (omega arith) in
    let here : OfHeld (λ p. IsFirstNot (AreSame p (c.args.place + done) (c.args.at + done)) (bytes / 512) (Some c.in-Some.k)) (g.C.Disk.facts c.loop-done.cache) (g.B.Disk.facts c.loop-done.backing) =
    subst (λ (o : Option ℕ). OfHeld (λ p. IsFirstNot (AreSame p (c.args.place + done) (c.args.at + done)) (bytes / 512) o) (g.C.Disk.facts c.loop-done.cache) (g.B.Disk.facts c.loop-done.backing)) c.in-Some.is c.in_ok-k.ensures.found in
    run_some (g.C.Disk.facts c.args.cache.now) (g.C.Disk.facts c.loop-done.cache) (g.B.Disk.facts c.args.backing.now) (g.B.Disk.facts c.loop-done.backing) c.args.place c.args.at done piece c.args.count bytes c.loop-done.invariant.kept
    (omega (arith, long)) c.loop-done.invariant.found c.in-Some.k (omega arith) here

pub loop-done-preserved : goal.loop-done-preserved
loop-done-preserved g c =
    let done = c.loop-done.done in
    let piece = c.min-piece.result in
    let bytes = length (take (512 * piece) c.loop-done.one) in
    let whole = c.loop-done.invariant.one in
    let wide = c.loop-done.invariant.other in
    let long : bytes ≡ 512 * piece = length-take-le (512 * piece) c.loop-done.one (omega arith) in
    let here : OfHeld (λ p. IsFirstNot (AreSame p (c.args.place + done) (c.args.at + done)) (bytes / 512) None) (g.C.Disk.facts c.loop-done.cache) (g.B.Disk.facts c.loop-done.backing) =
    subst (λ (o : Option ℕ). OfHeld (λ p. IsFirstNot (AreSame p (c.args.place + done) (c.args.at + done)) (bytes / 512) o) (g.C.Disk.facts c.loop-done.cache) (g.B.Disk.facts c.loop-done.backing)) c.in_default.is c.in_ok-k.ensures.found in
    let so = c.loop-done.invariant in
    let now = c.in_ok-k.ensures in
    record {
      most = omega arith;
      found = run_none (g.C.Disk.facts c.args.cache.now) (g.C.Disk.facts c.loop-done.cache) (g.B.Disk.facts c.args.backing.now) (g.B.Disk.facts c.loop-done.backing) c.args.place c.args.at done piece c.args.count bytes so.kept
          (omega (arith, long)) so.found here;
      kept = both_kept (g.C.Disk.facts c.args.cache.now) (g.C.Disk.facts c.loop-done.cache) (g.C.Disk.facts c.piece_apart.new.cache) (g.B.Disk.facts c.args.backing.now) (g.B.Disk.facts c.loop-done.backing) (g.B.Disk.facts c.piece_apart.new.backing) so.kept now.kept;
      good = (now.good.0 ∙ so.good.0, now.good.1 ∙ so.good.1);
      one = search rules;
      other = search rules;
    }
