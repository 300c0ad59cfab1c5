use Rattle.std.proofs.Common.{◌≡◌, ◌%◌, get_or, sym, ap, ◌∙◌, subst, arith}
use Rattle.std.proofs.lemmas.List.{get_or_default}
use Rattle.bc_key.specs.Key.{ptr_at}
use Rattle.bc_key.specs.declared.key.Key.{Key}
use Rattle.bc_tree.proofs.Spines.{end_more, one_comes, rise_at}
use Rattle.bc_tree.proofs.build.push_children.Goals as goal

pub push-requires-clause-end : goal.push-requires-clause-end
push-requires-clause-end c =
    let at = rise_at c.args.leaves.now.end c.args.keys.now c.loop-key.key-index c.key-item.result c.requires.rise c.loop-key-test.true in
    omega (arith, at.0, c.loop-key.invariant.1, ap (λ (k : Key). k.end) c.key-item.is)

pub push-requires-clause-cut : goal.push-requires-clause-cut
push-requires-clause-cut c =
    let at = rise_at c.args.leaves.now.end c.args.keys.now c.loop-key.key-index c.key-item.result c.requires.rise c.loop-key-test.true in
    subst (λ (k : Key). k.end % 256 ≡ 0) (sym c.key-item.is) at.1

pub loop-key-preserved : goal.loop-key-preserved
loop-key-preserved c =
    let keys = c.args.keys.now in
    let i = c.loop-key.key-index in
    let key = c.key-item.result in
    let inside = c.loop-key-test.true in
    let push = c.in_ok-push.ensures.ok in
    let end_is = ap (λ (k : Key). k.end) c.key-item.is in
    let ptr = get_or key.ptrs 0 c.index-key-0.result in
    let ptr_is = get_or_default key.ptrs 0 c.index-key-0.result _ (omega (arith, key.six_places)) ∙ ap (λ (k : Key). ptr_at k 0) c.key-item.is in (
      one_comes keys i key c.args.leaves.now c.loop-key.leaves c.push.new.self key.end ptr inside c.loop-key.invariant.0 push end_is ptr_is,
      push.behind ∙ end_is ∙ sym (end_more c.args.leaves.now.end keys i key inside),
    )
