use Rattle.std.proofs.Common.{◌++◌, [], ◌∷◌, List, take, ap, ◌∙◌, append_assoc}
use Rattle.bc_key.specs.declared.key.Key.{Key}
use Rattle.bc_tree.proofs.Cuts.{got}
use Rattle.bc_tree.proofs.merge.push_keys.Goals as goal

pub loop-i-preserved : goal.loop-i-preserved
loop-i-preserved c =
    let keys = c.args.keys.now.keys in
    let all = c.args.all.now.items in
    let i = c.loop-i.i in
    c.in_ok-push.ensures.items
    ∙ ap (λ (ks : List Key). ks ++ c.key.result ∷ []) c.loop-i.invariant
    ∙ append_assoc all (take i keys) (c.key.result ∷ [])
    ∙ ap (λ (ks : List Key). all ++ ks) (got keys i c.key.result c.key.ensures.key)
