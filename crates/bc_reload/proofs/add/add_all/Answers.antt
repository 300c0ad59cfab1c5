use Rattle.std.proofs.Common.{◌++◌, ◌∙◌, List, [], ◌∷◌, take, sym, ap, subst, arith}
use Rattle.std.proofs.lemmas.List.{take_more}
use Rattle.bc_pending.specs.declared.numbered.Numbered.{Numbered}
use Rattle.bc_reload.specs.Added.{HasAdded}
use Rattle.bc_reload.proofs.Adding.{added_both}
use Rattle.bc_reload.proofs.add.add_all.Goals as goal

pub loop-key-preserved : goal.loop-key-preserved
loop-key-preserved c =
    let keys = c.args.keys.now in
    let i = c.loop-key.key-index in
    let key = c.key-item.result in
    let old = c.args.leaf.now in
    let parts = take_more keys i key c.loop-key-test.true ∙ ap (λ (k : Numbered). take i keys ++ k ∷ []) (sym c.key-item.is) in
    record {
      added = subst (λ (ks : List Numbered). HasAdded ks old c.add_key.new.leaf) (sym parts)
          (added_both (take i keys) (key ∷ []) old c.loop-key.leaf c.add_key.new.leaf c.loop-key.invariant.added c.add_key.ensures.added);
      spare = omega (arith, c.loop-key.invariant.spare, c.add_key.ensures.spare);
    }
