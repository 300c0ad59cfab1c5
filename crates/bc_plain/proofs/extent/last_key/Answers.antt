use Rattle.std.proofs.Common.{◌≡◌, ◌+◌, ◌++◌, [], ◌∷◌, take, sym, ap, ◌∙◌}
use Rattle.std.proofs.lemmas.List.{take_more}
use Rattle.std.proofs.lemmas.Bool.{iff_false}
use Rattle.bc_extent.specs.LastKey.{last_key}
use Rattle.bc_extent.proofs.LastKeys.{push_covers, push_misses}
use Rattle.bc_plain.proofs.extent.last_key.Goals as goal
use Rattle.bc_plain.proofs.extent.last_key.Goals.{then-covers, else-covers}

pub loop-key-preserved : goal.loop-key-preserved
loop-key-preserved c =
    let keys = c.args.keys.now in
    let sector = c.args.sector in
    let index = c.loop-key.key-index in
    let key = c.key-item.result in
    let more : take (index + 1) keys ≡ take index keys ++ key ∷ [] = take_more keys index key c.loop-key-test.true ∙ ap (λ k. take index keys ++ k ∷ []) (sym c.key-item.is) in
    let grown = ap (λ ks. last_key ks sector) more in
    elim c.if-covers.branch [
      | then-covers w ↦ w.last-is ∙ sym (grown ∙ push_covers (take index keys) key sector (c.covers.ensures.0 w.if-covers.true))
      | else-covers w ↦ w.last-is ∙ c.loop-key.invariant ∙ sym (grown ∙ push_misses (take index keys) key sector (iff_false c.covers.ensures w.if-covers.false))
    ]
