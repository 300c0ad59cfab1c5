use Rattle.std.proofs.Common.{◌+◌, List, ◌∷◌, Some, subst, sym, drop}
use Rattle.bc_walk.specs.declared.visit.Visit.{Visit}
use Rattle.bc_walk.specs.declared.visit.Visit.TheVariants as visits
use Rattle.bc_replay.proofs.Words.{Words, words_barred, words_past, visit_left}
use Rattle.bc_replay.proofs.pointers.barred_word.Goals as goal

pub returns-in-Barred : goal.returns-in-Barred
returns-in-Barred c =
    let g = c.args.g.now in
    let seen = c.args.seen.now in
    let i = c.loop-visit.visit-index in
    let rest = drop (i + 1) seen in
    let left = visit_left seen i c.visit-item.result c.loop-visit-test.true c.visit-item.is in
    let here = subst (λ (v : Visit). Words g c.loop-visit.root (v ∷ rest) (Some c.node_word.result)) (sym c.in-Barred.is) (words_barred g c.loop-visit.root c.in-Barred.key rest c.node_word.result c.node_word.ensures) in
    c.loop-visit.invariant (Some c.node_word.result) (subst (λ (vs : List Visit). Words g c.loop-visit.root vs (Some c.node_word.result)) (sym left) here)

pub loop-visit-preserved : goal.loop-visit-preserved
loop-visit-preserved c = λ word words.
    let g = c.args.g.now in
    let seen = c.args.seen.now in
    let i = c.loop-visit.visit-index in
    let left = visit_left seen i c.visit-item.result c.loop-visit-test.true c.visit-item.is in
    c.loop-visit.invariant word
    (subst (λ (vs : List Visit). Words g c.loop-visit.root vs word) (sym left) (words_past g c.loop-visit.root c.visit-item.result (drop (i + 1) seen) word c.in_default.not-Barred words))
