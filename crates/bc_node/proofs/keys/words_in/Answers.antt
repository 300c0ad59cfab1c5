use Rattle.std.proofs.Common.{◌≡◌, ◌<◌, inl, inr, length, take, sym, ap, ◌∙◌, arith}
use Rattle.std.proofs.lemmas.List.{length-append, take_all}
use Rattle.std.proofs.lemmas.Option.{slice_get_cases}
use Rattle.bc_key.specs.declared.key.Key.{Key}
use Rattle.bc_key.specs.Words.{words_of}
use Rattle.bc_keys.specs.Spelling.{words_of_all}
use Rattle.bc_keys.proofs.KeyLists.{length-words_of, words_of_all_more}
use Rattle.bc_node.proofs.keys.words_in.Goals as goal

pub loop-i-preserved : goal.loop-i-preserved
loop-i-preserved c =
    let so = c.loop-i.invariant in
    let i = c.loop-i.i in
    let keys = c.args.keys.now.keys in
    let counted = so.counted in
    let bound = so.few in
    let low = c.loop-i-test.true in
    let inside : i < length keys = omega (arith, low, c.len-i-end.ensures.count) in
    elim (slice_get_cases keys i).1 [
      | inl found ↦
          let key = found.0 in
          let more = ap (λ ws. length ws) (words_of_all_more keys i key inside (sym found.3)) ∙ length-append (words_of_all (take i keys)) (words_of key) in
          let one = length-words_of key in
          let pointers : c.pointers.result ≡ key.count = c.pointers.ensures key ∙ ap (λ (k : Key). k.count) found.3 in
          let most = key.count_fits in
          record { counted = omega (arith, more, one, pointers, counted, c.from.ensures); few = omega (arith, bound, pointers, most, c.from.ensures) }
      | inr past ↦ absurd (omega (arith, inside, past.0))
    ]

pub returns-clause-count : goal.returns-clause-count
returns-clause-count c =
    let so = c.loop-i.invariant in
    so.counted ∙ ap (λ ks. length (words_of_all ks)) (take_all c.loop-i.i c.args.keys.now.keys (let past = c.loop-i-test.false in omega (arith, past, c.len-i-end.ensures.count)))
