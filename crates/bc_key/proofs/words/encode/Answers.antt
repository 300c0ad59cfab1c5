use Rattle.std.proofs.Common.{◌≡◌, ◌+◌, ◌∷◌, ◌++◌, drop, ap, ◌∙◌, arith}
use Rattle.std.specs.Prelude.{slice_set}
use Rattle.bc_key.specs.Words.{words_of, high_word}
use Rattle.bc_key.proofs.KeyLaws.{Spells-front, ptr_words, ptr_written}
use Rattle.bc_key.proofs.words.encode.Goals as goal

pub loop-i-preserved : goal.loop-i-preserved
loop-i-preserved c =
    let k = c.args.k.now in
    let place = 2 + c.loop-i.i in
    ap (λ ws. slice_set ws place c.word_of_ptr.result) c.loop-i.invariant
    ∙ ap (slice_set ((high_word k ∷ k.end ∷ ptr_words k.ptrs c.loop-i.i) ++ drop place c.args.into.now) place) c.word_of_ptr.ensures
    ∙ ptr_written k c.args.into.now c.loop-i.i c.index-k-i.result (omega arith) c.requires

pub returns-clause-written : goal.returns-clause-written
unfolding words_of
returns-clause-written c =
    let k = c.args.k.now in
    let all : c.loop-i.i ≡ k.count = omega arith in
    c.loop-i.invariant ∙ ap (λ n. (high_word k ∷ k.end ∷ ptr_words k.ptrs n) ++ drop (2 + n) c.args.into.now) all

pub returns-clause-spelled : goal.returns-clause-spelled
unfolding words_of
returns-clause-spelled c =
    let k = c.args.k.now in
    let all : c.loop-i.i ≡ k.count = omega arith in
    Spells-front c.loop-i.into k (drop (2 + k.count) c.args.into.now) (c.loop-i.invariant ∙ ap (λ n. (high_word k ∷ k.end ∷ ptr_words k.ptrs n) ++ drop (2 + n) c.args.into.now) all)
