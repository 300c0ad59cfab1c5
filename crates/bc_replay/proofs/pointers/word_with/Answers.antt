use Rattle.std.proofs.Common.{◌≡◌, ◌+◌, true, false, List, subst, take}
use Rattle.std.specs.Prelude.{is_some}
use Rattle.std.proofs.lemmas.List.{take_all}
use Rattle.bc_key.specs.declared.key.Key.{Key}
use Rattle.bc_node.proofs.KeyLists.{taken_key}
use Rattle.bc_replay.specs.Limits.{rule_in}
use Rattle.bc_replay.specs.Refused.{AreData}
use Rattle.bc_replay.proofs.Words.{kept_some, kept_none, kept_found, good_key, good_more, good_both}
use Rattle.bc_replay.proofs.pointers.word_with.Goals as goal

pub returns-then-is_some : goal.returns-then-is_some
returns-then-is_some c = λ seen kept. let is : is_some c.args.word ≡ true = cc in kept_some (rule_in c.args.limits.now) seen c.args.keys.now c.args.word is kept

pub returns-then-is_some-2 : goal.returns-then-is_some-2
returns-then-is_some-2 c = λ seen kept.
    let r = rule_in c.args.limits.now in
    let none : is_some c.args.word ≡ false = cc in
    let found : is_some c.data_word-word.result ≡ true = cc in
    kept_found r c.args.keys.now seen c.loop-key.key-index c.key-item.result c.data_word-word.result found c.loop-key-test.true c.key-item.is c.loop-key.invariant c.data_word-word.ensures (kept_none r seen c.args.word none kept)

pub loop-key-preserved : goal.loop-key-preserved
loop-key-preserved c =
    let r = rule_in c.args.limits.now in
    let i = c.loop-key.key-index in
    let keys = c.args.keys.now in
    let none : is_some c.data_word-word.result ≡ false = cc in
    good_more r (take i keys) (take (i + 1) keys) c.key-item.result (taken_key keys i c.key-item.result c.loop-key-test.true c.key-item.is) c.loop-key.invariant (good_key r c.key-item.result c.data_word-word.result none c.data_word-word.ensures)

pub returns : goal.returns
returns c = λ seen kept.
    let r = rule_in c.args.limits.now in
    let none : is_some c.args.word ≡ false = cc in
    good_both r seen c.args.keys.now (kept_none r seen c.args.word none kept) (subst (λ (ks : List Key). AreData r ks) (take_all c.loop-key.key-index c.args.keys.now c.loop-key-test.false) c.loop-key.invariant)
