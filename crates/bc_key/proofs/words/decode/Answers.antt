use Rattle.std.proofs.Common.{◌≡◌, ◌+◌, take, ap, ◌∙◌, arith, rules}
use Rattle.bc_key.proofs.KeyLaws.{one_key, Spells-front, take-words_of}
use Rattle.bc_key.proofs.words.decode.Goals as goal

pub returns-in_default-clause-again : goal.returns-in_default-clause-again
returns-in_default-clause-again c = λ key rest is.
    let spelled = Spells-front c.args.words.now key rest is in
    grind arith

pub returns-then-count-eq7-clause-again : goal.returns-then-count-eq7-clause-again
returns-then-count-eq7-clause-again c = λ key rest is.
    let spelled = Spells-front c.args.words.now key rest is in
    grind arith

pub returns-then-words-taken-clause-again : goal.returns-then-words-taken-clause-again
returns-then-words-taken-clause-again c = λ key rest is.
    let spelled = Spells-front c.args.words.now key rest is in
    grind arith

pub returns-clause-only : goal.returns-clause-only
returns-clause-only c = λ key spelled.
    let same = one_key c.args.words.now c.key_of.result key c.key_of.ensures spelled in
    let count : c.from-taken.result ≡ c.key_of.result.count = search rules in
    (same, ap (λ n. 2 + n) count ∙ ap (λ k. 2 + k.count) same)

pub returns-clause-again : goal.returns-clause-again
returns-clause-again c = λ key rest is.
    let spelled = Spells-front c.args.words.now key rest is in
    let same = one_key c.args.words.now c.key_of.result key c.key_of.ensures spelled in
    let count : c.from-taken.result ≡ c.key_of.result.count = search rules in
    (same, ap (λ n. 2 + n) count ∙ ap (λ k. 2 + k.count) same)

pub returns-clause-plain : goal.returns-clause-plain
returns-clause-plain c = λ bits.
    let count : c.from-taken.result ≡ c.key_of.result.count = search rules in
    ap (λ n. take (2 + n) c.args.words.now) count ∙ take-words_of c.args.words.now c.key_of.result c.key_of.ensures bits
