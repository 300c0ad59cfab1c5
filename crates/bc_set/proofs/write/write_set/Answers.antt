use Rattle.std.proofs.Common.{◌≡◌, refl, ap, ◌∙◌}
use Rattle.bc_keys.specs.Spelling.{words_at, words_of_all}
use Rattle.bc_set.proofs.write.write_set.Goals.{After-slice_known-3-1}
use Rattle.bc_set.proofs.write.write_set.Goals as goal

words : (c : After-slice_known-3-1) → words_at c.write_keys-count.result c.write_keys-count.new.into 32 ≡ words_of_all c.args.s.now.keys
words c = c.write_keys-count.ensures.written ∙ ap words_of_all c.as_slice.ensures

pub returns-clause-written : goal.returns-clause-written
returns-clause-written c = λ kind rest proper. c.write_header.ensures.written c.args.s.now kind rest refl c.requires.version (words c) proper

pub returns-clause-words : goal.returns-clause-words
returns-clause-words c = c.write_header.ensures.words c.args.s.now (words c)
