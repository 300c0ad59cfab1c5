use Rattle.bc_script.proofs.Words.{no_word, a_word}
use Rattle.bc_script.proofs.parse.first_word.Goals as goal

pub returns-then-end-eq0 : goal.returns-then-end-eq0
returns-then-end-eq0 c = no_word _ _ _ _ c.blank_len.ensures.place c.split_at.ensures.back c.word_len-end.ensures.place c.if-end-eq0.true

pub returns : goal.returns
returns c = a_word _ _ _ _ _ _ c.blank_len.ensures.place c.split_at.ensures.back c.word_len-end.ensures.place c.if-end-eq0.false c.split_at-2.ensures.front c.split_at-2.ensures.back
