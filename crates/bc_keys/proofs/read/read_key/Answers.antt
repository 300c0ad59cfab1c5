use Rattle.bc_keys.proofs.Readings.{found_in_all, spelled_in_part, refused_in_all}
use Rattle.bc_keys.proofs.read.read_key.Goals as goal

pub returns-clause-found : goal.returns-clause-found
returns-clause-found c = found_in_all c.args.bytes.now c.args.at c.args.count c.min-held.result c.min-held.ensures _ c.decode.result c.words_from-words.ensures c.decode.ensures.found

pub returns-clause-only : goal.returns-clause-only
returns-clause-only c = λ key spelled.
    c.decode.ensures.only key (spelled_in_part c.args.bytes.now c.args.at c.args.count c.min-held.result c.min-held.ensures _ key c.words_from-words.ensures spelled)

pub returns-clause-refused : goal.returns-clause-refused
returns-clause-refused c = refused_in_all c.args.bytes.now c.args.at c.args.count c.min-held.result c.min-held.ensures _ c.decode.result c.words_from-words.ensures c.decode.ensures.refused
