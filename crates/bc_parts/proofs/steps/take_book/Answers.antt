use Rattle.std.proofs.Common.{length, sym, ap, ◌∙◌}
use Rattle.bc_parts.proofs.Cargoes.{takes_book}
use Rattle.bc_parts.proofs.steps.take_book.Goals as goal

pub returns-clause-book : goal.returns-clause-book
returns-clause-book g c = takes_book g.M.Machine c.args.slot c.args.place.now.me c.claim.new.place.me (c.requires.slot ∙ sym (ap length c.requires.begun)) c.requires.rests.bare c.claim.ensures.takes
