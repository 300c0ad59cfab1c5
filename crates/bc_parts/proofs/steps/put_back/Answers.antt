use Rattle.std.proofs.Common.{length, sym, ap, ◌∙◌}
use Rattle.bc_parts.proofs.Cargoes.{book_ready}
use Rattle.bc_parts.proofs.steps.put_back.Goals as goal

pub clear-requires-clause-filled : goal.clear-requires-clause-filled
clear-requires-clause-filled g c = let r = c.requires in book_ready g.M.Machine c.args.slot c.args.place.now.me r.away r.book (r.slot ∙ sym (ap length r.begun))
