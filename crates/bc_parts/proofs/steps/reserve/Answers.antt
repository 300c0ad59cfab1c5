use Rattle.bc_parts.proofs.Cargoes.{lends_book, lent_book, alone_lent}
use Rattle.bc_parts.proofs.steps.reserve.Goals as goal

pub slot_mut-requires : goal.slot_mut-requires
slot_mut-requires g c = (c.requires.table, lends_book g.M.Machine c.args.slot _ _ c.args.place.now.me c.requires.book)

pub reserve_in-requires : goal.reserve_in-requires
reserve_in-requires g c = let b = lent_book g.M.Machine c.args.slot _ _ c.args.place.now.me _ c.requires.book c.slot_mut.ensures.value in (b.book, b.is)

pub returns-clause-book : goal.returns-clause-book
returns-clause-book g c = let m = g.M.Machine in let me = c.args.place.now.me in (
  c.reserve_in.new.slot,
  alone_lent m c.args.slot _ _ me _ c.requires.book,
  c.reserve_in.ensures _ _ (lent_book m c.args.slot _ _ me _ c.requires.book c.slot_mut.ensures.value),
)
