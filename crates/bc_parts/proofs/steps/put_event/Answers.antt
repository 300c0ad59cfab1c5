use Rattle.std.proofs.Common.{arith}
use Rattle.bc_parts.proofs.Cargoes.{lends_book, lent_book, alone_lent}
use Rattle.bc_parts.proofs.steps.put_event.Goals as goal

pub slot_mut-requires : goal.slot_mut-requires
slot_mut-requires g c = (c.requires.table, lends_book g.M.Machine c.args.slot _ _ c.args.place.now.me c.requires.book)

pub put_in-requires : goal.put_in-requires
put_in-requires g c = let b = lent_book g.M.Machine c.args.slot _ _ c.args.place.now.me _ c.requires.book c.slot_mut.ensures.value in
    let room = b.room in let some = c.requires.promise in (c.args.place.now.me.0.seen, record { book = b.book; is = b.is; events = b.events; room = omega (arith, room, some) })

pub returns-clause-book : goal.returns-clause-book
returns-clause-book g c = let m = g.M.Machine in let me = c.args.place.now.me in (
  c.put_in.new.slot,
  alone_lent m c.args.slot _ _ me _ c.requires.book,
  (c.put_in.ensures _ _ (lent_book m c.args.slot _ _ me _ c.requires.book c.slot_mut.ensures.value)).book,
)

pub returns-clause-few : goal.returns-clause-few
returns-clause-few g c = (c.put_in.ensures _ _ (lent_book g.M.Machine c.args.slot _ _ c.args.place.now.me _ c.requires.book c.slot_mut.ensures.value)).few

pub returns-clause-stop : goal.returns-clause-stop
returns-clause-stop g c = (c.put_in.ensures _ _ (lent_book g.M.Machine c.args.slot _ _ c.args.place.now.me _ c.requires.book c.slot_mut.ensures.value)).stops
