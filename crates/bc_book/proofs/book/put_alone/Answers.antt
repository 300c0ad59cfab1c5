use Rattle.std.proofs.Common.{ℕ, ◌+◌, ◌≤◌, refl, arith}
use Rattle.bc_book.specs.Filed.{alone}
use Rattle.bc_book.proofs.Growing.{ends_of, ends_at, room_more}
use Rattle.bc_book.proofs.book.put_alone.Goals as goal

lower : (a n b : ℕ) → a + (n + 1) ≤ b → a + n ≤ b
lower a n b h = omega (arith, h)

pub returns-clause-filed : goal.returns-clause-filed
returns-clause-filed c e tells =
    let at = ends_of c.args.pass.now in
    (at, alone c.args.item, ends_at c.args.pass.now, tells at, refl, c.put.ensures.items)

pub returns-clause-room : goal.returns-clause-room
returns-clause-room c n h = record {
  entries = lower _ _ _ h.entries;
  records = room_more _ _ _ n _ _ h.records c.put.ensures.capacity c.put.ensures.items;
  beside = lower _ _ _ h.beside;
  readings = lower _ _ _ h.readings;
  insertions = lower _ _ _ h.insertions;
  others = lower _ _ _ h.others;
}
