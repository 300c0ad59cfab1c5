use Rattle.std.proofs.Common.{◌+◌, ◌≤◌, length, vec_capacity}
use Rattle.bc_book.specs.Filed.{HasRoom}
use Rattle.bc_book.proofs.Growing.{room_more}
use Rattle.bc_book.proofs.book.put_filed.Goals as goal

pub returns-in-Some-clause-room : goal.returns-in-Some-clause-room
returns-in-Some-clause-room c = λ n h.
    let left : HasRoom c.put_aside.new.pass n = c.put_aside.ensures.room n h in
    let entries : length c.put_aside.new.pass.entries.items + (n + 1)
    ≤ vec_capacity c.put_aside.new.pass.entries =
    rw c.put_aside.ensures.entries h.entries in
    let records : length c.put_aside.new.pass.records.items + (n + 1)
    ≤ vec_capacity c.put_aside.new.pass.records =
    rw c.put_aside.ensures.records h.records in
    record {
      entries =
          room_more _ _ _ n _ _ entries c.put-in-Some.ensures.capacity c.put-in-Some.ensures.items;
      records = room_more _ _ _ n _ _ records c.put.ensures.capacity c.put.ensures.items;
      beside = left.beside;
      readings = left.readings;
      insertions = left.insertions;
      others = left.others;
    }

pub returns-in-None-clause-room : goal.returns-in-None-clause-room
returns-in-None-clause-room c = λ n h.
    let left : HasRoom c.put_aside.new.pass n = c.put_aside.ensures.room n h in
    let records : length c.put_aside.new.pass.records.items + (n + 1)
    ≤ vec_capacity c.put_aside.new.pass.records =
    rw c.put_aside.ensures.records h.records in
    record {
      entries = left.entries;
      records = room_more _ _ _ n _ _ records c.put.ensures.capacity c.put.ensures.items;
      beside = left.beside;
      readings = left.readings;
      insertions = left.insertions;
      others = left.others;
    }
