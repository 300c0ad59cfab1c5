use Rattle.std.proofs.Common.{◌≡◌, take}
use Rattle.bc_alloc.specs.Reserves.{returned_all}
use Rattle.bc_plain.proofs.reserves.PlainReserves.give_back_all.Given as goal

abbrev pub invariant-loop-bucket : goal.invariant-loop-bucket
invariant-loop-bucket l =
    l.self ≡ record l.fn.self { lists = returned_all (take l.bucket-index l.old) l.fn.self.lists }
