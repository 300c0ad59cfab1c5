use Rattle.std.proofs.Common.{◌≡◌, take}
use Rattle.bc_alloc.specs.Reserves.{empty, stored_all}
use Rattle.bc_plain.proofs.reserves.PlainReserves.new.Given as goal

abbrev pub invariant-loop-bucket : goal.invariant-loop-bucket
invariant-loop-bucket l = l.reserves
    ≡ record (empty l.g) { lists = stored_all (take l.bucket-index l.spare) (empty l.g).lists }
