use Rattle.std.proofs.Common.{◌≡◌, take}
use Rattle.bc_alloc.specs.Reserve.{times}
use Rattle.bc_fill.specs.Fill.{bucket_numbers}
use Rattle.bc_ready.proofs.go.is_open.Given as goal

abbrev pub invariant-loop-o : goal.invariant-loop-o
invariant-loop-o l = times l.bucket (bucket_numbers (take l.o-index l.fill)) ≡ 0
