use Rattle.std.proofs.Common.{◌≡◌, take}
use Rattle.bc_alloc.specs.Buckets.{all_changed}
use Rattle.bc_raise.specs.bc_renew.Ready.{chained}
use Rattle.bc_ready.proofs.go.let_go_all.Given as goal

abbrev pub invariant-loop-bucket : goal.invariant-loop-bucket
invariant-loop-bucket l =
    l.buckets ≡ all_changed chained (take l.bucket-index l.new) l.initial.buckets
