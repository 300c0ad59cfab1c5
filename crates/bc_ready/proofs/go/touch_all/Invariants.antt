use Rattle.std.proofs.Common.{◌≡◌, take}
use Rattle.bc_raise.specs.bc_renew.Ready.{all_touched}
use Rattle.bc_ready.proofs.go.touch_all.Given as goal

abbrev pub invariant-loop-bucket : goal.invariant-loop-bucket
invariant-loop-bucket l =
    l.buckets ≡ all_touched (take l.bucket-index l.new) l.initial.buckets
