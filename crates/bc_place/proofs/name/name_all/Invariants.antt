use Rattle.std.proofs.Common.{◌≡◌, take}
use Rattle.bc_place.specs.Next.{all_named}
use Rattle.bc_place.proofs.name.name_all.Given as goal

abbrev pub invariant-loop-place : goal.invariant-loop-place
invariant-loop-place l =
    l.buckets ≡ all_named (take l.place-index l.places) l.initial.buckets
