use Rattle.std.proofs.Common.{◌≡◌, ◌+◌, take}
use Rattle.bc_place.specs.Named.{AreKeysFor, sectors_of}
use Rattle.bc_place.proofs.keys.keys_for.Given as goal

abbrev pub invariant-loop-place : goal.invariant-loop-place
invariant-loop-place l =
    (l.next ≡ l.first + sectors_of (take l.place-index l.places))
    × AreKeysFor l.first (take l.place-index l.places) l.keys.items
