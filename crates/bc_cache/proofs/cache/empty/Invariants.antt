use Rattle.std.proofs.Common.{◌≡◌, replicate, Option, None}
use Rattle.bc_cache.specs.declared.slots.Cached.{Cached}
use Rattle.bc_cache.proofs.cache.empty.Given as goal

abbrev pub invariant-loop-done : goal.invariant-loop-done
invariant-loop-done l = l.slots.items ≡ replicate {A = Option Cached} l.done None
