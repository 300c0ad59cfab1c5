use Rattle.std.proofs.Common.{◌≡◌, ℕ, ◌<◌, length, get_or}
use Rattle.bc_cache.specs.Slots.{NodeCache}
use Rattle.bc_slots.specs.Filling.{IsEmpty}
use Rattle.bc_slots.proofs.count.empty_parts.Given as goal

abbrev pub invariant-loop-count : goal.invariant-loop-count
invariant-loop-count l = record {
  long : length l.parts.items ≡ l.count-index;
  empty : (p : ℕ) (c : NodeCache) → p < l.count-index → IsEmpty l.g (get_or l.counts p 0) (get_or l.parts.items p c);
}
