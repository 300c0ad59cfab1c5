use Rattle.std.proofs.Common.{inl, ◌∙◌, arith}
use Rattle.bc_extent.proofs.Kept.{length_keys}
use Rattle.bc_extent.proofs.slots.Slots.new.Goals as goal

pub invariant_of-result : goal.invariant_of-result
invariant_of-result c = (omega (arith, c.loop.invariant, c.loop.auto.counter-end, c.loop-test.false, c.loop.fronts.ok.0), inl c.in_ok-tails.ensures.items, omega (arith, c.in_ok-tails.ensures.capacity))

pub returns : goal.returns
returns c = length_keys c.loop.fronts.items c.in_ok-tails.tails.items ∙ omega (arith, c.loop.invariant, c.loop.auto.counter-end, c.loop-test.false, c.loop.fronts.ok.0)
