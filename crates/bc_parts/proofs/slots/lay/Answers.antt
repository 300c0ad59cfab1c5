use Rattle.std.proofs.Common.{sym, ◌∙◌, arith}
use Rattle.bc_parts.proofs.Laying.{IsLaying-next, IsLaying-last, none_left, laid-pushes}
use Rattle.bc_parts.proofs.slots.lay.Goals as goal

pub loop-part-preserved : goal.loop-part-preserved
loop-part-preserved g c = let i = c.loop-part.invariant in let popped = c.in-Some.ensures in record {
  laying = IsLaying-next c.args.parts.items c.loop-part.parts.items c.pop.new.self.items c.loop-part.slots.items c.push_reserved.new.self.items c.in-Some.part i.laying popped.items c.push_reserved.ensures.items;
  room = (let a = popped.len in let b = c.push_reserved.ensures.len in let d = c.push_reserved.ensures.capacity in let r = i.room in omega (arith, a, b, d, r));
  vector = (let a = popped.capacity in let r = i.vector in omega (arith, a, r));
}

pub returns-clause-ok : goal.returns-clause-ok
returns-clause-ok g c = let i = c.loop-part.invariant in let none = c.in_default-pop.ensures in let all = c.args.parts.items in let vector = c.pop.new.self in (
  vector,
  laid-pushes all c.args.book vector c.loop-part.slots.items c.push_reserved-2.new.self.items c.push_reserved-3.new.self.items
      (IsLaying-last all c.loop-part.parts.items c.loop-part.slots.items i.laying (none_left c.loop-part.parts.items (sym c.loop-part.parts.ok.0 ∙ none.cases.0))) c.push_reserved-2.ensures.items c.push_reserved-3.ensures.items,
  none_left vector.items (sym vector.ok.0 ∙ none.cases.1),
  (let a = none.capacity in let r = i.vector in omega (arith, a, r)),
)
