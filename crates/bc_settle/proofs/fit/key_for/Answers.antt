use Rattle.std.proofs.Common.{refl, sym, ◌∙◌, subst, arith}
use Rattle.bc_settle.specs.Fits.{AreBare, HasGeneration, HasKeyOver}
use Rattle.bc_settle.proofs.fit.key_for.Goals as goal

pub returns-in_default-generation_at : goal.returns-in_default-generation_at
returns-in_default-generation_at c = (
  (omega arith, omega arith),
  (c.in-Some.ptr, sym c.pointer.ensures ∙ c.in-Some.is, c.in_default-generation_at.ensures),
)

pub returns-then-not-are_bare : goal.returns-then-not-are_bare
returns-then-not-are_bare c = (
  (omega arith, omega arith),
  (c.in-Some.ptr, sym c.pointer.ensures ∙ c.in-Some.is, c.in-Some-generation_at.ensures.one),
  subst (λ n. HasKeyOver c.args.leaf.now n c.args.old.now.size) c.start-first.ensures
      c.if-not-are_bare.ensures,
)

pub returns-then-spare-eq0 : goal.returns-then-spare-eq0
returns-then-spare-eq0 c = (
  (omega arith, omega arith),
  (c.in-Some.ptr, sym c.pointer.ensures ∙ c.in-Some.is, c.in-Some-generation_at.ensures.one),
  subst (λ n. AreBare c.args.leaf.now n c.args.old.now.size) c.start-first.ensures
      c.if-not-are_bare.ensures,
  sym c.spare.ensures ∙ c.if-spare-eq0.true,
)

pub returns : goal.returns
returns c = record {
  inside = (omega arith, omega arith);
  bare = subst (λ n. AreBare c.args.leaf.now n c.args.old.now.size) c.start-first.ensures
      c.if-not-are_bare.ensures;
  spare = (let is = c.spare.ensures in let some = c.if-spare-eq0.false in omega (arith, is, some));
  from = c.in-Some.ptr;
  from_is = sym c.pointer.ensures ∙ c.in-Some.is;
  inode = c.new.ensures.inode;
  end = c.new.ensures.end;
  size = c.new.ensures.size;
  clean = c.new.ensures.dirty;
  csum = c.new.ensures.csum;
  count = c.new.ensures.count;
  ptr = _;
  pointer = c.new.ensures.pointer;
  device = refl;
  place = refl;
  generation = subst (λ n. HasGeneration c.args.buckets.now c.in-Some.ptr.offset n
      c.in-Some-generation_at.generation) (sym c.new.ensures.size)
      c.in-Some-generation_at.ensures;
}
