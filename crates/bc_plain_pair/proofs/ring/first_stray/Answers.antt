use Rattle.std.proofs.Common.{inl, inr, sym, subst, arith}
use Rattle.std.proofs.lemmas.Bool.{cases_eq}
use Rattle.bc_disk.specs.Bytes.{image_of}
use Rattle.bc_plain_pair.specs.Ring.{HasNoStray}
use Rattle.bc_plain_pair.proofs.Blocks.{no_stray, a_stray}
use Rattle.bc_plain_pair.proofs.ring.first_stray.Goals as goal

pub returns-then-branch : goal.returns-then-branch
returns-then-branch c = λ r entries newest.
    a_stray c.args.g.now (image_of c.args.image.now) c.args.entries.now c.args.newest.now c.requires.listed r entries newest c.loop-i.i c.loop-i-test.true (rw c.if-branch.true at c.in_ok-has_stray.ensures)

pub loop-i-preserved : goal.loop-i-preserved
loop-i-preserved c = λ k low. elim (cases_eq k c.loop-i.i) [
  | inl same ↦ subst (HasNoStray c.args.g.now (image_of c.args.image.now) c.args.entries.now c.args.newest.now.item.last_seq) (sym same) (rw c.if-branch.false at c.in_ok-has_stray.ensures)
  | inr other ↦ c.loop-i.invariant k (omega (arith, low, other))
]

pub returns : goal.returns
returns c = λ r entries newest.
    let end = c.loop-i-test.false in
    no_stray c.args.g.now (image_of c.args.image.now) c.args.entries.now c.args.newest.now c.requires.listed r entries newest (λ i low. c.loop-i.invariant i (omega (arith, low, end)))
