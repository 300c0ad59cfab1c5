use Rattle.std.proofs.Common.{List, ◌++◌, sym, subst, ap, ◌∙◌}
use Rattle.bc_disk.specs.Bytes.{image_of}
use Rattle.bc_image.specs.Tree.{Node, IsWalk}
use Rattle.bc_plain_pair.proofs.Readings.{copy_is, no_chain, no_walk}
use Rattle.bc_plain_pair.proofs.reading.reading_of.Goals as goal

pub returns-in_default : goal.returns-in_default
returns-in_default c = λ r p. let none = rw c.in_default.is at c.in_ok-entries.ensures in none r.entries p.entries

pub returns-in_default-2 : goal.returns-in_default-2
returns-in_default-2 c =
    let g = c.args.g.now in
    let image = image_of c.args.image.now in
    let es = c.in-Some.entries.items in
    let e = rw c.in-Some.is at c.in_ok-entries.ensures in
    let newest = c.in_ok-newest.newest in
    let is = copy_is g image es c.deref.result.now e newest c.in-Some-last.last.now c.deref.ensures.value c.in-Some-last.ensures.value c.in_ok-newest.ensures in
    no_chain g image es newest e is (rw c.in_default-2.is at c.in_ok-gens.ensures)

pub returns-then-not-branch : goal.returns-then-not-branch
returns-then-not-branch c =
    let g = c.args.g.now in
    let image = image_of c.args.image.now in
    let es = c.in-Some.entries.items in
    let e = rw c.in-Some.is at c.in_ok-entries.ensures in
    let newest = c.in_ok-newest.newest in
    let is = copy_is g image es c.deref.result.now e newest c.in-Some-last.last.now c.deref.ensures.value c.in-Some-last.ensures.value c.in_ok-newest.ensures in
    no_walk g image es newest e is (rw c.if-not-branch.true at c.in_ok-add_walk.ensures)

pub returns : goal.returns
returns c =
    let g = c.args.g.now in
    let image = image_of c.args.image.now in
    let es = c.in-Some.entries.items in
    let e = rw c.in-Some.is at c.in_ok-entries.ensures in
    let newest = c.in_ok-newest.newest in
    let is = copy_is g image es c.deref.result.now e newest c.in-Some-last.last.now c.deref.ensures.value c.in-Some-last.ensures.value c.in_ok-newest.ensures in
    let met = rw c.if-not-branch.false at c.in_ok-add_walk.ensures in
    record {
      entries = e;
      newest = sym is;
      gens = rw c.in-Some-2.is at c.in_ok-gens.ensures;
      nodes = subst (λ (ns : List Node). IsWalk g image newest.item.level 0 newest.item.root ns) (sym (met.2 ∙ ap (λ (ns : List Node). ns ++ met.0) c.new-nodes.ensures.items)) met.1;
    }
