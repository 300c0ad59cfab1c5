use Rattle.std.proofs.Common.{◌≡◌, ◌<◌, refl, subst, arith}
use Rattle.bc_spine.specs.declared.leaf.LeafRange.{LeafRange}
use Rattle.bc_spine.proofs.Exchanges.{is_there, split_fits}
use Rattle.bc_spine.proofs.leaves.Leaves.split.Goals as goal

pub leaf-leaf-requires : goal.leaf-leaf-requires
leaf-leaf-requires c = (is_there c.args.self.now.leaves c.args.place c.requires.leaf c.requires.there).0

pub returns-clause-split : goal.returns-clause-split
returns-clause-split c =
    let leaf = c.leaf-leaf.result in
    let high : LeafRange = record { number = c.in_ok-first.second; from = c.args.cut; end = leaf.end; ptr = c.args.high } in
    record {
      at = refl;
      gone = refl;
      leaf = leaf;
      there = c.leaf-leaf.ensures.leaf;
      first = record { begins = refl; ends = refl; stands = refl };
      second = (high, refl, record { begins = refl; ends = refl; stands = refl });
      numbers = record { first = c.in_ok-first.ensures.0; second = c.in_ok-first.ensures.1 };
    }

pub returns-clause-fits : goal.returns-clause-fits
returns-clause-fits c =
    let leaves = c.args.self.now.leaves in
    let place = c.args.place in
    let leaf = c.leaf-leaf.result in
    let cut = c.args.cut in
    let low : LeafRange = record { number = c.in_ok-first.first; from = leaf.from; end = cut; ptr = c.args.low } in
    let high : LeafRange = record { number = c.in_ok-first.second; from = cut; end = leaf.end; ptr = c.args.high } in
    let is = is_there leaves place leaf c.leaf-leaf.ensures.leaf in
    let same : c.requires.leaf ≡ leaf = let one = c.requires.there in let two = c.leaf-leaf.ensures.leaf in cc in
    let begins = subst (λ (x : LeafRange). x.from < cut) same c.requires.above in
    let ends = subst (λ (x : LeafRange). cut < x.end) same c.requires.below in
    record {
      within = omega (arith, is.0);
      fits = split_fits leaves c.args.self.now.end place leaf low high c.leaf-leaf.ensures.all c.leaf-leaf.ensures.leaf refl begins refl ends refl c.requires.multiple c.in_ok-first.ensures.0 c.in_ok-first.ensures.1;
    }
