use Rattle.std.proofs.Common.{◌-◌, get_or, ◌∙◌, arith}
use Rattle.std.specs.Ordering.{nat_cmp}
use Rattle.std.specs.BTreeMap.{get}
use Rattle.std.specs.Cmp.{unsigned_tied}
use Rattle.std.proofs.lemmas.Option.{slice_get-get_or}
use Rattle.bc_entries.proofs.Lists.{at_more}
use Rattle.bc_entries.proofs.list.places_of.Goals as goal

pub loop-at-preserved : goal.loop-at-preserved
loop-at-preserved c =
    let all = c.args.all.now in
    let at = c.loop-at.at in
    let so = c.loop-at.invariant in
    let e = get_or all (at - 1) c.index-all-at.result in
    let here = slice_get-get_or all (at - 1) c.index-all-at.result (omega arith) in
    let put = c.in_ok-insert.ensures.updates in
    record {
      within = omega arith;
      places = at_more all (at - 1) at e (get nat_cmp c.loop-at.places) (get nat_cmp c.insert.new.self) (omega arith) here so.places put.1 (λ q apart. put.2 q (unsigned_tied e.item.seq q ∙ apart));
    }
