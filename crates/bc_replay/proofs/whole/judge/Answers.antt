use Rattle.std.proofs.Common.{◌<◌, ◌≤◌, List, subst, sym, arith}
use Rattle.bc_disk.specs.Chain.{sets_in_chain}
use Rattle.bc_replay.specs.Limits.{rule_in}
use Rattle.bc_replay.specs.Marks.{CountsNone}
use Rattle.bc_replay.specs.declared.uses.Use.{Use}
use Rattle.bc_replay.proofs.Judge.{no_twice, first_twice, are_uses, spare_count}
use Rattle.bc_replay.proofs.whole.judge.Goals as goal

pub returns-in-Some-used_twice-clause-refused : goal.returns-in-Some-used_twice-clause-refused
returns-in-Some-used_twice-clause-refused c = λ keys known.
    let r = rule_in c.args.index.now.limits in
    let may = c.in_default.ensures keys known.indexed known.true_ in
    let two = c.in-Some-used_twice.ensures.least known.true_ in (
      may,
      first_twice r c.args.gens.now c.args.uuid_bucket.now c.args.seen.now keys c.args.index.now.keys.keys c.args.index.now.word known may.data_keys c.in_ok-table.table.uses.items c.in_ok-table.table.mixed two.0 c.in-Some-used_twice.bucket
          c.in_ok-table.ensures two.1 (sym two.2),
    )

pub returns-then-found-sets_in_chain-clause-refused : goal.returns-then-found-sets_in_chain-clause-refused
returns-then-found-sets_in_chain-clause-refused c = λ keys known.
    let r = rule_in c.args.index.now.limits in
    let table = c.in_ok-table.table in
    let may = c.in_default.ensures keys known.indexed known.true_ in
    let two = c.in_default-used_twice.ensures.least known.true_ in
    let found = c.count_spare-found.result in
    let counts = subst (λ (us : List Use). CountsNone us r.geometry.nbuckets found) c.deref.ensures.value c.count_spare-found.ensures.count in (
      may,
      no_twice r c.args.gens.now c.args.uuid_bucket.now c.args.seen.now keys c.args.index.now.keys.keys c.args.index.now.word known may.data_keys table.uses.items table.mixed two.0 c.in_ok-table.ensures two.1 (sym two.2),
      spare_count r c.args.gens.now c.args.uuid_bucket.now c.args.seen.now keys c.args.index.now.keys.keys c.args.index.now.word known may.data_keys table.uses.items table.mixed c.in_ok-table.ensures r.geometry.nbuckets found (omega arith) counts,
      subst (λ n. found < n) c.sets_in_chain.ensures c.if-found-sets_in_chain.true,
    )

pub returns-clause-judged : goal.returns-clause-judged
returns-clause-judged c = λ keys known.
    let r = rule_in c.args.index.now.limits in
    let table = c.in_ok-table.table in
    let may = c.in_default.ensures keys known.indexed known.true_ in
    let two = c.in_default-used_twice.ensures.least known.true_ in
    let found = c.count_spare-found.result in
    let counts = subst (λ (us : List Use). CountsNone us r.geometry.nbuckets found) c.deref.ensures.value c.count_spare-found.ensures.count in
    let enough = c.if-found-sets_in_chain.false in
    record {
      points = may;
      once = no_twice r c.args.gens.now c.args.uuid_bucket.now c.args.seen.now keys c.args.index.now.keys.keys c.args.index.now.word known may.data_keys table.uses.items table.mixed two.0 c.in_ok-table.ensures two.1 (sym two.2);
      uses = are_uses r c.args.gens.now c.args.uuid_bucket.now c.args.seen.now keys c.args.index.now.keys.keys c.args.index.now.word known may.data_keys table.uses.items table.mixed c.in_ok-table.ensures;
      count = found;
      spare = spare_count r c.args.gens.now c.args.uuid_bucket.now c.args.seen.now keys c.args.index.now.keys.keys c.args.index.now.word known may.data_keys table.uses.items table.mixed c.in_ok-table.ensures r.geometry.nbuckets found (omega arith) counts;
      enough = subst (λ n. n ≤ found) c.sets_in_chain.ensures enough;
    }

pub returns-clause-each : goal.returns-clause-each
returns-clause-each c = let h = c.in_ok-table.ensures in h.each
