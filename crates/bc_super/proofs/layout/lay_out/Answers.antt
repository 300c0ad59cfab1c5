use Rattle.std.proofs.Common.{◌≡◌, ℕ, ◌+◌, ◌-◌, ◌*◌, ◌/◌, ◌<◌, ◌≤◌, refl, sym, subst, rules, arith}
use Rattle.std.proofs.Math.Nat.{div-eq_of_lt}
use Rattle.bc_super.specs.Cache.{IsBlock, IsBucket}
use Rattle.bc_super.proofs.Buckets.{wide, quotient, few_sets, is_block, is_bucket_of, narrow}
use Rattle.bc_super.proofs.layout.lay_out.Goals as goal

pub returns-clause-ok : goal.returns-clause-ok
returns-clause-ok c =
    let n = c.nbuckets_of-nbuckets.result in
    let w = c.buckets_in_set.result in
    let block : IsBlock c.args.block = search rules in
    let bucket : IsBucket c.args.bucket = search rules in
    let many : 64 ≤ c.args.bucket = wide c.args.bucket bucket in
    let hold : 10909 ≤ w = omega arith in
    let parts = quotient (n - 1) w (omega arith) in
    let few = few_sets (n - 1) w hold in
    let q = (n - 1) / w in
    let one_less : q + 1 - 1 ≡ q = omega arith in
    let below : 23 < c.args.bucket = omega arith in
    let first : 23 / c.args.bucket ≡ 0 = div-eq_of_lt below in
    record {
      block = block;
      bucket = bucket;
      nbuckets = c.nbuckets_of-nbuckets.ensures;
      enough = omega arith;
      first_bucket = refl;
      journal = grind arith;
      set_magic = refl;
      node_sectors = c.min-2.ensures;
      hold = subst (λ (v : ℕ). n ≤ (q + 1) * v) c.buckets_in_set.ensures (omega (arith, parts.1));
      few = subst (λ (v : ℕ). (q + 1 - 1) * v < n) c.buckets_in_set.ensures (subst (λ (k : ℕ). k * w < n) (sym one_less) (omega (arith, parts.0)));
      prio = grind arith;
      uuid = refl;
      root = refl;
      leaf = omega arith;
      within = omega (arith, few);
    }

pub invariant_of-result : goal.invariant_of-result
invariant_of-result c =
    let n = c.nbuckets_of-nbuckets.result in
    let w = c.buckets_in_set.result in
    let block : IsBlock c.args.block = search rules in
    let bucket : IsBucket c.args.bucket = search rules in
    let many : 64 ≤ c.args.bucket = wide c.args.bucket bucket in
    let below : 23 < c.args.bucket = omega arith in
    let first : 23 / c.args.bucket ≡ 0 = div-eq_of_lt below in
    let few = few_sets (n - 1) w (omega arith) in
    record {
      block_is_one = is_block c.args.block block;
      bucket_is_one = is_bucket_of c.args.bucket bucket;
      bucket_from = many;
      bucket_to = narrow c.args.bucket bucket;
      first_behind_super = omega arith;
      buckets_from = omega arith;
      buckets_to = grind arith;
      journal_within = omega (arith, few);
      node_is_one = c.min-2.ensures;
    }
