use Rattle.std.proofs.Common.{refl, arith}
use Rattle.std.proofs.lemmas.List.{get_or_default}
use Rattle.bc_image.specs.Tree.{set_keys}
use Rattle.bc_key.specs.Ptr.{no_ptr}
use Rattle.bc_node.proofs.Leaves.{number_here, last_of, keeps_list}
use Rattle.bc_node.proofs.leaf.leaf_of.Goals as goal

pub returns-clause-ok : goal.returns-clause-ok
returns-clause-ok c =
    let key = c.args.key.now in
    let six = key.six_places in record {
      begins = refl;
      ends = refl;
      ptr = get_or_default key.ptrs 0 c.index-key-0.result no_ptr (omega (arith, six));
      seq = number_here c.args.sets.now c.index-sets-0.result;
      taken = c.sectors_of.ensures;
      last = last_of (set_keys c.args.sets.now) c.new-keys.result.keys c.put_sets.new.map.keys c.new-keys.ensures.keys c.in_ok-put_sets.ensures;
      within = record { within = c.if-not-lie_within.ensures; cover = tt };
      pending = record { keys = c.new-pending.ensures.keys; entries = refl };
      loaded = refl;
    }

pub invariant_of-result : goal.invariant_of-result
invariant_of-result c =
    let sets = set_keys c.args.sets.now in
    keeps_list c.args.from c.args.key.now.end sets c.put_sets.new.map.keys c.new-pending.result.keys c.if-not-lie_within.ensures
    (last_of sets c.new-keys.result.keys c.put_sets.new.map.keys c.new-keys.ensures.keys c.in_ok-put_sets.ensures) c.new-pending.ensures.keys
