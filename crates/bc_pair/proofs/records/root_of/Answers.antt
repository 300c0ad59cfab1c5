use Rattle.std.proofs.Common.{◌^◌, refl, ◌∙◌, subst}
use Rattle.bc_pair.specs.Records.{IsNewKey}
use Rattle.bc_pair.proofs.records.root_of.Goals as goal

pub returns : goal.returns
returns c =
    let g = c.args.g.now in
    record {
      leaf = c.key_to-leaf.result;
      key = subst (λ n. IsNewKey g n (2 ^ 40) g.node_sectors c.key_to-leaf.result) c.requires.names.leaf c.key_to-leaf.ensures;
      set = record { number = refl; version = refl; has = c.from_vec.ensures ∙ c.in_ok-keys.ensures.items };
    }
