use Rattle.std.proofs.Common.{◌≡◌, sym, ap, ◌∙◌, subst}
use Rattle.std.specs.Prelude.{List, Option, slice_get}
use Rattle.bc_cache.specs.declared.slots.Cached.{Cached}
use Rattle.bc_node.specs.Leaf.{Leaf}
use Rattle.bc_keyed.specs.Came.{WereAdded}
use Rattle.bc_insert.proofs.Putting.{one_cached, set_leaf}
use Rattle.bc_insert.proofs.put.add_to.Goals as goal

pub returns : goal.returns
returns c number cached can =
    let at = c.node.ensures.leaf in
    let same : c.node.result.now ≡ cached.leaf = sym at.2 ∙ ap (λ (x : Cached). x.leaf)
    (one_cached (slice_get c.args.cache.now.slots c.args.slot) at.0 cached at.1 can.there) in
    record {
      leaf = c.add.new.self;
      added = subst (λ (l : Leaf). WereAdded c.args.keys.now c.args.entry l c.add.new.self) same
          (record {
            same = c.add.ensures.node;
            put = c.add.ensures.keys;
            added = c.add.ensures.pending;
            entries = c.add.ensures.entries;
          });
      is = ap (λ (s : List (Option Cached)). record c.args.cache.now { slots = s })
          (set_leaf c.args.cache.now.slots c.args.slot cached c.add.new.self can.there);
    }
