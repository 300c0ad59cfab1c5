use Rattle.std.proofs.Common.{sym, ap, subst}
use Rattle.std.specs.Prelude.{List, Option}
use Rattle.bc_cache.specs.declared.slots.Cached.{Cached}
use Rattle.bc_insert.proofs.Putting.{set_leaf}
use Rattle.bc_node.specs.Leaf.{Leaf}
use Rattle.bc_room.specs.Room.{IsRoomier}
use Rattle.bc_room.proofs.leaf.reserve_in.Goals as goal

pub returns : goal.returns
returns c =
    let at = c.node.ensures.leaf in
    record {
      cached = at.0;
      there = at.1;
      leaf = c.reserve.new.self;
      roomier = subst (λ (l : Leaf). IsRoomier l c.reserve.new.self) (sym at.2) (record {
        same = c.reserve.ensures.node;
        keys = c.reserve.ensures.keys;
        pending = c.reserve.ensures.pending;
        entries = c.reserve.ensures.entries;
        spare = c.reserve.ensures.raised;
      });
      is = ap (λ (s : List (Option Cached)). record c.args.cache.now { slots = s })
          (set_leaf c.args.cache.now.slots c.args.slot at.0 c.reserve.new.self at.1);
      room = c.reserve.ensures.ok;
    }
