use Rattle.std.proofs.Common.{◌≡◌, false, List, replicate, rules, length, sym, ap, subst}
use Rattle.bc_alloc.specs.Reserve.{Reserve}
use Rattle.bc_alloc.proofs.Times.{AreShort, empty_flagged, empty_short}
use Rattle.bc_alloc.proofs.reserves.Reserves.empty.Goals as goal

pub invariant_of-result : goal.invariant_of-result
invariant_of-result c =
    let free : c.in_ok-listed.listed.items ≡ replicate c.args.g.now.nbuckets false = search rules in
    record {
      four = ap (λ (ls : List Reserve). length ls) c.in_ok-lists.ensures;
      short = subst (λ (ls : List Reserve). AreShort ls) (sym c.in_ok-lists.ensures) (empty_short c.args.g.now);
      flagged = empty_flagged c.args.g.now c.in_ok-lists.lists.items c.in_ok-raised.raised.buckets c.in_ok-listed.listed.items c.in_ok-lists.ensures (ap (λ (r : Reserve). r.buckets) c.in_ok-raised.ensures) free;
      raised_room = ap (λ (r : Reserve). r.room) c.in_ok-raised.ensures;
      heap_room = c.in_ok-ranks.ensures.capacity;
      taken_room = c.in_ok-taken.ensures.capacity;
    }
