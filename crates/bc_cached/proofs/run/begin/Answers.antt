use Rattle.std.proofs.Common.{◌≡◌, ◌<◌, List, length, refl, sym, ap, ◌∙◌, subst, arith}
use Rattle.std.specs.Prelude.{map}
use Rattle.bc_parts.specs.Machine.{StandFrom}
use Rattle.bc_begun.specs.bc_machine.World.{opening}
use Rattle.bc_begun.specs.bc_machine.declared.part.CorePart.{CorePart}
use Rattle.bc_begun.specs.bc_machine.declared.part.CorePart.TheVariants as part
use Rattle.bc_deed.specs.bc_hand.Seats.{View, Works, core, empty}
use Rattle.bc_begun.specs.bc_machine.declared.part.BucketsPart.{BucketsPart}
use Rattle.bc_journal.specs.Journal.{Journal}
use Rattle.bc_begun.specs.Begin.{Beginning, first_seq, resting}
use Rattle.bc_cached.specs.Begun.{AreUnopened}
use Rattle.bc_cached.proofs.Beginning.{begins, made, newcomer_works}
use Rattle.bc_cached.proofs.run.begin.Goals as goal

pub new-requires-3-clause-stand : goal.new-requires-3-clause-stand
new-requires-3-clause-stand g c =
    let k : Beginning g.row.C.Denot g.row.B.Denot = record {
      flight = c.in-Ok.flight;
      buckets = c.in-Ok-set_apart.large.buckets;
      journal = c.in-Ok-set_apart.large.journal;
      cache = c.args.ready.cache;
      backing = c.args.ready.backing;
      leaves = c.args.ready.leaves.items;
    } in
    let is : c.in-Ok-set_apart.large.tree ≡ resting c.args.ready.tree (first_seq k.journal) =
    c.in-Ok-set_apart.ensures.0 ∙ c.at_rest-tree.ensures
    ∙ ap (λ (j : Journal). resting c.args.ready.tree (first_seq j)) (sym c.in-Ok-set_apart.ensures.2) in
    subst (λ (ps : List (CorePart g.row.C.Denot g.row.B.Denot)).
    StandFrom (core g.C.Disk.facts g.B.Disk.facts) (opening g.C.Disk.facts g.B.Disk.facts ps) 0 ps)
    (sym (made g.C.Disk.facts g.B.Disk.facts c.args.ready.tree k c.in-Ok-set_apart.large.tree is _ _ _ _ _ _ _ _
    c.in-Ok-with_capacity.ensures.items c.push_reserved.ensures.items
    c.push_reserved-2.ensures.items c.push_reserved-3.ensures.items
    c.push_reserved-4.ensures.items c.push_reserved-5.ensures.items
    c.push_reserved-6.ensures.items c.add_leaves.ensures))
    (begins g.C.Disk.facts g.B.Disk.facts c.args.ready.tree k c.in-Ok.ensures.0 c.in-Ok.ensures.1
    c.in-Ok.ensures.2 c.in-Ok.ensures.3
    c.requires.cache c.requires.backing c.requires.inside)

pub devices_in-requires : goal.devices_in-requires
devices_in-requires g c =
    let k : Beginning g.row.C.Denot g.row.B.Denot = record {
      flight = c.in-Ok.flight;
      buckets = c.in-Ok-set_apart.large.buckets;
      journal = c.in-Ok-set_apart.large.journal;
      cache = c.args.ready.cache;
      backing = c.args.ready.backing;
      leaves = c.args.ready.leaves.items;
    } in
    let is : c.in-Ok-set_apart.large.tree ≡ resting c.args.ready.tree (first_seq k.journal) =
    c.in-Ok-set_apart.ensures.0 ∙ c.at_rest-tree.ensures
    ∙ ap (λ (j : Journal). resting c.args.ready.tree (first_seq j)) (sym c.in-Ok-set_apart.ensures.2) in (
      k.cache,
      k.backing,
      (
        part.Spine (resting c.args.ready.tree (first_seq k.journal)),
        part.Flight k.flight,
        part.Buckets k.buckets,
        part.Journal k.journal,
        map part.Leaves k.leaves,
        c.in-Err.ensures.err.0 ∙ made g.C.Disk.facts g.B.Disk.facts c.args.ready.tree k c.in-Ok-set_apart.large.tree is _ _ _ _ _ _ _ _
            c.in-Ok-with_capacity.ensures.items c.push_reserved.ensures.items
            c.push_reserved-2.ensures.items c.push_reserved-3.ensures.items
            c.push_reserved-4.ensures.items c.push_reserved-5.ensures.items
            c.push_reserved-6.ensures.items c.add_leaves.ensures,
      ),
    )

pub returns-in-Ok-new-clause-ok : goal.returns-in-Ok-new-clause-ok
returns-in-Ok-new-clause-ok g c =
    let k : Beginning g.row.C.Denot g.row.B.Denot = record {
      flight = c.in-Ok.flight;
      buckets = c.in-Ok-set_apart.large.buckets;
      journal = c.in-Ok-set_apart.large.journal;
      cache = c.args.ready.cache;
      backing = c.args.ready.backing;
      leaves = c.args.ready.leaves.items;
    } in
    let is : c.in-Ok-set_apart.large.tree ≡ resting c.args.ready.tree (first_seq k.journal) =
    c.in-Ok-set_apart.ensures.0 ∙ c.at_rest-tree.ensures
    ∙ ap (λ (j : Journal). resting c.args.ready.tree (first_seq j)) (sym c.in-Ok-set_apart.ensures.2) in
    let ok = c.in-Ok-new.ensures.ok in
    let start = ok.0 ∙ made g.C.Disk.facts g.B.Disk.facts c.args.ready.tree k c.in-Ok-set_apart.large.tree is _ _ _ _ _ _ _ _
    c.in-Ok-with_capacity.ensures.items c.push_reserved.ensures.items
    c.push_reserved-2.ensures.items c.push_reserved-3.ensures.items
    c.push_reserved-4.ensures.items c.push_reserved-5.ensures.items
    c.push_reserved-6.ensures.items c.add_leaves.ensures in
    let many : 5 < length c.in-Ok-new.run'.0.run.start =
    subst (λ (ps : List (CorePart g.row.C.Denot g.row.B.Denot)). 5 < length ps) (sym start)
    (omega arith) in
    record {
      beginning = k;
      made = record {
        seats = c.in-Ok.ensures.0;
        claims = c.in-Ok.ensures.1;
        candidates = c.in-Ok.ensures.2;
        next = c.in-Ok.ensures.3;
        buckets = subst (λ (b : BucketsPart). AreUnopened c.args.ready.buckets c.args.ready.reserves
            c.args.ready.chain c.args.ready.walk b)
            (sym c.in-Ok-set_apart.ensures.1) c.unopened-buckets.ensures;
        journal = c.in-Ok-set_apart.ensures.2;
        cache = refl;
        backing = refl;
        leaves = refl;
      };
      start = start;
      seats = ok.1;
      first = ap (λ (v : View g.C.Disk.facts g.B.Disk.facts). v.first) ok.2;
      end = ap (λ (v : View g.C.Disk.facts g.B.Disk.facts). v.end) ok.2 ∙ ok.1;
      seen = ap (λ (v : View g.C.Disk.facts g.B.Disk.facts). v.seen) ok.2;
      promises = ap (λ (v : View g.C.Disk.facts g.B.Disk.facts). v.promises) ok.2;
      works = subst (λ (v : View g.C.Disk.facts g.B.Disk.facts).
          Works g.C.Disk.facts g.B.Disk.facts c.in-Ok-new.run'.0 v empty) (sym ok.2)
          (newcomer_works g.C.Disk.facts g.B.Disk.facts c.in-Ok-new.run'.0 ok.1 many);
    }
