use Rattle.std.proofs.Common.{◌*◌, sym, ap, ◌∙◌}
use Rattle.bc_by_root.specs.bc_install.Numbered.{bucket_by}
use Rattle.bc_by_root.proofs.of_bc_install.of_bc_parent_set.Taker.{same_taker}
use Rattle.bc_by_set.proofs.prepare.prepare_set.Goals as goal

pub returns : goal.returns
returns c = λ at taker put takes.
    let its = c.taker_of.ensures in
    let one = same_taker c.args.spine.now c.args.plan.now at its.0 taker
    c.taker_of.result.0.now put c.taker_of.result.1.now takes its.1 in
    record {
      slot = c.bucket_by.ensures ∙ ap (bucket_by c.args.g.now) c.ptr.ensures
          ∙ ap (λ r. bucket_by c.args.g.now r.ptr) (sym one.0);
      change = c.in_ok-change.ensures;
      room = c.in_ok-room.ensures ∙ ap (λ g. 512 * g.node_sectors) c.geometry.ensures;
      later = c.in_ok-later.ensures;
    }
