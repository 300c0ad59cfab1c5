use Rattle.std.proofs.Common.{◌≡◌, ℕ, suc, ◌+◌, subst, arith}
use Rattle.bc_disk.specs.Bytes.{image_of}
use Rattle.bc_jset.specs.Entries.{StandIn}
use Rattle.bc_plain.proofs.journal.all_entries.Goals as goal

pub loop-i-preserved : goal.loop-i-preserved
loop-i-preserved c =
    let one : suc c.loop-i.i ≡ c.loop-i.i + 1 = omega arith in
    let here = c.in_ok-add_bucket.ensures in
    subst (λ (n : ℕ). StandIn c.args.g.now (image_of c.args.image.now) n c.add_bucket.new.all.items) one (c.loop-i.all.items, here.0, c.loop-i.invariant, here.1, here.2)
