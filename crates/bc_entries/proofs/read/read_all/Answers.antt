use Rattle.std.proofs.Common.{ℕ, ◌+◌, List, length, ap, ◌∙◌, arith}
use Rattle.bc_prio.proofs.Chains.{kept_both}
use Rattle.bc_prio.proofs.Readings.{buffer_kept}
use Rattle.bc_entries.proofs.Held.{stand_more}
use Rattle.bc_entries.proofs.read.read_all.Goals as goal

pub loop-i-preserved : goal.loop-i-preserved
loop-i-preserved g c =
    let d = g.D.Disk.facts c.args.disk.now in
    let e = g.D.Disk.facts c.loop-i.disk in
    let so = c.loop-i.invariant in
    let more = c.in_ok-read_bucket.ensures in
    record {
      stand = stand_more c.args.g.now d e c.loop-i.i (c.loop-i.i + 1) c.loop-i.all.items c.read_bucket.new.all.items (omega arith) so.kept so.stand more.adds;
      ends = more.ends;
      places = more.places;
      kept = kept_both d e (g.D.Disk.facts c.read_bucket.new.disk) so.kept more.kept;
      faults = more.good ∙ so.faults;
      whole = buffer_kept c.loop-i.bytes.len _ c.read_bucket.new.bytes c.loop-i.bytes.items c.loop-i.bytes.ok.0 (c.read_bucket.auto.bytes ∙ ap (λ (xs : List ℕ). length xs) c.deref_mut.ensures.value) so.whole;
    }
