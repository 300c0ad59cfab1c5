use Rattle.std.proofs.Common.{◌≡◌, ◌+◌, ◌-◌, Bool, List, Some, None, ℕ, length, subst, ap, ◌∙◌}
use Rattle.std.specs.Bool.{MatchBool}
use Rattle.std.specs.Prelude.{slice_get}
use Rattle.bc_disk.specs.Disk.{IfTold}
use Rattle.bc_prio.proofs.Chains.{kept_both}
use Rattle.bc_prio.proofs.Readings.{buffer_kept}
use Rattle.bc_replay.proofs.Behind.{told_back}
use Rattle.bc_check.specs.Strays.{HasOtherIn, NoneOther, TellsStray}
use Rattle.bc_check.proofs.Others.{none_more, stray_some, stray_none}
use Rattle.bc_check.proofs.Pairs.{told_map, told_two}
use Rattle.bc_check.proofs.strays.first_stray.Goals as goal

pub loop-i-preserved : goal.loop-i-preserved
loop-i-preserved g c =
    let geometry = c.args.g.now in
    let es = c.args.journal.now.entries in
    let low = c.entry.result.now.item.last_seq in
    let i = c.loop-i.i in
    let d = g.C.Disk.facts c.args.cache.now in
    let mid = g.C.Disk.facts c.loop-i.cache in
    let so = c.loop-i.invariant in
    let now = c.in_ok-bucket_has_other.ensures in
    let not : IfTold mid.holds (λ image. ¬ (HasOtherIn geometry image es low i)) =
    subst (λ (b : Bool). IfTold mid.holds (λ image. MatchBool b (HasOtherIn geometry image es low i) (¬ (HasOtherIn geometry image es low i)))) c.if-branch.false now.found in
    record {
      none = told_two (λ image. NoneOther geometry image es low i) (λ image. ¬ (HasOtherIn geometry image es low i)) (λ image. NoneOther geometry image es low (i + 1)) d.holds
          (λ image none here. none_more geometry image es low i none here) so.none (told_back (λ image. ¬ (HasOtherIn geometry image es low i)) d mid so.kept not);
      kept = kept_both d mid (g.C.Disk.facts c.bucket_has_other.new.cache) so.kept now.kept;
      good = now.good ∙ so.good;
      whole = buffer_kept c.loop-i.bytes.len _ c.bucket_has_other.new.bytes c.loop-i.bytes.items c.loop-i.bytes.ok.0 (c.bucket_has_other.auto.bytes ∙ ap (λ (xs : List ℕ). length xs) c.deref_mut.ensures.value) so.whole;
    }

pub returns-then-branch-clause-found : goal.returns-then-branch-clause-found
returns-then-branch-clause-found g c =
    let geometry = c.args.g.now in
    let j = c.args.journal.now in
    let newest = c.entry.result.now in
    let low = newest.item.last_seq in
    let i = c.loop-i.i in
    let d = g.C.Disk.facts c.args.cache.now in
    let mid = g.C.Disk.facts c.loop-i.cache in
    let so = c.loop-i.invariant in
    let at = subst (λ n. slice_get j.entries (n - 1) ≡ Some newest) c.len-count.ensures c.entry.ensures in
    let bucket : c.from.result + c.from-then-branch.result ≡ geometry.first_bucket + i = cc in
    let other : IfTold mid.holds (λ image. HasOtherIn geometry image j.entries low i) =
    subst (λ (b : Bool). IfTold mid.holds (λ image. MatchBool b (HasOtherIn geometry image j.entries low i) (¬ (HasOtherIn geometry image j.entries low i)))) c.if-branch.true c.in_ok-bucket_has_other.ensures.found in
    told_two (λ image. NoneOther geometry image j.entries low i) (λ image. HasOtherIn geometry image j.entries low i) (λ image. TellsStray geometry image j (Some (c.from.result + c.from-then-branch.result))) d.holds
    (λ image none here. stray_some geometry j newest at image i (c.from.result + c.from-then-branch.result) c.loop-i-test.true bucket none here) so.none
    (told_back (λ image. HasOtherIn geometry image j.entries low i) d mid so.kept other)

pub returns-clause-found : goal.returns-clause-found
returns-clause-found g c =
    let geometry = c.args.g.now in
    let j = c.args.journal.now in
    let newest = c.entry.result.now in
    let at = subst (λ n. slice_get j.entries (n - 1) ≡ Some newest) c.len-count.ensures c.entry.ensures in
    told_map (λ image. NoneOther geometry image j.entries newest.item.last_seq c.loop-i.i) (λ image. TellsStray geometry image j None) (g.C.Disk.facts c.args.cache.now).holds
    (λ image none. stray_none geometry j newest at image c.loop-i.i c.loop-i-test.false none) c.loop-i.invariant.none
