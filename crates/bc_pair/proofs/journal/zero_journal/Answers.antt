use Rattle.std.proofs.Common.{ℕ, ◌+◌, ◌*◌, ◌<◌, ◌≤◌, refl, ◌∙◌, arith}
use Rattle.std.specs.Prelude.{length}
use Rattle.bc_model.specs.Sector.{values_of}
use Rattle.bc_pair.specs.Runs.{over, zeros}
use Rattle.bc_pair.specs.Found.{IsJournalSector}
use Rattle.bc_pair.proofs.Writes.{Turns}
use Rattle.bc_pair.proofs.Cache.{bucket_place, in_journal, no_zeros, zeros_again, zeros_long}
use Rattle.bc_pair.proofs.Steps.{both_same, counted_fails, one_more, only_failed, only_joined, only_none, only_written}
use Rattle.bc_pair.proofs.journal.zero_journal.Goals as goal

pub loop-i-init : goal.loop-i-init
loop-i-init g c =
    let d = g.C.Disk.facts c.args.cache.now in
    let size = c.args.g.now.bucket in
    record {
      becomes = both_same (Turns (over (size * c.args.g.now.first_bucket) (zeros (size * 0)))) d.holds (λ x s. no_zeros size (size * c.args.g.now.first_bucket) x s);
      others = only_none (IsJournalSector c.args.g.now) d;
      calls = refl;
      faults = refl;
    }

pub returns-in_err-write-clause-others : goal.returns-in_err-write-clause-others
returns-in_err-write-clause-others g c =
    let g' = c.args.g.now in
    let old = g.C.Disk.facts c.args.cache.now in
    let mid = g.C.Disk.facts c.loop-i.cache in
    let new = g.C.Disk.facts c.write.new.self in
    let i = c.loop-i.i in
    let bytes = c.args.blank.now in
    let at = c.from-in-loop-i-2.result * (c.from.result + c.from-in-loop-i.result) in
    let place = bucket_place g' c.from-in-loop-i-2.result c.from.result c.from-in-loop-i.result i c.from-in-loop-i-2.ensures c.from.ensures c.from-in-loop-i.ensures in
    let inside : (s : ℕ) → at ≤ s → s < at + length (values_of bytes) → IsJournalSector g' s =
    λ s low high. in_journal g' at (length (values_of bytes)) i s place (zeros_long g'.bucket bytes c.requires.blank) (omega arith) low high in
    only_joined (IsJournalSector g') old mid new c.loop-i.invariant.others (only_failed (IsJournalSector g') at (values_of bytes) inside mid new c.in_err-write.ensures.failed)

pub returns-in_err-write-clause-counted : goal.returns-in_err-write-clause-counted
returns-in_err-write-clause-counted g c =
    counted_fails c.loop-i.i c.args.g.now.journal c.from_residual.result (g.C.Disk.facts c.args.cache.now) (g.C.Disk.facts c.loop-i.cache) (g.C.Disk.facts c.write.new.self)
    (omega arith) c.from_residual.ensures.0 c.loop-i.invariant.calls c.loop-i.invariant.faults c.in_err-write.ensures.counted

pub loop-i-preserved : goal.loop-i-preserved
loop-i-preserved g c =
    let g' = c.args.g.now in
    let old = g.C.Disk.facts c.args.cache.now in
    let mid = g.C.Disk.facts c.loop-i.cache in
    let new = g.C.Disk.facts c.write.new.self in
    let i = c.loop-i.i in
    let bytes = c.args.blank.now in
    let at = c.from-in-loop-i-2.result * (c.from.result + c.from-in-loop-i.result) in
    let place = bucket_place g' c.from-in-loop-i-2.result c.from.result c.from-in-loop-i.result i c.from-in-loop-i-2.ensures c.from.ensures c.from-in-loop-i.ensures in
    let inside : (s : ℕ) → at ≤ s → s < at + length (values_of bytes) → IsJournalSector g' s =
    λ s low high. in_journal g' at (length (values_of bytes)) i s place (zeros_long g'.bucket bytes c.requires.blank) (omega arith) low high in
    record {
      becomes = zeros_again (g'.bucket * g'.first_bucket) g'.bucket i at bytes old mid new c.requires.blank place c.loop-i.invariant.becomes c.in_ok-write.ensures.ok;
      others = only_joined (IsJournalSector g') old mid new c.loop-i.invariant.others (only_written (IsJournalSector g') at (values_of bytes) inside mid new c.in_ok-write.ensures.ok);
      calls = one_more i mid.calls new.calls old.calls c.loop-i.invariant.calls c.in_ok-write.ensures.counted.0;
      faults = c.in_ok-write.ensures.counted.1 ∙ c.loop-i.invariant.faults;
    }
