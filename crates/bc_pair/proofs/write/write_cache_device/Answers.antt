use Rattle.std.proofs.Common.{◌≡◌, ◌+◌, ◌∙◌, arith}
use Rattle.std.proofs.lemmas.Result.{on_ok_weaker, on_err_weaker}
use Rattle.bc_disk.proofs.Stands.{on_either}
use Rattle.bc_pair.specs.Made.{cache_calls, record_calls}
use Rattle.bc_pair.specs.Records.{IsRecordSector}
use Rattle.bc_pair.proofs.Cache.{made, torn, unfinished}
use Rattle.bc_pair.proofs.Steps.{counted_behind, counted_fails, one_more, only_joined, only_kept, only_settled}
use Rattle.bc_pair.proofs.Writes.{failed_sooner}
use Rattle.bc_pair.proofs.write.write_cache_device.Goals as goal

pub returns-in_err-write_records-clause-failed : goal.returns-in_err-write_records-clause-failed
returns-in_err-write_records-clause-failed g c =
    let old = g.C.Disk.facts c.args.cache.now in
    let two = g.C.Disk.facts c.write_records.new.cache in
    (on_either c.from_residual.result (λ b of. unfinished c.args.g.now c.args.c.now b old two c.in_err-write_records.ensures.others)).1

pub returns-in_err-write_records-clause-counted : goal.returns-in_err-write_records-clause-counted
returns-in_err-write_records-clause-counted g c =
    let g' = c.args.g.now in
    failed_sooner (record_calls g') (cache_calls g') c.in_err-write_records.field-0.0 c.from_residual.result (g.C.Disk.facts c.args.cache.now) (g.C.Disk.facts c.write_records.new.cache) (omega arith) c.from_residual.ensures.0 c.in_err-write_records.ensures.counted

pub returns-in_err-barrier-clause-failed : goal.returns-in_err-barrier-clause-failed
returns-in_err-barrier-clause-failed g c =
    let old = g.C.Disk.facts c.args.cache.now in
    let two = g.C.Disk.facts c.write_records.new.cache in
    let three = g.C.Disk.facts c.barrier.new.self in
    (on_either c.from_residual-in_err-barrier.result (λ b of. unfinished c.args.g.now c.args.c.now b old three
    (only_joined (IsRecordSector c.args.g.now) old two three c.in_ok-write_records.ensures.others (only_kept (IsRecordSector c.args.g.now) two three c.in_err-barrier.ensures.failed)))).1

pub returns-in_err-barrier-clause-counted : goal.returns-in_err-barrier-clause-counted
returns-in_err-barrier-clause-counted g c =
    let old = g.C.Disk.facts c.args.cache.now in
    let two = g.C.Disk.facts c.write_records.new.cache in
    let three = g.C.Disk.facts c.barrier.new.self in
    let wrote = c.in_ok-write_records.ensures.counted in
    counted_fails (record_calls c.args.g.now) (cache_calls c.args.g.now) c.from_residual-in_err-barrier.result old two three (omega arith) c.from_residual-in_err-barrier.ensures.0
    wrote.0 wrote.1 c.in_err-barrier.ensures.counted

pub returns-clause-ok : goal.returns-clause-ok
returns-clause-ok g c =
    let old = g.C.Disk.facts c.args.cache.now in
    let two = g.C.Disk.facts c.write_records.new.cache in
    let three = g.C.Disk.facts c.barrier.new.self in
    let new = g.C.Disk.facts c.write_cache.new.disk in
    let wrote = c.in_ok-write_records.ensures in
    on_ok_weaker c.write_cache.result (λ stored b of. made c.args.g.now c.args.c.now b c.args.r.now of wrote.ok.0 wrote.ok.1 old two three new
    wrote.ok.2 wrote.others c.in_ok-barrier.ensures.ok stored) c.write_cache.ensures.ok

pub returns-clause-failed : goal.returns-clause-failed
returns-clause-failed g c =
    let old = g.C.Disk.facts c.args.cache.now in
    let two = g.C.Disk.facts c.write_records.new.cache in
    let three = g.C.Disk.facts c.barrier.new.self in
    let new = g.C.Disk.facts c.write_cache.new.disk in
    let wrote = c.in_ok-write_records.ensures in
    let P = IsRecordSector c.args.g.now in
    let steps = only_joined P old two three wrote.others (only_settled P two three (g.C.Disk.honest c.write_records.new.cache) c.in_ok-barrier.ensures.ok) in
    on_err_weaker c.write_cache.result (λ failed b of. torn c.args.g.now c.args.c.now b c.args.r.now of wrote.ok.0 wrote.ok.1 old two three new
    wrote.ok.2 wrote.others c.in_ok-barrier.ensures.ok (g.C.Disk.honest c.args.cache.now) steps failed) c.write_cache.ensures.failed

pub returns-clause-counted : goal.returns-clause-counted
returns-clause-counted g c =
    let old = g.C.Disk.facts c.args.cache.now in
    let two = g.C.Disk.facts c.write_records.new.cache in
    let three = g.C.Disk.facts c.barrier.new.self in
    let new = g.C.Disk.facts c.write_cache.new.disk in
    let wrote = c.in_ok-write_records.ensures.counted in
    let settled = c.in_ok-barrier.ensures.counted in
    let at_three = one_more (record_calls c.args.g.now) two.calls three.calls old.calls wrote.0 settled.0 in
    counted_behind (record_calls c.args.g.now + 1) 4 c.write_cache.result old three new at_three (settled.1 ∙ wrote.1) c.write_cache.ensures.counted
