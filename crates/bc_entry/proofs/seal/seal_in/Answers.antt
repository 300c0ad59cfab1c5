use Rattle.std.proofs.Common.{arith}
use Rattle.bc_deed.specs.bc_hand.Seats.{world}
use Rattle.bc_deed.proofs.May.{did_nothing, kept_as}
use Rattle.bc_entry.proofs.CacheDevice.{cached_by}
use Rattle.bc_entry.proofs.Ending.{journal_changed}
use Rattle.bc_entry.proofs.Sealing.{did_sealing, has_sealed, journal_sealed, journal_since, knows_fixed, may_seal_at, rest_is_entry, same_heads}
use Rattle.bc_entry.proofs.seal.seal_in.Goals as goal

pub returns-in_default-clause-err : goal.returns-in_default-clause-err
returns-in_default-clause-err g c = did_nothing g.C.Disk.facts g.B.Disk.facts c.args.seat.now
    c.requires.seat

pub returns-clause-kept : goal.returns-clause-kept
returns-clause-kept g c = kept_as g.C.Disk.facts g.B.Disk.facts c.args.seat.now c.commit.new.seat _
    _
    journal_changed c.commit.ensures.kept

pub returns-in-Err-clause-journal : goal.returns-in-Err-clause-journal
returns-in-Err-clause-journal g c = journal_since g.C.Disk.facts g.B.Disk.facts c.args.seat.now
    c.requires.seat c.requires.holds c.args.journal.now c.needed-last_seq.ensures.journal
    c.requires.can
    c.requires.journal (world g.C.Disk.facts g.B.Disk.facts c.commit.new.seat)
    c.in-Err.ensures.err.is.since

pub commit-requires-clause-may : goal.commit-requires-clause-may
commit-requires-clause-may g c = may_seal_at g.C.Disk.facts g.B.Disk.facts c.args.seat.now
    c.requires.seat c.requires.holds c.args.journal.now c.needed-last_seq.ensures.journal
    c.requires.can
    c.requires.journal c.needed-last_seq.result c.bucket_begun-bucket.result
    c.needed-last_seq.ensures.value c.bucket_begun-bucket.ensures
    (cached_by g.C.Disk.facts g.B.Disk.facts c.args.parts.now c.args.seat.now
    c.requires.run c.requires.cached) c.in-Ok.rest

pub returns-clause-journal : goal.returns-clause-journal
returns-clause-journal g c = journal_sealed g.C.Disk.facts g.B.Disk.facts c.args.seat.now
    c.requires.seat c.requires.holds c.args.journal.now c.needed-last_seq.ensures.journal
    c.requires.can
    c.requires.journal c.commit.new.seat c.in-Ok-seal.entry c.seal.new.self
    (same_heads c.args.journal.now c.heads.result.now c.in-Ok-seal.entry c.seal.new.self
    c.heads.ensures.value c.in-Ok-seal.ensures.sealed) c.in-Ok.rest
    (rest_is_entry c.args.journal.now c.heads.result.now c.in-Ok-seal.entry c.seal.new.self
    c.waiting.result.now c.in-Ok.rest.items c.in-Ok-seal.ensures.sealed c.in-Ok.ensures
    c.waiting.ensures.value)
    (did_sealing g.C.Disk.facts g.B.Disk.facts c.args.seat.now c.commit.new.seat c.args.journal.now
    c.needed-last_seq.result c.bucket_begun-bucket.result c.in-Ok.rest
    c.needed-last_seq.ensures.value c.bucket_begun-bucket.ensures c.in_default-commit.ensures.ok)

pub returns-clause-ok : goal.returns-clause-ok
returns-clause-ok g c = has_sealed g.C.Disk.facts g.B.Disk.facts c.args.seat.now
    c.requires.seat c.requires.holds c.args.journal.now c.needed-last_seq.ensures.journal
    c.requires.can
    c.requires.journal c.commit.new.seat c.in-Ok-seal.entry c.seal.new.self
    (same_heads c.args.journal.now c.heads.result.now c.in-Ok-seal.entry c.seal.new.self
    c.heads.ensures.value c.in-Ok-seal.ensures.sealed) c.in-Ok.rest
    (rest_is_entry c.args.journal.now c.heads.result.now c.in-Ok-seal.entry c.seal.new.self
    c.waiting.result.now c.in-Ok.rest.items c.in-Ok-seal.ensures.sealed c.in-Ok.ensures
    c.waiting.ensures.value)
    (did_sealing g.C.Disk.facts g.B.Disk.facts c.args.seat.now c.commit.new.seat c.args.journal.now
    c.needed-last_seq.result c.bucket_begun-bucket.result c.in-Ok.rest
    c.needed-last_seq.ensures.value c.bucket_begun-bucket.ensures c.in_default-commit.ensures.ok)

pub returns-clause-knows : goal.returns-clause-knows
returns-clause-knows g c = knows_fixed g.C.Disk.facts g.B.Disk.facts c.args.seat.now
    c.requires.seat c.requires.holds c.args.journal.now c.needed-last_seq.ensures.journal
    c.requires.can
    c.requires.journal c.commit.new.seat c.in-Ok-seal.entry c.seal.new.self
    (same_heads c.args.journal.now c.heads.result.now c.in-Ok-seal.entry c.seal.new.self
    c.heads.ensures.value c.in-Ok-seal.ensures.sealed) c.in-Ok.rest
    (rest_is_entry c.args.journal.now c.heads.result.now c.in-Ok-seal.entry c.seal.new.self
    c.waiting.result.now c.in-Ok.rest.items c.in-Ok-seal.ensures.sealed c.in-Ok.ensures
    c.waiting.ensures.value)
    (did_sealing g.C.Disk.facts g.B.Disk.facts c.args.seat.now c.commit.new.seat c.args.journal.now
    c.needed-last_seq.result c.bucket_begun-bucket.result c.in-Ok.rest
    c.needed-last_seq.ensures.value c.bucket_begun-bucket.ensures c.in_default-commit.ensures.ok)

pub returns-clause-sealed : goal.returns-clause-sealed
returns-clause-sealed g c = same_heads c.args.journal.now c.heads.result.now c.in-Ok-seal.entry
    c.seal.new.self c.heads.ensures.value c.in-Ok-seal.ensures.sealed

pub returns-in-Err-clause-left : goal.returns-in-Err-clause-left
returns-in-Err-clause-left g c = let none = c.in-Err.ensures.err.is.promises in omega (arith, none)

pub returns-clause-left : goal.returns-clause-left
returns-clause-left g c =
    let used = c.in_default-commit.ensures.ok.is.promises in
    omega (arith, used)
