use Rattle.std.proofs.Common.{rules, ◌≡◌, ◌∙◌, ◌/◌, ◌++◌, ℕ, List, Bool, true, if◌then◌else◌, length, ap, refl, sym, subst, arith}
use Rattle.bc_model.specs.Sector.{values_of}
use Rattle.bc_disk.specs.declared.log.Logged.{Logged}
use Rattle.bc_disk.specs.Device.{Among}
use Rattle.bc_disk.specs.Disk.{IsWritten, IsFailedWrite}
use Rattle.bc_disk.specs.Bytes.{image_of, put}
use Rattle.bc_disk.specs.Log.{logged, choices, IsWithin}
use Rattle.bc_disk.specs.Tally.{succeeded, faulted}
use Rattle.bc_disk.specs.MemDisk.{memory}
use Rattle.bc_disk.specs.Memory.{Memory, facts_of, noted}
use Rattle.bc_disk.proofs.Windows.{written_back}
use Rattle.bc_disk.proofs.Sectors.{length-sectors}
use Rattle.bc_disk.proofs.Memories.{same_memory, memory_failed, memory_written, note_fits, note_within, note_kept, put_kept}
use Rattle.bc_disk.proofs.mem_disk.MemDiskDisk.write.Goals as goal

pub invariant_of-self-clause-fits : goal.invariant_of-self-clause-fits
invariant_of-self-clause-fits c =
    let d = c.args.self.now in
    note_fits c.args.at (values_of c.args.bytes.now) d.log.items c.note-fits.new.log.items c.note-fits.result c.note-fits.ensures.log d.room d.fits c.note-fits.ensures.room

pub invariant_of-self-clause-within : goal.invariant_of-self-clause-within
invariant_of-self-clause-within c =
    let d = c.args.self.now in
    let range = c.requires.on_disk in
    let many = length-sectors (length c.args.bytes.now / 512) c.args.bytes.now in
    note_within c.args.at (values_of c.args.bytes.now) d.log.items c.note-fits.new.log.items c.note-fits.result c.note-fits.ensures.log (length d.seen.items) d.within (omega arith)

pub invariant_of-self-clause-kept : goal.invariant_of-self-clause-kept
invariant_of-self-clause-kept c =
    let d = c.args.self.now in
    note_kept c.args.at (values_of c.args.bytes.now) d.log.items c.note-fits.new.log.items c.note-fits.result c.note-fits.ensures.log d.stable.items d.seen.items d.kept

pub returns-then-next_fails-clause-failed : goal.returns-then-next_fails-clause-failed
returns-then-next_fails-clause-failed c =
    let m = memory c.args.self.now in
    let values = values_of c.args.bytes.now in
    let log : c.note-fits.new.log.items ≡ noted c.args.at values m = c.note-fits.ensures.log ∙ ap (λ (b : Bool). if b then m.written ++ logged c.args.at values else m.written) c.note-fits.ensures.room in
    subst (λ (n : Memory). IsFailedWrite c.args.at values (facts_of m) (facts_of n))
    (same_memory m.bytes m.bytes m.stable m.stable (noted c.args.at values m) c.note-fits.new.log.items m.room (faulted m.calls) c.fault.new.self refl refl (sym log) (sym c.fault.ensures))
    (memory_failed m c.args.at values (faulted m.calls))

pub invariant_of-self-2-clause-small : goal.invariant_of-self-2-clause-small
invariant_of-self-2-clause-small c =
    let d = c.args.self.now in
    let out = written_back d.seen.len c.put.new.disk d.seen.items (omega arith) in
    omega (arith, ap (length {A = ℕ}) out)

pub invariant_of-self-2-clause-same_length : goal.invariant_of-self-2-clause-same_length
invariant_of-self-2-clause-same_length c =
    let d = c.args.self.now in
    let out = written_back d.seen.len c.put.new.disk d.seen.items (omega arith) in
    omega (arith, ap (length {A = ℕ}) out)

pub invariant_of-self-2-clause-fits : goal.invariant_of-self-2-clause-fits
invariant_of-self-2-clause-fits c =
    let d = c.args.self.now in
    note_fits c.args.at (values_of c.args.bytes.now) d.log.items c.note-fits.new.log.items c.note-fits.result c.note-fits.ensures.log d.room d.fits c.note-fits.ensures.room

pub invariant_of-self-2-clause-within : goal.invariant_of-self-2-clause-within
invariant_of-self-2-clause-within c =
    let d = c.args.self.now in
    let range = c.requires.on_disk in
    let many = length-sectors (length c.args.bytes.now / 512) c.args.bytes.now in
    let within = note_within c.args.at (values_of c.args.bytes.now) d.log.items c.note-fits.new.log.items c.note-fits.result c.note-fits.ensures.log (length d.seen.items) d.within (omega arith) in
    let out = written_back d.seen.len c.put.new.disk d.seen.items (omega arith) in
    subst (λ n. IsWithin n c.note-fits.new.log.items) (let e : length d.seen.items ≡ length c.put.new.disk = omega arith in e ∙ ap (length {A = ℕ}) (sym out)) within

pub invariant_of-self-2-clause-kept : goal.invariant_of-self-2-clause-kept
invariant_of-self-2-clause-kept c =
    let d = c.args.self.now in
    let at = c.args.at in
    let piece = c.args.bytes.now in
    let range = c.requires.on_disk in
    let out = written_back d.seen.len c.put.new.disk d.seen.items (omega arith) in
    let disk : put at piece d.seen.items ≡ c.put.new.disk = sym (c.put.ensures ∙ ap (put at piece) c.deref_mut.ensures.value) in
    let fits : c.note-fits.result ≡ true = search rules in
    let log : c.note-fits.new.log.items ≡ d.log.items ++ logged at (values_of piece) = c.note-fits.ensures.log ∙ ap (λ (b : Bool). if b then d.log.items ++ logged at (values_of piece) else d.log.items) fits in
    subst (λ (b : List ℕ). (s : ℕ) → ∥ Among (image_of b s) (choices d.stable.items c.note-fits.new.log.items s) ∥₁) (disk ∙ sym out)
    (subst (λ (l : List Logged). (s : ℕ) → ∥ Among (image_of (put at piece d.seen.items) s) (choices d.stable.items l s) ∥₁) (sym log)
    (put_kept at range.0 piece d.stable.items d.seen.items d.log.items range.2 (let long = range.2 in let end = range.3 in omega arith) d.kept))

pub returns-clause-ok : goal.returns-clause-ok
returns-clause-ok c =
    let m = memory c.args.self.now in
    let at = c.args.at in
    let piece = c.args.bytes.now in
    let seen = c.args.self.now.seen in
    let range = c.requires.on_disk in
    let out = written_back seen.len c.put.new.disk m.bytes (omega arith) in
    let disk : put at piece m.bytes ≡ c.put.new.disk = sym (c.put.ensures ∙ ap (put at piece) c.deref_mut.ensures.value) in
    let fits : c.note-fits.result ≡ true = search rules in
    let log : c.note-fits.new.log.items ≡ m.written ++ logged at (values_of piece) = c.note-fits.ensures.log ∙ ap (λ (b : Bool). if b then m.written ++ logged at (values_of piece) else m.written) fits in
    subst (λ (n : Memory). IsWritten at (values_of piece) (facts_of m) (facts_of n))
    (same_memory (put at piece m.bytes) _ m.stable m.stable (m.written ++ logged at (values_of piece)) c.note-fits.new.log.items m.room (succeeded m.calls) c.succeed.new.self (disk ∙ sym out) refl (sym log) (sym c.succeed.ensures))
    (memory_written m at range.0 piece (succeeded m.calls) range.2 (let long = range.2 in let end = range.3 in omega arith))
