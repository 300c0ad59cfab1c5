use Rattle.std.proofs.Common.{◌∙◌, refl, ap, sym, subst}
use Rattle.std.specs.Prelude.{IfNone, IfSome}
use Rattle.bc_model.specs.Sector.{values_of}
use Rattle.bc_disk.specs.declared.geometry.Geometry.{Geometry}
use Rattle.bc_journal.specs.Sealed.{AreBytesOf, sector_at}
use Rattle.bc_super.specs.Writing.{IsStored}
use Rattle.bc_enter.specs.Begun.{IsBegun}
use Rattle.bc_enter.specs.Next.{IsOdd}
use Rattle.bc_enter.specs.Written.{IsPartly}
use Rattle.bc_entered.proofs.Safe.{fault_is, good_is, moved, on_disk, unmoved}
use Rattle.bc_entered.proofs.write.enter.Goals as goal

pub returns-in-Ok-None-clause-cause : goal.returns-in-Ok-None-clause-cause
returns-in-Ok-None-clause-cause g c = (subst (λ o. IfNone o (IsOdd c.args.read.now)) c.in-Ok-None.field-0-is c.in-Ok-None.ensures.none, refl)

pub returns-in-Ok-None-clause-left : goal.returns-in-Ok-None-clause-left
returns-in-Ok-None-clause-left g c = unmoved c.args.g.now c.args.read.now (g.C.Disk.facts c.args.cache.now)

pub returns-in-Err-clause-cause : goal.returns-in-Err-clause-cause
returns-in-Err-clause-cause g c = refl

pub returns-in-Err-clause-left : goal.returns-in-Err-clause-left
returns-in-Err-clause-left g c = unmoved c.args.g.now c.args.read.now (g.C.Disk.facts c.args.cache.now)

pub write_entry-requires : goal.write_entry-requires
write_entry-requires g c =
    on_disk c.args.g.now c.args.read.now c.in-Ok-Some.next.sealed c.bytes.result.now c.sector.result (g.C.Disk.facts c.args.cache.now)
    (subst (λ o. IfSome o (IsBegun c.args.g.now c.args.read.now)) c.in-Ok-Some.field-0-is c.in-Ok-Some.ensures.some).entry c.bytes.ensures.bytes c.sector.ensures.value c.requires.division

pub returns-then-is_err-clause-cause : goal.returns-then-is_err-clause-cause
returns-then-is_err-clause-cause g c =
    fault_is c.write_entry.result (g.C.Disk.facts c.args.cache.now) (g.C.Disk.facts c.write_entry.new.disk) (sym c.is_err.ensures.value ∙ c.if-is_err.true) c.write_entry.ensures.counted

pub returns-then-is_err-clause-left : goal.returns-then-is_err-clause-left
returns-then-is_err-clause-left g c =
    let begun = subst (λ o. IfSome o (IsBegun c.args.g.now c.args.read.now)) c.in-Ok-Some.field-0-is c.in-Ok-Some.ensures.some in
    let next = begun.entry in
    let s = c.in-Ok-Some.next.sealed in
    let bytes = c.bytes.result.now in
    let old = g.C.Disk.facts c.args.cache.now in
    let new = g.C.Disk.facts c.write_entry.new.disk in
    let at = c.sector.ensures.value ∙ ap (λ (h : Geometry). sector_at h s.place) next.geometry in
    moved c.args.read.now s bytes old new c.args.g.now next
    (subst (λ (h : Geometry). AreBytesOf h s.entry bytes) next.geometry c.bytes.ensures.bytes)
    (subst (λ n. IsPartly n (values_of bytes) old new) at c.write_entry.ensures.partly)

pub returns-clause-left : goal.returns-clause-left
returns-clause-left g c =
    let begun = subst (λ o. IfSome o (IsBegun c.args.g.now c.args.read.now)) c.in-Ok-Some.field-0-is c.in-Ok-Some.ensures.some in
    let next = begun.entry in
    let s = c.in-Ok-Some.next.sealed in
    let bytes = c.bytes.result.now in
    let old = g.C.Disk.facts c.args.cache.now in
    let new = g.C.Disk.facts c.write_entry.new.disk in
    let at = c.sector.ensures.value ∙ ap (λ (h : Geometry). sector_at h s.place) next.geometry in
    moved c.args.read.now s bytes old new c.args.g.now next
    (subst (λ (h : Geometry). AreBytesOf h s.entry bytes) next.geometry c.bytes.ensures.bytes)
    (subst (λ n. IsPartly n (values_of bytes) old new) at c.write_entry.ensures.partly)

pub returns-clause-ok : goal.returns-clause-ok
returns-clause-ok g c =
    let begun = subst (λ o. IfSome o (IsBegun c.args.g.now c.args.read.now)) c.in-Ok-Some.field-0-is c.in-Ok-Some.ensures.some in
    let next = begun.entry in
    let s = c.in-Ok-Some.next.sealed in
    let bytes = c.bytes.result.now in
    let old = g.C.Disk.facts c.args.cache.now in
    let new = g.C.Disk.facts c.write_entry.new.disk in
    let at = c.sector.ensures.value ∙ ap (λ (h : Geometry). sector_at h s.place) next.geometry in
    let good = good_is (IsStored c.sector.result (values_of bytes) old new) c.write_entry.result old new (sym c.is_err.ensures.value ∙ c.if-is_err.false) c.write_entry.ensures.ok c.write_entry.ensures.counted in
    record {
      next = c.in-Ok-Some.next;
      begun = begun;
      bytes = bytes;
      are = subst (λ (h : Geometry). AreBytesOf h s.entry bytes) next.geometry c.bytes.ensures.bytes;
      stored = subst (λ n. IsStored n (values_of bytes) old new) at good.0;
      calls = good.1;
      faults = good.2;
      goes_on = c.written.ensures;
    }
