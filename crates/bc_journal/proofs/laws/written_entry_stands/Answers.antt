use Rattle.std.proofs.Common.{ap, sym, subst}
use Rattle.bc_model.specs.Sector.{values_of}
use Rattle.bc_record.specs.Sectors.{Has}
use Rattle.bc_disk.specs.declared.geometry.Geometry.{Geometry}
use Rattle.bc_journal.specs.Ring.{Ring}
use Rattle.bc_journal.specs.Journal.{Journal}
use Rattle.bc_journal.specs.Sealed.{AreBytesOf, numbers_of, sector_at}
use Rattle.bc_journal.specs.Images.{Holds, with_sealed}
use Rattle.bc_journal.proofs.Left.{written}
use Rattle.bc_journal.proofs.Sealing.{writes, found_written}
use Rattle.bc_journal.proofs.laws.written_entry_stands.Goals as goal

pub returns : goal.returns
returns c = λ old new heads s a b es bytes p none holds sealed leaves are has.
    let g = old.ring.geometry in
    let w = writes old new heads s a b es p none holds sealed leaves in
    let found = found_written g s b bytes w.inside (subst (λ (h : Geometry). AreBytesOf h s.entry bytes) sealed.geometry are) (subst (λ (h : Geometry). Has b (sector_at h s.place) (values_of bytes)) sealed.geometry has) in
    let stands = written old.ring old.durable s.place s.entry a b es w found in
    subst (λ (r : Ring). Holds r (numbers_of s.entry) b (with_sealed es s.entry)) (sym (ap (λ (j : Journal). j.ring) sealed.journal)) stands
