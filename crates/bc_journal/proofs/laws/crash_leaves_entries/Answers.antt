use Rattle.std.proofs.Common.{◌⊎◌, sym, subst}
use Rattle.bc_disk.specs.declared.geometry.Geometry.{Geometry}
use Rattle.bc_journal.specs.Images.{IsRead, with_sealed}
use Rattle.bc_journal.proofs.Left.{crash}
use Rattle.bc_jset.proofs.Journal.{stand_exists}
use Rattle.bc_journal.proofs.Sealing.{writes}
use Rattle.bc_journal.proofs.laws.crash_leaves_entries.Goals as goal

pub returns : goal.returns
returns c = λ old new heads s a b es p none holds sealed leaves.
    let g = old.ring.geometry in
    let stand = stand_exists g b g.journal in
    let read = crash old.ring old.durable s.place s.entry a b es stand.0 (writes old new heads s a b es p none holds sealed leaves) stand.1 in
    subst (λ (g : Geometry). IsRead g b es ⊎ IsRead g b (with_sealed es s.entry)) (sym sealed.geometry) read
