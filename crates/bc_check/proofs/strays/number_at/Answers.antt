use Rattle.std.proofs.Common.{◌*◌, List, ℕ, refl, subst}
use Rattle.bc_jset.specs.EntryBytes.{IsEntry}
use Rattle.bc_check.proofs.Others.{whole_rest}
use Rattle.bc_check.proofs.strays.number_at.Goals as goal

pub returns-in-Ok : goal.returns-in-Ok
returns-in-Ok c = (c.in-Ok.entry, subst (λ (bs : List ℕ). IsEntry c.args.magic bs c.in-Ok.entry) (whole_rest (512 * c.args.sector) c.args.bytes.now) c.in-Ok.ensures.found.0, refl)
