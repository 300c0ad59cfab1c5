use Rattle.std.proofs.Common.{List, ◌∙◌, lit<, subst, arith}
use Rattle.std.proofs.lemmas.Result.{on_ok_weaker, on_err_weaker}
use Rattle.bc_model.specs.Sector.{Value}
use Rattle.bc_model.proofs.Sectors.{one_sector}
use Rattle.bc_disk.specs.Disk.{IsFailedWrite}
use Rattle.bc_super.specs.Writing.{IsStored}
use Rattle.bc_super.proofs.Sectors.{stored_again}
use Rattle.bc_super.proofs.backing.write_backing.Goals as goal

pub store-requires : goal.store-requires
store-requires g c =
    let whole = c.encode.ensures.whole in
    (1, lit< tt, whole ∙ omega arith, omega arith)

pub returns-clause-ok : goal.returns-clause-ok
returns-clause-ok g c =
    let old = g.D.Disk.facts c.args.disk.now in
    let new = g.D.Disk.facts c.store.new.disk in
    let one = one_sector c.encode.result c.encode.ensures.whole in
    on_ok_weaker c.store.result (λ is. (c.encode.result, c.encode.ensures, subst (λ (vs : List Value). IsStored 8 vs old new) one is)) c.store.ensures.ok

pub returns-clause-failed : goal.returns-clause-failed
returns-clause-failed g c =
    let old = g.D.Disk.facts c.args.disk.now in
    let new = g.D.Disk.facts c.store.new.disk in
    let one = one_sector c.encode.result c.encode.ensures.whole in
    on_err_weaker c.store.result (λ is. (c.encode.result, c.encode.ensures, subst (λ (vs : List Value). IsFailedWrite 8 vs old new) one is)) c.store.ensures.failed

pub returns-clause-reads : goal.returns-clause-reads
returns-clause-reads g c =
    let old = g.D.Disk.facts c.args.disk.now in
    let new = g.D.Disk.facts c.store.new.disk in
    let one = one_sector c.encode.result c.encode.ensures.whole in
    on_ok_weaker c.store.result (λ is. stored_again old new c.args.s.now c.encode.result c.encode.ensures c.requires (subst (λ (vs : List Value). IsStored 8 vs old new) one is)) c.store.ensures.ok
