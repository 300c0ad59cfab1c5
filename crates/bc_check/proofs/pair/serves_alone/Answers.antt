use Rattle.std.proofs.Common.{◌≡◌, ◌≤◌, inl, inr, ap}
use Rattle.std.proofs.lemmas.Bool.{cases_lt}
use Rattle.std.specs.Prelude.{Ok, Err}
use Rattle.bc_disk.specs.Device.{next_count}
use Rattle.bc_super.specs.declared.backing.BackingSuper.{BackingSuper}
use Rattle.bc_replay.proofs.Refusals.{once}
use Rattle.bc_check.proofs.Alone.{alone_told, refused_other, refused_so, good_so}
use Rattle.bc_check.proofs.pair.serves_alone.Goals as goal

pub returns-in-Ok-clause-found : goal.returns-in-Ok-clause-found
returns-in-Ok-clause-found g c =
    let d = g.B.Disk.facts c.args.backing.now in
    let large : 16 ≤ d.sectors = elim (cases_lt d.sectors 16) [ inl low ↦ absurd (let small = c.in-Ok.ensures.small.1 low in cc) | inr high ↦ high ] in
    alone_told d c.in-Ok.b c.is_pass_through.result large c.in-Ok.ensures.ok c.is_pass_through.ensures

pub returns-in-Err-clause-found : goal.returns-in-Err-clause-found
returns-in-Err-clause-found g c = refused_so (g.B.Disk.facts c.args.backing.now) c.in-Err.why c.refused.result c.refused.ensures c.in-Err.ensures.refused

pub returns-in-Err-clause-good : goal.returns-in-Err-clause-good
returns-in-Err-clause-good g c =
    good_so (g.B.Disk.facts c.args.backing.now) (g.B.Disk.facts c.read_backing.new.disk) c.in-Err.why c.refused.result c.refused.ensures c.in-Err.ensures.counted
    (λ low. ap (λ (x : _). (g.B.Disk.facts x).faults) (c.in-Err.ensures.untouched low))

pub returns-in-Ok-clause-called : goal.returns-in-Ok-clause-called
returns-in-Ok-clause-called g c =
    once BackingSuper (Ok c.in-Ok.b) (g.B.Disk.facts c.args.backing.now) (g.B.Disk.facts c.read_backing.new.disk) (λ low. ap (λ (x : _). (g.B.Disk.facts x).calls) (c.in-Ok.ensures.untouched low)) c.in-Ok.ensures.counted

pub returns-in-Ok-clause-alone : goal.returns-in-Ok-clause-alone
returns-in-Ok-clause-alone g c = λ yes.
    let d = g.B.Disk.facts c.args.backing.now in
    let large : 16 ≤ d.sectors = elim (cases_lt d.sectors 16) [ inl low ↦ absurd (let small = c.in-Ok.ensures.small.1 low in cc) | inr high ↦ high ] in
    (c.in-Ok.ensures.counted large).0

pub returns-in-Err-clause-called : goal.returns-in-Err-clause-called
returns-in-Err-clause-called g c =
    once BackingSuper (Err c.in-Err.why) (g.B.Disk.facts c.args.backing.now) (g.B.Disk.facts c.read_backing.new.disk) (λ low. ap (λ (x : _). (g.B.Disk.facts x).calls) (c.in-Err.ensures.untouched low)) c.in-Err.ensures.counted

pub returns-in-Err-clause-alone : goal.returns-in-Err-clause-alone
returns-in-Err-clause-alone g c =
    refused_other (g.B.Disk.facts c.args.backing.now) ((g.B.Disk.facts c.read_backing.new.disk).calls ≡ next_count (g.B.Disk.facts c.args.backing.now).calls) c.in-Err.why c.refused.result c.refused.ensures
