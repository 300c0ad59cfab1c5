use Rattle.std.proofs.Common.{◌≡◌, ℕ, ◌+◌, ◌*◌, subst, ◌∙◌}
use Rattle.bc_model.specs.Sector.{values_of}
use Rattle.bc_disk.specs.Disk.{IsRead}
use Rattle.bc_jset.specs.Entries.{bucket_start}
use Rattle.bc_entries.specs.Reading.{AddsEntries}
use Rattle.bc_entries.proofs.Held.{adds_on, adds_standing, adds_within}
use Rattle.bc_entries.proofs.read.read_bucket.Goals as goal

pub returns-clause-adds : goal.returns-clause-adds
returns-clause-adds g c =
    let geometry = c.args.g.now in
    let d = g.D.Disk.facts c.args.disk.now in
    let bytes = c.read.new.into in
    let start : c.from.result * (c.from-2.result + c.from-3.result) ≡ bucket_start geometry c.args.i = cc in
    adds_on geometry d c.args.i bytes c.args.all.now.items c.add_entries.new.all.items (c.read.auto.into ∙ c.requires.whole)
    (subst (λ n. IsRead n (values_of bytes) d) start c.in_ok-read.ensures.ok)
    (subst (λ n. AddsEntries geometry bytes n c.args.all.now.items c.add_entries.new.all.items) start c.in_ok-add_entries.ensures)

pub returns-clause-ends : goal.returns-clause-ends
returns-clause-ends g c =
    let geometry = c.args.g.now in
    let start : c.from.result * (c.from-2.result + c.from-3.result) ≡ bucket_start geometry c.args.i = cc in
    adds_within geometry c.args.i c.read.new.into c.args.all.now.items c.add_entries.new.all.items c.requires.journal
    (subst (λ n. AddsEntries geometry c.read.new.into n c.args.all.now.items c.add_entries.new.all.items) start c.in_ok-add_entries.ensures) c.requires.ends

pub returns-clause-places : goal.returns-clause-places
returns-clause-places g c =
    let geometry = c.args.g.now in
    let start : c.from.result * (c.from-2.result + c.from-3.result) ≡ bucket_start geometry c.args.i = cc in
    adds_standing geometry c.args.i c.read.new.into c.args.all.now.items c.add_entries.new.all.items c.requires.journal
    (subst (λ n. AddsEntries geometry c.read.new.into n c.args.all.now.items c.add_entries.new.all.items) start c.in_ok-add_entries.ensures) c.requires.places
