use Rattle.std.proofs.Common.{List, sym, subst}
use Rattle.std.specs.Prelude.{All, IfOk}
use Rattle.bc_bucket.specs.Buckets.{Buckets}
use Rattle.bc_disk.specs.Gens.{Gens}
use Rattle.bc_disk.specs.declared.geometry.Geometry.{Geometry}
use Rattle.bc_image.specs.Pair.{Pair}
use Rattle.bc_image.specs.Reading.{keys_of}
use Rattle.bc_image.specs.Sound.{HasOneUse, IsDataKey}
use Rattle.bc_replay.specs.declared.uses.Use.{Use}
use Rattle.bc_super.specs.Super.{data_sectors}
use Rattle.bc_recover.specs.Known.{AreKnown, AreUnheld}
use Rattle.bc_recover.specs.Opened.{AreMarked}
use Rattle.bc_recover.specs.Read.{IsReadOf}
use Rattle.bc_recover.proofs.Known.{all_known}
use Rattle.bc_recover.proofs.Marked.{marked_unheld, told_opened}
use Rattle.bc_recover.proofs.Told.{if_ok}
use Rattle.bc_recover.proofs.buckets.buckets_of.Goals as goal

pub returns-clause-known : goal.returns-clause-known
returns-clause-known c =
    let s = c.args.s.now in
    let g = s.supers.geometry in
    let rows = s.index.keys in
    let table = s.uses.items in
    if_ok (AreMarked g s.gens.records rows table) (λ (b : Buckets). (p : Pair) → (h : IsReadOf s p) → AreKnown h.view.geometry h.view.reading b) c.opened.result
    (λ b marked p h. (
    let r = h.view.reading in
    let size = data_sectors p.backing_sectors h.view.backing in
    let told : AreMarked g r.gens.records rows table b = subst (λ (gs : Gens). AreMarked g gs.records rows table b) (sym h.gens) marked in
    let once : HasOneUse g r = subst (λ (x : Geometry). HasOneUse x r) h.geometry h.openable.once in
    let good = subst (λ (x : Geometry). All (IsDataKey x size) (keys_of r)) h.geometry h.openable.pointers.data_keys in
    subst (λ (x : Geometry). AreKnown x r b) (sym h.geometry) (all_known g r size rows h.index good b (told_opened g r table h.uses once rows b told))
    ))
    (subst (λ (us : List Use). IfOk c.opened.result (AreMarked g s.gens.records rows us)) c.deref.ensures.value c.opened.ensures)

pub returns-clause-unheld : goal.returns-clause-unheld
returns-clause-unheld c =
    let s = c.args.s.now in
    let g = s.supers.geometry in
    let rows = s.index.keys in
    let table = s.uses.items in
    if_ok (AreMarked g s.gens.records rows table) (AreUnheld g.nbuckets) c.opened.result
    (λ b marked. marked_unheld g s.gens.records rows table b marked)
    (subst (λ (us : List Use). IfOk c.opened.result (AreMarked g s.gens.records rows us))
    c.deref.ensures.value c.opened.ensures)
