use Rattle.std.proofs.Common.{◌≡◌, List, ap, sym, subst}
use Rattle.std.specs.Prelude.{IfOk}
use Rattle.bc_alloc.specs.Reserves.{Reserves}
use Rattle.bc_disk.specs.declared.geometry.Geometry.{Geometry}
use Rattle.bc_image.specs.Pair.{Pair}
use Rattle.bc_replay.specs.declared.uses.Use.{Use}
use Rattle.bc_recover.specs.Read.{IsReadOf}
use Rattle.bc_recover.specs.Spare.{AreFilled, HasReserves, IsUnused}
use Rattle.bc_recover.proofs.Told.{if_ok, told_reserves}
use Rattle.bc_recover.proofs.spare.reserves_of.Goals as goal

pub returns-clause-spare : goal.returns-clause-spare
returns-clause-spare c =
    let s = c.args.s.now in
    let g = s.supers.geometry in
    let table = s.uses.items in
    if_ok (AreFilled (IsUnused table) g) (λ (r : Reserves). (p : Pair) → (h : IsReadOf s p) → HasReserves h.view.geometry h.view.reading r) c.filled.result
    (λ r filled p h. subst (λ (x : Geometry). HasReserves x h.view.reading r) (sym h.geometry) (told_reserves g h.view.reading table h.uses r filled))
    (subst (λ (us : List Use). IfOk c.filled.result (AreFilled (IsUnused us) g)) c.deref.ensures.value c.filled.ensures)

pub returns-clause-count : goal.returns-clause-count
returns-clause-count c =
    let g = c.args.s.now.supers.geometry in
    if_ok (AreFilled (IsUnused c.args.s.now.uses.items) g)
    (λ (r : Reserves). r.count ≡ g.nbuckets) c.filled.result
    (λ r filled. ap (λ (x : Reserves). x.count) filled.filled)
    (subst (λ (us : List Use). IfOk c.filled.result (AreFilled (IsUnused us) g))
    c.deref.ensures.value c.filled.ensures)
