use Rattle.std.proofs.Common.{ℕ, sym, subst}
use Rattle.std.specs.Prelude.{Ok, Err}
use Rattle.bc_super.specs.Cache.{IsUsableCache}
use Rattle.bc_super.specs.Super.{IsDataOffset, IsUsable}
use Rattle.bc_super.specs.declared.backing.BackingSuper.{BackingSuper}
use Rattle.bc_super.specs.Layout.{IsLaidOut}
use Rattle.bc_super.specs.declared.cache.CacheSuper.{CacheSuper}
use Rattle.bc_pair.proofs.Makings.{finds_new, formats, has_room, is_divided, names_buckets, new_backing_usable, new_division, new_superblocks, new_usable, writing_failed}
use Rattle.bc_pair.proofs.format.format.Goals as goal

pub write_pair-requires-clause-cache : goal.write_pair-requires-clause-cache
write_pair-requires-clause-cache g c =
    let sectors = (g.C.Disk.facts c.args.cache.now).sectors in
    let laid = subst (λ (n : ℕ). IsLaidOut n c.in_ok-l.l) c.sectors.ensures c.in_ok-l.ensures.laid_out in
    subst (λ (s : CacheSuper). IsUsableCache sectors s) (sym c.new_cache-c.ensures) (new_usable sectors c.in_ok-l.l laid c.args.pair.now c.in_ok-l.ensures.sizes c.in_ok-l.ensures.fits.0)

pub write_pair-requires-clause-backing : goal.write_pair-requires-clause-backing
write_pair-requires-clause-backing g c =
    let sectors = (g.B.Disk.facts c.args.backing.now).sectors in
    let within = subst (λ (n : ℕ). IsDataOffset n c.args.pair.now.offset) c.sectors-2.ensures c.in_ok-l.ensures.fits.1 in
    subst (λ (s : BackingSuper). IsUsable sectors s) (sym c.new_backing-b.ensures) (new_backing_usable c.args.pair.now sectors within)

pub write_pair-requires-clause-superblocks : goal.write_pair-requires-clause-superblocks
write_pair-requires-clause-superblocks g c =
    new_superblocks c.args.pair.now c.new_cache-c.result c.new_backing-b.result c.sectors.result c.in_ok-l.l c.new_cache-c.ensures c.new_backing-b.ensures c.in_ok-l.ensures.laid_out

pub returns-in_err-write_pair-clause-written : goal.returns-in_err-write_pair-clause-written
returns-in_err-write_pair-clause-written g c =
    writing_failed c.from_residual-in_err-write_pair.result c.in_err-write_pair.field-0.0 _ c.from_residual-in_err-write_pair.ensures.1
    (formats g.C.Disk.facts g.B.Disk.facts c.args.pair.now c.in_ok-l.l c.geometry_of-g.result c.sectors.result c.new_cache-c.result c.new_backing-b.result (Err c.in_err-write_pair.field-0.0) c.args.cache.now c.write_pair.new.cache c.args.backing.now c.write_pair.new.backing
    c.sectors.ensures c.in_ok-l.ensures.laid_out c.in_ok-l.ensures.sizes c.new_cache-c.ensures c.new_backing-b.ensures c.geometry_of-g.ensures c.in_err-write_pair.ensures.written)

pub returns-clause-written : goal.returns-clause-written
returns-clause-written g c =
    formats g.C.Disk.facts g.B.Disk.facts c.args.pair.now c.in_ok-l.l c.geometry_of-g.result c.sectors.result c.new_cache-c.result c.new_backing-b.result (Ok tt) c.args.cache.now c.write_pair.new.cache c.args.backing.now c.write_pair.new.backing
    c.sectors.ensures c.in_ok-l.ensures.laid_out c.in_ok-l.ensures.sizes c.new_cache-c.ensures c.new_backing-b.ensures c.geometry_of-g.ensures c.in_ok-write_pair.ensures.written

pub returns-clause-found : goal.returns-clause-found
returns-clause-found g c =
    finds_new c.args.pair.now c.in_ok-l.l c.geometry_of-g.result c.sectors.result (g.C.Disk.facts c.args.cache.now).sectors c.new_cache-c.result c.new_backing-b.result (g.C.Disk.facts c.write_pair.new.cache) (g.B.Disk.facts c.write_pair.new.backing)
    c.sectors.ensures c.in_ok-l.ensures.laid_out c.in_ok-l.ensures.sizes c.new_cache-c.ensures c.new_backing-b.ensures c.in_ok-write_pair.ensures.found

pub geometry_of-g-requires : goal.geometry_of-g-requires
geometry_of-g-requires g c =
    let sectors = (g.C.Disk.facts c.args.cache.now).sectors in
    let l = c.in_ok-l.l in
    let laid = subst (λ (n : ℕ). IsLaidOut n l) c.sectors.ensures c.in_ok-l.ensures.laid_out in
    (sectors, subst (λ (s : CacheSuper). IsUsableCache sectors s) (sym c.new_cache-c.ensures) (new_usable sectors l laid c.args.pair.now c.in_ok-l.ensures.sizes c.in_ok-l.ensures.fits.0))

pub new-requires-clause-names : goal.new-requires-clause-names
new-requires-clause-names g c =
    let sectors = (g.C.Disk.facts c.args.cache.now).sectors in
    let l = c.in_ok-l.l in
    let laid = subst (λ (n : ℕ). IsLaidOut n l) c.sectors.ensures c.in_ok-l.ensures.laid_out in
    let same = new_division c.args.pair.now l c.new_cache-c.result c.geometry_of-g.result c.new_cache-c.ensures c.geometry_of-g.ensures c.in_ok-l.ensures.sizes in
    names_buckets sectors l laid c.geometry_of-g.result same

pub new-requires-clause-within : goal.new-requires-clause-within
new-requires-clause-within g c =
    let sectors = (g.C.Disk.facts c.args.cache.now).sectors in
    let l = c.in_ok-l.l in
    let laid = subst (λ (n : ℕ). IsLaidOut n l) c.sectors.ensures c.in_ok-l.ensures.laid_out in
    let same = new_division c.args.pair.now l c.new_cache-c.result c.geometry_of-g.result c.new_cache-c.ensures c.geometry_of-g.ensures c.in_ok-l.ensures.sizes in
    (has_room sectors l laid c.geometry_of-g.result same).within

pub write_pair-requires-clause-names : goal.write_pair-requires-clause-names
write_pair-requires-clause-names g c =
    let sectors = (g.C.Disk.facts c.args.cache.now).sectors in
    let l = c.in_ok-l.l in
    let laid = subst (λ (n : ℕ). IsLaidOut n l) c.sectors.ensures c.in_ok-l.ensures.laid_out in
    let same = new_division c.args.pair.now l c.new_cache-c.result c.geometry_of-g.result c.new_cache-c.ensures c.geometry_of-g.ensures c.in_ok-l.ensures.sizes in
    names_buckets sectors l laid c.geometry_of-g.result same

pub write_pair-requires-clause-room : goal.write_pair-requires-clause-room
write_pair-requires-clause-room g c =
    let sectors = (g.C.Disk.facts c.args.cache.now).sectors in
    let l = c.in_ok-l.l in
    let laid = subst (λ (n : ℕ). IsLaidOut n l) c.sectors.ensures c.in_ok-l.ensures.laid_out in
    let same = new_division c.args.pair.now l c.new_cache-c.result c.geometry_of-g.result c.new_cache-c.ensures c.geometry_of-g.ensures c.in_ok-l.ensures.sizes in
    has_room sectors l laid c.geometry_of-g.result same

pub write_pair-requires-clause-divided : goal.write_pair-requires-clause-divided
write_pair-requires-clause-divided g c =
    let sectors = (g.C.Disk.facts c.args.cache.now).sectors in
    let l = c.in_ok-l.l in
    let laid = subst (λ (n : ℕ). IsLaidOut n l) c.sectors.ensures c.in_ok-l.ensures.laid_out in
    let same = new_division c.args.pair.now l c.new_cache-c.result c.geometry_of-g.result c.new_cache-c.ensures c.geometry_of-g.ensures c.in_ok-l.ensures.sizes in
    is_divided sectors l laid c.geometry_of-g.result same
