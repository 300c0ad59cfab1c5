use Rattle.std.proofs.Common.{inr, ℕ, ◌*◌, refl, sym, subst}
use Rattle.std.specs.Prelude.{Ok, Err}
use Rattle.std.proofs.Math.Nat.{le_trans}
use Rattle.bc_super.specs.Cache.{IsUsableCache}
use Rattle.bc_super.specs.Super.{IsUsable}
use Rattle.bc_super.specs.declared.backing.BackingSuper.{BackingSuper}
use Rattle.bc_super.specs.declared.cache.CacheSuper.{CacheSuper}
use Rattle.bc_pair.specs.Causes.{AdoptLeaves}
use Rattle.bc_pair.specs.declared.error.PairError.{PairError}
use Rattle.bc_pair.proofs.Makings.{adopted_backing_usable, adopted_division, adopted_superblocks, adopted_usable, adopts, has_room, is_divided, names_buckets, fails_so, finds_adopted, rose_behind}
use Rattle.bc_pair.proofs.Steps.{kept_keeps, others_joined}
use Rattle.bc_pair.proofs.Refusals.{writing_behind}
use Rattle.bc_pair.proofs.adopt.adopt.Goals as goal

pub returns-in_err-c-clause-data : goal.returns-in_err-c-clause-data
returns-in_err-c-clause-data g c = kept_keeps (g.B.Disk.facts c.args.backing.now) (g.B.Disk.facts c.read_pair.new.backing) c.in_err-c.ensures.kept.1

pub returns-in_err-records-clause-data : goal.returns-in_err-records-clause-data
returns-in_err-records-clause-data g c = kept_keeps (g.B.Disk.facts c.args.backing.now) (g.B.Disk.facts c.read_pair.new.backing) c.in_ok-c.ensures.kept.1

pub write_pair-requires-clause-cache : goal.write_pair-requires-clause-cache
write_pair-requires-clause-cache g c =
    let old = g.C.Disk.facts c.args.cache.now in
    let mid = g.C.Disk.facts c.read_pair.new.cache in
    let usable = subst (λ (n : ℕ). IsUsableCache n c.in_ok-c.c) (sym c.in_ok-c.ensures.kept.0.sectors) c.in_ok-c.ensures.cache.2.usable in
    let l = c.layout_of-l.result in
    subst (λ (s : CacheSuper). IsUsableCache mid.sectors s) (sym c.adopted_cache-c.ensures)
    (adopted_usable mid.sectors c.in_ok-c.c l usable c.layout_of-l.ensures.laid_out c.layout_of-l.ensures.sizes.1 c.layout_of-l.ensures.nbuckets)

pub write_pair-requires-clause-backing : goal.write_pair-requires-clause-backing
write_pair-requires-clause-backing g c =
    let mid = g.B.Disk.facts c.read_pair.new.backing in
    let usable = subst (λ (n : ℕ). IsUsable n c.in_ok-c.b) (sym c.in_ok-c.ensures.kept.1.sectors) c.in_ok-c.ensures.backing.2.usable in
    let unused = c.if-not-is_unused.ensures.0 refl in
    subst (λ (s : BackingSuper). IsUsable mid.sectors s) (sym c.adopted_backing-b.ensures) (adopted_backing_usable mid.sectors c.in_ok-c.c c.in_ok-c.b usable unused.2)

pub returns-in_err-write_pair-clause-leaves : goal.returns-in_err-write_pair-clause-leaves
returns-in_err-write_pair-clause-leaves g c =
    let unused = c.if-not-is_unused.ensures.0 refl in
    let leaves = λ (e : PairError). AdoptLeaves g.C.Disk.facts g.B.Disk.facts e c.args.cache.now c.write_pair.new.cache c.args.backing.now c.write_pair.new.backing in
    fails_so c.from_residual-in_err-write_pair.result c.in_err-write_pair.field-0.0 leaves c.from_residual-in_err-write_pair.ensures.1
    (inr (adopts g.C.Disk.facts g.B.Disk.facts c.in_ok-c.c c.adopted_cache-c.result c.in_ok-c.b c.adopted_backing-b.result c.layout_of-l.result c.geometry_of-g.result (Err c.in_err-write_pair.field-0.0)
    c.args.cache.now c.read_pair.new.cache c.write_pair.new.cache c.args.backing.now c.read_pair.new.backing c.write_pair.new.backing
    c.in_ok-c.ensures.kept c.in_ok-c.ensures.counted c.in_ok-c.ensures.cache c.in_ok-c.ensures.backing unused c.layout_of-l.ensures.laid_out c.layout_of-l.ensures.sizes
    c.adopted_cache-c.ensures c.adopted_backing-b.ensures c.geometry_of-g.ensures c.in_err-write_pair.ensures.written))

pub returns-in_err-write_pair-clause-data : goal.returns-in_err-write_pair-clause-data
returns-in_err-write_pair-clause-data g c =
    let old = g.B.Disk.facts c.args.backing.now in
    let mid = g.B.Disk.facts c.read_pair.new.backing in
    let new = g.B.Disk.facts c.write_pair.new.backing in
    others_joined old mid new (kept_keeps old mid c.in_ok-c.ensures.kept.1) c.in_err-write_pair.ensures.data

pub returns-in_err-write_pair-clause-faults : goal.returns-in_err-write_pair-clause-faults
returns-in_err-write_pair-clause-faults g c =
    fails_so c.from_residual-in_err-write_pair.result c.in_err-write_pair.field-0.0 _ c.from_residual-in_err-write_pair.ensures.1
    (rose_behind c.in_err-write_pair.field-0.0 (g.C.Disk.facts c.args.cache.now) (g.C.Disk.facts c.read_pair.new.cache) (g.C.Disk.facts c.write_pair.new.cache)
    (g.B.Disk.facts c.args.backing.now) (g.B.Disk.facts c.read_pair.new.backing) (g.B.Disk.facts c.write_pair.new.backing)
    c.in_ok-c.ensures.counted.0.1 c.in_ok-c.ensures.counted.1.1 c.in_err-write_pair.ensures.faults)

pub returns-clause-written : goal.returns-clause-written
returns-clause-written g c =
    let unused = c.if-not-is_unused.ensures.0 refl in
    adopts g.C.Disk.facts g.B.Disk.facts c.in_ok-c.c c.adopted_cache-c.result c.in_ok-c.b c.adopted_backing-b.result c.layout_of-l.result c.geometry_of-g.result (Ok tt)
    c.args.cache.now c.read_pair.new.cache c.write_pair.new.cache c.args.backing.now c.read_pair.new.backing c.write_pair.new.backing
    c.in_ok-c.ensures.kept c.in_ok-c.ensures.counted c.in_ok-c.ensures.cache c.in_ok-c.ensures.backing unused c.layout_of-l.ensures.laid_out c.layout_of-l.ensures.sizes
    c.adopted_cache-c.ensures c.adopted_backing-b.ensures c.geometry_of-g.ensures c.in_ok-write_pair.ensures.written

pub returns-clause-data : goal.returns-clause-data
returns-clause-data g c =
    let old = g.B.Disk.facts c.args.backing.now in
    let mid = g.B.Disk.facts c.read_pair.new.backing in
    let new = g.B.Disk.facts c.write_pair.new.backing in
    others_joined old mid new (kept_keeps old mid c.in_ok-c.ensures.kept.1) c.in_ok-write_pair.ensures.data

pub returns-clause-found : goal.returns-clause-found
returns-clause-found g c =
    finds_adopted c.in_ok-c.c c.adopted_cache-c.result c.in_ok-c.b c.adopted_backing-b.result c.layout_of-l.result c.geometry_of-g.result
    (g.C.Disk.facts c.args.cache.now) (g.C.Disk.facts c.write_pair.new.cache) (g.B.Disk.facts c.args.backing.now) (g.B.Disk.facts c.write_pair.new.backing)
    c.in_ok-c.ensures.cache c.in_ok-c.ensures.backing c.layout_of-l.ensures.laid_out c.layout_of-l.ensures.sizes c.adopted_cache-c.ensures c.adopted_backing-b.ensures c.in_ok-write_pair.ensures.found

pub returns-in_err-write_pair-clause-order : goal.returns-in_err-write_pair-clause-order
returns-in_err-write_pair-clause-order g c =
    fails_so c.from_residual-in_err-write_pair.result c.in_err-write_pair.field-0.0 _ c.from_residual-in_err-write_pair.ensures.1
    (writing_behind c.in_err-write_pair.field-0.0 c.args.cache.now c.write_pair.new.cache (g.B.Disk.facts c.args.backing.now) c.in_ok-c.b c.in_ok-c.ensures.backing)

pub geometry_of-g-requires : goal.geometry_of-g-requires
geometry_of-g-requires g c =
    let mid = g.C.Disk.facts c.read_pair.new.cache in
    let usable = subst (λ (n : ℕ). IsUsableCache n c.in_ok-c.c) (sym c.in_ok-c.ensures.kept.0.sectors) c.in_ok-c.ensures.cache.2.usable in (
      mid.sectors,
      subst (λ (s : CacheSuper). IsUsableCache mid.sectors s) (sym c.adopted_cache-c.ensures)
          (adopted_usable mid.sectors c.in_ok-c.c c.layout_of-l.result usable c.layout_of-l.ensures.laid_out c.layout_of-l.ensures.sizes.1 c.layout_of-l.ensures.nbuckets),
    )

pub new-requires-clause-names : goal.new-requires-clause-names
new-requires-clause-names g c =
    let l = c.layout_of-l.result in
    let s = c.in_ok-c.c in
    let sectors = s.bucket * s.nbuckets in
    let laid = c.layout_of-l.ensures.laid_out in
    let same = adopted_division s c.adopted_cache-c.result l c.geometry_of-g.result c.adopted_cache-c.ensures c.geometry_of-g.ensures c.layout_of-l.ensures.sizes c.layout_of-l.ensures.nbuckets in
    names_buckets sectors l laid c.geometry_of-g.result same

pub new-requires-clause-within : goal.new-requires-clause-within
new-requires-clause-within g c =
    let l = c.layout_of-l.result in
    let s = c.in_ok-c.c in
    let sectors = s.bucket * s.nbuckets in
    let laid = c.layout_of-l.ensures.laid_out in
    let same = adopted_division s c.adopted_cache-c.result l c.geometry_of-g.result c.adopted_cache-c.ensures c.geometry_of-g.ensures c.layout_of-l.ensures.sizes c.layout_of-l.ensures.nbuckets in
    (has_room sectors l laid c.geometry_of-g.result same).within

pub write_pair-requires-clause-names : goal.write_pair-requires-clause-names
write_pair-requires-clause-names g c =
    let l = c.layout_of-l.result in
    let s = c.in_ok-c.c in
    let sectors = s.bucket * s.nbuckets in
    let laid = c.layout_of-l.ensures.laid_out in
    let same = adopted_division s c.adopted_cache-c.result l c.geometry_of-g.result c.adopted_cache-c.ensures c.geometry_of-g.ensures c.layout_of-l.ensures.sizes c.layout_of-l.ensures.nbuckets in
    names_buckets sectors l laid c.geometry_of-g.result same

pub write_pair-requires-clause-divided : goal.write_pair-requires-clause-divided
write_pair-requires-clause-divided g c =
    let l = c.layout_of-l.result in
    let s = c.in_ok-c.c in
    let sectors = s.bucket * s.nbuckets in
    let laid = c.layout_of-l.ensures.laid_out in
    let same = adopted_division s c.adopted_cache-c.result l c.geometry_of-g.result c.adopted_cache-c.ensures c.geometry_of-g.ensures c.layout_of-l.ensures.sizes c.layout_of-l.ensures.nbuckets in
    is_divided sectors l laid c.geometry_of-g.result same

pub write_pair-requires-clause-room : goal.write_pair-requires-clause-room
write_pair-requires-clause-room g c =
    let l = c.layout_of-l.result in
    let s = c.in_ok-c.c in
    let sectors = s.bucket * s.nbuckets in
    let laid = c.layout_of-l.ensures.laid_out in
    let same = adopted_division s c.adopted_cache-c.result l c.geometry_of-g.result c.adopted_cache-c.ensures c.geometry_of-g.ensures c.layout_of-l.ensures.sizes c.layout_of-l.ensures.nbuckets in
    let mid = g.C.Disk.facts c.read_pair.new.cache in
    let usable = subst (λ (n : ℕ). IsUsableCache n s) (sym c.in_ok-c.ensures.kept.0.sectors) c.in_ok-c.ensures.cache.2.usable in
    let has = has_room sectors l laid c.geometry_of-g.result same in
    record { room = le_trans has.room usable.room; within = has.within }

pub write_pair-requires-clause-superblocks : goal.write_pair-requires-clause-superblocks
write_pair-requires-clause-superblocks g c =
    adopted_superblocks c.in_ok-c.c c.adopted_cache-c.result c.in_ok-c.b c.adopted_backing-b.result (c.in_ok-c.c.bucket * c.in_ok-c.c.nbuckets) c.layout_of-l.result
    c.adopted_cache-c.ensures c.adopted_backing-b.ensures (c.if-not-is_unused.ensures.0 refl) c.layout_of-l.ensures.laid_out
