use Rattle.std.proofs.Common.{◌≡◌, subst}
use Rattle.bc_disk.specs.Bytes.{image_of}
use Rattle.bc_disk.specs.declared.geometry.Geometry.{Geometry}
use Rattle.bc_super.specs.Division.{IsGeometryOf}
use Rattle.bc_super.specs.declared.cache.CacheSuper.{CacheSuper}
use Rattle.bc_super.proofs.Geometries.{one_geometry}
use Rattle.bc_image.specs.Reading.{IsReading}
use Rattle.bc_image.proofs.Unique.{one_cache}
use Rattle.bc_plain_pair.specs.PairBytes.{pair_of}
use Rattle.bc_plain_pair.proofs.reading.view_of.Goals as goal

pub returns-in_default-3 : goal.returns-in_default-3
returns-in_default-3 c = λ v is.
    let p = pair_of c.args.cache.now c.args.backing.now in
    let own = c.in-Some-2.c in
    let none = rw c.in_default-3.is at c.in_ok-reading.ensures in
    let has = rw c.in-Some-2.is at c.in_ok-c.ensures in
    let same : v.cache ≡ own = one_cache p v.cache own is.cache has in
    let divided : v.geometry ≡ c.geometry_of-geometry.result = one_geometry own v.geometry c.geometry_of-geometry.result (subst (λ (s : CacheSuper). IsGeometryOf s v.geometry) same is.geometry) c.geometry_of-geometry.ensures in
    none v.reading (subst (λ (g : Geometry). IsReading g (image_of c.args.cache.now) v.reading) divided is.reading)
