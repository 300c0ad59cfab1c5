use Rattle.std.proofs.Common.{sym, subst}
use Rattle.bc_disk.proofs.Amounts.{some_sets}
use Rattle.bc_super.specs.Cache.{IsUsableCache}
use Rattle.bc_super.specs.Super.{IsUsable}
use Rattle.bc_pair.proofs.Formatted.{of_each}
use Rattle.bc_pair.proofs.Steps.{stored_keeps, torn_keeps}
use Rattle.bc_pair.proofs.write.write_pair.Goals as goal

pub returns-in-Ok-write_backing-clause-data : goal.returns-in-Ok-write_backing-clause-data
returns-in-Ok-write_backing-clause-data g c =
    stored_keeps c.args.b.now (g.B.Disk.facts c.args.backing.now) (g.B.Disk.facts c.write_backing.new.disk) (g.B.Disk.honest c.args.backing.now) c.in-Ok-write_backing.ensures.ok

pub returns-in-Err-write_backing-clause-data : goal.returns-in-Err-write_backing-clause-data
returns-in-Err-write_backing-clause-data g c = torn_keeps c.args.b.now (g.B.Disk.facts c.args.backing.now) (g.B.Disk.facts c.write_backing.new.disk) c.in-Err-write_backing.ensures.failed

pub returns-in-Ok-write_backing-clause-found : goal.returns-in-Ok-write_backing-clause-found
returns-in-Ok-write_backing-clause-found g c =
    let g' = c.args.g.now in
    let cache = g.C.Disk.facts c.args.cache.now in
    let cache' = g.C.Disk.facts c.write_cache_device.new.cache in
    let backing = g.B.Disk.facts c.args.backing.now in
    let backing' = g.B.Disk.facts c.write_backing.new.disk in
    let made = c.in-Ok.ensures.ok c.args.b.now c.requires.new in
    let stored = c.in-Ok-write_backing.ensures.ok in
    record {
      geometry = c.requires.geometry;
      superblocks = c.requires.superblocks;
      cache_super = c.in-Ok.ensures.reads;
      backing_super = c.in-Ok-write_backing.ensures.reads;
      formatted = of_each g' c.args.c.now c.args.b.now c.requires.geometry c.requires.divided c.requires.room.within (some_sets g') cache cache' backing backing'
          (subst (λ n. IsUsableCache n c.args.c.now) (sym made.sectors) c.requires.cache) (subst (λ n. IsUsable n c.args.b.now) (sym stored.2.sectors) c.requires.backing) made stored;
    }
