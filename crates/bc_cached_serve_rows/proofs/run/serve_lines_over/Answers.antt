use Rattle.bc_prio.proofs.Chains.{kept_both}
use Rattle.bc_recover.specs.Read.{IsReadOf}
use Rattle.bc_cached_serve.proofs.of_bc_session.Stops.{held_on, stands_kept}
use Rattle.bc_cached_serve_rows.proofs.Kept.{backing_kept, reads_kept}
use Rattle.bc_cached_serve_rows.proofs.run.serve_lines_over.Goals as goal

pub serve_surveyed-requires-clause-holds : goal.serve_surveyed-requires-clause-holds
serve_surveyed-requires-clause-holds g c =
    let old = g.B.Disk.facts c.settle-2.new.disk in
    let mid = g.B.Disk.facts c.read_backing.new.disk in
    let new = g.B.Disk.facts c.survey.new.backing in
    reads_kept old new (kept_both old mid new c.in_ok-superblock.ensures.kept
    c.in_ok-s.ensures.backing_kept) c.in_ok-superblock.superblock c.in_ok-superblock.ensures.ok

pub serve_surveyed-requires-clause-read : goal.serve_surveyed-requires-clause-read
serve_surveyed-requires-clause-read g c =
    let cache = g.C.Disk.facts c.settle.new.disk in
    let cache' = g.C.Disk.facts c.survey.new.cache in
    let backing = g.B.Disk.facts c.read_backing.new.disk in
    let backing' = g.B.Disk.facts c.survey.new.backing in
    backing_kept backing backing' c.in_ok-s.ensures.backing_kept cache' (IsReadOf c.in_ok-s.s)
    (held_on cache cache' c.in_ok-s.ensures.cache_kept backing (IsReadOf c.in_ok-s.s)
    c.in_ok-s.ensures.found)

pub serve_surveyed-requires-clause-still : goal.serve_surveyed-requires-clause-still
serve_surveyed-requires-clause-still g c = stands_kept (g.C.Disk.facts c.settle.new.disk)
    (g.C.Disk.facts c.survey.new.cache) c.in_ok-s.ensures.cache_kept c.in_ok-settle.ensures.ok

pub serve_surveyed-requires-clause-rests : goal.serve_surveyed-requires-clause-rests
serve_surveyed-requires-clause-rests g c =
    let old = g.B.Disk.facts c.settle-2.new.disk in
    let mid = g.B.Disk.facts c.read_backing.new.disk in
    let new = g.B.Disk.facts c.survey.new.backing in
    stands_kept old new (kept_both old mid new c.in_ok-superblock.ensures.kept
    c.in_ok-s.ensures.backing_kept) c.in_ok-settle-2.ensures.ok
