use Rattle.std.proofs.Common.{◌≡◌, ◌∙◌, ap, refl}
use Rattle.bc_session.proofs.of_bc_open.Exits.{kept_self}
use Rattle.bc_session.proofs.of_bc_open.Left.{kept_leaves}
use Rattle.bc_session.proofs.of_bc_open.States.{same_leaves}
use Rattle.bc_session.proofs.Ready.{stands_still}
use Rattle.bc_session.proofs.Seen.{usable_over}
use Rattle.bc_super.specs.Super.{data_sectors}
use Rattle.bc_super.specs.declared.state.BackingState.{BackingState}
use Rattle.bc_super.specs.declared.state.BackingState.TheVariants as states
use Rattle.bc_cached_serve.proofs.Opened.{has_leaves, has_run_over, has_stayed, is_alone, is_cached, is_durable}
use Rattle.bc_cached_serve.proofs.whole_run.run_lines.Goals as goal

-- ---- there was no memory for the answers

pub returns-in_default-clause-cause : goal.returns-in_default-clause-cause
returns-in_default-clause-cause g c =
    (has_stayed (g.C.Disk.facts c.args.cache) c.requires.still, refl)

pub returns-in_default-clause-state : goal.returns-in_default-clause-state
returns-in_default-clause-state g c = let d = g.B.Disk.facts c.args.backing in
    same_leaves (λ (x : BackingState). x ≡ states.Dirty) c.args.superblock.now d d
    (stands_still d c.requires.rests) (kept_self d)

pub returns-in_default-clause-left : goal.returns-in_default-clause-left
returns-in_default-clause-left g c =
    let cache = g.C.Disk.facts c.args.cache in
    let backing = g.B.Disk.facts c.args.backing in
    kept_leaves cache cache backing backing (kept_self cache) (kept_self backing)

-- ---- a run was started

pub serve_run-requires-clause-alone : goal.serve_run-requires-clause-alone
serve_run-requires-clause-alone g c = is_alone g.C.Disk.facts g.B.Disk.facts c.args.s.now
    c.args.superblock.now c.args.cache c.args.backing c.args.loaded c.in-Ok-open.parts
    c.in-Ok-open.seat c.in-Ok-open.ensures.opened

pub serve_run-requires-clause-cached : goal.serve_run-requires-clause-cached
serve_run-requires-clause-cached g c = is_cached g.C.Disk.facts g.B.Disk.facts c.args.s.now
    c.args.superblock.now c.args.cache c.args.backing c.args.loaded c.in-Ok-open.parts
    c.in-Ok-open.seat c.in-Ok-open.ensures.opened

pub serve_run-requires-clause-leaves : goal.serve_run-requires-clause-leaves
serve_run-requires-clause-leaves g c = has_leaves g.C.Disk.facts g.B.Disk.facts c.args.s.now
    c.args.superblock.now c.args.cache c.args.backing c.args.loaded c.in-Ok-open.parts
    c.in-Ok-open.seat c.in-Ok-open.ensures.opened

pub serve_run-requires-clause-durable : goal.serve_run-requires-clause-durable
serve_run-requires-clause-durable g c = is_durable g.C.Disk.facts g.B.Disk.facts c.args.s.now
    c.args.superblock.now c.args.cache c.args.backing c.args.loaded c.in-Ok-open.parts
    c.in-Ok-open.seat c.in-Ok-open.ensures.opened

pub serve_run-requires-clause-usable : goal.serve_run-requires-clause-usable
serve_run-requires-clause-usable g c = usable_over g.C.Disk.facts g.B.Disk.facts c.args.s.now
    c.args.superblock.now c.args.cache c.args.backing c.args.loaded c.in-Ok-open.parts
    c.in-Ok-open.seat c.in-Ok-open.ensures.opened c.requires.holds

pub returns-in-Ok-open-clause-run : goal.returns-in-Ok-open-clause-run
returns-in-Ok-open-clause-run g c = has_run_over g.C.Disk.facts g.B.Disk.facts c.args.s.now
    c.args.superblock.now c.args.cache c.args.backing c.args.loaded c.in-Ok-open.parts
    c.in-Ok-open.seat c.in-Ok-open.ensures.opened c.args.dirty c.data_sectors-size.result
    c.args.lines.now c.serve_run.result
    (c.data_sectors-size.ensures
    ∙ ap (λ n. data_sectors n c.args.superblock.now) c.sectors.ensures) c.serve_run.ensures.run
