use Rattle.std.proofs.Common.{◌*◌, ◌≤◌, sym, subst, arith}
use Rattle.bc_recover.specs.Read.{IsReadOf}
use Rattle.bc_session.proofs.Stops.{held_on, stands_kept}
use Rattle.bc_session_rows.proofs.Running.{is_alone, is_opened, may_have}
use Rattle.bc_session_rows.specs.Run.{IsOpened}
use Rattle.bc_session_rows.proofs.run.open_surveyed.Goals as goal

pub open-requires-clause-room : goal.open-requires-clause-room
open-requires-clause-room g c = subst (λ n. c.args.s.now.supers.geometry.bucket
    * c.args.s.now.supers.geometry.nbuckets ≤ n) (sym c.in_ok-loaded.ensures.kept.sectors)
    c.requires.room

pub open-requires-clause-loaded : goal.open-requires-clause-loaded
open-requires-clause-loaded g c = record {
  count = 1;
  some = omega arith;
  few = omega arith;
  are = c.in_ok-loaded.ensures.loaded;
}

pub open-requires-clause-read : goal.open-requires-clause-read
open-requires-clause-read g c = held_on (g.C.Disk.facts c.args.cache)
    (g.C.Disk.facts c.load.new.cache) c.in_ok-loaded.ensures.kept (g.B.Disk.facts c.args.backing)
    (IsReadOf c.args.s.now) c.requires.read

pub open-requires-clause-still : goal.open-requires-clause-still
open-requires-clause-still g c = stands_kept (g.C.Disk.facts c.args.cache)
    (g.C.Disk.facts c.load.new.cache) c.in_ok-loaded.ensures.kept c.requires.still

pub returns-in-Ok-clause-opened : goal.returns-in-Ok-clause-opened
returns-in-Ok-clause-opened g c = subst (λ n. IsOpened g.C.Disk.facts g.B.Disk.facts n
    c.in-Ok.parts) (sym c.from.ensures) (is_opened g.C.Disk.facts g.B.Disk.facts c.args.s.now
    c.args.superblock.now c.load.new.cache c.args.backing c.in_ok-loaded.loaded c.in-Ok.parts
    c.in-Ok.seat c.in-Ok.ensures.opened)

pub returns-in-Ok-clause-has : goal.returns-in-Ok-clause-has
returns-in-Ok-clause-has g c = may_have g.C.Disk.facts g.B.Disk.facts c.args.s.now
    c.args.superblock.now c.load.new.cache c.args.backing c.in_ok-loaded.loaded c.in-Ok.parts
    c.in-Ok.seat c.in-Ok.ensures.opened c.requires.reads

pub returns-in-Ok-clause-alone : goal.returns-in-Ok-clause-alone
returns-in-Ok-clause-alone g c = is_alone g.C.Disk.facts g.B.Disk.facts c.args.s.now
    c.args.superblock.now c.load.new.cache c.args.backing c.in_ok-loaded.loaded c.in-Ok.parts
    c.in-Ok.seat c.in-Ok.ensures.opened
