use Rattle.std.proofs.Common.{◌∙◌, sym}
use Rattle.bc_open.specs.Close.{IsClosed}
use Rattle.bc_open.specs.Open.{HasFailed}
use Rattle.std.proofs.Common.{◌≡◌}
use Rattle.bc_open.specs.Idle.{MayBeLeft}
use Rattle.bc_open.proofs.Exits.{dirty_left, failed_more, idle_leaves, idled, on_err, on_ok, still_open}
use Rattle.bc_open.proofs.Left.{state_leaves}
use Rattle.bc_open.proofs.idle.open_and_close.Goals as goal

pub returns-then-is_err-clause-cause : goal.returns-then-is_err-clause-cause
returns-then-is_err-clause-cause g c =
    let opened = c.in_ok-opened.ensures.opened in
    let backing = g.B.Disk.facts c.args.backing.now in
    let mid = g.B.Disk.facts c.open_pair.new.backing in
    let backing' = g.B.Disk.facts c.close_pair.new.backing in (
      opened.entered.faults ∙ opened.good,
      failed_more backing mid backing' opened.calls opened.faults
          (on_err (HasFailed 3 mid backing') c.close_pair.result
          (sym c.is_err.ensures.value ∙ c.if-is_err.true) c.close_pair.ensures.failed),
    )

pub returns-then-is_err-clause-left : goal.returns-then-is_err-clause-left
returns-then-is_err-clause-left g c =
    let opened = c.in_ok-opened.ensures.opened in
    let backing = g.B.Disk.facts c.args.backing.now in
    let mid = g.B.Disk.facts c.open_pair.new.backing in
    let backing' = g.B.Disk.facts c.close_pair.new.backing in
    let b = c.args.superblock.now in
    state_leaves (g.C.Disk.facts c.args.cache.now) (g.C.Disk.facts c.open_pair.new.cache) backing backing'
    c.args.s.now (g.C.Disk.facts opened.between) c.requires.read opened.kept (MayBeLeft c.args.s.now) b
    c.requires.reads c.in_ok-opened.opened.journal opened.entered
    (idle_leaves g.C.Disk.facts c.args.s.now b c.args.cache.now c.open_pair.new.cache backing mid
    backing' c.in_ok-opened.opened opened
    (c.close_pair.ensures.left (still_open g.C.Disk.facts c.args.s.now b c.args.cache.now
    c.open_pair.new.cache backing mid backing' c.in_ok-opened.opened opened)))

pub returns-clause-ok : goal.returns-clause-ok
returns-clause-ok g c =
    let opened = c.in_ok-opened.ensures.opened in
    let backing = g.B.Disk.facts c.args.backing.now in
    let mid = g.B.Disk.facts c.open_pair.new.backing in
    let backing' = g.B.Disk.facts c.close_pair.new.backing in
    let b = c.args.superblock.now in
    let fine = sym c.is_err.ensures.value ∙ c.if-is_err.false in
    idled g.C.Disk.facts c.args.s.now b c.args.cache.now c.open_pair.new.cache backing mid backing'
    c.in_ok-opened.opened opened
    (on_ok (IsClosed b c.in_ok-opened.opened.buckets mid backing') c.close_pair.result fine
    c.close_pair.ensures.ok)
    (on_ok (backing'.faults ≡ mid.faults) c.close_pair.result fine c.close_pair.ensures.faults)

pub returns-clause-left : goal.returns-clause-left
returns-clause-left g c =
    let opened = c.in_ok-opened.ensures.opened in
    let backing = g.B.Disk.facts c.args.backing.now in
    let mid = g.B.Disk.facts c.open_pair.new.backing in
    let backing' = g.B.Disk.facts c.close_pair.new.backing in
    let b = c.args.superblock.now in
    state_leaves (g.C.Disk.facts c.args.cache.now) (g.C.Disk.facts c.open_pair.new.cache) backing backing'
    c.args.s.now (g.C.Disk.facts opened.between) c.requires.read opened.kept (MayBeLeft c.args.s.now) b
    c.requires.reads c.in_ok-opened.opened.journal opened.entered
    (idle_leaves g.C.Disk.facts c.args.s.now b c.args.cache.now c.open_pair.new.cache backing mid
    backing' c.in_ok-opened.opened opened
    (c.close_pair.ensures.left (still_open g.C.Disk.facts c.args.s.now b c.args.cache.now
    c.open_pair.new.cache backing mid backing' c.in_ok-opened.opened opened)))

pub returns-then-is_err-clause-state : goal.returns-then-is_err-clause-state
returns-then-is_err-clause-state g c = λ rests.
    let opened = c.in_ok-opened.ensures.opened in
    let backing = g.B.Disk.facts c.args.backing.now in
    let mid = g.B.Disk.facts c.open_pair.new.backing in
    let backing' = g.B.Disk.facts c.close_pair.new.backing in
    let b = c.args.superblock.now in
    idle_leaves g.C.Disk.facts c.args.s.now b c.args.cache.now c.open_pair.new.cache backing mid
    backing' c.in_ok-opened.opened opened
    (c.close_pair.ensures.left (still_open g.C.Disk.facts c.args.s.now b c.args.cache.now
    c.open_pair.new.cache backing mid backing' c.in_ok-opened.opened opened))

pub returns-clause-state : goal.returns-clause-state
returns-clause-state g c = λ rests.
    let opened = c.in_ok-opened.ensures.opened in
    let backing = g.B.Disk.facts c.args.backing.now in
    let mid = g.B.Disk.facts c.open_pair.new.backing in
    let backing' = g.B.Disk.facts c.close_pair.new.backing in
    let b = c.args.superblock.now in
    idle_leaves g.C.Disk.facts c.args.s.now b c.args.cache.now c.open_pair.new.cache backing mid
    backing' c.in_ok-opened.opened opened
    (c.close_pair.ensures.left (still_open g.C.Disk.facts c.args.s.now b c.args.cache.now
    c.open_pair.new.cache backing mid backing' c.in_ok-opened.opened opened))

pub returns-in_err-opened-clause-state : goal.returns-in_err-opened-clause-state
returns-in_err-opened-clause-state g c = λ rests.
    let backing = g.B.Disk.facts c.args.backing.now in
    let mid = g.B.Disk.facts c.open_pair.new.backing in
    dirty_left c.args.s.now c.args.superblock.now backing mid (c.in_err-opened.ensures.state rests)
