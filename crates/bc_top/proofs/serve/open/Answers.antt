use Rattle.std.proofs.Common.{inl, refl}
use Rattle.bc_top.specs.Opened.{IsOpeningCause}
use Rattle.bc_top.specs.Stops.{open_stop}
use Rattle.bc_top.proofs.Idle.{tested}
use Rattle.bc_top.proofs.Judging.{has_room, opening_refused, opening_unserved, same_again, turned}
use Rattle.bc_top.proofs.Settled.{same_self}
use Rattle.bc_top.proofs.serve.open.Goals as goal

pub returns-in_err-superblock-clause-cause : goal.returns-in_err-superblock-clause-cause
returns-in_err-superblock-clause-cause g c =
    let cache = g.C.Disk.facts c.args.cache.now in
    let e = c.in_err-superblock.field-0.0 in
    turned c.from_residual.result (open_stop e) (IsOpeningCause cache cache (g.B.Disk.facts c.args.backing.now) (g.B.Disk.facts c.open_backing.new.backing)) c.from_residual.ensures.1 (inl (e, refl, c.in_err-superblock.ensures.cause, refl))

pub returns-in_err-superblock-clause-same : goal.returns-in_err-superblock-clause-same
returns-in_err-superblock-clause-same g c = (same_self (g.C.Disk.facts c.args.cache.now), c.in_err-superblock.ensures.same)

pub test_pair-requires : goal.test_pair-requires
test_pair-requires g c = record {
  large = has_room (g.B.Disk.facts c.open_backing.new.backing) c.in_ok-superblock.superblock c.in_ok-superblock.ensures.ok.reads;
  still = c.in_ok-superblock.ensures.ok.still;
}

pub returns-in_err-survey-clause-cause : goal.returns-in_err-survey-clause-cause
returns-in_err-survey-clause-cause g c =
    let cache = g.C.Disk.facts c.args.cache.now in
    let cache' = g.C.Disk.facts c.test_pair.new.cache in
    let backing = g.B.Disk.facts c.args.backing.now in
    let opened = g.B.Disk.facts c.open_backing.new.backing in
    let backing' = g.B.Disk.facts c.test_pair.new.backing in
    let e = c.in_err-survey.field-0.0 in
    turned c.from_residual-in_err-survey.result (open_stop e) (IsOpeningCause cache cache' backing backing') c.from_residual-in_err-survey.ensures.1
    (opening_refused cache cache' backing opened backing' c.in_ok-superblock.superblock c.in_ok-superblock.ensures.ok (λ is. let yes = c.is_pass_through.ensures.1 is in let no = c.if-is_pass_through.false in absurd (cc)) e c.in_err-survey.ensures.cause)

pub returns-then-more-clause-cause : goal.returns-then-more-clause-cause
returns-then-more-clause-cause g c =
    let cache = g.C.Disk.facts c.args.cache.now in
    let cache' = g.C.Disk.facts c.test_pair.new.cache in
    let backing = g.B.Disk.facts c.args.backing.now in
    let opened = g.B.Disk.facts c.open_backing.new.backing in
    let backing' = g.B.Disk.facts c.test_pair.new.backing in
    opening_unserved cache cache' backing opened backing' c.in_ok-superblock.superblock c.in_ok-superblock.ensures.ok (λ is. let yes = c.is_pass_through.ensures.1 is in let no = c.if-is_pass_through.false in absurd (cc)) c.in_ok-survey.ensures.opened c.in_ok-survey.ensures.quiet c.in_ok-survey.ensures.again c.in_ok-survey.ensures.settled

pub returns-then-is_pass_through-clause-same : goal.returns-then-is_pass_through-clause-same
returns-then-is_pass_through-clause-same g c =
    (same_self (g.C.Disk.facts c.args.cache.now), c.in_ok-superblock.ensures.same)

pub returns-then-more-clause-same : goal.returns-then-more-clause-same
returns-then-more-clause-same g c = (
  c.in_ok-survey.ensures.cache_same,
  same_again (g.B.Disk.facts c.args.backing.now) (g.B.Disk.facts c.open_backing.new.backing)
      (g.B.Disk.facts c.test_pair.new.backing) c.in_ok-superblock.ensures.same
      c.in_ok-survey.ensures.backing_same,
)

pub returns-clause-same : goal.returns-clause-same
returns-clause-same g c = (
  c.in_ok-survey.ensures.cache_same,
  same_again (g.B.Disk.facts c.args.backing.now) (g.B.Disk.facts c.open_backing.new.backing)
      (g.B.Disk.facts c.test_pair.new.backing) c.in_ok-superblock.ensures.same
      c.in_ok-survey.ensures.backing_same,
)

pub returns-clause-ready : goal.returns-clause-ready
returns-clause-ready g c =
    let e = c.in_ok-survey.ensures in
    tested c.in_ok-superblock.superblock c.in_ok-survey.survey (g.C.Disk.facts c.args.cache.now)
    (g.C.Disk.facts c.test_pair.new.cache) (g.B.Disk.facts c.args.backing.now)
    (g.B.Disk.facts c.open_backing.new.backing) (g.B.Disk.facts c.test_pair.new.backing)
    c.in_ok-superblock.ensures.ok c.in_ok-superblock.ensures.same
    (λ is. let yes = c.is_pass_through.ensures.1 is in let no = c.if-is_pass_through.false in absurd (cc))
    e.opened e.quiet e.again e.settled e.cache_same e.backing_same e.kept e.parts e.room e.read
