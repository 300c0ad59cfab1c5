use Rattle.bc_replay.specs.Survey.{CanBeOpened}
use Rattle.bc_replay.proofs.Opens.{survey_opens}
use Rattle.bc_replay.proofs.Pairs.{passed_on}
use Rattle.bc_top.specs.Opened.{IsPairCause}
use Rattle.bc_top.proofs.Judging.{held_settled, survey_cause}
use Rattle.bc_top.proofs.Settled.{same_kept, same_settled, still_kept, stands}
use Rattle.bc_recover.specs.Read.{IsReadOf}
use Rattle.bc_top.proofs.Idle.{held_after}
use Rattle.bc_top.proofs.opening.test_pair.Goals as goal

pub returns-clause-opened : goal.returns-clause-opened
returns-clause-opened g c =
    let settled = g.C.Disk.facts c.barrier.new.self in
    let backing = g.B.Disk.facts c.args.backing.now in
    held_settled (g.C.Disk.facts c.args.cache.now) settled (g.C.Disk.facts c.survey.new.cache) backing (g.B.Disk.facts c.survey.new.backing)
    (stands (g.C.Disk.facts c.args.cache.now) settled (g.C.Disk.facts c.survey.new.cache) c.in-Ok.ensures.ok c.in_ok-survey.ensures.cache_kept, still_kept backing (g.B.Disk.facts c.survey.new.backing) c.in_ok-survey.ensures.backing_kept c.requires.still)
    c.in-Ok.ensures.ok.sectors c.in-Ok.ensures.ok.holds c.in-Ok.ensures.counted.1 CanBeOpened
    (survey_opens settled backing _ _ _ _ _ _ _ _ c.in_ok-survey.ensures.found)

pub returns-in_err-survey-clause-cause : goal.returns-in_err-survey-clause-cause
returns-in_err-survey-clause-cause g c =
    let cache = g.C.Disk.facts c.args.cache.now in
    let cache' = g.C.Disk.facts c.survey.new.cache in
    let backing = g.B.Disk.facts c.args.backing.now in
    let backing' = g.B.Disk.facts c.survey.new.backing in
    let e = c.in_err-survey.field-0.0 in
    passed_on c.from_residual.result e (IsPairCause cache cache' backing backing' backing.calls) c.from_residual.ensures.1
    (survey_cause cache (g.C.Disk.facts c.barrier.new.self) cache' backing backing'
    (stands cache (g.C.Disk.facts c.barrier.new.self) cache' c.in-Ok.ensures.ok c.in_err-survey.ensures.cache_kept, still_kept backing backing' c.in_err-survey.ensures.backing_kept c.requires.still)
    c.in-Ok.ensures.ok.sectors c.in-Ok.ensures.ok.holds c.in-Ok.ensures.counted.1 c.in-Ok.ensures.counted.0
    e c.in_err-survey.ensures.refused c.in_err-survey.ensures.faults c.in_err-survey.ensures.supers (c.in_err-survey.ensures.backing_called.0 c.requires.large))

pub returns-clause-settled : goal.returns-clause-settled
returns-clause-settled g c = (
  stands (g.C.Disk.facts c.args.cache.now) (g.C.Disk.facts c.barrier.new.self) (g.C.Disk.facts c.survey.new.cache) c.in-Ok.ensures.ok c.in_ok-survey.ensures.cache_kept,
  still_kept (g.B.Disk.facts c.args.backing.now) (g.B.Disk.facts c.survey.new.backing) c.in_ok-survey.ensures.backing_kept c.requires.still,
)

pub returns-clause-again : goal.returns-clause-again
returns-clause-again g c = c.in_ok-survey.ensures.backing_called.0 c.requires.large

pub returns-in_err-survey-clause-cache_same : goal.returns-in_err-survey-clause-cache_same
returns-in_err-survey-clause-cache_same g c =
    same_settled (g.C.Disk.facts c.args.cache.now) (g.C.Disk.facts c.barrier.new.self) (g.C.Disk.facts c.survey.new.cache) c.in-Ok.ensures.ok c.in_err-survey.ensures.cache_kept

pub returns-in_err-survey-clause-backing_same : goal.returns-in_err-survey-clause-backing_same
returns-in_err-survey-clause-backing_same g c = same_kept (g.B.Disk.facts c.args.backing.now) (g.B.Disk.facts c.survey.new.backing) c.in_err-survey.ensures.backing_kept

pub returns-clause-read : goal.returns-clause-read
returns-clause-read g c =
    held_after (IsReadOf c.in_ok-survey.survey) (g.C.Disk.facts c.barrier.new.self)
    (g.C.Disk.facts c.survey.new.cache) (g.B.Disk.facts c.args.backing.now)
    (g.B.Disk.facts c.survey.new.backing) c.in_ok-survey.ensures.cache_kept
    c.in_ok-survey.ensures.backing_kept c.in_ok-survey.ensures.found

pub returns-clause-cache_same : goal.returns-clause-cache_same
returns-clause-cache_same g c =
    same_settled (g.C.Disk.facts c.args.cache.now) (g.C.Disk.facts c.barrier.new.self)
    (g.C.Disk.facts c.survey.new.cache) c.in-Ok.ensures.ok c.in_ok-survey.ensures.cache_kept
