use Rattle.std.proofs.Common.{◌≡◌, [], rules}
use Rattle.bc_image.specs.Pair.{Pair}
use Rattle.bc_prio.proofs.Chains.{kept_all, kept_both}
use Rattle.bc_replay.specs.Survey.{HasSurvey}
use Rattle.bc_check.specs.Calls.{EndsAtSuper, check_of}
use Rattle.bc_check.specs.Verdict.{IsCheckCause, IsVerdict, ListsIf}
use Rattle.bc_check.proofs.Checked.{passes, cause_so, through_so, verdict_so, with_lines}
use Rattle.bc_check.proofs.Calls.{surveyed_end}
use Rattle.bc_check.proofs.Pairs.{passed_on}
use Rattle.bc_check.proofs.pair.examine.Goals as goal

pub returns-then-branch-clause-found : goal.returns-then-branch-clause-found
returns-then-branch-clause-found g c =
    let cache = g.C.Disk.facts c.args.cache.now in
    let backing = g.B.Disk.facts c.args.backing.now in
    let none : c.new.result.items ≡ [] = search rules in
    through_so cache backing c.args.list c.new.result.items none (passes cache backing c.in_ok-serves_alone.field-0 c.if-branch.true c.in_ok-serves_alone.ensures.found)

pub returns-in_err-s-clause-refused : goal.returns-in_err-s-clause-refused
returns-in_err-s-clause-refused g c =
    let cache = g.C.Disk.facts c.args.cache.now in
    let backing = g.B.Disk.facts c.args.backing.now in
    let why = c.in_err-s.field-0.0 in
    passed_on c.from_residual-in_err-s.result (check_of why) (IsCheckCause cache backing) c.from_residual-in_err-s.ensures.1
    (cause_so cache backing cache (g.B.Disk.facts c.serves_alone.new.backing) (record { cache_kept = kept_all cache; backing_kept = c.in_ok-serves_alone.ensures.kept }) c.in_ok-serves_alone.field-0 c.if-branch.false
    c.in_ok-serves_alone.ensures.found why c.in_err-s.ensures.refused)

pub returns-clause-found : goal.returns-clause-found
returns-clause-found g c =
    let cache = g.C.Disk.facts c.args.cache.now in
    let backing = g.B.Disk.facts c.args.backing.now in
    let mid = g.B.Disk.facts c.serves_alone.new.backing in
    let last = g.C.Disk.facts c.survey.new.cache in
    let left = g.B.Disk.facts c.survey.new.backing in
    let s = c.in_ok-s.s in
    let verdict = c.in_ok-verdict.verdict in
    let lines = c.in_ok-lines.lines.items in
    let Has : Pair → Type 0 = λ p. HasSurvey p s.supers.backing s.supers.cache s.supers.geometry s.journal s.gens s.seen.items s.index.keys s.uses.items in
    let first = c.in_ok-serves_alone.ensures.kept in
    let read = c.in_ok-s.ensures in
    verdict_so cache backing cache mid (record { cache_kept = kept_all cache; backing_kept = first }) last left (record { cache_kept = read.cache_kept; backing_kept = kept_both backing mid left first read.backing_kept }) Has read.found
    (λ p. IsVerdict p verdict × ListsIf c.args.list p verdict lines)
    (with_lines Has (λ p. IsVerdict p verdict) (λ p. ListsIf c.args.list p verdict lines) last left c.in_ok-lines.ensures c.in_ok-verdict.ensures.found)

pub returns-in_err-s-clause-supers : goal.returns-in_err-s-clause-supers
returns-in_err-s-clause-supers g c =
    let cache = g.C.Disk.facts c.args.cache.now in
    let cache' = g.C.Disk.facts c.survey.new.cache in
    let backing = g.B.Disk.facts c.args.backing.now in
    let mid = g.B.Disk.facts c.serves_alone.new.backing in
    let backing' = g.B.Disk.facts c.survey.new.backing in
    let why = c.in_err-s.field-0.0 in
    passed_on c.from_residual-in_err-s.result (check_of why) (EndsAtSuper cache cache' backing backing') c.from_residual-in_err-s.ensures.1
    (surveyed_end cache cache' backing mid backing' c.in_ok-serves_alone.ensures.kept c.in_ok-serves_alone.ensures.called c.in_err-s.ensures.backing_called why c.in_err-s.ensures.supers)

pub returns-in_err-lines-clause-kept : goal.returns-in_err-lines-clause-kept
returns-in_err-lines-clause-kept g c =
    let cache = g.C.Disk.facts c.args.cache.now in
    let backing = g.B.Disk.facts c.args.backing.now in
    let mid = g.B.Disk.facts c.serves_alone.new.backing in
    let last = g.C.Disk.facts c.survey.new.cache in
    let left = g.B.Disk.facts c.survey.new.backing in
    let read = c.in_ok-s.ensures in
    let then = c.in_ok-verdict.ensures.kept in
    record {
      cache_kept = kept_both cache last (g.C.Disk.facts c.verdict_of.new.cache) read.cache_kept then.cache_kept;
      backing_kept = kept_both backing left (g.B.Disk.facts c.verdict_of.new.backing) (kept_both backing mid left c.in_ok-serves_alone.ensures.kept read.backing_kept) then.backing_kept;
    }

pub returns-clause-kept : goal.returns-clause-kept
returns-clause-kept g c =
    let cache = g.C.Disk.facts c.args.cache.now in
    let backing = g.B.Disk.facts c.args.backing.now in
    let mid = g.B.Disk.facts c.serves_alone.new.backing in
    let last = g.C.Disk.facts c.survey.new.cache in
    let left = g.B.Disk.facts c.survey.new.backing in
    let read = c.in_ok-s.ensures in
    let then = c.in_ok-verdict.ensures.kept in
    record {
      cache_kept = kept_both cache last (g.C.Disk.facts c.verdict_of.new.cache) read.cache_kept then.cache_kept;
      backing_kept = kept_both backing left (g.B.Disk.facts c.verdict_of.new.backing) (kept_both backing mid left c.in_ok-serves_alone.ensures.kept read.backing_kept) then.backing_kept;
    }
