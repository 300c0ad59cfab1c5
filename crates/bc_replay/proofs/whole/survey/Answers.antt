use Rattle.std.proofs.Common.{◌≡◌, ◌-◌, ◌∙◌, List, Some, subst, ap}
use Rattle.std.specs.Prelude.{slice_get}
use Rattle.bc_disk.specs.declared.geometry.Geometry.{Geometry}
use Rattle.bc_key.specs.declared.key.Key.{Key}
use Rattle.bc_prio.proofs.Chains.{kept_both}
use Rattle.bc_super.specs.Super.{data_sectors}
use Rattle.bc_walk.specs.Rule.{Rule}
use Rattle.bc_walk.specs.declared.visit.Visit.{Visit}
use Rattle.bc_replay.specs.Causes.{EndsAtSupers}
use Rattle.bc_replay.specs.Index.{rule_by}
use Rattle.bc_replay.specs.Judge.{IsJudgedCause, IsJudged, IsKnown, held_of}
use Rattle.bc_replay.specs.Limits.{rule_in}
use Rattle.bc_replay.specs.Replay.{HasIndex}
use Rattle.bc_replay.specs.Survey.{IsSurveyCause}
use Rattle.bc_replay.proofs.Behind.{newest_at}
use Rattle.bc_replay.proofs.Ends.{index_end, judged_end}
use Rattle.bc_replay.proofs.Pairs.{passed_on}
use Rattle.bc_replay.proofs.Refuses.{index_cause, judged_cause, survey_held}
use Rattle.bc_replay.proofs.whole.survey.Goals as goal

pub returns-in_err-seen-clause-refused : goal.returns-in_err-seen-clause-refused
returns-in_err-seen-clause-refused g c =
    let cache = g.C.Disk.facts c.args.cache.now in
    let backing = g.B.Disk.facts c.args.backing.now in
    let mid = g.C.Disk.facts c.read_heads.new.cache in
    let f = c.in_ok-front.front in
    let e = c.in_err-seen.field-0.0 in
    passed_on c.from_residual-in_err-seen.result e (IsSurveyCause cache backing) c.from_residual-in_err-seen.ensures.1
    (index_cause cache backing mid f.supers.backing f.supers.cache f.supers.geometry f.journal f.gens c.in_ok-front.ensures.cache_kept c.in_ok-front.ensures.found e c.in_err-seen.ensures.refused)

pub returns-in_err-uses-clause-refused : goal.returns-in_err-uses-clause-refused
returns-in_err-uses-clause-refused g c =
    let cache = g.C.Disk.facts c.args.cache.now in
    let backing = g.B.Disk.facts c.args.backing.now in
    let mid = g.C.Disk.facts c.read_heads.new.cache in
    let f = c.in_ok-front.front in
    let b = f.supers.backing in
    let geo = f.supers.geometry in
    let j = f.journal in
    let index = c.in_ok-seen.index in
    let newest = c.entry.result.now in
    let uuid = newest.item.uuid_bucket in
    let same : c.data_sectors-size.result ≡ data_sectors backing.sectors b = c.data_sectors-size.ensures ∙ ap (λ n. data_sectors n b) (c.sectors.ensures ∙ c.in_ok-front.ensures.backing_kept.sectors) in
    let rule : rule_in index.limits ≡ rule_by geo (data_sectors backing.sectors b) = c.in_ok-seen.ensures.limits ∙ ap (rule_by geo) same in
    let found = subst (λ n. HasIndex mid (rule_by geo n) j c.in_ok-seen.seen.items index.keys.keys index.word) same c.in_ok-seen.ensures.found in
    let at = subst (λ n. slice_get j.entries (n - 1) ≡ Some newest) c.len-count.ensures c.entry.ensures in
    let e = c.in_err-uses.field-0.0 in
    let cause = subst (λ (r : Rule). IsJudgedCause r f.gens uuid c.deref.result.now index.keys.keys index.word e) rule c.in_err-uses.ensures.refused in
    let here = subst (λ (vs : List Visit). IsJudgedCause (rule_by geo (data_sectors backing.sectors b)) f.gens uuid vs index.keys.keys index.word e) c.deref.ensures.value cause in
    passed_on c.from_residual-in_err-uses.result e (IsSurveyCause cache backing) c.from_residual-in_err-uses.ensures.1
    (judged_cause cache backing mid b f.supers.cache geo j f.gens c.in_ok-front.ensures.cache_kept c.in_ok-front.ensures.found newest (λ image has. newest_at geo image j has newest at) c.in_ok-seen.seen.items index.keys.keys index.word found e here)

pub returns-clause-found : goal.returns-clause-found
returns-clause-found g c =
    let cache = g.C.Disk.facts c.args.cache.now in
    let backing = g.B.Disk.facts c.args.backing.now in
    let mid = g.C.Disk.facts c.read_heads.new.cache in
    let f = c.in_ok-front.front in
    let b = f.supers.backing in
    let geo = f.supers.geometry in
    let j = f.journal in
    let index = c.in_ok-seen.index in
    let newest = c.entry.result.now in
    let uuid = newest.item.uuid_bucket in
    let same : c.data_sectors-size.result ≡ data_sectors backing.sectors b = c.data_sectors-size.ensures ∙ ap (λ n. data_sectors n b) (c.sectors.ensures ∙ c.in_ok-front.ensures.backing_kept.sectors) in
    let rule : rule_in index.limits ≡ rule_by geo (data_sectors backing.sectors b) = c.in_ok-seen.ensures.limits ∙ ap (rule_by geo) same in
    let found = subst (λ n. HasIndex mid (rule_by geo n) j c.in_ok-seen.seen.items index.keys.keys index.word) same c.in_ok-seen.ensures.found in
    let at = subst (λ n. slice_get j.entries (n - 1) ≡ Some newest) c.len-count.ensures c.entry.ensures in
    let us = c.in_ok-uses.uses.items in
    let one = subst (λ (r : Rule). (keys : List Key) → IsKnown r f.gens uuid c.deref.result.now keys index.keys.keys index.word → IsJudged r (held_of r f.gens uuid c.deref.result.now keys) us) rule c.in_ok-uses.ensures.judged in
    let here = subst (λ (vs : List Visit). (keys : List Key) → IsKnown (rule_by geo (data_sectors backing.sectors b)) f.gens uuid vs keys index.keys.keys index.word
    → IsJudged (rule_by geo (data_sectors backing.sectors b)) (held_of (rule_by geo (data_sectors backing.sectors b)) f.gens uuid vs keys) us) c.deref.ensures.value one in
    survey_held cache backing mid b f.supers.cache geo j f.gens c.in_ok-front.ensures.cache_kept c.in_ok-front.ensures.found newest (λ image has. newest_at geo image j has newest at) c.in_ok-seen.seen.items index.keys.keys index.word found us here

pub returns-in_err-seen-clause-supers : goal.returns-in_err-seen-clause-supers
returns-in_err-seen-clause-supers g c =
    let cache = g.C.Disk.facts c.args.cache.now in
    let backing = g.B.Disk.facts c.args.backing.now in
    let mid = g.C.Disk.facts c.read_heads.new.cache in
    let new = (g.C.Disk.facts c.read_index.new.cache).calls in
    let f = c.in_ok-front.front in
    let e = c.in_err-seen.field-0.0 in
    passed_on c.from_residual-in_err-seen.result e (EndsAtSupers cache backing cache.calls new) c.from_residual-in_err-seen.ensures.1
    (index_end cache backing cache.calls new mid f.supers.geometry f.journal e c.in_err-seen.ensures.refused)

pub returns-in_err-uses-clause-supers : goal.returns-in_err-uses-clause-supers
returns-in_err-uses-clause-supers g c =
    let cache = g.C.Disk.facts c.args.cache.now in
    let backing = g.B.Disk.facts c.args.backing.now in
    let new = (g.C.Disk.facts c.read_index.new.cache).calls in
    let index = c.in_ok-seen.index in
    let e = c.in_err-uses.field-0.0 in
    passed_on c.from_residual-in_err-uses.result e (EndsAtSupers cache backing cache.calls new) c.from_residual-in_err-uses.ensures.1
    (judged_end cache backing cache.calls new (rule_in index.limits) c.in_ok-front.front.gens c.entry.result.now.item.uuid_bucket c.deref.result.now index.keys.keys index.word e c.in_err-uses.ensures.refused)

pub returns-clause-parts : goal.returns-clause-parts
returns-clause-parts g c =
    let geo = c.in_ok-front.front.supers.geometry in
    let same : c.in_ok-seen.index.limits.geometry ≡ geo = ap (λ (r : Rule). r.geometry) c.in_ok-seen.ensures.limits in
    record { heads = c.in_ok-front.ensures.parts; uses = c.in_ok-uses.ensures.each ∙ ap (λ (x : Geometry). x.nbuckets) same }

pub returns-in_err-uses-clause-cache_kept : goal.returns-in_err-uses-clause-cache_kept
returns-in_err-uses-clause-cache_kept g c =
    let old = g.C.Disk.facts c.args.cache.now in
    let mid = g.C.Disk.facts c.read_heads.new.cache in
    kept_both old mid (g.C.Disk.facts c.read_index.new.cache) c.in_ok-front.ensures.cache_kept c.in_ok-seen.ensures.kept

pub returns-clause-cache_kept : goal.returns-clause-cache_kept
returns-clause-cache_kept g c =
    let old = g.C.Disk.facts c.args.cache.now in
    let mid = g.C.Disk.facts c.read_heads.new.cache in
    kept_both old mid (g.C.Disk.facts c.read_index.new.cache) c.in_ok-front.ensures.cache_kept c.in_ok-seen.ensures.kept
