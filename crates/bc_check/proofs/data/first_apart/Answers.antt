use Rattle.std.proofs.Common.{◌+◌, ◌<◌, ◌≤◌, List, Option, None, Some, ℕ, length, refl, subst, ap, ◌∙◌}
use Rattle.bc_prio.proofs.Readings.{buffer_kept}
use Rattle.bc_replay.specs.Causes.{OfHeld}
use Rattle.bc_check.specs.Apart.{NoneApart, TellsRow, TellsRows}
use Rattle.bc_check.proofs.Pairs.{all_kept, both_kept, held_any, held_back, held_map, held_two}
use Rattle.bc_check.proofs.Differ.{range_here, none_first, none_next, none_all, first_here}
use Rattle.bc_check.proofs.data.first_apart.Goals as goal

pub loop-i-init : goal.loop-i-init
loop-i-init g c =
    let s = c.args.s.now in
    record {
      found = held_any (λ p. NoneApart s.supers.geometry s.gens p s.supers.backing.data_offset s.index.keys 0) (g.C.Disk.facts c.args.cache.now) (g.B.Disk.facts c.args.backing.now)
          (λ p x y. none_first s.supers.geometry s.gens p s.supers.backing.data_offset s.index.keys);
      kept = all_kept (g.C.Disk.facts c.args.cache.now) (g.B.Disk.facts c.args.backing.now);
      good = (refl, refl);
      one = c.in_ok-one.ensures;
      other = c.in_ok-other.ensures;
    }

pub row_apart-requires-clause-some : goal.row_apart-requires-clause-some
row_apart-requires-clause-some g c =
    (range_here c.args.s.now.index.keys c.key-row.ensures.order c.loop-i.i c.key-row.result (subst (λ n. c.loop-i.i < n) c.len-i-end.ensures.count c.loop-i-test.true) c.key-row.ensures.key).1

pub row_apart-requires-clause-extent : goal.row_apart-requires-clause-extent
row_apart-requires-clause-extent g c =
    (range_here c.args.s.now.index.keys c.key-row.ensures.order c.loop-i.i c.key-row.result (subst (λ n. c.loop-i.i < n) c.len-i-end.ensures.count c.loop-i-test.true) c.key-row.ensures.key).0

pub returns-in-Some-clause-found : goal.returns-in-Some-clause-found
returns-in-Some-clause-found g c =
    let s = c.args.s.now in
    let geometry = s.supers.geometry in
    let offset = s.supers.backing.data_offset in
    let rows = s.index.keys in
    let row = c.key-row.result in
    let sector = c.in-Some.sector in
    let cache = g.C.Disk.facts c.args.cache.now in
    let backing = g.B.Disk.facts c.args.backing.now in
    let told : OfHeld (λ p. TellsRow geometry s.gens p offset row (Some sector)) (g.C.Disk.facts c.loop-i.cache) (g.B.Disk.facts c.loop-i.backing) =
    subst (λ (o : Option ℕ). OfHeld (λ p. TellsRow geometry s.gens p offset row o) (g.C.Disk.facts c.loop-i.cache) (g.B.Disk.facts c.loop-i.backing)) c.in-Some.is c.in_ok-sector.ensures.found in
    held_two (λ p. NoneApart geometry s.gens p offset rows c.loop-i.i) (λ p. TellsRow geometry s.gens p offset row (Some sector)) (λ p. TellsRows geometry s.gens p offset rows (Some sector)) cache backing
    (λ p none tells. first_here geometry s.gens p offset rows c.loop-i.i sector row c.key-row.ensures.key none tells) c.loop-i.invariant.found
    (held_back (λ p. TellsRow geometry s.gens p offset row (Some sector)) cache (g.C.Disk.facts c.loop-i.cache) backing (g.B.Disk.facts c.loop-i.backing) c.loop-i.invariant.kept told)

pub loop-i-preserved : goal.loop-i-preserved
loop-i-preserved g c =
    let s = c.args.s.now in
    let geometry = s.supers.geometry in
    let offset = s.supers.backing.data_offset in
    let rows = s.index.keys in
    let row = c.key-row.result in
    let i = c.loop-i.i in
    let cache = g.C.Disk.facts c.args.cache.now in
    let backing = g.B.Disk.facts c.args.backing.now in
    let mid = g.C.Disk.facts c.loop-i.cache in
    let half = g.B.Disk.facts c.loop-i.backing in
    let so = c.loop-i.invariant in
    let now = c.in_ok-sector.ensures in
    let inside : i < length rows = subst (λ n. i < n) c.len-i-end.ensures.count c.loop-i-test.true in
    let told : OfHeld (λ p. TellsRow geometry s.gens p offset row None) mid half = subst (λ (o : Option ℕ). OfHeld (λ p. TellsRow geometry s.gens p offset row o) mid half) c.in_default.is now.found in
    record {
      found = held_two (λ p. NoneApart geometry s.gens p offset rows i) (λ p. TellsRow geometry s.gens p offset row None) (λ p. NoneApart geometry s.gens p offset rows (i + 1)) cache backing
          (λ p none tells. none_next geometry s.gens p offset rows i row inside c.key-row.ensures.key none tells) so.found
          (held_back (λ p. TellsRow geometry s.gens p offset row None) cache mid backing half so.kept told);
      kept = both_kept cache mid (g.C.Disk.facts c.row_apart.new.cache) backing half (g.B.Disk.facts c.row_apart.new.backing) so.kept now.kept;
      good = (now.good.0 ∙ so.good.0, now.good.1 ∙ so.good.1);
      one = buffer_kept c.loop-i.one.len _ c.row_apart.new.one c.loop-i.one.items c.loop-i.one.ok.0 (c.row_apart.auto.one ∙ ap (λ (xs : List ℕ). length xs) c.deref_mut.ensures.value) so.one;
      other = buffer_kept c.loop-i.other.len _ c.row_apart.new.other c.loop-i.other.items c.loop-i.other.ok.0 (c.row_apart.auto.other ∙ ap (λ (xs : List ℕ). length xs) c.deref_mut-in-loop-i.ensures.value) so.other;
    }

pub returns-clause-found : goal.returns-clause-found
returns-clause-found g c =
    let s = c.args.s.now in
    let geometry = s.supers.geometry in
    let offset = s.supers.backing.data_offset in
    let rows = s.index.keys in
    let all : length rows ≤ c.loop-i.i = subst (λ n. n ≤ c.loop-i.i) c.len-i-end.ensures.count c.loop-i-test.false in
    held_map (λ p. NoneApart geometry s.gens p offset rows c.loop-i.i) (λ p. TellsRows geometry s.gens p offset rows None) (g.C.Disk.facts c.args.cache.now) (g.B.Disk.facts c.args.backing.now)
    (λ p x y none. none_all geometry s.gens p offset rows c.loop-i.i all none) c.loop-i.invariant.found
