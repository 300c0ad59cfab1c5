use Rattle.std.proofs.Common.{◌≡◌, List, Ok, Err, refl, subst}
use Rattle.std.specs.Bool.{MatchBool}
use Rattle.std.specs.Prelude.{Any, IfErr, IfOk, Result}
use Rattle.bc_bucket.specs.declared.bucket.Bucket.{Bucket}
use Rattle.bc_bucket.specs.declared.bucket.Mark.TheVariants as marks
use Rattle.bc_sound_reads.specs.bc_cached_serve.Run.{HasRunOver}
use Rattle.bc_session_laws.specs.bc_loaded.declared.loading.Loaded.{Loaded}
use Rattle.bc_session_laws.specs.bc_open.Left.{LeavesThePair}
use Rattle.bc_session_laws.proofs.of_bc_open.Exits.{kept_self}
use Rattle.bc_session_laws.proofs.of_bc_open.Left.{kept_leaves}
use Rattle.bc_recover.specs.Read.{IsReadOf}
use Rattle.bc_session_laws.proofs.of_bc_session.Stops.{held_on, left_back, load_stop, stands_kept}
use Rattle.bc_top.specs.Cached.{HasRunFrom}
use Rattle.bc_top.specs.Idle.{left_with}
use Rattle.bc_top.proofs.cached.run_cached.Goals as goal

-- ---- the parts weren't read

pub returns-in-Err-clause-cause : goal.returns-in-Err-clause-cause
returns-in-Err-clause-cause g c = load_stop g.C.Disk.facts g.B.Disk.facts c.args.survey.now
    c.args.superblock.now c.args.cache c.load.new.cache c.args.backing c.in-Err.ensures.kept
    (left_with c.in-Err.why c.load.new.cache c.args.backing) Loaded c.in-Err.why refl refl
    c.in-Err.ensures.refused c.in-Err.ensures.faults

pub returns-in-Err-clause-left : goal.returns-in-Err-clause-left
returns-in-Err-clause-left g c = let d = g.B.Disk.facts c.args.backing in
    kept_leaves (g.C.Disk.facts c.args.cache) (g.C.Disk.facts c.load.new.cache) d d
    c.in-Err.ensures.kept (kept_self d)

-- ---- they were

pub run_lines-requires-clause-read : goal.run_lines-requires-clause-read
run_lines-requires-clause-read g c = held_on (g.C.Disk.facts c.args.cache)
    (g.C.Disk.facts c.load.new.cache) c.in-Ok.ensures.kept (g.B.Disk.facts c.args.backing)
    (IsReadOf c.args.survey.now) c.requires.read

pub run_lines-requires-clause-still : goal.run_lines-requires-clause-still
run_lines-requires-clause-still g c = stands_kept (g.C.Disk.facts c.args.cache)
    (g.C.Disk.facts c.load.new.cache) c.in-Ok.ensures.kept c.requires.still.0

on_ok : {A E : Type 0} (r : Result A E) (P Q : A → Type 0) → ((x : A) → P x → Q x) → IfOk r P
    → IfOk r Q
on_ok (Ok x) P Q f h = f x h
on_ok (Err e) P Q f h = tt

on_err : {A E : Type 0} (r : Result A E) (P Q : E → Type 0) → ((e : E) → P e → Q e) → IfErr r P
    → IfErr r Q
on_err (Ok x) P Q f h = tt
on_err (Err e) P Q f h = f e h

pub returns-clause-run : goal.returns-clause-run
returns-clause-run g c = on_ok c.run_lines.result
    (HasRunOver g.C.Disk.facts g.B.Disk.facts c.args.survey.now c.args.superblock.now
    c.has_dirty-dirty.result c.load.new.cache c.args.backing c.in-Ok.loaded c.args.lines.now)
    (HasRunFrom g.C.Disk.facts g.B.Disk.facts c.args.superblock.now c.args.survey.now c.args.cache
    c.args.backing c.args.lines.now)
    (λ o over. record {
      read = c.load.new.cache;
      kept = c.in-Ok.ensures.kept;
      quiet = c.in-Ok.ensures.faults;
      loaded = c.in-Ok.loaded;
      dirty = c.has_dirty-dirty.result;
      tells = subst (λ (xs : List Bucket). MatchBool c.has_dirty-dirty.result
          (Any (λ b. b.mark ≡ marks.Dirty) xs) (¬ (Any (λ b. b.mark ≡ marks.Dirty) xs)))
          c.records.ensures c.has_dirty-dirty.ensures;
      over = over;
    }) c.run_lines.ensures.run

pub returns-clause-left : goal.returns-clause-left
returns-clause-left g c = on_err c.run_lines.result
    (λ n. LeavesThePair (g.C.Disk.facts c.load.new.cache) (g.C.Disk.facts n.cache)
    (g.B.Disk.facts c.args.backing) (g.B.Disk.facts n.backing))
    (λ n. LeavesThePair (g.C.Disk.facts c.args.cache) (g.C.Disk.facts n.cache)
    (g.B.Disk.facts c.args.backing) (g.B.Disk.facts n.backing))
    (λ n. left_back (g.C.Disk.facts c.args.cache) (g.C.Disk.facts c.load.new.cache)
    c.in-Ok.ensures.kept (g.C.Disk.facts n.cache) (g.B.Disk.facts c.args.backing)
    (g.B.Disk.facts n.backing)) c.run_lines.ensures.left
