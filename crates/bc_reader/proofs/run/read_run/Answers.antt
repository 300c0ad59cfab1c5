use Rattle.std.proofs.Common.{◌≡◌, ◌+◌, ◌/◌, ◌≤◌, [], ◌∷◌, inl, inr, length, Some, refl, sym, ap, ◌∙◌, subst, arith}
use Rattle.bc_fetch.proofs.of_bc_deed.Sequence.{done_one, done_then}
use Rattle.bc_fetch.specs.bc_deed.Asked.{size_of}
use Rattle.bc_fetch.proofs.of_bc_hand.Knowing.{map_ok}
use Rattle.bc_fetch.proofs.of_bc_deed.May.{map_if_err}
use Rattle.bc_model.proofs.Sectors.{length_values_of}
use Rattle.bc_model.specs.Sector.{values_of}
use Rattle.bc_reads.proofs.Still.{law_points}
use Rattle.bc_reads.specs.declared.source.ReadFrom.TheVariants.{Cache}
use Rattle.bc_reads.specs.bc_sight.Sight.{PointsTo}
use Rattle.bc_reader.specs.Deeds.{cache_fault}
use Rattle.bc_reader.proofs.Running.{backing_ok, backing_stop, cache_ok, cache_stop, did_none, is_failed, long_of, run_backing, run_cache, run_clean, values_failed}
use Rattle.bc_reader.proofs.run.read_run.Goals as goal
use Rattle.bc_reader.proofs.run.read_run.Goals.{then-dirty-via-then-dirty, then-dirty-via-else-dirty+then-not-is_fault}

pub backing_read-requires-clause-sectors : goal.backing_read-requires-clause-sectors
backing_read-requires-clause-sectors g c =
    let long = c.requires.length in
    let some = c.requires.some in
    let piece = c.requires.piece in
    let end = c.requires.backing in
    let few = c.requires.few in
    (omega arith, omega arith, omega arith, omega arith)

pub cache_read-requires-clause-sectors : goal.cache_read-requires-clause-sectors
cache_read-requires-clause-sectors g c =
    let long = c.requires.length in
    let some = c.requires.some in
    let piece = c.requires.piece in
    let end = c.requires.cache c.in-Cache.at c.in-Cache.dirty c.in-Cache.is in
    (omega arith, omega arith, omega arith, omega arith)

pub cache_read-requires-clause-looked : goal.cache_read-requires-clause-looked
cache_read-requires-clause-looked g c = let seen = c.requires.seen in (
  seen.leaf,
  λ o is course. (seen.knows o is course).look,
  subst (λ n. PointsTo seen.leaf c.args.run.now.first n c.in-Cache.at)
      (sym (long_of (length c.args.into.now) c.args.run.now.count c.requires.length))
      (law_points seen.leaf seen.buckets c.args.run.now c.in-Cache.at c.in-Cache.dirty c.in-Cache.is
      seen.is),
)

pub returns-in-Ok-clause-ok : goal.returns-in-Ok-clause-ok
returns-in-Ok-clause-ok g c = cache_ok g.C.Disk.facts g.B.Disk.facts c.args.run.now c.in-Cache.at
    c.in-Cache.dirty (values_of c.cache_read.new.into) c.args.seat.now c.cache_read.new.seat
    c.in-Cache.is c.in-Ok.ensures.ok

pub returns-in-Ok-clause-knows : goal.returns-in-Ok-clause-knows
returns-in-Ok-clause-knows g c = λ leaf b first values h is behind.
    run_cache g.C.Disk.facts g.B.Disk.facts leaf b first values c.args.run.now
    (values_of c.cache_read.new.into)
    (length_values_of c.cache_read.new.into ∙ ap (λ n. n / 512) c.cache_read.auto.into
    ∙ long_of (length c.args.into.now) c.args.run.now.count c.requires.length)
    c.args.seat.now c.cache_read.new.seat c.requires.works.seat h is behind c.in-Cache.at
    c.in-Cache.dirty c.in-Cache.is c.in-Ok.ensures.ok

pub returns-then-dirty-clause-err : goal.returns-then-dirty-clause-err
returns-then-dirty-clause-err g c = cache_stop g.C.Disk.facts g.B.Disk.facts c.args.run.now
    c.args.seat.now c.cache_read.new.seat c.in-Err.error
    (λ d is. elim c.then-dirty.branch [
      | then-dirty-via-then-dirty w ↦ (
        c.in-Cache.at,
        subst (λ b. c.args.run.now.from ≡ Cache c.in-Cache.at b) w.if-dirty.true c.in-Cache.is,
      )
      | then-dirty-via-else-dirty+then-not-is_fault w ↦ absurd (w.if-not-is_fault.ensures d is)
    ]) c.in-Err.ensures.err

pub backing_read-requires-in-Cache-clause-sectors :
    goal.backing_read-requires-in-Cache-clause-sectors
backing_read-requires-in-Cache-clause-sectors g c =
    let long = c.requires.length in
    let some = c.requires.some in
    let piece = c.requires.piece in
    let end = c.requires.backing in
    let same = c.cache_read.auto.into in
    let fits : c.args.run.now.first + length c.cache_read.new.into / 512
    ≤ size_of g.C.Disk.facts g.B.Disk.facts c.args.seat.now.run.start = omega arith in (
      omega arith,
      omega arith,
      omega arith,
      subst (λ r. c.args.run.now.first + length c.cache_read.new.into / 512
          ≤ size_of g.C.Disk.facts g.B.Disk.facts r.start)
          (c.requires.works.run ∙ sym c.cache_read.ensures.works.run) fits,
    )

pub returns-in-Backing-clause-ok : goal.returns-in-Backing-clause-ok
returns-in-Backing-clause-ok g c = map_ok c.backing_read.result (λ did.
    backing_ok g.C.Disk.facts g.B.Disk.facts c.args.run.now (values_of c.backing_read.new.into)
    c.args.seat.now c.backing_read.new.seat c.in-Backing.is did) c.backing_read.ensures.ok

pub returns-in-Backing-clause-knows : goal.returns-in-Backing-clause-knows
returns-in-Backing-clause-knows g c = map_ok c.backing_read.result
    (λ did leaf b first values h is behind.
    run_backing g.C.Disk.facts g.B.Disk.facts leaf b first values c.args.run.now
    (values_of c.backing_read.new.into)
    (length_values_of c.backing_read.new.into ∙ ap (λ n. n / 512) c.backing_read.auto.into
    ∙ long_of (length c.args.into.now) c.args.run.now.count c.requires.length)
    c.args.seat.now c.backing_read.new.seat c.requires.works.seat h is behind c.in-Backing.is did)
    c.backing_read.ensures.ok

pub returns-in-Backing-clause-err : goal.returns-in-Backing-clause-err
returns-in-Backing-clause-err g c = map_if_err c.backing_read.result (λ e why.
    backing_stop g.C.Disk.facts g.B.Disk.facts c.args.run.now [] c.args.seat.now c.args.seat.now
    c.backing_read.new.seat (did_none g.C.Disk.facts g.B.Disk.facts c.args.seat.now c.requires.works.seat)
    (inl (c.in-Backing.is, refl)) e why) c.backing_read.ensures.err

pub returns-else-not-is_fault-clause-ok : goal.returns-else-not-is_fault-clause-ok
returns-else-not-is_fault-clause-ok g c = map_ok c.backing_read-in-Cache.result (λ did. (
  _,
  inr (
    cache_fault ∷ [],
    inr (
      (
        c.in-Cache.at,
        subst (λ b. c.args.run.now.from ≡ Cache c.in-Cache.at b)
            c.if-dirty.false c.in-Cache.is,
      ),
      refl,
    ),
    refl,
  ),
  done_then g.C.Disk.facts g.B.Disk.facts (cache_fault ∷ []) (Some _) c.args.seat.now
      c.cache_read.new.seat c.backing_read-in-Cache.new.seat
      (done_one g.C.Disk.facts g.B.Disk.facts (Some cache_fault) c.args.seat.now
      c.cache_read.new.seat
      (is_failed g.C.Disk.facts g.B.Disk.facts c.in-Err.error c.if-not-is_fault.ensures.0
      c.args.seat.now c.cache_read.new.seat c.if-not-is_fault.ensures.1 c.in-Err.ensures.err))
      did,
)) c.backing_read-in-Cache.ensures.ok

pub returns-else-not-is_fault-clause-knows : goal.returns-else-not-is_fault-clause-knows
returns-else-not-is_fault-clause-knows g c = map_ok c.backing_read-in-Cache.result
    (λ did leaf b first values h is behind.
    run_clean g.C.Disk.facts g.B.Disk.facts leaf b first values c.args.run.now
    (values_of c.backing_read-in-Cache.new.into)
    (length_values_of c.backing_read-in-Cache.new.into
    ∙ ap (λ n. n / 512) (c.backing_read-in-Cache.auto.into ∙ c.cache_read.auto.into)
    ∙ long_of (length c.args.into.now) c.args.run.now.count c.requires.length)
    c.cache_read.new.seat c.backing_read-in-Cache.new.seat c.cache_read.ensures.works.seat
    (values_failed g.C.Disk.facts g.B.Disk.facts leaf b first values c.args.seat.now
    c.cache_read.new.seat c.requires.works.seat
    (is_failed g.C.Disk.facts g.B.Disk.facts c.in-Err.error c.if-not-is_fault.ensures.0
    c.args.seat.now c.cache_read.new.seat c.if-not-is_fault.ensures.1 c.in-Err.ensures.err) h)
    is behind c.in-Cache.at
    (subst (λ b. c.args.run.now.from ≡ Cache c.in-Cache.at b) c.if-dirty.false c.in-Cache.is) did)
    c.backing_read-in-Cache.ensures.ok

pub returns-else-not-is_fault-clause-err : goal.returns-else-not-is_fault-clause-err
returns-else-not-is_fault-clause-err g c = map_if_err c.backing_read-in-Cache.result (λ e why.
    backing_stop g.C.Disk.facts g.B.Disk.facts c.args.run.now (cache_fault ∷ []) c.args.seat.now
    c.cache_read.new.seat c.backing_read-in-Cache.new.seat
    (done_one g.C.Disk.facts g.B.Disk.facts (Some cache_fault) c.args.seat.now
    c.cache_read.new.seat
    (is_failed g.C.Disk.facts g.B.Disk.facts c.in-Err.error c.if-not-is_fault.ensures.0
    c.args.seat.now c.cache_read.new.seat c.if-not-is_fault.ensures.1 c.in-Err.ensures.err))
    (inr (
      (
        c.in-Cache.at,
        subst (λ b. c.args.run.now.from ≡ Cache c.in-Cache.at b)
            c.if-dirty.false c.in-Cache.is,
      ),
      refl,
    )) e why) c.backing_read-in-Cache.ensures.err
