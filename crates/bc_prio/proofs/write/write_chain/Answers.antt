use Rattle.std.proofs.Common.{◌*◌, slice_index, refl, ◌∙◌, arith}
use Rattle.bc_prio.specs.Writes.{good}
use Rattle.bc_disk.proofs.Amounts.{sets_few}
use Rattle.bc_prio.proofs.Writings.{write_good, write_failed, write_none, chain_there, on_disk, sector_of, counted_failed}
use Rattle.bc_prio.proofs.write.write_chain.Goals as goal

pub overflow_cast-part : goal.overflow_cast-part
overflow_cast-part g c = omega (arith, sets_few c.args.g.now, c.requires.count)

pub write-requires : goal.write-requires
write-requires g c =
    let g' = c.args.g.now in
    let place = c.requires.places c.loop-part.part 0 (omega arith) in
    let low = g'.bucket_from in
    record {
      on_disk = (
        g'.bucket,
        omega arith,
        c.encode_set.ensures.whole,
        on_disk g' c.from.result c.from-in-loop-part.result (slice_index c.args.into.now c.loop-part.part) (g.D.Disk.facts c.loop-part.disk).sectors c.from.ensures c.from-in-loop-part.ensures place.1
            (omega (arith, c.requires.room, c.loop-part.invariant.size)),
      );
    }

pub returns-in_err-write-clause-written : goal.returns-in_err-write-clause-written
returns-in_err-write-clause-written g c =
    let g' = c.args.g.now in
    let bucket = slice_index c.args.into.now c.loop-part.part in
    c.loop-part.invariant.goes_on c.from_residual.result c.write.new.self
    (write_failed g.D.Disk.facts g' c.args.gens.now.records c.from_residual.result c.loop-part.part c.args.into.now bucket c.bucket_behind-next.result (c.from.result * c.from-in-loop-part.result) c.encode_set.new.buffer
    c.loop-part.disk c.write.new.self (omega arith) refl c.bucket_behind-next.ensures (sector_of g' c.from.result c.from-in-loop-part.result bucket c.from.ensures c.from-in-loop-part.ensures)
    c.encode_set.ensures c.from_residual.ensures.0 c.in_err-write.ensures.failed
    (counted_failed c.from_residual.result (g.D.Disk.facts c.loop-part.disk) (g.D.Disk.facts c.write.new.self) c.from_residual.ensures.0 c.in_err-write.ensures.counted))

pub loop-part-preserved : goal.loop-part-preserved
loop-part-preserved g c = record {
  goes_on = λ answer end rest.
      let g' = c.args.g.now in
      let bucket = slice_index c.args.into.now c.loop-part.part in
      c.loop-part.invariant.goes_on answer end
      (write_good g.D.Disk.facts g' c.args.gens.now.records answer c.loop-part.part c.args.into.now bucket c.bucket_behind-next.result (c.from.result * c.from-in-loop-part.result) c.encode_set.new.buffer
      c.loop-part.disk c.write.new.self end (omega arith) refl c.bucket_behind-next.ensures (sector_of g' c.from.result c.from-in-loop-part.result bucket c.from.ensures c.from-in-loop-part.ensures)
      c.encode_set.ensures c.in_ok-write.ensures.ok c.in_ok-write.ensures.counted rest);
  size = c.in_ok-write.ensures.ok.sectors ∙ c.loop-part.invariant.size;
}

pub returns-clause-chain : goal.returns-clause-chain
returns-clause-chain g c =
    let writes = c.loop-part.invariant.goes_on good c.loop-part.disk (write_none g.D.Disk.facts c.args.g.now c.args.gens.now.records c.loop-part.part c.args.into.now c.loop-part.disk (omega arith)) in
    chain_there g.D.Disk.facts c.args.g.now c.args.gens.now.records c.args.into.now c.args.disk.now c.loop-part.disk writes c.requires.count c.requires.records c.requires.places c.requires.distinct
