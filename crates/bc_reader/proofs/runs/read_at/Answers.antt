use Rattle.std.proofs.Common.{◌≡◌, ◌+◌, ◌*◌, ◌-◌, length, ◌∙◌, arith}
use Rattle.std.proofs.lemmas.Slice.{take-put_mid}
use Rattle.bc_model.specs.Sector.{values_of}
use Rattle.bc_model.proofs.Sectors.{length_values_of, sectors_next}
use Rattle.bc_reader.proofs.Running.{long_of}
use Rattle.bc_reader.proofs.runs.read_at.Goals as goal

pub returns-in-Ok-clause-ok : goal.returns-in-Ok-clause-ok
returns-in-Ok-clause-ok g c =
    let into = c.read_run.new.into in
    let long : length into ≡ 512 * c.args.run.now.count = omega (arith, c.read_run.auto.into) in
    let end : 512 * (c.args.place + c.args.run.now.count) ≡ 512 * c.args.place + length into = omega arith in
    record {
      own = values_of into;
      long = length_values_of into ∙ long_of (length into) c.args.run.now.count long;
      bytes = sectors_next c.args.place c.args.run.now.count c.args.bytes.now into _ (omega arith) long
          (take-put_mid (512 * c.args.place) (512 * c.args.place + 512 * c.args.run.now.count - 512 * c.args.place) c.args.bytes.now into (512 * (c.args.place + c.args.run.now.count)) end (omega arith));
      did = c.in-Ok.ensures.ok;
      knows = c.in-Ok.ensures.knows;
    }
