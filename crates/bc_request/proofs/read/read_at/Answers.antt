use Rattle.std.proofs.Common.{◌≡◌, ℕ, ◌+◌, ◌*◌, ◌-◌, ◌/◌, length, ◌∙◌, arith}
use Rattle.std.proofs.lemmas.Slice.{take-put_mid}
use Rattle.bc_model.specs.Sector.{values_of}
use Rattle.bc_model.proofs.Sectors.{length_values_of, sectors_next}
use Rattle.bc_request.proofs.read.read_at.Goals as goal

pub returns-in-Ok-clause-ok : goal.returns-in-Ok-clause-ok
returns-in-Ok-clause-ok g c =
    let into = c.read_piece.new.into in
    let long : length into ≡ 512 * c.args.piece.count = omega (arith, c.read_piece.auto.into) in
    let end : 512 * (c.args.place + c.args.piece.count) ≡ 512 * c.args.place + length into =
    omega arith in (
      values_of into,
      length_values_of into ∙ count_of (length into) c.args.piece.count long,
      sectors_next c.args.place c.args.piece.count c.args.bytes.now into _ (omega arith) long
          (take-put_mid (512 * c.args.place)
          (512 * c.args.place + 512 * c.args.piece.count - 512 * c.args.place) c.args.bytes.now into
          (512 * (c.args.place + c.args.piece.count)) end (omega arith)),
      c.in-Ok.ensures.ok,
    )
  where
    count_of : (n m : ℕ) → n ≡ 512 * m → n / 512 ≡ m
    count_of n m e = omega arith

pub returns-in-Err-clause-err : goal.returns-in-Err-clause-err
returns-in-Err-clause-err g c = record {
  cause = c.in-Err.error;
  is = c.refusal.ensures;
  stop = c.in-Err.ensures.err;
}
