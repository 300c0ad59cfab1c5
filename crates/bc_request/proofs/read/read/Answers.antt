use Rattle.std.proofs.Common.{◌≡◌, ℕ, ◌+◌, ◌++◌, take, drop, length-append, ◌*◌, ◌/◌, List, length, ap, sym, ◌∙◌, arith}
use Rattle.std.proofs.lemmas.Bool.{ltb-false}
use Rattle.std.proofs.lemmas.List.{length-take, length-drop}
use Rattle.bc_model.proofs.Sectors.{length_values_of}
use Rattle.bc_model.specs.Sector.{Value}
use Rattle.bc_request.proofs.Lines.{no_bytes}
use Rattle.bc_request.proofs.read.read.Goals as goal

pub returns-in_default-clause-err : goal.returns-in_default-clause-err
returns-in_default-clause-err g c = no_bytes g.C.Disk.facts g.B.Disk.facts c.args.parts.now
    c.args.job.now c.args.seat.now c.requires.idle.works.seat
    (ltb-false c.args.job.now.size (c.args.job.now.first + c.args.job.now.count)
    (sym c.is_outside.ensures ∙ c.if-is_outside.false)) c.requires.range.some

count_of : (len : ℕ) (new old : List ℕ) (n : ℕ) → len ≡ 512 * n → length new ≡ 512 * n
    → length old ≡ 512 * n → length (take len (new ++ drop (length new) old)) / 512 ≡ n
count_of len new old n a b d = omega (
  arith,
  length-take len (new ++ drop (length new) old),
  length-append new (drop (length new) old),
  length-drop (length new) old,
)

pub returns-in-Ok-read_pieces-clause-count : goal.returns-in-Ok-read_pieces-clause-count
returns-in-Ok-read_pieces-clause-count g c =
    ap (λ (vs : List Value). length vs) c.from_sectors.ensures ∙ length_values_of _
    ∙ count_of c.in-Ok.bytes.len c.read_pieces.new.bytes c.in-Ok.bytes.items c.args.job.now.count
    (omega (arith, c.in-Ok.ensures.len, c.in-Ok.bytes.ok))
    (omega (
      arith,
      c.read_pieces.auto.bytes,
      ap (λ (bs : List ℕ). length bs) c.deref_mut.ensures.value,
      c.in-Ok.ensures.len,
    )) (omega (arith, c.in-Ok.ensures.len))
