use Rattle.std.proofs.Common.{◌≡◌, ℕ, ◌+◌, ◌*◌, ◌-◌, List, ◌++◌, take, drop, sym, ap, ◌∙◌, arith}
use Rattle.std.proofs.Math.Seq.{take-add}
use Rattle.bc_model.proofs.Sectors.{sectors_put}
use Rattle.bc_model.proofs.sector.sector_at.Goals as goal

pub returns : goal.returns
returns c =
    let n : (512 * c.args.place + 512) - 512 * c.args.place ≡ 512 = omega arith in
    let value = c.copy_from_slice.ensures.after ∙ ap (λ k. take k (drop (512 * c.args.place) c.args.bytes.now)) n in
    sectors_put c.args.place c.args.bytes.now c.args.bytes.now _ (c.copy_from_slice.auto.self) (omega arith)
    (take-add (512 * c.args.place) 512 c.args.bytes.now ∙ ap (λ (v : List ℕ). take (512 * c.args.place) c.args.bytes.now ++ v) (sym value))
