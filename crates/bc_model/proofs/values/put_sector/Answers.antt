use Rattle.std.proofs.Common.{◌≡◌, ℕ, ◌+◌, ◌*◌, ◌-◌, List, ◌++◌, take, length, ap, ◌∙◌, arith}
use Rattle.std.proofs.lemmas.Slice.{take-put_mid}
use Rattle.bc_model.proofs.Sectors.{sectors_put}
use Rattle.bc_model.proofs.values.put_sector.Goals as goal

pub returns : goal.returns
returns c =
    let same = c.copy_from_slice.ensures.after in
    let n : 512 * c.args.place + 512 ≡ 512 * c.args.place + length c.copy_from_slice.new.self = omega (arith, ap (λ (v : List ℕ). length v) same) in
    sectors_put c.args.place c.args.into.now _ c.args.value.now c.told-value (omega arith)
    (take-put_mid (512 * c.args.place) (512 * c.args.place + 512 - 512 * c.args.place) c.args.into.now c.copy_from_slice.new.self (512 * c.args.place + 512) n (omega arith)
    ∙ ap (λ (v : List ℕ). take (512 * c.args.place) c.args.into.now ++ v) same)
