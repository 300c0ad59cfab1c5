use Rattle.std.proofs.Common.{◌≡◌, ◌/◌, true, Some, sym, ap}
use Rattle.bc_image.specs.Shown.{is_live}
use Rattle.bc_key.specs.Key.{pointer_of}
use Rattle.bc_check.proofs.rows.bucket_of.Goals as goal

pub returns-in-Some : goal.returns-in-Some
returns-in-Some c =
    let live : is_live c.args.g.now c.args.gens.now c.args.row.now ≡ true = cc in
    let at : pointer_of c.args.row.now ≡ Some c.in-Some.ptr = cc in
    (live, (c.in-Some.ptr, at, ap (λ n. c.in-Some.ptr.offset / n) (sym c.from.ensures)))
