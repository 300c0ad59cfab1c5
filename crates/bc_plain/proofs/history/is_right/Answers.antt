use Rattle.std.proofs.Common.{◌≡◌, ◌+◌, ℕ, List, reverse, sym, subst, arith, IsTrue}
use Rattle.std.specs.Prelude.{◌↔◌}
use Rattle.std.proofs.lemmas.List.{take_all}
use Rattle.bc_model.specs.Sector.{Value, Gives}
use Rattle.bc_model.specs.History.{now, IsRight}
use Rattle.bc_model.specs.declared.history.Entry.{Entry}
use Rattle.bc_disk.specs.Bytes.{image_of}
use Rattle.bc_plain.proofs.Images.{gives_more}
use Rattle.bc_plain.proofs.Told.{both}
use Rattle.bc_plain.proofs.history.is_right.Goals as goal

pub loop-i-preserved : goal.loop-i-preserved
loop-i-preserved c =
    let P : ℕ → Value → Type 0 = λ s v. v ≡ now (image_of c.args.opening.now) (reverse c.args.before.now) s in
    let number : c.from.result + c.from-in-loop-i.result ≡ c.in-Read.first + c.loop-i.i = omega arith in
    both c.loop-i.right c.is_now-right.result c.loop-i.invariant (subst (λ n. IsTrue c.is_now-right.result ↔ P n c.get.result) number c.is_now-right.ensures) (gives_more P c.in-Read.first c.in-Read.values c.loop-i.i c.get.result c.get.ensures)

pub returns : goal.returns
returns c =
    let P : ℕ → Value → Type 0 = λ s v. v ≡ now (image_of c.args.opening.now) (reverse c.args.before.now) s in
    let whole = take_all c.loop-i.i c.in-Read.values (omega arith) in
    subst (λ (e : Entry). IsTrue c.loop-i.right ↔ IsRight e (now (image_of c.args.opening.now) (reverse c.args.before.now))) (sym c.in-Read.is)
    (subst (λ (vs : List Value). IsTrue c.loop-i.right ↔ Gives c.in-Read.first vs P) whole c.loop-i.invariant)
