use Rattle.std.proofs.Common.{◌≡◌, ◌<◌, inl, inr, true, false, Some, subst, arith}
use Rattle.bc_key.specs.Key.{pointer_of}
use Rattle.bc_plain_pair.proofs.Sectors.{not_aged, aged_if_some}
use Rattle.bc_plain_pair.proofs.data.is_aged_key.Goals as goal

pub returns-then-age-gt-WINDOW : goal.returns-then-age-gt-WINDOW
returns-then-age-gt-WINDOW c =
    let at : pointer_of c.args.key.now ≡ Some c.in-Some.ptr = cc in
    (c.in-Some.ptr, at, inl (subst (λ n. 96 < n) c.age_of-age.ensures c.if-age-gt-WINDOW.true))

pub returns-then-not-key : goal.returns-then-not-key
returns-then-not-key c =
    let at : pointer_of c.args.key.now ≡ Some c.in-Some.ptr = cc in
    let most = c.if-age-gt-WINDOW.false in
    let age = c.age_of-age.ensures in
    let clean : c.args.key.now.dirty ≡ false = cc in
    not_aged c.args.g.now c.args.gens.now c.args.key.now c.in-Some.ptr at (λ aged. elim aged [ inl far ↦ absurd (omega (arith, far, most, age)) | inr some ↦ absurd (let d = some.0 in cc) ])

pub returns : goal.returns
returns c =
    let at : pointer_of c.args.key.now ≡ Some c.in-Some.ptr = cc in
    let most = c.if-age-gt-WINDOW.false in
    let dirty : c.args.key.now.dirty ≡ true = cc in
    aged_if_some c.args.g.now c.args.gens.now c.args.key.now c.in-Some.ptr c.age_of-age.result at c.age_of-age.ensures most dirty
