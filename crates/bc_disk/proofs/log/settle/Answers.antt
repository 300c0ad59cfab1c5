use Rattle.std.proofs.Common.{◌≡◌, ℕ, ◌+◌, ◌*◌, ◌-◌, ◌∙◌, [], take, drop, get_or, refl, sym, ap, subst, arith}
use Rattle.std.proofs.lemmas.List.{drop_all}
use Rattle.bc_disk.specs.declared.log.Logged.{Logged}
use Rattle.bc_disk.specs.Bytes.{image_of, put}
use Rattle.bc_disk.specs.Log.{values_at}
use Rattle.bc_disk.proofs.Sectors.{same_image, length-image_of}
use Rattle.bc_disk.proofs.Steps.{settled_more}
use Rattle.bc_disk.proofs.log.settle.Goals as goal

none : Logged
none = record { sector = 0; value = [] }

pub loop-written-preserved : goal.loop-written-preserved
unfolding none
loop-written-preserved c =
    let i = c.loop-written.written-index in
    let log = c.args.log.now in
    let seen = c.args.seen.now in
    let at = (get_or log i none).sector in
    let fits = c.requires.within i none c.loop-written-test.true in
    let value : take (512 * at + 512 - 512 * at) (drop (512 * at) seen) ≡ image_of seen at = ap (λ n. take n (drop (512 * at) seen)) (let e : 512 * at + 512 - 512 * at ≡ 512 = omega arith in e) in
    let step = settled_more c.loop-written.stable seen (image_of seen at) log i none c.loop-written-test.true (length-image_of seen at fits) refl (omega arith) c.loop-written.invariant in
    subst (λ disk. (s : ℕ) → values_at s (drop (i + 1) log) ≡ [] → image_of disk s ≡ image_of seen s) (sym (c.put.ensures ∙ ap (λ v. put at v c.loop-written.stable) value)) step

pub returns : goal.returns
returns c =
    let end : drop c.loop-written.written-index c.args.log.now ≡ [] = drop_all c.loop-written.written-index c.args.log.now (omega arith) in
    same_image c.loop-written.stable c.args.seen.now (omega arith) (λ s. c.loop-written.invariant s (ap (values_at s) end))
