use Rattle.std.proofs.Common.{ℕ, ◌*◌, List, slice_range, subst, sym, ap, ◌∙◌, refl, arith}
use Rattle.bc_record.specs.Sectors.{in_blocks}
use Rattle.bc_jset.specs.EntryBytes.{IsEntry}
use Rattle.bc_jset.proofs.EntryLaws.{end_is}
use Rattle.bc_plain.proofs.Listed.{part_is}
use Rattle.bc_plain.proofs.journal.entry_at.Goals as goal

pub sectors_of-sectors-requires-clause-bytes : goal.sectors_of-sectors-requires-clause-bytes
sectors_of-sectors-requires-clause-bytes c =
    let is = c.in-Ok.ensures.found in
    let part = slice_range c.args.image.now (512 * c.args.place) (512 * c.args.end) in
    omega (arith, is.1, end_is part c.in-Ok.entry is.0.keys, is.0.whole.few)

pub returns-in-Ok : goal.returns-in-Ok
returns-in-Ok c =
    let image = c.args.image.now in
    let f = c.in-Ok.ensures.found in
    let same = part_is image (slice_range image (512 * c.args.place) (512 * c.args.end)) c.args.end c.args.place c.requires.order c.requires.within refl in (
      subst (λ (bs : List ℕ). IsEntry c.args.g.now.set_magic bs c.in-Ok.entry) (sym same) f.0,
      c.sectors_of-sectors.ensures ∙ ap (in_blocks c.args.g.now.block) f.1,
    )

pub returns-in_ok-refused-in-Err : goal.returns-in_ok-refused-in-Err
returns-in_ok-refused-in-Err c = λ e found.
    let image = c.args.image.now in
    let same = part_is image (slice_range image (512 * c.args.place) (512 * c.args.end)) c.args.end c.args.place c.requires.order c.requires.within refl in
    c.in_ok-refused-in-Err.ensures (c.in-Err.ensures.only e (subst (λ (bs : List ℕ). IsEntry c.args.g.now.set_magic bs e) same found))
