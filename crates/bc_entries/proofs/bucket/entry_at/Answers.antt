use Rattle.std.proofs.Common.{◌≡◌, ◌≤◌, List, ℕ, length, subst, sym, ap, ◌∙◌, arith}
use Rattle.bc_record.specs.Sectors.{in_blocks}
use Rattle.bc_jset.specs.declared.entry.JEntry.{JEntry}
use Rattle.bc_jset.specs.EntryBytes.{IsEntry, bytes_of}
use Rattle.bc_jset.proofs.EntryLaws.{one_entry, entry_fits}
use Rattle.bc_entries.proofs.There.{part_at, length-part_at, part_here}
use Rattle.bc_entries.proofs.bucket.entry_at.Goals as goal

pub in_blocks-sectors-requires-clause-bytes : goal.in_blocks-sectors-requires-clause-bytes
in_blocks-sectors-requires-clause-bytes c =
    let g = c.args.g.now in
    let bytes = c.args.bytes.now in
    let fits : bytes_of c.in-Ok.entry ≤ length (part_at bytes c.args.place) = entry_fits g.set_magic (part_at bytes c.args.place) c.in-Ok.entry c.in-Ok.ensures.found.0 in
    let few = g.bucket_to in
    omega (arith, fits, length-part_at bytes c.args.place, c.requires.whole, few, c.in-Ok.ensures.found.1)

pub returns-in-Ok : goal.returns-in-Ok
returns-in-Ok c =
    let g = c.args.g.now in
    let bytes = c.args.bytes.now in (
      subst (λ (bs : List ℕ). IsEntry g.set_magic bs c.in-Ok.entry) (sym (part_here g.bucket bytes c.args.place c.requires.whole c.requires.within)) c.in-Ok.ensures.found.0,
      c.in_blocks-sectors.ensures ∙ ap (λ n. in_blocks g.block n) c.in-Ok.ensures.found.1,
    )

pub returns-in_ok-refused-in-Err : goal.returns-in_ok-refused-in-Err
returns-in_ok-refused-in-Err c = λ s is.
    let g = c.args.g.now in
    let bytes = c.args.bytes.now in
    let here = subst (λ (bs : List ℕ). IsEntry g.set_magic bs s) (part_here g.bucket bytes c.args.place c.requires.whole c.requires.within) is in
    c.in_ok-refused-in-Err.ensures (c.in-Err.ensures.only s here)
