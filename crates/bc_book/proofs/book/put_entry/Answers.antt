use Rattle.std.proofs.Common.{List, [], ◌∷◌, ◌++◌, length, Option, Some, sym, ap, ◌∙◌}
use Rattle.bc_model.specs.declared.history.Entry.{Entry}
use Rattle.bc_book.specs.declared.pass.Record.TheVariants as records
use Rattle.bc_book.specs.declared.filed.Aside.TheVariants as aside
use Rattle.bc_book.specs.declared.filed.Filed.{Filed}
use Rattle.bc_book.specs.Pass.{kept_of, event_by, deed_at, deed_of_entry}
use Rattle.bc_book.proofs.Growing.{ends_of, ends_at}
use Rattle.bc_book.proofs.Lists.{get_end}
use Rattle.bc_book.proofs.book.put_entry.Goals as goal

pub returns-clause-filed : goal.returns-clause-filed
returns-clause-filed c =
    let p = c.args.pass.now in
    let at = ends_of p in
    let t : Filed =
    record { «record» = records.Entry c.args.seat at.entries; entry = Some c.args.entry; aside = aside.Nothing } in (
      at,
      t,
      ends_at p,
      record {
        entry = sym c.requires.entry;
        tells = λ ks more ends grows.
            ap (λ (o : Option Entry). event_by c.args.seat (deed_at deed_of_entry o))
            (grows.entries at.entries c.args.entry
            (get_end ks.entries c.args.entry at.entries ends.entries));
      },
      ap (λ (l : List Entry). record (kept_of p) { entries = l }) c.put.ensures.items,
      c.put-2.ensures.items
          ∙ ap (λ (l : List Entry). p.records.items ++ records.Entry c.args.seat (length l) ∷ [])
          c.as_slice-place.ensures.value,
    )
