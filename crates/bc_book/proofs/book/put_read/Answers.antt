use Rattle.std.proofs.Common.{List, [], ◌∷◌, ◌++◌, length, Option, None, refl, ap, ◌∙◌}
use Rattle.bc_model.specs.Sector.{Value}
use Rattle.bc_events.specs.declared.event.Deed.TheVariants as deed
use Rattle.bc_book.specs.declared.pass.Record.TheVariants as records
use Rattle.bc_book.specs.declared.filed.Aside.TheVariants as aside
use Rattle.bc_book.specs.declared.filed.Filed.{Filed}
use Rattle.bc_book.specs.Pass.{kept_of, event_by, deed_at}
use Rattle.bc_book.proofs.Growing.{ends_of, ends_at}
use Rattle.bc_book.proofs.Lists.{get_end}
use Rattle.bc_book.proofs.book.put_read.Goals as goal

pub returns-clause-filed : goal.returns-clause-filed
returns-clause-filed c =
    let p = c.args.pass.now in
    let at = ends_of p in
    let t : Filed = record {
      «record» = records.BackingRead c.args.seat c.args.first at.beside;
      entry = None;
      aside = aside.Values c.args.values;
    } in (
      at,
      t,
      ends_at p,
      record {
        entry = refl;
        tells = λ ks more ends grows.
            ap (λ (o : Option (List Value)).
            event_by c.args.seat (deed_at (deed.BackingRead c.args.first) o))
            (grows.beside at.beside c.args.values
            (get_end ks.beside c.args.values at.beside ends.beside));
      },
      ap (λ (l : List (List Value)). record (kept_of p) { beside = l }) c.put.ensures.items,
      c.put-2.ensures.items
          ∙ ap (λ (l : List (List Value)).
          p.records.items ++ records.BackingRead c.args.seat c.args.first (length l) ∷ [])
          c.as_slice-place.ensures.value,
    )
