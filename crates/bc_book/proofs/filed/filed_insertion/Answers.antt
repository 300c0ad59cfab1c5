use Rattle.std.proofs.Common.{Option, ap, ◌∙◌, refl}
use Rattle.bc_model.specs.declared.history.Entry.{Entry}
use Rattle.bc_model.specs.declared.history.Entry.TheVariants as entry
use Rattle.bc_book.specs.declared.pass.Insertion.{Insertion}
use Rattle.bc_book.specs.Pass.{event_by, deed_at, insert_of, insert_of_entry}
use Rattle.bc_book.proofs.Lists.{get_end}
use Rattle.bc_book.proofs.filed.filed_insertion.Goals as goal

pub returns : goal.returns
returns c =
    let at = c.args.places in
    let of = c.args.of in
    let write = entry.Write of.worker of.line c.args.first c.args.values in
    let new : Insertion =
    record { leaf = c.args.leaf; keys = c.args.keys; entry = at.entries } in
    record {
      entry = refl;
      tells = λ ks more ends grows.
          ap (λ (o : Option Insertion). event_by c.args.seat (deed_at (insert_of more.entries) o))
          (grows.insertions at.insertions new
          (get_end ks.insertions new at.insertions ends.insertions))
          ∙ ap (λ (o : Option Entry). event_by c.args.seat (deed_at (insert_of_entry new) o))
          (grows.entries at.entries write
          (get_end ks.entries write at.entries ends.entries));
    }
