use Rattle.std.proofs.Common.{Option, ap, refl}
use Rattle.bc_model.specs.declared.history.Entry.{Entry}
use Rattle.bc_model.specs.declared.history.Entry.TheVariants as entry
use Rattle.bc_book.specs.Pass.{event_by, deed_at, fault_of_entry}
use Rattle.bc_book.proofs.Lists.{get_end}
use Rattle.bc_book.proofs.filed.filed_failed_write.Goals as goal

pub returns-in-Some : goal.returns-in-Some
returns-in-Some c =
    let at = c.args.places.entries in
    let tried = entry.Tried c.args.first c.args.values in
    rw c.in-Some.is (record {
      entry = refl;
      tells = λ ks more ends grows.
          ap (λ (o : Option Entry). event_by c.args.seat (deed_at (fault_of_entry c.in-Some.of) o))
          (grows.entries at tried (get_end ks.entries tried at ends.entries));
    })
