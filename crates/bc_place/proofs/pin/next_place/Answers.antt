use Rattle.std.proofs.Common.{◌<◌, List, get_or, length, sym, subst, arith}
use Rattle.bc_fill.proofs.Opens.{small_offset}
use Rattle.bc_fill.specs.declared.fill.Open.{Open}
use Rattle.bc_place.proofs.Fitting.{first_known, first_room}
use Rattle.bc_place.proofs.pin.next_place.Goals as goal

pub get-requires : goal.get-requires
get-requires c = subst (λ (fs : List Open). (get_or fs 0 (record { bucket = 0; next = 0 })).bucket
    < length c.args.part.now.buckets.records) (sym c.open.ensures.value)
    (first_known c.args.part.now (record { bucket = 0; next = 0 }) c.requires.open)

pub invariant_of-ptr-clause-offset_fits : goal.invariant_of-ptr-clause-offset_fits
invariant_of-ptr-clause-offset_fits c =
    let low = subst (λ (fs : List Open). (get_or fs 0 (record { bucket = 0; next = 0 })).bucket
    < length c.args.part.now.buckets.records) (sym c.open.ensures.value)
    (first_known c.args.part.now (record { bucket = 0; next = 0 }) c.requires.open) in
    let room = subst (λ (fs : List Open). (get_or fs 0 (record { bucket = 0; next = 0 })).next
    < c.args.part.now.buckets.size) (sym c.open.ensures.value)
    (first_room c.args.part.now (record { bucket = 0; next = 0 }) c.requires.open) in
    let few = c.bucket_sectors-size.ensures.few in
    let small = c.bucket_sectors-size.ensures.small in
    let size = c.bucket_sectors-size.ensures.size in
    let place = c.from-2.ensures in
    let whole = c.from-3.ensures in
    let begins = c.from-4.ensures in
    let bound = small_offset c.from-2.result c.from-3.result (omega arith) (omega arith) in
    omega arith
