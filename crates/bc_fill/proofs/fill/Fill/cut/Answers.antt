use Rattle.std.proofs.Common.{◌<◌, ◌*◌, ◌+◌, ◌^◌, List, get_or, length, ◌∙◌, sym, subst, arith, rules}
use Rattle.bc_fill.specs.declared.fill.Open.{Open}
use Rattle.bc_fill.proofs.Opens.{first_below, first_free, small_offset}
use Rattle.bc_fill.proofs.fill.Fill.cut.Goals as goal

pub get-requires : goal.get-requires
get-requires c =
    subst (λ (fs : List Open). (get_or fs 0 (record { bucket = 0; next = 0 })).bucket < length c.args.b.now.records) (sym (c.deref.ensures.0 ∙ c.self.view_is))
    (first_below c.args.self.now (record { bucket = 0; next = 0 }) (length c.args.b.now.records) c.requires.some (λ k some. (c.requires.held k some).0))

pub overflow_mul-ptr : goal.overflow_mul-ptr
overflow_mul-ptr c =
    let low = subst (λ (fs : List Open). (get_or fs 0 (record { bucket = 0; next = 0 })).bucket < length c.args.b.now.records) (sym (c.deref.ensures.0 ∙ c.self.view_is))
    (first_below c.args.self.now (record { bucket = 0; next = 0 }) (length c.args.b.now.records) c.requires.some (λ k some. (c.requires.held k some).0)) in
    let few = c.bucket_sectors-size.ensures.few in
    let size = c.bucket_sectors-size.ensures.small in
    let place = c.from-2.ensures in
    let whole = c.from-3.ensures in
    let bound = small_offset c.from-2.result c.from-3.result (omega arith) (omega arith) in
    let fits : c.from-2.result * c.from-3.result < 2 ^ 64 = omega arith in
    search rules

pub overflow_add-ptr : goal.overflow_add-ptr
overflow_add-ptr c =
    let low = subst (λ (fs : List Open). (get_or fs 0 (record { bucket = 0; next = 0 })).bucket < length c.args.b.now.records) (sym (c.deref.ensures.0 ∙ c.self.view_is))
    (first_below c.args.self.now (record { bucket = 0; next = 0 }) (length c.args.b.now.records) c.requires.some (λ k some. (c.requires.held k some).0)) in
    let few = c.bucket_sectors-size.ensures.few in
    let size = c.bucket_sectors-size.ensures.small in
    let place = c.from-2.ensures in
    let whole = c.from-3.ensures in
    let bound = small_offset c.from-2.result c.from-3.result (omega arith) (omega arith) in
    let free = subst (λ (fs : List Open). (get_or fs 0 (record { bucket = 0; next = 0 })).next < c.args.b.now.size) (sym (c.deref.ensures.0 ∙ c.self.view_is)) (first_free c.args.b.now.size c.args.self.now (record { bucket = 0; next = 0 }) c.requires.some c.requires.free) in
    let known = c.bucket_sectors-size.ensures.size in
    let begins = c.from-4.ensures in
    let next : c.from-4.result < 2 ^ 16 = omega arith in
    let fits : c.from-2.result * c.from-3.result + c.from-4.result < 2 ^ 64 = omega arith in
    search rules
