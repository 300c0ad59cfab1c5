use Rattle.std.proofs.Common.{◌≡◌, ◌<◌, ◌+◌, ◌-◌, ◌%◌, ◌^◌, get_or, refl, sym, ap, arith}
use Rattle.std.proofs.lemmas.List.{get_or_default}
use Rattle.bc_key.specs.Key.{ptr_at}
use Rattle.bc_key.specs.Ptr.{no_ptr}
use Rattle.bc_reads.proofs.Said.{pointed, said_there}
use Rattle.bc_reads.proofs.source.of_key.Goals as goal

pub returns-then-is_live : goal.returns-then-is_live
returns-then-is_live c =
    let key = c.args.key.now in
    let six = key.six_places in
    let ptr = get_or key.ptrs 0 c.index-key-0.result in
    let is : ptr_at key 0 ≡ ptr =
    sym (get_or_default key.ptrs 0 c.index-key-0.result no_ptr (omega (arith, six))) in
    let some : 0 < key.count = let none = c.if-key-eq0.false in omega (arith, none) in (
      pointed key c.args.sector ptr,
      said_there key c.args.sector ptr some is,
      ap (λ n. (ptr.offset + (c.args.sector - n)) % 2 ^ 43) (sym c.start.ensures),
      refl,
      c.if-is_live.ensures,
    )

pub returns-then-key : goal.returns-then-key
returns-then-key c =
    let key = c.args.key.now in
    let six = key.six_places in
    let ptr = get_or key.ptrs 0 c.index-key-0.result in
    let is : ptr_at key 0 ≡ ptr =
    sym (get_or_default key.ptrs 0 c.index-key-0.result no_ptr (omega (arith, six))) in
    let some : 0 < key.count = let none = c.if-key-eq0.false in omega (arith, none) in (
      pointed key c.args.sector ptr,
      said_there key c.args.sector ptr some is,
      c.if-key.true,
      rw (← c.start.ensures) c.if-is_live.ensures,
    )
