use Rattle.std.proofs.Common.{ℕ, ◌+◌, ◌/◌, ◌<◌, ◌≤◌, length, sym, subst, arith}
use Rattle.std.specs.Prelude.{Contains}
use Rattle.std.proofs.Math.Nat.{lt-mul-div-succ}
use Rattle.std.proofs.lemmas.Nat.{mul-le}
use Rattle.bc_reader.specs.Noted.{noted_of}
use Rattle.bc_reader.proofs.Uses.{place_more}
use Rattle.bc_reader.proofs.noted.note_places.Goals as goal

place_small : (x size n : ℕ) → 0 < size → size ≤ 32768 → n ≤ 1048576 → x / size < n
    → x < 18446744073709551616
place_small x size n some small few known =
    let over = lt-mul-div-succ x some in
    let most = mul-le size (x / size + 1) 32768 1048576 small (omega arith) in omega arith

pub overflow_add-at : goal.overflow_add-at
overflow_add-at c = let size = c.bucket_sectors-size.ensures in
    let small = place_small (c.args.at + c.loop-k.k) c.bucket_sectors-size.result
    (length c.args.buckets.now.records) size.some size.small size.few
    (subst (λ n. (c.args.at + c.loop-k.k) / n < length c.args.buckets.now.records) (sym size.size)
    (c.requires.known c.loop-k.k c.loop-k-test.true)) in
    let same = c.from.ensures in omega (arith, small, same)

pub loop-k-preserved : goal.loop-k-preserved
loop-k-preserved c = (
  λ n h. c.in_ok-note_place.ensures.kept n (c.loop-k.invariant.0 n h),
  place_more c.args.buckets.now c.loop-k.noted.items c.note_place.new.noted.items c.args.at c.loop-k.k
      c.in_ok-note_place.ensures.kept c.loop-k.invariant.1
      (subst (λ n. Contains c.note_place.new.noted.items
      (noted_of c.args.buckets.now ((c.args.at + n) / c.args.buckets.now.size))) c.from.ensures
      c.in_ok-note_place.ensures.ok),
)
