-- Whether a candidate's key fits into a leaf.
use Rattle.std.proofs.Common.{◌≡◌, ℕ, ◌+◌, ◌-◌, ◌*◌, ◌/◌, ◌<◌, ◌≤◌, length, Some, None, sym, ap, ◌∙◌, subst, arith, if◌then◌else◌}
use Rattle.std.specs.Prelude.{◌==◌, MatchBool, MatchResult, Result, nat_lt, not, slice_get}
use Rattle.std.proofs.Math.Nat.{lt-div-mul-add, mul-le-mul_right}
use Rattle.bc_bucket.specs.Buckets.{Buckets, bucket_of}
use Rattle.bc_cache.specs.Fetch.{IsLeafIn}
use Rattle.bc_cache.specs.declared.slots.Cached.{Cached}
use Rattle.bc_extent.specs.Extents.{IsInOrder}
use Rattle.bc_extent.specs.LastKey.{last_key}
use Rattle.bc_insert.proofs.Putting.{one_cached, one_some}
use Rattle.bc_key.specs.Key.{pointer_of, ptr_at}
use Rattle.bc_key.specs.declared.key.Key.{Key}
use Rattle.bc_meta.specs.Keys.{ref_by}
use Rattle.bc_node.specs.Leaf.{Leaf}
use Rattle.bc_candidate.specs.bc_hand.declared.hand.Hand.{Hand}
use Rattle.bc_candidate.specs.bc_hand.declared.hand.LeafHand.{LeafHand}
use Rattle.bc_candidate.specs.bc_machine.Frame.{by_test}
use Rattle.bc_candidate.specs.bc_machine.declared.part.BucketsPart.{BucketsPart}
use Rattle.bc_reads.proofs.Said.{key_said, said_there}
use Rattle.bc_candidate.specs.bc_sight.Sight.{said_in}
use Rattle.bc_settle.specs.Fits.{AreBare, HasGeneration, IsKeyed, IsNamedBy, LieInOne, WhyNot}
use Rattle.bc_settle.specs.Settle.{CanSettleIn}
use Rattle.bc_settle.specs.declared.outcome.Reason.{Reason}

-- ---- one sector

no_pointer : (key : Key) → key.count ≡ 0 → pointer_of key ≡ None
no_pointer key none = ap (λ n. if nat_lt 0 n then Some (ptr_at key 0) else None) none

pub is_said : (leaf : Leaf) (s : ℕ) (key : Key) → IsInOrder leaf.keys
    → Some key ≡ last_key leaf.keys s
    → MatchBool (not (key.count == 0)) (IsKeyed leaf s) (said_in leaf s ≡ None)
is_said leaf s key order is = by_test key.count 0
    (λ b. MatchBool (not b) (IsKeyed leaf s) (said_in leaf s ≡ None))
    (λ none. key_said leaf s key order is ∙ ap (ref_by key s) (no_pointer key none))
    (λ some. (
      _,
      key_said leaf s key order is
          ∙ said_there key s (ptr_at key 0) (omega (arith, some))
          (let same : ptr_at key 0 ≡ ptr_at key 0 = cc in same),
    ))

-- ---- of more sectors

pub none_bare : (leaf : Leaf) (first : ℕ) → AreBare leaf first 0
none_bare leaf first s low high = absurd (omega (arith, low, high))

pub more_bare : (leaf : Leaf) (first done : ℕ) → AreBare leaf first done
    → said_in leaf (first + done) ≡ None → AreBare leaf first (done + 1)
more_bare leaf first done before here s low high = by_test s (first + done)
    (λ b. said_in leaf s ≡ None)
    (λ same. subst (λ n. said_in leaf n ≡ None) (sym same) here)
    (λ other. before s low (omega (arith, other, high)))

-- ---- the bucket

pub has_generation : (b : Buckets) (at count generation : ℕ) → 1 ≤ count → 0 < b.size
    → b.size ≤ 32768 → length b.records ≤ 1048576 → LieInOne b at count
    → generation ≡ (bucket_of b (at / b.size)).generation → HasGeneration b at count generation
has_generation b at count generation some sized small few one is = record {
  one = one;
  is = is;
  places =
      let last = lt-div-mul-add {a = at + count - 1} sized in
      let same = ap (λ n. n * b.size) one.same in
      let known = one.known in
      let high : (at / b.size + 1) * b.size ≤ 1048576 * b.size =
      mul-le-mul_right b.size (omega (arith, known, few)) in
      omega (arith, last, same, high, small, some);
}

-- ---- the leaf and the buckets in hand

pub fits_here : {C B : Type 0} (h : Hand C B) (parts slot number : ℕ) (cached : Cached)
    (can : CanSettleIn h parts slot number cached) (old : Key) (leaves : LeafHand)
    → h.leaves ≡ Some leaves → (part : BucketsPart) → h.buckets ≡ Some part → (leaf : Leaf)
    → IsLeafIn leaves.cache.slots slot leaf → (r : Result Key Reason)
    → MatchResult r (IsNamedBy leaf part.buckets old) (λ why. WhyNot why leaf part.buckets old)
    → MatchResult r (IsNamedBy cached.leaf can.buckets.buckets old)
    (λ why. WhyNot why cached.leaf can.buckets.buckets old)
fits_here h parts slot number cached can old leaves is part are leaf at r fits =
    let here : slice_get leaves.cache.slots slot ≡ Some (Some cached) =
    subst (λ (l : LeafHand). slice_get l.cache.slots slot ≡ Some (Some cached))
    (one_some h.leaves can.leaves leaves can.is is) can.there in
    let same : leaf ≡ cached.leaf = sym at.2 ∙ ap (λ (x : Cached). x.leaf)
    (one_cached (slice_get leaves.cache.slots slot) at.0 cached at.1 here) in
    subst (λ (l : Leaf). MatchResult r (IsNamedBy l can.buckets.buckets old)
    (λ why. WhyNot why l can.buckets.buckets old)) same
    (subst (λ (p : BucketsPart). MatchResult r (IsNamedBy leaf p.buckets old)
    (λ why. WhyNot why leaf p.buckets old))
    (one_some h.buckets part can.buckets are can.are_buckets) fits)
