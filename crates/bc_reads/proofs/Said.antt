-- What a leaf's last key says of a sector.
use Rattle.std.proofs.Common.{◌≡◌, ◌≢◌, ℕ, ◌<◌, ◌+◌, ◌-◌, true, List, [], ◌∷◌, ◌++◌, Option, Some, None, refl, sym, ap, ◌∙◌, subst, arith}
use Rattle.std.specs.Prelude.{MatchOption, nat_lt}
use Rattle.std.proofs.lemmas.Bool.{lt-ltb}
use Rattle.bc_begun.proofs.Said.{ordered_said, said_by}
use Rattle.bc_bucket.specs.Buckets.{Buckets}
use Rattle.bc_extent.specs.Extents.{IsInOrder}
use Rattle.bc_extent.specs.LastKey.{last_key}
use Rattle.bc_key.specs.Key.{place_by, pointer_of, ptr_at, start_of}
use Rattle.bc_key.specs.declared.key.Key.{Key}
use Rattle.bc_key.specs.declared.ptr.Ptr.{Ptr}
use Rattle.bc_leaves.specs.Keys.{ref_said}
use Rattle.bc_meta.specs.Keys.{Ref, ref_by}
use Rattle.bc_node.specs.Leaf.{Leaf}
use Rattle.bc_sight.specs.Sight.{said_in}
use Rattle.bc_reads.specs.Reads.{AreLongest, AreRuns, EndsThere, IsLost, IsLostBy, IsReadBy, IsReadFrom, IsRun, moved, said_of}
use Rattle.bc_reads.specs.declared.runs.ReadRun.{ReadRun}
use Rattle.bc_reads.specs.declared.source.ReadFrom.{ReadFrom}
use Rattle.bc_reads.specs.declared.source.ReadFrom.TheVariants.{Backing, Cache}

abbrev pub pointed : Key → ℕ → Ptr → Ref
pointed key s ptr = record {
  dirty = key.dirty;
  dev = ptr.dev;
  place = place_by ptr (start_of key) s;
  generation = ptr.generation;
}

points : (key : Key) → 0 < key.count → pointer_of key ≡ Some (ptr_at key 0)
points key count = let test : nat_lt 0 key.count ≡ true = lt-ltb 0 key.count count in rw test refl

-- a key with a pointer says where it points
pub said_there : (key : Key) (s : ℕ) (ptr : Ptr) → 0 < key.count → ptr_at key 0 ≡ ptr
    → said_of key s ≡ Some (pointed key s ptr)
said_there key s ptr count is = ap (ref_by key s) (points key count ∙ ap Some is)

-- what is said by the key that has the sector
abbrev of_last : Option Key → ℕ → Option Ref
of_last None s = None
of_last (Some key) s = said_of key s

said_last : (o : Option Key) (s : ℕ) → ref_said (said_by o s) ≡ of_last o s
said_last None s = refl
said_last (Some key) s = refl

leaf_said : (leaf : Leaf) (s : ℕ) (o : Option Key) → IsInOrder leaf.keys → o ≡ last_key leaf.keys s
    → said_in leaf s ≡ of_last o s
leaf_said leaf s o order is = ap ref_said (ordered_said leaf.keys s order)
    ∙ said_last (last_key leaf.keys s) s ∙ ap (λ (k : Option Key). of_last k s) (sym is)

pub none_said : (leaf : Leaf) (s : ℕ) → IsInOrder leaf.keys → None ≡ last_key leaf.keys s
    → said_in leaf s ≡ None
none_said leaf s order is = leaf_said leaf s None order is

pub key_said : (leaf : Leaf) (s : ℕ) (key : Key) → IsInOrder leaf.keys
    → Some key ≡ last_key leaf.keys s → said_in leaf s ≡ said_of key s
key_said leaf s key order is = leaf_said leaf s (Some key) order is

pub by_leaf : (leaf : Leaf) (b : Buckets) (s : ℕ) (key : Key) (r : Option ReadFrom)
    → said_in leaf s ≡ said_of key s
    → MatchOption r (IsLostBy (said_of key s) b) (IsReadBy (said_of key s) b)
    → MatchOption r (IsLost leaf b s) (IsReadFrom leaf b s)
by_leaf leaf b s key r is h = subst (λ (o : Option Ref).
    MatchOption r (IsLostBy o b) (IsReadBy o b)) (sym is) h

-- ---- runs

pub one_more : (leaf : Leaf) (b : Buckets) (s mid : ℕ) (rs : List ReadRun) (r : ReadRun)
    → AreRuns leaf b s mid rs → r.first ≡ mid → 0 < r.count → IsRun leaf b r
    → AreRuns leaf b s (mid + r.count) (rs ++ r ∷ [])
one_more leaf b s mid [] r is first some run =
    (first ∙ sym is, some, run, ap (λ n. n + r.count) is)
one_more leaf b s mid (x ∷ xs) r is first some run =
    (is.0, is.1, is.2, one_more leaf b (s + x.count) mid xs r is.3 first some run)

-- the last of the runs doesn't go on behind it
abbrev pub HaveEnded : Leaf → Buckets → List ReadRun → Type 0
HaveEnded leaf b [] = Unit {0}
HaveEnded leaf b (r ∷ []) = EndsThere leaf b r
HaveEnded leaf b (r ∷ x ∷ xs) = HaveEnded leaf b (x ∷ xs)

-- a run's first sector is read from where the run is
run_start : (from : ReadFrom) → moved from 0 ≡ from
run_start Backing = refl
run_start (Cache at dirty) =
    let same : at + 0 ≡ at = omega arith in ap (λ n. Cache n dirty) same

first_from : (leaf : Leaf) (b : Buckets) (r : ReadRun) → 0 < r.count → IsRun leaf b r
    → IsReadFrom leaf b r.first r.from
first_from leaf b r some run =
    let none : r.first - r.first ≡ 0 = omega arith in
    subst (λ (from : ReadFrom). IsReadFrom leaf b r.first from) (run_start r.from)
    (subst (λ n. IsReadFrom leaf b r.first (moved r.from n)) none
    (run r.first (omega arith) (omega arith)))

ends_before : (leaf : Leaf) (b : Buckets) (x r : ReadRun) → EndsThere leaf b x
    → r.first ≡ x.first + x.count → 0 < r.count → IsRun leaf b r
    → r.from ≢ moved x.from x.count
ends_before leaf b x r ends first some run same =
    let here = subst (λ (from : ReadFrom). IsReadFrom leaf b r.first from) same
    (first_from leaf b r some run) in
    ends (subst (λ n. IsReadFrom leaf b n (moved x.from x.count)) first here)

pub longest_more : (leaf : Leaf) (b : Buckets) (s mid : ℕ) (rs : List ReadRun) (r : ReadRun)
    → AreRuns leaf b s mid rs → AreLongest rs → HaveEnded leaf b rs → r.first ≡ mid → 0 < r.count
    → IsRun leaf b r → AreLongest (rs ++ r ∷ [])
longest_more leaf b s mid [] r are longest ended first some run = (tt, tt)
longest_more leaf b s mid (x ∷ []) r are longest ended first some run = (
  ends_before leaf b x r ended
      (first ∙ sym are.3 ∙ ap (λ n. n + x.count) (sym are.0)) some run,
  (tt, tt),
)
longest_more leaf b s mid (x ∷ y ∷ ys) r are longest ended first some run =
    (longest.0, longest_more leaf b (s + x.count) mid (y ∷ ys) r are.3 longest.1 ended first some run)

pub ended_more : (leaf : Leaf) (b : Buckets) (rs : List ReadRun) (r : ReadRun)
    → EndsThere leaf b r → HaveEnded leaf b (rs ++ r ∷ [])
ended_more leaf b [] r ends = ends
ended_more leaf b (x ∷ []) r ends = ends
ended_more leaf b (x ∷ y ∷ ys) r ends = ended_more leaf b (y ∷ ys) r ends
