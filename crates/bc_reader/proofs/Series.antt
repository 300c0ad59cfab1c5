-- Runs that are read one behind the other.
use Rattle.std.specs.Prelude.{drop, take}
use Rattle.std.proofs.Common.{◌≡◌, ℕ, zero, suc, get_or, ◌+◌, ◌*◌, ◌<◌, ◌≤◌, List, [], ◌∷◌, ◌++◌, length, None, refl, sym, ap, ◌∙◌, subst, arith}
use Rattle.std.proofs.lemmas.List.{append-nil, append_assoc, length-append, take_more}
use Rattle.bc_bucket.specs.Buckets.{Buckets}
use Rattle.bc_fetch.proofs.of_bc_deed.Sequence.{done_both}
use Rattle.bc_fetch.specs.bc_deed.Asked.{IsWithin}
use Rattle.bc_fetch.specs.bc_deed.Flushed.{HasDone}
use Rattle.bc_disk.specs.Disk.{DiskFacts}
use Rattle.bc_events.specs.declared.event.Deed.{Deed}
use Rattle.bc_fetch.proofs.of_bc_hand.Knowing.{View}
use Rattle.bc_fetch.specs.bc_hand.declared.error.StepError.{StepError}
use Rattle.bc_fetch.specs.bc_hand.declared.hand.Hand.{Hand}
use Rattle.bc_fetch.specs.bc_machine.Frame.{Range}
use Rattle.bc_model.specs.Sector.{Value, sectors}
use Rattle.bc_node.specs.Leaf.{Leaf}
use Rattle.bc_reads.proofs.Said.{one_more}
use Rattle.bc_reads.specs.Reads.{AreRuns, IsRun}
use Rattle.bc_reads.specs.declared.runs.ReadRun.{ReadRun}
use Rattle.bc_reader.specs.Deeds.{AreRunDeeds, AreRunsDeeds, HasStoppedBy, RunStop, RunsStop}
use Rattle.bc_reader.specs.Known.{IsSameButDevices}
use Rattle.bc_reader.specs.Runs.{HasReadAll, HasReadAt}

-- ---- the range

pub runs_end : (leaf : Leaf) (b : Buckets) (s end : ℕ) (rs : List ReadRun) → AreRuns leaf b s end rs
    → s ≤ end
runs_end leaf b s end [] is = omega arith
runs_end leaf b s end (r ∷ rs) is =
    let more = runs_end leaf b (s + r.count) end rs is.3 in omega arith

-- there are no more runs than sectors
pub runs_few : (leaf : Leaf) (b : Buckets) (s end : ℕ) (rs : List ReadRun) → AreRuns leaf b s end rs
    → s + length rs ≤ end
runs_few leaf b s end [] is = omega arith
runs_few leaf b s end (r ∷ rs) is =
    let more = runs_few leaf b (s + r.count) end rs is.3 in let some = is.1 in omega arith

-- the last one
pub record IsLastRun (leaf : Leaf) (b : Buckets) (s end : ℕ) (rs : List ReadRun) (r : ReadRun) :
    Type 0 where
  pub mid : ℕ
  pub before : AreRuns leaf b s mid rs
  pub first : r.first ≡ mid
  pub is_run : IsRun leaf b r
  pub end_is : mid + r.count ≡ end

pub split_last : (leaf : Leaf) (b : Buckets) (s end : ℕ) (rs : List ReadRun) (r : ReadRun)
    → AreRuns leaf b s end (rs ++ r ∷ []) → IsLastRun leaf b s end rs r
split_last leaf b s end [] r is =
    record { mid = s; before = refl; first = is.0; is_run = is.2; end_is = is.3 }
split_last leaf b s end (x ∷ xs) r is =
    let rest = split_last leaf b (s + x.count) end xs r is.3 in record {
      mid = rest.mid;
      before = (is.0, is.1, is.2, rest.before);
      first = rest.first;
      is_run = rest.is_run;
      end_is = rest.end_is;
    }

-- the one that comes next
pub next_of : (leaf : Leaf) (b : Buckets) (from end : ℕ) (rs : List ReadRun) (i : ℕ) (d : ReadRun)
    → i < length rs → AreRuns leaf b from end (drop i rs)
    → ((get_or rs i d).first ≡ from) × (0 < (get_or rs i d).count) × IsRun leaf b (get_or rs i d)
    × AreRuns leaf b (from + (get_or rs i d).count) end (drop (suc i) rs)
next_of leaf b from end [] i d lt are = absurd (omega arith)
next_of leaf b from end (x ∷ xs) zero d lt are = are
next_of leaf b from end (x ∷ xs) (suc i) d lt are =
    next_of leaf b from end xs i d (omega arith) are

pub cut_at : (rs : List ReadRun) (i : ℕ) (d : ReadRun) → i < length rs
    → rs ≡ take i rs ++ get_or rs i d ∷ drop (suc i) rs
cut_at [] i d lt = absurd (omega arith)
cut_at (x ∷ xs) zero d lt = refl
cut_at (x ∷ xs) (suc i) d lt = ap (λ (l : List ReadRun). x ∷ l) (cut_at xs i d (omega arith))

pub none_left : (leaf : Leaf) (b : Buckets) (from end : ℕ) (rs : List ReadRun) (i : ℕ)
    → length rs ≤ i → AreRuns leaf b from end (drop i rs) → from ≡ end
none_left leaf b from end [] zero le are = are
none_left leaf b from end [] (suc i) le are = are
none_left leaf b from end (x ∷ xs) zero le are = absurd (omega arith)
none_left leaf b from end (x ∷ xs) (suc i) le are = none_left leaf b from end xs i (omega arith) are

-- it lies in the range
module _ (leaf : Leaf) (b : Buckets) (first count place : ℕ) (rs : List ReadRun) (i : ℕ) (d : ReadRun)
    (lt : i < length rs) (are : AreRuns leaf b (first + place) (first + count) (drop i rs)) where
  pub next_end : place + (get_or rs i d).count ≤ count
  next_end =
      let next = next_of leaf b (first + place) (first + count) rs i d lt are in
      let end = runs_end leaf b (first + place + (get_or rs i d).count) (first + count)
      (drop (suc i) rs) next.3 in omega (arith, end)

  pub next_some : 0 < (get_or rs i d).count
  next_some = (next_of leaf b (first + place) (first + count) rs i d lt are).1

  pub next_piece : count ≤ 256 → (get_or rs i d).count ≤ 256
  next_piece few = let end = next_end in omega (arith, end, few)

  pub next_place : (bytes : ℕ) → bytes ≡ 512 * count → 512 * (place + (get_or rs i d).count) ≤ bytes
  next_place bytes long = let end = next_end in omega (arith, end, long)

  pub next_within : (most : ℕ) → first + count ≤ most
      → (get_or rs i d).first + (get_or rs i d).count ≤ most
  next_within most within =
      let from = (next_of leaf b (first + place) (first + count) rs i d lt are).0 in
      let end = next_end in omega (arith, from, end, within)

  pub next_few : first + count < 18446744073709551616
      → (get_or rs i d).first + (get_or rs i d).count < 18446744073709551616
  next_few few =
      let from = (next_of leaf b (first + place) (first + count) rs i d lt are).0 in
      let end = next_end in omega (arith, from, end, few)

  pub next_covered : (r q : Range) → q ≡ r → IsWithin r first count
      → IsWithin q (get_or rs i d).first (get_or rs i d).count
  next_covered r q same within =
      let from = (next_of leaf b (first + place) (first + count) rs i d lt are).0 in
      let end = next_end in
      let low = within.0 in
      let high = within.1 in
      subst (λ (x : Range). IsWithin x (get_or rs i d).first (get_or rs i d).count) (sym same)
      (omega (arith, from, low), omega (arith, from, end, high))

pub before_next : (leaf : Leaf) (b : Buckets) (first count place : ℕ) (rs : List ReadRun) (i : ℕ)
    (d : ReadRun) → i < length rs → AreRuns leaf b first (first + place) (take i rs)
    → AreRuns leaf b (first + place) (first + count) (drop i rs)
    → AreRuns leaf b first (first + (place + (get_or rs i d).count)) (take (i + 1) rs)
before_next leaf b first count place rs i d lt before are =
    let next = next_of leaf b (first + place) (first + count) rs i d lt are in
    subst (λ (l : List ReadRun). AreRuns leaf b first (first + (place + (get_or rs i d).count)) l)
    (sym (take_more rs i d lt))
    (subst (λ n. AreRuns leaf b first n (take i rs ++ get_or rs i d ∷ [])) (omega arith)
    (one_more leaf b first (first + place) (take i rs) (get_or rs i d) before next.0 next.1 next.2))

pub behind_next : (leaf : Leaf) (b : Buckets) (first count place : ℕ) (rs : List ReadRun) (i : ℕ)
    (d : ReadRun) → i < length rs → AreRuns leaf b (first + place) (first + count) (drop i rs)
    → AreRuns leaf b (first + (place + (get_or rs i d).count)) (first + count) (drop (i + 1) rs)
behind_next leaf b first count place rs i d lt are =
    let next = next_of leaf b (first + place) (first + count) rs i d lt are in
    let on : suc i ≡ i + 1 = omega arith in
    subst (λ n. AreRuns leaf b (first + (place + (get_or rs i d).count)) (first + count) (drop n rs)) on
    (subst (λ n. AreRuns leaf b n (first + count) (drop (suc i) rs)) (omega arith) next.3)

-- ---- the deeds

pub deeds_more : (rs : List ReadRun) (r : ReadRun) (values own : List Value) (ds more : List Deed)
    → AreRunsDeeds rs values ds → length own ≡ r.count → AreRunDeeds r own more
    → AreRunsDeeds (rs ++ r ∷ []) (values ++ own) (ds ++ more)
deeds_more [] r values own ds more is long last = (
  own,
  [],
  more,
  [],
  long,
  ap (λ (vs : List Value). vs ++ own) is.0 ∙ sym (append-nil own),
  last,
  ap (λ (l : List Deed). l ++ more) is.1 ∙ sym (append-nil more),
  (refl, refl),
)
deeds_more (x ∷ xs) r values own ds more is long last = (
  is.0,
  is.1 ++ own,
  is.2,
  is.3 ++ more,
  is.4,
  ap (λ (vs : List Value). vs ++ own) is.5 ∙ append_assoc is.0 is.1 own,
  is.6,
  ap (λ (l : List Deed). l ++ more) is.7 ∙ append_assoc is.2 is.3 more,
  deeds_more xs r is.1 own is.3 more is.8 long last,
)

-- as many values as the runs have sectors
pub values_long : (leaf : Leaf) (b : Buckets) (s end : ℕ) (rs : List ReadRun) (values : List Value)
    (ds : List Deed) → AreRuns leaf b s end rs → AreRunsDeeds rs values ds → s + length values ≡ end
values_long leaf b s end [] values ds are deeds =
    let none = ap (λ (vs : List Value). length vs) deeds.0 in omega arith
values_long leaf b s end (r ∷ rs) values ds are deeds =
    let rest = values_long leaf b (s + r.count) end rs deeds.1 deeds.3 are.3 deeds.8 in
    let long = deeds.4 in
    let both = ap (λ (vs : List Value). length vs) deeds.5 ∙ length-append deeds.0 deeds.1 in
    omega arith

pub hand_both : {C B : Type 0} (a b c : Hand C B) → IsSameButDevices a b → IsSameButDevices b c
    → IsSameButDevices a c
hand_both a b c x y = record {
  rest = y.rest ∙ ap (λ (h : Hand _ _). record h { cache = c.cache; backing = c.backing }) x.rest;
  kinds_are = y.kinds_are ∙ x.kinds_are;
}

module _ {C B : Type 0} (cache_facts : C → DiskFacts) (backing_facts : B → DiskFacts) where
  pub read_none : (first : ℕ) (v : View cache_facts backing_facts)
      → HasDone cache_facts backing_facts [] v v
      → HasReadAll cache_facts backing_facts first [] [] v v
  read_none first v none = record {
    did = ([], (refl, refl), none);
    knows = λ leaf b end knows are. record {
      read = λ _. None;
      knows = knows;
      gives = λ s value here. absurd (cc);
    };
  }

  read_more : (first place : ℕ) (rs : List ReadRun) (r : ReadRun) (old new : List ℕ)
      (t v w : View cache_facts backing_facts)
      → HasReadAll cache_facts backing_facts first rs (sectors place old) t v
      → HasReadAt cache_facts backing_facts r place old new v w
      → HasReadAll cache_facts backing_facts first (rs ++ r ∷ []) (sectors (place + r.count) new) t w
  read_more first place rs r old new t v w all one =
      subst (λ (vs : List Value). HasReadAll cache_facts backing_facts first (rs ++ r ∷ []) vs t w)
      (sym one.bytes) (record {
        did = (
          all.did.0 ++ one.did.0,
          deeds_more rs r (sectors place old) one.own all.did.0 one.did.0 all.did.1 one.long one.did.1,
          done_both cache_facts backing_facts all.did.0 one.did.0 t v w all.did.2 one.did.2,
        );
        knows = λ leaf b end knows are.
            let last = split_last leaf b first end rs r are in
            one.knows leaf b first (sectors place old)
            (all.knows leaf b last.mid knows last.before) last.is_run
            (last.first ∙ sym (values_long leaf b first last.mid rs (sectors place old) all.did.0
            last.before all.did.1));
      })

  pub reads_next : (first place : ℕ) (rs : List ReadRun) (i : ℕ) (d : ReadRun) (old new : List ℕ)
      (t v w : View cache_facts backing_facts) → i < length rs
      → HasReadAll cache_facts backing_facts first (take i rs) (sectors place old) t v
      → HasReadAt cache_facts backing_facts (get_or rs i d) place old new v w
      → HasReadAll cache_facts backing_facts first (take (i + 1) rs)
      (sectors (place + (get_or rs i d).count) new) t w
  reads_next first place rs i d old new t v w lt all one =
      subst (λ (l : List ReadRun). HasReadAll cache_facts backing_facts first l
      (sectors (place + (get_or rs i d).count) new) t w) (sym (take_more rs i d lt))
      (read_more first place (take i rs) (get_or rs i d) old new t v w all one)

  -- the first of the runs were read, and this one wasn't
  pub stopped_more : (e : StepError) (first : ℕ) (runs rs others : List ReadRun) (r : ReadRun)
      (values : List Value) (t v w : View cache_facts backing_facts)
      → runs ≡ rs ++ r ∷ others
      → HasReadAll cache_facts backing_facts first rs values t v
      → HasStoppedBy cache_facts backing_facts e (RunStop e r) v w
      → HasStoppedBy cache_facts backing_facts e (RunsStop e runs) t w
  stopped_more e first runs rs others r values t v w split all stop = (
    stop.0,
    (
      all.did.0 ++ stop.1.0,
      record {
        served = rs;
        refused = r;
        others = others;
        all = split;
        values = values;
        before = all.did.0;
        last = stop.1.0;
        reads = all.did.1;
        stop = stop.1.1;
        deeds = refl;
      },
      done_both cache_facts backing_facts all.did.0 stop.1.0 t v w all.did.2 stop.1.2,
    ),
  )
