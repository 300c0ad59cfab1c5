-- Many buckets that are raised at once.
use Rattle.std.proofs.Common.{◌≡◌, ◌≢◌, ◌⊎◌, inl, inr, ℕ, suc, ◌+◌, ◌<◌, ◌≤◌, Bool, true, false, List, [], ◌∷◌, ◌++◌, length, get_or, set, take, drop, refl, sym, ap, ◌∙◌, subst, arith, get_or-set_same, get_or-set_other}
use Rattle.std.proofs.lemmas.Bool.{cases_eq, cases_lt}
use Rattle.std.proofs.lemmas.List.{append-nil, append_assoc, get_or_past, drop_at, length-append, take_more}
use Rattle.bc_bucket.specs.declared.bucket.Bucket.{Bucket}
use Rattle.bc_bucket.specs.Bucket.{raised, no_bucket}
use Rattle.bc_bucket.specs.Buckets.{Buckets, bucket_of, changed}
use Rattle.bc_alloc.specs.Reserve.{Reserve, IsDistinct, flag, times}
use Rattle.bc_alloc.specs.Reserves.{Reserves, times_listed}
use Rattle.bc_alloc.specs.Inside.{IsFlagged}
use Rattle.bc_alloc.specs.Buckets.{AreFor, all_changed}
use Rattle.bc_alloc.specs.Victims.{AreFirst, IsBefore, IsCandidate, IsOpen}
use Rattle.bc_alloc.proofs.Times.{few, flag_small, times-append, times-cons, times_other, times_same}
use Rattle.bc_alloc.proofs.Fits.{held_of, held_stays, other_stays, same_length}
use Rattle.bc_alloc.proofs.Loops.{all_changed_more, not_before, there, times_more}

no_flag : (b : Bool) → flag b ≡ 0 → b ≡ false
no_flag true e = absurd (omega arith)
no_flag false e = refl

pub candidate : (r : Reserves) (b : Buckets) (listed : List Bool) (k : ℕ) → IsFlagged r listed → IsOpen b.records listed k → IsCandidate r b k
candidate r b listed k h o = record { there = o.there; reclaimable = o.reclaimable; loose = h.each k ∙ ap (λ f. flag f) o.unlisted }

pub candidate_open : (r : Reserves) (b : Buckets) (listed : List Bool) (k : ℕ) → IsFlagged r listed → IsCandidate r b k → IsOpen b.records listed k
candidate_open r b listed k h o = record { there = o.there; reclaimable = o.reclaimable; unlisted = no_flag (get_or listed k false) (sym (h.each k) ∙ o.loose) }

pub victims : (r : Reserves) (b : Buckets) (listed : List Bool) (most : ℕ) (vs : List ℕ) → IsFlagged r listed → AreFirst (IsOpen b.records listed) b.records most vs → AreFirst (IsCandidate r b) b.records most vs
victims r b listed most vs h v =
    record {
      chosen = λ i lt. candidate r b listed (get_or vs i 0) h (v.chosen i lt);
      ordered = v.ordered;
      first = λ k o none i lt. v.first k (candidate_open r b listed k h o) none i lt;
      few = v.few;
      enough = λ less k o. v.enough less k (candidate_open r b listed k h o);
    }

nowhere : (k : ℕ) (xs : List ℕ) → ((j : ℕ) → j < length xs → get_or xs j 0 ≢ k) → times k xs ≡ 0
nowhere k [] h = refl
nowhere k (x ∷ xs) h = let c = times-cons k x xs in let z = times_other k x (h 0 (omega arith)) in let rest = nowhere k xs (λ j lt. h (suc j) (omega arith)) in omega arith

distinct_by : (xs : List ℕ) → ((i j : ℕ) → i < j → j < length xs → get_or xs i 0 ≢ get_or xs j 0) → IsDistinct xs
distinct_by [] h k = omega arith
distinct_by (x ∷ xs) h k = go (cases_eq x k) (distinct_by xs (λ i j ij lt. h (suc i) (suc j) (omega arith) (omega arith)) k)
  where
    go : (x ≡ k) ⊎ (x ≢ k) → times k xs ≤ 1 → times k (x ∷ xs) ≤ 1
    go (inl e) rest =
        let none = nowhere k xs (λ j lt e2. h 0 (suc j) (omega arith) (omega arith) (e ∙ sym e2)) in
        let c = times-cons k x xs in
        let one = subst (λ (y : ℕ). times k (y ∷ []) ≡ 1) (sym e) (times_same k) in omega arith
    go (inr ne) rest = let c = times-cons k x xs in let z = times_other k x ne in omega arith

not_before_itself : (records : List Bucket) (j k : ℕ) → IsBefore records j k → j ≢ k
not_before_itself records j k (inl lt) e = let s = ap (λ (i : ℕ). (get_or records i no_bucket).priority) e in omega arith
not_before_itself records j k (inr p) e = let lt = p.1 in omega arith

pub distinct : (P : ℕ → Type 0) (records : List Bucket) (most : ℕ) (vs : List ℕ) → AreFirst P records most vs → IsDistinct vs
distinct P records most vs h = distinct_by vs (λ i j ij lt. not_before_itself records (get_or vs i 0) (get_or vs j 0) (h.ordered i j ij lt))

pub place_in : (k : ℕ) (xs : List ℕ) → 0 < times k xs → (i : ℕ) × (i < length xs) × (get_or xs i 0 ≡ k)
place_in k [] some = absurd (omega arith)
place_in k (x ∷ xs) some = go (cases_eq x k) (λ rest. place_in k xs rest)
  where
    go : (x ≡ k) ⊎ (x ≢ k) → (0 < times k xs → (i : ℕ) × (i < length xs) × (get_or xs i 0 ≡ k)) → (i : ℕ) × (i < length (x ∷ xs)) × (get_or (x ∷ xs) i 0 ≡ k)
    go (inl e) later = (0, omega arith, e)
    go (inr ne) later =
        let p = later (let c = times-cons k x xs in let z = times_other k x ne in omega arith) in
        (suc p.0, let lt = p.1 in omega arith, p.2)

pub each_chosen : (P : ℕ → Type 0) (records : List Bucket) (most : ℕ) (vs : List ℕ) → AreFirst P records most vs → (k : ℕ) → 0 < times k vs → P k
each_chosen P records most vs h k some = let p = place_in k vs some in subst (λ (i : ℕ). P i) p.2 (h.chosen p.0 p.1)

-- the first i are raised
pub record RaisedUpTo (l0 : Reserve) (listed0 : List Bool) (b0 : Buckets) (chosen : List ℕ) (i : ℕ) (l : Reserve) (listed : List Bool) (b : Buckets) : Type 0 where
  pub list : l ≡ record l0 { buckets = l0.buckets ++ take i chosen }
  pub flags : (k : ℕ) → flag (get_or listed k false) ≡ flag (get_or listed0 k false) + times k (take i chosen)
  pub buckets : b ≡ all_changed raised (take i chosen) b0
  pub others : (k : ℕ) → times k (take i chosen) ≡ 0 → bucket_of b k ≡ bucket_of b0 k
  pub same_count : length b.records ≡ length b0.records

pub none_raised : (l : Reserve) (listed : List Bool) (b : Buckets) (chosen : List ℕ) → RaisedUpTo l listed b chosen 0 l listed b
none_raised l listed b chosen = record { list = ap (λ (ks : List ℕ). record l { buckets = ks }) (sym (append-nil l.buckets)); flags = λ k. omega arith; buckets = refl; others = λ k e. refl; same_count = refl }

pub one_raised : (l0 : Reserve) (listed0 : List Bool) (b0 : Buckets) (chosen : List ℕ) (i : ℕ) (l : Reserve) (listed : List Bool) (b : Buckets) (m : Reserve) (d : Buckets) → IsDistinct chosen → ((k : ℕ) → 0 < times k chosen → IsOpen b0.records listed0 k) → i < length chosen → length listed ≡ length b0.records → RaisedUpTo l0 listed0 b0 chosen i l listed b
    → m ≡ record l { buckets = l.buckets ++ get_or chosen i 0 ∷ [] } → d ≡ changed raised (get_or chosen i 0) b → RaisedUpTo l0 listed0 b0 chosen (i + 1) m (set listed (get_or chosen i 0) true) d
one_raised l0 listed0 b0 chosen i l listed b m d once candidates within same h em ed =
    record {
      list = em ∙ ap (λ (x : Reserve). record x { buckets = x.buckets ++ get_or chosen i 0 ∷ [] }) h.list ∙ ap (λ (ks : List ℕ). record l0 { buckets = ks }) (append_assoc l0.buckets (take i chosen) (get_or chosen i 0 ∷ []) ∙ ap (λ (ks : List ℕ). l0.buckets ++ ks) (sym (take_more chosen i 0 within)));
      flags = λ k. flags k (cases_eq k (get_or chosen i 0));
      buckets = ed ∙ ap (λ (x : Buckets). changed raised (get_or chosen i 0) x) h.buckets ∙ sym (all_changed_more raised chosen i b0 within);
      others = λ k none. others k none;
      same_count = ap (λ (x : Buckets). length x.records) ed ∙ same_length raised (get_or chosen i 0) b ∙ h.same_count;
    }
  where
    free : IsOpen b0.records listed0 (get_or chosen i 0)
    free = candidates (get_or chosen i 0) (there chosen i within)

    flags : (k : ℕ) → (k ≡ get_or chosen i 0) ⊎ (k ≢ get_or chosen i 0) → flag (get_or (set listed (get_or chosen i 0) true) k false) ≡ flag (get_or listed0 k false) + times k (take (i + 1) chosen)
    flags k (inl e) =
        let t = times_more chosen i k within in
        let none = subst (λ (j : ℕ). times j (take i chosen) ≡ 0) (sym e) (not_before chosen i once within) in
        let one = subst (λ (j : ℕ). times j (get_or chosen i 0 ∷ []) ≡ 1) (sym e) (times_same (get_or chosen i 0)) in
        let was = subst (λ (j : ℕ). flag (get_or listed0 j false) ≡ 0) (sym e) (ap (λ f. flag f) free.unlisted) in
        let now = subst (λ (j : ℕ). flag (get_or (set listed (get_or chosen i 0) true) j false) ≡ 1) (sym e) (ap (λ f. flag f) (get_or-set_same listed (get_or chosen i 0) true false (let lt = free.there in omega arith))) in
        omega arith
    flags k (inr ne) =
        let t = times_more chosen i k within in
        let z = times_other k (get_or chosen i 0) (λ e. ne (sym e)) in
        let was = h.flags k in
        let now = ap (λ f. flag f) (get_or-set_other listed (get_or chosen i 0) k true false ne) in
        omega arith

    others : (k : ℕ) → times k (take (i + 1) chosen) ≡ 0 → bucket_of d k ≡ bucket_of b0 k
    others k none =
        let t = times_more chosen i k within in
        ap (λ (x : Buckets). bucket_of x k) ed
        ∙ other_stays raised (get_or chosen i 0) b k (λ e. let one = subst (λ (j : ℕ). times j (get_or chosen i 0 ∷ []) ≡ 1) (sym e) (times_same (get_or chosen i 0)) in omega arith)
        ∙ h.others k (omega arith)

pub held_of_all : (ks : List ℕ) (b : Buckets) (j : ℕ) → held_of (all_changed raised ks b) j ≡ held_of b j
held_of_all [] b j = refl
held_of_all (k ∷ ks) b j = held_of_all ks (changed raised k b) j ∙ held_stays raised (λ x. refl) k b j

pub length_of_all : (ks : List ℕ) (b : Buckets) → length (all_changed raised ks b).records ≡ length b.records
length_of_all [] b = refl
length_of_all (k ∷ ks) b = length_of_all ks (changed raised k b) ∙ same_length raised k b

-- raised ones and victims together are buckets of the device, no two the same
pub room_for_victims : (r : Reserves) (listed : List Bool) (b : Buckets) (most : ℕ) (vs : List ℕ) → IsFlagged r listed → length b.records ≡ r.count → AreFirst (IsOpen b.records listed) b.records most vs → length r.raised + length vs ≤ r.count
room_for_victims r listed b most vs h count v =
    let all = few r.count (r.raised ++ vs) (λ k. once k (cases_lt 0 (times k vs))) (λ k le. below k le (cases_lt 0 (times k vs))) in
    let n = length-append r.raised vs in omega arith
  where
    once : (k : ℕ) → (0 < times k vs) ⊎ (times k vs ≤ 0) → times k (r.raised ++ vs) ≤ 1
    once k (inl some) =
        let o = candidate r b listed k h (each_chosen (IsOpen b.records listed) b.records most vs v k some) in
        let loose = o.loose in
        let c = times-append k r.raised vs in let d = distinct (IsOpen b.records listed) b.records most vs v k in omega arith
    once k (inr none) = let c = times-append k r.raised vs in let e = h.each k in let s = flag_small (get_or listed k false) in omega arith

    below : (k : ℕ) → r.count ≤ k → (0 < times k vs) ⊎ (times k vs ≤ 0) → times k (r.raised ++ vs) ≡ 0
    below k le (inl some) = absurd (let o = each_chosen (IsOpen b.records listed) b.records most vs v k some in let lt = o.there in omega arith)
    below k le (inr none) =
        let c = times-append k r.raised vs in
        let e = h.each k ∙ ap (λ f. flag f) (get_or_past listed k false (let a = h.all in omega arith)) in omega arith

pub flagged_all : (r : Reserves) (listed more : List Bool) (vs : List ℕ) → IsFlagged r listed → length more ≡ length listed → ((k : ℕ) → flag (get_or more k false) ≡ flag (get_or listed k false) + times k vs) → IsFlagged (record r { raised = r.raised ++ vs }) more
flagged_all r listed more vs h same flags =
    record { all = same ∙ h.all; each = λ k. let c = times-append k r.raised vs in let e = h.each k in let f = flags k in omega arith }

pub for_all : (r : Reserves) (listed : List Bool) (b : Buckets) (most : ℕ) (vs : List ℕ) → IsFlagged r listed → AreFor r b → AreFirst (IsOpen b.records listed) b.records most vs → AreFor (record r { raised = r.raised ++ vs }) (all_changed raised vs b)
for_all r listed b most vs h f v =
    record { same_count = length_of_all vs b ∙ f.same_count; not_held = λ k some. held_of_all vs b k ∙ at k some (cases_lt 0 (times k vs)) }
  where
    at : (k : ℕ) → 0 < times_listed (record r { raised = r.raised ++ vs }) k → (0 < times k vs) ⊎ (times k vs ≤ 0) → held_of b k ≡ false
    at k some (inl chosen) = (each_chosen (IsOpen b.records listed) b.records most vs v k chosen).reclaimable.not_held
    at k some (inr none) = f.not_held k (let c = times-append k r.raised vs in omega arith)

pub newly : (r : Reserves) (vs : List ℕ) → drop (length r.raised) (r.raised ++ vs) ≡ vs
newly r vs = drop_at r.raised vs (length r.raised) refl

pub seen_as : (records xs : List Bucket) (flags fs : List Bool) (most : ℕ) (vs : List ℕ) → xs ≡ records → fs ≡ flags → AreFirst (IsOpen xs fs) xs most vs → AreFirst (IsOpen records flags) records most vs
seen_as records xs flags fs most vs ex ef h =
    subst (λ (gs : List Bool). AreFirst (IsOpen records gs) records most vs) ef (subst (λ (ys : List Bucket). AreFirst (IsOpen ys fs) ys most vs) ex h)
