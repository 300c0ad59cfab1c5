-- The first of some buckets, chosen one by one.
use Rattle.std.proofs.Common.{◌≡◌, ◌≢◌, ◌⊎◌, inl, inr, ℕ, ◌+◌, ◌<◌, ◌≤◌, Bool, true, false, List, [], ◌∷◌, ◌++◌, length, get_or, set, refl, sym, ap, ◌∙◌, subst, arith, get_or-set_same, get_or-set_other, length-set}
use Rattle.std.proofs.lemmas.Bool.{cases_eq, cases_lt}
use Rattle.std.proofs.lemmas.List.{get_or_append_left, get_or_push, length_push}
use Rattle.bc_bucket.specs.declared.bucket.Bucket.{Bucket}
use Rattle.bc_alloc.specs.Reserve.{times}
use Rattle.bc_alloc.specs.Victims.{AreFirst, IsBefore, IsOpen}
use Rattle.bc_alloc.proofs.Times.{times-append, times_other, times_same}

-- these were chosen so far, and count as listed in `left`
pub record Selected (records : List Bucket) (listed left : List Bool) (chosen : List ℕ) : Type 0 where
  pub same : length left ≡ length records
  pub shut : (k : ℕ) → IsOpen records left k → IsOpen records listed k × (times k chosen ≡ 0)
  pub stays : (k : ℕ) → IsOpen records listed k → times k chosen ≡ 0 → IsOpen records left k
  pub was_open : (i : ℕ) → i < length chosen → IsOpen records listed (get_or chosen i 0)
  pub ordered : (i j : ℕ) → i < j → j < length chosen → IsBefore records (get_or chosen i 0) (get_or chosen j 0)
  pub first : (k : ℕ) → IsOpen records listed k → times k chosen ≡ 0 → (i : ℕ) → i < length chosen → IsBefore records (get_or chosen i 0) k

pub none_selected : (records : List Bucket) (listed left : List Bool) → left ≡ listed → length listed ≡ length records → Selected records listed left []
none_selected records listed left e same =
    record {
      same = ap (λ (xs : List Bool). length xs) e ∙ same;
      shut = λ k o. (subst (λ (xs : List Bool). IsOpen records xs k) e o, refl);
      stays = λ k o none. subst (λ (xs : List Bool). IsOpen records xs k) (sym e) o;
      was_open = λ i lt. absurd (omega arith);
      ordered = λ i j ij lt. absurd (omega arith);
      first = λ k o none i lt. absurd (omega arith);
    }

pub one_selected : (records : List Bucket) (listed left : List Bool) (chosen : List ℕ) (v : ℕ) → Selected records listed left chosen → IsOpen records left v → ((k : ℕ) → IsOpen records left k → k ≢ v → IsBefore records v k) → Selected records listed (set left v true) (chosen ++ v ∷ [])
one_selected records listed left chosen v h own least =
    record {
      same = length-set left v true ∙ h.same;
      shut = λ k o. shut k o (cases_eq k v);
      stays = λ k o none. let s = h.stays k o (before k none) in record { there = o.there; reclaimable = o.reclaimable; unlisted = other k (away k none) ∙ s.unlisted };
      was_open = λ i lt. was_open i lt (cases_lt i (length chosen));
      ordered = λ i j ij lt. ordered i j ij lt (cases_lt j (length chosen));
      first = λ k o none i lt. first k o none i lt (cases_lt i (length chosen));
    }
  where
    counts : (k : ℕ) → times k (chosen ++ v ∷ []) ≡ times k chosen + times k (v ∷ [])
    counts k = times-append k chosen (v ∷ [])

    before : (k : ℕ) → times k (chosen ++ v ∷ []) ≡ 0 → times k chosen ≡ 0
    before k none = let c = counts k in omega arith

    away : (k : ℕ) → times k (chosen ++ v ∷ []) ≡ 0 → k ≢ v
    away k none e = let c = counts k in let one = subst (λ (x : ℕ). times k (x ∷ []) ≡ 1) e (times_same k) in absurd (omega arith)

    other : (k : ℕ) → k ≢ v → get_or (set left v true) k false ≡ get_or left k false
    other k ne = get_or-set_other left v k true false ne

    within : v < length left
    within = let s = h.same in let t = own.there in omega arith

    shut : (k : ℕ) → IsOpen records (set left v true) k → (k ≡ v) ⊎ (k ≢ v) → IsOpen records listed k × (times k (chosen ++ v ∷ []) ≡ 0)
    shut k o (inl e) = absurd (true_false (sym (get_or-set_same left v true false within) ∙ ap (λ (j : ℕ). get_or (set left v true) j false) (sym e) ∙ o.unlisted))
      where
        true_false : true ≡ false → ⊥
        true_false e = absurd (cc)
    shut k o (inr ne) =
        let s = h.shut k (record { there = o.there; reclaimable = o.reclaimable; unlisted = sym (other k ne) ∙ o.unlisted }) in
        let c = counts k in
        let z = times_other k v (λ e. ne (sym e)) in
        let n = s.1 in
        (s.0, omega arith)

    old : (i : ℕ) → i < length chosen → get_or (chosen ++ v ∷ []) i 0 ≡ get_or chosen i 0
    old i lt = get_or_append_left chosen (v ∷ []) 0 i lt

    new : (i : ℕ) → length chosen ≤ i → i < length (chosen ++ v ∷ []) → get_or (chosen ++ v ∷ []) i 0 ≡ v
    new i le lt = get_or_push chosen v 0 i (let l = length_push chosen v in omega arith)

    was_open : (i : ℕ) → i < length (chosen ++ v ∷ []) → (i < length chosen) ⊎ (length chosen ≤ i) → IsOpen records listed (get_or (chosen ++ v ∷ []) i 0)
    was_open i within (inl lt) = subst (λ (k : ℕ). IsOpen records listed k) (sym (old i lt)) (h.was_open i lt)
    was_open i within (inr le) = subst (λ (k : ℕ). IsOpen records listed k) (sym (new i le within)) (h.shut v own).0

    ordered : (i j : ℕ) → i < j → j < length (chosen ++ v ∷ []) → (j < length chosen) ⊎ (length chosen ≤ j) → IsBefore records (get_or (chosen ++ v ∷ []) i 0) (get_or (chosen ++ v ∷ []) j 0)
    ordered i j ij within (inl lt) =
        subst (λ (k : ℕ). IsBefore records k (get_or (chosen ++ v ∷ []) j 0)) (sym (old i (omega arith)))
        (subst (λ (k : ℕ). IsBefore records (get_or chosen i 0) k) (sym (old j lt)) (h.ordered i j ij lt))
    ordered i j ij within (inr le) =
        let low : i < length chosen = (let l = length_push chosen v in omega arith) in
        subst (λ (k : ℕ). IsBefore records k (get_or (chosen ++ v ∷ []) j 0)) (sym (old i low))
        (subst (λ (k : ℕ). IsBefore records (get_or chosen i 0) k) (sym (new j le within)) (h.first v (h.shut v own).0 (h.shut v own).1 i low))

    first : (k : ℕ) → IsOpen records listed k → times k (chosen ++ v ∷ []) ≡ 0 → (i : ℕ) → i < length (chosen ++ v ∷ []) → (i < length chosen) ⊎ (length chosen ≤ i) → IsBefore records (get_or (chosen ++ v ∷ []) i 0) k
    first k o none i within (inl lt) = subst (λ (j : ℕ). IsBefore records j k) (sym (old i lt)) (h.first k o (before k none) i lt)
    first k o none i within (inr le) = subst (λ (j : ℕ). IsBefore records j k) (sym (new i le within)) (least k (h.stays k o (before k none)) (away k none))

pub all_selected : (records : List Bucket) (listed left : List Bool) (chosen : List ℕ) (most : ℕ) → Selected records listed left chosen → length chosen ≤ most → (length chosen < most → (k : ℕ) → IsOpen records left k → ⊥) → AreFirst (IsOpen records listed) records most chosen
all_selected records listed left chosen most h few none_left =
    record {
      chosen = h.was_open;
      ordered = h.ordered;
      first = h.first;
      few = few;
      enough = λ less k o. enough less k o (cases_lt 0 (times k chosen));
    }
  where
    enough : length chosen < most → (k : ℕ) → IsOpen records listed k → (0 < times k chosen) ⊎ (times k chosen ≤ 0) → 0 < times k chosen
    enough less k o (inl some) = some
    enough less k o (inr none) = absurd (none_left less k (h.stays k o (omega arith)))
