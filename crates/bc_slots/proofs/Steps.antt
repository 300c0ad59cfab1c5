-- A leaf comes into its part.
use Rattle.std.proofs.Common.{◌≡◌, ◌≢◌, ◌⊎◌, inl, inr, ℕ, zero, suc, ◌+◌, ◌%◌, ◌<◌, ◌≤◌, List, [], ◌∷◌, ◌++◌, Bool, true, false, length, replicate, get_or, set, Some, None, refl, sym, ap, ◌∙◌, subst, arith, get_or-set_same, get_or-set_other, length-set, length-append}
use Rattle.std.specs.Prelude.{slice_get, slice_set, ◌==◌, ◌&&◌}
use Rattle.std.proofs.lemmas.Bool.{cases_eq}
use Rattle.bc_cache.specs.Slots.{Misses, NodeCache, coming}
use Rattle.bc_cache.specs.declared.slots.Cached.{Cached}
use Rattle.bc_disk.specs.Device.{next_count}
use Rattle.bc_disk.specs.Disk.{DiskFacts}
use Rattle.bc_disk.specs.declared.geometry.Geometry.{Geometry}
use Rattle.bc_pending.specs.declared.numbered.Numbered.{Numbered}
use Rattle.bc_reload.specs.Reload.{IsReloaded}
use Rattle.bc_spine.specs.declared.leaf.LeafRange.{LeafRange}
use Rattle.bc_slots.specs.Filling.{HasCome, IsEmpty, TakesLeaf}
use Rattle.bc_slots.specs.Parts.{AreFilled, AreParts, IsOpened, IsLeafPart}
use Rattle.bc_slots.specs.Places.{has_keys, is_in, numbers_in}
use Rattle.bc_slots.proofs.Filled.{filled_at, filled_put, filled_rest}
use Rattle.bc_slots.proofs.Passed.{passed, passed_all, passed_below, passed_each, passed_few, passed_no, passed_yes}

eq_true : (a b : ℕ) → a ≡ b → (a == b) ≡ true
eq_true a b e = grind arith

eq_false : (a b : ℕ) → a ≢ b → (a == b) ≡ false
eq_false a b e = grind arith

and_false : (b : Bool) → (b && false) ≡ false
and_false true = refl
and_false false = refl

-- ---- whether a leaf is one of a part

pub in_part : (pending : List (List Numbered)) (count part number : ℕ) → has_keys (get_or pending number []) ≡ true → number % count ≡ part → is_in pending count part number ≡ true
in_part pending count part number keys same =
    ap (λ b. b && (number % count == part)) keys ∙ eq_true (number % count) part same

pub elsewhere : (pending : List (List Numbered)) (count part number : ℕ) → number % count ≢ part → is_in pending count part number ≡ false
elsewhere pending count part number other =
    ap (λ b. has_keys (get_or pending number []) && b) (eq_false (number % count) part other) ∙ and_false (has_keys (get_or pending number []))

pub keyless : (pending : List (List Numbered)) (count part number : ℕ) → has_keys (get_or pending number []) ≡ false → is_in pending count part number ≡ false
keyless pending count part number none = ap (λ b. b && (number % count == part)) none

-- ---- one part

-- it has its leaves of the first i numbers
pub record IsFilledTo (g : Geometry) (leaves : List LeafRange) (pending : List (List Numbered)) (count : ℕ) (d : DiskFacts) (part i : ℕ) (cache : NodeCache) (filled : ℕ) : Type 0 where
  pub geometry : cache.geometry ≡ g
  pub rest : ℕ
  pub slots : AreFilled (IsOpened g leaves pending d) (passed (is_in pending count part) (length pending) i) rest cache.slots
  pub enough : rest + length (passed (is_in pending count part) (length pending) i) ≡ length (numbers_in pending count part) + 4
  pub filled_is : filled ≡ length (passed (is_in pending count part) (length pending) i)

module _ (g : Geometry) (leaves : List LeafRange) (pending : List (List Numbered)) (count : ℕ) (d : DiskFacts) where
  abbrev To : ℕ → ℕ → NodeCache → ℕ → Type 0
  To part i cache filled = IsFilledTo g leaves pending count d part i cache filled

  abbrev before : ℕ → ℕ → List ℕ
  before part i = passed (is_in pending count part) (length pending) i

  begin : (part : ℕ) (cache : NodeCache) (filled : ℕ) → IsEmpty g (length (numbers_in pending count part)) cache → filled ≡ 0 → To part 0 cache filled
  begin part cache filled empty none = record {
    geometry = empty.geometry;
    rest = length (numbers_in pending count part) + 4;
    slots = empty.slots;
    enough = omega arith;
    filled_is = none;
  }

  -- a slot is left
  some_left : (part i : ℕ) (cache : NodeCache) (filled : ℕ) → (so : To part i cache filled) → (rest : ℕ) × (so.rest ≡ suc rest)
  some_left part i cache filled so = go so.rest so.enough (passed_few (is_in pending count part) (length pending) i)
    where
      go : (rest : ℕ) → rest + length (before part i) ≡ length (numbers_in pending count part) + 4 → length (before part i) ≤ length (numbers_in pending count part) → (n : ℕ) × (rest ≡ suc n)
      go zero enough few = absurd (omega (arith, enough, few))
      go (suc n) enough few = (n, refl)

  pub next_is_empty : (part i : ℕ) (cache : NodeCache) (filled : ℕ) → To part i cache filled → slice_get cache.slots filled ≡ Some None
  next_is_empty part i cache filled so =
      let left = some_left part i cache filled so in
      subst (λ n. slice_get cache.slots n ≡ Some None) (sym so.filled_is)
      (filled_rest (IsOpened g leaves pending d) (before part i) so.rest (length (before part i)) cache.slots so.slots (omega arith) (let one = left.1 in omega (arith, one)))

  pub is_new : (part i : ℕ) (cache : NodeCache) (filled : ℕ) → To part i cache filled → Misses cache.slots i
  is_new part i cache filled so slot has =
      let h = filled_at (IsOpened g leaves pending d) (before part i) so.rest slot has.cached cache.slots so.slots has.there in
      let low = (passed_each (is_in pending count part) (length pending) i slot h.0 h.1).1 in
      let a = h.2.number_is in
      let b = has.number_is in
      absurd (omega (arith, low, a, b))

  pub few_filled : (part i : ℕ) (cache : NodeCache) (filled : ℕ) → To part i cache filled → filled ≤ i
  few_filled part i cache filled so =
      let is = so.filled_is in let low = passed_below (is_in pending count part) (length pending) i in omega (arith, is, low)

  stays : (part i : ℕ) (cache : NodeCache) (filled : ℕ) → i < length pending → is_in pending count part i ≡ false → To part i cache filled → To part (i + 1) cache filled
  stays part i cache filled low fails so =
      let same : before part i ≡ before part (i + 1) = sym (passed_no (is_in pending count part) (length pending) i low fails) in
      record {
        geometry = so.geometry;
        rest = so.rest;
        slots = subst (λ (js : List ℕ). AreFilled (IsOpened g leaves pending d) js so.rest cache.slots) same so.slots;
        enough = subst (λ (js : List ℕ). so.rest + length js ≡ length (numbers_in pending count part) + 4) same so.enough;
        filled_is = so.filled_is ∙ ap length same;
      }

  opened : (range : LeafRange) (i used : ℕ) (come : Cached) → slice_get leaves i ≡ Some range → range.number ≡ i → come.number ≡ range.number → come.held ≡ false → IsReloaded g range (get_or pending i []) d come.leaf → IsOpened g leaves pending d i come
  opened range i used come there number same free is = record { number_is = same ∙ number; free = free; range = range; there = there; leaf = is }

  comes : (part i : ℕ) (old new : NodeCache) (filled filled' : ℕ) (range : LeafRange) → i < length pending → is_in pending count part i ≡ true → To part i old filled
      → slice_get leaves i ≡ Some range → range.number ≡ i → HasCome g range (get_or pending i []) d old new filled filled' → To part (i + 1) new filled'
  comes part i old new filled filled' range low passes so there number come =
      let p = is_in pending count part in
      let more : before part i ++ i ∷ [] ≡ before part (i + 1) = sym (passed_yes p (length pending) i low passes) in
      let left = some_left part i old filled so in
      let cached = coming range.number come.leaf (next_count old.uses) in
      let here : IsOpened g leaves pending d i cached = opened range i 0 cached there number refl refl come.is in
      let slots = filled_put (IsOpened g leaves pending d) (before part i) left.0 i cached old.slots (subst (λ n. AreFilled (IsOpened g leaves pending d) (before part i) n old.slots) left.1 so.slots) here in
      let at : AreFilled (IsOpened g leaves pending d) (before part i ++ i ∷ []) left.0 (slice_set old.slots filled (Some cached)) =
      subst (λ n. AreFilled (IsOpened g leaves pending d) (before part i ++ i ∷ []) left.0 (slice_set old.slots n (Some cached))) (sym so.filled_is) slots in
      let long : length (before part (i + 1)) ≡ length (before part i) + 1 = ap length (sym more) ∙ length-append (before part i) (i ∷ []) in
      record {
        geometry = ap (λ (c : NodeCache). c.geometry) come.after ∙ so.geometry;
        rest = left.0;
        slots = subst (λ (c : NodeCache). AreFilled (IsOpened g leaves pending d) (before part (i + 1)) left.0 c.slots) (sym come.after)
            (subst (λ (js : List ℕ). AreFilled (IsOpened g leaves pending d) js left.0 (slice_set old.slots filled (Some cached))) more at);
        enough = let one = left.1 in let all = so.enough in omega (arith, one, all, long);
        filled_is = let a = come.more in let b = so.filled_is in omega (arith, a, b, long);
      }

  taken : (part i : ℕ) (old new : NodeCache) (filled filled' : ℕ) (range : LeafRange) → i < length pending → i % count ≡ part → To part i old filled
      → slice_get leaves i ≡ Some range → range.number ≡ i → TakesLeaf g range (get_or pending i []) d old new filled filled' → To part (i + 1) new filled'
  taken part i old new filled filled' range low same so there number took = go (get_or pending i []) refl took
    where
      go : (keys : List Numbered) → get_or pending i [] ≡ keys → TakesLeaf g range keys d old new filled filled' → To part (i + 1) new filled'
      go [] is took =
          subst (λ (c : NodeCache). To part (i + 1) c filled') (sym took.0)
          (subst (λ n. To part (i + 1) old n) (sym took.1) (stays part i old filled low (keyless pending count part i (ap has_keys is)) so))
      go (k ∷ ks) is took =
          comes part i old new filled filled' range low (in_part pending count part i (ap has_keys is) same) so there number
          (subst (λ (keys : List Numbered). HasCome g range keys d old new filled filled') (sym is) took)

  ends : (part i : ℕ) (cache : NodeCache) (filled : ℕ) → length pending ≤ i → To part i cache filled → IsLeafPart g leaves pending count d part cache
  ends part i cache filled all so =
      let whole : before part i ≡ numbers_in pending count part = passed_all (is_in pending count part) (length pending) i all in
      let enough = so.enough in
      let same = ap length whole in
      let four : so.rest ≡ 4 = omega (arith, enough, same) in
      record {
        geometry = so.geometry;
        slots = subst (λ (js : List ℕ). AreFilled (IsOpened g leaves pending d) js 4 cache.slots) whole
            (subst (λ n. AreFilled (IsOpened g leaves pending d) (before part i) n cache.slots) four so.slots);
      }

-- ---- all of them

pub record AreFilledTo (g : Geometry) (leaves : List LeafRange) (pending : List (List Numbered)) (count : ℕ) (d : DiskFacts) (i : ℕ) (parts : List NodeCache) (filled : List ℕ) : Type 0 where
  pub many : length parts ≡ count
  pub each : length filled ≡ count
  pub part : (p : ℕ) (c : NodeCache) → p < count → IsFilledTo g leaves pending count d p i (get_or parts p c) (get_or filled p 0)

pub zeros : (n k : ℕ) → get_or (replicate {A = ℕ} n 0) k 0 ≡ 0
zeros zero zero = refl
zeros zero (suc k) = refl
zeros (suc n) zero = refl
zeros (suc n) (suc k) = zeros n k

module _ (g : Geometry) (leaves : List LeafRange) (pending : List (List Numbered)) (count : ℕ) (d : DiskFacts) where
  pub all_begin : (parts : List NodeCache) (filled : List ℕ) → length parts ≡ count → length filled ≡ count
      → ((p : ℕ) (c : NodeCache) → p < count → IsEmpty g (length (numbers_in pending count p)) (get_or parts p c)) → filled ≡ replicate count 0 → AreFilledTo g leaves pending count d 0 parts filled
  all_begin parts filled many each empty none = record {
    many = many;
    each = each;
    part = λ p c low. begin g leaves pending count d p (get_or parts p c) (get_or filled p 0) (empty p c low) (ap (λ (xs : List ℕ). get_or xs p 0) none ∙ zeros count p);
  }

  pub part_at : (i at : ℕ) (parts : List NodeCache) (filled : List ℕ) (old : NodeCache) (n : ℕ) → at < count → old ≡ get_or parts at old → n ≡ get_or filled at 0 → AreFilledTo g leaves pending count d i parts filled
      → IsFilledTo g leaves pending count d at i old n
  part_at i at parts filled old n inside old_is n_is so =
      subst (λ (x : NodeCache). IsFilledTo g leaves pending count d at i x n) (sym old_is)
      (subst (λ k. IsFilledTo g leaves pending count d at i (get_or parts at old) k) (sym n_is) (so.part at old inside))

  pub all_next : (i at : ℕ) (parts : List NodeCache) (filled : List ℕ) (old new : NodeCache) (n n' : ℕ) (range : LeafRange) → i < length pending → i % count ≡ at → at < count → old ≡ get_or parts at old → n ≡ get_or filled at 0
      → slice_get leaves i ≡ Some range → range.number ≡ i → TakesLeaf g range (get_or pending i []) d old new n n' → AreFilledTo g leaves pending count d i parts filled
      → AreFilledTo g leaves pending count d (i + 1) (set parts at new) (set filled at n')
  all_next i at parts filled old new n n' range low same inside old_is n_is there number took so = record {
    many = length-set parts at new ∙ so.many;
    each = length-set filled at n' ∙ so.each;
    part = λ p c below. go p c below (cases_eq p at);
  }
    where
      here : (c : NodeCache) → IsFilledTo g leaves pending count d at (i + 1) (get_or (set parts at new) at c) (get_or (set filled at n') at 0)
      here c =
          let many : at < length parts = let m = so.many in omega (arith, inside, m) in
          let each : at < length filled = let e = so.each in omega (arith, inside, e) in
          let was = part_at i at parts filled old n inside old_is n_is so in
          subst (λ (x : NodeCache). IsFilledTo g leaves pending count d at (i + 1) x (get_or (set filled at n') at 0)) (sym (get_or-set_same parts at new c many))
          (subst (λ k. IsFilledTo g leaves pending count d at (i + 1) new k) (sym (get_or-set_same filled at n' 0 each))
          (taken g leaves pending count d at i old new n n' range low same was there number took))

      go : (p : ℕ) (c : NodeCache) → p < count → (p ≡ at) ⊎ (p ≢ at) → IsFilledTo g leaves pending count d p (i + 1) (get_or (set parts at new) p c) (get_or (set filled at n') p 0)
      go p c below (inl e) = subst (λ q. IsFilledTo g leaves pending count d q (i + 1) (get_or (set parts at new) q c) (get_or (set filled at n') q 0)) (sym e) (here c)
      go p c below (inr other) =
          subst (λ (x : NodeCache). IsFilledTo g leaves pending count d p (i + 1) x (get_or (set filled at n') p 0)) (sym (get_or-set_other parts at p new c other))
          (subst (λ k. IsFilledTo g leaves pending count d p (i + 1) (get_or parts p c) k) (sym (get_or-set_other filled at p n' 0 other))
          (stays g leaves pending count d p i (get_or parts p c) (get_or filled p 0) low (elsewhere pending count p i (λ e. other (sym e ∙ same))) (so.part p c below)))

  pub all_end : (i : ℕ) (parts : List NodeCache) (filled : List ℕ) → length pending ≤ i → AreFilledTo g leaves pending count d i parts filled → AreParts g leaves pending count d parts
  all_end i parts filled all so = record {
    each = so.many;
    part = λ p c below. ends g leaves pending count d p i (get_or parts p c) (get_or filled p 0) all (so.part p c below);
  }
