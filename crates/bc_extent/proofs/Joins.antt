-- Rings of keys, joined.
use Rattle.std.proofs.Common.{◌≡◌, inl, inr, ℕ, zero, suc, ◌+◌, ◌-◌, ◌*◌, ◌/◌, ◌%◌, ◌<◌, ◌≤◌, List, [], ◌∷◌, ◌++◌, length, get_or, set, take, drop, refl, sym, ap, ◌∙◌, arith, add-one, length-append, length-drop, length-set}
use Rattle.std.specs.Prelude.{insert, remove}
use Rattle.std.proofs.lemmas.Bool.{cases_eq}
use Rattle.std.proofs.lemmas.List.{append_assoc, append-nil, take_more, take_more_set, drop_more, drop-set, take-append-le, take-append-drop, length-take-le, get_or-set_same, get_or-set_other, get_or_append_left, get_or-append_right, set-append_left, set-append_right, get_or-take, get_or_default}
use Rattle.std.proofs.lemmas.List.Concat.{flat_map-append}
use Rattle.std.proofs.lemmas.List.Edits.{insert-append_left, insert-append_right, length-insert}
use Rattle.std.proofs.lemmas.List.Elements.{All-head, All-tail, All-take, All-drop, All-append}
use Rattle.bc_key.specs.declared.key.Key.{Key}
use Rattle.bc_extent.proofs.Turns.{take_set}
use Rattle.bc_extent.specs.Rings.{joined, AreFull}

pub joined-append : (xs ys : List (List Key)) → joined (xs ++ ys) ≡ joined xs ++ joined ys
joined-append = flat_map-append (λ (ring : List Key). ring)

pub joined_one : (ring : List Key) → joined (ring ∷ []) ≡ ring
joined_one ring = append-nil ring

pub length-joined : (rings : List (List Key)) → AreFull rings → length (joined rings) ≡ 512 * length rings
length-joined [] full = refl
length-joined (ring ∷ rings) full =
    let own = All-head (λ (r : List Key). length r ≡ 512) ring rings full in
    let rest = length-joined rings (All-tail (λ (r : List Key). length r ≡ 512) ring rings full) in
    omega (arith, add-one, length-append ring (joined rings))

-- ---- a key carried from ring to ring

module _ (now old : List (List Key)) (all : List Key) (i : ℕ) (ring : List Key) (carried next : Key) (here : i < length now) (there : i < length old) where
  -- ring i takes the carried key before its own, and gives on its last one
  pub pushed_on : joined (take i now) ++ carried ∷ joined (drop i old) ≡ all → ring ++ next ∷ [] ≡ carried ∷ get_or old i [] → joined (take (i + 1) (set now i ring)) ++ next ∷ joined (drop (i + 1) old) ≡ all
  pushed_on kept is =
      ap (λ xs. joined xs ++ next ∷ joined (drop (i + 1) old)) (take_more_set now i ring here)
      ∙ ap (λ xs. xs ++ next ∷ joined (drop (i + 1) old)) (joined-append (take i now) (ring ∷ []) ∙ ap (λ xs. joined (take i now) ++ xs) (joined_one ring))
      ∙ append_assoc (joined (take i now)) ring (next ∷ joined (drop (i + 1) old))
      ∙ ap (λ xs. joined (take i now) ++ xs) (sym (append_assoc ring (next ∷ []) (joined (drop (i + 1) old))) ∙ ap (λ xs. xs ++ joined (drop (i + 1) old)) is)
      ∙ ap (λ xs. joined (take i now) ++ carried ∷ joined xs) (sym (drop_more old i [] there))
      ∙ kept

  -- ring i takes the carried key behind its own, and gives on its first one
  pub pulled_back : joined (take (i + 1) old) ++ carried ∷ joined (drop (i + 1) now) ≡ all → next ∷ ring ≡ get_or old i [] ++ carried ∷ [] → joined (take i old) ++ next ∷ joined (drop i (set now i ring)) ≡ all
  pulled_back kept is =
      ap (λ xs. joined (take i old) ++ next ∷ joined xs) (drop-set now i ring here)
      ∙ ap (λ xs. joined (take i old) ++ (xs ++ joined (drop (i + 1) now))) is
      ∙ ap (λ xs. joined (take i old) ++ xs) (append_assoc (get_or old i []) (carried ∷ []) (joined (drop (i + 1) now)))
      ∙ sym (append_assoc (joined (take i old)) (get_or old i []) (carried ∷ joined (drop (i + 1) now)))
      ∙ ap (λ xs. xs ++ carried ∷ joined (drop (i + 1) now)) (ap (λ xs. joined (take i old) ++ xs) (sym (joined_one (get_or old i []))) ∙ sym (joined-append (take i old) (get_or old i [] ∷ [])) ∙ ap joined (sym (take_more old i [] there)))
      ∙ kept

-- the first ring takes a key in its middle, and gives on its last one
pub pushed_first : (old : List (List Key)) (ring : List Key) (place : ℕ) (key next : Key) → 0 < length old → place ≤ length (get_or old 0 []) → ring ++ next ∷ [] ≡ insert (get_or old 0 []) place key → joined (take 1 (set old 0 ring)) ++ next ∷ joined (drop 1 old) ≡ insert (joined old) place key
pushed_first [] ring place key next some inside is = absurd (omega arith)
pushed_first (first ∷ rest) ring place key next some inside is =
    ap (λ xs. xs ++ next ∷ joined rest) (joined_one ring)
    ∙ sym (append_assoc ring (next ∷ []) (joined rest))
    ∙ ap (λ xs. xs ++ joined rest) is
    ∙ sym (insert-append_left first (joined rest) place key inside)

-- the first ring gives a key out of its middle, and takes the carried one
pub pulled_first : (now old : List (List Key)) (all ring : List Key) (place : ℕ) (carried out : Key) → 0 < length now → 0 < length old → place ≤ length ring → joined (take 1 old) ++ carried ∷ joined (drop 1 now) ≡ all → insert ring place out ≡ get_or old 0 [] ++ carried ∷ [] → insert (joined (set now 0 ring)) place out ≡ all
pulled_first [] old all ring place carried out here there inside kept is = absurd (omega arith)
pulled_first (n ∷ now) [] all ring place carried out here there inside kept is = absurd (omega arith)
pulled_first (n ∷ now) (first ∷ old) all ring place carried out here there inside kept is =
    insert-append_left ring (joined now) place out inside
    ∙ ap (λ xs. xs ++ joined now) is
    ∙ append_assoc first (carried ∷ []) (joined now)
    ∙ ap (λ xs. xs ++ carried ∷ joined now) (sym (joined_one first))
    ∙ kept

-- ---- full rings

pub full_set : (rings : List (List Key)) (i : ℕ) (ring : List Key) → AreFull rings → length ring ≡ 512 → AreFull (set rings i ring)
full_set rings i ring full long = λ k d inside.
    let within : k < length rings = omega (arith, length-set rings i ring) in
    elim (cases_eq k i) [
      | inl same ↦ ap (λ n. length (get_or (set rings i ring) n d)) same ∙ ap length (get_or-set_same rings i ring d (omega arith)) ∙ long
      | inr other ↦ ap length (get_or-set_other rings i k ring d other) ∙ full k d within
    ]

-- what goes in at one side comes out at the other
pub same_long : (new old : List Key) (a b : Key) → new ++ a ∷ [] ≡ b ∷ old → length old ≡ 512 → length new ≡ 512
same_long new old a b is long = let e = ap length is in omega (arith, add-one, length-append new (a ∷ []))

pub same_long_back : (new old : List Key) (a b : Key) → a ∷ new ≡ old ++ b ∷ [] → length old ≡ 512 → length new ≡ 512
same_long_back new old a b is long = let e = ap length is in omega (arith, add-one, length-append old (b ∷ []))

pub same_long_at : (new old : List Key) (place : ℕ) (a b : Key) → new ++ a ∷ [] ≡ insert old place b → place < 512 → length old ≡ 512 → length new ≡ 512
same_long_at new old place a b is inside long = let e = ap length is in omega (arith, add-one, length-append new (a ∷ []), length-insert old place b (omega arith))

pub same_long_out : (new old : List Key) (place : ℕ) (a b : Key) → insert new place a ≡ old ++ b ∷ [] → length old ≡ 512 → length new ≡ 512
same_long_out new old place a b is long =
    let e = ap length is in
    omega (arith, add-one, length-append old (b ∷ []), length-append (take place new) (a ∷ drop place new), ap length (take-append-drop place new), length-append (take place new) (drop place new))

-- ---- the first keys of all rings

pub take_insert : {X : Type 0} (xs : List X) (i n : ℕ) (x : X) → i ≤ n → take (suc n) (insert xs i x) ≡ insert (take n xs) i x
take_insert xs zero n x low = refl
take_insert xs (suc i) zero x low = absurd (omega arith)
take_insert [] (suc i) (suc n) x low = refl
take_insert (y ∷ ys) (suc i) (suc n) x low = ap (λ zs. y ∷ zs) (take_insert ys i n x (omega arith))

pub remove_insert : {X : Type 0} (xs : List X) (i : ℕ) (x : X) → i ≤ length xs → remove (insert xs i x) i ≡ xs
remove_insert xs zero x inside = refl
remove_insert [] (suc i) x inside = absurd (omega arith)
remove_insert (y ∷ ys) (suc i) x inside = ap (λ zs. y ∷ zs) (remove_insert ys i x (omega arith))

insert_behind : {X : Type 0} (xs ys : List X) (i : ℕ) (x : X) → xs ++ insert ys i x ≡ insert (xs ++ ys) (length xs + i) x
insert_behind xs ys i x = sym (insert-append_right xs ys (length xs) (length xs + i) x refl (omega arith) ∙ ap (λ k. xs ++ insert ys k x) (let e : length xs + i - length xs ≡ i = omega arith in e))

module _ {X : Type 0} (before old new behind : List X) (place n : ℕ) (x out : X) where
  front : (mid : List X) (m : ℕ) → m ≤ length before + length mid → take m (before ++ (mid ++ behind)) ≡ take m (before ++ mid)
  front mid m few = ap (take m) (sym (append_assoc before mid behind)) ∙ take-append-le m (before ++ mid) behind (omega (arith, length-append before mid))

  pub grown : new ++ out ∷ [] ≡ insert old place x → place ≤ length old → length before + place ≤ n → n < length before + length old → take (n + 1) (before ++ (new ++ behind)) ≡ insert (take n (before ++ (old ++ behind))) (length before + place) x
  grown is inside low high =
      let lengths = ap length is in
      let long : length new ≡ length old = omega (arith, length-append new (out ∷ []), length-insert old place x inside) in
      front new (n + 1) (omega arith)
      ∙ sym (take-append-le (n + 1) (before ++ new) (out ∷ []) (omega (arith, length-append before new)))
      ∙ ap (take (n + 1)) (append_assoc before new (out ∷ []) ∙ ap (λ xs. before ++ xs) is ∙ insert_behind before old place x)
      ∙ ap (λ m. take m (insert (before ++ old) (length before + place) x)) (add-one n)
      ∙ take_insert (before ++ old) (length before + place) n x low
      ∙ ap (λ xs. insert xs (length before + place) x) (sym (front old n (omega arith)))

  pub shrunk : insert new place out ≡ old ++ x ∷ [] → place ≤ length new → length before + place < n → n ≤ length before + length old → take (n - 1) (before ++ (new ++ behind)) ≡ remove (take n (before ++ (old ++ behind))) (length before + place)
  shrunk is inside low high =
      let lengths = ap length is in
      let long : length new ≡ length old = omega (arith, length-append old (x ∷ []), length-insert new place out inside) in
      let one_less : suc (n - 1) ≡ n = omega arith in
      let kept : take n (before ++ (old ++ behind)) ≡ insert (take (n - 1) (before ++ new)) (length before + place) out =
      front old n high
      ∙ sym (take-append-le n (before ++ old) (x ∷ []) (omega (arith, length-append before old)))
      ∙ ap (take n) (append_assoc before old (x ∷ []) ∙ ap (λ xs. before ++ xs) (sym is) ∙ insert_behind before new place out)
      ∙ ap (λ m. take m (insert (before ++ new) (length before + place) out)) (sym one_less)
      ∙ take_insert (before ++ new) (length before + place) (n - 1) out (omega arith) in
      front new (n - 1) (omega arith)
      ∙ sym (remove_insert (take (n - 1) (before ++ new)) (length before + place) out (omega (arith, length-take-le (n - 1) (before ++ new) (omega (arith, length-append before new)))))
      ∙ ap (λ xs. remove xs (length before + place)) (sym kept)

-- ---- one key of all rings

pub joined_at : (rings : List (List Key)) (b o : ℕ) (d : Key) → AreFull rings → b < length rings → o < 512 → get_or (joined rings) (512 * b + o) d ≡ get_or (get_or rings b []) o d
joined_at [] b o d full inside low = absurd (omega arith)
joined_at (ring ∷ rings) zero o d full inside low =
    let own = All-head (λ (r : List Key). length r ≡ 512) ring rings full in
    ap (λ k. get_or (ring ++ joined rings) k d) (let e : 512 * 0 + o ≡ o = omega arith in e) ∙ get_or_append_left ring (joined rings) d o (omega arith)
joined_at (ring ∷ rings) (suc b) o d full inside low =
    let own = All-head (λ (r : List Key). length r ≡ 512) ring rings full in
    get_or-append_right ring (joined rings) 512 (512 * suc b + o) d own (omega arith)
    ∙ ap (λ k. get_or (joined rings) k d) (let e : 512 * suc b + o - 512 ≡ 512 * b + o = omega arith in e)
    ∙ joined_at rings b o d (All-tail (λ (r : List Key). length r ≡ 512) ring rings full) (omega arith) low

pub joined_set : (rings : List (List Key)) (b o : ℕ) (x : Key) → AreFull rings → b < length rings → o < 512 → joined (set rings b (set (get_or rings b []) o x)) ≡ set (joined rings) (512 * b + o) x
joined_set [] b o x full inside low = absurd (omega arith)
joined_set (ring ∷ rings) zero o x full inside low =
    let own = All-head (λ (r : List Key). length r ≡ 512) ring rings full in
    sym (ap (λ k. set (ring ++ joined rings) k x) (let e : 512 * 0 + o ≡ o = omega arith in e) ∙ set-append_left ring (joined rings) o x (omega arith))
joined_set (ring ∷ rings) (suc b) o x full inside low =
    let own = All-head (λ (r : List Key). length r ≡ 512) ring rings full in
    ap (λ xs. ring ++ xs) (joined_set rings b o x (All-tail (λ (r : List Key). length r ≡ 512) ring rings full) (omega arith) low)
    ∙ sym (set-append_right ring (joined rings) 512 (512 * suc b + o) x own (omega arith) ∙ ap (λ k. ring ++ set (joined rings) k x) (let e : 512 * suc b + o - 512 ≡ 512 * b + o = omega arith in e))

-- ---- a part of the rings changed

-- the first keys stand in the first rings
pub joined_first : (rings : List (List Key)) (k n : ℕ) → AreFull rings → k ≤ length rings → n ≤ 512 * k → take n (joined (take k rings)) ≡ take n (joined rings)
joined_first rings k n full within low =
    let long = length-joined (take k rings) (All-take (λ (r : List Key). length r ≡ 512) k rings full) in
    sym (ap (λ all. take n (joined all)) (sym (take-append-drop k rings))
    ∙ ap (take n) (joined-append (take k rings) (drop k rings))
    ∙ take-append-le n (joined (take k rings)) (joined (drop k rings)) (omega (arith, long, length-take-le k rings within)))

full_part : (rings : List (List Key)) (a k : ℕ) → AreFull rings → AreFull (take k (drop a rings))
full_part rings a k full = All-take (λ (r : List Key). length r ≡ 512) k (drop a rings) (All-drop (λ (r : List Key). length r ≡ 512) a rings full)

pub full_put : (rings mid : List (List Key)) (a k : ℕ) → AreFull rings → AreFull mid → AreFull (take a rings ++ (mid ++ drop k (drop a rings)))
full_put rings mid a k full own =
    let P = λ (r : List Key). length r ≡ 512 in
    All-append P (take a rings) (mid ++ drop k (drop a rings)) (All-take P a rings full) (All-append P mid (drop k (drop a rings)) own (All-drop P k (drop a rings) (All-drop P a rings full)))

module _ (rings mid : List (List Key)) (a k : ℕ) (full : AreFull rings) (within : a + k ≤ length rings) where
  abbrev part : List (List Key)
  part = take k (drop a rings)

  abbrev rest : List (List Key)
  rest = drop k (drop a rings)

  joined_parts : (xs : List (List Key)) → joined (take a rings ++ (xs ++ rest)) ≡ joined (take a rings) ++ (joined xs ++ joined rest)
  joined_parts xs = joined-append (take a rings) (xs ++ rest) ∙ ap (λ ys. joined (take a rings) ++ ys) (joined-append xs rest)

  all_parts : joined rings ≡ joined (take a rings) ++ (joined part ++ joined rest)
  all_parts = ap joined (sym (take-append-drop a rings) ∙ ap (λ ys. take a rings ++ ys) (sym (take-append-drop k (drop a rings)))) ∙ joined_parts part

  long_before : length (joined (take a rings)) ≡ 512 * a
  long_before = length-joined (take a rings) (All-take (λ (r : List Key). length r ≡ 512) a rings full) ∙ ap (λ n. 512 * n) (length-take-le a rings (omega arith))

  long_part : length (joined part) ≡ 512 * k
  long_part = length-joined part (full_part rings a k full) ∙ ap (λ n. 512 * n) (length-take-le k (drop a rings) (omega (arith, length-drop a rings)))

  pub grown_part : (place i n : ℕ) (x out : Key) → i ≡ 512 * a + place → place < 512 → 0 < k → i ≤ n → n < 512 * (a + k) → joined mid ++ out ∷ [] ≡ insert (joined part) place x → take (n + 1) (joined (take a rings ++ (mid ++ rest))) ≡ insert (take n (joined rings)) i x
  grown_part place i n x out at low some inside room is =
      let before = long_before in
      let long = long_part in
      let place_is : length (joined (take a rings)) + place ≡ i = omega arith in
      ap (take (n + 1)) (joined_parts mid)
      ∙ grown (joined (take a rings)) (joined part) (joined mid) (joined rest) place n x out is (omega arith) (omega arith) (omega arith)
      ∙ ap (λ m. insert (take n (joined (take a rings) ++ (joined part ++ joined rest))) m x) place_is
      ∙ ap (λ ys. insert (take n ys) i x) (sym all_parts)

  pub shrunk_part : (place i n : ℕ) (x out : Key) → i ≡ 512 * a + place → place < 512 → 0 < k → i < n → n ≤ 512 * (a + k) → AreFull mid → length mid ≡ k → insert (joined mid) place out ≡ joined part ++ x ∷ [] → take (n - 1) (joined (take a rings ++ (mid ++ rest))) ≡ remove (take n (joined rings)) i
  shrunk_part place i n x out at low some inside room own same is =
      let before = long_before in
      let long = long_part in
      let mine = length-joined mid own in
      let place_is : length (joined (take a rings)) + place ≡ i = omega arith in
      ap (take (n - 1)) (joined_parts mid)
      ∙ shrunk (joined (take a rings)) (joined part) (joined mid) (joined rest) place n x out is (omega arith) (omega arith) (omega arith)
      ∙ ap (λ m. remove (take n (joined (take a rings) ++ (joined part ++ joined rest))) m) place_is
      ∙ ap (λ ys. remove (take n ys) i) (sym all_parts)

-- ---- one of the first keys of all rings

module _ (rings : List (List Key)) (n i : ℕ) (ring : List Key) (full : AreFull rings) (low : i < n) (room : n ≤ 512 * length rings) (own : ring ≡ get_or rings (i / 512) ring) where
  inside : i / 512 < length rings
  inside = omega arith

  parts : 512 * (i / 512) + i % 512 ≡ i
  parts = omega arith

  own_is : get_or rings (i / 512) [] ≡ ring
  own_is = get_or_default rings (i / 512) [] ring inside ∙ sym own

  long : length ring ≡ 512
  long = ap length (sym own_is) ∙ full (i / 512) [] inside

  pub row_at : (d : Key) → get_or ring (i % 512) d ≡ get_or (take n (joined rings)) i d
  row_at d =
      sym (
      get_or-take n (joined rings) i d low
      ∙ ap (λ k. get_or (joined rings) k d) (sym parts)
      ∙ joined_at rings (i / 512) (i % 512) d full inside (omega arith)
      ∙ ap (λ r. get_or r (i % 512) d) own_is
      )

  pub row_set : (x : Key) → take n (joined (set rings (i / 512) (set ring (i % 512) x))) ≡ set (take n (joined rings)) i x
  row_set x =
      ap (λ r. take n (joined (set rings (i / 512) (set r (i % 512) x)))) (sym own_is)
      ∙ ap (take n) (joined_set rings (i / 512) (i % 512) x full inside (omega arith) ∙ ap (λ k. set (joined rings) k x) parts)
      ∙ take_set n (joined rings) i x low

-- ---- a key behind the last one in use

set_last : {X : Type 0} (xs : List X) (n : ℕ) (x : X) → n < length xs → set (take (suc n) xs) n x ≡ insert (take n xs) n x
set_last [] n x inside = absurd (omega arith)
set_last (y ∷ ys) zero x inside = refl
set_last (y ∷ ys) (suc n) x inside = ap (λ zs. y ∷ zs) (set_last ys n x (omega arith))

pub appended : (rings : List (List Key)) (n : ℕ) (ring now : List Key) (full : AreFull rings) → n < 512 * length rings → ring ≡ get_or rings (n / 512) ring → (key : Key) → now ≡ set ring (n % 512) key
    → take (n + 1) (joined (set rings (n / 512) now)) ≡ insert (take n (joined rings)) n key
appended rings n ring now full room own key is =
    let next : n + 1 ≡ suc n = omega arith in
    ap (λ r. take (n + 1) (joined (set rings (n / 512) r))) is
    ∙ row_set rings (n + 1) n ring full (omega arith) (omega (arith, room)) own key
    ∙ ap (λ k. set (take k (joined rings)) n key) next
    ∙ set_last (joined rings) n key (omega (arith, length-joined rings full, room))
