-- A ring that turns by one place.
use Rattle.std.proofs.Common.{◌≡◌, ◌⊎◌, inl, inr, ℕ, zero, suc, ◌+◌, ◌-◌, ◌<◌, ◌≤◌, List, [], ◌∷◌, ◌++◌, length, get_or, set, take, drop, refl, sym, ap, ◌∙◌, arith, length-append, length-drop, length-set}
use Rattle.std.proofs.lemmas.List.{append_assoc, append-nil, same_lists, take_more, take_more_set, drop_more, drop-set, drop-set-lt, drop-set-add, take-set-le, take_all, drop_all, get_or_append_left, get_or-append_right, get_or-drop, get_or-take, set-append_left, set-append_right, length-take-le, get_or-set_same, set-set, set-get_or}
use Rattle.std.specs.Prelude.{insert}
use Rattle.std.proofs.lemmas.List.Edits.{insert_end, insert-append_left}
use Rattle.bc_extent.specs.Turned.{turned}

pub take_set : {X : Type 0} (m : ℕ) (xs : List X) (k : ℕ) (y : X) → k < m → take m (set xs k y) ≡ set (take m xs) k y
take_set zero xs k y low = absurd (omega arith)
take_set (suc m) [] k y low = refl
take_set (suc m) (z ∷ zs) zero y low = refl
take_set (suc m) (z ∷ zs) (suc k) y low = ap (λ ys. z ∷ ys) (take_set m zs k y (omega arith))

module _ {X : Type 0} (n : ℕ) where
  -- item i of a turned ring, where it stands in the ring
  pub turned_below : (head i : ℕ) (ring : List X) (d : X) → length ring ≡ n → head + i < n → get_or (turned head ring) i d ≡ get_or ring (head + i) d
  turned_below head i ring d long below =
      get_or_append_left (drop head ring) (take head ring) d i (omega (arith, length-drop head ring)) ∙ get_or-drop head ring i d

  pub turned_above : (head i : ℕ) (ring : List X) (d : X) → length ring ≡ n → head < n → i < n → n ≤ head + i → get_or (turned head ring) i d ≡ get_or ring (head + i - n) d
  turned_above head i ring d long h low above =
      get_or-append_right (drop head ring) (take head ring) (n - head) i d (omega (arith, length-drop head ring)) (omega arith)
      ∙ get_or-take head ring (i - (n - head)) d (omega arith)
      ∙ ap (λ k. get_or ring k d) (let e : i - (n - head) ≡ head + i - n = omega arith in e)

  pub turned_set_below : (head i : ℕ) (ring : List X) (x : X) → length ring ≡ n → head + i < n → turned head (set ring (head + i) x) ≡ set (turned head ring) i x
  turned_set_below head i ring x long below =
      ap (λ ys. ys ++ take head (set ring (head + i) x)) (drop-set-add head ring i x)
      ∙ ap (λ ys. set (drop head ring) i x ++ ys) (take-set-le head ring (head + i) x (omega arith))
      ∙ sym (set-append_left (drop head ring) (take head ring) i x (omega (arith, length-drop head ring)))

  pub turned_set_above : (head i : ℕ) (ring : List X) (x : X) → length ring ≡ n → head < n → i < n → n ≤ head + i → turned head (set ring (head + i - n) x) ≡ set (turned head ring) i x
  turned_set_above head i ring x long h low above =
      ap (λ ys. ys ++ take head (set ring (head + i - n) x)) (drop-set-lt head ring (head + i - n) x (omega arith))
      ∙ ap (λ ys. drop head ring ++ ys) (take_set head ring (head + i - n) x (omega arith))
      ∙ ap (λ k. drop head ring ++ set (take head ring) k x) (let e : head + i - n ≡ i - (n - head) = omega arith in e)
      ∙ sym (set-append_right (drop head ring) (take head ring) (n - head) i x (omega (arith, length-drop head ring)) (omega arith))

-- a whole turn
pub turned_whole : {X : Type 0} (n : ℕ) (ring : List X) → length ring ≡ n → turned n ring ≡ turned 0 ring
turned_whole n ring long = ap (λ ys. ys ++ take n ring) (drop_all n ring (omega arith)) ∙ take_all n ring (omega arith) ∙ sym (append-nil ring)

-- the head gets another key, and the place behind it is the head then
pub turned_on : {X : Type 0} (head : ℕ) (ring : List X) (x first : X) → head < length ring → first ≡ get_or ring head first → first ∷ turned (head + 1) (set ring head x) ≡ turned head ring ++ x ∷ []
turned_on head ring x first inside is =
    ap (λ ys. first ∷ (ys ++ take (head + 1) (set ring head x))) (drop-set-lt (head + 1) ring head x (omega arith))
    ∙ ap (λ ys. first ∷ (drop (head + 1) ring ++ ys)) (take_more_set ring head x inside)
    ∙ sym (append_assoc (first ∷ drop (head + 1) ring) (take head ring) (x ∷ []))
    ∙ ap (λ ys. (ys ++ take head ring) ++ x ∷ []) (ap (λ f. f ∷ drop (head + 1) ring) is ∙ sym (drop_more ring head first inside))

-- ---- keys that move on by one place each

-- a carried key goes into place i, and what stood there is carried on
pub carried_on : {X : Type 0} (now old all : List X) (i : ℕ) (carried next : X) → i < length now → i < length old → take i now ++ carried ∷ drop i old ≡ all → next ≡ get_or old i next → take (i + 1) (set now i carried) ++ next ∷ drop (i + 1) old ≡ all
carried_on now old all i carried next here there kept is =
    ap (λ ys. ys ++ next ∷ drop (i + 1) old) (take_more_set now i carried here)
    ∙ append_assoc (take i now) (carried ∷ []) (next ∷ drop (i + 1) old)
    ∙ ap (λ ys. take i now ++ carried ∷ ys) (ap (λ f. f ∷ drop (i + 1) old) is ∙ sym (drop_more old i next there))
    ∙ kept

-- the same from the end to the front
pub carried_back : {X : Type 0} (now old all : List X) (i : ℕ) (carried next : X) → i < length now → i < length old → take (i + 1) old ++ carried ∷ drop (i + 1) now ≡ all → next ≡ get_or old i next → take i old ++ next ∷ drop i (set now i carried) ≡ all
carried_back now old all i carried next here there kept is =
    ap (λ ys. take i old ++ next ∷ ys) (drop-set now i carried here)
    ∙ sym (append_assoc (take i old) (next ∷ []) (carried ∷ drop (i + 1) now))
    ∙ ap (λ ys. ys ++ carried ∷ drop (i + 1) now) (ap (λ f. take i old ++ f ∷ []) is ∙ sym (take_more old i next there))
    ∙ kept

-- lists that have the same at each of their first places
pub same_front : {X : Type 0} (xs ys : List X) (n : ℕ) → n ≤ length xs → n ≤ length ys → ((k : ℕ) (d : X) → k < n → get_or xs k d ≡ get_or ys k d) → take n xs ≡ take n ys
same_front xs ys n here there same = same_lists (take n xs) (take n ys) (length-take-le n xs here ∙ sym (length-take-le n ys there))
    (λ k d inside.
    let low : k < n = omega (arith, length-take-le n xs here) in
    get_or-take n xs k d low ∙ same k d low ∙ sym (get_or-take n ys k d low))

-- a place behind the head becomes the head, from the last place on the first one
pub turned_next : {X : Type 0} (n head next : ℕ) (ring : List X) (x first : X) → length ring ≡ n → head < n → first ≡ get_or ring head first → ((head + 1 ≡ n) × (next ≡ 0)) ⊎ (next ≡ head + 1) → first ∷ turned next (set ring head x) ≡ turned head ring ++ x ∷ []
turned_next n head next ring x first long inside is (inl last) =
    ap (λ k. first ∷ turned k (set ring head x)) last.1
    ∙ ap (λ ys. first ∷ ys) (sym (turned_whole n (set ring head x) (length-set ring head x ∙ long)) ∙ ap (λ k. turned k (set ring head x)) (sym last.0))
    ∙ turned_on head ring x first (omega arith) is
turned_next n head next ring x first long inside is (inr behind) =
    ap (λ k. first ∷ turned k (set ring head x)) behind ∙ turned_on head ring x first (omega arith) is

pub length-turned : {X : Type 0} (head : ℕ) (ring : List X) → head ≤ length ring → length (turned head ring) ≡ length ring
length-turned head ring inside = omega (arith, length-append (drop head ring) (take head ring), length-drop head ring, length-take-le head ring inside)

-- lists that have the same at each of their last places
pub same_back : {X : Type 0} (xs ys : List X) (n : ℕ) → length xs ≡ length ys → ((k : ℕ) (d : X) → n ≤ k → get_or xs k d ≡ get_or ys k d) → drop n xs ≡ drop n ys
same_back xs ys n long same = same_lists (drop n xs) (drop n ys) (length-drop n xs ∙ ap (λ m. m - n) long ∙ sym (length-drop n ys))
    (λ k d inside. get_or-drop n xs k d ∙ same (n + k) d (omega arith) ∙ sym (get_or-drop n ys k d))

-- ---- a key put at a place

pub insert_last : {X : Type 0} (xs : List X) (n : ℕ) (x : X) → length xs ≡ n → insert xs n x ≡ xs ++ x ∷ []
insert_last xs n x long = ap (λ k. insert xs k x) (sym long) ∙ insert_end xs x

-- the place before the head becomes the head, from the first place on the last one, and what stood there goes
pub turned_before : {X : Type 0} (n head next : ℕ) (ring new : List X) (x last : X) → length ring ≡ n → head < n → ((head ≡ 0) × (next + 1 ≡ n)) ⊎ (next + 1 ≡ head) → new ≡ set ring next x → last ≡ get_or ring next last → turned next new ++ last ∷ [] ≡ x ∷ turned head ring
turned_before n head next ring new x last long inside place is was =
    sym (turned_next n next head new last x (ap length is ∙ length-set ring next x ∙ long) (below place)
    (sym (ap (λ ys. get_or ys next x) is ∙ get_or-set_same ring next x x (let b = below place in omega arith))) (turn place))
    ∙ ap (λ ys. x ∷ turned head ys) (ap (λ ys. set ys next last) is ∙ set-set ring next x last ∙ ap (set ring next) was ∙ set-get_or ring next last)
  where
    below : ((head ≡ 0) × (next + 1 ≡ n)) ⊎ (next + 1 ≡ head) → next < n
    below (inl first) = omega (arith, first.1)
    below (inr other) = omega arith

    turn : ((head ≡ 0) × (next + 1 ≡ n)) ⊎ (next + 1 ≡ head) → ((next + 1 ≡ n) × (head ≡ 0)) ⊎ (head ≡ next + 1)
    turn (inl first) = inl (first.1, first.0)
    turn (inr other) = inr (sym other)

-- ---- a key that comes in at one end, and the keys before a place that move there

insert_more : {X : Type 0} (y : X) (xs : List X) (k : ℕ) (x : X) → insert (y ∷ xs) (k + 1) x ≡ y ∷ insert xs k x
insert_more y xs k x = let on : k + 1 ≡ suc k = omega arith in ap (λ n. insert (y ∷ xs) n x) on

pub moved_front : {X : Type 0} (old mid new : List X) (place : ℕ) (x none last out : X) → place < length mid → mid ++ last ∷ [] ≡ none ∷ old → insert new 0 out ≡ insert mid (place + 1) x → new ++ last ∷ [] ≡ insert old place x
moved_front old mid new place x none last out inside came moved =
    ap (drop 1) (ap (λ ys. ys ++ last ∷ []) moved ∙ sym (insert-append_left mid (last ∷ []) (place + 1) x (omega arith)) ∙ ap (λ ys. insert ys (place + 1) x) came ∙ insert_more none old place x)

pub moved_back : {X : Type 0} (old mid new : List X) (place : ℕ) (x none first out : X) → place < length mid → insert mid (place + 1) out ≡ insert old 0 none → first ∷ new ≡ mid ++ x ∷ [] → insert new place out ≡ old ++ x ∷ []
moved_back old mid new place x none first out inside moved came =
    ap (drop 1) (sym (insert_more first new place out) ∙ ap (λ ys. insert ys (place + 1) out) came ∙ insert-append_left mid (x ∷ []) (place + 1) out (omega arith) ∙ ap (λ ys. ys ++ x ∷ []) moved)
