-- The values of sectors that stand one behind the other in bytes.
use Rattle.std.proofs.Common.{◌≡◌, ℕ, zero, suc, ◌+◌, ◌*◌, ◌/◌, ◌<◌, ◌≤◌, List, [], ◌∷◌, ◌++◌, length, refl, sym, ap, ◌∙◌, arith, take, drop, length-drop, length-append}
use Rattle.std.proofs.lemmas.List.{take-append-le, drop-append-le, length-take, length-take-le, take-append-drop}
use Rattle.std.proofs.Math.Seq.{take-length}
use Rattle.std.specs.Prelude.{slice_get, Some}
use Rattle.std.specs.Simd.{first_chunks}
use Rattle.bc_model.specs.Sector.{Value, sectors, values_of}

pub length_sectors : (n : ℕ) (bytes : List ℕ) → length (sectors n bytes) ≡ n
length_sectors zero bytes = refl
length_sectors (suc n) bytes = ap suc (length_sectors n (drop 512 bytes))

-- n whole sectors and then more
pub sectors_append : (n : ℕ) (xs ys : List ℕ) → length xs ≡ 512 * n → sectors (suc n) (xs ++ ys) ≡ sectors n xs ++ take 512 ys ∷ []
sectors_append zero [] ys h = refl
sectors_append zero (x ∷ xs) ys h = absurd (omega arith)
sectors_append (suc n) xs ys h =
    let low : 512 ≤ length xs = omega arith in
    let rest : length (drop 512 xs) ≡ 512 * n = omega (arith, length-drop 512 xs) in
    ap (λ (v : Value). v ∷ sectors (suc n) (drop 512 (xs ++ ys))) (take-append-le 512 xs ys low)
    ∙ ap (λ (zs : List ℕ). take 512 xs ∷ sectors (suc n) zs) (drop-append-le 512 xs ys low)
    ∙ ap (λ (vs : List Value). take 512 xs ∷ vs) (sectors_append n (drop 512 xs) ys rest)

-- sectors of which more follows
pub sectors_front : (n : ℕ) (xs ys : List ℕ) → 512 * n ≤ length xs → sectors n (xs ++ ys) ≡ sectors n xs
sectors_front zero xs ys h = refl
sectors_front (suc n) xs ys h =
    let low : 512 ≤ length xs = omega arith in
    let rest : 512 * n ≤ length (drop 512 xs) = omega (arith, length-drop 512 xs) in
    ap (λ (v : Value). v ∷ sectors n (drop 512 (xs ++ ys))) (take-append-le 512 xs ys low)
    ∙ ap (λ (zs : List ℕ). take 512 xs ∷ sectors n zs) (drop-append-le 512 xs ys low)
    ∙ ap (λ (vs : List Value). take 512 xs ∷ vs) (sectors_front n (drop 512 xs) ys rest)

sectors_take : (n m : ℕ) (xs : List ℕ) → 512 * n ≤ m → m ≤ length xs → sectors n (take m xs) ≡ sectors n xs
sectors_take n m xs low high =
    let len = length-take-le m xs high in
    sym (sectors_front n (take m xs) (drop m xs) (omega arith)) ∙ ap (λ (zs : List ℕ). sectors n zs) (take-append-drop m xs)

-- a sector's value stands behind the first n sectors
pub sectors_put : (n : ℕ) (old new value : List ℕ) → length value ≡ 512 → 512 * n ≤ length old → take (512 * n + 512) new ≡ take (512 * n) old ++ value → sectors (n + 1) new ≡ sectors n old ++ value ∷ []
sectors_put n old new value len low h =
    let one : n + 1 ≡ suc n = omega arith in
    let front = length-take-le (512 * n) old low in
    let high : 512 * n + 512 ≤ length new = omega (arith, ap (λ (xs : List ℕ). length xs) h, length-take (512 * n + 512) new, length-append (take (512 * n) old) value) in
    ap (λ k. sectors k new) one ∙ sym (sectors_take (suc n) (512 * n + 512) new (omega arith) high) ∙ ap (λ (zs : List ℕ). sectors (suc n) zs) h
    ∙ sectors_append n (take (512 * n) old) value front
    ∙ ap (λ (vs : List Value). vs ++ take 512 value ∷ []) (sectors_take n (512 * n) old (omega arith) low)
    ∙ ap (λ (v : Value). sectors n old ++ v ∷ []) (ap (λ k. take k value) (sym len) ∙ take-length value)

-- bytes that are n whole sectors
pub values_whole : (n : ℕ) (bytes : List ℕ) → length bytes ≡ 512 * n → values_of bytes ≡ sectors n bytes
values_whole n bytes h = ap (λ k. sectors k bytes) (divided n (length bytes) h)
  where
    divided : (n m : ℕ) → m ≡ 512 * n → m / 512 ≡ n
    divided n m e = omega arith

pub length_values_of : (bytes : List ℕ) → length (values_of bytes) ≡ length bytes / 512
length_values_of bytes = length_sectors (length bytes / 512) bytes

front_more : {A : Type 0} (i : ℕ) (xs : List A) (v : A) → slice_get xs i ≡ Some v → take (suc i) xs ≡ take i xs ++ v ∷ []
front_more i [] v h = absurd (cc)
front_more {A = A} zero (x ∷ xs) v h = let e : x ≡ v = cc in ap (λ (y : A). y ∷ []) e
front_more {A = A} (suc i) (x ∷ xs) v h = ap (λ (ys : List A). x ∷ ys) (front_more i xs v h)

-- the first i + 1
pub take_more : {A : Type 0} (i : ℕ) (xs : List A) (v : A) → slice_get xs i ≡ Some v → take (i + 1) xs ≡ take i xs ++ v ∷ []
take_more i xs v h = let one : i + 1 ≡ suc i = omega arith in ap (λ k. take k xs) one ∙ front_more i xs v h

-- the element at a place behind the first n
pub get_behind : {A : Type 0} (n i : ℕ) (xs : List A) → slice_get (drop n xs) i ≡ slice_get xs (n + i)
get_behind zero i [] = refl
get_behind (suc n) i [] = refl
get_behind zero i (x ∷ xs) = let same : i ≡ 0 + i = omega arith in ap (slice_get (x ∷ xs)) same
get_behind (suc n) i (x ∷ xs) = let same : suc (n + i) ≡ suc n + i = omega arith in get_behind n i xs ∙ ap (slice_get (x ∷ xs)) same

-- bytes that are one sector
pub one_sector : (value : List ℕ) → length value ≡ 512 → values_of value ≡ value ∷ []
one_sector value len = values_whole 1 value (omega arith) ∙ ap (λ (v : Value). v ∷ []) (ap (λ k. take k value) (sym len) ∙ take-length value)

sectors_at : (n m : ℕ) (bytes : List ℕ) → n < m → slice_get (sectors m bytes) n ≡ slice_get (sectors (suc n) bytes) n
sectors_at n zero bytes h = absurd (omega arith)
sectors_at zero (suc m) bytes h = refl
sectors_at (suc n) (suc m) bytes h = sectors_at n m (drop 512 bytes) (omega arith)

get_last : (n : ℕ) (vs : List Value) (value : Value) → length vs ≡ n → slice_get (vs ++ value ∷ []) n ≡ Some value
get_last zero [] value h = refl
get_last (suc n) [] value h = absurd (omega arith)
get_last zero (v ∷ vs) value h = absurd (omega arith)
get_last (suc n) (v ∷ vs) value h = get_last n vs value (omega arith)

-- the value at a place
pub get_values : (bytes : List ℕ) (n : ℕ) (value : Value) → n < length bytes / 512 → sectors (n + 1) bytes ≡ sectors n bytes ++ value ∷ [] → slice_get (values_of bytes) n ≡ Some value
get_values bytes n value inside h =
    let one : n + 1 ≡ suc n = omega arith in
    sectors_at n (length bytes / 512) bytes inside ∙ ap (λ k. slice_get (sectors k bytes) n) (sym one) ∙ ap (λ (vs : List Value). slice_get vs n) h ∙ get_last n (sectors n bytes) value (length_sectors n bytes)

-- a run of raw bytes
pub length_raw : (bytes : List ℕ) → length (values_of bytes) ≡ length bytes / 512
length_raw bytes = length_values_of bytes

-- whole sectors as arrays
pub first_chunks-sectors : (n : ℕ) (bytes : List ℕ) → first_chunks 512 n bytes ≡ sectors n bytes
first_chunks-sectors zero bytes = refl
first_chunks-sectors (suc n) bytes = ap (λ vs. take 512 bytes ∷ vs) (first_chunks-sectors n (drop 512 bytes))

-- sectors of two stretches of bytes
sectors_both : (n m : ℕ) (xs ys : List ℕ) → length xs ≡ 512 * n → sectors (n + m) (xs ++ ys) ≡ sectors n xs ++ sectors m ys
sectors_both zero m [] ys h = let a : 0 + m ≡ m = omega arith in ap (λ k. sectors k ys) a
sectors_both zero m (x ∷ xs) ys h = absurd (omega arith)
sectors_both (suc n) m xs ys h =
    let a : suc n + m ≡ suc (n + m) = omega arith in
    let low : 512 ≤ length xs = omega arith in
    let rest : length (drop 512 xs) ≡ 512 * n = omega (arith, length-drop 512 xs) in
    ap (λ k. sectors k (xs ++ ys)) a
    ∙ ap (λ (v : Value). v ∷ sectors (n + m) (drop 512 (xs ++ ys))) (take-append-le 512 xs ys low)
    ∙ ap (λ (zs : List ℕ). take 512 xs ∷ sectors (n + m) zs) (drop-append-le 512 xs ys low)
    ∙ ap (λ (vs : List Value). take 512 xs ∷ vs) (sectors_both n m (drop 512 xs) ys rest)

-- so many sectors were put behind the first n
pub sectors_next : (n m : ℕ) (old mid new : List ℕ) → 512 * n ≤ length old → length mid ≡ 512 * m → take (512 * (n + m)) new ≡ take (512 * n) old ++ mid
    → sectors (n + m) new ≡ sectors n old ++ values_of mid
sectors_next n m old mid new low long is =
    let front = length-take-le (512 * n) old low in
    let high : 512 * (n + m) ≤ length new = omega (arith, front, ap (λ (bs : List ℕ). length bs) is, length-take (512 * (n + m)) new, length-append (take (512 * n) old) mid) in
    let whole = length-take-le (512 * (n + m)) new high in
    ap (λ (bs : List ℕ). sectors (n + m) bs) (sym (take-append-drop (512 * (n + m)) new))
    ∙ sectors_front (n + m) (take (512 * (n + m)) new) (drop (512 * (n + m)) new) (omega arith)
    ∙ ap (λ (bs : List ℕ). sectors (n + m) bs) is
    ∙ sectors_both n m (take (512 * n) old) mid front
    ∙ ap (λ (vs : List Value). vs ++ sectors m mid) (sym (sectors_front n (take (512 * n) old) (drop (512 * n) old) (omega arith)) ∙ ap (λ (bs : List ℕ). sectors n bs) (take-append-drop (512 * n) old))
    ∙ ap (λ (vs : List Value). sectors n old ++ vs) (sym (values_whole m mid long))
