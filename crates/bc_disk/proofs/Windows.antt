-- A window of a list: some of its elements from a place on.
use Rattle.std.proofs.Common.{◌≡◌, ℕ, zero, suc, ◌+◌, ◌-◌, ◌≤◌, List, [], ◌++◌, length, take, drop, refl, sym, ap, ◌∙◌, arith, append_assoc, length-drop}
use Rattle.std.proofs.lemmas.List.{take_at, drop_at, take-take, take-append-le, drop-append-le, drop-drop, drop-take, drop_all, length-take-le}

module _ {A : Type 0} where
  -- in front of what was put behind the first a elements
  pub window_below : (p w a : ℕ) (xs rest : List A) → p + w ≤ a → a ≤ length xs → take w (drop p (take a xs ++ rest)) ≡ take w (drop p xs)
  window_below p w a xs rest low fits =
      let front : length (take a xs) ≡ a = length-take-le a xs fits in
      let cut : drop p (take a xs ++ rest) ≡ drop p (take a xs) ++ rest = drop-append-le p (take a xs) rest (omega arith) in
      let room : w ≤ length (drop p (take a xs)) = omega (arith, length-drop p (take a xs)) in
      let inner : drop p (take a xs) ≡ take (a - p) (drop p xs) = ap (λ n. drop p (take n xs)) (let e : a ≡ p + (a - p) = omega arith in e) ∙ drop-take p (a - p) xs in
      ap (take w) cut ∙ take-append-le w (drop p (take a xs)) rest room ∙ ap (take w) inner ∙ take-take w (a - p) (drop p xs) (omega arith)

  -- within what was put there
  pub window_inside : (p q w a : ℕ) (front piece rest : List A) → length front ≡ a → p ≡ a + q → q + w ≤ length piece → take w (drop p (front ++ piece ++ rest)) ≡ take w (drop q piece)
  window_inside p q w a front piece rest long place fits =
      let whole : front ++ piece ++ rest ≡ front ++ (piece ++ rest) = append_assoc front piece rest in
      let parts : drop p (front ++ (piece ++ rest)) ≡ drop q (drop a (front ++ (piece ++ rest))) = ap (λ n. drop n (front ++ (piece ++ rest))) place ∙ sym (drop-drop q a (front ++ (piece ++ rest))) in
      let there : drop a (front ++ (piece ++ rest)) ≡ piece ++ rest = drop_at front (piece ++ rest) a long in
      let cut : drop q (piece ++ rest) ≡ drop q piece ++ rest = drop-append-le q piece rest (omega arith) in
      let room : w ≤ length (drop q piece) = omega (arith, length-drop q piece) in
      ap (λ l. take w (drop p l)) whole ∙ ap (take w) (parts ∙ ap (drop q) there ∙ cut) ∙ take-append-le w (drop q piece) rest room

  -- behind it
  pub window_above : (p w e : ℕ) (front xs : List A) → length front ≡ e → e ≤ p → take w (drop p (front ++ drop e xs)) ≡ take w (drop p xs)
  window_above p w e front xs long high =
      let place : p ≡ e + (p - e) = omega arith in
      let parts : drop p (front ++ drop e xs) ≡ drop (p - e) (drop e (front ++ drop e xs)) = ap (λ n. drop n (front ++ drop e xs)) place ∙ sym (drop-drop (p - e) e (front ++ drop e xs)) in
      let there : drop e (front ++ drop e xs) ≡ drop e xs = drop_at front (drop e xs) e long in
      let back : drop (p - e) (drop e xs) ≡ drop p xs = drop-drop (p - e) e xs ∙ ap (λ n. drop n xs) (sym place) in
      ap (take w) (parts ∙ ap (drop (p - e)) there ∙ back)

  -- of a window
  pub window_window : (p w a m : ℕ) (xs : List A) → p + w ≤ m → take w (drop p (take m (drop a xs))) ≡ take w (drop (a + p) xs)
  window_window p w a m xs fits =
      let inner : drop p (take m (drop a xs)) ≡ take (m - p) (drop p (drop a xs)) = ap (λ n. drop p (take n (drop a xs))) (let e : m ≡ p + (m - p) = omega arith in e) ∙ drop-take p (m - p) (drop a xs) in
      ap (take w) inner ∙ take-take w (m - p) (drop p (drop a xs)) (omega arith) ∙ ap (take w) (drop-drop p a xs)

  pub take-nil : (w : ℕ) → take {A = A} w [] ≡ []
  take-nil zero = refl
  take-nil (suc w) = refl

  pub window_past : (p w : ℕ) (xs : List A) → length xs ≤ p → take w (drop p xs) ≡ []
  window_past p w xs past = ap (take w) (drop_all p xs past) ∙ take-nil w

  -- what a vector has once a slice of its length was written back
  pub written_back : (len : ℕ) (new items : List A) → length new ≡ len → take len (new ++ drop (length new) items) ≡ new
  written_back len new items long = take_at new (drop (length new) items) len long
