-- Keys that move by one place within a turned ring.
use Rattle.std.proofs.Common.{◌≡◌, ◌⊎◌, inl, inr, ℕ, zero, suc, ◌+◌, ◌-◌, ◌<◌, ◌≤◌, List, [], ◌∷◌, ◌++◌, length, get_or, take, drop, refl, sym, ap, ◌∙◌, subst, arith}
use Rattle.std.proofs.lemmas.Bool.{cases_lt}
use Rattle.std.proofs.lemmas.List.{append_assoc, take_more, drop_more, get_or_past}
use Rattle.std.specs.Prelude.{insert}
use Rattle.bc_extent.specs.Turned.{turned}
use Rattle.bc_extent.specs.Moved.{IsMoved}
use Rattle.bc_extent.proofs.Turns.{length-turned, same_back, same_front, turned_above, turned_below}

-- keys moved up to place i, and what stood there is carried on
abbrev IsCarried : {X : Type 0} → ℕ → List X → List X → X → ℕ → Type 0
IsCarried from us vs x i = take (i + 1) vs ++ get_or us i x ∷ drop (i + 1) us ≡ insert us from x

first_step : {X : Type 0} (from last : ℕ) (us vs : List X) (x : X) → IsMoved from last us vs → from < length us → length vs ≡ length us → get_or vs from x ≡ x → IsCarried from us vs x from
first_step from last us vs x h inside long first =
    ap (λ ys. ys ++ get_or us from x ∷ drop (from + 1) us) (take_more vs from x (omega arith) ∙ ap (λ y. take from vs ++ y ∷ []) first)
    ∙ append_assoc (take from vs) (x ∷ []) (get_or us from x ∷ drop (from + 1) us)
    ∙ ap (λ ys. take from vs ++ x ∷ ys) (sym (drop_more us from x inside))
    ∙ ap (λ ys. ys ++ x ∷ drop from us) (same_front vs us from (omega arith) (omega arith) (λ k d low. h.before k d low))

next_step : {X : Type 0} (from last : ℕ) (us vs : List X) (x : X) → IsMoved from last us vs → last < length us → length vs ≡ length us → (j : ℕ) → from ≤ j → j < last → IsCarried from us vs x j → IsCarried from us vs x (j + 1)
next_step from last us vs x h inside long j low high before =
    ap (λ ys. ys ++ get_or us (j + 1) x ∷ drop (j + 1 + 1) us) (take_more vs (j + 1) x (omega arith) ∙ ap (λ y. take (j + 1) vs ++ y ∷ []) (h.moved j x low high))
    ∙ append_assoc (take (j + 1) vs) (get_or us j x ∷ []) (get_or us (j + 1) x ∷ drop (j + 1 + 1) us)
    ∙ ap (λ ys. take (j + 1) vs ++ get_or us j x ∷ ys) (sym (drop_more us (j + 1) x (omega arith)))
    ∙ before

steps : {X : Type 0} (from last : ℕ) (us vs : List X) (x : X) → IsMoved from last us vs → last < length us → length vs ≡ length us → get_or vs from x ≡ x → (m i : ℕ) → i ≡ from + m → i ≤ last → IsCarried from us vs x i
steps from last us vs x h inside long first zero i is most =
    let e : from ≡ i = omega arith in
    subst (λ n. IsCarried from us vs x n) e (first_step from last us vs x h (omega arith) long first)
steps from last us vs x h inside long first (suc m) i is most =
    let e : from + m + 1 ≡ i = omega arith in
    subst (λ n. IsCarried from us vs x n) e (next_step from last us vs x h inside long (from + m) (omega arith) (omega arith) (steps from last us vs x h inside long first m (from + m) refl (omega arith)))

-- a key that comes to the first place, and one that goes from the last
pub moved_in : {X : Type 0} (from last : ℕ) (us vs : List X) (x y : X) → IsMoved from last us vs → from ≤ last → last < length us → length vs ≡ length us → get_or vs from x ≡ x → y ≡ get_or us last x → insert vs (last + 1) y ≡ insert us from x
moved_in from last us vs x y h order inside long first is =
    ap (λ z. take (last + 1) vs ++ z ∷ drop (last + 1) vs) is
    ∙ ap (λ ys. take (last + 1) vs ++ get_or us last x ∷ ys) (same_back vs us (last + 1) long (λ k d high. h.behind k d (omega arith)))
    ∙ steps from last us vs x h inside long first (last - from) last (omega arith) (omega arith)

module _ {X : Type 0} (n head from last a b : ℕ) (us vs : List X) (long_us : length us ≡ n) (long_vs : length vs ≡ n) (h : IsMoved a b us vs) where
  -- at a place that isn't between these
  apart : (j : ℕ) (d : X) → (j < a) ⊎ (b < j) → get_or vs j d ≡ get_or us j d
  apart j d (inl low) = h.before j d low
  apart j d (inr high) = h.behind j d high

  -- item k of both
  pub same_at : (k : ℕ) (d : X) → head < n → k < n → (head + k < n → (head + k < a) ⊎ (b < head + k)) → (n ≤ head + k → (head + k - n < a) ⊎ (b < head + k - n)) → get_or (turned head vs) k d ≡ get_or (turned head us) k d
  same_at k d hn kn below above = go (cases_lt (head + k) n)
    where
      go : (head + k < n) ⊎ (n ≤ head + k) → get_or (turned head vs) k d ≡ get_or (turned head us) k d
      go (inl lt) = turned_below n head k vs d long_vs lt ∙ apart (head + k) d (below lt) ∙ sym (turned_below n head k us d long_us lt)
      go (inr le) = turned_above n head k vs d long_vs hn kn le ∙ apart (head + k - n) d (above le) ∙ sym (turned_above n head k us d long_us hn kn le)

  past : (k : ℕ) (d : X) → head < n → n ≤ k → get_or (turned head vs) k d ≡ get_or (turned head us) k d
  past k d hn le =
      get_or_past (turned head vs) k d (let l = length-turned head vs (omega arith) in omega arith)
      ∙ sym (get_or_past (turned head us) k d (let l = length-turned head us (omega arith) in omega arith))

  -- where the ring's end doesn't lie between the places
  pub moved_below : from ≤ last → head < n → head + last < n → a ≡ head + from → b ≡ head + last → IsMoved from last (turned head us) (turned head vs)
  moved_below order hn low ia ib =
      record {
        moved = λ k d above lt.
            turned_below n head (k + 1) vs d long_vs (omega arith)
            ∙ ap (λ j. get_or vs j d) (let e : head + (k + 1) ≡ head + k + 1 = omega arith in e)
            ∙ h.moved (head + k) d (omega arith) (omega arith)
            ∙ sym (turned_below n head k us d long_us (omega arith));
        before = λ k d lt. same_at k d hn (omega arith) (λ in_it. inl (omega arith)) (λ out. absurd (omega arith));
        behind = λ k d gt. behind k d gt (cases_lt k n);
      }
    where
      behind : (k : ℕ) (d : X) → last < k → (k < n) ⊎ (n ≤ k) → get_or (turned head vs) k d ≡ get_or (turned head us) k d
      behind k d gt (inl lt) = same_at k d hn lt (λ in_it. inr (omega arith)) (λ out. inl (omega arith))
      behind k d gt (inr le) = past k d hn le

  pub moved_above : from ≤ last → head < n → last < n → n ≤ head + from → a + n ≡ head + from → b + n ≡ head + last → IsMoved from last (turned head us) (turned head vs)
  moved_above order hn inside high ia ib =
      record {
        moved = λ k d above lt.
            turned_above n head (k + 1) vs d long_vs hn (omega arith) (omega arith)
            ∙ ap (λ j. get_or vs j d) (let e : head + (k + 1) - n ≡ head + k - n + 1 = omega arith in e)
            ∙ h.moved (head + k - n) d (omega arith) (omega arith)
            ∙ sym (turned_above n head k us d long_us hn (omega arith) (omega arith));
        before = λ k d lt. same_at k d hn (omega arith) (λ in_it. inr (omega arith)) (λ out. inl (omega arith));
        behind = λ k d gt. behind k d gt (cases_lt k n);
      }
    where
      behind : (k : ℕ) (d : X) → last < k → (k < n) ⊎ (n ≤ k) → get_or (turned head vs) k d ≡ get_or (turned head us) k d
      behind k d gt (inl lt) = same_at k d hn lt (λ in_it. absurd (omega arith)) (λ out. inr (omega arith))
      behind k d gt (inr le) = past k d hn le

  -- the keys of the turned ring, where the ring's end doesn't lie between the places
  pub shifted : (x y : X) → from ≤ last → last < n → head < n → (head + from < n → a ≡ head + from) → (n ≤ head + from → a + n ≡ head + from) → (head + last < n → b ≡ head + last) → (n ≤ head + last → b + n ≡ head + last) → a ≤ b → get_or vs a x ≡ x → y ≡ get_or us b x → insert (turned head vs) (last + 1) y ≡ insert (turned head us) from x
  shifted x y order inside hn a_low a_high b_low b_high flat first is = go (cases_lt (head + from) n) (cases_lt (head + last) n)
    where
      long : (ring : List X) → length ring ≡ n → length (turned head ring) ≡ n
      long ring l = length-turned head ring (omega arith) ∙ l

      result : IsMoved from last (turned head us) (turned head vs) → get_or (turned head vs) from x ≡ x → y ≡ get_or (turned head us) last x → insert (turned head vs) (last + 1) y ≡ insert (turned head us) from x
      result m f l = moved_in from last (turned head us) (turned head vs) x y m order (let e = long us long_us in omega arith) (long vs long_vs ∙ sym (long us long_us)) f l

      go : (head + from < n) ⊎ (n ≤ head + from) → (head + last < n) ⊎ (n ≤ head + last) → insert (turned head vs) (last + 1) y ≡ insert (turned head us) from x
      go (inl fl) (inl ll) =
          result (moved_below order hn ll (a_low fl) (b_low ll))
          (turned_below n head from vs x long_vs fl ∙ ap (λ j. get_or vs j x) (sym (a_low fl)) ∙ first)
          (is ∙ ap (λ j. get_or us j x) (b_low ll) ∙ sym (turned_below n head last us x long_us ll))
      go (inl fl) (inr lh) = absurd (let p = a_low fl in let q = b_high lh in omega arith)
      go (inr fh) (inl ll) = absurd (omega arith)
      go (inr fh) (inr lh) =
          result (moved_above order hn inside fh (a_high fh) (b_high lh))
          (turned_above n head from vs x long_vs hn (omega arith) fh ∙ ap (λ j. get_or vs j x) (let p = a_high fh in let e : head + from - n ≡ a = omega arith in e) ∙ first)
          (is ∙ ap (λ j. get_or us j x) (let q = b_high lh in let e : b ≡ head + last - n = omega arith in e) ∙ sym (turned_above n head last us x long_us hn inside lh))

-- the same where the ring's end lies between the places: first the keys before the end move, then those behind it
pub across : {X : Type 0} (n head from last a b : ℕ) (us vs ws : List X) (x y z : X) → length us ≡ n → length vs ≡ n → length ws ≡ n → from ≤ last → last < n → head < n
    → (head + from < n → a ≡ head + from) → (n ≤ head + from → a + n ≡ head + from) → (head + last < n → b ≡ head + last) → (n ≤ head + last → b + n ≡ head + last) → b < a
    → IsMoved a (n - 1) us vs → get_or vs a x ≡ x → y ≡ get_or us (n - 1) x → IsMoved 0 b vs ws → get_or ws 0 y ≡ y → z ≡ get_or vs b y
    → insert (turned head ws) (last + 1) z ≡ insert (turned head us) from x
across n head from last a b us vs ws x y z long_us long_vs long_ws order inside hn a_low a_high b_low b_high turns h first_in first_out k second_in second_out =
    shifted n head (n - 1 - head + 1) last 0 b vs ws long_vs long_ws k y z (omega (arith, behind)) inside hn
    (λ lt. absurd (omega arith)) (λ _. omega arith) b_low b_high (omega arith) second_in second_out
    ∙ shifted n head from (n - 1 - head) a (n - 1) us vs long_us long_vs h x y (omega (arith, before)) (omega arith) hn
    a_low a_high (λ _. omega arith) (λ le. absurd (omega arith)) (omega (arith, before, a_low before)) first_in first_out
  where
    before : head + from < n
    before = elim (cases_lt (head + from) n) [
      | inl lt ↦ lt
      | inr le ↦ absurd (omega (arith, a_high le, b_high (omega arith)))
    ]

    behind : n ≤ head + last
    behind = elim (cases_lt (head + last) n) [
      | inl lt ↦ absurd (omega (arith, a_low before, b_low lt))
      | inr le ↦ le
    ]
