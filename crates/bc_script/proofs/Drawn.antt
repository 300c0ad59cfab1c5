-- The lines that are drawn, one more each time, and where they lie.
use Rattle.std.proofs.Common.{◌≡◌, ◌≢◌, ◌⊎◌, inl, inr, ℕ, suc, ◌+◌, ◌-◌, ◌*◌, ◌/◌, ◌%◌, ◌<◌, ◌≤◌, Bool, true, false, nat_lt, if◌then◌else◌, [], ◌∷◌, ◌++◌, refl, ap, ◌∙◌, sym, arith}
use Rattle.std.proofs.lemmas.Nat.{mod_below, mul-le}
use Rattle.std.proofs.lemmas.Bool.{cases_order}
use Rattle.bc_script.specs.declared.line.Action.TheVariants.{Write, Read, Flush}
use Rattle.bc_script.specs.Generator.{next_drawn, drawn, drawn_line, drawn_action, generated, worker_of, region_of, first_of, count_of, IsWithin, ActsOn, Touches}

pub drawn_first : (start : ℕ) → start ≡ drawn start 0
unfolding drawn
drawn_first start = refl

pub drawn_more : (start made number next : ℕ) → number ≡ drawn start made → next ≡ next_drawn number → next ≡ drawn start (made + 1)
unfolding drawn
drawn_more start made number next is more =
    let e : suc made ≡ made + 1 = omega arith in
    more ∙ ap (λ x. next_drawn x) is ∙ ap (λ n. drawn start n) e

pub generated_first : (start workers size : ℕ) → [] ≡ generated start workers size 0
unfolding generated
generated_first start workers size = refl

pub generated_more : (start workers size made number : ℕ) → number ≡ drawn start (made + 1)
    → generated start workers size made ++ drawn_line workers size (made + 1) number ∷ [] ≡ generated start workers size (made + 1)
unfolding generated
generated_more start workers size made number is =
    let e : made + 1 ≡ suc made = omega arith in
    ap (λ x. generated start workers size made ++ drawn_line workers size (made + 1) x ∷ []) is
    ∙ ap (λ n. generated start workers size made ++ drawn_line workers size n (drawn start n) ∷ []) e
    ∙ ap (λ n. generated start workers size n) (sym e)

acts : (kind first count stamp s : ℕ) → ActsOn (drawn_action kind first count stamp) s → IsWithin first count s
acts kind first count stamp s = go (nat_lt kind 4) (nat_lt kind 7)
  where
    go : (a b : Bool) → ActsOn (if a then Write first count stamp else (if b then Read first count else Flush)) s → IsWithin first count s
    go true b h = h
    go false true h = h
    go false false h = absurd h

-- a line touches sectors of its worker's region alone
pub stays : (workers size k x s : ℕ) → 64 ≤ region_of workers size → Touches (drawn_line workers size k x) s
    → ((worker_of workers k - 1) * region_of workers size ≤ s) × (s < (worker_of workers k - 1) * region_of workers size + region_of workers size)
unfolding drawn_line
stays workers size k x s room touches =
    within (region_of workers size) ((worker_of workers k - 1) * region_of workers size) room (acts (x / 65536 % 8) (first_of workers size k x) (count_of x) k s touches)
  where
    within : (r base : ℕ) → 64 ≤ r → IsWithin (base + x % (r - 63)) (count_of x) s → (base ≤ s) × (s < base + r)
    within r base room h =
        let low = h.0 in
        let high = h.1 in
        let below = mod_below x (r - 63) (omega arith) in
        (omega arith, omega arith)

-- and so none of another's
apart : (r a b s : ℕ) → a < b → a * r ≤ s → s < a * r + r → b * r ≤ s → ⊥
apart r a b s less low high above =
    let more = mul-le (a + 1) r b r (omega arith) (omega arith) in
    let wide : (a + 1) * r ≡ a * r + r = omega arith in
    omega arith

pub workers_apart : (workers size k j x y s : ℕ) → 64 ≤ region_of workers size → worker_of workers k ≢ worker_of workers j
    → Touches (drawn_line workers size k x) s → Touches (drawn_line workers size j y) s → ⊥
workers_apart workers size k j x y s room differ one two =
    let a = stays workers size k x s room one in
    let b = stays workers size j y s room two in
    let low = a.0 in
    let high = a.1 in
    let low' = b.0 in
    let high' = b.1 in
    go (cases_order (worker_of workers k - 1) (worker_of workers j - 1)) low high low' high'
  where
    go : ((worker_of workers k - 1) ≡ (worker_of workers j - 1)) ⊎ (((worker_of workers k - 1) < (worker_of workers j - 1)) ⊎ ((worker_of workers j - 1) < (worker_of workers k - 1)))
        → (worker_of workers k - 1) * region_of workers size ≤ s → s < (worker_of workers k - 1) * region_of workers size + region_of workers size
        → (worker_of workers j - 1) * region_of workers size ≤ s → s < (worker_of workers j - 1) * region_of workers size + region_of workers size → ⊥
    go (inl same) l h l' h' = differ (omega arith)
    go (inr (inl less)) l h l' h' = apart (region_of workers size) (worker_of workers k - 1) (worker_of workers j - 1) s less l h l'
    go (inr (inr less)) l h l' h' = apart (region_of workers size) (worker_of workers j - 1) (worker_of workers k - 1) s less l' h' l

-- a worker's region begins below the size, and ends there at last
pub base_fits : (before workers room size : ℕ) → before < workers → room ≡ size / workers → before * room + room ≤ size
base_fits before workers room size less is =
    let more = mul-le (before + 1) room workers room (omega arith) (omega arith) in
    let wide : (before + 1) * room ≡ before * room + room = omega arith in
    let whole = div_le workers size (omega arith) in
    let times : workers * room ≡ workers * (size / workers) = ap (λ n. workers * n) is in
    omega arith
  where
    div_le : (n m : ℕ) → 0 < n → n * (m / n) ≤ m
    div_le n m some = omega arith
