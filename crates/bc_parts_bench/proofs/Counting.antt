-- How many entries there are, counted seat by seat.
use Rattle.std.proofs.Common.{◌≡◌, ℕ, zero, suc, ◌+◌, ◌*◌, ◌<◌, ◌≤◌, ◌==◌, List, [], ◌∷◌, length, refl, sym, ap, ◌∙◌, ⊎_elim, arith}
use Rattle.std.specs.Prelude.{nat_lt, filter, Result, Ok, Err, OnOk}
use Rattle.std.specs.Result.{result_and}
use Rattle.std.proofs.lemmas.Bool.Decides.{nat_tests, leb_tells}
use Rattle.bc_parts.specs.declared.machine.Machine.{Ghosts}
use Rattle.bc_parts.specs.Machine.{IsRun}
use Rattle.bc_parts_bench.specs.declared.log.Entry.{Entry}
use Rattle.bc_parts_bench.specs.Seats.{count_of, EachAdded}

-- how many of the entries are of seats with smaller numbers
pub count_below : ℕ → List Entry → ℕ
count_below number entries = length (filter (λ e. nat_lt e.seat number) entries)

count_below-zero : (es : List Entry) → count_below 0 es ≡ 0
unfolding count_below
count_below-zero [] = refl
count_below-zero (e ∷ es) = let tail = count_below-zero es in grind (arith, nat_tests, tail)

count_below-suc : (number : ℕ) (es : List Entry) → count_below (suc number) es ≡ count_below number es + count_of number es
unfolding count_below
count_below-suc number [] = refl
count_below-suc number (e ∷ es) = let tail = count_below-suc number es in grind (arith, nat_tests, tail)

count_below-each : (number count : ℕ) (es : List Entry) → EachAdded 0 number count es → count_below number es ≡ number * count
count_below-each zero count es each = let none = count_below-zero es in omega (arith, none)
count_below-each (suc number) count es each =
    let below = count_below-each number count es (λ n low high. each n low (omega arith)) in
    let here = each number (omega arith) (omega arith) in
    let more = count_below-suc number es in omega (arith, below, here, more)

-- as many entries of each seat as of each other, and none of a seat beyond these
pub length-each : (number count : ℕ) (es : List Entry) → count_below number es ≡ length es → EachAdded 0 number count es → length es ≡ number * count
length-each number count es all each = sym all ∙ count_below-each number count es each

module _ {Z P B T : Type 0} (m : Ghosts Z P Entry B T) (number : ℕ) (small : (x : m.State) (e : Entry) → m.enabled x e → e.seat < number) where
  -- a run has entries of seats alone whose events may happen
  pub count_below-run : (x : m.State) (es : List Entry) → IsRun m x es → count_below number es ≡ length es
  unfolding count_below
  count_below-run x [] run = refl
  count_below-run x (e ∷ es) run = let tail = count_below-run (m.after x e) es run.1 in let here = small x e run.0 in grind (arith, nat_tests, tail, here)

-- two seats with numbers behind one another, whose entries are all in one list
pub EachAdded-join : (first middle end count : ℕ) (low high es : List Entry) → EachAdded first middle count low → EachAdded middle end count high
    → ((n : ℕ) → first ≤ n → n < middle → filter (λ e. e.seat == n) es ≡ filter (λ e. e.seat == n) low)
    → ((n : ℕ) → middle ≤ n → n < end → filter (λ e. e.seat == n) es ≡ filter (λ e. e.seat == n) high)
    → EachAdded first end count es
EachAdded-join first middle end count low high es below above same_below same_above = λ n from to.
    ⊎_elim (λ t. ap length (same_above n t.1 to) ∙ above n t.1 to) (λ t. ap length (same_below n from t.1) ∙ below n from t.1) (leb_tells middle n)

pub OnOk-and : {T U E P Q R : Type 0} (a : Result T E) (b : Result U E) → OnOk a P → OnOk b Q → (P → Q → R) → OnOk (result_and a b) R
OnOk-and (Ok x) (Ok y) p q both = both p q
OnOk-and (Ok x) (Err e) p q both = tt
OnOk-and (Err e) b p q both = tt
