-- A history whose entries are marked with the numbers of their lines.
use Rattle.std.proofs.Common.{◌≡◌, ◌≢◌, ◌⊎◌, inl, inr, ℕ, zero, suc, ◌+◌, ◌<◌, ◌≤◌, if◌then◌else◌, List, [], ◌∷◌, ◌++◌, length, Option, Some, None, refl, sym, ap, ◌∙◌, subst, arith, append-nil, length-append}
use Rattle.std.specs.Prelude.{All, slice_get}
use Rattle.std.proofs.lemmas.List.Elements.{All-head, All-tail}
use Rattle.std.specs.List.{AllByRecursion}
use Rattle.bc_model.specs.declared.history.Entry.{Entry}
use Rattle.bc_script.specs.declared.line.Action.{Action}
use Rattle.bc_script.specs.declared.line.Line.{Line}
use Rattle.bc_script.specs.declared.line.Line.TheVariants.{Silent, Request}
use Rattle.bc_script.specs.declared.answer.Answer.{Answer}
use Rattle.bc_script.specs.Served.{Marked, entries_of, own, ServesEach, ServesLine, ServedFrom, Served, line_at, AreBeside, MayPrecede, MayStandBefore, AreInOrder, IsOfLine, IsOf}
use Rattle.bc_script.specs.Proper.{IsLine}
use Rattle.bc_script.proofs.Cases.{by_test}

abbrev mark : ℕ → List Entry → List Marked
mark number [] = []
mark number (e ∷ es) = record { number = number; entry = e } ∷ mark number es

-- each number lies from one to below another
abbrev IsBetween : ℕ → ℕ → Marked → Type 0
IsBetween low high m = (low ≤ m.number) × (m.number < high)

abbrev AreBetween : ℕ → ℕ → List Marked → Type 0
AreBetween low high [] = Unit {0}
AreBetween low high (m ∷ ms) = IsBetween low high m × AreBetween low high ms

-- no number falls
abbrev AllFrom : ℕ → List Marked → Type 0
AllFrom low [] = Unit {0}
AllFrom low (m ∷ ms) = (low ≤ m.number) × AllFrom low ms

abbrev Rises : List Marked → Type 0
Rises [] = Unit {0}
Rises (m ∷ ms) = AllFrom m.number ms × Rises ms

marked_entries : (number : ℕ) (es : List Entry) (later : List Marked) → entries_of (mark number es ++ later) ≡ es ++ entries_of later
marked_entries number [] later = refl
marked_entries number (e ∷ es) later = ap (λ (xs : List Entry). e ∷ xs) (marked_entries number es later)

-- a line's own entries among others
own_here : (number : ℕ) (e : Entry) (ms : List Marked) → own number (record { number = number; entry = e } ∷ ms) ≡ e ∷ own number ms
own_here number e ms = by_test number number (λ t. (if t then e ∷ own number ms else own number ms) ≡ e ∷ own number ms) (λ same. refl) (λ other. absurd (other refl))

pub own_other : (number : ℕ) (m : Marked) (ms : List Marked) → m.number ≢ number → own number (m ∷ ms) ≡ own number ms
own_other number m ms other = by_test m.number number (λ t. (if t then m.entry ∷ own number ms else own number ms) ≡ own number ms) (λ same. absurd (other same)) (λ _. refl)

pub own_is : (number : ℕ) (m : Marked) (ms : List Marked) → m.number ≡ number → own number (m ∷ ms) ≡ m.entry ∷ own number ms
own_is number m ms is = by_test m.number number (λ t. (if t then m.entry ∷ own number ms else own number ms) ≡ m.entry ∷ own number ms) (λ same. refl) (λ other. absurd (other is))

own_marked : (number : ℕ) (es : List Entry) (later : List Marked) → own number (mark number es ++ later) ≡ es ++ own number later
own_marked number [] later = refl
own_marked number (e ∷ es) later = own_here number e (mark number es ++ later) ∙ ap (λ (xs : List Entry). e ∷ xs) (own_marked number es later)

own_behind : (number other : ℕ) (es : List Entry) (later : List Marked) → other ≢ number → own number (mark other es ++ later) ≡ own number later
own_behind number other [] later differ = refl
own_behind number other (e ∷ es) later differ = own_other number (record { number = other; entry = e }) (mark other es ++ later) differ ∙ own_behind number other es later differ

own_none : (number low high : ℕ) (ms : List Marked) → AreBetween low high ms → (number < low) ⊎ (high ≤ number) → own number ms ≡ []
own_none number low high [] all out = refl
own_none number low high (m ∷ ms) all (inl below) = own_other number m ms (λ same. let l = all.0.0 in omega arith) ∙ own_none number low high ms all.1 (inl below)
own_none number low high (m ∷ ms) all (inr above) = own_other number m ms (λ same. let l = all.0.1 in omega arith) ∙ own_none number low high ms all.1 (inr above)

own_front : (number other : ℕ) (es : List Entry) (ms : List Marked) → other ≢ number → own number (ms ++ mark other es) ≡ own number ms
own_front number other es [] differ =
    ap (λ (xs : List Marked). own number xs) (sym (append-nil (mark other es))) ∙ own_behind number other es [] differ
own_front number other es (m ∷ ms) differ =
    by_test m.number number (λ t. (if t then m.entry ∷ own number (ms ++ mark other es) else own number (ms ++ mark other es)) ≡ (if t then m.entry ∷ own number ms else own number ms))
    (λ same. ap (λ (xs : List Entry). m.entry ∷ xs) (own_front number other es ms differ)) (λ _. own_front number other es ms differ)

own_last : (number low : ℕ) (es : List Entry) (ms : List Marked) → AreBetween low number ms → own number (ms ++ mark number es) ≡ es
own_last number low es [] all = ap (λ (xs : List Marked). own number xs) (sym (append-nil (mark number es))) ∙ own_marked number es [] ∙ append-nil es
own_last number low es (m ∷ ms) all = own_other number m (ms ++ mark number es) (λ same. let l = all.0.1 in omega arith) ∙ own_last number low es ms all.1

-- the service of lines rests on their own entries alone
each_by_own : (size number : ℕ) (lines : List Line) (answers : List Answer) (ms ns : List Marked) → ((k : ℕ) → number ≤ k → k < number + length lines → own k ms ≡ own k ns)
    → ServesEach size number lines answers ms → ServesEach size number lines answers ns
each_by_own size number [] [] ms ns same h = tt
each_by_own size number [] (a ∷ rest) ms ns same h = absurd h
each_by_own size number (l ∷ ls) [] ms ns same h = absurd h
each_by_own size number (l ∷ ls) (a ∷ rest) ms ns same h =
    let P : List Entry → Type 0 = λ es. ServesLine size number l a es in
    (subst P (same number (omega arith) (omega arith)) h.0, each_by_own size (suc number) ls rest ms ns (λ k low high. same k (omega arith) (omega arith)) h.1)

-- ---- entries that stand line behind line

between_more : (low low' high high' : ℕ) (ms : List Marked) → low' ≤ low → high ≤ high' → AreBetween low high ms → AreBetween low' high' ms
between_more low low' high high' [] l h all = tt
between_more low low' high high' (m ∷ ms) l h all = ((let a = all.0.0 in omega arith, let b = all.0.1 in omega arith), between_more low low' high high' ms l h all.1)

mark_between : (number : ℕ) (es : List Entry) (high : ℕ) (later : List Marked) → number < high → AreBetween number high later → AreBetween number high (mark number es ++ later)
mark_between number [] high later lt all = all
mark_between number (e ∷ es) high later lt all = ((omega arith, lt), mark_between number es high later lt all)

from_between : (low low' high : ℕ) (ms : List Marked) → low' ≤ low → AreBetween low high ms → AllFrom low' ms
from_between low low' high [] l all = tt
from_between low low' high (m ∷ ms) l all = (let a = all.0.0 in omega arith, from_between low low' high ms l all.1)

mark_rises : (number : ℕ) (es : List Entry) (high : ℕ) (later : List Marked) → AreBetween number high later → number < high → Rises later → Rises (mark number es ++ later)
mark_rises number [] high later all lt rises = rises
mark_rises number (e ∷ es) high later all lt rises = (from_between number number high (mark number es ++ later) (omega arith) (mark_between number es high later lt all), mark_rises number es high later all lt rises)

record Marking (size number : ℕ) (lines : List Line) (answers : List Answer) (history : List Entry) : Type 0 where
  marked : List Marked
  entries : entries_of marked ≡ history
  between : AreBetween number (number + length lines) marked
  serves : ServesEach size number lines answers marked
  rises : Rises marked

marking : (size number : ℕ) (lines : List Line) (answers : List Answer) (history : List Entry) → ServedFrom size number lines answers history → Marking size number lines answers history
marking size number [] [] history h = record { marked = []; entries = sym h; between = tt; serves = tt; rises = tt }
marking size number [] (a ∷ rest) history h = absurd h
marking size number (l ∷ ls) [] history h = absurd h
marking size number (l ∷ ls) (a ∷ rest) history (front, later, is, serves, behind) =
    let m = marking size (suc number) ls rest later behind in
    let high = number + length (l ∷ ls) in
    let between : AreBetween (suc number) high m.marked = between_more (suc number) (suc number) (suc number + length ls) high m.marked (omega arith) (omega arith) m.between in
    let wide : AreBetween number high m.marked = between_more (suc number) number high high m.marked (omega arith) (omega arith) between in
    let none = own_none number (suc number) high m.marked between (inl (omega arith)) in
    let here : own number (mark number front ++ m.marked) ≡ front = own_marked number front m.marked ∙ ap (λ (es : List Entry). front ++ es) none ∙ append-nil front in
    let P : List Entry → Type 0 = λ es. ServesLine size number l a es in
    record {
      marked = mark number front ++ m.marked;
      entries = marked_entries number front m.marked ∙ ap (λ (es : List Entry). front ++ es) m.entries ∙ sym is;
      between = mark_between number front high m.marked (omega arith) wide;
      serves = (
        subst P (sym here) serves,
        each_by_own size (suc number) ls rest m.marked (mark number front ++ m.marked)
            (λ k low below. sym (own_behind k number front m.marked (λ same. omega arith))) m.serves,
      );
      rises = mark_rises number front high m.marked wide (omega arith) m.rises;
    }

before_all : (lines : List Line) (m : Marked) (ms : List Marked) → AllFrom m.number ms → MayStandBefore lines m ms
before_all lines m [] all = tt
before_all lines m (n ∷ ns) all = (inl all.0, before_all lines m ns all.1)

rises_in_order : (lines : List Line) (ms : List Marked) → Rises ms → AreInOrder lines ms
rises_in_order lines [] rises = tt
rises_in_order lines (m ∷ ms) rises = (before_all lines m ms rises.0, rises_in_order lines ms rises.1)

between_known : (count : ℕ) (ms : List Marked) → AreBetween 1 (1 + count) ms → AllByRecursion (IsOfLine count) ms
between_known count [] all = tt
between_known count (m ∷ ms) all = ((all.0.0, let h = all.0.1 in omega arith), between_known count ms all.1)

known_between : (count : ℕ) (ms : List Marked) → AllByRecursion (IsOfLine count) ms → AreBetween 1 (1 + count) ms
known_between count [] all = tt
known_between count (m ∷ ms) all = ((all.0.0, let h = all.0.1 in omega arith), known_between count ms all.1)

pub is_served : (size : ℕ) (lines : List Line) (answers : List Answer) (history : List Entry) → ServedFrom size 1 lines answers history → Served size lines answers history
is_served size lines answers history h =
    let m = marking size 1 lines answers history h in
    record {
      marked = m.marked;
      entries = m.entries;
      known = between_known (length lines) m.marked m.between;
      serves = m.serves;
      order = rises_in_order lines m.marked m.rises;
    }

-- ---- the lines of one worker

at_of : (worker : ℕ) (lines : List Line) (n w p : ℕ) (a : Action) → AllByRecursion (IsOf worker) lines → slice_get lines n ≡ Some (Request w p a) → w ≡ worker
at_of worker [] n w p a all at = absurd (cc)
at_of worker (Silent ∷ ls) zero w p a all at = absurd (cc)
at_of worker (Request v q b ∷ ls) zero w p a all at = let same : v ≡ w = cc in sym same ∙ all.0
at_of worker (l ∷ ls) (suc n) w p a all at = at_of worker ls n w p a all.1 at

line_of_worker : (worker : ℕ) (lines : List Line) (n w p : ℕ) (a : Action) → AllByRecursion (IsOf worker) lines → line_at lines n ≡ Some (Request w p a) → w ≡ worker
line_of_worker worker lines zero w p a all at = absurd (cc)
line_of_worker worker lines (suc n) w p a all at = at_of worker lines n w p a all at

-- two lines of one worker aren't served beside each other
not_beside : (worker : ℕ) (x y : Option Line) → ((w p : ℕ) (a : Action) → x ≡ Some (Request w p a) → w ≡ worker) → ((w p : ℕ) (a : Action) → y ≡ Some (Request w p a) → w ≡ worker) → AreBeside x y → ⊥
not_beside worker None y one two h = h
not_beside worker (Some Silent) y one two h = h
not_beside worker (Some (Request w p a)) None one two h = h
not_beside worker (Some (Request w p a)) (Some Silent) one two h = h
not_beside worker (Some (Request w p a)) (Some (Request v q b)) one two h = h.0 (one w p a refl ∙ sym (two v q b refl))

all_from : (worker : ℕ) (lines : List Line) (m : Marked) (ms : List Marked) → AllByRecursion (IsOf worker) lines → MayStandBefore lines m ms → AllFrom m.number ms
all_from worker lines m [] all order = tt
all_from worker lines m (n ∷ ns) all order = (go order.0, all_from worker lines m ns all order.1)
  where
    go : MayPrecede lines m n → m.number ≤ n.number
    go (inl le) = le
    go (inr beside) = absurd (not_beside worker (line_at lines m.number) (line_at lines n.number)
        (λ w p a at. line_of_worker worker lines m.number w p a all at) (λ w p a at. line_of_worker worker lines n.number w p a all at) beside)

order_rises : (worker : ℕ) (lines : List Line) (ms : List Marked) → AllByRecursion (IsOf worker) lines → AreInOrder lines ms → Rises ms
order_rises worker lines [] all order = tt
order_rises worker lines (m ∷ ms) all order = (all_from worker lines m ms all order.0, order_rises worker lines ms all order.1)

-- a rising marking from a number on: first the entries of this number
record Cut (number high : ℕ) (ms : List Marked) : Type 0 where
  front : List Entry
  rest : List Marked
  parts : ms ≡ mark number front ++ rest
  between : AreBetween (suc number) high rest
  rises : Rises rest

lifted : (number low high : ℕ) (ms : List Marked) → number < low → AllFrom low ms → AreBetween number high ms → AreBetween (suc number) high ms
lifted number low high [] lt from all = tt
lifted number low high (m ∷ ms) lt from all = ((let a = from.0 in omega arith, all.0.1), lifted number low high ms lt from.1 all.1)

cut : (number high : ℕ) (ms : List Marked) → AreBetween number high ms → Rises ms → Cut number high ms
cut number high [] all rises = record { front = []; rest = []; parts = refl; between = tt; rises = tt }
cut number high (m ∷ ms) all rises = by_test m.number number (λ _. Cut number high (m ∷ ms))
    (λ same. let c = cut number high ms all.1 rises.1 in
    let P : ℕ → Type 0 = λ k. m ∷ ms ≡ record { number = k; entry = m.entry } ∷ mark number c.front ++ c.rest in
    record { front = m.entry ∷ c.front; rest = c.rest; parts = subst P same (ap (λ (xs : List Marked). m ∷ xs) c.parts); between = c.between; rises = c.rises })
    (λ other. let low = all.0.0 in
    record {
      front = [];
      rest = m ∷ ms;
      parts = refl;
      between = ((omega arith, all.0.1), lifted number m.number high ms (omega arith) rises.0 all.1);
      rises = rises;
    })

none_between : (number : ℕ) (ms : List Marked) → AreBetween number (number + 0) ms → ms ≡ []
none_between number [] all = refl
none_between number (m ∷ ms) all = absurd (let a = all.0.0 in let b = all.0.1 in omega arith)

line_by_line : (size number : ℕ) (lines : List Line) (answers : List Answer) (ms : List Marked) → AreBetween number (number + length lines) ms → Rises ms → ServesEach size number lines answers ms
    → ServedFrom size number lines answers (entries_of ms)
line_by_line size number [] [] ms all rises h = ap (λ (xs : List Marked). entries_of xs) (none_between number ms all)
line_by_line size number [] (a ∷ rest) ms all rises h = absurd h
line_by_line size number (l ∷ ls) [] ms all rises h = absurd h
line_by_line size number (l ∷ ls) (a ∷ rest) ms all rises h =
    let high = number + length (l ∷ ls) in
    let c = cut number high ms all rises in
    let none = own_none number (suc number) high c.rest c.between (inl (omega arith)) in
    let here : own number ms ≡ c.front = ap (λ (xs : List Marked). own number xs) c.parts ∙ own_marked number c.front c.rest ∙ ap (λ (es : List Entry). c.front ++ es) none ∙ append-nil c.front in
    let P : List Entry → Type 0 = λ es. ServesLine size number l a es in
    let later : ServesEach size (suc number) ls rest c.rest = each_by_own size (suc number) ls rest ms c.rest
    (λ k low below. ap (λ (xs : List Marked). own k xs) c.parts ∙ own_behind k number c.front c.rest (λ same. omega arith)) h.1 in (
      c.front,
      entries_of c.rest,
      ap (λ (xs : List Marked). entries_of xs) c.parts ∙ marked_entries number c.front c.rest,
      subst P here h.0,
      line_by_line size (suc number) ls rest c.rest (between_more (suc number) (suc number) high (suc number + length ls) c.rest (omega arith) (omega arith) c.between) c.rises later,
    )

pub one_by_one : (size worker : ℕ) (lines : List Line) (answers : List Answer) (history : List Entry) → AllByRecursion (IsOf worker) lines → Served size lines answers history → ServedFrom size 1 lines answers history
one_by_one size worker lines answers history all h =
    let P : List Entry → Type 0 = λ es. ServedFrom size 1 lines answers es in
    subst P h.entries (line_by_line size 1 lines answers h.marked (known_between (length lines) h.marked h.known) (order_rises worker lines h.marked all h.order) h.serves)

one_of : (l : Line) → IsLine l → IsOf 1 l
one_of Silent h = tt
one_of (Request w p a) h = h.worker_is

-- the lines of a trace are of the first worker
pub of_first : (lines : List Line) → All IsLine lines → AllByRecursion (IsOf 1) lines
of_first [] all = tt
of_first (l ∷ ls) all = (one_of l (All-head IsLine l ls all), of_first ls (All-tail IsLine l ls all))

-- ---- one line more

get_front : (lines : List Line) (l : Line) (n : ℕ) → n < length lines → slice_get (lines ++ l ∷ []) n ≡ slice_get lines n
get_front [] l n lt = absurd (omega arith)
get_front (x ∷ xs) l zero lt = refl
get_front (x ∷ xs) l (suc n) lt = get_front xs l n (omega arith)

at_front : (lines : List Line) (l : Line) (n : ℕ) → n ≤ length lines → line_at (lines ++ l ∷ []) n ≡ line_at lines n
at_front lines l zero le = refl
at_front lines l (suc n) le = get_front lines l n (omega arith)

precedes_still : (lines : List Line) (l : Line) (m n : Marked) → m.number ≤ length lines → n.number ≤ length lines → MayPrecede lines m n → MayPrecede (lines ++ l ∷ []) m n
precedes_still lines l m n le le' (inl before) = inl before
precedes_still lines l m n le le' (inr beside) =
    let P : Option Line → Option Line → Type 0 = λ x y. AreBeside x y in
    let Q : Option Line → Type 0 = λ x. AreBeside x (line_at (lines ++ l ∷ []) n.number) in
    let R : Option Line → Type 0 = λ y. AreBeside (line_at lines m.number) y in
    inr (subst Q (sym (at_front lines l m.number le)) (subst R (sym (at_front lines l n.number le')) beside))

stands_still : (lines : List Line) (l : Line) (es : List Entry) (m : Marked) (ms : List Marked) → m.number ≤ length lines → AllByRecursion (IsOfLine (length lines)) ms
    → MayStandBefore lines m ms → MayStandBefore (lines ++ l ∷ []) m (ms ++ mark (suc (length lines)) es)
stands_still lines l [] m [] le known order = tt
stands_still lines l (e ∷ es) m [] le known order = (inl (omega arith), stands_still lines l es m [] le known order)
stands_still lines l es m (n ∷ ns) le known order = (precedes_still lines l m n le known.0.1 order.0, stands_still lines l es m ns le known.1 order.1)

last_rises : (number : ℕ) (es : List Entry) → AllFrom number (mark number es) × Rises (mark number es)
last_rises number [] = (tt, tt)
last_rises number (e ∷ es) = let rest = last_rises number es in ((omega arith, rest.0), (rest.0, rest.1))

order_still : (lines : List Line) (l : Line) (es : List Entry) (ms : List Marked) → AllByRecursion (IsOfLine (length lines)) ms
    → AreInOrder lines ms → AreInOrder (lines ++ l ∷ []) (ms ++ mark (suc (length lines)) es)
order_still lines l es [] known order = rises_in_order (lines ++ l ∷ []) (mark (suc (length lines)) es) (last_rises (suc (length lines)) es).1
order_still lines l es (m ∷ ms) known order = (stands_still lines l es m ms known.0.1 known.1 order.0, order_still lines l es ms known.1 order.1)

known_still : (count : ℕ) (es : List Entry) (ms : List Marked) → AllByRecursion (IsOfLine count) ms → AllByRecursion (IsOfLine (suc count)) (ms ++ mark (suc count) es)
known_still count [] [] known = tt
known_still count (e ∷ es) [] known = ((omega arith, omega arith), known_still count es [] known)
known_still count es (m ∷ ms) known = ((known.0.0, let h = known.0.1 in omega arith), known_still count es ms known.1)

each_still : (size number : ℕ) (lines : List Line) (answers : List Answer) (l : Line) (a : Answer) (ms : List Marked) → ServesEach size number lines answers ms
    → ServesLine size (number + length lines) l a (own (number + length lines) ms) → ServesEach size number (lines ++ l ∷ []) (answers ++ a ∷ []) ms
each_still size number [] [] l a ms h new =
    let P : ℕ → Type 0 = λ n. ServesLine size n l a (own n ms) in
    let e : number + 0 ≡ number = omega arith in
    (subst P e new, tt)
each_still size number [] (b ∷ bs) l a ms h new = absurd h
each_still size number (x ∷ xs) [] l a ms h new = absurd h
each_still size number (x ∷ xs) (b ∷ bs) l a ms h new =
    let P : ℕ → Type 0 = λ n. ServesLine size n l a (own n ms) in
    let e : number + suc (length xs) ≡ suc number + length xs = omega arith in
    (h.0, each_still size (suc number) xs bs l a ms h.1 (subst P e new))

entries_last : (ms ns : List Marked) → entries_of (ms ++ ns) ≡ entries_of ms ++ entries_of ns
entries_last [] ns = refl
entries_last (m ∷ ms) ns = ap (λ (es : List Entry). m.entry ∷ es) (entries_last ms ns)

pub one_more : (size : ℕ) (lines : List Line) (answers : List Answer) (history es : List Entry) (l : Line) (a : Answer)
    → Served size lines answers history → ServesLine size (suc (length lines)) l a es → Served size (lines ++ l ∷ []) (answers ++ a ∷ []) (history ++ es)
one_more size lines answers history es l a h new =
    let number = suc (length lines) in
    let marked = h.marked ++ mark number es in
    let between = known_between (length lines) h.marked h.known in
    let long : length (lines ++ l ∷ []) ≡ number = length-append lines (l ∷ []) ∙ omega arith in
    let P : ℕ → Type 0 = λ n. AllByRecursion (IsOfLine n) marked in
    let Q : List Entry → Type 0 = λ xs. ServesLine size number l a xs in
    let R : ℕ → Type 0 = λ n. ServesLine size n l a (own n marked) in
    let e : number ≡ 1 + length lines = omega arith in
    let last : own number marked ≡ es = own_last number 1 es h.marked (between_more 1 1 (1 + length lines) number h.marked (omega arith) (omega arith) between) in
    let each : ServesEach size 1 lines answers marked = each_by_own size 1 lines answers h.marked marked (λ k low below. sym (own_front k number es h.marked (λ same. omega arith))) h.serves in
    record {
      marked = marked;
      entries = entries_last h.marked (mark number es) ∙ ap (λ (xs : List Entry). xs ++ entries_of (mark number es)) h.entries
          ∙ ap (λ (xs : List Entry). history ++ xs) (ap (λ (xs : List Marked). entries_of xs) (sym (append-nil (mark number es))) ∙ marked_entries number es [] ∙ append-nil es);
      known = subst P (sym long) (known_still (length lines) es h.marked h.known);
      serves = each_still size 1 lines answers l a marked each (subst R e (subst Q (sym last) new));
      order = order_still lines l es h.marked h.known h.order;
    }
