-- What is put for answers, one line behind the other.
use Rattle.std.proofs.Common.{◌≡◌, ℕ, ◌+◌, ◌<◌, ◌≤◌, Bool, true, false, List, [], ◌∷◌, ◌++◌, length, get_or, take, drop, Result, Ok, Err, refl, sym, ap, ◌∙◌, subst, append_assoc, append-nil, arith}
use Rattle.std.specs.Prelude.{◌||◌, OnOk, IfErr, MatchResult}
use Rattle.std.specs.Bool.{OnFalse}
use Rattle.std.specs.Result.{is_err}
use Rattle.std.proofs.Math.Seq.{take-add}
use Rattle.std.proofs.lemmas.List.{take_more, take_all, take-append-drop}
use Rattle.bc_disk.specs.Stream.{StreamFacts}
use Rattle.bc_script.specs.declared.answer.Answer.{Answer}
use Rattle.bc_script.specs.declared.answer.Answer.TheVariants.{Silent, Done, Runs, Refused}
use Rattle.bc_script.specs.Answer.{IsText}
use Rattle.bc_script.specs.Trace.{ended}
use Rattle.bc_output.specs.declared.put.WriteFault.{WriteFault}
use Rattle.bc_output.specs.Put.{Takes, IsWriteFault}
use Rattle.bc_output.specs.Lines.{IsFirstLoud, IsLineOf, AreLines, StandsFor, StandForAll, IsCut, memory_line}
use Rattle.bc_output.proofs.Taken.{takes_more}

or_none : (b : Bool) → b ≡ (b || false)
or_none true = refl
or_none false = refl

or_assoc : (a b c : Bool) → ((a || b) || c) ≡ (a || (b || c))
or_assoc true b c = refl
or_assoc false b c = refl

neither : (a b : Bool) → false ≡ (a || b) → (a ≡ false) × (b ≡ false)
neither true b h = absurd (cc)
neither false b h = (refl, sym h)

-- one line more
pub one_more : (missed here : Bool) (answers : List Answer) (answer : Answer) (text line : List ℕ) → StandForAll missed answers text → StandsFor here answer line
    → StandForAll (missed || here) (answers ++ answer ∷ []) (text ++ line)
one_more missed here [] answer text line all one =
    (here, false, line, [], one, (refl, refl), ap (λ b. b || here) all.0 ∙ or_none here, ap (λ (t : List ℕ). t ++ line) all.1 ∙ sym (append-nil line))
one_more missed here (first ∷ answers) answer text line all one = (
  all.0,
  all.1 || here,
  all.2,
  all.3 ++ line,
  all.4,
  one_more all.1 here answers answer all.3 line all.5 one,
  ap (λ b. b || here) all.6 ∙ or_assoc all.0 all.1 here,
  ap (λ (t : List ℕ). t ++ line) all.7 ∙ append_assoc all.2 all.3 line,
)

-- where memory was found for each, they are the lines of the answers
pub all_whole : (answers : List Answer) (text : List ℕ) → StandForAll false answers text → AreLines answers text
all_whole [] text all = all.1
all_whole (answer ∷ answers) text all =
    let found = neither all.0 all.1 all.6 in (
      all.2,
      all.3,
      subst (λ b. StandsFor b answer all.2) found.0 all.4,
      all_whole answers all.3 (subst (λ b. StandForAll b answers all.3) found.1 all.5),
      all.7,
    )

-- what the sink took for these answers
abbrev pub AreTaken : Bool → List Answer → StreamFacts → StreamFacts → Type 0
AreTaken missed answers old new = (text : List ℕ) × StandForAll missed answers text × Takes text old new

-- what became of a line that was put
abbrev pub IsPutLine : Result (Unit {0}) WriteFault → List ℕ → StreamFacts → StreamFacts → Type 0
IsPutLine put line old new = MatchResult put (λ _. Takes line old new) (λ cause. IsWriteFault cause line old new)

-- what holds of an answer that isn't an error
pub on_ok : {E : Type 0} {P : Type 0} (r : Result (Unit {0}) E) → is_err r ≡ false → OnOk r P → P
on_ok (Ok u) good h = h
on_ok (Err e) good h = absurd (cc)

-- what became of a text that was put
pub put_line : (put : Result (Unit {0}) WriteFault) (line : List ℕ) (f g : StreamFacts) → OnOk put (Takes line f g) → IfErr put (λ cause. IsWriteFault cause line f g) → MatchResult put (λ _. Takes line f g) (λ cause. IsWriteFault cause line f g)
put_line (Ok u) line f g ok err = ok
put_line (Err cause) line f g ok err = err

-- more answers behind others
pub many_more : (missed here : Bool) (answers others : List Answer) (text lines : List ℕ) → StandForAll missed answers text → StandForAll here others lines → StandForAll (missed || here) (answers ++ others) (text ++ lines)
many_more missed here [] others text lines all behind =
    subst (λ b. StandForAll b others (text ++ lines)) (ap (λ b. b || here) (sym all.0)) (subst (λ (t : List ℕ). StandForAll here others (t ++ lines)) (sym all.1) behind)
many_more missed here (first ∷ answers) others text lines all behind = (
  all.0,
  all.1 || here,
  all.2,
  all.3 ++ lines,
  all.4,
  many_more all.1 here answers others all.3 lines all.5 behind,
  ap (λ b. b || here) all.6 ∙ or_assoc all.0 all.1 here,
  ap (λ (t : List ℕ). t ++ lines) all.7 ∙ append_assoc all.2 all.3 lines,
)

-- the line of one more answer
pub line_more : (answers : List Answer) (i : ℕ) (answer : Answer) (text line : List ℕ) → i < length answers → answer ≡ get_or answers i answer → StandForAll false (take i answers) text → IsLineOf answer line
    → StandForAll false (take (i + 1) answers) (text ++ line)
line_more answers i answer text line inside is all one =
    subst (λ (these : List Answer). StandForAll false these (text ++ line)) (sym (take_more answers i answer inside ∙ ap (λ (a : Answer). take i answers ++ a ∷ []) (sym is))) (one_more false false (take i answers) answer text line all one)

-- no memory for the first
pub memory_first : (answers : List Answer) → 0 < length answers → IsFirstLoud answers → StandForAll true (take 1 answers) memory_line
memory_first [] some loud = absurd (omega arith)
memory_first (answer ∷ answers) some loud = (true, false, memory_line, [], (refl, loud), (refl, refl), refl, sym (append-nil memory_line))

-- the line of an answer for which something is printed
pub loud_line : (answer : Answer) (text : List ℕ) → (answer ≡ Silent → ⊥) → IsText answer text → IsLineOf answer (ended text)
loud_line Silent text loud is = absurd (loud refl)
loud_line Done text loud is = (text, is, refl)
loud_line (Runs first values) text loud is = (text, is, refl)
loud_line (Refused refusal) text loud is = (text, is, refl)

pub silent_line : (answer : Answer) → answer ≡ Silent → IsLineOf answer []
silent_line Silent is = refl
silent_line Done is = cc
silent_line (Runs first values) is = cc
silent_line (Refused refusal) is = cc

-- the first of these answers, where it stands
pub first_loud : (answers : List Answer) (answer : Answer) → answer ≡ get_or answers 0 answer → (answer ≡ Silent → ⊥) → IsFirstLoud answers
first_loud [] answer is loud = tt
first_loud (a ∷ as_) answer is loud = λ e. loud (is ∙ e)

-- so many of those behind a place
next_ones : (answers : List Answer) (i n : ℕ) → take (i + n) answers ≡ take i answers ++ take n (drop i answers)
next_ones answers i n = take-add i n answers

-- the lines of the next answers were put
pub taken_more : (missed here : Bool) (put : Result (Unit {0}) WriteFault) (answers : List Answer) (i n : ℕ) (lines : List ℕ) (f g h : StreamFacts)
    → AreTaken missed (take i answers) f g → StandForAll here (take n (drop i answers)) lines → IsPutLine put lines g h → is_err put ≡ false
    → AreTaken (missed || here) (take (i + n) answers) f h
taken_more missed here (Ok _) answers i n lines f g h before stands took good =
    let P : List Answer → Type 0 = λ these. StandForAll (missed || here) these (before.0 ++ lines) in
    (before.0 ++ lines, subst P (sym (next_ones answers i n)) (many_more missed here (take i answers) (take n (drop i answers)) before.0 lines before.1 stands), takes_more before.0 lines f g h before.2 took)
taken_more missed here (Err cause) answers i n lines f g h before stands took good = absurd (cc)

-- or a write fault came in them
pub cut_here : (missed here : Bool) (put : Result (Unit {0}) WriteFault) (answers : List Answer) (i n : ℕ) (lines : List ℕ) (f g h : StreamFacts)
    → AreTaken missed (take i answers) f g → StandForAll here (take n (drop i answers)) lines → IsPutLine put lines g h
    → IfErr put (λ cause. IsCut (missed || here) cause answers f h)
cut_here missed here (Ok _) answers i n lines f g h before stands took = tt
cut_here missed here (Err cause) answers i n lines f g h before stands took = record {
  first = take i answers;
  next = take n (drop i answers);
  others = drop n (drop i answers);
  split = sym (take-append-drop i answers) ∙ ap (λ (l : List Answer). take i answers ++ l) (sym (take-append-drop n (drop i answers)));
  text = before.0;
  line = lines;
  before = missed;
  here = here;
  lines = before.1;
  stands = stands;
  either = refl;
  between = g;
  taken = before.2;
  fault = took;
}

-- every line was put, and memory was found for each
pub whole_lines : (missed : Bool) (answers : List Answer) (n : ℕ) (f g : StreamFacts) → length answers ≤ n → AreTaken missed (take n answers) f g
    → OnFalse missed ((text : List ℕ) × AreLines answers text × Takes text f g)
whole_lines true answers n f g all taken = tt
whole_lines false answers n f g all taken =
    let P : List Answer → Type 0 = λ these. StandForAll false these taken.0 in
    (taken.0, all_whole answers taken.0 (subst P (take_all n answers all) taken.1), taken.2)
