-- The lines of a text, as its bytes come.
use Rattle.std.proofs.Common.{◌≡◌, ◌≢◌, inl, inr, ℕ, zero, suc, ◌<◌, ◌≤◌, Bool, true, false, ◌==◌, List, [], ◌∷◌, ◌++◌, length, refl, sym, ap, ◌∙◌, subst, arith, if◌then◌else◌, append_assoc, append-nil, length-append, take, drop, get_or, ◌+◌}
use Rattle.std.proofs.lemmas.List.{take_more, drop_more, take-append-drop}
use Rattle.std.specs.Prelude.{Ok, Err}
use Rattle.std.specs.List.{onto_first}
use Rattle.bc_script.specs.declared.line.Line.{Line}
use Rattle.bc_script.specs.declared.script.TraceError.{TraceError}
use Rattle.bc_script.specs.declared.script.TraceError.TheVariants.{Script}
use Rattle.bc_script.specs.declared.form.Form.{Form}
use Rattle.bc_script.specs.declared.form.Form.TheVariants.{Quiet}
use Rattle.bc_script.specs.declared.reason.Reason.{Reason}
use Rattle.bc_script.specs.declared.reason.Reason.TheVariants.{Length, TooMany}
use Rattle.bc_script.specs.Line.{◌>>=◌, form_in, is_comment, said_in, words}
use Rattle.bc_script.specs.Unserved.{if_served, line_in}
use Rattle.bc_script.specs.Trace.{HasNoNewline, lines_of, line_of, phase_after, SpellAll, SpellTo, most_lines, IsRefused}
use Rattle.bc_script.specs.Draft.{IsSoFar, Stops}
use Rattle.bc_script.proofs.Cases.{by_test, by_le}

-- a byte of the line
in_line : (b : ℕ) (bs : List ℕ) → b ≢ 10 → lines_of (b ∷ bs) ≡ onto_first b (lines_of bs)
in_line b bs other = by_test b 10 (λ t. (if t then [] ∷ lines_of bs else onto_first b (lines_of bs)) ≡ onto_first b (lines_of bs)) (λ is. absurd (other is)) (λ _. refl)

-- a line ends at its newline
pub cut : (part rest : List ℕ) → HasNoNewline part → lines_of (part ++ 10 ∷ rest) ≡ part ∷ lines_of rest
cut [] rest h = refl
cut (b ∷ bs) rest h = in_line b (bs ++ 10 ∷ rest) h.0 ∙ ap (λ (ls : List (List ℕ)). onto_first b ls) (cut bs rest h.1)

-- and the last one at the end
pub cut_last : (part : List ℕ) → HasNoNewline part → 0 < length part → lines_of part ≡ part ∷ []
cut_last [] h some = absurd (omega arith)
cut_last (b ∷ []) h some = in_line b [] h.0
cut_last (b ∷ c ∷ cs) h some = in_line b (c ∷ cs) h.0 ∙ ap (λ (ls : List (List ℕ)). onto_first b ls) (cut_last (c ∷ cs) h.1 (omega arith))

onto : (b : ℕ) (ls : List (List ℕ)) → (x : List ℕ) × (after : List (List ℕ)) × (onto_first b ls ≡ (b ∷ x) ∷ after)
onto b [] = ([], [], refl)
onto b (l ∷ ls) = (l, ls, refl)

-- a line that has begun goes on
begun : (part left : List ℕ) → HasNoNewline part → 0 < length part → (x : List ℕ) × (after : List (List ℕ)) × (lines_of (part ++ left) ≡ (part ++ x) ∷ after)
begun [] left h some = absurd (omega arith)
begun (b ∷ []) left h some = let o = onto b (lines_of left) in (o.0, o.1, in_line b left h.0 ∙ o.2)
begun (b ∷ c ∷ cs) left h some =
    let o = begun (c ∷ cs) left h.1 (omega arith) in
    (o.0, o.1, in_line b ((c ∷ cs) ++ left) h.0 ∙ ap (λ (ls : List (List ℕ)). onto_first b ls) o.2)

some_line : (b : ℕ) (left : List ℕ) → (l : List ℕ) × (after : List (List ℕ)) × (lines_of (b ∷ left) ≡ l ∷ after)
some_line b left = go (b == 10)
  where
    go : (t : Bool) → (l : List ℕ) × (after : List (List ℕ)) × ((if t then [] ∷ lines_of left else onto_first b (lines_of left)) ≡ l ∷ after)
    go true = ([], lines_of left, refl)
    go false = let o = onto b (lines_of left) in (b ∷ o.0, o.1, o.2)

spell_push : (phase end : ℕ) (front : List (List ℕ)) (lines : List Line) (text : List ℕ) (form : Form) → SpellTo phase front lines end → line_in text ≡ Ok form
    → SpellTo phase (front ++ text ∷ []) (lines ++ line_of end form ∷ []) (phase_after end form)
spell_push phase end [] [] text form h read =
    let P : ℕ → Type 0 = λ p. SpellTo p (text ∷ []) (line_of end form ∷ []) (phase_after end form) in
    subst P (sym h) (form, read, refl, refl)
spell_push phase end [] (l ∷ ls) text form h read = absurd h
spell_push phase end (t ∷ ts) [] text form h read = absurd h
spell_push phase end (t ∷ ts) (l ∷ ls) text form h read = (h.0, h.1, h.2, spell_push (phase_after phase h.0) end ts ls text form h.3 read)

pub spell_length : (phase end : ℕ) (front : List (List ℕ)) (lines : List Line) → SpellTo phase front lines end → length front ≡ length lines
spell_length phase end [] [] h = refl
spell_length phase end [] (l ∷ ls) h = absurd h
spell_length phase end (t ∷ ts) [] h = absurd h
spell_length phase end (t ∷ ts) (l ∷ ls) h = ap suc (spell_length (phase_after phase h.0) end ts ls h.3)

-- its newline comes
pub ended : (text : List ℕ) (lines new : List Line) (phase next : ℕ) (part now left : List ℕ) (form : Form) → line_in part ≡ Ok form → new ≡ lines ++ line_of phase form ∷ [] → next ≡ phase_after phase form → now ≡ []
    → IsSoFar text lines phase part (10 ∷ left) → IsSoFar text new next now left
ended text lines new phase next part now left form read is after none h =
    let P : List Line → Type 0 = λ ls. IsSoFar text ls next now left in
    let R : ℕ → Type 0 = λ p. IsSoFar text (lines ++ line_of phase form ∷ []) p now left in
    let Q : List ℕ → Type 0 = λ p. IsSoFar text (lines ++ line_of phase form ∷ []) (phase_after phase form) p left in
    subst P (sym is) (subst R (sym after) (subst Q (sym none) (
      h.0 ++ part ∷ [],
      h.1 ∙ ap (λ (ls : List (List ℕ)). h.0 ++ ls) (cut part left h.3) ∙ sym (append_assoc h.0 (part ∷ []) (lines_of left)),
      spell_push 0 phase h.0 lines part form h.2 read,
      tt,
    )))

-- the end of the text ends the last line too
pub last_line : (text : List ℕ) (lines : List Line) (phase : ℕ) (part : List ℕ) → 0 < length part → IsSoFar text lines phase part [] → IsSoFar text lines phase part (10 ∷ [])
last_line text lines phase part some h =
    (h.0, h.1 ∙ ap (λ (ls : List (List ℕ)). h.0 ++ ls) (ap (λ (bs : List ℕ). lines_of bs) (append-nil part) ∙ cut_last part h.3 some ∙ sym (cut part [] h.3)), h.2, h.3)

pub whole : (text : List ℕ) (lines : List Line) (phase : ℕ) (part : List ℕ) → part ≡ [] → IsSoFar text lines phase part [] → SpellAll (lines_of text) lines
whole text lines phase part none h =
    let P : List (List ℕ) → Type 0 = λ ls. SpellAll ls lines in
    subst P (sym (h.1 ∙ ap (λ (bs : List ℕ). h.0 ++ lines_of (bs ++ [])) none ∙ append-nil h.0)) (phase, h.2)

-- the three ways of refusing a line

refused : (text : List ℕ) (lines : List Line) (phase : ℕ) (front after : List (List ℕ)) (line : List ℕ) (why : Reason) (e : TraceError) → lines_of text ≡ front ++ line ∷ after → SpellTo 0 front lines phase
    → IsRefused (length lines) line why → e ≡ Script (record { line = suc (length lines); why = why }) → Stops text e
refused text lines phase front after line why e is spelled bad made =
    let P : TraceError → Type 0 = λ e. Stops text e in
    let same = spell_length 0 phase front lines spelled in
    let Q : ℕ → Type 0 = λ n. IsRefused n line why in
    subst P (sym made) (record {
      before = front;
      spelled = lines;
      refused = line;
      after = after;
      parts = is;
      spells = (phase, spelled);
      cause = subst Q (sym same) bad;
      line = ap suc (sym same);
    })

pub refused_line : (text : List ℕ) (lines : List Line) (phase : ℕ) (part left : List ℕ) (why : Reason) (e : TraceError) → length lines < most_lines → line_in part ≡ Err why
    → e ≡ Script (record { line = suc (length lines); why = why }) → IsSoFar text lines phase part (10 ∷ left) → Stops text e
refused_line text lines phase part left why e few bad made h =
    refused text lines phase h.0 (lines_of left) part why e (h.1 ∙ ap (λ (ls : List (List ℕ)). h.0 ++ ls) (cut part left h.3)) h.2 (inr (few, bad)) made

-- a line of more bytes
too_long : (text : List ℕ) → 80 < length text → line_in text ≡ Err Length
unfolding line_in form_in
too_long text long = by_le (length text) 80 (λ b. ((if b then (if is_comment text then Ok Quiet else said_in (words text)) else Err Length) >>= if_served) ≡ Err Length)
    (λ short. absurd (omega arith)) (λ _. refl)

-- bytes of the line come
append_part : (part bytes : List ℕ) → HasNoNewline part → HasNoNewline bytes → HasNoNewline (part ++ bytes)
append_part [] bytes h more = more
append_part (x ∷ xs) bytes h more = (h.0, append_part xs bytes h.1 more)

-- no newline stands among the first so many bytes, and among one more
one_more : (text : List ℕ) (i : ℕ) → i < length text → (get_or text i 0 ≡ 10 → ⊥) → HasNoNewline (take i text) → HasNoNewline (take (i + 1) text)
one_more text i lt other h =
    let P : List ℕ → Type 0 = λ bs. HasNoNewline bs in
    subst P (sym (take_more text i 0 lt)) (append_part (take i text) (get_or text i 0 ∷ []) h (other, tt))

pub none_among : (text : List ℕ) (n : ℕ) → n ≤ length text → ((k : ℕ) → k < n → get_or text k 0 ≡ 10 → ⊥) → HasNoNewline (take n text)
none_among text zero le none = tt
none_among text (suc n) le none =
    let P : ℕ → Type 0 = λ k. HasNoNewline (take k text) in
    let e : n + 1 ≡ suc n = omega arith in
    subst P e (one_more text n (omega arith) (none n (omega arith)) (none_among text n (omega arith) (λ k lt. none k (omega arith))))

-- the newline cuts the text
pub cut_at : (text : List ℕ) (i : ℕ) → i < length text → get_or text i 0 ≡ 10 → text ≡ take i text ++ 10 ∷ drop (i + 1) text
cut_at text i lt is =
    sym (take-append-drop i text) ∙ ap (λ (bs : List ℕ). take i text ++ bs) (drop_more text i 0 lt ∙ ap (λ b. b ∷ drop (i + 1) text) is)

pub pushed_all : (text : List ℕ) (lines : List Line) (phase : ℕ) (part bytes new left : List ℕ) → HasNoNewline bytes → new ≡ part ++ bytes → IsSoFar text lines phase part (bytes ++ left) → IsSoFar text lines phase new left
pushed_all text lines phase part bytes new left more is h =
    let P : List ℕ → Type 0 = λ p. IsSoFar text lines phase p left in
    subst P (sym is) (h.0, h.1 ∙ ap (λ (bs : List ℕ). h.0 ++ lines_of bs) (sym (append_assoc part bytes left)), h.2, append_part part bytes h.3 more)

pub refused_long : (text : List ℕ) (lines : List Line) (phase : ℕ) (part bytes left : List ℕ) (e : TraceError) → length lines < most_lines → HasNoNewline bytes → 80 < length part + length bytes
    → e ≡ Script (record { line = suc (length lines); why = Length }) → IsSoFar text lines phase part (bytes ++ left) → Stops text e
refused_long text lines phase part bytes left e few more long made h =
    let next = pushed_all text lines phase part bytes (part ++ bytes) left more refl h in
    let count = length-append part bytes in
    let o = begun (part ++ bytes) left next.3 (omega arith) in
    let all = length-append (part ++ bytes) o.0 in
    refused text lines phase next.0 o.1 ((part ++ bytes) ++ o.0) Length e (next.1 ∙ ap (λ (ls : List (List ℕ)). next.0 ++ ls) o.2) next.2
    (inr (few, too_long ((part ++ bytes) ++ o.0) (omega arith))) made

pub refused_many : (text : List ℕ) (lines : List Line) (phase : ℕ) (part bytes : List ℕ) (e : TraceError) → length lines ≡ most_lines → part ≡ [] → 0 < length bytes
    → e ≡ Script (record { line = suc (length lines); why = TooMany }) → IsSoFar text lines phase part bytes → Stops text e
refused_many text lines phase part [] e full none some made h = absurd (omega arith)
refused_many text lines phase part (b ∷ left) e full none some made h =
    let o = some_line b left in
    refused text lines phase h.0 o.1 o.0 TooMany e (h.1 ∙ ap (λ (bs : List ℕ). h.0 ++ lines_of (bs ++ b ∷ left)) none ∙ ap (λ (ls : List (List ℕ)). h.0 ++ ls) o.2) h.2 (inl (full, refl)) made
