-- What the lines of a text are, and that a text is read in one way.
use Rattle.std.proofs.Common.{◌≡◌, ◌≢◌, ◌⊎◌, inl, inr, ℕ, suc, ◌<◌, ◌≤◌, List, [], ◌∷◌, ◌++◌, length, refl, sym, ap, ◌∙◌, subst, arith, if◌then◌else◌, length-append}
use Rattle.std.specs.List.{onto_first, flat_map, AllByRecursion}
use Rattle.std.proofs.lemmas.Bool.{cases_order}
use Rattle.bc_script.specs.declared.line.Line.{Line}
use Rattle.bc_script.specs.declared.script.ScriptError.{ScriptError}
use Rattle.std.specs.Prelude.{Ok, Err}
use Rattle.bc_script.specs.declared.form.Form.{Form}
use Rattle.bc_script.specs.declared.reason.Reason.{Reason}
use Rattle.bc_script.specs.Line.{Reads}
use Rattle.bc_script.specs.Unserved.{line_in}
use Rattle.bc_script.specs.Trace.{lines_of, line_of, phase_after, ended, HasNoNewline, SpellAll, SpellTo, most_lines, IsRefused, IsFirstRefused}
use Rattle.bc_script.proofs.Lines.{spell_length}
use Rattle.bc_script.proofs.Cases.{by_test}

joined_onto : (b : ℕ) (bs : List ℕ) (ls : List (List ℕ)) → (flat_map ended ls ≡ bs) ⊎ (flat_map ended ls ≡ bs ++ 10 ∷ [])
    → (flat_map ended (onto_first b ls) ≡ b ∷ bs) ⊎ (flat_map ended (onto_first b ls) ≡ (b ∷ bs) ++ 10 ∷ [])
joined_onto b bs [] (inl h) = inr (ap (λ (xs : List ℕ). b ∷ (xs ++ 10 ∷ [])) h)
joined_onto b bs [] (inr h) = absurd (let n = ap (λ (xs : List ℕ). length xs) h in let m = length-append bs (10 ∷ []) in omega arith)
joined_onto b bs (l ∷ ls) (inl h) = inl (ap (λ (xs : List ℕ). b ∷ xs) h)
joined_onto b bs (l ∷ ls) (inr h) = inr (ap (λ (xs : List ℕ). b ∷ xs) h)

-- each line with a newline behind it: the text, or the text with the one newline that it lacks
pub joined : (text : List ℕ) → (flat_map ended (lines_of text) ≡ text) ⊎ (flat_map ended (lines_of text) ≡ text ++ 10 ∷ [])
joined [] = inl refl
joined (b ∷ bs) = by_test b 10 (λ t. (flat_map ended (if t then [] ∷ lines_of bs else onto_first b (lines_of bs)) ≡ b ∷ bs) ⊎ (flat_map ended (if t then [] ∷ lines_of bs else onto_first b (lines_of bs)) ≡ (b ∷ bs) ++ 10 ∷ []))
    (λ is. newline is (joined bs)) (λ _. joined_onto b bs (lines_of bs) (joined bs))
  where
    newline : b ≡ 10 → (flat_map ended (lines_of bs) ≡ bs) ⊎ (flat_map ended (lines_of bs) ≡ bs ++ 10 ∷ [])
        → (10 ∷ flat_map ended (lines_of bs) ≡ b ∷ bs) ⊎ (10 ∷ flat_map ended (lines_of bs) ≡ (b ∷ bs) ++ 10 ∷ [])
    newline is (inl h) = inl (ap (λ (xs : List ℕ). 10 ∷ xs) h ∙ ap (λ n. n ∷ bs) (sym is))
    newline is (inr h) = inr (ap (λ (xs : List ℕ). 10 ∷ xs) h ∙ ap (λ n. n ∷ (bs ++ 10 ∷ [])) (sym is))

apart_onto : (b : ℕ) (ls : List (List ℕ)) → b ≢ 10 → AllByRecursion HasNoNewline ls → AllByRecursion HasNoNewline (onto_first b ls)
apart_onto b [] other h = ((other, tt), tt)
apart_onto b (l ∷ ls) other h = ((other, h.0), h.1)

pub apart : (text : List ℕ) → AllByRecursion HasNoNewline (lines_of text)
apart [] = tt
apart (b ∷ bs) = by_test b 10 (λ t. AllByRecursion HasNoNewline (if t then [] ∷ lines_of bs else onto_first b (lines_of bs)))
    (λ _. (tt, apart bs)) (λ other. apart_onto b (lines_of bs) other (apart bs))

spelled_at : (phase end : ℕ) (before : List (List ℕ)) (text : List ℕ) (after : List (List ℕ)) (lines : List Line) → SpellTo phase (before ++ text ∷ after) lines end → (form : Form) × (line_in text ≡ Ok form) × (length before < length lines)
spelled_at phase end [] text after [] h = absurd h
spelled_at phase end [] text after (l ∷ ls) h = (h.0, h.1, omega arith)
spelled_at phase end (t ∷ ts) text after [] h = absurd h
spelled_at phase end (t ∷ ts) text after (l ∷ ls) h = let rest = spelled_at (phase_after phase h.0) end ts text after ls h.3 in (rest.0, rest.1, let lt = rest.2 in omega arith)

ok_not_err : (r : Reads Form) (form : Form) (why : Reason) → r ≡ Ok form → r ≡ Err why → ⊥
ok_not_err r form why is is' = cc

-- what is spelled isn't refused
not_both : (before : List (List ℕ)) (text : List ℕ) (after : List (List ℕ)) (lines : List Line) (why : Reason) → SpellAll (before ++ text ∷ after) lines → length lines ≤ most_lines → IsRefused (length before) text why → ⊥
not_both before text after lines why h few (inl many) = let s = spelled_at 0 h.0 before text after lines h.1 in let lt = s.2 in let full = many.0 in omega arith
not_both before text after lines why h few (inr bad) = let s = spelled_at 0 h.0 before text after lines h.1 in ok_not_err (line_in text) s.0 why s.1 bad.1

pub read_or_refused : (text : List ℕ) (lines : List Line) (e : ScriptError) → SpellAll (lines_of text) lines → length lines ≤ most_lines → IsFirstRefused text e → ⊥
read_or_refused text lines e h few r =
    let P : List (List ℕ) → Type 0 = λ ls. SpellAll ls lines in
    not_both r.before r.refused r.after lines e.why (subst P r.parts h) few r.cause

-- of two fronts of one list the shorter is the front of the longer
shorter : (a : List (List ℕ)) (x : List ℕ) (c b : List (List ℕ)) (y : List ℕ) (d : List (List ℕ)) → a ++ x ∷ c ≡ b ++ y ∷ d → length a < length b → (rest : List (List ℕ)) × (b ≡ a ++ x ∷ rest)
shorter [] x c [] y d e lt = absurd (omega arith)
shorter [] x c (t ∷ ts) y d e lt = let first : x ≡ t = cc in (ts, ap (λ (z : List ℕ). z ∷ ts) (sym first))
shorter (s ∷ ss) x c [] y d e lt = absurd (omega arith)
shorter (s ∷ ss) x c (t ∷ ts) y d e lt =
    let first : s ≡ t = cc in
    let rest : ss ++ x ∷ c ≡ ts ++ y ∷ d = cc in
    let r = shorter ss x c ts y d rest (omega arith) in
    (r.0, ap (λ (z : List ℕ). z ∷ ts) (sym first) ∙ ap (λ (zs : List (List ℕ)). s ∷ zs) r.1)

-- and of one length they are one, with what stands behind them
same_front : (a : List (List ℕ)) (x : List ℕ) (c b : List (List ℕ)) (y : List ℕ) (d : List (List ℕ)) → a ++ x ∷ c ≡ b ++ y ∷ d → length a ≡ length b → x ≡ y
same_front [] x c [] y d e same = cc
same_front [] x c (t ∷ ts) y d e same = absurd (omega arith)
same_front (s ∷ ss) x c [] y d e same = absurd (omega arith)
same_front (s ∷ ss) x c (t ∷ ts) y d e same = let rest : ss ++ x ∷ c ≡ ts ++ y ∷ d = cc in same_front ss x c ts y d rest (omega arith)

few_before : (n : ℕ) (text : List ℕ) (why : Reason) → IsRefused n text why → n ≤ most_lines
few_before n text why (inl many) = let full = many.0 in omega arith
few_before n text why (inr bad) = let lt = bad.0 in omega arith

later_refused : (text : List ℕ) (e f : ScriptError) (p : IsFirstRefused text e) (q : IsFirstRefused text f) → length p.before < length q.before → ⊥
later_refused text e f p q lt =
    let s = shorter p.before p.refused p.after q.before q.refused q.after (sym p.parts ∙ q.parts) lt in
    let P : List (List ℕ) → Type 0 = λ ls. SpellAll ls q.spelled in
    not_both p.before p.refused s.0 q.spelled e.why (subst P s.1 q.spells)
    (let len = spell_length 0 q.spells.0 q.before q.spelled q.spells.1 in let few = few_before (length q.before) q.refused f.why q.cause in omega arith) p.cause

same_error : (e f : ScriptError) → e.line ≡ f.line → e.why ≡ f.why → e ≡ f
same_error e f line why = ap (λ n. let x : ScriptError = record { line = n; why = e.why } in x) line ∙ ap (λ (w : Reason). let x : ScriptError = record { line = f.line; why = w } in x) why

-- one line is refused for one reason
one_cause : (n m : ℕ) (text other : List ℕ) (a b : Reason) → n ≡ m → text ≡ other → IsRefused n text a → IsRefused m other b → a ≡ b
one_cause n m text other a b same is (inl p) (inl q) = p.1 ∙ sym q.1
one_cause n m text other a b same is (inl p) (inr q) = let full = p.0 in let lt = q.0 in absurd (omega arith)
one_cause n m text other a b same is (inr p) (inl q) = let full = q.0 in let lt = p.0 in absurd (omega arith)
one_cause n m text other a b same is (inr p) (inr q) = one_why (line_in text) a b p.1 (ap (λ (t : List ℕ). line_in t) is ∙ q.1)
  where
    one_why : (r : Reads Form) (a b : Reason) → r ≡ Err a → r ≡ Err b → a ≡ b
    one_why r a b h k = cc

pub one_refused : (text : List ℕ) (e f : ScriptError) → IsFirstRefused text e → IsFirstRefused text f → e ≡ f
one_refused text e f p q = go (cases_order (length p.before) (length q.before))
  where
    go : (length p.before ≡ length q.before) ⊎ ((length p.before < length q.before) ⊎ (length q.before < length p.before)) → e ≡ f
    go (inl same) = same_error e f (p.line ∙ ap suc same ∙ sym q.line)
        (one_cause (length p.before) (length q.before) p.refused q.refused e.why f.why same (same_front p.before p.refused p.after q.before q.refused q.after (sym p.parts ∙ q.parts) same) p.cause q.cause)
    go (inr (inl lt)) = absurd (later_refused text e f p q lt)
    go (inr (inr lt)) = absurd (later_refused text f e q p lt)

-- texts spell one list of lines
one_spelled : (phase end end' : ℕ) (texts : List (List ℕ)) (a b : List Line) → SpellTo phase texts a end → SpellTo phase texts b end' → a ≡ b
one_spelled phase end end' [] [] [] h k = refl
one_spelled phase end end' [] [] (y ∷ ys) h k = absurd k
one_spelled phase end end' [] (x ∷ xs) b h k = absurd h
one_spelled phase end end' (t ∷ ts) [] b h k = absurd h
one_spelled phase end end' (t ∷ ts) (x ∷ xs) [] h k = absurd k
one_spelled phase end end' (t ∷ ts) (x ∷ xs) (y ∷ ys) h k =
    let same : h.0 ≡ k.0 = one_form (line_in t) h.0 k.0 h.1 k.1 in
    let P : Form → Type 0 = λ f. SpellTo (phase_after phase f) ts ys end' in
    ap (λ (z : Line). z ∷ xs) (h.2 ∙ ap (λ (f : Form). line_of phase f) same ∙ sym k.2)
    ∙ ap (λ (zs : List Line). y ∷ zs) (one_spelled (phase_after phase h.0) end end' ts xs ys h.3 (subst P (sym same) k.3))
  where
    one_form : (r : Reads Form) (a b : Form) → r ≡ Ok a → r ≡ Ok b → a ≡ b
    one_form r a b p q = cc

pub one_script : (texts : List (List ℕ)) (a b : List Line) → SpellAll texts a → SpellAll texts b → a ≡ b
one_script texts a b h k = one_spelled 0 h.0 k.0 texts a b h.1 k.1
