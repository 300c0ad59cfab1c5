-- A trace that is served, and in which nothing failed, has one list of answers.
use Rattle.std.proofs.Common.{◌≡◌, ◌⊎◌, inl, inr, ℕ, zero, suc, ◌+◌, ◌-◌, ◌*◌, ◌/◌, ◌<◌, ◌≤◌, Bool, true, false, List, [], ◌∷◌, ◌++◌, length, Some, refl, sym, ap, ◌∙◌, subst, arith}
use Rattle.std.specs.Prelude.{if◌then◌else◌, nat_le, max}
use Rattle.std.proofs.lemmas.Bool.{cases_lt}
use Rattle.bc_model.specs.Sector.{Value, Image, at_run, unless, Gives}
use Rattle.bc_model.specs.Pattern.{pattern}
use Rattle.bc_model.specs.Values.{patterns}
use Rattle.bc_model.specs.InOrder.{image_after, now_of, IsLegalOf}
use Rattle.bc_model.specs.Pieces.{Piece, piece_in, pieces_from, pieces, AreReads}
use Rattle.bc_model.specs.declared.history.Entry.{Entry}
use Rattle.bc_model.specs.declared.history.Entry.TheVariants as entry
use Rattle.bc_model.proofs.Cases.{by_le, by_test}
use Rattle.bc_model.proofs.Runs.{at_range, at_miss}
use Rattle.bc_script.specs.declared.line.Action.{Action}
use Rattle.bc_script.specs.declared.line.Action.TheVariants.{Write, ForcedWrite, Read, Flush, Round}
use Rattle.bc_script.specs.declared.line.Line.{Line}
use Rattle.bc_script.specs.declared.line.Line.TheVariants as line
use Rattle.bc_script.specs.declared.answer.Answer.{Answer}
use Rattle.bc_script.specs.declared.answer.Answer.TheVariants.{Done, Runs, Refused}
use Rattle.bc_script.specs.declared.answer.Refusal.TheVariants.{OutOfRange}
use Rattle.bc_script.specs.Served.{IsInside, IsOutside, writes, forced_writes, ServesForced, ServesAction, ServesWrite, ServesRead, ServesFlush, ServesRound, ServesLine, ServedFrom}
use Rattle.bc_script.specs.Expected.{IsAsked, IsAnswered, AllAnswered, shown, written, shown_behind, shown_after, asked_answer, answer_of, answers_of}

-- pieces that lie one behind the other and make up a range
abbrev Tiles : ℕ → ℕ → List Piece → Type 0
Tiles first count [] = count ≡ 0
Tiles first count (p ∷ ps) = (p.first ≡ first) × (rest : ℕ) × (count ≡ p.count + rest) × Tiles (first + p.count) rest ps

tiles_from : (first count q n : ℕ) → first / 256 ≤ q → first + count ≤ 256 * (q + n) → q + n ≤ (first + count + 255) / 256 → Tiles (max first (256 * q)) (first + count - max first (256 * q)) (pieces_from first count q n)
tiles_from first count q zero low all few = omega arith
tiles_from first count q (suc zero) low all few = (refl, 0, omega arith, refl)
tiles_from first count q (suc (suc n)) low all few =
    let p = piece_in first count q in
    let next : max first (256 * suc q) ≡ max first (256 * q) + p.count = omega arith in
    let rest = tiles_from first count (suc q) (suc n) (omega arith) (omega arith) (omega arith) in
    (refl, first + count - max first (256 * suc q), omega arith, subst (λ k. Tiles k (first + count - max first (256 * suc q)) (pieces_from first count (suc q) (suc n))) next rest)

tiles : (first count : ℕ) → Tiles first count (pieces first count)
tiles first count =
    let q = first / 256 in
    let n = (first + count + 255) / 256 - q in
    let at : max first (256 * q) ≡ first = omega arith in
    let left : first + count - max first (256 * q) ≡ count = omega arith in
    subst (λ k. Tiles k count (pieces first count)) at (subst (λ k. Tiles (max first (256 * q)) k (pieces first count)) left (tiles_from first count q n (omega arith) (omega arith) (omega arith)))

length_patterns : (stamp sector n : ℕ) → length (patterns stamp sector n) ≡ n
length_patterns stamp sector zero = refl
length_patterns stamp sector (suc n) = ap suc (length_patterns stamp (suc sector) n)

-- a written sector has its pattern, and others are as before
written_in : (stamp first count : ℕ) (image : Image) (s : ℕ) → first ≤ s → s < first + count → written stamp first count image s ≡ pattern stamp s
written_in stamp first count image s low high = ap (λ o. unless o (image s)) (hit first count low high)
  where
    hit : (first count : ℕ) → first ≤ s → s < first + count → at_run first (patterns stamp first count) s ≡ Some (pattern stamp s)
    hit first zero low high = absurd (omega arith)
    hit first (suc n) low high =
        by_test first s (λ t. (if t then Some (pattern stamp first) else at_run (suc first) (patterns stamp (suc first) n) s) ≡ Some (pattern stamp s))
        (λ same. ap (λ k. Some (pattern stamp k)) same) (λ other. hit (suc first) n (omega arith) (omega arith))

written_out : (stamp first count : ℕ) (image : Image) (s : ℕ) → (s < first) ⊎ (first + count ≤ s) → written stamp first count image s ≡ image s
written_out stamp first count image s out = ap (λ o. unless o (image s)) (at_miss first (patterns stamp first count) s (λ at. apart (length_patterns stamp first count) at out))
  where
    apart : {n : ℕ} → n ≡ count → (first ≤ s) × (s < first + n) → (s < first) ⊎ (first + count ≤ s) → ⊥
    apart long at (inl below) = let a = at.0 in omega arith
    apart long at (inr above) = let a = at.1 in omega arith

-- writes of pieces one behind the other are a write of the range
writes_shown : (worker number stamp : ℕ) (ps : List Piece) (first count : ℕ) → Tiles first count ps → (image : Image) (s : ℕ) → now_of image (writes worker number stamp ps) s ≡ written stamp first count image s
writes_shown worker number stamp [] first count t image s = sym (written_out stamp first count image s (outside (cases_lt s first)))
  where
    outside : (s < first) ⊎ (first ≤ s) → (s < first) ⊎ (first + count ≤ s)
    outside (inl below) = inl below
    outside (inr above) = inr (omega arith)
writes_shown worker number stamp (p ∷ ps) first count t image s =
    writes_shown worker number stamp ps (first + p.count) t.1 t.3 (image_after image (entry.Write worker number p.first (patterns stamp p.first p.count))) s
    ∙ subst (λ k. written stamp (first + p.count) t.1 (written stamp k p.count image) s ≡ written stamp first count image s) (sym t.0) (both (cases_lt s first) (cases_lt s (first + p.count)) (cases_lt s (first + count)))
  where
    both : (s < first) ⊎ (first ≤ s) → (s < first + p.count) ⊎ (first + p.count ≤ s) → (s < first + count) ⊎ (first + count ≤ s) → written stamp (first + p.count) t.1 (written stamp first p.count image) s ≡ written stamp first count image s
    both (inl low) mid high =
        written_out stamp (first + p.count) t.1 (written stamp first p.count image) s (inl (omega arith)) ∙ written_out stamp first p.count image s (inl low) ∙ sym (written_out stamp first count image s (inl low))
    both (inr low) (inl mid) high =
        written_out stamp (first + p.count) t.1 (written stamp first p.count image) s (inl mid) ∙ written_in stamp first p.count image s low mid ∙ sym (written_in stamp first count image s low (let c = t.2 in omega arith))
    both (inr low) (inr mid) (inl high) = written_in stamp (first + p.count) t.1 (written stamp first p.count image) s mid (let c = t.2 in omega arith) ∙ sym (written_in stamp first count image s low high)
    both (inr low) (inr mid) (inr high) =
        written_out stamp (first + p.count) t.1 (written stamp first p.count image) s (inr (let c = t.2 in omega arith)) ∙ written_out stamp first p.count image s (inr mid) ∙ sym (written_out stamp first count image s (inr high))

-- what acknowledges a forced write writes nothing
forced_shown : (worker number stamp : ℕ) (ps : List Piece) (image : Image) (s : ℕ) → now_of image (forced_writes worker number stamp ps) s ≡ now_of image (writes worker number stamp ps) s
forced_shown worker number stamp [] image s = refl
forced_shown worker number stamp (p ∷ ps) image s = forced_shown worker number stamp ps (image_after image (entry.Write worker number p.first (patterns stamp p.first p.count))) s

-- a run of values that are what the sectors show
gives_shown : (image : Image) (first : ℕ) (values : List Value) → Gives first values (λ s v. v ≡ image s) → values ≡ shown image first (length values)
gives_shown image first [] h = refl
gives_shown image first (v ∷ vs) h = ap (λ (x : Value). x ∷ vs) (h first v here) ∙ ap (λ (xs : List Value). image first ∷ xs) (gives_shown image (suc first) vs (λ s w at. h s w (later s w at)))
  where
    here : at_run first (v ∷ vs) first ≡ Some v
    here = by_test first first (λ t. (if t then Some v else at_run (suc first) vs first) ≡ Some v) (λ same. refl) (λ other. absurd (other refl))

    later : (s : ℕ) (w : Value) → at_run (suc first) vs s ≡ Some w → at_run first (v ∷ vs) s ≡ Some w
    later s w at = by_test first s (λ t. (if t then Some v else at_run (suc first) vs s) ≡ Some w) (λ same. absurd (let range = at_range (suc first) vs s w at in let low = range.0 in omega arith)) (λ other. at)

shown_more : (image : Image) (first a b : ℕ) → shown image first (a + b) ≡ shown image first a ++ shown image (first + a) b
shown_more image first zero b =
    let long : 0 + b ≡ b = omega arith in
    let at : first ≡ first + 0 = omega arith in
    ap (λ n. shown image first n) long ∙ ap (λ k. shown image k b) at
shown_more image first (suc a) b =
    let long : suc a + b ≡ suc (a + b) = omega arith in
    let at : suc first + a ≡ first + suc a = omega arith in
    ap (λ n. shown image first n) long ∙ ap (λ (vs : List Value). image first ∷ vs) (shown_more image (suc first) a b) ∙ ap (λ k. image first ∷ shown image (suc first) a ++ shown image k b) at

-- reads of pieces one behind the other read the range, and write nothing
reads_shown : (worker number : ℕ) (ps : List Piece) (first count : ℕ) → Tiles first count ps → (image : Image) (values : List Value) (entries : List Entry) → AreReads worker number ps values entries → IsLegalOf image entries → values ≡ shown image first count
reads_shown worker number [] first count t image values entries reads legal = reads.0 ∙ ap (λ n. shown image first n) (sym t)
reads_shown worker number (p ∷ ps) first count t image values entries (own, rest, later, long, values_is, entries_is, behind) legal =
    let l = subst (IsLegalOf image) entries_is legal in
    let one : own ≡ shown image first p.count = gives_shown image p.first own l.0 ∙ ap (λ n. shown image p.first n) long ∙ ap (λ k. shown image k p.count) t.0 in
    let others = reads_shown worker number ps (first + p.count) t.1 t.3 image rest later behind l.1 in
    values_is ∙ ap (λ (vs : List Value). vs ++ rest) one ∙ ap (λ (vs : List Value). shown image first p.count ++ vs) others ∙ sym (shown_more image first p.count t.1) ∙ ap (λ n. shown image first n) (sym t.2)

reads_write_nothing : (worker number : ℕ) (ps : List Piece) (image : Image) (values : List Value) (entries : List Entry) → AreReads worker number ps values entries → (s : ℕ) → now_of image entries s ≡ image s
reads_write_nothing worker number [] image values entries reads s = ap (λ (es : List Entry). now_of image es s) reads.1
reads_write_nothing worker number (p ∷ ps) image values entries (own, rest, later, long, values_is, entries_is, behind) s = ap (λ (es : List Entry). now_of image es s) entries_is ∙ reads_write_nothing worker number ps image rest later behind s

-- a legal history is legal up to each place, and from there on
legal_parts : (image : Image) (own later : List Entry) → IsLegalOf image (own ++ later) → IsLegalOf image own × IsLegalOf (now_of image own) later
legal_parts image [] later h = (tt, h)
legal_parts image (e ∷ own) later h = let rest = legal_parts (image_after image e) own later h.1 in ((h.0, rest.0), rest.1)

-- images that show the same are answered the same
shown_same : (a b : Image) → ((s : ℕ) → a s ≡ b s) → (first n : ℕ) → shown a first n ≡ shown b first n
shown_same a b same first zero = refl
shown_same a b same first (suc n) = ap (λ (v : Value). v ∷ shown a (suc first) n) (same first) ∙ ap (λ (vs : List Value). b first ∷ vs) (shown_same a b same (suc first) n)

behind_same : (size : ℕ) (action : Action) (a b : Image) → ((s : ℕ) → a s ≡ b s) → (s : ℕ) → shown_behind size action a s ≡ shown_behind size action b s
behind_same size (Write first count stamp) a b same s = either (nat_le (first + count) size)
  where
    either : (t : Bool) → (if t then written stamp first count a else a) s ≡ (if t then written stamp first count b else b) s
    either true = ap (λ (v : Value). unless (at_run first (patterns stamp first count) s) v) (same s)
    either false = same s
behind_same size (ForcedWrite first count stamp) a b same s = either (nat_le (first + count) size)
  where
    either : (t : Bool) → (if t then written stamp first count a else a) s ≡ (if t then written stamp first count b else b) s
    either true = ap (λ (v : Value). unless (at_run first (patterns stamp first count) s) v) (same s)
    either false = same s
behind_same size (Read first count) a b same s = same s
behind_same size Flush a b same s = same s
behind_same size (Round round) a b same s = same s

after_same : (size : ℕ) (l : Line) (a b : Image) → ((s : ℕ) → a s ≡ b s) → (s : ℕ) → shown_after size l a s ≡ shown_after size l b s
after_same size line.Silent a b same s = same s
after_same size (line.Request worker phase action) a b same s = behind_same size action a b same s

asked_same : (size : ℕ) (action : Action) (a b : Image) → ((s : ℕ) → a s ≡ b s) → asked_answer size action a ≡ asked_answer size action b
asked_same size (Write first count stamp) a b same = refl
asked_same size (ForcedWrite first count stamp) a b same = refl
asked_same size (Read first count) a b same = ap (λ (vs : List Value). if nat_le (first + count) size then Runs first vs else Refused OutOfRange) (shown_same a b same first count)
asked_same size Flush a b same = refl
asked_same size (Round round) a b same = refl

answer_same : (size : ℕ) (l : Line) (a b : Image) → ((s : ℕ) → a s ≡ b s) → answer_of size l a ≡ answer_of size l b
answer_same size line.Silent a b same = refl
answer_same size (line.Request worker phase action) a b same = asked_same size action a b same

pub answers_same : (size : ℕ) (lines : List Line) (a b : Image) → ((s : ℕ) → a s ≡ b s) → answers_of size lines a ≡ answers_of size lines b
answers_same size [] a b same = refl
answers_same size (l ∷ lines) a b same =
    ap (λ (x : Answer). x ∷ answers_of size lines (shown_after size l a)) (answer_same size l a b same)
    ∙ ap (λ (xs : List Answer). answer_of size l b ∷ xs) (answers_same size lines (shown_after size l a) (shown_after size l b) (after_same size l a b same))

-- what the test of the range says
is_inside : (size first count : ℕ) → IsInside size first count → nat_le (first + count) size ≡ true
is_inside size first count inside = by_le (first + count) size (λ t. t ≡ true) (λ low. refl) (λ high. absurd (omega arith))

is_outside : (size first count : ℕ) → IsOutside size first count → nat_le (first + count) size ≡ false
is_outside size first count outside = by_le (first + count) size (λ t. t ≡ false) (λ low. absurd (omega arith)) (λ high. refl)

-- one line
abbrev Follows : ℕ → Action → Answer → List Entry → Image → Type 0
Follows size action answer own image = (answer ≡ asked_answer size action image) × ((s : ℕ) → now_of image own s ≡ shown_behind size action image s)

follows : (size worker number : ℕ) (action : Action) (answer : Answer) (own : List Entry) (image : Image) → ServesAction size worker number action answer own → IsAsked size action answer → IsLegalOf image own → Follows size action answer own image
follows size worker number (Write first count stamp) answer own image serves (inl done) legal =
    let yes = is_inside size first count done.0 in
    let sv = subst (λ (a : Answer). ServesWrite size worker number first count stamp a own) done.1 serves in (
      done.1 ∙ sym (ap (λ t. if t then Done else Refused OutOfRange) yes),
      (λ s. ap (λ (es : List Entry). now_of image es s) sv.1 ∙ writes_shown worker number stamp (pieces first count) first count (tiles first count) image s
          ∙ sym (ap (λ (t : Bool). (if t then written stamp first count image else image) s) yes)),
    )
follows size worker number (Write first count stamp) answer own image serves (inr outside) legal =
    let beyond = is_outside size first count outside.0 in
    let sv = subst (λ (a : Answer). ServesWrite size worker number first count stamp a own) outside.1 serves in (
      outside.1 ∙ sym (ap (λ t. if t then Done else Refused OutOfRange) beyond),
      (λ s. ap (λ (es : List Entry). now_of image es s) sv.1 ∙ sym (ap (λ (t : Bool). (if t then written stamp first count image else image) s) beyond)),
    )
follows size worker number (ForcedWrite first count stamp) answer own image serves (inl done) legal =
    let yes = is_inside size first count done.0 in
    let sv = subst (λ (a : Answer). ServesForced size worker number first count stamp a own) done.1 serves in (
      done.1 ∙ sym (ap (λ t. if t then Done else Refused OutOfRange) yes),
      (λ s. ap (λ (es : List Entry). now_of image es s) sv.1 ∙ forced_shown worker number stamp (pieces first count) image s ∙ writes_shown worker number stamp (pieces first count) first count (tiles first count) image s
          ∙ sym (ap (λ (t : Bool). (if t then written stamp first count image else image) s) yes)),
    )
follows size worker number (ForcedWrite first count stamp) answer own image serves (inr outside) legal =
    let beyond = is_outside size first count outside.0 in
    let sv = subst (λ (a : Answer). ServesForced size worker number first count stamp a own) outside.1 serves in (
      outside.1 ∙ sym (ap (λ t. if t then Done else Refused OutOfRange) beyond),
      (λ s. ap (λ (es : List Entry). now_of image es s) sv.1 ∙ sym (ap (λ (t : Bool). (if t then written stamp first count image else image) s) beyond)),
    )
follows size worker number (Read first count) answer own image serves (inl done) legal =
    let yes = is_inside size first count done.0 in
    let sv = subst (λ (a : Answer). ServesRead size worker number first count a own) done.1.1 serves in (
      done.1.1 ∙ ap (λ (vs : List Value). Runs first vs) (reads_shown worker number (pieces first count) first count (tiles first count) image done.1.0 own sv.2 legal)
          ∙ sym (ap (λ t. if t then Runs first (shown image first count) else Refused OutOfRange) yes),
      reads_write_nothing worker number (pieces first count) image done.1.0 own sv.2,
    )
follows size worker number (Read first count) answer own image serves (inr outside) legal =
    let beyond = is_outside size first count outside.0 in
    let sv = subst (λ (a : Answer). ServesRead size worker number first count a own) outside.1 serves in (
      outside.1 ∙ sym (ap (λ t. if t then Runs first (shown image first count) else Refused OutOfRange) beyond),
      (λ s. ap (λ (es : List Entry). now_of image es s) sv.1),
    )
follows size worker number Flush answer own image serves is legal =
    let sv = subst (λ (a : Answer). ServesFlush worker number a own) is serves in
    (is, (λ s. ap (λ (es : List Entry). now_of image es s) sv))
follows size worker number (Round round) answer own image serves is legal =
    let sv = subst (λ (a : Answer). ServesRound a own) is serves in
    (is, (λ s. ap (λ (es : List Entry). now_of image es s) sv))

line_follows : (size number : ℕ) (l : Line) (answer : Answer) (own : List Entry) (image : Image) → ServesLine size number l answer own → IsAnswered size l answer → IsLegalOf image own
    → (answer ≡ answer_of size l image) × ((s : ℕ) → now_of image own s ≡ shown_after size l image s)
line_follows size number line.Silent answer own image serves is legal = (is, (λ s. ap (λ (es : List Entry). now_of image es s) serves.1))
line_follows size number (line.Request worker phase action) answer own image serves is legal = follows size worker number action answer own image serves is legal

pub outcome_from : (size number : ℕ) (lines : List Line) (answers : List Answer) (history : List Entry) (image : Image) → ServedFrom size number lines answers history → IsLegalOf image history → AllAnswered size lines answers → answers ≡ answers_of size lines image
outcome_from size number [] [] history image served legal all = refl
outcome_from size number [] (a ∷ rest) history image served legal all = absurd served
outcome_from size number (l ∷ ls) [] history image served legal all = absurd served
outcome_from size number (l ∷ ls) (a ∷ rest) history image (own, later, is, serves, behind) legal all =
    let parts = legal_parts image own later (subst (IsLegalOf image) is legal) in
    let here = line_follows size number l a own image serves all.0 parts.0 in
    ap (λ (x : Answer). x ∷ rest) here.0
    ∙ ap (λ (xs : List Answer). answer_of size l image ∷ xs) (outcome_from size (suc number) ls rest later (now_of image own) behind parts.1 all.1 ∙ answers_same size ls (now_of image own) (shown_after size l image) here.1)
