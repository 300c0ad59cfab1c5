-- What a source tells over two calls.
use Rattle.std.proofs.Common.{◌≡◌, ◌⊎◌, inl, inr, ℕ, ◌+◌, ◌<◌, ◌≤◌, List, [], ◌++◌, length, take, Option, Some, None, sym, ap, ◌∙◌, subst, arith, append_assoc, length-append}
use Rattle.std.proofs.lemmas.List.{length-take-le}
use Rattle.bc_disk.specs.Stream.{StreamFacts, BothToldText, IsMoved}
use Rattle.bc_script.specs.declared.line.Line.{Line}
use Rattle.bc_script.specs.declared.script.TraceError.{TraceError}
use Rattle.bc_script.specs.declared.script.TraceError.TheVariants.{Script, Fault, Memory}
use Rattle.std.specs.Prelude.{Result, Ok, Err, MatchResult, IfOk, IfErr}
use Rattle.bc_script.specs.Trace.{TakesAtMost, IsCause, IsWhole, SpellAll, lines_of}
use Rattle.bc_script.specs.Draft.{IsDraft, IsSoFar, Stops, IsAfter, bytes_read}
use Rattle.std.proofs.lemmas.Bool.{cases_lt}

both_then : {R S Q : List ℕ → List ℕ → Type 0} (a b c : Option (List ℕ)) → BothToldText R a b → BothToldText S b c → ((x y z : List ℕ) → R x y → S y z → Q x z) → BothToldText Q a c
both_then None None None r s f = tt
both_then None None (Some z) r s f = absurd s
both_then None (Some y) c r s f = absurd r
both_then (Some x) None c r s f = absurd r
both_then (Some x) (Some y) None r s f = absurd s
both_then (Some x) (Some y) (Some z) r s f = f x y z r s

-- so many bytes were taken, and this is what they make
abbrev pub Reads : ℕ → List Line → ℕ → List ℕ → List ℕ → List ℕ → Type 0
Reads taken lines phase part text left = (got : List ℕ) × (text ≡ got ++ left) × (length got ≡ taken) × IsSoFar text lines phase part left

-- some bytes more
more_taken : (taken n : ℕ) (slice x y z got : List ℕ) → n ≤ length slice → x ≡ got ++ y → length got ≡ taken → IsMoved n slice y z → (all : List ℕ) × (x ≡ all ++ z) × (length all ≡ taken + n)
more_taken taken n slice x y z got le is len moved =
    (got ++ take n slice, is ∙ ap (λ (bs : List ℕ). got ++ bs) moved ∙ sym (append_assoc got (take n slice) z), let a = length-append got (take n slice) in let b = length-take-le n slice le in omega arith)

pub reads_on : (taken n : ℕ) (lines now : List Line) (phase then_ : ℕ) (part rest slice bytes : List ℕ) (a b c : Option (List ℕ)) → n ≤ length slice → bytes ≡ take n slice
    → ((text left : List ℕ) → IsSoFar text lines phase part (bytes ++ left) → IsSoFar text now then_ rest left)
    → BothToldText (Reads taken lines phase part) a b → BothToldText (IsMoved n slice) b c → BothToldText (Reads (taken + n) now then_ rest) a c
reads_on taken n lines now phase then_ part rest slice bytes a b c le same on told moved = both_then a b c told moved (λ x y z r m.
    let all = more_taken taken n slice x y z r.0 le r.1 r.2 m in
    let P : List ℕ → Type 0 = λ bs. IsSoFar x lines phase part bs in
    (all.0, all.1, all.2, on x z (subst P (m ∙ ap (λ (bs : List ℕ). bs ++ z) (sym same)) r.3)))

pub taken_then : (taken n most : ℕ) (lines : List Line) (phase : ℕ) (part slice : List ℕ) (a b c : Option (List ℕ)) → n ≤ length slice → taken + n ≤ most
    → BothToldText (Reads taken lines phase part) a b → BothToldText (IsMoved n slice) b c → BothToldText (TakesAtMost most) a c
taken_then taken n most lines phase part slice a b c le few told moved = both_then a b c told moved (λ x y z r m.
    let all = more_taken taken n slice x y z r.0 le r.1 r.2 m in
    (all.0, all.1, let len = all.2 in omega arith))

pub cause_then : (taken n : ℕ) (lines : List Line) (phase : ℕ) (part slice bytes : List ℕ) (old mid new : StreamFacts) (e : TraceError) → n ≤ length slice → n ≤ 4096 → bytes ≡ take n slice
    → taken ≤ bytes_read lines part → length part ≤ 80 → IsAfter (length lines) e
    → ((text left : List ℕ) → IsSoFar text lines phase part (bytes ++ left) → Stops text e)
    → BothToldText (Reads taken lines phase part) old.text mid.text → BothToldText (IsMoved n slice) mid.text new.text → new.faults ≡ old.faults → IsCause old new e
cause_then taken n lines phase part slice bytes old mid new (Script e) le few same count short after stops told moved quiet = (
  both_then old.text mid.text new.text told moved (λ x y z r m.
      let all = more_taken taken n slice x y z r.0 le r.1 r.2 m in
      let P : List ℕ → Type 0 = λ bs. IsSoFar x lines phase part bs in
      (stops x z (subst P (m ∙ ap (λ (bs : List ℕ). bs ++ z) (sym same)) r.3), (all.0, all.1, let len = all.2 in omega arith))),
  quiet,
)
cause_then taken n lines phase part slice bytes old mid new Fault le few same count short after stops told moved quiet = absurd after
cause_then taken n lines phase part slice bytes old mid new Memory le few same count short after stops told moved quiet = quiet

-- ---- the end of the text

both_and : (R S : List ℕ → List ℕ → Type 0) (a b : Option (List ℕ)) → BothToldText R a b → BothToldText S a b → BothToldText (λ x y. R x y × S x y) a b
both_and R S None None r s = tt
both_and R S None (Some y) r s = absurd r
both_and R S (Some x) None r s = absurd r
both_and R S (Some x) (Some y) r s = (r, s)

-- nothing was taken, and nothing was left
nothing_left : (n : ℕ) (slice y z : List ℕ) → n ≡ 0 → IsMoved n slice y z → y ≡ [] → (z ≡ []) × (y ≡ z)
nothing_left n slice y z none moved ended =
    let same : y ≡ z = moved ∙ ap (λ k. take k slice ++ z) none in
    (sym same ∙ ended, same)

-- the text ends behind what was taken
abbrev AtEnd : ℕ → List Line → ℕ → List ℕ → List ℕ → List ℕ → Type 0
AtEnd taken lines phase part text left = (left ≡ []) × (got : List ℕ) × (text ≡ got ++ left) × (length got ≡ taken) × IsSoFar text lines phase part []

at_end : (taken n : ℕ) (lines : List Line) (phase : ℕ) (part slice : List ℕ) (a b c : Option (List ℕ)) → n ≡ 0
    → BothToldText (Reads taken lines phase part) a b → BothToldText (IsMoved n slice) b c → BothToldText (λ x y. x ≡ []) b c → BothToldText (AtEnd taken lines phase part) a c
at_end taken n lines phase part slice a b c none told moved ended = both_then a b c told (both_and (IsMoved n slice) (λ x y. x ≡ []) b c moved ended) (λ x y z r m.
    let e = nothing_left n slice y z none m.0 m.1 in
    let P : List ℕ → Type 0 = λ bs. IsSoFar x lines phase part bs in
    (e.0, r.0, r.1 ∙ ap (λ (bs : List ℕ). r.0 ++ bs) e.1, r.2, subst P m.1 r.3))

both_weaker : {R S : List ℕ → List ℕ → Type 0} (a b : Option (List ℕ)) → ((x y : List ℕ) → R x y → S x y) → BothToldText R a b → BothToldText S a b
both_weaker None None f r = tt
both_weaker None (Some y) f r = absurd r
both_weaker (Some x) None f r = absurd r
both_weaker (Some x) (Some y) f r = f x y r

pub whole_end : (taken n : ℕ) (lines : List Line) (phase : ℕ) (part slice : List ℕ) (old mid new : StreamFacts) (r : Result (List Line) TraceError) → n ≡ 0
    → ((text : List ℕ) → IsSoFar text lines phase part [] → MatchResult r (SpellAll (lines_of text)) (Stops text))
    → BothToldText (Reads taken lines phase part) old.text mid.text → BothToldText (IsMoved n slice) mid.text new.text → BothToldText (λ x y. x ≡ []) mid.text new.text
    → new.faults ≡ old.faults → IfOk r (IsWhole old new)
whole_end taken n lines phase part slice old mid new (Ok script) none spells told moved ended quiet =
    (both_weaker old.text new.text (λ x z e. (e.0, spells x e.4)) (at_end taken n lines phase part slice old.text mid.text new.text none told moved ended), quiet)
whole_end taken n lines phase part slice old mid new (Err e) none spells told moved ended quiet = tt

pub cause_end : (taken n : ℕ) (lines : List Line) (phase : ℕ) (part slice : List ℕ) (old mid new : StreamFacts) (r : Result (List Line) TraceError) → n ≡ 0
    → taken ≤ bytes_read lines part → length part ≤ 80 → IfErr r (IsAfter (length lines))
    → ((text : List ℕ) → IsSoFar text lines phase part [] → MatchResult r (SpellAll (lines_of text)) (Stops text))
    → BothToldText (Reads taken lines phase part) old.text mid.text → BothToldText (IsMoved n slice) mid.text new.text → BothToldText (λ x y. x ≡ []) mid.text new.text
    → new.faults ≡ old.faults → IfErr r (IsCause old new)
cause_end taken n lines phase part slice old mid new (Ok script) none count short after stops told moved ended quiet = tt
cause_end taken n lines phase part slice old mid new (Err (Script e)) none count short after stops told moved ended quiet = (
  both_weaker old.text new.text (λ x z m. (stops x m.4, (m.1, m.2, let len = m.3 in omega arith)))
      (at_end taken n lines phase part slice old.text mid.text new.text none told moved ended),
  quiet,
)
cause_end taken n lines phase part slice old mid new (Err Fault) none count short after stops told moved ended quiet = absurd after
cause_end taken n lines phase part slice old mid new (Err Memory) none count short after stops told moved ended quiet = quiet

-- more may be taken while the draft isn't full
pub room_left : (taken : ℕ) (lines : List Line) (phase : ℕ) (part : List ℕ) → IsDraft lines phase part → taken ≤ bytes_read lines part → taken < 21233665
room_left taken lines phase part draft count = go (cases_lt (length lines) 262144)
  where
    go : (length lines < 262144) ⊎ (262144 ≤ length lines) → taken < 21233665
    go (inl less) = let short = draft.short in omega arith
    go (inr most) =
        let few = draft.trace.few in
        let none : length part ≡ 0 = ap (λ (bs : List ℕ). length bs) (draft.full (omega arith)) in
        omega arith
