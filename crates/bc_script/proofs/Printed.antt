-- The runs that were printed, and the one that goes on.
use Rattle.std.proofs.Common.{◌≡◌, ◌⊎◌, inl, inr, ℕ, zero, suc, ◌+◌, ◌<◌, ◌≤◌, ◌^◌, Bool, true, false, List, [], ◌∷◌, ◌++◌, length, take, Some, refl, sym, ap, ◌∙◌, subst, arith, if◌then◌else◌, append_assoc, append-nil, length-append, get_or}
use Rattle.std.specs.Prelude.{◌==◌, replicate, map, slice_get, Option, option_to_list, Result, Ok, Err, OnOk, All}
use Rattle.std.proofs.Math.Seq.{drop-append_seam}
use Rattle.std.proofs.lemmas.List.Elements.{All-drop, All-head}
use Rattle.std.specs.List.{join_with_byte}
use Rattle.std.proofs.lemmas.Bool.{eqb-true, eq-eqb}
use Rattle.std.proofs.lemmas.Grind.{flat_map-append}
use Rattle.std.proofs.lemmas.List.{take_more, length-take-le, replicate-append-replicate, length-replicate, nil_from_length}
use Rattle.std.proofs.lemmas.Option.{get_or_from_slice_get}
use Rattle.bc_model.specs.Sector.{Value}
use Rattle.bc_model.specs.Pattern.{zeros}
use Rattle.bc_model.specs.Values.{all_values, patterns, values_in, IsRun}
use Rattle.bc_model.specs.declared.run.Run.{Run as Kept}
use Rattle.bc_model.specs.declared.run.Run.TheVariants.{Pattern, Zero as Zeros}
use Rattle.bc_model.proofs.Lists.{length_patterns}
use Rattle.bc_script.specs.declared.last.Last.{Last}
use Rattle.bc_script.specs.declared.seen.Seen.{Seen}
use Rattle.bc_script.specs.declared.seen.Seen.TheVariants.{Stamp, Zero, Other}
use Rattle.bc_script.specs.Last.{Goes, IsLast, Prints}
use Rattle.bc_script.specs.Runs.{IsSeen, AreSeen, is_joined, Run, onto_runs, runs_of, seen_text, run_text, runs_text}

-- a run of more than one sector is of those that are joined
abbrev IsOneRun : Seen → ℕ → Type 0
IsOneRun run count = (1 ≤ count) × ((count ≤ 1) ⊎ (is_joined run run ≡ true))

same : (x y : Seen) → is_joined x y ≡ true → x ≡ y
same (Stamp a) (Stamp b) h = ap Stamp (eqb-true a b h)
same (Stamp a) Zero h = absurd (cc)
same (Stamp a) (Other b) h = absurd (cc)
same Zero (Stamp b) h = absurd (cc)
same Zero Zero h = refl
same Zero (Other b) h = absurd (cc)
same (Other a) (Stamp b) h = absurd (cc)
same (Other a) Zero h = absurd (cc)
same (Other a) (Other b) h = absurd (cc)

pub seen_push : (first : ℕ) (vs : List Value) (xs : List Seen) (v : Value) (x : Seen) → AreSeen first vs xs → IsSeen (first + length vs) v x → AreSeen first (vs ++ v ∷ []) (xs ++ x ∷ [])
seen_push first [] [] v x h one = let P : ℕ → Type 0 = λ n. IsSeen n v x in (subst P (omega arith) one, tt)
seen_push first [] (y ∷ ys) v x h one = absurd h
seen_push first (w ∷ ws) [] v x h one = absurd h
seen_push first (w ∷ ws) (y ∷ ys) v x h one =
    let P : ℕ → Type 0 = λ n. IsSeen n v x in
    let e : first + suc (length ws) ≡ suc first + length ws = omega arith in
    (h.0, seen_push (suc first) ws ys v x h.1 (subst P e one))

-- the first run is that of the first sector
head_run : (y : Seen) (ys : List Seen) → (n : ℕ) × (rs : List Run) × (runs_of (y ∷ ys) ≡ record { seen = y; count = n } ∷ rs)
head_run y ys = go (runs_of ys)
  where
    go : (rs : List Run) → (n : ℕ) × (ss : List Run) × (onto_runs y rs ≡ record { seen = y; count = n } ∷ ss)
    go [] = (1, [], refl)
    go (r ∷ rs) = pick (is_joined y r.seen)
      where
        pick : (b : Bool) → (n : ℕ) × (ss : List Run) × ((if b then record { seen = y; count = suc r.count } ∷ rs else record { seen = y; count = 1 } ∷ r ∷ rs) ≡ record { seen = y; count = n } ∷ ss)
        pick true = (suc r.count, rs, refl)
        pick false = (1, r ∷ rs, refl)

one_apart : (x y : Seen) (ys : List Seen) → is_joined x y ≡ false → runs_of (x ∷ y ∷ ys) ≡ record { seen = x; count = 1 } ∷ runs_of (y ∷ ys)
one_apart x y ys apart =
    let h = head_run y ys in
    let first : Run = record { seen = y; count = h.0 } in
    ap (λ (rs : List Run). onto_runs x rs) h.2
    ∙ ap (λ b. if b then record { seen = x; count = suc h.0 } ∷ h.1 else record { seen = x; count = 1 } ∷ first ∷ h.1) apart
    ∙ ap (λ (rs : List Run). record { seen = x; count = 1 } ∷ rs) (sym h.2)

-- a whole run, where the sectors behind it are of another
stretch : (n : ℕ) (x : Seen) (zs : List Seen) → runs_of (x ∷ zs) ≡ record { seen = x; count = 1 } ∷ runs_of zs → (suc n ≤ 1) ⊎ (is_joined x x ≡ true)
    → runs_of (replicate (suc n) x ++ zs) ≡ record { seen = x; count = suc n } ∷ runs_of zs
stretch zero x zs ends one = ends
stretch (suc n) x zs ends (inl few) = absurd (omega arith)
stretch (suc n) x zs ends (inr joined) =
    ap (λ (rs : List Run). onto_runs x rs) (stretch n x zs ends (inr joined))
    ∙ ap (λ b. if b then record { seen = x; count = suc (suc n) } ∷ runs_of zs else record { seen = x; count = 1 } ∷ record { seen = x; count = suc n } ∷ runs_of zs) joined

whole_run : (n : ℕ) (x : Seen) (zs : List Seen) → runs_of (x ∷ zs) ≡ record { seen = x; count = 1 } ∷ runs_of zs → IsOneRun x n
    → runs_of (replicate n x ++ zs) ≡ record { seen = x; count = n } ∷ runs_of zs
whole_run zero x zs ends one = absurd (let some = one.0 in omega arith)
whole_run (suc n) x zs ends one = stretch n x zs ends one.1

text_apart : (n : ℕ) (x y : Seen) (ys : List Seen) → is_joined x y ≡ false → IsOneRun x n → runs_text (replicate n x ++ y ∷ ys) ≡ seen_text x n ++ 32 ∷ runs_text (y ∷ ys)
text_apart n x y ys apart one =
    let h = head_run y ys in
    let first : Run = record { seen = x; count = n } in
    ap (λ (rs : List Run). join_with_byte 32 (map run_text rs)) (whole_run n x (y ∷ ys) (one_apart x y ys apart) one)
    ∙ ap (λ (rs : List Run). join_with_byte 32 (map run_text (first ∷ rs))) h.2
    ∙ ap (λ (rs : List Run). seen_text x n ++ 32 ∷ join_with_byte 32 (map run_text rs)) (sym h.2)

text_last : (n : ℕ) (x : Seen) → IsOneRun x n → runs_text (replicate n x ++ []) ≡ seen_text x n
text_last n x one = ap (λ (rs : List Run). join_with_byte 32 (map run_text rs)) (whole_run n x [] refl one)

-- sectors of other values behind those
pub seen_append : (first : ℕ) (vs ws : List Value) (xs ys : List Seen) → AreSeen first vs xs → AreSeen (first + length vs) ws ys → AreSeen first (vs ++ ws) (xs ++ ys)
seen_append first [] ws [] ys h more = let P : ℕ → Type 0 = λ n. AreSeen n ws ys in subst P (omega arith) more
seen_append first [] ws (x ∷ xs) ys h more = absurd h
seen_append first (v ∷ vs) ws [] ys h more = absurd h
seen_append first (v ∷ vs) ws (x ∷ xs) ys h more =
    let P : ℕ → Type 0 = λ n. AreSeen n ws ys in
    let e : first + suc (length vs) ≡ suc first + length vs = omega arith in
    (h.0, seen_append (suc first) vs ws xs ys h.1 (subst P e more))

-- what is seen in the sectors of a run
pub patterns_seen : (n stamp first : ℕ) → 1 ≤ stamp → stamp < 2 ^ 64 → AreSeen first (patterns stamp first n) (replicate n (Stamp stamp))
patterns_seen zero stamp first some fits = tt
patterns_seen (suc n) stamp first some fits = (((some, refl), fits), patterns_seen n stamp (suc first) some fits)

pub zeros_seen : (n first : ℕ) → AreSeen first (replicate n zeros) (replicate n Zero)
zeros_seen zero first = tt
zeros_seen (suc n) first = (refl, zeros_seen n (suc first))

-- ---- the run that goes on

-- nothing came yet
pub prints_none : (last : Last) → last.count ≡ 0 → Prints [] last []
prints_none last none = λ rest. sym (ap (λ n. runs_text (replicate n last.seen ++ rest)) none)

-- the first sectors come
pub prints_first : (xs : List Seen) (x : Seen) (n : ℕ) (old new : Last) (text : List ℕ) → old.count ≡ 0 → new.seen ≡ x → new.count ≡ n → Prints xs old text → Prints (xs ++ replicate n x) new text
prints_first xs x n old new text none seen count h = λ rest.
    ap (λ (zs : List Seen). runs_text zs) (append_assoc xs (replicate n x) rest) ∙ h (replicate n x ++ rest)
    ∙ ap (λ k. text ++ runs_text (replicate k old.seen ++ (replicate n x ++ rest))) none
    ∙ ap (λ (y : Seen). text ++ runs_text (replicate n y ++ rest)) (sym seen) ∙ ap (λ k. text ++ runs_text (replicate k new.seen ++ rest)) (sym count)

-- the run goes on
pub prints_joined : (xs : List Seen) (x : Seen) (n : ℕ) (old new : Last) (text : List ℕ) → is_joined old.seen x ≡ true → new.seen ≡ old.seen → new.count ≡ old.count + n
    → Prints xs old text → Prints (xs ++ replicate n x) new text
prints_joined xs x n old new text joined seen count h = λ rest.
    ap (λ (zs : List Seen). runs_text zs) (append_assoc xs (replicate n x) rest) ∙ h (replicate n x ++ rest)
    ∙ ap (λ (y : Seen). text ++ runs_text (replicate old.count old.seen ++ (replicate n y ++ rest))) (sym (same old.seen x joined))
    ∙ ap (λ (zs : List Seen). text ++ runs_text zs) (sym (append_assoc (replicate old.count old.seen) (replicate n old.seen) rest) ∙ ap (λ (zs : List Seen). zs ++ rest) (replicate-append-replicate old.count n old.seen))
    ∙ ap (λ (y : Seen). text ++ runs_text (replicate (old.count + n) y ++ rest)) (sym seen) ∙ ap (λ k. text ++ runs_text (replicate k new.seen ++ rest)) (sym count)

-- another one comes
pub prints_next : (xs : List Seen) (x : Seen) (n : ℕ) (old new : Last) (text after then_ : List ℕ) → is_joined old.seen x ≡ false → 1 ≤ old.count → IsLast old → 1 ≤ n → new.seen ≡ x → new.count ≡ n
    → after ≡ text ++ seen_text old.seen old.count → then_ ≡ after ++ 32 ∷ [] → Prints xs old text → Prints (xs ++ replicate n x) new then_
prints_next xs x zero old new text after then_ apart some one more seen count is_after is_then h = absurd (omega arith)
prints_next xs x (suc n) old new text after then_ apart some one more seen count is_after is_then h = λ rest.
    let next = x ∷ (replicate n x ++ rest) in
    ap (λ (zs : List Seen). runs_text zs) (append_assoc xs (replicate (suc n) x) rest) ∙ h next
    ∙ ap (λ (bs : List ℕ). text ++ bs) (text_apart old.count old.seen x (replicate n x ++ rest) apart (some, one))
    ∙ sym (append_assoc text (seen_text old.seen old.count) (32 ∷ runs_text next))
    ∙ ap (λ (bs : List ℕ). bs ++ 32 ∷ runs_text next) (sym is_after)
    ∙ sym (append_assoc after (32 ∷ []) (runs_text next))
    ∙ ap (λ (bs : List ℕ). bs ++ runs_text next) (sym is_then)
    ∙ ap (λ (y : Seen). then_ ++ runs_text (replicate (suc n) y ++ rest)) (sym seen) ∙ ap (λ k. then_ ++ runs_text (replicate k new.seen ++ rest)) (sym count)

-- no more comes
pub prints_end : (xs : List Seen) (last : Last) (text new : List ℕ) → 1 ≤ last.count → IsLast last → new ≡ text ++ seen_text last.seen last.count → Prints xs last text → new ≡ runs_text xs
prints_end xs last text new some one is_new h =
    is_new ∙ ap (λ (bs : List ℕ). text ++ bs) (sym (text_last last.count last.seen (some, one))) ∙ sym (h []) ∙ ap (λ (zs : List Seen). runs_text zs) (append-nil xs)

pub prints_nothing : (xs : List Seen) (last : Last) (text : List ℕ) → last.count ≡ 0 → Prints xs last text → text ≡ runs_text xs
prints_nothing xs last text none h =
    sym (append-nil text) ∙ ap (λ k. text ++ runs_text (replicate k last.seen ++ [])) (sym none) ∙ sym (h []) ∙ ap (λ (zs : List Seen). runs_text zs) (append-nil xs)

-- ---- values

pub goes_none : (first : ℕ) (last : Last) (text : List ℕ) → IsLast last → Goes first [] last last text text
goes_none first last text one = record {
  last = one;
  few = omega arith;
  prints = λ xs h. ([], tt, let P : List Seen → Type 0 = λ zs. Prints zs last text in subst P (sym (append-nil xs)) h);
}

pub goes_then : (first : ℕ) (vs ws : List Value) (a b c : Last) (s t u : List ℕ) → Goes first vs a b s t → Goes (first + length vs) ws b c t u → Goes first (vs ++ ws) a c s u
goes_then first vs ws a b c s t u h more = record {
  last = more.last;
  few = (let p = h.few in let q = more.few in let n = length-append vs ws in omega arith);
  prints = λ xs is.
      let one = h.prints xs is in
      let two = more.prints (xs ++ one.0) one.2 in
      let P : List Seen → Type 0 = λ zs. Prints zs c u in
      (one.0 ++ two.0, seen_append first vs ws one.0 two.0 one.1 two.1, subst P (append_assoc xs one.0 two.0) two.2);
}

-- sectors in which the same is seen
pub goes_same : (first n : ℕ) (x : Seen) (values : List Value) (a b : Last) (s t : List ℕ) → IsLast b → b.count ≤ a.count + n → length values ≡ n → AreSeen first values (replicate n x)
    → ((xs : List Seen) → Prints xs a s → Prints (xs ++ replicate n x) b t) → Goes first values a b s t
goes_same first n x values a b s t one few long seen prints = record {
  last = one;
  few = omega arith;
  prints = λ xs is. (replicate n x, seen, prints xs is);
}

-- one sector more
pub goes_one : (first place : ℕ) (values : List Value) (v : Value) (x : Seen) (a b c : Last) (s t u : List ℕ) → place < length values → slice_get values place ≡ Some v → IsSeen (first + place) v x
    → IsLast c → c.count ≤ b.count + 1 → ((xs : List Seen) → Prints xs b t → Prints (xs ++ x ∷ []) c u) → Goes first (take place values) a b s t → Goes first (take (place + 1) values) a c s u
goes_one first place values v x a b c s t u lt is seen one few prints h =
    let len : length (take place values) ≡ place = length-take-le place values (omega arith) in
    let more : take (place + 1) values ≡ take place values ++ v ∷ [] = take_more values place v lt ∙ ap (λ (w : Value). take place values ++ w ∷ []) (get_or_from_slice_get values place v v is) in
    let P : ℕ → Type 0 = λ n. IsSeen (first + n) v x in
    let Q : List Value → Type 0 = λ vs. Goes first vs a c s u in
    subst Q (sym more) (goes_then first (take place values) (v ∷ []) a b c s t u h (record {
      last = one;
      few = few;
      prints = λ xs was. (x ∷ [], (subst P (sym len) seen, tt), prints xs was);
    }))

all_more : (i : ℕ) (runs : List Kept) (run : Kept) → i < length runs → run ≡ get_or runs i run → all_values (take (i + 1) runs) ≡ all_values (take i runs) ++ values_in run
all_more i runs run lt is =
    ap (λ (rs : List Kept). all_values rs) (take_more runs i run lt ∙ ap (λ (r : Kept). take i runs ++ r ∷ []) (sym is))
    ∙ flat_map-append values_in (take i runs) (run ∷ []) ∙ ap (λ (vs : List Value). all_values (take i runs) ++ vs) (append-nil (values_in run))

pub length_more : (i : ℕ) (runs : List Kept) (run : Kept) → i < length runs → run ≡ get_or runs i run → length (all_values (take (i + 1) runs)) ≡ length (all_values (take i runs)) + length (values_in run)
length_more i runs run lt is = ap (λ (vs : List Value). length vs) (all_more i runs run lt is) ∙ length-append (all_values (take i runs)) (values_in run)

-- one run more
pub goes_run : (first next i : ℕ) (runs : List Kept) (run : Kept) (a b c : Last) (s t u : List ℕ) → i < length runs → run ≡ get_or runs i run → next ≡ first + length (all_values (take i runs))
    → Goes first (all_values (take i runs)) a b s t → Goes next (values_in run) b c t u → Goes first (all_values (take (i + 1) runs)) a c s u
goes_run first next i runs run a b c s t u lt is at h more =
    let P : ℕ → Type 0 = λ n. Goes n (values_in run) b c t u in
    let Q : List Value → Type 0 = λ vs. Goes first vs a c s u in
    subst Q (sym (all_more i runs run lt is)) (goes_then first (all_values (take i runs)) (values_in run) a b c s t u h (subst P at more))

-- ---- at a result

pub all_ok : {T E A B C D : Type 0} (r : Result T E) → OnOk r A → OnOk r B → OnOk r C → (A → B → C → D) → OnOk r D
all_ok (Ok x) a b c f = f a b c
all_ok (Err e) a b c f = tt

-- sectors with the patterns of a stamp
pub goes_pattern : {T E : Type 0} (r : Result T E) (first n stamp : ℕ) (a b : Last) (s t : List ℕ) → 1 ≤ stamp → stamp < 2 ^ 64
    → OnOk r (IsLast b) → OnOk r (b.count ≤ a.count + n) → OnOk r ((xs : List Seen) → Prints xs a s → Prints (xs ++ replicate n (Stamp stamp)) b t) → OnOk r (Goes first (patterns stamp first n) a b s t)
goes_pattern r first n stamp a b s t some fits one few prints = all_ok r one few prints (λ last count more.
    goes_same first n (Stamp stamp) (patterns stamp first n) a b s t last count (length_patterns stamp first n) (patterns_seen n stamp first some fits) more)

-- a run of them
pub goes_run_of : {T E : Type 0} (r : Result T E) (first own n stamp : ℕ) (run : Kept) (a b : Last) (s t : List ℕ) → run ≡ Pattern stamp own n → own ≡ first
    → OnOk r (Goes first (patterns stamp first n) a b s t) → OnOk r (Goes first (values_in run) a b s t)
goes_run_of r first own n stamp run a b s t is at h =
    let values : values_in run ≡ patterns stamp first n = ap (λ (k : Kept). values_in k) is ∙ ap (λ m. patterns stamp m n) at in
    let P : List Value → Type 0 = λ vs. OnOk r (Goes first vs a b s t) in
    subst P (sym values) h

-- a run of zeros
pub goes_zeros : {T E : Type 0} (r : Result T E) (first n : ℕ) (run : Kept) (a b : Last) (s t : List ℕ) → run ≡ Zeros n
    → OnOk r (IsLast b) → OnOk r (b.count ≤ a.count + n) → OnOk r ((xs : List Seen) → Prints xs a s → Prints (xs ++ replicate n Zero) b t) → OnOk r (Goes first (values_in run) a b s t)
goes_zeros r first n run a b s t is one few prints = all_ok r one few prints (λ last count more.
    let P : List Value → Type 0 = λ vs. Goes first vs a b s t in
    subst P (sym (ap (λ (k : Kept). values_in k) is)) (goes_same first n Zero (replicate n zeros) a b s t last count (length-replicate n zeros) (zeros_seen n first) more))

-- the text at the end
pub ends : {T E : Type 0} (r : Result T E) (last : Last) (text new : List ℕ) → 1 ≤ last.count → IsLast last → OnOk r (new ≡ text ++ seen_text last.seen last.count)
    → OnOk r ((xs : List Seen) → Prints xs last text → new ≡ runs_text xs)
ends (Ok x) last text new some one is = λ xs h. prints_end xs last text new some one is h
ends (Err e) last text new some one is = tt

-- the run of an option behind others
pub option_run : (rest : List Kept) (last : Option Kept) → All IsRun (rest ++ option_to_list last) → All IsRun (option_to_list last)
option_run rest last all =
    let Q : List Kept → Type 0 = λ rs. All IsRun rs in
    subst Q (drop-append_seam rest (option_to_list last)) (All-drop IsRun (length rest) (rest ++ option_to_list last) all)

pub room_runs : (rest more : List Kept) (values : List Value) → all_values (rest ++ more) ≡ values → length (all_values rest) + length (all_values more) ≡ length values
room_runs rest more values is = sym (length-append (all_values rest) (all_values more)) ∙ ap (λ (vs : List Value). length vs) (sym (flat_map-append values_in rest more) ∙ is)

-- all of a read
pub all_printed : (first next : ℕ) (rest more : List Kept) (values : List Value) (a b c : Last) (s t u : List ℕ) (new : List ℕ) → a.count ≡ 0 → s ≡ [] → next ≡ first + length (all_values rest)
    → all_values (rest ++ more) ≡ values → Goes first (all_values rest) a b s t → Goes next (all_values more) b c t u → ((xs : List Seen) → Prints xs c u → new ≡ runs_text xs)
    → (seen : List Seen) × AreSeen first values seen × (new ≡ runs_text seen)
all_printed first next rest more values a b c s t u new none empty at is h then_ end =
    let P : ℕ → Type 0 = λ n. Goes n (all_values more) b c t u in
    let Q : List Value → Type 0 = λ vs. Goes first vs a c s u in
    let R : List ℕ → Type 0 = λ bs. Prints [] a bs in
    let all = subst Q (sym (flat_map-append values_in rest more) ∙ is) (goes_then first (all_values rest) (all_values more) a b c s t u h (subst P at then_)) in
    let got = all.prints [] (subst R (sym empty) (prints_none a none)) in
    (got.0, got.1, end got.0 got.2)

-- ---- all sectors of one run

one_seen : (first n : ℕ) (x : Seen) (values : List Value) (old new : List ℕ) → 1 ≤ n → is_joined x x ≡ true
    → AreSeen first values (replicate n x) → new ≡ old ++ seen_text x n
    → (seen : List Seen) × AreSeen first values seen × (new ≡ old ++ runs_text seen)
one_seen first n x values old new some joined seen is = (
  replicate n x,
  seen,
  is ∙ ap (λ (bs : List ℕ). old ++ bs)
      (sym (text_last n x (some, inr joined)) ∙ ap (λ (zs : List Seen). runs_text zs) (append-nil (replicate n x))),
)

-- the values of the only run
only_run : (rest : List Kept) (last : Option Kept) (run : Kept) (values : List Value) → rest ≡ [] → last ≡ Some run
    → all_values (rest ++ option_to_list last) ≡ values → values_in run ≡ values
only_run rest last run values none is all =
    sym (append-nil (values_in run))
    ∙ ap (λ (o : Option Kept). all_values (option_to_list o)) (sym is)
    ∙ ap (λ (rs : List Kept). all_values (rs ++ option_to_list last)) (sym none) ∙ all

is_run : (rest : List Kept) (last : Option Kept) (run : Kept) → last ≡ Some run
    → All IsRun (rest ++ option_to_list last) → IsRun run
is_run rest last run is all =
    let Q : Option Kept → Type 0 = λ o. All IsRun (option_to_list o) in
    All-head IsRun run [] (subst Q is (option_run rest last all))

pub one_stamp : {T E : Type 0} (r : Result T E) (first own n stamp : ℕ) (rest : List Kept) (last : Option Kept)
    (values : List Value) (old new : List ℕ) → rest ≡ [] → last ≡ Some (Pattern stamp own n) → own ≡ first → 1 ≤ n
    → stamp < 2 ^ 64 → All IsRun (rest ++ option_to_list last) → all_values (rest ++ option_to_list last) ≡ values
    → OnOk r (new ≡ old ++ seen_text (Stamp stamp) n)
    → OnOk r ((seen : List Seen) × AreSeen first values seen × (new ≡ old ++ runs_text seen))
one_stamp (Err e) first own n stamp rest last values old new none is at some fits runs all text = tt
one_stamp (Ok x) first own n stamp rest last values old new none is at some fits runs all text =
    let run : Kept = Pattern stamp own n in
    let P : List Value → Type 0 = λ vs. AreSeen first vs (replicate n (Stamp stamp)) in
    let Q : ℕ → Type 0 = λ m. AreSeen first (patterns stamp m n) (replicate n (Stamp stamp)) in
    one_seen first n (Stamp stamp) values old new some (eq-eqb stamp stamp refl)
    (subst P (only_run rest last run values none is all)
    (subst Q (sym at) (patterns_seen n stamp first (is_run rest last run is runs).0 fits))) text

pub one_zero : {T E : Type 0} (r : Result T E) (first n : ℕ) (rest : List Kept) (last : Option Kept)
    (values : List Value) (old new : List ℕ) → rest ≡ [] → last ≡ Some (Zeros n) → 1 ≤ n
    → all_values (rest ++ option_to_list last) ≡ values → OnOk r (new ≡ old ++ seen_text Zero n)
    → OnOk r ((seen : List Seen) × AreSeen first values seen × (new ≡ old ++ runs_text seen))
one_zero (Err e) first n rest last values old new none is some all text = tt
one_zero (Ok x) first n rest last values old new none is some all text =
    let P : List Value → Type 0 = λ vs. AreSeen first vs (replicate n Zero) in
    one_seen first n Zero values old new some refl
    (subst P (only_run rest last (Zeros n) values none is all) (zeros_seen n first)) text

-- nothing is in a list that is empty
pub none_in : (rs : List Kept) (n : ℕ) (b : Bool) → n ≡ length rs → b ≡ (n == 0) → b ≡ true → rs ≡ []
none_in rs n b long is on = nil_from_length rs (sym long ∙ eqb-true n 0 (sym is ∙ on))
