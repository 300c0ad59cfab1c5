-- Sectors by their numbers: runs of values, images of bytes, and logs.
use Rattle.std.proofs.Common.{◌≡◌, ◌⊎◌, inl, inr, ℕ, zero, suc, ◌+◌, ◌-◌, ◌*◌, ◌/◌, ◌%◌, ◌<◌, ◌≤◌, List, [], ◌∷◌, ◌++◌, length, get_or, take, drop, Some, None, if◌then◌else◌, ◌==◌, refl, sym, ap, ◌∙◌, arith, length-append, length-drop, append_assoc}
use Rattle.std.specs.Prelude.{option_to_list}
use Rattle.std.proofs.lemmas.Bool.{cases_lt}
use Rattle.std.proofs.lemmas.List.{ext_get_or, get_or-take, get_or-drop, length-take-le, drop-drop, drop_more, take_all}
use Rattle.std.proofs.lemmas.Nat.{div-add-mod', mod_below}
use Rattle.std.proofs.lemmas.List.Elements.{All-head, All-tail}
use Rattle.bc_model.specs.Sector.{Value, at_run, unless, sectors}
use Rattle.bc_disk.specs.declared.log.Logged.{Logged}
use Rattle.bc_disk.specs.Bytes.{image_of, put}
use Rattle.bc_disk.specs.Log.{logged, values_at, IsWithin}
use Rattle.bc_disk.proofs.Cases.{by_test}
use Rattle.bc_disk.proofs.Windows.{window_below, window_inside, window_above, window_window, window_past}

-- where a sector lies beside a run of n values
pub data Lies (first n s : ℕ) : Type 0 where
  below : s < first → Lies first n s
  within : (k : ℕ) → k < n → s ≡ first + k → Lies first n s
  above : first + n ≤ s → Lies first n s

pub lies : (first n s : ℕ) → Lies first n s
lies first n s = go (cases_lt s first) (cases_lt s (first + n))
  where
    go : (s < first) ⊎ (first ≤ s) → (s < first + n) ⊎ (first + n ≤ s) → Lies first n s
    go (inl low) end = below low
    go (inr low) (inl end) = within (s - first) (omega arith) (omega arith)
    go (inr low) (inr end) = above end

pub at_run-below : (first : ℕ) (vs : List Value) (s : ℕ) → s < first → at_run first vs s ≡ None
at_run-below first [] s low = refl
at_run-below first (v ∷ vs) s low =
    by_test first s (λ b. (if b then Some v else at_run (suc first) vs s) ≡ None) (λ e. absurd (omega arith)) (λ ne. at_run-below (suc first) vs s (omega arith))

pub at_run-above : (first : ℕ) (vs : List Value) (s : ℕ) → first + length vs ≤ s → at_run first vs s ≡ None
at_run-above first [] s high = refl
at_run-above first (v ∷ vs) s high =
    by_test first s (λ b. (if b then Some v else at_run (suc first) vs s) ≡ None) (λ e. absurd (omega arith)) (λ ne. at_run-above (suc first) vs s (omega arith))

pub length-sectors : (n : ℕ) (bytes : List ℕ) → length (sectors n bytes) ≡ n
length-sectors zero bytes = refl
length-sectors (suc n) bytes = ap suc (length-sectors n (drop 512 bytes))

pub image_of-rest : (bytes : List ℕ) (k : ℕ) → image_of (drop 512 bytes) k ≡ image_of bytes (suc k)
image_of-rest bytes k = ap (take 512) (drop-drop (512 * k) 512 bytes ∙ ap (λ n. drop n bytes) (let e : 512 + 512 * k ≡ 512 * suc k = omega arith in e))

-- a run of the sectors of a piece
pub at_run-sectors : (first n k s : ℕ) (piece : List ℕ) → k < n → s ≡ first + k → at_run first (sectors n piece) s ≡ Some (image_of piece k)
at_run-sectors first zero k s piece low e = absurd (omega arith)
at_run-sectors first (suc n) zero s piece low e =
    by_test first s (λ b. (if b then Some (take 512 piece) else at_run (suc first) (sectors n (drop 512 piece)) s) ≡ Some (take 512 piece)) (λ same. refl) (λ ne. absurd (ne (omega arith)))
at_run-sectors first (suc n) (suc k) s piece low e =
    by_test first s (λ b. (if b then Some (take 512 piece) else at_run (suc first) (sectors n (drop 512 piece)) s) ≡ Some (image_of piece (suc k))) (λ same. absurd (omega arith))
    (λ ne. at_run-sectors (suc first) n k s (drop 512 piece) (omega arith) (omega arith) ∙ ap Some (image_of-rest piece k))

-- the image once a piece of whole sectors was put into the bytes
pub image_of-put : (at n : ℕ) (piece bytes : List ℕ) → length piece ≡ 512 * n → 512 * at + length piece ≤ length bytes → (s : ℕ) → image_of (put at piece bytes) s ≡ unless (at_run at (sectors n piece) s) (image_of bytes s)
image_of-put at n piece bytes whole fits s = go (lies at n s)
  where
    go : Lies at n s → image_of (put at piece bytes) s ≡ unless (at_run at (sectors n piece) s) (image_of bytes s)
    go (below low) =
        let miss = at_run-below at (sectors n piece) s low in
        rw (miss, append_assoc) (window_below (512 * s) 512 (512 * at) bytes (piece ++ drop (512 * at + length piece) bytes) (omega arith) (omega arith))
    go (within k low e) =
        let hit = at_run-sectors at n k s piece low e in
        rw hit (window_inside (512 * s) (512 * k) 512 (512 * at) (take (512 * at) bytes) piece (drop (512 * at + length piece) bytes) (length-take-le (512 * at) bytes (omega arith)) (omega arith) (omega arith))
    go (above high) =
        let miss = at_run-above at (sectors n piece) s (omega (arith, length-sectors n piece)) in
        rw miss (window_above (512 * s) 512 (512 * at + length piece) (take (512 * at) bytes ++ piece) bytes (omega (arith, length-append (take (512 * at) bytes) piece, length-take-le (512 * at) bytes (omega arith))) (omega arith))

-- what stands in a run of n sectors of the bytes is what the image gives there
pub image_of-run : (at n : ℕ) (bytes : List ℕ) (s : ℕ) (v : Value) → at_run at (sectors n (take (512 * n) (drop (512 * at) bytes))) s ≡ Some v → v ≡ image_of bytes s
image_of-run at n bytes s v h = go (lies at n s)
  where
    go : Lies at n s → v ≡ image_of bytes s
    go (below low) = let miss = at_run-below at (sectors n (take (512 * n) (drop (512 * at) bytes))) s low in absurd (cc)
    go (within k low e) =
        let hit = at_run-sectors at n k s (take (512 * n) (drop (512 * at) bytes)) low e in
        let same : v ≡ image_of (take (512 * n) (drop (512 * at) bytes)) k = cc in
        same ∙ window_window (512 * k) 512 (512 * at) (512 * n) bytes (omega arith) ∙ ap (λ p. take 512 (drop p bytes)) (let q : 512 * at + 512 * k ≡ 512 * s = omega arith in q)
    go (above high) = let miss = at_run-above at (sectors n (take (512 * n) (drop (512 * at) bytes))) s (omega (arith, length-sectors n (take (512 * n) (drop (512 * at) bytes)))) in absurd (cc)

pub image_of-past : (bytes : List ℕ) (s : ℕ) → length bytes ≤ 512 * s → image_of bytes s ≡ []
image_of-past bytes s past = window_past (512 * s) 512 bytes past

-- bytes with the same image are the same
pub same_image : (xs ys : List ℕ) → length xs ≡ length ys → ((s : ℕ) → image_of xs s ≡ image_of ys s) → xs ≡ ys
same_image xs ys long same = ext_get_or 0 xs ys long (λ i h. at_byte xs i ∙ ap (λ l. get_or l (i % 512) 0) (same (i / 512)) ∙ sym (at_byte ys i))
  where
    at_byte : (bytes : List ℕ) (i : ℕ) → get_or bytes i 0 ≡ get_or (image_of bytes (i / 512)) (i % 512) 0
    at_byte bytes i =
        let low : i % 512 < 512 = mod_below i 512 (omega arith) in
        let e : 512 * (i / 512) + i % 512 ≡ i = omega (arith, div-add-mod' i 512) in
        ap (λ n. get_or bytes n 0) (sym e) ∙ sym (get_or-take 512 (drop (512 * (i / 512)) bytes) (i % 512) 0 low ∙ get_or-drop (512 * (i / 512)) bytes (i % 512) 0)

pub values_at-append : (s : ℕ) (xs ys : List Logged) → values_at s (xs ++ ys) ≡ values_at s xs ++ values_at s ys
values_at-append s [] ys = refl
values_at-append s (x ∷ xs) ys =
    let rest = values_at-append s xs ys in
    by_test x.sector s (λ b. (if b then x.value ∷ values_at s (xs ++ ys) else values_at s (xs ++ ys)) ≡ (if b then x.value ∷ values_at s xs else values_at s xs) ++ values_at s ys)
    (λ e. ap (λ l. x.value ∷ l) rest) (λ ne. rest)

pub values_at-below : (at : ℕ) (vs : List Value) (s : ℕ) → s < at → values_at s (logged at vs) ≡ []
values_at-below at [] s low = refl
values_at-below at (v ∷ vs) s low =
    by_test at s (λ b. (if b then v ∷ values_at s (logged (suc at) vs) else values_at s (logged (suc at) vs)) ≡ []) (λ e. absurd (omega arith)) (λ ne. values_at-below (suc at) vs s (omega arith))

-- a run gives each of its sectors one value
pub values_at-logged : (at : ℕ) (vs : List Value) (s : ℕ) → values_at s (logged at vs) ≡ option_to_list (at_run at vs s)
values_at-logged at [] s = refl
values_at-logged at (v ∷ vs) s =
    by_test at s (λ b. (if b then v ∷ values_at s (logged (suc at) vs) else values_at s (logged (suc at) vs)) ≡ option_to_list (if b then Some v else at_run (suc at) vs s))
    (λ e. ap (λ l. v ∷ l) (values_at-below (suc at) vs s (omega arith))) (λ ne. values_at-logged (suc at) vs s)

-- one sector put into the bytes
pub image_of-put_one : (at : ℕ) (value bytes : List ℕ) → length value ≡ 512 → 512 * at + 512 ≤ length bytes → (s : ℕ) → image_of (put at value bytes) s ≡ (if at == s then value else image_of bytes s)
image_of-put_one at value bytes long fits s =
    image_of-put at 1 value bytes (omega arith) (omega arith) s ∙ ap (λ v. unless (if at == s then Some v else None) (image_of bytes s)) (take_all 512 value (omega arith))
    ∙ by_test at s (λ b. unless (if b then Some value else None) (image_of bytes s) ≡ (if b then value else image_of bytes s)) (λ e. refl) (λ ne. refl)

-- the rest of a log from record i on
pub values_at-drop : (s i : ℕ) (log : List Logged) (w : Logged) → i < length log → values_at s (drop i log) ≡ (if (get_or log i w).sector == s then (get_or log i w).value ∷ values_at s (drop (i + 1) log) else values_at s (drop (i + 1) log))
values_at-drop s i log w low = ap (values_at s) (drop_more log i w low)

pub length-image_of : (bytes : List ℕ) (s : ℕ) → 512 * s + 512 ≤ length bytes → length (image_of bytes s) ≡ 512
length-image_of bytes s fits = length-take-le 512 (drop (512 * s) bytes) (omega (arith, length-drop (512 * s) bytes))

pub length-values_at : (s : ℕ) (log : List Logged) → length (values_at s log) ≤ length log
length-values_at s [] = omega arith
length-values_at s (w ∷ ws) =
    let rest = length-values_at s ws in
    by_test w.sector s (λ b. length (if b then w.value ∷ values_at s ws else values_at s ws) ≤ suc (length ws)) (λ e. omega arith) (λ ne. omega arith)

-- no record lies past the end
pub values_at-outside : (bytes s : ℕ) (log : List Logged) → IsWithin bytes log → bytes < 512 * s + 512 → values_at s log ≡ []
values_at-outside bytes s [] all past = refl
values_at-outside bytes s (w ∷ ws) all past =
    let first = All-head (λ (x : Logged). 512 * x.sector + 512 ≤ bytes) w ws all in
    let rest = values_at-outside bytes s ws (All-tail (λ (x : Logged). 512 * x.sector + 512 ≤ bytes) w ws all) past in
    by_test w.sector s (λ b. (if b then w.value ∷ values_at s ws else values_at s ws) ≡ []) (λ e. absurd (omega arith)) (λ ne. rest)
