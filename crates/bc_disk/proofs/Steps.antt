-- The loops over a log, one record at a time.
use Rattle.std.proofs.Common.{◌≡◌, ◌⊎◌, inl, inr, ℕ, ◌+◌, ◌-◌, ◌*◌, ◌/◌, ◌<◌, ◌≤◌, List, [], ◌∷◌, ◌++◌, length, get_or, set, take, drop, if◌then◌else◌, ◌==◌, refl, sym, ap, ◌∙◌, arith, length-append}
use Rattle.std.proofs.lemmas.Bool.{cases_lt}
use Rattle.std.proofs.lemmas.List.{take_more, get_or-set_same, get_or-set_other, get_or_past}
use Rattle.bc_model.specs.Sector.{Image}
use Rattle.bc_disk.specs.declared.log.Logged.{Logged}
use Rattle.bc_disk.specs.declared.crash.Pick.{Pick}
use Rattle.bc_disk.specs.Bytes.{image_of, put}
use Rattle.bc_disk.specs.Log.{values_at, choices, IsWithin}
use Rattle.bc_disk.specs.Crash.{choice, picked}
use Rattle.bc_disk.proofs.Cases.{by_test}
use Rattle.bc_disk.proofs.Choices.{advance, advance-next, choice_le, choice-zero}
use Rattle.bc_disk.proofs.Sectors.{image_of-put_one, values_at-drop, values_at-append, values_at-outside}

-- a loop that makes the sectors of a log stable: those of the rest may differ still
pub settled_more : (stable seen value : List ℕ) (log : List Logged) (i : ℕ) (w : Logged) → i < length log → length value ≡ 512 → value ≡ image_of seen (get_or log i w).sector → 512 * (get_or log i w).sector + 512 ≤ length stable
    → ((s : ℕ) → values_at s (drop i log) ≡ [] → image_of stable s ≡ image_of seen s)
    → (s : ℕ) → values_at s (drop (i + 1) log) ≡ [] → image_of (put (get_or log i w).sector value stable) s ≡ image_of seen s
settled_more stable seen value log i w low long is fits so_far s none =
    let at = (get_or log i w).sector in
    let step = values_at-drop s i log w low in
    image_of-put_one at value stable long fits s
    ∙ by_test at s (λ b. values_at s (drop i log) ≡ (if b then (get_or log i w).value ∷ values_at s (drop (i + 1) log) else values_at s (drop (i + 1) log)) → (if b then value else image_of stable s) ≡ image_of seen s)
    (λ e _. is ∙ ap (image_of seen) e) (λ ne rest. so_far s (rest ∙ none)) step

-- a loop that counts how often each sector is in a log
pub counted_more : (counts : List ℕ) (log : List Logged) (i count : ℕ) (w : Logged) → i < length log → (get_or log i w).sector < length counts → count ≡ get_or counts (get_or log i w).sector 0
    → (s : ℕ) → get_or counts s 0 ≡ length (values_at s (take i log)) → get_or (set counts (get_or log i w).sector (count + 1)) s 0 ≡ length (values_at s (take (i + 1) log))
counted_more counts log i count w low inside is s so_far =
    let x = get_or log i w in
    let more : values_at s (take (i + 1) log) ≡ values_at s (take i log) ++ (if x.sector == s then x.value ∷ [] else []) = ap (values_at s) (take_more log i w low) ∙ values_at-append s (take i log) (x ∷ []) in
    let long : length (values_at s (take (i + 1) log)) ≡ length (values_at s (take i log)) + length (if x.sector == s then x.value ∷ [] else []) = ap length more ∙ length-append (values_at s (take i log)) (if x.sector == s then x.value ∷ [] else []) in
    by_test x.sector s (λ b. length (values_at s (take (i + 1) log)) ≡ length (values_at s (take i log)) + length (if b then x.value ∷ [] else []) → get_or (set counts x.sector (count + 1)) s 0 ≡ length (values_at s (take (i + 1) log)))
    (λ e h. ap (λ n. get_or (set counts n (count + 1)) s 0) e ∙ get_or-set_same counts s (count + 1) 0 (omega arith) ∙ (let here : count ≡ get_or counts s 0 = is ∙ ap (λ n. get_or counts n 0) e in omega arith))
    (λ ne h. get_or-set_other counts x.sector s (count + 1) 0 (λ q. ne (sym q)) ∙ omega arith)
    long

-- a loop that gives each sector the choice that it wants: record i is wanted
pub advanced_taken : (wanted bytes : List ℕ) (log : List Logged) (i : ℕ) (w : Logged) → i < length log → length (get_or log i w).value ≡ 512 → 512 * (get_or log i w).sector + 512 ≤ length bytes
    → (get_or log i w).sector < length wanted → 0 < get_or wanted (get_or log i w).sector 0
    → (s : ℕ) → advance (get_or (set wanted (get_or log i w).sector (get_or wanted (get_or log i w).sector 0 - 1)) s 0) (image_of (put (get_or log i w).sector (get_or log i w).value bytes) s) (values_at s (drop (i + 1) log))
    ≡ advance (get_or wanted s 0) (image_of bytes s) (values_at s (drop i log))
advanced_taken wanted bytes log i w low long fits inside some s =
    let x = get_or log i w in
    let rest = values_at s (drop (i + 1) log) in
    let n = get_or wanted x.sector 0 in
    ap (λ v. advance (get_or (set wanted x.sector (n - 1)) s 0) v rest) (image_of-put_one x.sector x.value bytes long fits s)
    ∙ by_test x.sector s (λ b. advance (get_or (set wanted x.sector (n - 1)) s 0) (if b then x.value else image_of bytes s) rest ≡ advance (get_or wanted s 0) (image_of bytes s) (if b then x.value ∷ rest else rest))
    (λ e. ap (λ k. advance k x.value rest) (ap (λ k. get_or (set wanted k (n - 1)) s 0) e ∙ get_or-set_same wanted s (n - 1) 0 (omega arith) ∙ ap (λ k. get_or wanted k 0 - 1) e)
    ∙ sym (advance-next (get_or wanted s 0) (image_of bytes s) x.value rest (let here = ap (λ k. get_or wanted k 0) e in omega arith)))
    (λ ne. ap (λ k. advance k (image_of bytes s) rest) (get_or-set_other wanted x.sector s (n - 1) 0 (λ q. ne (sym q))))
    ∙ ap (advance (get_or wanted s 0) (image_of bytes s)) (sym (values_at-drop s i log w low))

-- and not wanted
pub advanced_passed : (wanted bytes : List ℕ) (log : List Logged) (i : ℕ) (w : Logged) → i < length log → get_or wanted (get_or log i w).sector 0 ≤ 0
    → (s : ℕ) → advance (get_or wanted s 0) (image_of bytes s) (values_at s (drop (i + 1) log)) ≡ advance (get_or wanted s 0) (image_of bytes s) (values_at s (drop i log))
advanced_passed wanted bytes log i w low done s =
    let x = get_or log i w in
    let rest = values_at s (drop (i + 1) log) in
    by_test x.sector s (λ b. advance (get_or wanted s 0) (image_of bytes s) rest ≡ advance (get_or wanted s 0) (image_of bytes s) (if b then x.value ∷ rest else rest))
    (λ e. let here : get_or wanted s 0 ≡ 0 = (let same = ap (λ k. get_or wanted k 0) e in omega arith) in ap (λ k. advance k (image_of bytes s) rest) here ∙ ap (λ k. advance k (image_of bytes s) (x.value ∷ rest)) (sym here))
    (λ ne. refl)
    ∙ ap (advance (get_or wanted s 0) (image_of bytes s)) (sym (values_at-drop s i log w low))

-- a sector that takes choice number n of its choices has what is picked
pub picked_by : (pick : Pick) (stable counts wanted : List ℕ) (log : List Logged) (image : Image) → IsWithin (length stable) log
    → length counts ≡ length stable / 512 → ((s : ℕ) → s < length stable / 512 → get_or counts s 0 ≡ length (values_at s log))
    → length wanted ≡ length counts → ((s : ℕ) → s < length counts → get_or wanted s 0 ≡ choice pick s (get_or counts s 0))
    → ((s : ℕ) → get_or wanted s 0 ≤ length (values_at s log) → image s ≡ get_or (choices stable log s) (get_or wanted s 0) [])
    → (s : ℕ) → image s ≡ picked pick stable log s
picked_by pick stable counts wanted log image all many counted same chosen taken s = go (cases_lt s (length stable / 512))
  where
    at_choice : (n : ℕ) → get_or wanted s 0 ≡ n → n ≡ choice pick s (length (values_at s log)) → image s ≡ picked pick stable log s
    at_choice n is right =
        let low = choice_le pick s (length (values_at s log)) in
        taken s (omega arith) ∙ ap (λ k. get_or (choices stable log s) k []) (is ∙ right)

    go : (s < length stable / 512) ⊎ (length stable / 512 ≤ s) → image s ≡ picked pick stable log s
    go (inl low) = at_choice (choice pick s (get_or counts s 0)) (chosen s (omega arith)) (ap (choice pick s) (counted s low))
    go (inr high) =
        let none : values_at s log ≡ [] = values_at-outside (length stable) s log all (omega arith) in
        at_choice 0 (get_or_past wanted s 0 (omega arith)) (sym (ap (λ vs. choice pick s (length vs)) none ∙ choice-zero pick s))
