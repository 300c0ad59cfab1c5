-- The bytes of some sectors of an image.
use Rattle.std.proofs.Common.{◌≡◌, ℕ, zero, suc, ◌+◌, ◌-◌, ◌*◌, ◌<◌, ◌≤◌, List, [], ◌∷◌, ◌++◌, length, take, drop, slice_range, refl, sym, ap, ◌∙◌, arith, append_assoc, length-append, length-drop}
use Rattle.std.specs.Prelude.{replicate}
use Rattle.std.proofs.Math.Nat.{suc-add, zero-add}
use Rattle.std.proofs.lemmas.List.{take-append-le, take-append-drop, take_at, length-take-le, length-replicate, drop-drop}
use Rattle.bc_model.specs.Sector.{Value, Image, values_of}
use Rattle.bc_model.specs.Pattern.{zeros}
use Rattle.bc_model.proofs.Sectors.{values_whole}
use Rattle.bc_disk.specs.Bytes.{image_of}
use Rattle.bc_disk.proofs.Sectors.{at_run-sectors}
use Rattle.bc_disk.proofs.Windows.{window_window}
use Rattle.bc_record.specs.Sectors.{sector_bytes, bytes_in, bytes_to, Has, AgreeOn}

pub length-sector_bytes : (v : Value) → length (sector_bytes v) ≡ 512
length-sector_bytes v =
    let zeros : length (replicate {A = ℕ} 512 0) ≡ 512 = length-replicate {A = ℕ} 512 0 in
    length-take-le 512 (v ++ replicate 512 0) (omega (arith, length-append v (replicate 512 0), zeros))

pub length-bytes_in : (image : Image) (place n : ℕ) → length (bytes_in image place n) ≡ 512 * n
unfolding bytes_in
length-bytes_in image place zero = refl
length-bytes_in image place (suc n) =
    let rest = length-bytes_in image (suc place) n in
    omega (arith, length-append (sector_bytes (image place)) (bytes_in image (suc place) n), length-sector_bytes (image place), rest)

-- n sectors, and m behind them
pub bytes_in-add : (image : Image) (place n m : ℕ) → bytes_in image place (n + m) ≡ bytes_in image place n ++ bytes_in image (place + n) m
unfolding bytes_in
bytes_in-add image place zero m =
    let here : place ≡ place + 0 = omega arith in
    ap (bytes_in image place) (zero-add m) ∙ ap (λ p. bytes_in image p m) here
bytes_in-add image place (suc n) m =
    let here : suc place + n ≡ place + suc n = omega arith in
    ap (bytes_in image place) (suc-add n m)
    ∙ ap (λ bs. sector_bytes (image place) ++ bs) (bytes_in-add image (suc place) n m ∙ ap (λ p. bytes_in image (suc place) n ++ bytes_in image p m) here)
    ∙ sym (append_assoc (sector_bytes (image place)) (bytes_in image (suc place) n) (bytes_in image (place + suc n) m))

pub bytes_in-agree : (a b : Image) (place n : ℕ) → AgreeOn a b place (place + n) → bytes_in a place n ≡ bytes_in b place n
unfolding bytes_in
bytes_in-agree a b place zero same = refl
bytes_in-agree a b place (suc n) same =
    ap (λ v. sector_bytes v ++ bytes_in a (suc place) n) (same place (omega arith) (omega arith))
    ∙ ap (λ bs. sector_bytes (b place) ++ bs) (bytes_in-agree a b (suc place) n (λ s low high. same s (omega arith) (omega arith)))

-- a front that lies in the first n of m sectors
pub bytes_in-front : (image : Image) (place n m k : ℕ) → n ≤ m → k ≤ 512 * n → take k (bytes_in image place m) ≡ take k (bytes_in image place n)
bytes_in-front image place n m k low high =
    let split : m ≡ n + (m - n) = omega arith in
    let long = length-bytes_in image place n in
    ap (λ j. take k (bytes_in image place j)) split
    ∙ ap (take k) (bytes_in-add image place n (m - n))
    ∙ take-append-le k (bytes_in image place n) (bytes_in image (place + n) (m - n)) (omega (arith, long, high))

-- ---- bytes that fill sectors

pub sector_of_whole : (v : Value) → length v ≡ 512 → sector_bytes v ≡ v
sector_of_whole v whole = take_at v (replicate 512 0) 512 whole

-- what an image holds in some sectors, given one by one
pub bytes_in-each : (image : Image) (place n : ℕ) (bytes : List ℕ) → length bytes ≡ 512 * n → ((k : ℕ) → k < n → image (place + k) ≡ image_of bytes k) → bytes_in image place n ≡ bytes
unfolding bytes_in
bytes_in-each image place zero [] whole each = refl
bytes_in-each image place zero (x ∷ xs) whole each = absurd (omega arith)
bytes_in-each image place (suc n) bytes whole each =
    let here : place ≡ place + 0 = omega arith in
    let first : image place ≡ take 512 bytes = ap image here ∙ each 0 (omega arith) in
    let one = length-take-le 512 bytes (omega (arith, whole)) in
    let rest : length (drop 512 bytes) ≡ 512 * n = omega (arith, length-drop 512 bytes, whole) in
    let moved : (k : ℕ) → k < n → image (suc place + k) ≡ image_of (drop 512 bytes) k =
    λ k low. let there : suc place + k ≡ place + suc k = omega arith in
    let cut : 512 * suc k ≡ 512 + 512 * k = omega arith in
    ap image there ∙ each (suc k) (omega arith) ∙ ap (λ j. take 512 (drop j bytes)) cut ∙ ap (take 512) (sym (drop-drop (512 * k) 512 bytes)) in
    ap (λ v. sector_bytes v ++ bytes_in image (suc place) n) first
    ∙ ap (λ bs. bs ++ bytes_in image (suc place) n) (sector_of_whole (take 512 bytes) one)
    ∙ ap (λ bs. take 512 bytes ++ bs) (bytes_in-each image (suc place) n (drop 512 bytes) rest moved)
    ∙ take-append-drop 512 bytes

-- an image has the values of these bytes
pub bytes_in-has : (image : Image) (place n : ℕ) (bytes : List ℕ) → length bytes ≡ 512 * n → Has image place (values_of bytes) → bytes_in image place n ≡ bytes
bytes_in-has image place n bytes whole has =
    bytes_in-each image place n bytes whole
    (λ k low. sym (has (place + k) (image_of bytes k) (rw (values_whole n bytes whole) (at_run-sectors place n k (place + k) bytes low refl))))

-- sectors of the image of bytes
pub bytes_in-image_of : (bytes : List ℕ) (place n : ℕ) → 512 * (place + n) ≤ length bytes → bytes_in (image_of bytes) place n ≡ slice_range bytes (512 * place) (512 * (place + n))
bytes_in-image_of bytes place n room =
    let width : 512 * (place + n) - 512 * place ≡ 512 * n = omega arith in
    let part = slice_range bytes (512 * place) (512 * (place + n)) in
    let same : part ≡ take (512 * n) (drop (512 * place) bytes) = ap (λ j. take j (drop (512 * place) bytes)) width in
    let long : length (take (512 * n) (drop (512 * place) bytes)) ≡ 512 * n = length-take-le (512 * n) (drop (512 * place) bytes) (omega (arith, length-drop (512 * place) bytes, room)) in
    bytes_in-each (image_of bytes) place n (take (512 * n) (drop (512 * place) bytes)) long
    (λ k low. let there : 512 * (place + k) ≡ 512 * place + 512 * k = omega arith in
    ap (λ j. take 512 (drop j bytes)) there ∙ sym (window_window (512 * k) 512 (512 * place) (512 * n) bytes (omega arith)))
    ∙ sym same

-- up to an end
pub bytes_to-agree : (a b : Image) (from end place : ℕ) → from ≤ place → AgreeOn a b from end → bytes_to a end place ≡ bytes_to b end place
bytes_to-agree a b from end place low same = bytes_in-agree a b place (end - place) (λ s after before. same s (omega arith) (omega arith))

-- of a first sector of zeros
pub zeros_in_front : (image : Image) (end place : ℕ) → image place ≡ zeros → 0 < end - place → take 512 (bytes_to image end place) ≡ take 512 zeros
unfolding bytes_in zeros
zeros_in_front image end place is some =
    bytes_in-front image place 1 (end - place) 512 (omega (arith, some)) (omega arith)
    ∙ ap (λ v. take 512 (sector_bytes v ++ [])) is

-- in the image of bytes
pub bytes_to-image_of : (bytes : List ℕ) (end place : ℕ) → place ≤ end → 512 * end ≤ length bytes → bytes_to (image_of bytes) end place ≡ take (512 * (end - place)) (drop (512 * place) bytes)
bytes_to-image_of bytes end place low room =
    let whole : place + (end - place) ≡ end = omega arith in
    let width : 512 * (place + (end - place)) - 512 * place ≡ 512 * (end - place) = omega arith in
    bytes_in-image_of bytes place (end - place) (omega (arith, room, whole)) ∙ ap (λ n. take n (drop (512 * place) bytes)) width
