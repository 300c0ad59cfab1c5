-- What is found of a kind whose records rest on their own bytes alone.
use Rattle.std.proofs.Common.{◌≡◌, ◌↔◌, inl, inr, ℕ, zero, suc, ◌+◌, ◌-◌, ◌*◌, ◌<◌, ◌≤◌, List, [], ◌∷◌, ◌++◌, length, take, drop, refl, sym, subst, ap, ◌∙◌, arith}
use Rattle.std.specs.Prelude.{All, ◌/◌}
use Rattle.std.proofs.Math.Nat.{mul-add, lt_of_mul-lt-mul_left}
use Rattle.std.proofs.lemmas.List.{take-take}
use Rattle.std.proofs.lemmas.List.Elements.{All-nil, All-cons}
use Rattle.bc_model.specs.Sector.{Image, values_of}
use Rattle.bc_disk.specs.Bytes.{image_of}
use Rattle.bc_record.specs.Sectors.{bytes_to, Has, AgreeOn}
use Rattle.bc_record.specs.Kind.{Kind, sectors_of, IsFound, NoneFound, AreFound, behind}
use Rattle.bc_record.specs.Codec.{Decided, IsCodec}
use Rattle.bc_record.specs.Places.{at_place, placed, items_of, end_of}
use Rattle.bc_record.specs.declared.placed.Placed.{Placed}
use Rattle.bc_record.proofs.Blocks.{blocks_hold, blocks_within, some_blocks}
use Rattle.bc_record.proofs.Parts.{length-bytes_in, bytes_in-agree, bytes_in-front, bytes_in-has, bytes_to-agree, bytes_to-image_of}

module _ {A : Type 0} (kind : Kind A) (codec : IsCodec kind) where
  pub takes_some : (e : A) → 0 < sectors_of kind e
  takes_some e = some_blocks kind.block (kind.bytes e) codec.block (codec.some e)

  pub one_found : (image : Image) (end place : ℕ) (d e : A) → IsFound kind image end place d → IsFound kind image end place e → d ≡ e
  one_found image end place d e = codec.one (bytes_to image end place) d e

  -- its bytes lie in front of the end
  found_bytes : (image : Image) (end place : ℕ) (e : A) → IsFound kind image end place e → kind.bytes e ≤ 512 * (end - place)
  found_bytes image end place e found =
      let fits = codec.fits (bytes_to image end place) e found in
      omega (arith, fits, length-bytes_in image place (end - place))

  pub found_fits : (image : Image) (end place n : ℕ) (e : A) → end ≡ place + kind.block * n → IsFound kind image end place e → place + sectors_of kind e ≤ end
  found_fits image end place n e whole found =
      let room = found_bytes image end place e found in
      let width : end - place ≡ kind.block * n = omega (arith, whole) in
      let within = blocks_within kind.block (kind.bytes e) n codec.block (omega (arith, room, ap (λ j. 512 * j) width)) in
      omega (arith, within, whole)

  -- a record that begins some sectors is found where another image has what it takes of them
  pub found_stays : (a b : Image) (end place : ℕ) (e : A) → IsFound kind a end place e → AgreeOn a b place (place + sectors_of kind e) → place + sectors_of kind e ≤ end → IsFound kind b end place e
  found_stays a b end place e found same inside =
      let n = sectors_of kind e in
      let k = kind.bytes e in
      let held = blocks_hold kind.block k codec.block in
      codec.stays (bytes_to a end place) (bytes_to b end place) e found
      (bytes_in-front b place n (end - place) k (omega (arith, inside)) held
      ∙ ap (take k) (sym (bytes_in-agree a b place n same))
      ∙ sym (bytes_in-front a place n (end - place) k (omega (arith, inside)) held))

  pub reads_back : (image : Image) (end place n : ℕ) (bytes : List ℕ) (e : A) → length bytes ≡ 512 * n → kind.Begins bytes e → Has image place (values_of bytes) → place + n ≤ end → IsFound kind image end place e
  reads_back image end place n bytes e whole begins has inside =
      let k = kind.bytes e in
      let fits = codec.fits bytes e begins in
      codec.stays bytes (bytes_to image end place) e begins
      (bytes_in-front image place n (end - place) k (omega (arith, inside)) (omega (arith, fits, whole)) ∙ ap (take k) (bytes_in-has image place n bytes whole has))

  -- in the image of bytes a record is found exactly where it stands in them and ends before the end
  pub found_in_bytes : (bytes : List ℕ) (end place : ℕ) (e : A) → place ≤ end → 512 * end ≤ length bytes
      → IsFound kind (image_of bytes) end place e ↔ (kind.Begins (drop (512 * place) bytes) e × (512 * place + kind.bytes e ≤ 512 * end))
  found_in_bytes bytes end place e low room =
      let part = bytes_to (image_of bytes) end place in
      let rest = drop (512 * place) bytes in
      let n = kind.bytes e in
      let cut : n ≤ 512 * (end - place) → take n part ≡ take n rest =
      λ within. ap (take n) (bytes_to-image_of bytes end place low room) ∙ take-take n (512 * (end - place)) rest within in (
        (λ found. (let within = found_bytes (image_of bytes) end place e found in (codec.stays part rest e found (sym (cut within)), omega (arith, within)))),
        (λ stands. codec.stays rest part e stands.0 (cut (omega (arith, stands.1)))),
      )

  pub one_run : (image : Image) (end place : ℕ) (ds es : List A) → AreFound kind image end place ds → AreFound kind image end place es → ds ≡ es
  one_run image end place [] [] p q = refl
  one_run image end place [] (e ∷ es) p q = absurd (p e q.0)
  one_run image end place (d ∷ ds) [] p q = absurd (q d p.0)
  one_run image end place (d ∷ ds) (e ∷ es) p q =
      let same : d ≡ e = one_found image end place d e p.0 q.0 in
      let there : AreFound kind image end (place + sectors_of kind d) es = subst (λ (x : A). AreFound kind image end (place + sectors_of kind x) es) (sym same) q.1 in
      ap (λ (x : A). x ∷ ds) same ∙ ap (λ (xs : List A). e ∷ xs) (one_run image end (place + sectors_of kind d) ds es p.1 there)

  -- ---- records behind each other

  pub run_stays : (a b : Image) (from end place : ℕ) (es : List A) → from ≤ place → AgreeOn a b from end → AreFound kind a end place es → AreFound kind b end place es
  run_stays a b from end place [] low same p = λ e found. p e (subst (λ (bs : List ℕ). kind.Begins bs e) (sym (bytes_to-agree a b from end place low same)) found)
  run_stays a b from end place (e ∷ es) low same p = (
    subst (λ (bs : List ℕ). kind.Begins bs e) (bytes_to-agree a b from end place low same) p.0,
    run_stays a b from end (place + sectors_of kind e) es (omega arith) same p.1,
  )

  -- each is found at a block and whole
  abbrev pub IsPlaced : Image → ℕ → ℕ → Placed A → Type 0
  IsPlaced image end start p = (k : ℕ) × (p.place ≡ start + kind.block * k) × IsFound kind image end p.place p.item × (p.place + sectors_of kind p.item ≤ end)

  run_placed_from : (image : Image) (end start n k place : ℕ) (es : List A) → end ≡ start + kind.block * n → place ≡ start + kind.block * k → k ≤ n → AreFound kind image end place es → All (IsPlaced image end start) (placed kind place es)
  run_placed_from image end start n k place [] ends here inside p = All-nil (IsPlaced image end start)
  run_placed_from image end start n k place (e ∷ es) ends here inside p =
      let m = (kind.bytes e + (512 * kind.block - 1)) / (512 * kind.block) in
      let split : kind.block * n ≡ kind.block * k + kind.block * (n - k) = ap (λ j. kind.block * j) (let e : n ≡ k + (n - k) = omega arith in e) ∙ mul-add kind.block k (n - k) in
      let fits : place + kind.block * m ≤ end = found_fits image end place (n - k) e (omega (arith, ends, here, split)) p.0 in
      let next : kind.block * (k + m) ≡ kind.block * k + kind.block * m = mul-add kind.block k m in
      let more : kind.block * (n + 1) ≡ kind.block * n + kind.block * 1 = mul-add kind.block n 1 in
      let some = codec.block in
      let below : k + m < n + 1 = lt_of_mul-lt-mul_left kind.block (omega (arith, fits, next, more, ends, here, some)) in
      All-cons (IsPlaced image end start) (at_place place e) (placed kind (place + sectors_of kind e) es)
      (k, here, p.0, fits)
      (run_placed_from image end start n (k + m) (place + kind.block * m) es ends (omega (arith, here, next)) (omega (arith, below)) p.1)

  pub run_placed : (image : Image) (end start n : ℕ) (es : List A) → end ≡ start + kind.block * n → AreFound kind image end start es → All (IsPlaced image end start) (placed kind start es)
  run_placed image end start n es ends p =
      run_placed_from image end start n 0 start es ends (omega arith) (omega arith) p

  -- records that stay, and what is found behind them
  behind_on : (place : ℕ) (es : List A) → place ≤ behind kind place es
  behind_on place [] = omega arith
  behind_on place (e ∷ es) = let rest = behind_on (place + sectors_of kind e) es in omega (arith, rest)

  pub run_goes_on : (a b : Image) (end place : ℕ) (es more rest : List A) → AreFound kind a end place (es ++ more) → AgreeOn a b place (behind kind place es) → behind kind place es ≤ end
      → AreFound kind b end (behind kind place es) rest → AreFound kind b end place (es ++ rest)
  run_goes_on a b end place [] more rest p same inside found = found
  run_goes_on a b end place (e ∷ es) more rest p same inside found =
      let next = place + sectors_of kind e in
      let on = behind_on next es in (
        found_stays a b end place e p.0 (λ s after before. same s after (omega (arith, before, on))) (omega (arith, on, inside)),
        run_goes_on a b end next es more rest p.1 (λ s after before. same s (omega (arith, after)) before) inside found,
      )

  -- ---- each image has records of a kind, or none, from a place on

  pub found_or_none : (image : Image) (end place : ℕ) → Decided ((e : A) × IsFound kind image end place e)
  found_or_none image end place = codec.decide (bytes_to image end place)

  -- what is left behind a record is whole blocks again
  pub next_blocks : (e : A) (end place n : ℕ) → end ≡ place + kind.block * n → place + sectors_of kind e ≤ end → (left : ℕ) × (end ≡ place + sectors_of kind e + kind.block * left)
  next_blocks e end place n ends fits =
      let m = (kind.bytes e + (512 * kind.block - 1)) / (512 * kind.block) in
      let some = codec.block in
      let more : kind.block * (n + 1) ≡ kind.block * n + kind.block * 1 = mul-add kind.block n 1 in
      let below : m < n + 1 = lt_of_mul-lt-mul_left kind.block (omega (arith, fits, more, ends, some)) in
      let split : kind.block * n ≡ kind.block * m + kind.block * (n - m) = ap (λ j. kind.block * j) (let e : n ≡ m + (n - m) = omega (arith, below) in e) ∙ mul-add kind.block m (n - m) in
      (n - m, omega (arith, ends, split))

  abbrev SomeRun : Image → ℕ → ℕ → Type 0
  SomeRun image end place = (es : List A) × AreFound kind image end place es

  run_from : (image : Image) (end left place n : ℕ) → end ≡ place + kind.block * n → end ≤ place + left → SomeRun image end place
  run_from image end zero place n ends few =
      ([], λ e is. (let fits = found_fits image end place n e ends is in let some = takes_some e in omega arith))
  run_from image end (suc left) place n ends few = go (found_or_none image end place) (λ p m e f. run_from image end left p m e f)
    where
      go : Decided ((e : A) × IsFound kind image end place e) → ((p m : ℕ) → end ≡ p + kind.block * m → end ≤ p + left → SomeRun image end p) → SomeRun image end place
      go (inr none) on = ([], λ e is. none (e, is))
      go (inl k) on =
          let fits = found_fits image end place n k.0 ends k.1 in
          let some = takes_some k.0 in
          let next = next_blocks k.0 end place n ends fits in
          let rest = on (place + sectors_of kind k.0) next.0 next.1 (omega arith) in
          (k.0 ∷ rest.0, (k.1, rest.1))

  pub run_exists : (image : Image) (end place n : ℕ) → end ≡ place + kind.block * n → SomeRun image end place
  run_exists image end place n ends = run_from image end end place n ends (omega arith)

-- ---- places

pub items_placed : {A : Type 0} → (kind : Kind A) (place : ℕ) (es : List A) → items_of (placed kind place es) ≡ es
items_placed kind place [] = refl
items_placed {A} kind place (e ∷ es) = ap (λ (xs : List A). e ∷ xs) (items_placed kind (place + sectors_of kind e) es)

-- of each of the records, at its place
pub all_placed : {A : Type 0} → (kind : Kind A) (codec : IsCodec kind) (P : ℕ → A → Type 0) (image : Image) (end place : ℕ) (es : List A)
    → ((q : ℕ) (e : A) → place ≤ q → IsFound kind image end q e → P q e) → AreFound kind image end place es → All (λ (p : Placed A). P p.place p.item) (placed kind place es)
all_placed {A} kind codec P image end place [] each found = All-nil (λ (p : Placed A). P p.place p.item)
all_placed {A} kind codec P image end place (e ∷ es) each found =
    let some = takes_some kind codec e in
    All-cons (λ (p : Placed A). P p.place p.item) (at_place place e) (placed kind (place + sectors_of kind e) es)
    (each place e (omega arith) found.0)
    (all_placed kind codec P image end (place + sectors_of kind e) es (λ q d low is. each q d (omega (arith, low)) is) found.1)
