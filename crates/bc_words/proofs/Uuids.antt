-- What a word of digits spells as a uuid.
use Rattle.std.proofs.Common.{◌≡◌, ◌∙◌, ℕ, List, Some, None, Result, Ok, Err, refl, sym, ap, arith, not, true, zero, suc, [], ◌∷◌, nat_lt}
use Rattle.std.specs.Prelude.{OnOk}
use Rattle.std.specs.Result.{result_ok}
use Rattle.std.specs.Str.{bytes_eq}
use Rattle.std.proofs.lemmas.Bool.{both_ways, not-true, and_parts, ltb-true}
use Rattle.std.specs.List.{list_all}
use Rattle.std.proofs.lemmas.Option.{none-some, same_Some}
use Rattle.std.proofs.lemmas.Slice.Eq.{bytes_eq-Decides}
use Rattle.hex.specs.Hex.{encode_lower, decode_sized, IsBytes}
use Rattle.hex.specs.declared.error.FromHexError.{FromHexError}
use Rattle.hex.proofs.HexLemmas.{decode_sized-encode_lower}
use Rattle.bc_words.specs.Words.{IsUuid}

-- what spells a uuid is decoded as that
decoded : (word uuid : List ℕ) → IsUuid uuid → word ≡ encode_lower uuid → decode_sized word 16 ≡ Ok uuid
decoded word uuid is text = ap (λ (bs : List ℕ). decode_sized bs 16) text ∙ decode_sized-encode_lower uuid 16 is.whole is.bytes

-- what was decoded of a word that spells a uuid
answered : (word uuid : List ℕ) (r : Result (List ℕ) FromHexError) → IsUuid uuid → word ≡ encode_lower uuid → r ≡ decode_sized word 16 → result_ok r ≡ Some uuid
answered word uuid r is text same = ap (λ (x : Result (List ℕ) FromHexError). result_ok x) (same ∙ decoded word uuid is text)

pub no_uuid : (word uuid : List ℕ) (r : Result (List ℕ) FromHexError) → IsUuid uuid → word ≡ encode_lower uuid → r ≡ decode_sized word 16 → None ≡ result_ok r → ⊥
no_uuid word uuid r is text same none = none-some uuid (none ∙ answered word uuid r is text same)

-- what is decoded of a word that spells a uuid is that uuid
same_uuid : (word uuid found : List ℕ) (r : Result (List ℕ) FromHexError) → IsUuid uuid → word ≡ encode_lower uuid → r ≡ decode_sized word 16
    → Some found ≡ result_ok r → found ≡ uuid
same_uuid word uuid found r is text same some = same_Some found uuid (some ∙ answered word uuid r is text same)

pub uuid_injective : (a b : List ℕ) → IsUuid a → IsUuid b → encode_lower a ≡ encode_lower b → a ≡ b
uuid_injective a b is_a is_b same =
    let first = decoded (encode_lower a) a is_a refl in
    let second = decoded (encode_lower a) b is_b same in
    cc

-- what was written of a uuid, once that is known to have succeeded
written : {P : Type 0} (r : Result Unit FromHexError) (x : Unit) → Some x ≡ result_ok r → OnOk r P → P
written (Ok y) x is p = p
written (Err e) x is p = absurd (none-some x (sym is))

-- a word that isn't what its uuid is written as spells none
pub other_uuid : (word digits wrote bytes uuid found : List ℕ) (r : Result (List ℕ) FromHexError) (w : Result Unit FromHexError) (x : Unit)
    → IsUuid uuid → word ≡ encode_lower uuid → r ≡ decode_sized word 16 → Some found ≡ result_ok r
    → Some x ≡ result_ok w → OnOk w (wrote ≡ encode_lower found) → digits ≡ wrote → bytes ≡ word → true ≡ not (bytes_eq digits bytes) → ⊥
other_uuid word digits wrote bytes uuid found r w x is text same some done writes is_digits is_word differs =
    let one = same_uuid word uuid found r is text same some in
    let all : digits ≡ bytes = is_digits ∙ written w x done writes ∙ ap (λ (bs : List ℕ). encode_lower bs) one ∙ sym text ∙ sym is_word in
    both_ways _ (not-true _ (sym differs)) ((bytes_eq-Decides digits bytes).1 all)

-- each byte of a list that is written out
pub are_bytes : (xs : List ℕ) → list_all (λ b. nat_lt b 256) xs ≡ true → IsBytes xs
are_bytes [] all i = omega arith
are_bytes (x ∷ xs) all zero = ltb-true x 256 (and_parts (nat_lt x 256) (list_all (λ b. nat_lt b 256) xs) all).0
are_bytes (x ∷ xs) all (suc i) = are_bytes xs (and_parts (nat_lt x 256) (list_all (λ b. nat_lt b 256) xs) all).1 i
