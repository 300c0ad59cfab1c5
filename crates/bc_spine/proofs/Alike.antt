-- Numbers that leave the same rest.
use Rattle.std.proofs.Common.{◌≡◌, ◌⊎◌, inl, inr, ℕ, suc, ◌+◌, ◌*◌, ◌/◌, ◌%◌, ◌<◌, ◌≤◌, Bool, true, false, List, length, get_or, refl, sym, ap, ◌∙◌, subst, arith}
use Rattle.std.specs.Prelude.{All, ◌↔◌}
use Rattle.std.proofs.Math.Nat.{add-mod_right, le_of_mul-le-mul_left, lt_of_mul-lt-mul_left, mod-add-div, mod-eq_of_lt, mul-suc}
use Rattle.std.proofs.lemmas.Bool.{cases_lt}
use Rattle.std.proofs.lemmas.List.{get_or_past}
use Rattle.std.proofs.lemmas.List.Elements.{All-contains}
use Rattle.bc_spine.specs.declared.leaf.LeafRange.{LeafRange}
use Rattle.bc_spine.specs.Numbers.{HasNumber, IsLeastAlike}

-- the next one behind one
pub next_alike : (n parts rest : ℕ) → n % parts ≡ rest → (n + parts) % parts ≡ rest
next_alike n parts rest is = add-mod_right n parts ∙ is

pub first_one : (rest parts : ℕ) → rest < parts → rest % parts ≡ rest
first_one rest parts less = mod-eq_of_lt less

-- between one and the next there is none
between : (parts a b rest : ℕ) → 0 < parts → rest + parts * a ≤ rest + parts * b
    → rest + parts * b < rest + parts * a + parts → a ≡ b
between parts a b rest some low high =
    let up : a ≤ b = le_of_mul-le-mul_left (omega (arith, low)) some in
    let next = mul-suc parts a in
    let down : b < suc a = lt_of_mul-lt-mul_left parts (omega (arith, high, next)) in
    omega (arith, up, down)

pub same_alike : (n k parts rest : ℕ) → rest < parts → n % parts ≡ rest → k % parts ≡ rest → n ≤ k → k < n + parts
    → n ≡ k
same_alike n k parts rest less is at low high =
    let one = sym (mod-add-div n parts) ∙ ap (λ m. m + parts * (n / parts)) is in
    let two = sym (mod-add-div k parts) ∙ ap (λ m. m + parts * (k / parts)) at in
    let same = between parts (n / parts) (k / parts) rest (omega (arith, less)) (omega (arith, low, one, two))
    (omega (arith, high, one, two)) in
    one ∙ ap (λ m. rest + parts * m) same ∙ sym two

pub least_alike_unset : (leaves : List LeafRange) (flags : List Bool) (parts rest most number : ℕ)
    → ((k : ℕ) → k < length flags → (get_or flags k false ≡ true) ↔ HasNumber leaves k)
    → All (λ leaf. leaf.number ≤ most) leaves → length flags ≡ most + 2 → number % parts ≡ rest
    → (number < length flags → get_or flags number false ≡ false)
    → ((k : ℕ) → k % parts ≡ rest → k < number → get_or flags k false ≡ true)
    → IsLeastAlike leaves parts rest number
least_alike_unset leaves flags parts rest most number are all long is unset before = record {
  alike = is;
  free = λ h. go h (cases_lt number (length flags));
  least = λ k alike less. (are k (within k (before k alike less))).0 (before k alike less);
}
  where
    go : HasNumber leaves number → (number < length flags) ⊎ (length flags ≤ number) → ⊥
    go h (inl less) = let on = (are number less).1 h in let off = unset less in absurd (cc)
    go h (inr more) = let small = All-contains (λ (x : LeafRange). x.number ≤ most) leaves h.0 all h.1 in
        omega (arith, small, h.2, long, more)

    within : (k : ℕ) → get_or flags k false ≡ true → k < length flags
    within k on = elim (cases_lt k (length flags)) [
      | inl less ↦ less
      | inr more ↦ (let off = sym (get_or_past flags k false more) ∙ on in absurd (cc))
    ]
