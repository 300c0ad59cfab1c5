-- The sectors of a device, made one by one, and a value among others.
use Rattle.std.proofs.Common.{◌≡◌, ◌⊎◌, inl, inr, ℕ, ◌+◌, ◌<◌, List, [], ◌∷◌, ◌++◌, length, take, get_or, sym, ap, ◌∙◌, subst}
use Rattle.std.specs.Prelude.{◌↔◌}
use Rattle.std.proofs.lemmas.List.{take_more}
use Rattle.bc_model.specs.Sector.{Value}
use Rattle.bc_disk.specs.Device.{Among}
use Rattle.bc_disk.proofs.Amongs.{among_left, among_right, among_parts}
use Rattle.bc_plain.specs.PlainDevice.{Choices, choices_at}

-- the first n sectors are made as f says
pub record IsMade (f : ℕ → Choices) (n : ℕ) (device : List Choices) : Type 0 where
  pub count : length device ≡ n
  pub each : (s : ℕ) → s < n → choices_at device s ≡ f s

-- one more value
pub among_more : (v x : Value) (i : ℕ) (vs : List Value) → i < length vs → x ≡ get_or vs i [] → Among v (take (i + 1) vs) ↔ (Among v (take i vs) ⊎ (x ≡ v))
among_more v x i vs low is =
    let more : take (i + 1) vs ≡ take i vs ++ x ∷ [] = take_more vs i [] low ∙ ap (λ (y : Value). take i vs ++ y ∷ []) (sym is) in
    subst (λ (xs : List Value). Among v xs ↔ (Among v (take i vs) ⊎ (x ≡ v))) (sym more) ((λ a. there (among_parts v (take i vs) (x ∷ []) a)), back)
  where
    there : Among v (take i vs) ⊎ Among v (x ∷ []) → Among v (take i vs) ⊎ (x ≡ v)
    there (inl a) = inl a
    there (inr (inl e)) = inr (sym e)
    there (inr (inr a)) = elim a [ ]

    back : Among v (take i vs) ⊎ (x ≡ v) → Among v (take i vs ++ x ∷ [])
    back (inl a) = among_left v (take i vs) (x ∷ []) a
    back (inr e) = among_right v (take i vs) (x ∷ []) (inl (sym e))
