-- What a sink has taken, one text behind the other.
use Rattle.std.proofs.Common.{◌≡◌, ℕ, ◌+◌, ◌-◌, ◌<◌, ◌≤◌, List, ◌++◌, length, take, drop, Option, None, Some, refl, sym, ap, ◌∙◌, subst, arith, append_assoc, length-drop}
use Rattle.std.proofs.Math.Seq.{take-add}
use Rattle.std.proofs.lemmas.List.{take_all}
use Rattle.std.specs.Prelude.{◌==◌, if◌then◌else◌}
use Rattle.bc_disk.proofs.Cases.{by_test}
use Rattle.bc_disk.specs.Device.{next_count}
use Rattle.bc_disk.specs.Stream.{StreamFacts, BothToldText, stops_after}
use Rattle.bc_output.specs.Put.{Takes}

more : (xs ys : List ℕ) (a b c : Option (List ℕ)) → BothToldText (λ (o n : List ℕ). n ≡ o ++ xs) a b → BothToldText (λ (o n : List ℕ). n ≡ o ++ ys) b c
    → BothToldText (λ (o n : List ℕ). n ≡ o ++ (xs ++ ys)) a c
more xs ys None None None p q = tt
more xs ys None None (Some c) p q = absurd q
more xs ys None (Some b) c p q = absurd p
more xs ys (Some a) None c p q = absurd p
more xs ys (Some a) (Some b) None p q = absurd q
more xs ys (Some a) (Some b) (Some c) p q = q ∙ ap (λ (t : List ℕ). t ++ ys) p ∙ append_assoc a xs ys

-- one text behind another
pub takes_more : (xs ys : List ℕ) (f g h : StreamFacts) → Takes xs f g → Takes ys g h → Takes (xs ++ ys) f h
takes_more xs ys f g h p q = record { text = more xs ys f.text g.text h.text p.text q.text; faults = q.faults ∙ p.faults; stops = q.stops ∙ p.stops }

-- all that is behind a place
pub to_end : {A : Type 0} (n : ℕ) (text : List A) → take (length text - n) (drop n text) ≡ drop n text
to_end n text = take_all (length text - n) (drop n text) (omega (arith, length-drop n text))

-- the front of the text was taken, and then more of it
pub front_more : (n count : ℕ) (text : List ℕ) (f g h : StreamFacts) → Takes (take n text) f g
    → BothToldText (λ (a b : List ℕ). b ≡ a ++ take count (take (length text - n) (drop n text))) g.text h.text → h.faults ≡ g.faults → h.stops ≡ g.stops → Takes (take (n + count) text) f h
front_more n count text f g h before told same still =
    let P : List ℕ → Type 0 = λ piece. BothToldText (λ (a b : List ℕ). b ≡ a ++ take count piece) g.text h.text in
    let Q : List ℕ → Type 0 = λ bytes. Takes bytes f h in
    let now : Takes (take count (drop n text)) g h = record { text = subst P (to_end n text) told; faults = same; stops = still } in
    subst Q (sym (take-add n count text)) (takes_more (take n text) (take count (drop n text)) f g h before now)

pub inside_more : (n count : ℕ) (text : List ℕ) → n ≤ length text → count ≤ length (take (length text - n) (drop n text)) → n + count ≤ length text
inside_more n count text inside few = let all = ap (λ (t : List ℕ). length t) (to_end n text) in omega (arith, length-drop n text)

-- a put that took something
pub took_some : (n : ℕ) (piece : List ℕ) (stops : ℕ) → (n ≡ 0 → ⊥) → stops_after n piece stops ≡ stops
took_some n piece stops some = by_test n 0 (λ b. (if b then (if length piece == 0 then stops else next_count stops) else stops) ≡ stops) (λ is. absurd (some is)) (λ _. refl)

-- and one that took nothing
pub took_nothing : (piece : List ℕ) (stops : ℕ) → 0 < length piece → stops_after 0 piece stops ≡ next_count stops
took_nothing piece stops some = by_test (length piece) 0 (λ b. (if b then stops else next_count stops) ≡ next_count stops) (λ is. absurd (omega arith)) (λ _. refl)
