-- How far the acknowledged flushes of a history reach.
use Rattle.std.proofs.Common.{◌≡◌, ◌⊎◌, inl, inr, ℕ, suc, ◌<◌, ◌≤◌, Bool, true, false, ◌&&◌, ◌||◌, ◌==◌, List, [], ◌∷◌, ◌++◌, length, Option, Some, None, refl, sym, ap, ◌∙◌, subst, arith, if◌then◌else◌, length-append, append_assoc}
use Rattle.std.specs.Prelude.{MatchBool, ◌↔◌, ◌+◌, max, nat_le}
use Rattle.std.proofs.Math.Nat.{le-max_left, le-max_right, max-le}
use Rattle.bc_model.specs.Sector.{Value, Image, unless}
use Rattle.bc_model.specs.History.{may_give, now, AllowedFrom, Allowed, is_from, is_done, count_from, has_done, is_acknowledged, flushed_in, flushed, is_within, is_write, written_by, forced, floor, Silent}
use Rattle.bc_model.specs.declared.history.Entry.{Entry}
use Rattle.bc_model.specs.declared.history.Entry.TheVariants.{Write, Read, FlushFrom, FlushDone, Durable, Tried}
use Rattle.bc_model.proofs.Cases.{by_test, by_le}
use Rattle.bc_model.proofs.Grown.{silent_gives, allowed_end, allowed_given, allowed_grown, allowed_lower}

pub flushed_in_low : (H es : List Entry) → flushed_in H es ≤ length es
flushed_in_low H [] = omega arith
flushed_in_low H (e ∷ es) = go (is_acknowledged H e) (flushed_in_low H es)
  where
    go : (b : Bool) → flushed_in H es ≤ length es → (if b then length es else flushed_in H es) ≤ suc (length es)
    go true h = omega arith
    go false h = omega arith

-- a history that acknowledges no more has no higher floor
pub flushed_in_less : (A B : List Entry) → ((e : Entry) → is_acknowledged A e ≡ true → is_acknowledged B e ≡ true) → (es : List Entry) → flushed_in A es ≤ flushed_in B es
flushed_in_less A B less [] = omega arith
flushed_in_less A B less (e ∷ es) = go (is_acknowledged A e) (is_acknowledged B e) (less e) (flushed_in_less A B less es) (flushed_in_low A es)
  where
    go : (a b : Bool) → (a ≡ true → b ≡ true) → flushed_in A es ≤ flushed_in B es → flushed_in A es ≤ length es → (if a then length es else flushed_in A es) ≤ (if b then length es else flushed_in B es)
    go true true h rest low = omega arith
    go true false h rest low = absurd (let not : false ≡ true = h refl in cc)
    go false true h rest low = low
    go false false h rest low = rest

-- each entry that H acknowledges stands at most so far from the oldest one
abbrev pub Below : ℕ → List Entry → List Entry → Type 0
Below b H [] = Unit {0}
Below b H (e ∷ es) = (is_acknowledged H e ≡ true → length es ≤ b) × Below b H es

pub below_flushed : (b : ℕ) (H es : List Entry) → Below b H es → flushed_in H es ≤ b
below_flushed b H [] h = omega arith
below_flushed b H (e ∷ es) h = go (is_acknowledged H e) h.0 (below_flushed b H es h.1)
  where
    go : (c : Bool) → (c ≡ true → length es ≤ b) → flushed_in H es ≤ b → (if c then length es else flushed_in H es) ≤ b
    go true here rest = here refl
    go false here rest = rest

pub flushed_below : (b : ℕ) (H es : List Entry) → flushed_in H es ≤ b → Below b H es
flushed_below b H [] h = tt
flushed_below b H (e ∷ es) h = go (is_acknowledged H e) refl h (flushed_in_low H es) (flushed_below b H es)
  where
    go : (c : Bool) → is_acknowledged H e ≡ c → (if c then length es else flushed_in H es) ≤ b → flushed_in H es ≤ length es → (flushed_in H es ≤ b → Below b H es) → Below b H (e ∷ es)
    go true is le low rest = ((λ _. le), rest (omega arith))
    go false is le low rest = ((λ has. absurd (let not : false ≡ true = sym is ∙ has in cc)), rest le)

-- where the flushes of a worker's line begin
abbrev pub EachFrom : ℕ → ℕ → (ℕ → Type 0) → List Entry → Type 0
EachFrom w l P [] = Unit {0}
EachFrom w l P (e ∷ es) = (is_from w l e ≡ true → P (length es)) × EachFrom w l P es

abbrev pub BeginsAt : ℕ → ℕ → ℕ → List Entry → Type 0
BeginsAt w l at [] = ⊥
BeginsAt w l at (e ∷ es) = ((is_from w l e ≡ true) × (length es ≡ at)) ⊎ BeginsAt w l at es

pub begins_in : (w l at : ℕ) (es : List Entry) → BeginsAt w l at es → at < length es
begins_in w l at [] h = absurd h
begins_in w l at (e ∷ es) (inl h) = let is = h.1 in omega arith
begins_in w l at (e ∷ es) (inr h) = let rest = begins_in w l at es h in omega arith

pub begins_counted : (w l at : ℕ) (es : List Entry) → BeginsAt w l at es → 1 ≤ count_from w l es
begins_counted w l at [] h = absurd h
begins_counted w l at (e ∷ es) h = go (is_from w l e) h (begins_counted w l at es)
  where
    go : (b : Bool) → ((b ≡ true) × (length es ≡ at)) ⊎ BeginsAt w l at es → (BeginsAt w l at es → 1 ≤ count_from w l es) → 1 ≤ (if b then suc (count_from w l es) else count_from w l es)
    go true h rest = omega arith
    go false (inl h) rest = absurd (let not = h.0 in cc)
    go false (inr h) rest = rest h

none_from : (w l : ℕ) (P : ℕ → Type 0) (es : List Entry) → count_from w l es ≡ 0 → EachFrom w l P es
none_from w l P [] h = tt
none_from w l P (e ∷ es) h = go (is_from w l e) refl h (none_from w l P es)
  where
    go : (b : Bool) → is_from w l e ≡ b → (if b then suc (count_from w l es) else count_from w l es) ≡ 0 → (count_from w l es ≡ 0 → EachFrom w l P es) → EachFrom w l P (e ∷ es)
    go true is h rest = absurd (omega arith)
    go false is h rest = ((λ has. absurd (let not : false ≡ true = sym is ∙ has in cc)), rest h)

-- the only flush of a line that begins there begins nowhere else
pub only_from : (w l at : ℕ) (es : List Entry) → count_from w l es ≡ 1 → BeginsAt w l at es → EachFrom w l (λ p. p ≡ at) es
only_from w l at [] one h = absurd h
only_from w l at (e ∷ es) one h = go (is_from w l e) refl one h (only_from w l at es)
  where
    go : (b : Bool) → is_from w l e ≡ b → (if b then suc (count_from w l es) else count_from w l es) ≡ 1 → ((b ≡ true) × (length es ≡ at)) ⊎ BeginsAt w l at es → (count_from w l es ≡ 1 → BeginsAt w l at es → EachFrom w l (λ p. p ≡ at) es) → EachFrom w l (λ p. p ≡ at) (e ∷ es)
    go true is one (inl h) rest = ((λ _. h.1), none_from w l (λ p. p ≡ at) es (omega arith))
    go true is one (inr h) rest = absurd (let some = begins_counted w l at es h in omega arith)
    go false is one (inl h) rest = absurd (let not = h.0 in cc)
    go false is one (inr h) rest = ((λ has. absurd (let not : false ≡ true = sym is ∙ has in cc)), rest one h)

-- the history grows by an entry that begins and ends no flush
pub plain_acknowledged : (e : Entry) (H : List Entry) → ((w l : ℕ) → is_from w l e ≡ false) → ((w l : ℕ) → is_done w l e ≡ false) → (x : Entry) → is_acknowledged (e ∷ H) x ≡ true → is_acknowledged H x ≡ true
plain_acknowledged e H from done (FlushFrom w l) h =
    let P : Bool → Type 0 = λ b. (((if b then suc (count_from w l H) else count_from w l H) == 1) && (is_done w l e || has_done w l H)) ≡ true in
    let Q : Bool → Type 0 = λ b. ((count_from w l H == 1) && (b || has_done w l H)) ≡ true in
    subst Q (done w l) (subst P (from w l) h)
plain_acknowledged e H from done x h = h

pub flushed_plain : (e : Entry) (H : List Entry) → ((w l : ℕ) → is_from w l e ≡ false) → ((w l : ℕ) → is_done w l e ≡ false) → is_acknowledged (e ∷ H) e ≡ false → flushed (e ∷ H) ≤ flushed H
flushed_plain e H from done plain =
    subst (λ b. (if b then length H else flushed_in (e ∷ H) H) ≤ flushed H) (sym plain) (flushed_in_less (e ∷ H) H (plain_acknowledged e H from done) H)

both : (a b : Bool) → (a && b) ≡ true → (a ≡ true) × (b ≡ true)
both true b h = (refl, h)
both false b h = absurd (cc)

both_back : (a b : Bool) → a ≡ true → b ≡ true → (a && b) ≡ true
both_back true b p q = q
both_back false b p q = absurd (cc)

-- a flush begins, of a line that has none done unless one was begun
pub from_acknowledged : (w l : ℕ) (H : List Entry) → (has_done w l H ≡ true → 1 ≤ count_from w l H) → (x : Entry) → is_acknowledged (FlushFrom w l ∷ H) x ≡ true → is_acknowledged H x ≡ true
from_acknowledged w l H begun (FlushFrom v m) h =
    by_test w v (λ b. (((if b && (l == m) then suc (count_from v m H) else count_from v m H) == 1) && has_done v m H) ≡ true → ((count_from v m H == 1) && has_done v m H) ≡ true)
    (λ same. by_test l m (λ b. (((if b then suc (count_from v m H) else count_from v m H) == 1) && has_done v m H) ≡ true → ((count_from v m H == 1) && has_done v m H) ≡ true)
    (λ also k. absurd (twice (count_from v m H) (subst (λ n. has_done n m H ≡ true → 1 ≤ count_from n m H) same (subst (λ n. has_done w n H ≡ true → 1 ≤ count_from w n H) also begun)) k))
    (λ ne k. k))
    (λ ne k. k) h
  where
    twice : (n : ℕ) → (has_done v m H ≡ true → 1 ≤ n) → ((suc n == 1) && has_done v m H) ≡ true → ⊥
    twice n some k =
        let p = both (suc n == 1) (has_done v m H) k in
        by_test (suc n) 1 (λ b. b ≡ true → ⊥) (λ e _. let low = some p.1 in omega arith) (λ ne not. cc) p.0
from_acknowledged w l H begun x h = h

-- so no more entries are covered
flushed_from : (w l : ℕ) (H : List Entry) → (has_done w l H ≡ true → 1 ≤ count_from w l H) → flushed (FlushFrom w l ∷ H) ≤ flushed H
flushed_from w l H begun = go (is_acknowledged (FlushFrom w l ∷ H) (FlushFrom w l)) (from_acknowledged w l H begun (FlushFrom w l)) (fresh begun)
  where
    less : flushed_in (FlushFrom w l ∷ H) H ≤ flushed H
    less = flushed_in_less (FlushFrom w l ∷ H) H (from_acknowledged w l H begun) H

    fresh : (has_done w l H ≡ true → 1 ≤ count_from w l H) → is_acknowledged (FlushFrom w l ∷ H) (FlushFrom w l) ≡ true → ⊥
    fresh some =
        by_test w w (λ b. (((if b && (l == l) then suc (count_from w l H) else count_from w l H) == 1) && has_done w l H) ≡ true → ⊥)
        (λ _. by_test l l (λ b. (((if b then suc (count_from w l H) else count_from w l H) == 1) && has_done w l H) ≡ true → ⊥)
        (λ _ k. let p = both (suc (count_from w l H) == 1) (has_done w l H) k in
        by_test (suc (count_from w l H)) 1 (λ b. b ≡ true → ⊥) (λ e _. let low = some p.1 in omega arith) (λ ne not. cc) p.0)
        (λ ne. absurd (ne refl)))
        (λ ne. absurd (ne refl))

    go : (b : Bool) → (b ≡ true → is_acknowledged H (FlushFrom w l) ≡ true) → (b ≡ true → ⊥) → (if b then length H else flushed_in (FlushFrom w l ∷ H) H) ≤ flushed H
    go true h not = absurd (not refl)
    go false h not = less

-- A flush is done, which began at a place that is at most b: then at most b entries are covered.
done_below : (w l b at : ℕ) (H es : List Entry) → at ≤ b → (count_from w l H ≡ 1 → EachFrom w l (λ p. p ≡ at) es) → Below b H es → Below b (FlushDone w l ∷ H) es
done_below w l b at H [] le only h = tt
done_below w l b at H (e ∷ es) le only h = (here_ e (λ one. (only one).0) h.0, done_below w l b at H es le (λ one. (only one).1) h.1)
  where
    here_ : (e : Entry) → (count_from w l H ≡ 1 → is_from w l e ≡ true → length es ≡ at) → (is_acknowledged H e ≡ true → length es ≤ b) → is_acknowledged (FlushDone w l ∷ H) e ≡ true → length es ≤ b
    here_ (FlushFrom v m) one old new =
        let p = both (count_from v m H == 1) (((w == v) && (l == m)) || has_done v m H) new in
        split v m one old (by_test (count_from v m H) 1 (λ b. b ≡ true → count_from v m H ≡ 1) (λ e _. e) (λ ne not. cc) p.0) p.0 p.1
      where
        split : (v m : ℕ) → (count_from w l H ≡ 1 → ((v == w) && (m == l)) ≡ true → length es ≡ at) → (((count_from v m H == 1) && has_done v m H) ≡ true → length es ≤ b) → count_from v m H ≡ 1 → (count_from v m H == 1) ≡ true → (((w == v) && (l == m)) || has_done v m H) ≡ true → length es ≤ b
        split v m one old single test found =
            by_test w v (λ c. ((c && (l == m)) || has_done v m H) ≡ true → length es ≤ b)
            (λ same. by_test l m (λ c. (c || has_done v m H) ≡ true → length es ≤ b)
            (λ also _. let at_is = one (subst (λ n. count_from n l H ≡ 1) (sym same) (subst (λ n. count_from v n H ≡ 1) (sym also) single))
            (both_back (v == w) (m == l) (by_test v w (λ c. c ≡ true) (λ _. refl) (λ ne. absurd (ne (sym same)))) (by_test m l (λ c. c ≡ true) (λ _. refl) (λ ne. absurd (ne (sym also))))) in omega arith)
            (λ ne k. old (both_back (count_from v m H == 1) (has_done v m H) test k)))
            (λ ne k. old (both_back (count_from v m H == 1) (has_done v m H) test k)) found
    here_ e one old new = old new

flushed_done : (w l b at : ℕ) (H : List Entry) → BeginsAt w l at H → at ≤ b → flushed H ≤ b → flushed (FlushDone w l ∷ H) ≤ b
flushed_done w l b at H begins le low = below_flushed b (FlushDone w l ∷ H) H (done_below w l b at H H le (λ one. only_from w l at H one begins) (flushed_below b H H low))

-- whoever is acknowledged is covered
flushed_above : (H newer : List Entry) (e : Entry) (older : List Entry) → is_acknowledged H e ≡ true → length older ≤ flushed_in H (newer ++ e ∷ older)
flushed_above H [] e older is = subst (λ b. length older ≤ (if b then length older else flushed_in H older)) (sym is) (omega arith)
flushed_above H (x ∷ xs) e older is = go (is_acknowledged H x) (flushed_above H xs e older is)
  where
    go : (b : Bool) → length older ≤ flushed_in H (xs ++ e ∷ older) → length older ≤ (if b then length (xs ++ e ∷ older) else flushed_in H (xs ++ e ∷ older))
    go true rest = let n = length-append xs (e ∷ older) in omega arith
    go false rest = rest

done_found : (w l : ℕ) (newer older : List Entry) → has_done w l (newer ++ FlushDone w l ∷ older) ≡ true
done_found w l [] older = by_test w w (λ b. ((b && (l == l)) || has_done w l older) ≡ true) (λ _. by_test l l (λ b. (b || has_done w l older) ≡ true) (λ _. refl) (λ ne. absurd (ne refl))) (λ ne. absurd (ne refl))
done_found w l (x ∷ xs) older = go (is_done w l x) (done_found w l xs older)
  where
    go : (b : Bool) → has_done w l (xs ++ FlushDone w l ∷ older) ≡ true → (b || has_done w l (xs ++ FlushDone w l ∷ older)) ≡ true
    go true rest = refl
    go false rest = rest

silent_join : (s : ℕ) (xs ys : List Entry) → Silent s xs → Silent s ys → Silent s (xs ++ ys)
silent_join s [] ys p q = q
silent_join s (x ∷ xs) ys p q = (p.0, silent_join s xs ys p.1 q)

-- where nothing newer than the floor gives anything to the sector, the present alone is allowed
silent_allowed : (opening : Image) (f : ℕ) (newer older : List Entry) (s : ℕ) (v : Value) → Silent s newer → length older ≤ f → AllowedFrom f opening (newer ++ older) s v → v ≡ now opening (newer ++ older) s
silent_allowed opening f [] older s v quiet low h = allowed_end opening f older s v low h
silent_allowed opening f (e ∷ es) older s v quiet low h =
    let rest = silent_allowed opening f es older s v quiet.1 low in
    by_le f (length (es ++ older)) (λ b. MatchBool b ((may_give e s ≡ Some v) ⊎ AllowedFrom f opening (es ++ older) s v) (v ≡ now opening ((e ∷ es) ++ older) s) → v ≡ now opening ((e ∷ es) ++ older) s)
    (λ in_ k. go rest k)
    (λ _ is. is) h
  where
    go : (AllowedFrom f opening (es ++ older) s v → v ≡ now opening (es ++ older) s) → (may_give e s ≡ Some v) ⊎ AllowedFrom f opening (es ++ older) s v → v ≡ now opening ((e ∷ es) ++ older) s
    go rest (inl given) = absurd (let not : None ≡ Some v = sym quiet.0 ∙ given in cc)
    go rest (inr old) = rest old ∙ sym (ap (λ (o : Option Value). unless o (now opening (es ++ older) s)) (silent_gives e s quiet.0))

-- Two entries d and f, of which the newer one says that what stood at the older one is kept: where everything else that is
-- newer is silent, the present alone is allowed.
covered : (opening : Image) (d f : Entry) (newer between older : List Entry) (s : ℕ) (v : Value) → may_give d s ≡ None → Silent s newer → Silent s between
    → let H = newer ++ d ∷ (between ++ f ∷ older) in length (f ∷ older) ≤ floor H s → Allowed opening H s v → v ≡ now opening H s
covered opening d f newer between older s v quiet p q low h =
    let e = sym (append_assoc newer (d ∷ between) (f ∷ older)) in
    let H : List Entry = newer ++ d ∷ (between ++ f ∷ older) in
    let still : Silent s (newer ++ d ∷ between) = silent_join s newer (d ∷ between) p (quiet, q) in
    let P : List Entry → Type 0 = λ xs. AllowedFrom (floor H s) opening xs s v in
    let Q : List Entry → Type 0 = λ xs. v ≡ now opening xs s in
    subst Q (sym e) (silent_allowed opening (floor H s) (newer ++ d ∷ between) (f ∷ older) s v still low (subst P e h))

regroup : (newer between : List Entry) (d f : Entry) (older : List Entry) → newer ++ d ∷ (between ++ f ∷ older) ≡ (newer ++ d ∷ between) ++ f ∷ older
regroup newer between d f older = sym (append_assoc newer (d ∷ between) (f ∷ older))

pub flush_covered : (opening : Image) (w l : ℕ) (newer between older : List Entry) (s : ℕ) (v : Value) → Silent s newer → Silent s between → count_from w l (newer ++ FlushDone w l ∷ (between ++ FlushFrom w l ∷ older)) ≡ 1
    → Allowed opening (newer ++ FlushDone w l ∷ (between ++ FlushFrom w l ∷ older)) s v → v ≡ now opening (newer ++ FlushDone w l ∷ (between ++ FlushFrom w l ∷ older)) s
flush_covered opening w l newer between older s v p q one h =
    let H : List Entry = newer ++ FlushDone w l ∷ (between ++ FlushFrom w l ∷ older) in
    let e = regroup newer between (FlushDone w l) (FlushFrom w l) older in
    let first_ = append_assoc (newer ++ FlushDone w l ∷ between) (FlushFrom w l ∷ []) older in
    let whole : H ≡ ((newer ++ FlushDone w l ∷ between) ++ FlushFrom w l ∷ []) ++ older = e ∙ sym first_ in
    let known : is_acknowledged H (FlushFrom w l) ≡ true = both_back (count_from w l H == 1) (has_done w l H) (by_test (count_from w l H) 1 (λ b. b ≡ true) (λ _. refl) (λ ne. absurd (ne one))) (done_found w l newer (between ++ FlushFrom w l ∷ older)) in
    let reached : length older ≤ flushed H = subst (λ xs. length older ≤ flushed_in H xs) (sym e) (flushed_above H (newer ++ FlushDone w l ∷ between) (FlushFrom w l) older known) in
    let higher = le-max_left (flushed H) (forced H s) in
    let low : length older ≤ floor H s = omega arith in
    let quiet : Silent s ((newer ++ FlushDone w l ∷ between) ++ FlushFrom w l ∷ []) = silent_join s (newer ++ FlushDone w l ∷ between) (FlushFrom w l ∷ []) (silent_join s newer (FlushDone w l ∷ between) p (refl, q)) (refl, tt) in
    let P : List Entry → Type 0 = λ xs. AllowedFrom (floor H s) opening xs s v in
    let Q : List Entry → Type 0 = λ xs. v ≡ now opening xs s in
    subst Q (sym whole) (silent_allowed opening (floor H s) ((newer ++ FlushDone w l ∷ between) ++ FlushFrom w l ∷ []) older s v quiet low (subst P whole h))

-- Forced writes.
written_low : (w l at : ℕ) (es : List Entry) → written_by w l at es ≤ length es
written_low w l at [] = omega arith
written_low w l at (e ∷ es) = go (is_write w l at e) (written_low w l at es)
  where
    go : (b : Bool) → written_by w l at es ≤ length es → (if b then suc (length es) else written_by w l at es) ≤ suc (length es)
    go true h = omega arith
    go false h = omega arith

pub forced_low : (es : List Entry) (s : ℕ) → forced es s ≤ length es
forced_low [] s = omega arith
forced_low (Durable w l first count ∷ es) s = go (is_within first count s) (forced_low es s) (written_low w l first es)
  where
    go : (b : Bool) → forced es s ≤ length es → written_by w l first es ≤ length es → (if b then max (written_by w l first es) (forced es s) else forced es s) ≤ suc (length es)
    go true h k = let m : max (written_by w l first es) (forced es s) ≤ length es = max-le k h in omega arith
    go false h k = omega arith
forced_low (e ∷ es) s = let rest = forced_low es s in omega arith

-- the write of a line is counted where it stands, or there is a later one
written_above : (w l first : ℕ) (values : List Value) (newer older : List Entry) → suc (length older) ≤ written_by w l first (newer ++ Write w l first values ∷ older)
written_above w l first values [] older =
    by_test w w (λ a. suc (length older) ≤ (if a && ((l == l) && (first == first)) then suc (length older) else written_by w l first older))
    (λ _. by_test l l (λ a. suc (length older) ≤ (if a && (first == first) then suc (length older) else written_by w l first older))
    (λ _. by_test first first (λ a. suc (length older) ≤ (if a then suc (length older) else written_by w l first older)) (λ _. omega arith) (λ ne. absurd (ne refl)))
    (λ ne. absurd (ne refl)))
    (λ ne. absurd (ne refl))
written_above w l first values (x ∷ xs) older = go (is_write w l first x) (written_above w l first values xs older)
  where
    go : (b : Bool) → suc (length older) ≤ written_by w l first (xs ++ Write w l first values ∷ older)
        → suc (length older) ≤ (if b then suc (length (xs ++ Write w l first values ∷ older)) else written_by w l first (xs ++ Write w l first values ∷ older))
    go true h = let n = length-append xs (Write w l first values ∷ older) in omega arith
    go false h = h

within_both : (first count s : ℕ) → first ≤ s → s < first + count → is_within first count s ≡ true
within_both first count s from to =
    by_le first s (λ b. (b && nat_le (suc s) (first + count)) ≡ true) (λ _. by_le (suc s) (first + count) (λ b. b ≡ true) (λ _. refl) (λ lt. absurd (omega arith))) (λ lt. absurd (omega arith))

-- a forced write covers its sectors up to its write, whatever stands behind it
forced_above : (w l first count s : ℕ) (newer es : List Entry) → first ≤ s → s < first + count → written_by w l first es ≤ forced (newer ++ Durable w l first count ∷ es) s
forced_above w l first count s [] es from to =
    subst (λ b. written_by w l first es ≤ (if b then max (written_by w l first es) (forced es s) else forced es s)) (sym (within_both first count s from to)) (le-max_left (written_by w l first es) (forced es s))
forced_above w l first count s (Durable v m at more ∷ xs) es from to = go (is_within at more s) (forced_above w l first count s xs es from to)
  where
    go : (b : Bool) → written_by w l first es ≤ forced (xs ++ Durable w l first count ∷ es) s
        → written_by w l first es ≤ (if b then max (written_by v m at (xs ++ Durable w l first count ∷ es)) (forced (xs ++ Durable w l first count ∷ es) s) else forced (xs ++ Durable w l first count ∷ es) s)
    go true h = let k = le-max_right (written_by v m at (xs ++ Durable w l first count ∷ es)) (forced (xs ++ Durable w l first count ∷ es) s) in omega arith
    go false h = h
forced_above w l first count s (x ∷ xs) es from to = forced_above w l first count s xs es from to

pub forced_covered : (opening : Image) (w l first count : ℕ) (values : List Value) (newer between older : List Entry) (s : ℕ) (v : Value) → first ≤ s → s < first + count → Silent s newer → Silent s between
    → Allowed opening (newer ++ Durable w l first count ∷ (between ++ Write w l first values ∷ older)) s v
    → v ≡ now opening (newer ++ Durable w l first count ∷ (between ++ Write w l first values ∷ older)) s
forced_covered opening w l first count values newer between older s v from to p q h =
    let es : List Entry = between ++ Write w l first values ∷ older in
    let H : List Entry = newer ++ Durable w l first count ∷ es in
    let one = written_above w l first values between older in
    let two = forced_above w l first count s newer es from to in
    let three = le-max_right (flushed H) (forced H s) in
    covered opening (Durable w l first count) (Write w l first values) newer between older s v refl p q (omega arith) h

-- a forced write is no flush
forced_acknowledged : (w l first count : ℕ) (H : List Entry) (x : Entry) → is_acknowledged (Durable w l first count ∷ H) x ≡ is_acknowledged H x
forced_acknowledged w l first count H (FlushFrom v m) = refl
forced_acknowledged w l first count H x = refl

forced_flushed : (w l first count : ℕ) (H es : List Entry) → flushed_in (Durable w l first count ∷ H) es ≡ flushed_in H es
forced_flushed w l first count H [] = refl
forced_flushed w l first count H (e ∷ es) =
    ap (λ b. if b then length es else flushed_in (Durable w l first count ∷ H) es) (forced_acknowledged w l first count H e)
    ∙ ap (λ n. if is_acknowledged H e then length es else n) (forced_flushed w l first count H es)

-- a forced write gives nothing, so what is allowed from a floor on is what was allowed from there on
forced_from : (opening : Image) (f w l first count : ℕ) (H : List Entry) (s : ℕ) (v : Value) → f ≤ length H → AllowedFrom f opening (Durable w l first count ∷ H) s v ↔ AllowedFrom f opening H s v
forced_from opening f w l first count H s v low = (there, λ h. allowed_grown opening f (Durable w l first count) H s v low h)
  where
    go : (None ≡ Some v) ⊎ AllowedFrom f opening H s v → AllowedFrom f opening H s v
    go (inl given) = absurd (cc)
    go (inr old) = old

    there : AllowedFrom f opening (Durable w l first count ∷ H) s v → AllowedFrom f opening H s v
    there h = by_le f (length H) (λ b. MatchBool b ((None ≡ Some v) ⊎ AllowedFrom f opening H s v) (v ≡ now opening H s) → AllowedFrom f opening H s v) (λ _ k. go k) (λ lt. absurd (omega arith)) h

-- what it covers is at least what was covered, and at most the history
forced_floor : (w l first count : ℕ) (H : List Entry) (s f : ℕ) → forced (Durable w l first count ∷ H) s ≡ f → floor (Durable w l first count ∷ H) s ≡ max (flushed H) f
forced_floor w l first count H s f is = ap (λ n. max n (forced (Durable w l first count ∷ H) s)) (forced_flushed w l first count H H) ∙ ap (λ n. max (flushed H) n) is

-- outside its sectors a forced write says nothing
pub forced_elsewhere : (opening : Image) (w l first count : ℕ) (H : List Entry) (s : ℕ) (v : Value) → (s < first) ⊎ (first + count ≤ s) → Allowed opening (Durable w l first count ∷ H) s v ↔ Allowed opening H s v
forced_elsewhere opening w l first count H s v out =
    let is : forced (Durable w l first count ∷ H) s ≡ forced H s = ap (λ b. if b then max (written_by w l first H) (forced H s) else forced H s) (without out) in
    subst (λ f. AllowedFrom f opening (Durable w l first count ∷ H) s v ↔ Allowed opening H s v) (sym (forced_floor w l first count H s (forced H s) is)) (forced_from opening (floor H s) w l first count H s v (max-le (flushed_in_low H H) (forced_low H s)))
  where
    without : (s < first) ⊎ (first + count ≤ s) → is_within first count s ≡ false
    without (inl below) = by_le first s (λ b. (b && nat_le (suc s) (first + count)) ≡ false) (λ le. absurd (omega arith)) (λ lt. refl)
    without (inr behind) = by_le first s (λ b. (b && nat_le (suc s) (first + count)) ≡ false) (λ le. by_le (suc s) (first + count) (λ b. b ≡ false) (λ in_. absurd (omega arith)) (λ lt. refl)) (λ lt. refl)

-- of its sectors it covers what was covered, and the history up to its write
pub forced_within : (opening : Image) (w l first count : ℕ) (H : List Entry) (s : ℕ) (v : Value) → first ≤ s → s < first + count
    → Allowed opening (Durable w l first count ∷ H) s v ↔ AllowedFrom (max (flushed H) (max (written_by w l first H) (forced H s))) opening H s v
forced_within opening w l first count H s v from to =
    let up : ℕ = max (written_by w l first H) (forced H s) in
    let is : forced (Durable w l first count ∷ H) s ≡ up = ap (λ b. if b then up else forced H s) (within_both first count s from to) in
    subst (λ f. AllowedFrom f opening (Durable w l first count ∷ H) s v ↔ AllowedFrom (max (flushed H) up) opening H s v) (sym (forced_floor w l first count H s up is))
    (forced_from opening (max (flushed H) up) w l first count H s v (max-le (flushed_in_low H H) (max-le (written_low w l first H) (forced_low H s))))

-- How the floor of a sector moves as the history grows.
pub floor_low : (H : List Entry) (s : ℕ) → floor H s ≤ length H
floor_low H s = max-le (flushed_in_low H H) (forced_low H s)

floor_less : (e : Entry) (H : List Entry) (s : ℕ) → flushed (e ∷ H) ≤ flushed H → forced (e ∷ H) s ≡ forced H s → floor (e ∷ H) s ≤ floor H s
floor_less e H s low same =
    let left = le-max_left (flushed H) (forced H s) in
    let right = le-max_right (flushed H) (forced H s) in
    max-le (omega arith) (omega arith)

pub floor_from : (w l : ℕ) (H : List Entry) (s : ℕ) → (has_done w l H ≡ true → 1 ≤ count_from w l H) → floor (FlushFrom w l ∷ H) s ≤ floor H s
floor_from w l H s begun = floor_less (FlushFrom w l) H s (flushed_from w l H begun) refl

pub floor_done : (w l b at : ℕ) (H : List Entry) (s : ℕ) → BeginsAt w l at H → at ≤ b → floor H s ≤ b → floor (FlushDone w l ∷ H) s ≤ b
floor_done w l b at H s begins le low =
    let left = le-max_left (flushed H) (forced H s) in
    let right = le-max_right (flushed H) (forced H s) in
    max-le (flushed_done w l b at H begins le (omega arith)) (omega arith)

pub floor_write : (w l first : ℕ) (values : List Value) (H : List Entry) (s : ℕ) → floor (Write w l first values ∷ H) s ≤ floor H s
floor_write w l first values H s = floor_less (Write w l first values) H s (flushed_plain (Write w l first values) H (λ a b. refl) (λ a b. refl) refl) refl

pub floor_read : (w l first : ℕ) (values : List Value) (H : List Entry) (s : ℕ) → floor (Read w l first values ∷ H) s ≤ floor H s
floor_read w l first values H s = floor_less (Read w l first values) H s (flushed_plain (Read w l first values) H (λ a b. refl) (λ a b. refl) refl) refl

pub floor_tried : (first : ℕ) (values : List Value) (H : List Entry) (s : ℕ) → floor (Tried first values ∷ H) s ≤ floor H s
floor_tried first values H s = floor_less (Tried first values) H s (flushed_plain (Tried first values) H (λ a b. refl) (λ a b. refl) refl) refl

-- the value of a write, done or tried, is allowed once it is there, and what was allowed before stays so
pub adds : (opening : Image) (e : Entry) (H : List Entry) (s : ℕ) (v : Value) → floor (e ∷ H) s ≤ floor H s → (may_give e s ≡ Some v) ⊎ Allowed opening H s v → Allowed opening (e ∷ H) s v
adds opening e H s v low (inl given) = allowed_given opening (floor (e ∷ H) s) e H s v (let top = floor_low H s in omega arith) given
adds opening e H s v low (inr old) = allowed_lower opening (floor (e ∷ H) s) (floor H s) (e ∷ H) s v low (allowed_grown opening (floor H s) e H s v (floor_low H s) old)
