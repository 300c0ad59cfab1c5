-- Keys put over children.
use Rattle.std.proofs.Common.{◌≡◌, ◌≢◌, ◌==◌, ◌⊎◌, inl, inr, ℕ, zero, suc, ◌+◌, ◌-◌, ◌*◌, ◌<◌, ◌≤◌, true, false, List, [], ◌∷◌, ◌++◌, length, get_or, take, drop, refl, sym, subst, ap, ◌∙◌, eq-eqb, arith, length-append}
use Rattle.std.specs.Prelude.{All, nat_lt}
use Rattle.std.proofs.lemmas.Bool.{lt-ltb, le-ltb}
use Rattle.std.proofs.lemmas.Bool.Decides.{eqb_tells}
use Rattle.std.proofs.lemmas.List.{append_assoc, drop-drop, take-append-drop, drop_more, get_or_push, get_or_append_left, length-take-le, length-drop}
use Rattle.std.proofs.lemmas.List.Elements.{All-head, All-tail}
use Rattle.bc_key.specs.declared.key.Key.{Key}
use Rattle.bc_keys.proofs.KeyLists.{length-words_of}
use Rattle.bc_tree.specs.Needs.{words}
use Rattle.bc_tree.proofs.Proper.{words_cons}
use Rattle.bc_image.specs.Children.{child_before, with_child, with_children}
use Rattle.bc_set.specs.declared.set.SetKind.TheVariants.{Children}
use Rattle.bc_set.specs.SetBytes.{AreSetKeys}
use Rattle.bc_spine.proofs.Lists.{AllPairs-append, AllPairs-left, AllPairs-right, AllPairs-across}
use Rattle.bc_tree.specs.Children.{EndsBefore, AreByEnd, HasPointer, TakeAway, CanGiveWay, children_after}

-- ---- one key

-- it comes behind the children that end before it
skip : (key : Key) (front rest : List Key) → All (λ c. c.end < key.end) front → with_child key (front ++ rest) ≡ front ++ with_child key rest
skip key [] rest all = refl
skip key (c ∷ front) rest all =
    let low = All-head (λ (d : Key). d.end < key.end) c front all in
    let no_less = le-ltb key.end c.end (omega arith) in
    go no_less (eqb_tells key.end c.end) low (skip key front rest (All-tail (λ (d : Key). d.end < key.end) c front all))
  where
    go : nat_lt key.end c.end ≡ false → (((key.end == c.end) ≡ true) × (key.end ≡ c.end)) ⊎ (((key.end == c.end) ≡ false) × (key.end ≢ c.end)) → c.end < key.end
        → with_child key (front ++ rest) ≡ front ++ with_child key rest → with_child key (c ∷ (front ++ rest)) ≡ c ∷ (front ++ with_child key rest)
    go no_less (inl t) low later = absurd (omega (arith, t.1))
    go no_less (inr t) low later = let test = t.0 in rw (no_less, test) (ap (λ ks. c ∷ ks) later)

-- it takes the place of the child with its end
over : (key c : Key) (rest : List Key) → key.end ≡ c.end → with_child key (c ∷ rest) ≡ child_before key rest
over key c rest same =
    let no_less = le-ltb key.end c.end (omega (arith, same)) in
    let test = eq-eqb key.end c.end same in
    rw (no_less, test) refl

-- it comes before the first child that ends behind it
before : (key c : Key) (rest : List Key) → key.end < c.end → with_child key (c ∷ rest) ≡ child_before key (c ∷ rest)
before key c rest less = let test = lt-ltb key.end c.end less in rw test refl

bare : (key : Key) (rest : List Key) → key.count ≡ 0 → child_before key rest ≡ rest
bare key rest none = let test : nat_lt 0 key.count ≡ false = le-ltb 0 key.count (omega arith) in rw test refl

pub live : (key : Key) (rest : List Key) → HasPointer key → child_before key rest ≡ key ∷ rest
live key rest some = let test : nat_lt 0 key.count ≡ true = lt-ltb 0 key.count some in rw test refl

-- ---- several

with_append : (xs ys children : List Key) → with_children (xs ++ ys) children ≡ with_children ys (with_children xs children)
with_append [] ys children = refl
with_append (x ∷ xs) ys children = with_append xs ys (with_child x children)

-- children are taken away
taken : (bares gone front rest : List Key) → TakeAway gone bares → All (λ g. All (λ c. c.end < g.end) front) gone → with_children bares (front ++ (gone ++ rest)) ≡ front ++ rest
taken [] [] front rest away low = refl
taken [] (g ∷ gone) front rest away low = absurd away
taken (b ∷ bares) [] front rest away low = absurd away
taken (b ∷ bares) (g ∷ gone) front rest away low =
    let end = away.1 in
    let here = All-head (λ (h : Key). All (λ c. c.end < h.end) front) g gone low in
    let first = skip b front (g ∷ (gone ++ rest)) (λ k d inside. let less = here k d inside in omega (arith, less, end)) ∙ ap (λ ks. front ++ ks) (over b g (gone ++ rest) end ∙ bare b (gone ++ rest) away.0) in
    ap (with_children bares) first ∙ taken bares gone front rest away.2 (All-tail (λ (h : Key). All (λ c. c.end < h.end) front) g gone low)

-- the last one of a list
All-last : (P : Key → Type 0) (xs : List Key) (y : Key) → All P (xs ++ y ∷ []) → P y
All-last P xs y all = subst P (get_or_push xs y y (length xs) refl) (all (length xs) y (omega (arith, length-append xs (y ∷ []))))

ends_below : (front xs : List Key) (k : Key) → AreByEnd (front ++ (k ∷ xs)) → All (λ c. c.end < k.end) front
ends_below front xs k order i d inside = All-head (EndsBefore (get_or front i d)) k xs (AllPairs-across EndsBefore front (k ∷ xs) order i d inside)

head_below : (front xs : List Key) (k last : Key) → AreByEnd (front ++ (k ∷ (xs ++ last ∷ []))) → k.end < last.end
head_below front xs k last order =
    let right = AllPairs-right EndsBefore front (k ∷ (xs ++ last ∷ [])) order in
    All-last (EndsBefore k) xs last (AllPairs-across EndsBefore (k ∷ []) (xs ++ last ∷ []) right 0 k (omega arith))

-- children are put in, the last one over one with its end
put : (come front behind : List Key) (last z : Key) → AreByEnd (front ++ (come ++ last ∷ [])) → All HasPointer (come ++ last ∷ []) → last.end ≡ z.end
    → with_children (come ++ last ∷ []) (front ++ z ∷ behind) ≡ (front ++ (come ++ last ∷ [])) ++ behind
put [] front behind last z order all same =
    skip last front (z ∷ behind) (ends_below front [] last order)
    ∙ ap (λ ks. front ++ ks) (over last z behind same ∙ live last behind (All-head HasPointer last [] all))
    ∙ sym (append_assoc front (last ∷ []) behind)
put (k ∷ come) front behind last z order all same =
    let less = head_below front come k last order in
    let one = skip k front (z ∷ behind) (ends_below front (come ++ last ∷ []) k order)
    ∙ ap (λ ks. front ++ ks) (before k z behind (omega (arith, same)) ∙ live k (z ∷ behind) (All-head HasPointer k (come ++ last ∷ []) all))
    ∙ sym (append_assoc front (k ∷ []) (z ∷ behind)) in
    let apart : (front ++ k ∷ []) ++ (come ++ last ∷ []) ≡ front ++ (k ∷ (come ++ last ∷ [])) = append_assoc front (k ∷ []) (come ++ last ∷ []) in
    ap (with_children (come ++ last ∷ [])) one
    ∙ put come (front ++ k ∷ []) behind last z (subst AreByEnd (sym apart) order) (All-tail HasPointer k (come ++ last ∷ []) all) same
    ∙ ap (λ ks. ks ++ behind) apart

-- ---- all of it

parts : (xs : List Key) (at gone : ℕ) (d : Key) → 0 < gone → at + gone ≤ length xs
    → xs ≡ take at xs ++ (take (gone - 1) (drop at xs) ++ get_or xs (at + gone - 1) d ∷ drop (at + gone) xs)
parts xs at gone d some within =
    let n = gone - 1 in
    sym (take-append-drop at xs)
    ∙ ap (λ ys. take at xs ++ ys)
    (sym (take-append-drop n (drop at xs))
    ∙ ap (λ ys. take n (drop at xs) ++ ys)
    (drop-drop n at xs ∙ drop_more xs (at + n) d (omega arith)
    ∙ ap (λ m. get_or xs m d ∷ drop (m + 1) xs) (let e : at + n ≡ at + gone - 1 = omega arith in e)
    ∙ ap (λ m. get_or xs (at + gone - 1) d ∷ drop m xs) (let e : at + gone - 1 + 1 ≡ at + gone = omega arith in e)))

pub set_puts : (children come bares : List Key) (at gone : ℕ) → CanGiveWay children at gone come → TakeAway (take (gone - 1) (drop at children)) bares
    → with_children (bares ++ come) children ≡ children_after children at gone come
set_puts children come bares at gone can away =
    let front = take at children in
    let going = take (gone - 1) (drop at children) in
    let e = can.ends in
    let z = get_or children (at + gone - 1) e.last in
    let behind = drop (at + gone) children in
    let are = parts children at gone e.last can.some can.within in
    let order = subst AreByEnd are can.order in
    let across = AllPairs-across EndsBefore front (going ++ z ∷ behind) order in
    let low : All (λ g. All (λ c. c.end < g.end) front) going = λ k d inside i f below.
    subst (λ (g : Key). (get_or front i f).end < g.end) (get_or_append_left going (z ∷ behind) d k inside)
    (across i f below k d (omega (arith, length-append going (z ∷ behind))))
    in
    let after = AllPairs-left EndsBefore (front ++ come) behind can.after in
    with_append bares come children
    ∙ ap (with_children come) (ap (with_children bares) are ∙ taken bares going front (z ∷ behind) away low)
    ∙ ap (λ ks. with_children ks (front ++ z ∷ behind)) e.are
    ∙ put e.before front behind e.last z (subst (λ ks. AreByEnd (front ++ ks)) e.are after) (subst (All HasPointer) e.are can.live) (e.ends e.last)
    ∙ ap (λ ks. (front ++ ks) ++ behind) (sym e.are)

pub away_long : (gone keys : List Key) → TakeAway gone keys → length keys ≡ length gone
away_long [] [] away = refl
away_long [] (key ∷ keys) away = absurd away
away_long (g ∷ gone) [] away = absurd away
away_long (g ∷ gone) (key ∷ keys) away = ap suc (away_long gone keys away.2)

away_end : (gone keys : List Key) → TakeAway gone keys → (k : ℕ) (d : Key) → k < length gone → (get_or keys k d).end ≡ (get_or gone k d).end
away_end [] keys away k d inside = absurd (omega arith)
away_end (g ∷ gone) [] away k d inside = absurd away
away_end (g ∷ gone) (key ∷ keys) away zero d inside = away.1
away_end (g ∷ gone) (key ∷ keys) away (suc k) d inside = away_end gone keys away.2 k d (omega arith)

pub proper : (bares going come : List Key) → TakeAway going bares → AreByEnd going → AreByEnd come → All (λ child. All (EndsBefore child) come) going → AreSetKeys Children (bares ++ come)
proper bares going come away first second across =
    let long = away_long going bares away in
    record {
      each = tt;
      order = AllPairs-append EndsBefore bares come
          (λ i j d low inside. let one = away_end going bares away i d (omega (arith, long)) in let two = away_end going bares away j d (omega (arith, long)) in let less = first i j d low (omega (arith, long)) in omega arith)
          second
          (λ i d inside j e within. let one = away_end going bares away i d (omega (arith, long)) in let less = across i d (omega (arith, long)) j e within in omega arith);
    }

pub few_keys : (children come bares : List Key) (at gone : ℕ) → 0 < gone → at + gone ≤ length children → TakeAway (take (gone - 1) (drop at children)) bares → length (bares ++ come) ≡ gone - 1 + length come
few_keys children come bares at gone some within away =
    omega (arith, length-append bares come, away_long (take (gone - 1) (drop at children)) bares away, length-take-le (gone - 1) (drop at children) (omega (arith, length-drop at children)))

-- the children that go are in order too, and so are those that come
pub part_order : (xs : List Key) (n m : ℕ) → AreByEnd xs → AreByEnd (take n (drop m xs))
part_order xs n m order =
    let back = AllPairs-right EndsBefore (take m xs) (drop m xs) (subst AreByEnd (sym (take-append-drop m xs)) order) in
    AllPairs-left EndsBefore (take n (drop m xs)) (drop n (drop m xs)) (subst AreByEnd (sym (take-append-drop n (drop m xs))) back)

pub come_order : (children come : List Key) (at gone : ℕ) → AreByEnd (children_after children at gone come) → AreByEnd come
come_order children come at gone order = AllPairs-right EndsBefore (take at children) come (AllPairs-left EndsBefore (take at children ++ come) (drop (at + gone) children) order)

-- one key more takes one child more away
pub away_more : (gone keys : List Key) (child key : Key) → TakeAway gone keys → key.count ≡ 0 → key.end ≡ child.end → TakeAway (gone ++ child ∷ []) (keys ++ key ∷ [])
away_more [] [] child key away none end = (none, end, tt)
away_more [] (k ∷ keys) child key away none end = absurd away
away_more (g ∷ gone) [] child key away none end = absurd away
away_more (g ∷ gone) (k ∷ keys) child key away none end = (away.0, away.1, away_more gone keys child key away.2 none end)

-- keys without pointers take two words each
away_words : (gone keys : List Key) → TakeAway gone keys → words keys ≡ 2 * length gone
away_words [] [] away = refl
away_words [] (key ∷ keys) away = absurd away
away_words (g ∷ gone) [] away = absurd away
away_words (g ∷ gone) (key ∷ keys) away = omega (arith, words_cons key keys, length-words_of key, away.0, away_words gone keys away.2)

words_append : (xs ys : List Key) → words (xs ++ ys) ≡ words xs + words ys
words_append [] ys = omega arith
words_append (x ∷ xs) ys = omega (arith, words_cons x (xs ++ ys), words_cons x xs, words_append xs ys)

pub few_words : (children come bares : List Key) (at gone : ℕ) → 0 < gone → at + gone ≤ length children → TakeAway (take (gone - 1) (drop at children)) bares → words (bares ++ come) ≡ 2 * (gone - 1) + words come
few_words children come bares at gone some within away =
    let going = length-take-le (gone - 1) (drop at children) (omega (arith, length-drop at children)) in
    omega (arith, words_append bares come, away_words (take (gone - 1) (drop at children)) bares away, going)
