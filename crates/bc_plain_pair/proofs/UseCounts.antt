-- How many kinds of use a bucket has.
use Rattle.std.proofs.Common.{◌≡◌, inl, inr, ℕ, zero, suc, ◌+◌, ◌<◌, ◌≤◌, Bool, true, false, List, [], ◌∷◌, length, get_or, refl, sym, subst, ap, ◌∙◌, arith}
use Rattle.std.specs.Prelude.{AllPairs, Contains, ◌↔◌}
use Rattle.std.specs.Bool.{MatchBool}
use Rattle.std.proofs.lemmas.Bool.{cases_lt, cases_eq}
use Rattle.bc_disk.specs.declared.geometry.Geometry.{Geometry}
use Rattle.bc_image.specs.Reading.{Reading, View}
use Rattle.bc_image.specs.Sound.{HasOneUse}
use Rattle.bc_image.specs.Tree as tree
use Rattle.bc_image.specs.Uses.{Use, IsUsedFor, Super, Journal, Priority, Uuid, Node, Data}
use Rattle.bc_plain_pair.specs.Uses.{AreApart, AreLive, CountsUses, HasOneKind, all_kinds, count_in, one_if}

module _ (told : Use → Bool) where
  some_counted : (ks : List Use) (i : ℕ) (d : Use) → i < length ks → told (get_or ks i d) ≡ true → 1 ≤ count_in told ks
  some_counted [] i d low is = absurd (omega (arith, low))
  some_counted (k ∷ ks) zero d low is = let one : one_if (told k) ≡ 1 = ap one_if is in omega (arith, one)
  some_counted (k ∷ ks) (suc i) d low is = let more = some_counted ks i d (omega (arith, low)) is in omega (arith, more)

  two_counted : (ks : List Use) (i j : ℕ) (d : Use) → i < j → j < length ks → told (get_or ks i d) ≡ true → told (get_or ks j d) ≡ true → 2 ≤ count_in told ks
  two_counted [] i j d less low is at = absurd (omega (arith, low))
  two_counted (k ∷ ks) i zero d less low is at = absurd (omega (arith, less))
  two_counted (k ∷ ks) zero (suc j) d less low is at =
      let one : one_if (told k) ≡ 1 = ap one_if is in
      let more = some_counted ks j d (omega (arith, low)) at in
      omega (arith, one, more)
  two_counted (k ∷ ks) (suc i) (suc j) d less low is at = let more = two_counted ks i j d (omega (arith, less)) (omega (arith, low)) is at in omega (arith, more)

  some_among : (ks : List Use) (d : Use) → 0 < count_in told ks → (i : ℕ) × (i < length ks) × (told (get_or ks i d) ≡ true)
  some_among [] d some = absurd (omega (arith, some))
  some_among (k ∷ ks) d some = go (told k) refl some (some_among ks d)
    where
      go : (b : Bool) → told k ≡ b → 0 < one_if b + count_in told ks → (0 < count_in told ks → (i : ℕ) × (i < length ks) × (told (get_or ks i d) ≡ true))
          → (i : ℕ) × (i < length (k ∷ ks)) × (told (get_or (k ∷ ks) i d) ≡ true)
      go true is low later = (0, omega arith, is)
      go false is low later = let rest = later (omega (arith, low)) in let inside = rest.1 in (suc rest.0, omega (arith, inside), rest.2)

  abbrev TwoOf : List Use → Use → Type 0
  TwoOf ks d = (i j : ℕ) × (i < j) × (j < length ks) × (told (get_or ks i d) ≡ true) × (told (get_or ks j d) ≡ true)

  two_among : (ks : List Use) (d : Use) → 1 < count_in told ks → TwoOf ks d
  two_among [] d some = absurd (omega (arith, some))
  two_among (k ∷ ks) d some = go (told k) refl some (two_among ks d)
    where
      go : (b : Bool) → told k ≡ b → 1 < one_if b + count_in told ks → (1 < count_in told ks → TwoOf ks d) → TwoOf (k ∷ ks) d
      go true is low later = let rest = some_among ks d (omega (arith, low)) in let inside = rest.1 in (0, suc rest.0, omega arith, omega (arith, inside), is, rest.2)
      go false is low later = let rest = later (omega (arith, low)) in let less = rest.2 in let inside = rest.3 in (suc rest.0, suc rest.1, omega (arith, less), omega (arith, inside), rest.4, rest.5)

-- ---- each kind has its place in the list

abbrev place_of : Use → ℕ
place_of Super = 0
place_of Journal = 1
place_of Priority = 2
place_of Uuid = 3
place_of Node = 4
place_of Data = 5

low_place : (k : Use) → place_of k < 6
low_place Super = omega arith
low_place Journal = omega arith
low_place Priority = omega arith
low_place Uuid = omega arith
low_place Node = omega arith
low_place Data = omega arith

at_place : (k d : Use) → get_or all_kinds (place_of k) d ≡ k
at_place Super d = refl
at_place Journal d = refl
at_place Priority d = refl
at_place Uuid d = refl
at_place Node d = refl
at_place Data d = refl

place_there : (i : ℕ) (d : Use) → i < 6 → place_of (get_or all_kinds i d) ≡ i
place_there zero d low = refl
place_there (suc zero) d low = refl
place_there (suc (suc zero)) d low = refl
place_there (suc (suc (suc zero))) d low = refl
place_there (suc (suc (suc (suc zero)))) d low = refl
place_there (suc (suc (suc (suc (suc zero))))) d low = refl
place_there (suc (suc (suc (suc (suc (suc i)))))) d low = absurd (omega (arith, low))

-- ---- a count of kinds

is_told : (b : Bool) (P : Type 0) → MatchBool b P (P → ⊥) → P → b ≡ true
is_told true P so p = refl
is_told false P not p = absurd (not p)

told_is : (b : Bool) (P : Type 0) → MatchBool b P (P → ⊥) → b ≡ true → P
told_is true P so is = so
told_is false P not is = absurd (cc)

module _ (g : Geometry) (r : Reading) (bucket n : ℕ) (c : CountsUses g r bucket n) where
  seen : (k : Use) → IsUsedFor g r k bucket → (d : Use) → c.told (get_or all_kinds (place_of k) d) ≡ true
  seen k used d = ap c.told (at_place k d) ∙ is_told (c.told k) (IsUsedFor g r k bucket) (c.each k) used

  used_at : (k : Use) → c.told k ≡ true → IsUsedFor g r k bucket
  used_at k is = told_is (c.told k) (IsUsedFor g r k bucket) (c.each k) is

  two_kinds : (a b : Use) → place_of a < place_of b → IsUsedFor g r a bucket → IsUsedFor g r b bucket → 2 ≤ n
  two_kinds a b less x y =
      let low = low_place b in
      let some = two_counted c.told all_kinds (place_of a) (place_of b) Super less low (seen a x Super) (seen b y Super) in
      let count = c.count in
      omega (arith, some, count)

  pub one_kind : n ≤ 1 → HasOneKind g r bucket
  one_kind few a b x y = elim (cases_eq (place_of a) (place_of b)) [
    | inl same ↦ sym (at_place a Super) ∙ ap (λ i. get_or all_kinds i Super) same ∙ at_place b Super
    | inr other ↦ elim (cases_lt (place_of a) (place_of b)) [
      | inl less ↦ absurd (let two = two_kinds a b less x y in omega (arith, two, few))
      | inr most ↦ absurd (let two = two_kinds b a (omega (arith, most, other)) y x in omega (arith, two, few))
    ]
  ]

  pub not_one_kind : 1 < n → HasOneKind g r bucket → ⊥
  not_one_kind many one =
      let count = c.count in
      let two = two_among c.told all_kinds Super (omega (arith, many, count)) in
      let same = one (get_or all_kinds two.0 Super) (get_or all_kinds two.1 Super) (used_at (get_or all_kinds two.0 Super) two.4) (used_at (get_or all_kinds two.1 Super) two.5) in
      let less = two.2 in
      let low = two.3 in
      let here = place_there two.0 Super (omega (arith, less, low)) in
      let there = place_there two.1 Super low in
      let both = ap place_of same in
      omega (arith, less, here, there, both)

  pub no_kind : n ≡ 0 → (k : Use) → IsUsedFor g r k bucket → ⊥
  no_kind none k used =
      let low = low_place k in
      let some = some_counted c.told all_kinds (place_of k) Super low (seen k used Super) in
      let count = c.count in
      omega (arith, some, count, none)

  pub some_kind : (n ≡ 0 → ⊥) → ((k : Use) → IsUsedFor g r k bucket → ⊥) → ⊥
  some_kind some none =
      let count = c.count in
      let one = some_among c.told all_kinds Super (omega (arith, some, count)) in
      none (get_or all_kinds one.0 Super) (used_at (get_or all_kinds one.0 Super) one.2)

-- ---- what is told of each

abbrev pub told_of : Bool → Bool → Bool → Bool → Bool → Bool → Use → Bool
told_of a b c d e f Super = a
told_of a b c d e f Journal = b
told_of a b c d e f Priority = c
told_of a b c d e f Uuid = d
told_of a b c d e f Node = e
told_of a b c d e f Data = f

abbrev pub Tells : Geometry → Reading → ℕ → Use → Bool → Type 0
Tells g r bucket what b = MatchBool b (IsUsedFor g r what bucket) (IsUsedFor g r what bucket → ⊥)

pub counted : (g : Geometry) (r : Reading) (bucket n : ℕ) (a b c d e f : Bool) → Tells g r bucket Super a → Tells g r bucket Journal b → Tells g r bucket Priority c → Tells g r bucket Uuid d → Tells g r bucket Node e → Tells g r bucket Data f
    → n ≡ one_if a + one_if b + one_if c + one_if d + one_if e + one_if f → CountsUses g r bucket n
counted g r bucket n a b c d e f x y z u v w is = record { told = told_of a b c d e f; each = each; count = omega (arith, is) }
  where
    each : (what : Use) → MatchBool (told_of a b c d e f what) (IsUsedFor g r what bucket) (IsUsedFor g r what bucket → ⊥)
    each Super = x
    each Journal = y
    each Priority = z
    each Uuid = u
    each Node = v
    each Data = w

data_told : (f : Bool) (live : List ℕ) (g : Geometry) (r : Reading) (bucket : ℕ) → Contains live bucket ↔ IsUsedFor g r Data bucket → MatchBool f (Contains live bucket) (Contains live bucket → ⊥) → Tells g r bucket Data f
data_told true live g r bucket iff has = iff.0 has
data_told false live g r bucket iff not = λ used. not (iff.1 used)

module _ (v : View) (g : Geometry) (r : Reading) (here : g ≡ v.geometry) (same : r ≡ v.reading) (live : List ℕ) (are : AreLive v.geometry v.reading live) (bucket n : ℕ) where
  are_here : AreLive g r live
  are_here = subst (λ (x : Geometry). AreLive x r live) (sym here) (subst (λ (x : Reading). AreLive v.geometry x live) (sym same) are)

  pub counted_by : (a b c d e f : Bool) → Tells g r bucket Super a → Tells g r bucket Journal b → Tells g r bucket Priority c → Tells g r bucket Uuid d → Tells g r bucket Node e → MatchBool f (Contains live bucket) (Contains live bucket → ⊥)
      → n ≡ one_if a + one_if b + one_if c + one_if d + one_if e + one_if f → CountsUses v.geometry v.reading bucket n
  counted_by a b c d e f x y z u w has is =
      subst (λ (q : Reading). CountsUses v.geometry q bucket n) same
      (subst (λ (q : Geometry). CountsUses q r bucket n) here (counted g r bucket n a b c d e f x y z u w (data_told f live g r bucket (are_here bucket) has) is))

-- ---- and no two nodes are in one bucket

both_one : (g : Geometry) (r : Reading) (b : Bool) → ((bucket : ℕ) → HasOneKind g r bucket)
    → MatchBool b (AllPairs (AreApart g) r.nodes) (AllPairs (AreApart g) r.nodes → ⊥) → MatchBool b (HasOneUse g r) (HasOneUse g r → ⊥)
both_one g r true one apart = record { one = one; nodes = apart }
both_one g r false one not = λ both. not both.nodes

pub both_of : (g h : Geometry) (r : Reading) (nodes : List tree.Node) (b : Bool) → h ≡ g → nodes ≡ r.nodes → ((bucket : ℕ) → HasOneKind g r bucket)
    → MatchBool b (AllPairs (AreApart h) nodes) (AllPairs (AreApart h) nodes → ⊥) → MatchBool b (HasOneUse g r) (HasOneUse g r → ⊥)
both_of g h r nodes b same are one apart =
    both_one g r b one
    (subst (λ (k : Geometry). MatchBool b (AllPairs (AreApart k) r.nodes) (AllPairs (AreApart k) r.nodes → ⊥)) same
    (subst (λ (l : List tree.Node). MatchBool b (AllPairs (AreApart h) l) (AllPairs (AreApart h) l → ⊥)) are apart))
