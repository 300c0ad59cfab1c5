-- Lists of nodes and of their buckets, one more at the end.
use Rattle.std.proofs.Common.{◌≡◌, ◌≢◌, ℕ, zero, suc, ◌+◌, ◌<◌, List, [], ◌∷◌, ◌++◌, drop, length, take, Some, refl, sym, ap, ◌∙◌, arith}
use Rattle.std.specs.Prelude.{slice_get}
use Rattle.bc_new_nodes.specs.Course.{AreOnce, Differs}
use Rattle.bc_plan.specs.declared.write.NewNode.{NewNode}

pub take_next : {X : Type 0} (xs : List X) (i : ℕ) (x : X) → slice_get xs i ≡ Some x
    → take (i + 1) xs ≡ take i xs ++ x ∷ []
take_next [] i x is = absurd (cc)
take_next (y ∷ ys) zero x is = let e : y ≡ x = cc in ap (λ z. z ∷ []) e
take_next (y ∷ ys) (suc i) x is =
    let next : suc i + 1 ≡ suc (i + 1) = omega arith in
    ap (λ n. take n (y ∷ ys)) next ∙ ap (λ zs. y ∷ zs) (take_next ys i x is)

pub drop_next : {X : Type 0} (xs : List X) (i : ℕ) (x : X) → slice_get xs i ≡ Some x
    → drop i xs ≡ x ∷ drop (i + 1) xs
drop_next [] i x is = absurd (cc)
drop_next (y ∷ ys) zero x is = let e : y ≡ x = cc in ap (λ z. z ∷ ys) e
drop_next (y ∷ ys) (suc i) x is =
    let next : suc i + 1 ≡ suc (i + 1) = omega arith in
    drop_next ys i x is ∙ ap (λ n. x ∷ drop n (y ∷ ys)) (sym next)

pub inside : {X : Type 0} (xs : List X) (i : ℕ) (x : X) → slice_get xs i ≡ Some x → i < length xs
inside [] i x is = absurd (cc)
inside (y ∷ ys) zero x is = omega arith
inside (y ∷ ys) (suc i) x is = let less = inside ys i x is in omega (arith, less)

pub take_all : {X : Type 0} (xs : List X) → take (length xs) xs ≡ xs
take_all [] = refl
take_all (x ∷ xs) = ap (λ ys. x ∷ ys) (take_all xs)

-- none of these is the node
abbrev pub NoneIs : NewNode → List NewNode → Type 0
NoneIs n [] = Unit {0}
NoneIs n (m ∷ ms) = (m ≢ n) × NoneIs n ms

differs_at : (m : NewNode) (ns : List NewNode) (i : ℕ) (n : NewNode) → Differs m ns
    → slice_get ns i ≡ Some n → m ≢ n
differs_at m [] i n differs is = absurd (cc)
differs_at m (x ∷ ns) zero n differs is = λ same. differs.0 (let e : x ≡ n = cc in same ∙ sym e)
differs_at m (x ∷ ns) (suc i) n differs is = differs_at m ns i n differs.1 is

-- so it is with those before it in a list that has each once
pub none_before : (ns : List NewNode) (i : ℕ) (n : NewNode) → AreOnce ns
    → slice_get ns i ≡ Some n → NoneIs n (take i ns)
none_before [] i n once is = absurd (cc)
none_before (x ∷ ns) zero n once is = tt
none_before (x ∷ ns) (suc i) n once is =
    (differs_at x ns i n once.0 is, none_before ns i n once.1 is)
