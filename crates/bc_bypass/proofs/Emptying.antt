-- Keys without pointers, one behind the other.
use Rattle.std.proofs.Common.{◌≡◌, ◌≢◌, ℕ, ◌+◌, ◌<◌, ◌≤◌, List, [], ◌∷◌, ◌++◌, refl, sym, subst, arith}
use Rattle.std.specs.Prelude.{All, length}
use Rattle.std.proofs.lemmas.List.Elements.{All-cons, All-nil}
use Rattle.bc_bypass.specs.Backed.{AreBacked}
use Rattle.bc_bypass.specs.Empty.{AreEmpty, IsEmptyFrom, alone_at}
use Rattle.bc_image.specs.Sound.{LiesWithin}
use Rattle.bc_key.specs.Key.{IsExtent}
use Rattle.bc_key.specs.declared.key.Key.{Key}
use Rattle.bc_node.specs.Leaf.{AreWithin, Leaf}
use Rattle.bc_write_back.specs.bc_insert.Drop.{IsGone, MayDrop}
use Rattle.bc_write_back.specs.bc_machine.Frame.{Range}

pub empty_none : (bucket first : ℕ) → AreEmpty bucket first (first + 0) []
empty_none bucket first = omega arith

pub empty_more : (bucket first at : ℕ) (keys : List Key) (key : Key)
    → AreEmpty bucket first at keys → IsEmptyFrom bucket at key
    → AreEmpty bucket first key.end (keys ++ key ∷ [])
empty_more bucket first at [] key is one =
    (subst (λ n. IsEmptyFrom bucket n key) (sym is) one, refl)
empty_more bucket first at (k ∷ ks) key are one =
    (are.0, empty_more bucket k.end at ks key are.1 one)

-- they end behind where they begin
forward : (bucket first end : ℕ) (keys : List Key) → AreEmpty bucket first end keys → first ≤ end
forward bucket first end [] is = omega (arith, is)
forward bucket first end (k ∷ ks) are =
    let on = forward bucket k.end end ks are.1 in
    let at = are.0.end in
    omega (arith, on, at)

not_none : (bucket first end : ℕ) (keys : List Key) → AreEmpty bucket first end keys
    → first < end → keys ≢ []
not_none bucket first end [] is some = λ none. omega (arith, is, some)
not_none bucket first end (k ∷ ks) are some = λ none. cc

-- each has a sector at least
pub few : (bucket first end : ℕ) (keys : List Key) → AreEmpty bucket first end keys
    → first + length keys ≤ end
few bucket first end [] is = omega (arith, is)
few bucket first end (k ∷ ks) are =
    let on = few bucket k.end end ks are.1 in
    let at = are.0.end in
    let some = are.0.some in
    omega (arith, on, at, some)

pub extents : (bucket first end : ℕ) (keys : List Key) → AreEmpty bucket first end keys
    → All IsExtent keys
extents bucket first end [] is = All-nil IsExtent
extents bucket first end (k ∷ ks) are = All-cons IsExtent k ks
    (let at = are.0.end in omega (arith, at))
    (extents bucket k.end end ks are.1)

pub within : (bucket first end from to : ℕ) (keys : List Key) → AreEmpty bucket first end keys
    → from ≤ first → end ≤ to → AreWithin from to keys
within bucket first end from to [] is low high = All-nil (LiesWithin 0 from to)
within bucket first end from to (k ∷ ks) are low high =
    let at = are.0.end in
    let on = forward bucket k.end end ks are.1 in
    All-cons (LiesWithin 0 from to) k ks (omega (arith, at, low), omega (arith, on, high))
    (within bucket k.end end from to ks are.1 (omega (arith, at, low)) high)

gone : (leaf : Leaf) (bucket first count at end : ℕ) (keys : List Key)
    → AreEmpty bucket at end keys → first ≤ at → end ≤ first + count
    → AreBacked leaf first count → All (IsGone (alone_at first count) leaf bucket) keys
gone leaf bucket first count at end [] is low high backed =
    All-nil (IsGone (alone_at first count) leaf bucket)
gone leaf bucket first count at end (k ∷ ks) are low high backed =
    let its = are.0.end in
    let on = forward bucket k.end end ks are.1 in
    All-cons (IsGone (alone_at first count) leaf bucket) k ks (record {
      none = are.0.none;
      some = are.0.some;
      few = are.0.few;
      from = omega (arith, its, low);
      to = omega (arith, on, high);
      backed = λ s covers. backed s (let start = covers.0 in omega (arith, start, its, low))
          (let before = covers.1 in omega (arith, before, on, high));
    }) (gone leaf bucket first count k.end end ks are.1 (omega (arith, its, low)) high backed)

-- the event takes them in a leaf by which the backing device has what each sector shows
pub may_drop : (leaf : Leaf) (r : Range) (bucket first count : ℕ) (keys : List Key)
    → r ≡ alone_at first count → 1 ≤ count → AreEmpty bucket first (first + count) keys
    → AreBacked leaf first count → MayDrop r leaf bucket keys
may_drop leaf r bucket first count keys is some are backed =
    subst (λ (x : Range). MayDrop x leaf bucket keys) (sym is) (record {
      some = not_none bucket first (first + count) keys are (omega (arith, some));
      alone = refl;
      gone = gone leaf bucket first count first (first + count) keys are (omega arith) (omega arith)
          backed;
    })
