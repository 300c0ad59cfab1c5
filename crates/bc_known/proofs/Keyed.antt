-- Keys that come into a leaf in hand.
use Rattle.std.proofs.Common.{◌≡◌, ◌≤◌, ℕ, List, [], ◌∷◌, ◌++◌, refl, sym, ap, ◌∙◌, subst}
use Rattle.bc_key.specs.declared.key.Key.{Key}
use Rattle.bc_key.specs.Key.{start_of}
use Rattle.bc_meta.specs.Layout.{Layout}
use Rattle.bc_meta.specs.Events as event
use Rattle.bc_meta.specs.Acts.{StaysUnused}
use Rattle.bc_meta.specs.Acts as meta
use Rattle.bc_leaves.specs.Parts.{Free, IsWithin}
use Rattle.bc_leaves.specs.Parts as parts
use Rattle.bc_leaves.specs.Events as parts_event
use Rattle.bc_leaves.specs.After.{fold}
use Rattle.bc_leaves.specs.Frame.{AllWithin}
use Rattle.bc_leaves.specs.Laws.{Step, IsJoint, acts_of, parts_of}
use Rattle.bc_whole.specs.Together.{inserted, step}

pub acts_join : (xs ys : List Step) → acts_of (xs ++ ys) ≡ acts_of xs ++ acts_of ys
acts_join [] ys = refl
acts_join (x ∷ xs) ys = ap (λ l. x.act ∷ l) (acts_join xs ys)

pub parts_join : (st : parts.State) (xs ys : List Step)
    → parts_of st (xs ++ ys) ≡ parts_of (parts_of st xs) ys
parts_join st [] ys = refl
parts_join st (x ∷ xs) ys = parts_join (fold st x.events) xs ys

pub fold_join : (w : Layout) (m : meta.State) (xs ys : List meta.Act)
    → meta.fold w m (xs ++ ys) ≡ meta.fold w (meta.fold w m xs) ys
fold_join w m [] ys = refl
fold_join w m (x ∷ xs) ys = fold_join w (meta.after w m x) xs ys

pub joint_join : (w : Layout) (m : meta.State) (st : parts.State)
    (xs ys : List Step) → IsJoint w m st xs
    → IsJoint w (meta.fold w m (acts_of xs)) (parts_of st xs) ys
    → IsJoint w m st (xs ++ ys)
joint_join w m st [] ys a b = b
joint_join w m st (x ∷ xs) ys a b = (
  a.0,
  a.1,
  a.2,
  a.3,
  joint_join w
      (meta.after w m x.act) (fold st x.events) xs ys a.4 b,
)

-- what keys that come in leave alone
record IsOpen (st : parts.State) (slot : ℕ) (m : meta.State) (w : Layout)
    (first end : ℕ) : Type 0 where
  free : (st.leaves slot).role ≡ Free
  first_is : (st.leaves slot).first ≡ first
  end_is : (st.leaves slot).end ≡ end
  unused : StaysUnused w m m.places.records.unused

module _ (w : Layout) (slot first end : ℕ) where
  one : (m : meta.State) (st : parts.State) (key : Key) → IsOpen st slot m w first end
      → IsOpen (parts_of st (step (meta.Plain (event.AddKey key)) (parts_event.Insert slot key)))
      slot (meta.after w m (meta.Plain (event.AddKey key))) w first end
  one m st key h = record {
    free = h.free;
    first_is = h.first_is;
    end_is = h.end_is;
    unused = h.unused;
  }

  some : (m : meta.State) (st : parts.State) (keys : List Key) → IsOpen st slot m w first end
      → IsOpen (parts_of st (inserted slot keys)) slot
      (meta.fold w m (acts_of (inserted slot keys))) w first end
  some m st [] h = h
  some m st (key ∷ keys) h =
      let tail = step (meta.Plain (event.AddKey key)) (parts_event.Insert slot key) in
      subst (λ (p : parts.State). IsOpen p slot
      (meta.fold w m (acts_of (inserted slot keys ++ tail))) w first end)
      (sym (parts_join st (inserted slot keys) tail))
      (subst (λ (x : meta.State). IsOpen (parts_of (parts_of st (inserted slot keys)) tail) slot x
      w first end) (sym (ap (λ l. meta.fold w m l) (acts_join (inserted slot keys) tail)
      ∙ fold_join w m (acts_of (inserted slot keys)) (acts_of tail)))
      (one (meta.fold w m (acts_of (inserted slot keys))) (parts_of st (inserted slot keys)) key
      (some m st keys h)))

  inserted_joint : (m : meta.State) (st : parts.State) (keys : List Key)
      → IsOpen st slot m w first end → AllWithin st slot keys
      → (st.leaves slot).first ≡ first → (st.leaves slot).end ≡ end
      → IsJoint w m st (inserted slot keys)
  inserted_joint m st [] h within a b = tt
  inserted_joint m st (key ∷ keys) h within a b =
      let k = some m st keys h in
      joint_join w m st (inserted slot keys)
      (step (meta.Plain (event.AddKey key)) (parts_event.Insert slot key))
      (inserted_joint m st keys h within.1 a b) (
        refl,
        (
          (
            k.free,
            (
              subst (λ n. n ≤ start_of key) (a ∙ sym k.first_is)
                  within.0.0,
              subst (λ n. key.end ≤ n) (b ∙ sym k.end_is) within.0.1,
            ),
          ),
          tt,
        ),
        tt,
        (refl, k.unused),
        tt,
      )

pub keyed_joint : (w : Layout) (slot : ℕ) (m : meta.State) (st : parts.State)
    (keys : List Key) → (st.leaves slot).role ≡ Free → AllWithin st slot keys
    → StaysUnused w m m.places.records.unused → IsJoint w m st (inserted slot keys)
keyed_joint w slot m st keys free within unused =
    inserted_joint w slot (st.leaves slot).first (st.leaves slot).end m st keys
    (record { free = free; first_is = refl; end_is = refl; unused = unused }) within refl refl
