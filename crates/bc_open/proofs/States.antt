-- What writing a state leaves of the backing device.
use Rattle.std.proofs.Common.{◌≡◌, ◌≢◌, ◌⊎◌, inl, inr, ℕ, suc, ◌<◌, ◌≤◌, Bool, true, false, List, [], ◌∷◌, Option, Some, None, refl, sym, ap, ◌∙◌, subst, arith, if◌then◌else◌}
use Rattle.std.specs.Prelude.{◌==◌}
use Rattle.std.proofs.lemmas.Bool.Decides.{eqb_tells}
use Rattle.bc_model.specs.Sector.{Image, Value, at_run, unless}
use Rattle.bc_disk.specs.Disk.{BothTold, DiskFacts, IfTold, IsKept, IsSettled, Overwritten, Torn}
use Rattle.bc_entered.specs.Laws.{IsSameImage}
use Rattle.bc_state.specs.State.{IsCached, super_in}
use Rattle.bc_super.specs.Writing.{IsBackingSector, IsBackingStored, IsBackingTorn, IsStored}
use Rattle.bc_super.specs.declared.backing.BackingSuper.{BackingSuper}
use Rattle.bc_super.specs.declared.state.BackingState.{BackingState}
use Rattle.bc_open.specs.Left.{ChangesState, IsStill, SaysState}

pub everywhere : (a b : Image) → IsSameImage a b → b ≡ a
everywhere a b same = λ i. λ s. same s i

by_test : (a b : ℕ) (P : Bool → Type 0) → (a ≡ b → P true) → (a ≢ b → P false) → P (a == b)
by_test a b P same other = go (eqb_tells a b)
  where
    go : (((a == b) ≡ true) × (a ≡ b)) ⊎ (((a == b) ≡ false) × (a ≢ b)) → P (a == b)
    go (inl t) = subst P (sym t.0) (same t.1)
    go (inr t) = subst P (sym t.0) (other t.1)

-- ---- devices that tell what they hold

pub if_held : (P : Image → Type 0) (o : Option Image)
    → ((image : Image) → o ≡ Some image → P image) → IfTold o P
if_held P None f = tt
if_held P (Some image) f = f image refl

pub told_of : (P : Image → Type 0) (o : Option Image) (image : Image) → o ≡ Some image
    → IfTold o P → P image
told_of P o image is p = subst (λ (x : Option Image). IfTold x P) is p

-- what a device that told of one image tells later
pub record Later (R : Image → Image → Type 0) (held : Image) (later : Option Image) : Type 0 where
  pub image : Image
  pub is : later ≡ Some image
  pub related : R held image

pub later_of : (R : Image → Image → Type 0) (old new : Option Image) (held : Image)
    → old ≡ Some held → BothTold R old new → Later R held new
later_of R old new held is both = go new (subst (λ (x : Option Image). BothTold R x new) is both)
  where
    go : (o : Option Image) → BothTold R (Some held) o → Later R held o
    go None so = absurd so
    go (Some image) so = record { image = image; is = refl; related = so }

pub same_held : (old new : Option Image) (held : Image) → old ≡ Some held
    → BothTold IsSameImage old new → new ≡ Some held
same_held old new held is both =
    let l = later_of IsSameImage old new held is both in
    l.is ∙ ap (λ (x : Image). Some x) (everywhere held l.image l.related)

-- ---- one sector

abbrev with_eight : Value → Image → Image
with_eight bytes held = λ s. if s == 8 then bytes else held s

some_same : {A : Type 0} (a b : A) → Some a ≡ Some b → a ≡ b
some_same a b e = cc

one_run : (v w : Value) (s : ℕ) → at_run 8 (v ∷ []) s ≡ Some w → (8 ≡ s) × (v ≡ w)
one_run v w s = by_test 8 s (λ b. (if b then Some v else None) ≡ Some w → (8 ≡ s) × (v ≡ w))
    (λ is e. (is, some_same v w e)) (λ no e. absurd (cc))

pub over_torn : (at : ℕ) (values : List Value) (old new : Image) → Overwritten at values old new
    → Torn at values old new
over_torn at values old new over s = go (at_run at values s) refl (over s)
  where
    go : (o : Option Value) → at_run at values s ≡ o → new s ≡ unless o (old s)
        → (new s ≡ old s) ⊎ (at_run at values s ≡ Some (new s))
    go None is at_s = inl at_s
    go (Some v) is at_s = inr (is ∙ ap (λ (x : Value). Some x) (sym at_s))

elsewhere : (bytes old : Value) (s : ℕ) → s ≢ 8 → (if s == 8 then bytes else old) ≡ old
elsewhere bytes old s apart = by_test s 8 (λ b. (if b then bytes else old) ≡ old)
    (λ is. absurd (apart is)) (λ other. refl)

module _ (May : BackingState → Type 0) (b : BackingSuper) (state : BackingState) (may : May state)
    (cached : IsCached state) (bytes : Value) (sector : IsBackingSector bytes (super_in state b)) where
  pub torn_says : (held image : Image) → Torn 8 (bytes ∷ []) held image
      → IsSameImage held image ⊎ SaysState May b held image
  torn_says held image torn = elim (torn 8) [ inl as_was ↦ inl (stays as_was) | inr new ↦ inr (says new) ]
    where
      stays : image 8 ≡ held 8 → IsSameImage held image
      stays as_was s = elim (torn s) [
        | inl same ↦ same
        | inr new ↦ (let k = one_run bytes (image s) s new in
            ap image (sym k.0) ∙ as_was ∙ ap held k.0)
      ]

      says : at_run 8 (bytes ∷ []) 8 ≡ Some (image 8) → SaysState May b held image
      says new = record {
        state = state;
        may = may;
        cached = cached;
        bytes = bytes;
        sector = sector;
        same = λ s. by_test s 8 (λ t. image s ≡ (if t then bytes else held s))
            (λ is. ap image is ∙ sym (one_run bytes (image 8) 8 new).1)
            (λ no. other s no (torn s));
      }
        where
          other : (s : ℕ) → s ≢ 8 → (image s ≡ held s) ⊎ (at_run 8 (bytes ∷ []) s ≡ Some (image s))
              → image s ≡ held s
          other s apart (inl same) = same
          other s apart (inr written) = absurd (apart (sym (one_run bytes (image s) s written).0))

-- one state after another
pub says_again : (May : BackingState → Type 0) (b : BackingSuper) (held mid image : Image)
    → IsSameImage held mid ⊎ SaysState May b held mid
    → IsSameImage mid image ⊎ SaysState May b mid image
    → IsSameImage held image ⊎ SaysState May b held image
says_again May b held mid image (inl same) second =
    subst (λ (x : Image). IsSameImage x image ⊎ SaysState May b x image) (everywhere held mid same)
    second
says_again May b held mid image (inr first) (inl same) = inr (record {
  state = first.state;
  may = first.may;
  cached = first.cached;
  bytes = first.bytes;
  sector = first.sector;
  same = λ s. same s ∙ first.same s;
})
says_again May b held mid image (inr first) (inr second) = inr (record {
  state = second.state;
  may = second.may;
  cached = second.cached;
  bytes = second.bytes;
  sector = second.sector;
  same = λ s. second.same s
      ∙ by_test s 8 (λ t. (if t then second.bytes else mid s) ≡ (if t then second.bytes else held s))
      (λ is. refl) (λ no. first.same s ∙ elsewhere first.bytes (held s) s no);
})

-- ---- the device

-- the states that it may say are some of others
says_wider : (A B : BackingState → Type 0) → ((state : BackingState) → A state → B state)
    → (b : BackingSuper) (held image : Image) → IsSameImage held image ⊎ SaysState A b held image
    → IsSameImage held image ⊎ SaysState B b held image
says_wider A B wider b held image (inl same) = inl same
says_wider A B wider b held image (inr says) = inr (record {
  state = says.state;
  may = wider says.state says.may;
  cached = says.cached;
  bytes = says.bytes;
  sector = says.sector;
  same = says.same;
})

pub changes_wider : (A B : BackingState → Type 0) → ((state : BackingState) → A state → B state)
    → (b : BackingSuper) (old new : DiskFacts) → ChangesState A b old new → ChangesState B b old new
changes_wider A B wider b old new changes = go old.holds changes
  where
    go : (o : Option Image)
        → IfTold o (λ held. (image : Image) → new.may_leave image
        → IsSameImage held image ⊎ SaysState A b held image)
        → IfTold o (λ held. (image : Image) → new.may_leave image
        → IsSameImage held image ⊎ SaysState B b held image)
    go None from = tt
    go (Some held) from = λ image may. says_wider A B wider b held image (from image may)

pub same_leaves : (May : BackingState → Type 0) (b : BackingSuper) (old new : DiskFacts)
    → IsStill old → IsKept old new → ChangesState May b old new
same_leaves May b old new still kept = if_held
    (λ held. (image : Image) → new.may_leave image → IsSameImage held image ⊎ SaysState May b held image)
    old.holds (λ held is image may. inl
    (told_of (λ held. (image : Image) → old.may_leave image → IsSameImage held image) old.holds held is
    still image ((kept.leaves image).0 may)))

module _ (May : BackingState → Type 0) (b : BackingSuper) (old new : DiskFacts) where
  abbrev Leaves : Image → Type 0
  Leaves held = (image : Image) → new.may_leave image
      → IsSameImage held image ⊎ SaysState May b held image

  pub settled_leaves : IsSettled old new → ChangesState May b old new
  settled_leaves settled = if_held Leaves old.holds (λ held is image may. inl
      (told_of (λ held. (image : Image) → new.may_leave image → IsSameImage held image) new.holds held
      (same_held old.holds new.holds held is settled.holds) settled.leaves image may))

  module _ (state : BackingState) (may : May state) (cached : IsCached state) where
    pub torn_leaves : IsBackingTorn (super_in state b) old new → IsStill old
        → ChangesState May b old new
    torn_leaves (bytes, sector, failed) still = if_held Leaves old.holds (λ held is image left.
        let from = failed.leaves.adds image left in
        let same = everywhere held from.0 (told_of
        (λ held. (image : Image) → old.may_leave image → IsSameImage held image) old.holds held is
        still from.0 from.1) in
        torn_says May b state may cached bytes sector held image
        (subst (λ (x : Image). Torn 8 (bytes ∷ []) x image) same from.2))

    pub stored_leaves : IsBackingStored (super_in state b) old new → ChangesState May b old new
    stored_leaves (bytes, sector, stored) = if_held Leaves old.holds (λ held is image left.
        let l = later_of (Overwritten 8 (bytes ∷ [])) old.holds new.holds held is stored.holds in
        let same = everywhere l.image image (told_of
        (λ held. (image : Image) → new.may_leave image → (s : ℕ) → image s ≡ held s) new.holds l.image
        l.is stored.leaves image left) in
        torn_says May b state may cached bytes sector held image
        (over_torn 8 (bytes ∷ []) held image
        (subst (λ (x : Image). Overwritten 8 (bytes ∷ []) held x) (sym same) l.related)))

-- what follows on a device that holds the same
pub changes_from : (May : BackingState → Type 0) (b : BackingSuper) (old mid new : DiskFacts)
    → BothTold IsSameImage old.holds mid.holds → ChangesState May b mid new
    → ChangesState May b old new
changes_from May b old mid new both changes = if_held
    (λ held. (image : Image) → new.may_leave image → IsSameImage held image ⊎ SaysState May b held image)
    old.holds (λ held is. told_of
    (λ held. (image : Image) → new.may_leave image → IsSameImage held image ⊎ SaysState May b held image)
    mid.holds held (same_held old.holds mid.holds held is both) changes)

-- and on one that says such a state
pub changes_again : (May : BackingState → Type 0) (b : BackingSuper) (old mid new : DiskFacts)
    (state : BackingState) → May state → IsCached state → IsBackingStored (super_in state b) old mid
    → ChangesState May b mid new → ChangesState May b old new
changes_again May b old mid new state may cached (bytes, sector, stored) changes = if_held
    (λ held. (image : Image) → new.may_leave image → IsSameImage held image ⊎ SaysState May b held image)
    old.holds (λ held is image left.
    let l = later_of (Overwritten 8 (bytes ∷ [])) old.holds mid.holds held is stored.holds in
    says_again May b held l.image image
    (torn_says May b state may cached bytes sector held l.image
    (over_torn 8 (bytes ∷ []) held l.image l.related))
    (told_of
    (λ held. (image : Image) → new.may_leave image → IsSameImage held image ⊎ SaysState May b held image)
    mid.holds l.image l.is changes image left))

-- ---- stored twice

over_again : (first second : Value) (a m n : Image) → Overwritten 8 (first ∷ []) a m
    → Overwritten 8 (second ∷ []) m n → Overwritten 8 (second ∷ []) a n
over_again first second a m n one two s = two s
    ∙ by_test 8 s (λ t. unless (if t then Some second else None) (m s)
    ≡ unless (if t then Some second else None) (a s))
    (λ is. refl)
    (λ no. one s ∙ by_test 8 s (λ t. unless (if t then Some first else None) (a s) ≡ a s)
    (λ is. absurd (no is)) (λ other. refl))

both_again : (first second : Value) (x y z : Option Image)
    → BothTold (Overwritten 8 (first ∷ [])) x y → BothTold (Overwritten 8 (second ∷ [])) y z
    → BothTold (Overwritten 8 (second ∷ [])) x z
both_again first second None None z one two = two
both_again first second None (Some y) z one two = absurd one
both_again first second (Some x) None z one two = absurd one
both_again first second (Some x) (Some y) None one two = two
both_again first second (Some x) (Some y) (Some z) one two = over_again first second x y z one two

pub stored_again : (first second : Value) (a m n : DiskFacts) → IsStored 8 (first ∷ []) a m
    → IsStored 8 (second ∷ []) m n → IsStored 8 (second ∷ []) a n
stored_again first second a m n one two = record {
  sectors = two.sectors ∙ one.sectors;
  holds = both_again first second a.holds m.holds n.holds one.holds two.holds;
  leaves = two.leaves;
}

both_before : (v : Value) (x y z : Option Image) → BothTold IsSameImage x y
    → BothTold (Overwritten 8 (v ∷ [])) y z → BothTold (Overwritten 8 (v ∷ [])) x z
both_before v None None z one two = two
both_before v None (Some y) z one two = absurd one
both_before v (Some x) None z one two = absurd one
both_before v (Some x) (Some y) None one two = two
both_before v (Some x) (Some y) (Some z) one two =
    subst (λ (i : Image). Overwritten 8 (v ∷ []) i z) (everywhere x y one) two

both_after : (v : Value) (x y z : Option Image) → BothTold (Overwritten 8 (v ∷ [])) x y
    → BothTold IsSameImage y z → BothTold (Overwritten 8 (v ∷ [])) x z
both_after v None None z one two = two
both_after v None (Some y) z one two = absurd one
both_after v (Some x) None z one two = absurd one
both_after v (Some x) (Some y) None one two = two
both_after v (Some x) (Some y) (Some z) one two =
    subst (λ (i : Image). Overwritten 8 (v ∷ []) x i) (sym (everywhere y z two)) one

-- a barrier before and one behind
pub stored_behind : (v : Value) (a m n : DiskFacts) → IsSettled a m → IsStored 8 (v ∷ []) m n
    → IsStored 8 (v ∷ []) a n
stored_behind v a m n settled stored = record {
  sectors = stored.sectors ∙ settled.sectors;
  holds = both_before v a.holds m.holds n.holds settled.holds stored.holds;
  leaves = stored.leaves;
}

pub stored_settled : (v : Value) (a m n : DiskFacts) → IsStored 8 (v ∷ []) a m → IsSettled m n
    → IsStored 8 (v ∷ []) a n
stored_settled v a m n stored settled = record {
  sectors = settled.sectors ∙ stored.sectors;
  holds = both_after v a.holds m.holds n.holds stored.holds settled.holds;
  leaves = settled.leaves;
}
