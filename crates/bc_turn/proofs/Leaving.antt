-- A leaf of which keys go to its node, or are left pending.
use Rattle.std.proofs.Common.{◌≡◌, ℕ, false, Option, Some, None, Err, refl, sym, ap, ◌∙◌, subst, arith}
use Rattle.std.specs.Prelude.{is_some, slice_get}
use Rattle.bc_append.proofs.Held.{one_cached, one_some}
use Rattle.bc_append.specs.Append.{HasAppended, HasFailedToAppend, HasLeafIn, HasLost, HasNoRoom, append_by, lost_by}
use Rattle.bc_append.specs.declared.error.NoRoom.{NoRoom}
use Rattle.bc_append.specs.declared.error.NoRoom.TheVariants as room
use Rattle.bc_cache.specs.Slots.{IsSlotOf}
use Rattle.bc_cache.specs.declared.slots.Cached.{Cached}
use Rattle.bc_disk.specs.Disk.{DiskFacts}
use Rattle.bc_disk.specs.declared.geometry.Geometry.{Geometry}
use Rattle.bc_events.specs.declared.event.Deed.{Deed}
use Rattle.bc_append.specs.bc_hand.Seats.{Did, Kinds, Works, kinds, numbers, world}
use Rattle.bc_append.specs.bc_hand.declared.error.StepError.{StepError}
use Rattle.bc_append.specs.bc_hand.declared.error.StepError.TheVariants as error
use Rattle.bc_append.specs.bc_hand.declared.hand.Hand.{Hand}
use Rattle.bc_append.specs.bc_hand.declared.hand.LeafHand.{LeafHand}
use Rattle.bc_append.proofs.of_bc_hand.Between.{did_between}
use Rattle.bc_append.proofs.of_bc_hand.Knowing.{View, m}
use Rattle.bc_append.proofs.of_bc_place.of_bc_deed.May.{did_nothing}
use Rattle.bc_append.specs.bc_machine.declared.part.CorePart.{CorePart}
use Rattle.bc_node.specs.Leaf.{IsFull, Leaf}
use Rattle.bc_node.specs.declared.pending.Entries.{Entries}
use Rattle.bc_parts.specs.Seat.{Holds, PartsView}
use Rattle.bc_append.specs.bc_place.Written.{KeepsPlaces}
use Rattle.bc_append.proofs.of_bc_place.Keeping.{keeps_both, keeps_waited}
use Rattle.bc_seats.specs.Seats.{Waited}
use Rattle.bc_append.specs.bc_machine.World.{World}
use Rattle.bc_turn.specs.Empty.{HasPendingIn, IsClosedBy, IsLeft, IsTold, IsWhy}
use Rattle.bc_turn.specs.declared.error.Why.{Why}
use Rattle.bc_turn.specs.declared.error.Why.TheVariants as why

-- ---- hands

no_some : {X : Type 0} (o : Option X) → is_some o ≡ false → o ≡ None
no_some None e = refl
no_some (Some x) e = absurd (cc)

pub same_entries : (o : Option Entries) (a b : Entries) → o ≡ Some a → o ≡ Some b → a ≡ b
same_entries o a b x y = cc

module _ {C B : Type 0} where
  -- nothing was in hand of a part that came and went
  pub back_journal : (a b : Hand C B) → b ≡ record a { journal = b.journal } → kinds b ≡ kinds a
      → a.journal ≡ None → b ≡ a
  back_journal a b rest same none = rest
      ∙ ap (λ o. record a { journal = o }) (no_some b.journal
      (ap (λ (k : Kinds). k.journal) same ∙ ap is_some none) ∙ sym none)

  pub back_cache : (a b : Hand C B) → b ≡ record a { cache = b.cache } → kinds b ≡ kinds a
      → a.cache ≡ None → b ≡ a
  back_cache a b rest same none = rest
      ∙ ap (λ o. record a { cache = o }) (no_some b.cache
      (ap (λ (k : Kinds). k.cache) same ∙ ap is_some none) ∙ sym none)

  -- the leaf of a number is in one slot alone
  pub record SameLeaf (h : Hand C B) (i j number : ℕ) (a : HasLeafIn h i number)
      (b : HasLeafIn h j number) : Type 0 where
    pub slot : i ≡ j
    pub geometry : a.leaves.cache.geometry ≡ b.leaves.cache.geometry
    pub leaf : a.cached.leaf ≡ b.cached.leaf

  pub same_leaf : (h : Hand C B) (i j number : ℕ) (a : HasLeafIn h i number) (b : HasLeafIn h j number)
      → IsSlotOf b.leaves.cache.slots number j → SameLeaf h i j number a b
  same_leaf h i j number a b only =
      let same = one_some h.leaves a.leaves b.leaves a.is b.is in
      let there = ap (λ (l : LeafHand). slice_get l.cache.slots i) (sym same) ∙ a.there in
      let at = only.only i (record {
        cached = a.cached;
        there = there;
        number_is = a.number_is;
      }) in
      record {
        slot = at;
        geometry = ap (λ (l : LeafHand). l.cache.geometry) same;
        leaf = ap (λ (c : Cached). c.leaf)
            (one_cached (slice_get b.leaves.cache.slots j) a.cached b.cached
            (ap (λ k. slice_get b.leaves.cache.slots k) (sym at) ∙ there) b.there);
      }

  -- ---- causes

  pub closed_why : (h : Hand C B) (parts slot number sectors : ℕ) (y : Why)
      (x : HasPendingIn h parts slot number) → IsClosedBy (Err y) x → IsWhy y sectors x
  closed_why h parts slot number sectors why.Held x is = is
  closed_why h parts slot number sectors why.Closed x is = is
  closed_why h parts slot number sectors (why.Waiting n) x is = absurd is
  closed_why h parts slot number sectors why.Full x is = absurd is
  closed_why h parts slot number sectors why.Outside x is = absurd is

  pub closed_told : (h : Hand C B) (parts slot number : ℕ) (y : Why)
      (x : HasPendingIn h parts slot number) (z : World) → IsClosedBy (Err y) x → IsTold y z
  closed_told h parts slot number why.Held x z is = tt
  closed_told h parts slot number why.Closed x z is = tt
  closed_told h parts slot number (why.Waiting n) x z is = absurd is
  closed_told h parts slot number why.Full x z is = absurd is
  closed_told h parts slot number why.Outside x z is = absurd is

module _ {C B : Type 0} (cache_facts : C → DiskFacts) (backing_facts : B → DiskFacts)
    (p : PartsView (CorePart C B)) where
  -- ---- a step behind a look at the journal

  module _ (v u : View cache_facts backing_facts) (h k : Hand C B)
      (works : Works cache_facts backing_facts p v h) (then : Works cache_facts backing_facts p u k)
      (waited : Waited (m cache_facts backing_facts) v u) (same : k ≡ h) where
    still : (n : ℕ) → Holds v.parts n → Holds u.parts n
    still n = subst (λ ks. Holds ks n) (works.parts ∙ sym (ap numbers same) ∙ sym then.parts)

    pub waited_did : Did cache_facts backing_facts None v u
    waited_did = record { is = waited; seat = then.seat }

    pub did_since : (o : Option Deed) (w : View cache_facts backing_facts)
        → Did cache_facts backing_facts o u w → Did cache_facts backing_facts o v w
    did_since o w did = did_between cache_facts backing_facts o v u w w still waited did
        (did_nothing cache_facts backing_facts w did.seat).is refl refl did.seat

    pub keeps_since : (w : View cache_facts backing_facts)
        → KeepsPlaces cache_facts backing_facts u w → KeepsPlaces cache_facts backing_facts v w
    keeps_since w keeps = keeps_both cache_facts backing_facts v u w
        (keeps_waited cache_facts backing_facts v u works.seat waited) keeps

    pub appended_since : (number : ℕ) (new : Hand C B) (w : View cache_facts backing_facts)
        → HasAppended cache_facts backing_facts number k new u w
        → HasAppended cache_facts backing_facts number h new v w
    appended_since number new w a = subst (λ x. HasAppended cache_facts backing_facts number x new v w)
        same (record {
          slot = a.slot;
          at = a.at;
          bytes = a.bytes;
          set = a.set;
          did = did_since (Some (append_by a.at.leaves.cache.geometry number a.at.cached.leaf
              a.bytes)) w a.did;
          leaf = a.leaf;
          appended = a.appended;
          now = a.now;
        })

    lost_since : (number : ℕ) (new : Hand C B) (w : View cache_facts backing_facts)
        → HasLost cache_facts backing_facts number k new u w
        → HasLost cache_facts backing_facts number h new v w
    lost_since number new w a = subst (λ x. HasLost cache_facts backing_facts number x new v w)
        same (record {
          slot = a.slot;
          at = a.at;
          bytes = a.bytes;
          set = a.set;
          did = did_since (Some (lost_by a.at.leaves.cache.geometry number a.at.cached.leaf
              a.bytes)) w a.did;
          now = a.now;
        })

    pub failed_since : (e : StepError) (number : ℕ) (new : Hand C B)
        (w : View cache_facts backing_facts)
        → HasFailedToAppend cache_facts backing_facts e number k new u w
        → HasFailedToAppend cache_facts backing_facts e number h new v w
    failed_since (error.Fault device) number new w (cause, lost) =
        (cause, lost_since number new w lost)
    failed_since (error.Halted device) number new w (halt, did, stays) =
        (halt, did_since None w did, stays ∙ same)
    failed_since error.Memory number new w (did, stays) = (did_since None w did, stays ∙ same)

    module _ (parts number sectors : ℕ) (none : h.cache ≡ None) (new : Hand C B)
        (w : View cache_facts backing_facts) (alike : kinds new ≡ kinds k) (slot : ℕ)
        (x : HasPendingIn h parts slot number)
        (only : IsSlotOf x.own.at.leaves.cache.slots number slot) where
      left_by : (y : Why) (i : ℕ) (at : HasLeafIn h i number)
          → (SameLeaf h i slot number at x.own.at → IsWhy y sectors x)
          → new ≡ record h { cache = new.cache } → Did cache_facts backing_facts None u w
          → IsTold y (world cache_facts backing_facts w)
          → IsLeft cache_facts backing_facts y sectors parts number h new v w slot x
      left_by y i at cause now did told = record {
        cause = cause (same_leaf h i slot number at x.own.at only);
        did = did_since None w did;
        same = back_cache h new now (alike ∙ ap kinds same) none;
        told = told;
      }

      -- said of the hand as it was
      here : (y : NoRoom) → HasNoRoom cache_facts backing_facts y sectors number k new u w
          → HasNoRoom cache_facts backing_facts y sectors number h new u w
      here y a = subst (λ z. HasNoRoom cache_facts backing_facts y sectors number z new u w) same a

      pub full_since : HasNoRoom cache_facts backing_facts room.Full sectors number k new u w
          → IsLeft cache_facts backing_facts why.Full sectors parts number h new v w slot x
      full_since b =
          let a = here room.Full b in
          left_by why.Full a.slot a.at (λ is. subst (λ (g : Geometry). IsFull g x.own.at.cached.leaf)
          is.geometry (subst (λ (l : Leaf). IsFull a.at.leaves.cache.geometry l) is.leaf a.cause))
          a.now a.did tt

      pub outside_since : HasNoRoom cache_facts backing_facts room.Outside sectors number k new u w
          → IsLeft cache_facts backing_facts why.Outside sectors parts number h new v w slot x
      outside_since b =
          let a = here room.Outside b in
          left_by why.Outside a.slot a.at (λ is. (
          let g = ap (λ (y : Geometry). y.node_sectors) is.geometry in
          let l = ap (λ (y : Leaf). y.ptr.offset) is.leaf in
          let cause = a.cause in omega (arith, g, l, cause))) a.now a.did tt

      pub appended_in : HasAppended cache_facts backing_facts number k new u w
          → (a : HasAppended cache_facts backing_facts number h new v w) × (a.slot ≡ slot)
      appended_in b =
          let a = appended_since number new w b in
          (a, (same_leaf h a.slot slot number a.at x.own.at only).slot)
