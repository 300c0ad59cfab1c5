-- A part whose leaves are emptied slot by slot.
use Rattle.std.proofs.Common.{◌≡◌, inl, inr, ℕ, zero, suc, ◌+◌, ◌-◌, ◌<◌, ◌≤◌, List, [], ◌∷◌, ◌++◌, Option, Some, None, refl, sym, ap, ◌∙◌, subst, arith}
use Rattle.std.specs.Prelude.{IfSome, false, is_some, length, slice_get, slice_set}
use Rattle.std.proofs.lemmas.Bool.{cases_eq}
use Rattle.std.proofs.lemmas.List.Elements.{All-push}
use Rattle.std.proofs.lemmas.List.{append-nil}
use Rattle.std.proofs.lemmas.Option.{slice_get_within}
use Rattle.bc_append.proofs.Held.{one_some}
use Rattle.bc_append.proofs.of_bc_hand.Knowing.{View}
use Rattle.bc_append.proofs.of_bc_place.of_bc_deed.May.{did_nothing}
use Rattle.bc_append.proofs.of_bc_place.of_bc_deed.Sequence.{done_both, done_one}
use Rattle.bc_append.specs.Append.{BeginWithSet, HasAppended, HasFailedToAppend, HasLeafIn, append_by, lost_by}
use Rattle.bc_append.specs.bc_hand.Seats.{Did, IsCoreSeat, Kinds, Works, kinds, part_of, world}
use Rattle.bc_append.specs.bc_hand.declared.error.StepError.{StepError}
use Rattle.bc_append.specs.bc_hand.declared.error.StepError.TheVariants as error
use Rattle.bc_append.specs.bc_hand.declared.hand.Hand.{Hand}
use Rattle.bc_append.specs.bc_hand.declared.hand.LeafHand.{LeafHand}
use Rattle.bc_append.specs.bc_machine.World.{AreLeaves, FromEach}
use Rattle.bc_append.specs.bc_machine.declared.part.CorePart.{CorePart}
use Rattle.bc_cache.proofs.Changed.{set_same}
use Rattle.bc_cache.specs.declared.slots.Cached.{Cached}
use Rattle.bc_disk.specs.Disk.{DiskFacts}
use Rattle.bc_events.specs.declared.event.Deed.{Deed}
use Rattle.bc_fetch.proofs.Fetching.{in_hand, leaf_count}
use Rattle.bc_fetch.specs.Fetch.{HasPart}
use Rattle.bc_fetch.specs.bc_deed.Flushed.{HasDone}
use Rattle.bc_append.proofs.of_bc_place.Keeping.{keeps_both}
use Rattle.bc_append.specs.bc_place.Written.{KeepsPlaces}
use Rattle.bc_disk.specs.declared.geometry.Geometry.{Geometry}
use Rattle.bc_node.specs.Leaf.{Leaf}
use Rattle.bc_node.specs.declared.pending.Entries.{Entries}
use Rattle.bc_parts.specs.Seat.{PartsView}
use Rattle.bc_turn.specs.declared.error.Why.{Why}
use Rattle.bc_turn.specs.Empty.{IsLeft}
use Rattle.bc_turn.specs.Laws.{WaitsFrom}
use Rattle.bc_turn.specs.Need.{IsToCome, PartNeedsFrom}
use Rattle.bc_turn.specs.Part.{HasFailed, HasWrittenSets, IsDueIn, IsLeftIn, IsOfDue, WaitsInSlot}
use Rattle.bc_turn.proofs.Known.{law_known}
use Rattle.bc_turn.proofs.Leaving.{same_leaf}
use Rattle.bc_turn.proofs.Still.{keeps_nothing}
use Rattle.bc_turn.proofs.Told.{law_told}

-- ---- slots

waits_none : (count part low : ℕ) (c : Cached) → c.leaf.entries ≡ None
    → WaitsInSlot count part low (Some (Some c))
waits_none count part low c none own =
    subst (λ (o : Option Entries). IfSome o (λ e. low ≤ e.first)) (sym none) tt

set_length : {A : Type 0} (xs : List A) (i : ℕ) (a : A) → length (slice_set xs i a) ≡ length xs
set_length [] i a = refl
set_length (x ∷ xs) zero a = refl
set_length (x ∷ xs) (suc i) a = ap suc (set_length xs i a)

set_other : {A : Type 0} (xs : List A) (i j : ℕ) (a : A) → (j ≡ i → ⊥)
    → slice_get (slice_set xs i a) j ≡ slice_get xs j
set_other [] i j a apart = refl
set_other (x ∷ xs) zero zero a apart = absurd (apart refl)
set_other (x ∷ xs) zero (suc j) a apart = refl
set_other (x ∷ xs) (suc i) zero a apart = refl
set_other (x ∷ xs) (suc i) (suc j) a apart = set_other xs i j a (λ e. apart (ap suc e))

part_some : (o : Option LeafHand) (n : ℕ) → part_of o ≡ Some n
    → (l : LeafHand) × (o ≡ Some l) × (l.part ≡ n)
part_some None n e = absurd (cc)
part_some (Some l) n e = (l, refl, one l.part n e)
  where
    one : (i j : ℕ) → Some i ≡ Some j → i ≡ j
    one i j e = cc

no_some : {X : Type 0} (o : Option X) → is_some o ≡ false → o ≡ None
no_some None e = refl
no_some (Some x) e = absurd (cc)

module _ {C B : Type 0} (cache_facts : C → DiskFacts) (backing_facts : B → DiskFacts) where
  -- of what is in hand only the leaf changed
  pub rest_appended : (number : ℕ) (h k : Hand C B) (x y : View cache_facts backing_facts)
      → HasAppended cache_facts backing_facts number h k x y → kinds k ≡ kinds h → h.cache ≡ None
      → k ≡ record h { leaves = k.leaves }
  rest_appended number h k x y e alike none =
      let leaves = ap (λ (z : Hand C B). z.leaves) e.now in
      e.now ∙ ap (λ o. record h { leaves = o; cache = k.cache }) (sym leaves)
      ∙ ap (λ o. record h { leaves = k.leaves; cache = o }) (no_some k.cache
      (ap (λ (z : Kinds). z.cache) alike ∙ ap is_some none) ∙ sym none)

module _ {C B : Type 0} (cache_facts : C → DiskFacts) (backing_facts : B → DiskFacts)
    (p : PartsView (CorePart C B)) (low : ℕ) where
  -- no deed at all
  pub no_sets : (v w : View cache_facts backing_facts) → HasDone cache_facts backing_facts [] v w
      → HasWrittenSets cache_facts backing_facts p low v w
  no_sets v w done = record { deeds = []; each = λ k d few. absurd (omega (arith, few)); done = done }

  -- the seat as it begins
  pub start_sets : (v : View cache_facts backing_facts) → IsCoreSeat cache_facts backing_facts v
      → HasWrittenSets cache_facts backing_facts p low v v
  start_sets v seat = no_sets v v (done_one cache_facts backing_facts None v v
      (did_nothing cache_facts backing_facts v seat))

  pub more_sets : (u v w : View cache_facts backing_facts) (d : Deed)
      → IsOfDue cache_facts backing_facts p low append_by u d
      → HasWrittenSets cache_facts backing_facts p low u v
      → Did cache_facts backing_facts (Some d) v w
      → HasWrittenSets cache_facts backing_facts p low u w
  more_sets u v w d is sets did = record {
    deeds = sets.deeds ++ d ∷ [];
    each = All-push (IsOfDue cache_facts backing_facts p low append_by u) sets.deeds d sets.each is;
    done = done_both cache_facts backing_facts sets.deeds (d ∷ []) u v w sets.done
        (done_one cache_facts backing_facts (Some d) v w did);
  }

  pub then_nothing : (u v w : View cache_facts backing_facts)
      → HasWrittenSets cache_facts backing_facts p low u v
      → HasDone cache_facts backing_facts [] v w
      → HasWrittenSets cache_facts backing_facts p low u w
  then_nothing u v w sets done = record {
    deeds = sets.deeds;
    each = sets.each;
    done = subst (λ (ds : List Deed). HasDone cache_facts backing_facts ds u w)
        (append-nil sets.deeds)
        (done_both cache_facts backing_facts sets.deeds [] u v w sets.done done);
  }

  -- a deed of a leaf that was due, by way of some deeds
  pub of_due : (by : Geometry → ℕ → Leaf → List ℕ → Deed) (slot number : ℕ) (bytes : List ℕ)
      (d : Deed) (u v : View cache_facts backing_facts) (h : Hand C B)
      → HasWrittenSets cache_facts backing_facts p low u v
      → Works cache_facts backing_facts p v h
      → (due : IsDueIn h (length p.run.start) low slot number)
      → (at : (i : ℕ) × HasLeafIn h i number)
      → BeginWithSet at.1.leaves.cache.geometry at.1.cached.leaf bytes
      → d ≡ by at.1.leaves.cache.geometry number at.1.cached.leaf bytes
      → IsOfDue cache_facts backing_facts p low by u d
  of_due by slot number bytes d u v h sets works due at set is =
      let same = same_leaf h at.0 slot number at.1 due.pending.own.at due.only in
      record {
        before = sets.deeds;
        at = v;
        went = sets.done;
        hand = h;
        works = works;
        slot = slot;
        number = number;
        due = due;
        bytes = bytes;
        set = subst (λ (g : Geometry). BeginWithSet g due.pending.own.at.cached.leaf bytes)
            same.geometry
            (subst (λ (l : Leaf). BeginWithSet at.1.leaves.cache.geometry l bytes) same.leaf set);
        is = is ∙ ap (λ (g : Geometry). by g number at.1.cached.leaf bytes) same.geometry
            ∙ ap (λ (l : Leaf). by due.pending.own.at.leaves.cache.geometry number l bytes)
            same.leaf;
      }

module _ {C B : Type 0} (cache_facts : C → DiskFacts) (backing_facts : B → DiskFacts) where
  -- The slots below one wait for no entry below `low`.
  pub record IsEmptiedTo (p : PartsView (CorePart C B)) (part count low slots slot : ℕ)
      (v : View cache_facts backing_facts) (a : Hand C B) (w : View cache_facts backing_facts)
      (h : Hand C B) : Type 0 where
    pub works : Works cache_facts backing_facts p w h
    pub leaves : LeafHand
    pub is : h.leaves ≡ Some leaves
    pub part_is : leaves.part ≡ part
    pub rest : h ≡ record a { leaves = h.leaves }
    pub many : length leaves.cache.slots ≡ slots
    pub come : FromEach (world cache_facts backing_facts w) (IsToCome low)
    pub promises : w.promises ≡ v.promises
    pub keeps : KeepsPlaces cache_facts backing_facts v w
    pub sets : HasWrittenSets cache_facts backing_facts p low v w
    pub clean : (j : ℕ) → j < slot
        → WaitsInSlot count (part - 6) low (slice_get leaves.cache.slots j)

  module _ (p : PartsView (CorePart C B)) (part count low slots : ℕ)
      (v : View cache_facts backing_facts) (a : Hand C B) where
    abbrev To : ℕ → View cache_facts backing_facts → Hand C B → Type 0
    To slot w h = IsEmptiedTo p part count low slots slot v a w h

    -- a leaf that is due in such a slot, in a hand that is the same
    pub due : (parts slot number : ℕ) (w : View cache_facts backing_facts) (h k : Hand C B)
        → To slot w h → k ≡ h → count + 6 ≡ parts
        → ((l : LeafHand) → h.leaves ≡ Some l → IsDueIn h (count + 6) low slot number)
        → IsDueIn k parts low slot number
    due parts slot number w h k to same all is = subst (λ z. IsDueIn z parts low slot number) (sym same)
        (subst (λ n. IsDueIn h n low slot number) all (is to.leaves to.is))

    -- it is left
    module _ (parts sectors slot number : ℕ) (why : Why) (w x y : View cache_facts backing_facts)
        (h k l : Hand C B) (to : To slot w h) (same : k ≡ h)
        (promised : HasDone cache_facts backing_facts [] w x)
        (is : IsDueIn k parts low slot number)
        (left : IsLeft cache_facts backing_facts why sectors parts number k l x y slot is.pending)
      where
        stays : l ≡ h
        stays = left.same ∙ same

        pub left_hand : l ≡ record a { leaves = l.leaves }
        left_hand = subst (λ (z : Hand C B). z ≡ record a { leaves = z.leaves }) (sym stays) to.rest

        pub left_part : HasPart l part
        left_part = record {
          hand = to.leaves;
          is = ap (λ (z : Hand C B). z.leaves) stays ∙ to.is;
          part_is = to.part_is;
        }

        nothing : HasDone cache_facts backing_facts [] x y
        nothing = done_one cache_facts backing_facts None x y left.did

        pub left_come : FromEach (world cache_facts backing_facts y) (IsToCome low)
        left_come = (law_known cache_facts backing_facts).come x y [] low nothing
            ((law_known cache_facts backing_facts).come w x [] low promised to.come)

        pub left_sets : HasWrittenSets cache_facts backing_facts p low v y
        left_sets = then_nothing cache_facts backing_facts p low v x y
            (then_nothing cache_facts backing_facts p low v w x to.sets promised) nothing

        pub left_in : IsLeftIn l (world cache_facts backing_facts y) sectors parts low
            (record { leaf = number; why = why })
        left_in = subst (λ z. IsLeftIn z (world cache_facts backing_facts y) sectors parts low
            (record { leaf = number; why = why }))
            (sym left.same) (record {
              slot = slot;
              pending = is.pending;
              below = is.below;
              cause = left.cause;
              told = left.told;
            })

        pub left_promises : y.promises ≡ x.promises
        left_promises = left.did.is.promises

    -- its set wasn't written
    module _ (slot number : ℕ) (e : StepError) (w x y : View cache_facts backing_facts)
        (h k l : Hand C B) (to : To slot w h) (same : k ≡ h)
        (promised : HasDone cache_facts backing_facts [] w x)
        (failed : HasFailedToAppend cache_facts backing_facts e number k l x y) where
      -- it took no more room than was promised
      pub failed_promises : y.promises ≤ x.promises
      failed_promises = go e failed
        where
          go : (e : StepError) → HasFailedToAppend cache_facts backing_facts e number k l x y
              → y.promises ≤ x.promises
          go (error.Fault device) (cause, lost) = let one = lost.did.is.promises in omega (arith, one)
          go (error.Halted device) (halt, did, rest) = let same = did.is.promises in
              omega (arith, same)
          go error.Memory (did, rest) = let same = did.is.promises in omega (arith, same)

      pub failed_part : kinds l ≡ kinds k → HasPart l part
      failed_part alike =
          let its = part_some l.leaves part (ap (λ (z : Kinds). z.leaves) alike
          ∙ ap (λ (z : Hand C B). part_of z.leaves) same ∙ ap part_of to.is
          ∙ ap Some to.part_is) in
          record { hand = its.0; is = its.1; part_is = its.2 }

      pub failed_come : FromEach (world cache_facts backing_facts y) (IsToCome low)
      failed_come = later (did_some e failed)
        where
          did_some : (e : StepError) → HasFailedToAppend cache_facts backing_facts e number k l x y
              → (ds : List Deed) × HasDone cache_facts backing_facts ds x y
          did_some (error.Fault device) (cause, lost) =
              let d = lost_by lost.at.leaves.cache.geometry number lost.at.cached.leaf lost.bytes in
              (d ∷ [], done_one cache_facts backing_facts (Some d) x y lost.did)
          did_some (error.Halted device) (halt, did, rest) =
              ([], done_one cache_facts backing_facts None x y did)
          did_some error.Memory (did, rest) =
              ([], done_one cache_facts backing_facts None x y did)

          later : (ds : List Deed) × HasDone cache_facts backing_facts ds x y
              → FromEach (world cache_facts backing_facts y) (IsToCome low)
          later (ds, done) = (law_known cache_facts backing_facts).come x y ds low done
              ((law_known cache_facts backing_facts).come w x [] low promised to.come)

      pub failed_sets : Works cache_facts backing_facts p x k
          → IsDueIn k (length p.run.start) low slot number → (e ≡ error.Memory → y.heard ≡ None)
          → HasFailed cache_facts backing_facts p low e v y
      failed_sets works is memory = go e memory failed
        where
          before : HasWrittenSets cache_facts backing_facts p low v x
          before = then_nothing cache_facts backing_facts p low v w x to.sets promised

          go : (e : StepError) → (e ≡ error.Memory → y.heard ≡ None)
              → HasFailedToAppend cache_facts backing_facts e number k l x y
              → HasFailed cache_facts backing_facts p low e v y
          go (error.Fault device) memory (cause, lost) =
              let d = lost_by lost.at.leaves.cache.geometry number lost.at.cached.leaf lost.bytes in (
                cause,
                record {
                  deeds = before.deeds;
                  each = before.each;
                  last = d;
                  lost = of_due cache_facts backing_facts p low lost_by slot number lost.bytes d v x
                      k before works is (lost.slot, lost.at) lost.set refl;
                  done = done_both cache_facts backing_facts before.deeds (d ∷ []) v x y before.done
                      (done_one cache_facts backing_facts (Some d) x y lost.did);
                },
              )
          go (error.Halted device) memory (halt, did, rest) = (
            halt,
            then_nothing cache_facts backing_facts p low v x y before
                (done_one cache_facts backing_facts None x y did),
          )
          go error.Memory memory (did, rest) = (
            memory refl,
            then_nothing cache_facts backing_facts p low v x y before
                (done_one cache_facts backing_facts None x y did),
          )

    pub begins : (l : LeafHand) → a.leaves ≡ Some l → l.part ≡ part → length l.cache.slots ≡ slots
        → Works cache_facts backing_facts p v a
        → FromEach (world cache_facts backing_facts v) (IsToCome low)
        → HasDone cache_facts backing_facts [] v v → To 0 v a
    begins l is part_is many works come nothing = record {
      works = works;
      leaves = l;
      is = is;
      part_is = part_is;
      rest = refl;
      many = many;
      come = come;
      promises = refl;
      keeps = keeps_nothing cache_facts backing_facts v v nothing;
      sets = no_sets cache_facts backing_facts p low v v nothing;
      clean = λ j few. absurd (omega (arith, few));
    }

    -- the slot waits for no such entry
    pub passes : (slot : ℕ) (w : View cache_facts backing_facts) (h : Hand C B) (to : To slot w h)
        → WaitsInSlot count (part - 6) low (slice_get to.leaves.cache.slots slot)
        → To (slot + 1) w h
    passes slot w h to waits = record {
      works = to.works;
      leaves = to.leaves;
      is = to.is;
      part_is = to.part_is;
      rest = to.rest;
      many = to.many;
      come = to.come;
      promises = to.promises;
      keeps = to.keeps;
      sets = to.sets;
      clean = λ j few. elim (cases_eq j slot) [
        | inl same ↦ subst (λ i. WaitsInSlot count (part - 6) low
            (slice_get to.leaves.cache.slots i)) (sym same) waits
        | inr other ↦ to.clean j (omega (arith, few, other))
      ];
    }

    -- the keys of its leaf went to the node
    pub empties : (slot number : ℕ) (w x y : View cache_facts backing_facts) (h k : Hand C B)
        → To slot w h → HasDone cache_facts backing_facts [] w x
        → (e : HasAppended cache_facts backing_facts number h k x y) → e.slot ≡ slot
        → Works cache_facts backing_facts p y k → k ≡ record h { leaves = k.leaves }
        → y.promises ≡ v.promises → Works cache_facts backing_facts p x h
        → IsDueIn h (length p.run.start) low slot number → KeepsPlaces cache_facts backing_facts x y
        → To (slot + 1) y k
    empties slot number w x y h k to promised e at works rest promises worked due keeps =
        let l = e.at.leaves in
        let same = one_some h.leaves l to.leaves e.at.is to.is in
        let c = record e.at.cached { leaf = e.leaf } in
        let here = slice_get_within l.cache.slots e.slot (Some e.at.cached) e.at.there in
        let d = append_by l.cache.geometry number e.at.cached.leaf e.bytes in
        record {
          works = works;
          leaves = record l {
            cache = record l.cache { slots = slice_set l.cache.slots e.slot (Some c) };
          };
          is = ap (λ (z : Hand C B). z.leaves) e.now;
          part_is = ap (λ (z : LeafHand). z.part) same ∙ to.part_is;
          rest = rest ∙ ap (λ (z : Hand C B). record z { leaves = k.leaves }) to.rest;
          many = set_length l.cache.slots e.slot (Some c)
              ∙ ap (λ (z : LeafHand). length z.cache.slots) same ∙ to.many;
          come = (law_known cache_facts backing_facts).come x y (d ∷ []) low
              (done_one cache_facts backing_facts (Some d) x y e.did)
              ((law_known cache_facts backing_facts).come w x [] low promised to.come);
          promises = promises;
          keeps = keeps_both cache_facts backing_facts v w y to.keeps
              (keeps_both cache_facts backing_facts w x y
              (keeps_nothing cache_facts backing_facts w x promised) keeps);
          sets =
              let before = then_nothing cache_facts backing_facts p low v w x to.sets promised in
              more_sets cache_facts backing_facts p low v x y d
              (of_due cache_facts backing_facts p low append_by slot number e.bytes d v x h before
              worked due (e.slot, e.at) e.set refl) before e.did;
          clean = λ j few. elim (cases_eq j e.slot) [
            | inl is ↦ subst (WaitsInSlot count (part - 6) low)
                (sym (ap (slice_get (slice_set l.cache.slots e.slot (Some c))) is
                ∙ set_same l.cache.slots e.slot (Some c) here))
                (waits_none count (part - 6) low c e.appended.pending.entries)
            | inr other ↦ subst (WaitsInSlot count (part - 6) low)
                (sym (set_other l.cache.slots e.slot j (Some c) other
                ∙ ap (λ (z : LeafHand). slice_get z.cache.slots j) same))
                (to.clean j (omega (arith, few, other, at)))
          ];
        }

    -- all slots wait for none, and so no leaf of the part does
    pub ends : (slot : ℕ) (w : View cache_facts backing_facts) (h : Hand C B) → To slot w h
        → slots ≤ slot → count ≡ length w.run.start - 6
        → FromEach (world cache_facts backing_facts w) (PartNeedsFrom count (part - 6) low)
    ends slot w h to all count_is =
        let parts_are = leaf_count cache_facts backing_facts w ∙ sym count_is in
        let leaves = subst (λ n. AreLeaves (n - 6) to.leaves.cache (world cache_facts backing_facts w))
        to.part_is (in_hand cache_facts backing_facts p w h to.leaves to.works to.is).1 in
        subst (λ n. FromEach (world cache_facts backing_facts w) (PartNeedsFrom n (part - 6) low))
        parts_are (law_told (world cache_facts backing_facts w) (part - 6) low to.leaves.cache leaves
        (subst (λ n. WaitsFrom n (part - 6) low to.leaves.cache) (sym parts_are) waits) to.come)
      where
        waits : WaitsFrom count (part - 6) low to.leaves.cache
        waits i c there own =
            let few = slice_get_within to.leaves.cache.slots i (Some c) there in
            let many = to.many in
            let each = subst (WaitsInSlot count (part - 6) low) there
            (to.clean i (omega (arith, few, many, all))) in
            each own
