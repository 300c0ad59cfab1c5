-- A part with more slots than leaves for which keys wait has one that can go.
use Rattle.std.proofs.Common.{◌≡◌, ◌≢◌, inl, inr, ℕ, zero, suc, ◌-◌, ◌%◌, ◌<◌, ◌≤◌, Bool, true, false, ◌&&◌, if◌then◌else◌, List, [], ◌∷◌, Option, Some, None, length, get_or, refl, sym, ap, ◌∙◌, subst, arith}
use Rattle.std.specs.Prelude.{nat_lt, slice_get}
use Rattle.std.proofs.lemmas.Bool.{lt-ltb}
use Rattle.std.proofs.lemmas.Option.{slice_get-get_or}
use Rattle.bc_cache.specs.Slots.{NodeCache, NoneCanGo}
use Rattle.bc_cache.specs.declared.slots.Cached.{Cached}
use Rattle.bc_disk.specs.Disk.{DiskFacts}
use Rattle.bc_extent.specs.Extents.{IsInOrder}
use Rattle.bc_request.specs.bc_hand.Seats.{View, world}
use Rattle.bc_key.specs.Key.{pointer_of, start_of}
use Rattle.bc_key.specs.declared.key.Key.{Key}
use Rattle.bc_leaves.specs.Keys.{last_said}
use Rattle.bc_leaves.specs.Parts.{Pending, keys_of}
use Rattle.bc_leaves.specs.Parts as parts
use Rattle.bc_request.specs.bc_machine.Containers.{AreEntriesOf, AreLeavesOf}
use Rattle.bc_request.specs.bc_machine.Standing.{begun_stays}
use Rattle.bc_request.specs.bc_machine.World.{Begun, World, opening, replay}
use Rattle.bc_meta.specs.Facts.{In}
use Rattle.bc_meta.proofs.Lists.{by_le}
use Rattle.bc_meta.specs.Keys.{covers, ref_by}
use Rattle.bc_node.specs.declared.pending.Entries.{Entries}
use Rattle.bc_whole.specs.State.{Opening}
use Rattle.bc_refusals.specs.Made.{TouchNoLeaf}
use Rattle.bc_refusals.specs.Room.{HasRoom, LawBusy, LawNotBusy, LawRoom}
use Rattle.bc_refusals.proofs.Before.{over_before}
use Rattle.bc_refusals.proofs.Still.{law_stays, untouched_before}

-- ---- numbers

-- a list without one of its numbers is shorter by one, and has all others
take_out : (x : ℕ) (ws : List ℕ) → In x ws → (rest : List ℕ) × (length ws ≡ suc (length rest))
    × ((y : ℕ) → In y ws → y ≢ x → In y rest)
take_out x [] i = absurd i
take_out x (w ∷ ws) (inl is) = (
  ws,
  omega arith,
  λ y i other. elim i [ inl e ↦ absurd (other (e ∙ sym is)) | inr j ↦ j ],
)
take_out x (w ∷ ws) (inr i) = let r = take_out x ws i in (
  w ∷ r.0,
  (let long = r.1 in omega (arith, long)),
  λ y j other. elim j [ inl e ↦ inl e | inr k ↦ inr (r.2 y k other) ],
)

-- as many different numbers as a list has are all of it
few : (n : ℕ) (f : ℕ → ℕ) (ws : List ℕ) → ((i : ℕ) → i < n → In (f i) ws)
    → ((i j : ℕ) → i < n → j < n → f i ≡ f j → i ≡ j) → n ≤ length ws
few zero f ws are once = omega arith
few (suc n) f ws are once =
    let out = take_out (f n) ws (are n (omega arith)) in
    let less = few n f out.0 (λ i lt. out.2 (f i) (are i (omega (arith, lt)))
    (λ same. let e = once i n (omega (arith, lt)) (omega arith) same in omega (arith, lt, e)))
    (λ i j a b same. once i j (omega (arith, a)) (omega (arith, b)) same) in
    let long = out.1 in
    omega (arith, less, long)

-- ---- a slot

covers_there : (key : Key) (s : ℕ) → start_of key ≤ s → s < key.end → covers key s ≡ true
covers_there key s low high = by_le (start_of key) s (λ b. (b && nat_lt s key.end) ≡ true)
    (λ le. lt-ltb s key.end high) (λ lt. absurd (omega (arith, lt, low)))

some_said : (key : Key) (keys : List Key) (s : ℕ) → covers key s ≡ true
    → last_said (key ∷ keys) s ≡ None → ⊥
some_said key keys s there = go (covers key s) there
  where
    go : (b : Bool) → b ≡ true
        → (if b then Some (ref_by key s (pointer_of key)) else last_said keys s) ≡ None → ⊥
    go true is none = cc
    go false is none = cc

-- keys in order that say nothing are none
none_pending : (keys : List Key) → IsInOrder keys → ((s : ℕ) → last_said keys s ≡ None) → keys ≡ []
none_pending [] order none = refl
none_pending (key ∷ keys) order none =
    let range = order.0 0 key (omega arith) in
    let size = range.1 in
    let within = range.0 in
    absurd (some_said key keys (start_of key)
    (covers_there key (start_of key) (omega arith) (omega arith)) (none (start_of key)))

no_entries : (o : Option Entries) (ps : List Pending) → AreEntriesOf o ps → ps ≡ [] → o ≡ None
no_entries None ps are none = refl
no_entries (Some e) ps are none = absurd (are.0 none)

abbrev number_of : Option Cached → ℕ
number_of None = 0
number_of (Some cached) = cached.number

module _ (w : Opening) (st : parts.State) (count part : ℕ) (cache : NodeCache)
    (are : AreLeavesOf w st count part cache) (room : HasRoom st count part cache)
    (none : NoneCanGo cache.slots) where
  -- a leaf in a slot has keys that wait for it
  waits : (i : ℕ) (c : Cached) → slice_get cache.slots i ≡ Some (Some c) → In c.number room.waiting
  waits i c there =
      let leaf = are.leaves i c there in
      room.each c.number (are.rest i c there) (λ empty. none i (Some c) there (
        room.unheld i c there,
        none_pending c.leaf.pending leaf.lists.last_added.order
            (λ s. leaf.pending s ∙ ap (λ (ps : List Pending). last_said (keys_of ps) s) empty),
        no_entries c.leaf.entries (st.leaves c.number).pending leaf.entries empty,
      ))

  -- each slot has one
  occupied : (i : ℕ) (kept : Option Cached) → slice_get cache.slots i ≡ Some kept
      → (c : Cached) × (kept ≡ Some c)
  occupied i None there = absurd (none i None there tt)
  occupied i (Some c) there = (c, refl)

  no_room : ⊥
  no_room =
      let slots = cache.slots in
      let at : (i : ℕ) → i < length slots → slice_get slots i ≡ Some (get_or slots i None)
      = λ i lt. slice_get-get_or slots i None lt in
      let few_slots = few (length slots) (λ i. number_of (get_or slots i None)) room.waiting
      (λ i lt. let c = occupied i (get_or slots i None) (at i lt) in
      subst (λ (k : Option Cached). In (number_of k) room.waiting) (sym c.1)
      (waits i c.0 (at i lt ∙ ap Some c.1)))
      (λ i j a b same. let c = occupied i (get_or slots i None) (at i a) in
      let d = occupied j (get_or slots j None) (at j b) in
      room.once i j c.0 d.0 (at i a ∙ ap Some c.1) (at j b ∙ ap Some d.1)
      (sym (ap number_of c.1) ∙ same ∙ ap number_of d.1)) in
      let more = room.more in
      omega (arith, few_slots, more)

pub law_room : LawRoom
law_room w st count part cache are room none = no_room w st count part cache are room none

-- ---- of a part that was busy

module _ {C B : Type 0} (cache_facts : C → DiskFacts) (backing_facts : B → DiskFacts) where
  -- how many parts have leaves
  leaf_parts : (v : View cache_facts backing_facts)
      → (world cache_facts backing_facts v).begun.leaf_parts ≡ length v.run.start - 6
  leaf_parts v = ap (λ (b : Begun). b.leaf_parts)
      (begun_stays (opening cache_facts backing_facts v.run.start) v.seen)

  pub law_busy : LawBusy {C = C} {B = B} cache_facts backing_facts
  law_busy o g first count v w over h room =
      let now = over_before cache_facts backing_facts o g [] h.now w h.then over in
      let at = over_before cache_facts backing_facts o g [] h.at h.now h.did now in
      let n = length h.at.run.start - 6 in
      let st = (replay o (world cache_facts backing_facts h.at).log).machine.whole.parts in
      law_room o.opening.machine st n (h.range.number % n) h.leaves
      (subst (λ (m : ℕ). AreLeavesOf o.opening.machine st m (h.range.number % n) h.leaves)
      (leaf_parts h.at) (h.had.stood o at.origin at.course)) room h.so

  pub law_not_busy : LawNotBusy {C = C} {B = B} cache_facts backing_facts
  law_not_busy o g first count v w over off h was room as_begun =
      let now = over_before cache_facts backing_facts o g [] h.now w h.then over in
      let at = over_before cache_facts backing_facts o g [] h.at h.now h.did now in
      let n = length h.at.run.start - 6 in
      let x = world cache_facts backing_facts h.now in
      let off_now = untouched_before h.then.all x
      (subst (λ (y : World). TouchNoLeaf y.log) h.then.is off) in
      let off_at = untouched_before h.did.all (world cache_facts backing_facts h.at)
      (subst (λ (y : World). TouchNoLeaf y.log) h.did.is off_now) in
      law_busy o g first count v w over h (law_stays (world cache_facts backing_facts h.at) o
      at.origin at.course off_at n (h.range.number % n) was h.leaves room as_begun)
