-- The write of a new node, as a seat does it with the tree in hand.
use Rattle.std.proofs.Common.{◌≡◌, ℕ, ◌-◌, ◌*◌, ◌≤◌, true, false, List, length, None, refl, ◌∙◌}
use Rattle.bc_alloc.specs.declared.purpose.Purpose.TheVariants as list
use Rattle.bc_disk.specs.Disk.{DiskFacts}
use Rattle.bc_disk.specs.declared.geometry.Geometry.{Geometry}
use Rattle.bc_drafts.specs.Draft.{HasNoInner, HasNoLeaf}
use Rattle.bc_events.specs.Writes.{draft_leaf}
use Rattle.bc_events.specs.declared.event.Deed.{Deed}
use Rattle.bc_events.specs.declared.event.Deed.TheVariants as deed
use Rattle.bc_events.specs.declared.event.Failure.TheVariants as failure
use Rattle.bc_events.specs.declared.event.NewNode.{NewNode}
use Rattle.bc_events.specs.declared.event.Written.TheVariants as written
use Rattle.bc_facts.specs.Layout.{IsLayoutOf}
use Rattle.bc_facts.specs.Seen.{kind_of, seen_set}
use Rattle.bc_held.proofs.Keeping.{held_since, number_of, vacant_since}
use Rattle.bc_held.proofs.of_bc_hand.Knowing.{View, m}
use Rattle.bc_held.proofs.of_bc_place.Keeping.{opening_lasts, since_by}
use Rattle.bc_held.proofs.of_bc_place.Knowing.{before_since, few, may_each}
use Rattle.bc_held.specs.Held.{IsHeldFor, IsVacantIn, number_in}
use Rattle.bc_held.specs.bc_hand.Seats.{AtDeed, IsCoreSeat, MayDo, world}
use Rattle.bc_held.specs.bc_machine.World.{FromEach, IsCourseOf, IsOrigin, IsSpinePart, Origin, World, are_plain, replay, seen_from}
use Rattle.bc_held.specs.bc_machine.declared.part.CorePart.TheVariants as part
use Rattle.bc_held.specs.bc_machine.declared.part.SpinePart.{SpinePart}
use Rattle.bc_held.specs.bc_place.Place.{HasBefore}
use Rattle.bc_held.specs.declared.held.HeldBucket.{HeldBucket}
use Rattle.bc_key.specs.Words.{ptr_word}
use Rattle.bc_leaves.specs.Keys.{last_said}
use Rattle.bc_leaves.specs.Parts.{InRange}
use Rattle.bc_model.specs.Sector.{values_of}
use Rattle.bc_new_node.proofs.Behind.{no_inner_since, no_leaf_since}
use Rattle.bc_new_node.proofs.Starts.{may_lose_inner, may_lose_leaf, may_write_inner, may_write_leaf}
use Rattle.bc_new_node.specs.Kind.{IsDividedBy}
use Rattle.bc_node.specs.Writing.{HasSet}
use Rattle.bc_parts.specs.Seat.{Holds}
use Rattle.bc_seats.specs.Seats.{Since}
use Rattle.bc_set.specs.Records.{set_sectors}
use Rattle.bc_set.specs.SetBytes.{AreSetKeys}
use Rattle.bc_set.specs.declared.set.Set.{Set}

module _ {C B : Type 0} (cache_facts : C → DiskFacts) (backing_facts : B → DiskFacts)
    (v : View cache_facts backing_facts) (seat : IsCoreSeat cache_facts backing_facts v)
    (cached : are_plain cache_facts backing_facts v.run.start ≡ false) (unheard : v.heard ≡ None)
    (spine : Holds v.parts 0) (p : SpinePart)
    (on : IsSpinePart p (world cache_facts backing_facts v)) (before : ℕ)
    (first : FromEach (world cache_facts backing_facts v) (HasBefore before)) (b : HeldBucket)
    (mine : FromEach (world cache_facts backing_facts v) (IsHeldFor v.first b))
    (tree : b.purpose ≡ list.Tree)
    (vacant : FromEach (world cache_facts backing_facts v) (IsVacantIn b)) (g : Geometry)
    (divided : FromEach (world cache_facts backing_facts v) (IsDividedBy g)) (n : NewNode)
    (its_bucket : n.bucket ≡ b.bucket - before) (word : n.word ≡ ptr_word b.to) (s : Set)
    (sectors_are : n.sectors ≡ set_sectors g s) (bytes : List ℕ)
    (whole : length bytes ≡ 512 * g.node_sectors) (fits : set_sectors g s ≤ g.node_sectors)
    (number : s.seq ≡ p.next_seq) where
  divided_since : (x : World) → Since (m cache_facts backing_facts) v x → FromEach x (IsDividedBy g)
  divided_since x since = since_by cache_facts backing_facts (λ i. IsDividedBy g)
      (opening_lasts (λ o. IsLayoutOf g o.opening.machine.layout)) v x seat since divided

  module _ (d : Deed) (o : Origin) (x : World) (is : IsOrigin x o) (course : IsCourseOf o x.log)
      (at : AtDeed cache_facts backing_facts v d x (seen_from o x)) where
    mine_at : IsHeldFor v.first b o (replay o x.log)
    mine_at = held_since cache_facts backing_facts v x seat at.since b mine o is course

    vacant_at : IsVacantIn b o (replay o x.log)
    vacant_at = vacant_since cache_facts backing_facts v x spine at.since b vacant o is course

    divided_at : IsLayoutOf g o.opening.machine.layout
    divided_at = divided_since x at.since o is course

    bucket_at : n.bucket ≡ number_in b o
    bucket_at = its_bucket ∙ number_of before b o
        (before_since cache_facts backing_facts v before first x at.since o is course) mine_at.lies

    number_at : s.seq ≡ (replay o x.log).machine.next_seq
    number_at = number ∙ ((at.stand 0 (part.Spine p) spine (refl, on)).1 o is course).next_seq

  -- ---- a leaf

  module _ (set : HasSet g n.word s bytes) (proper : AreSetKeys (kind_of true) s.keys)
      (free : FromEach (world cache_facts backing_facts v) (HasNoLeaf n.slot))
      (within : (t : ℕ) → (InRange (draft_leaf n) t → ⊥) → last_said (seen_set g true s).keys t ≡ None)
    where
      pub may_leaf : MayDo cache_facts backing_facts v
          (deed.CacheWrite b.to.offset (written.Leaf n) (values_of bytes))
      may_leaf = may_each cache_facts backing_facts v cached
          (deed.CacheWrite b.to.offset (written.Leaf n) (values_of bytes)) (λ o x is course at.
          let d = deed.CacheWrite b.to.offset (written.Leaf n) (values_of bytes) in (
            may_write_leaf x o is course v.first (few cache_facts backing_facts v seat) b
                (mine_at d o x is course at) tree (vacant_at d o x is course at) g
                (divided_at d o x is course at) n (bucket_at d o x is course at) word s sectors_are bytes
                whole fits (number_at d o x is course at) (at.late unheard) set proper
                (no_leaf_since cache_facts backing_facts v spine x at.since n.slot free o is
                course) within,
            tt,
            tt,
          ))

      pub may_leaf_lost : MayDo cache_facts backing_facts v
          (deed.DeviceFault (failure.CacheWrite b.to.offset (written.Leaf n) (values_of bytes)))
      may_leaf_lost = may_each cache_facts backing_facts v cached
          (deed.DeviceFault (failure.CacheWrite b.to.offset (written.Leaf n) (values_of bytes)))
          (λ o x is course at.
          let d = deed.DeviceFault
          (failure.CacheWrite b.to.offset (written.Leaf n) (values_of bytes)) in (
            may_lose_leaf x o is course v.first (few cache_facts backing_facts v seat) b
                (mine_at d o x is course at) tree (vacant_at d o x is course at) g
                (divided_at d o x is course at) n (bucket_at d o x is course at) word s sectors_are bytes
                whole fits (number_at d o x is course at) (at.late unheard) set proper
                (no_leaf_since cache_facts backing_facts v spine x at.since n.slot free o is
                course) within,
            tt,
            tt,
          ))

  -- ---- an inner node

  module _ (set : HasSet g n.word s bytes) (proper : AreSetKeys (kind_of false) s.keys)
      (free : FromEach (world cache_facts backing_facts v) (HasNoInner n.slot)) where
    pub may_inner : MayDo cache_facts backing_facts v
        (deed.CacheWrite b.to.offset (written.Inner n) (values_of bytes))
    may_inner = may_each cache_facts backing_facts v cached
        (deed.CacheWrite b.to.offset (written.Inner n) (values_of bytes)) (λ o x is course at.
        let d = deed.CacheWrite b.to.offset (written.Inner n) (values_of bytes) in (
          may_write_inner x o is course v.first (few cache_facts backing_facts v seat) b
              (mine_at d o x is course at) tree (vacant_at d o x is course at) g
              (divided_at d o x is course at) n (bucket_at d o x is course at) word s sectors_are bytes
              whole fits (number_at d o x is course at) (at.late unheard) set proper
              (no_inner_since cache_facts backing_facts v spine x at.since n.slot free o is
              course),
          tt,
          tt,
        ))

    pub may_inner_lost : MayDo cache_facts backing_facts v
        (deed.DeviceFault (failure.CacheWrite b.to.offset (written.Inner n) (values_of bytes)))
    may_inner_lost = may_each cache_facts backing_facts v cached
        (deed.DeviceFault (failure.CacheWrite b.to.offset (written.Inner n) (values_of bytes)))
        (λ o x is course at.
        let d = deed.DeviceFault
        (failure.CacheWrite b.to.offset (written.Inner n) (values_of bytes)) in (
          may_lose_inner x o is course v.first (few cache_facts backing_facts v seat) b
              (mine_at d o x is course at) tree (vacant_at d o x is course at) g
              (divided_at d o x is course at) n (bucket_at d o x is course at) word s sectors_are bytes
              whole fits (number_at d o x is course at) (at.late unheard) set proper
              (no_inner_since cache_facts backing_facts v spine x at.since n.slot free o is
              course),
          tt,
          tt,
        ))
