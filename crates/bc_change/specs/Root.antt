-- An entry that a seat seals with a new root, by which a planned change of the tree is made.
use Rattle.std.specs.Prelude.{◌≡◌, ℕ, ◌+◌, ◌-◌, ◌%◌, ◌≤◌, true, Contains, IfSome, None, Option, Some, Vec, slice_get}
use Rattle.std.specs.declared.alloc.Global.{Global}
use Rattle.bc_cache.specs.declared.slots.Cached.{Cached}
use Rattle.bc_disk.specs.Disk.{DiskFacts}
use Rattle.bc_disk.specs.declared.disk.Device.{Device}
use Rattle.bc_disk.specs.declared.geometry.Geometry.{Geometry}
use Rattle.bc_events.specs.Run as core
use Rattle.bc_events.specs.declared.event.Change.{Change}
use Rattle.bc_events.specs.declared.event.Deed.TheVariants as deed
use Rattle.bc_facts.specs.Seen.{bucket_of, entry_rest, word_of}
use Rattle.bc_entry.specs.bc_hand.Seats.{Did, View}
use Rattle.bc_entry.specs.bc_hand.declared.error.StepError.{StepError}
use Rattle.bc_entry.specs.bc_hand.declared.error.StepError.TheVariants as error
use Rattle.bc_entry.specs.bc_hand.declared.hand.Hand.{Hand}
use Rattle.bc_entry.specs.bc_hand.declared.hand.LeafHand.{LeafHand}
use Rattle.bc_inner.specs.Inner.{Inner}
use Rattle.bc_journal.specs.Journal.{Journal}
use Rattle.bc_journal.specs.Sealed.{Sealed}
use Rattle.bc_journal.specs.declared.heads.Heads.{Heads}
use Rattle.bc_key.specs.Words.{ptr_word}
use Rattle.bc_entry.specs.bc_machine.Containers.{inner_slot}
use Rattle.bc_entry.specs.bc_machine.World.{FromEach, Origin, World}
use Rattle.bc_entry.specs.bc_machine.declared.part.SpinePart.{SpinePart}
use Rattle.bc_node.specs.declared.pending.Entries.{Entries}
use Rattle.bc_spine.specs.Exchange.{going}
use Rattle.bc_spine.specs.declared.leaf.LeafRange.{LeafRange}
use Rattle.bc_tree.specs.LastKeys.{LeafKeys, StandIn}
use Rattle.bc_tree.specs.Plan.{Fits}
use Rattle.bc_tree.specs.declared.plan.Plan.{Plan}
use Rattle.bc_entry.specs.Seal.{CanSeal, begun_by}
use Rattle.bc_change.specs.Goes.{BringsRoot, IsChangeBy, numbers}
use Rattle.bc_change.specs.Ready.{HasBoth, IsReadyFor}

-- ---- what is in hand

-- A leaf that goes is in the part in hand, held in its slot; all that is pending of it is durable;
-- and these are its last keys.
pub record IsGoing (l : LeafHand) (parts : ℕ) (j : Journal) (keys : LeafKeys) (range : LeafRange) :
    Type 0 where
  pub slot : ℕ
  pub cached : Cached
  pub there : slice_get l.cache.slots slot ≡ Some (Some cached)
  pub number_is : cached.number ≡ range.number
  pub held : cached.held ≡ true
  pub its_part : l.part ≡ 6 + range.number % (parts - 6)
  pub keys_are : keys range.number ≡ cached.leaf.keys
  pub durable : IfSome cached.leaf.entries (λ (e : Entries). e.last ≤ j.durable.seq)

-- The tree is in hand, of which it is noted that it changes, with the leaves that go and the
-- journal; and the plan fits it.
pub record HasInHand {C B : Type 0} (h : Hand C B) (parts : ℕ) (plan : Plan) (keys : LeafKeys) :
    Type 0 where
  pub spine : SpinePart
  pub is_spine : h.spine ≡ Some spine
  pub changing : spine.changing ≡ true
  pub fits : Fits spine.spine plan
  pub both : HasBoth plan
  pub leaves : LeafHand
  pub are_leaves : h.leaves ≡ Some leaves
  pub journal : Journal
  pub is_journal : h.journal ≡ Some journal
  pub gone : (range : LeafRange) → Contains (going spine.spine.leaves plan.leaves) range
      → IsGoing leaves parts journal keys range
  pub same : StandIn spine.spine.leaves keys plan

-- ---- the entry

-- It names this inner node as the root.
pub record NamesNext (g : Geometry) (heads : Heads) (root : Inner) (slot : ℕ) (o : Origin)
    (st : core.State) : Type 0 where
  pub slot_is : inner_slot o.opening.machine root ≡ slot
  pub bucket : slot ≡ bucket_of g heads.root
  pub word : ptr_word root.ptr ≡ word_of heads.root
  pub level : root.level ≡ heads.level

-- A seat may seal it: it names the priorities that the one before names, the plan moves the nodes
-- that change up to this root, their new ones are ready, and the change is what it makes of the tree.
pub record MaySealRoot {C B : Type 0} (h : Hand C B) (parts i : ℕ) (plan : Plan) (heads : Heads)
    (slot : ℕ) (c : Change) (x : World) : Type 0 where
  pub keys : LeafKeys
  pub can : HasInHand h parts plan keys
  pub root : Inner
  pub brings : BringsRoot can.spine.spine plan root
  pub seals : CanSeal can.journal
  pub prio : heads.prio ≡ can.journal.heads.prio
  pub names : FromEach x (NamesNext can.journal.ring.geometry heads root slot)
  -- the leaves that go are known outright, since their part has to be in hand
  pub gone : c.gone.items ≡ numbers (going can.spine.spine.leaves plan.leaves)
  pub change : FromEach x (λ o st. IsChangeBy o.opening.machine can.spine.spine plan c)
  pub ready : FromEach x (IsReadyFor i plan)

-- ---- why not

-- Where there was no memory, the seat had heard of no halt: a halt is never taken for want of
-- memory, behind which a step may be tried again.
abbrev pub IsUnheard : StepError → Option Device → Type 0
IsUnheard (error.Fault device) heard = Unit {0}
IsUnheard (error.Halted device) heard = Unit {0}
IsUnheard error.Memory heard = heard ≡ None

-- ---- the deed

module _ {C B : Type 0} (cache_facts : C → DiskFacts) (backing_facts : B → DiskFacts) where
  -- the seat sealed this entry, which makes the change
  pub record HasSealedRoot (j : Journal) (s : Sealed) (slot : ℕ) (c : Change)
      (v w : View cache_facts backing_facts) : Type 0 where
    pub rest : Vec ℕ Global
    pub rest_is : rest.items ≡ entry_rest s.entry
    pub did : Did cache_facts backing_facts (Some (deed.Seal s.entry.last_seq (begun_by j) rest
        (Some (record { inner = slot; change = c })) None)) v w
