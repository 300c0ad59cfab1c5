-- What a seat knows while it writes the new nodes of a plan.
use Rattle.std.specs.Prelude.{◌≡◌, ◌≢◌, ◌⊎◌, ℕ, ◌+◌, ◌-◌, ◌*◌, ◌^◌, ◌<◌, ◌++◌, true, false, List, [], ◌∷◌, Some, All, Contains, Vec, length, slice_get}
use Rattle.std.specs.declared.alloc.Global.{Global}
use Rattle.bc_alloc.specs.declared.purpose.Purpose.TheVariants as list
use Rattle.bc_disk.specs.Disk.{DiskFacts}
use Rattle.bc_disk.specs.declared.geometry.Geometry.{Geometry}
use Rattle.bc_new_node.specs.bc_drafts.Draft.{HasNoInner, HasNoLeaf, IsDraftInner, IsDraftLeaf}
use Rattle.bc_events.specs.Run.{State}
use Rattle.bc_facts.specs.Seen.{seen_set}
use Rattle.bc_inner.specs.Inner.{HasTaken, Inner, children_set}
use Rattle.bc_leaves.specs.Parts.{Draft, NoChange}
use Rattle.bc_leaves.specs.Parts as parts
use Rattle.bc_new_node.specs.Kind.{IsDividedBy, IsInnerOf, IsLeafOf, inner_node, leaf_node}
use Rattle.bc_new_node.specs.bc_hand.Seats.{View, world}
use Rattle.bc_new_node.specs.bc_hand.declared.error.StepError.{StepError}
use Rattle.bc_new_node.specs.bc_hand.declared.hand.Hand.{Hand}
use Rattle.bc_new_node.specs.bc_held.Held.{AreOther, IsHeldFor, IsVacantIn, number_in}
use Rattle.bc_new_node.specs.bc_held.declared.held.HeldBucket.{HeldBucket}
use Rattle.bc_new_node.specs.bc_machine.Containers.{Rests}
use Rattle.bc_new_node.specs.bc_machine.World.{FromEach, Origin}
use Rattle.bc_new_node.specs.bc_machine.declared.part.SpinePart.{SpinePart}
use Rattle.bc_new_nodes.specs.Asked.{ChildrenPoint, ComesIn, IsNodeFor}
use Rattle.bc_planned.specs.Nodes.{is_leaf, nodes_of, slot_of}
use Rattle.bc_new_nodes.specs.Wrote.{HaveWritten, IsCutBy}
use Rattle.bc_node.specs.Leaf.{IsAppended, Leaf, pending_set}
use Rattle.bc_plan.specs.declared.write.NewNode.{NewNode}
use Rattle.bc_set.specs.Records.{set_sectors}
use Rattle.bc_spine.specs.Exchange.{coming}
use Rattle.bc_spine.specs.Numbers.{HasNumber}
use Rattle.bc_spine.specs.declared.exchange.Exchange.{Exchange}
use Rattle.bc_tree.specs.Plan.{Fits}
use Rattle.bc_tree.specs.declared.plan.Plan.{Plan}

-- ---- which new nodes there may be

-- it is the bucket of one of the inner nodes among these
pub record IsBucketIn (nodes : List NewNode) (bs : List HeldBucket) (o : Origin) (x : ℕ) :
    Type 0 where
  pub at : ℕ
  pub node : NewNode
  pub inner : is_leaf node ≡ false
  pub its_node : slice_get nodes at ≡ Some node
  pub bucket : HeldBucket
  pub its_bucket : slice_get bs at ≡ Some bucket
  pub slot : number_in bucket o ≡ x

-- No change is under way, and each new node is a leaf that comes, or an inner node in one of these
-- buckets.
pub record HasOnlyIn (e : Exchange) (nodes : List NewNode) (bs : List HeldBucket) (o : Origin)
    (st : parts.State) : Type 0 where
  pub change : st.change ≡ NoChange
  pub leaves : (k : ℕ) → Rests (st.leaves k).role
      ⊎ (((st.leaves k).role ≡ Draft) × HasNumber (coming e) k)
  pub inner_nodes : (x : ℕ) → Rests (st.inner_nodes x).role
      ⊎ (((st.inner_nodes x).role ≡ Draft) × IsBucketIn nodes bs o x)

abbrev pub HasOnly : Exchange → List NewNode → List HeldBucket → Origin → State → Type 0
HasOnly e nodes bs o st = HasOnlyIn e nodes bs o st.machine.whole.parts

-- ---- nodes that differ

-- it is another node than each of these; and so is each of them than those behind it
abbrev pub Differs : NewNode → List NewNode → Type 0
Differs node [] = Unit {0}
Differs node (m ∷ nodes) = (node ≢ m) × Differs node nodes

abbrev pub AreOnce : List NewNode → Type 0
AreOnce [] = Unit {0}
AreOnce (node ∷ nodes) = Differs node nodes × AreOnce nodes

-- no leaf among these has its slot
abbrev pub SlotsDiffer : Plan → NewNode → List NewNode → Type 0
SlotsDiffer p node [] = Unit {0}
SlotsDiffer p node (m ∷ nodes) =
    (is_leaf m ≡ true → slot_of p m ≢ slot_of p node) × SlotsDiffer p node nodes

-- the plan brings it
abbrev pub Brings : Plan → NewNode → Type 0
Brings p node = ((leaf : Leaf) × IsLeafOf p node leaf) ⊎ ((n : Inner) × IsInnerOf p node n)

-- ---- the tree

-- The tree in hand, of which it is noted that it changes; so many numbers were used since.
abbrev pub counted : {C B : Type 0} → Hand C B → SpinePart → ℕ → Hand C B → Type 0
counted old spine used new = new ≡ record old {
  spine = Some (record spine { next_seq = spine.next_seq + used });
  cache = new.cache;
}

-- ---- room

-- each of them has room for the bytes of a node
abbrev pub AreRooms : Geometry → List (Vec ℕ Global) → Type 0
AreRooms g rooms = All (λ (room : Vec ℕ Global). length room.items ≡ 512 * g.node_sectors) rooms

module _ {C B : Type 0} (cache_facts : C → DiskFacts) (backing_facts : B → DiskFacts) where
  -- ---- what is to be written

  -- It goes to another bucket than each of those.
  abbrev pub GoesApart : HeldBucket → List HeldBucket → View cache_facts backing_facts → Type 0
  GoesApart b [] v = Unit {0}
  GoesApart b (a ∷ bs) v =
      FromEach (world cache_facts backing_facts v) (AreOther a b) × GoesApart b bs v

  pub record IsToWrite (before : ℕ) (g : Geometry) (sectors : ℕ) (p : Plan) (seq : ℕ) (node : NewNode)
      (b : HeldBucket) (v : View cache_facts backing_facts) : Type 0 where
    pub node_for : IsNodeFor g sectors p seq node b
    pub vacant : FromEach (world cache_facts backing_facts v) (IsVacantIn b)
    pub mine : FromEach (world cache_facts backing_facts v) (IsHeldFor v.first b)
    pub free : is_leaf node ≡ true
        → FromEach (world cache_facts backing_facts v) (HasNoLeaf (slot_of p node))
    pub no_inner : FromEach (world cache_facts backing_facts v) (HasNoInner (b.bucket - before))

  abbrev pub AreToWrite : ℕ → Geometry → ℕ → Plan → ℕ → List NewNode → List HeldBucket
      → View cache_facts backing_facts → Type 0
  AreToWrite before g sectors p seq [] [] v = Unit {0}
  AreToWrite before g sectors p seq [] (b ∷ bs) v = ⊥
  AreToWrite before g sectors p seq (node ∷ nodes) [] v = ⊥
  AreToWrite before g sectors p seq (node ∷ nodes) (b ∷ bs) v = IsToWrite before g sectors p seq node b v
      × Differs node nodes × SlotsDiffer p node nodes × GoesApart b bs v
      × AreToWrite before g sectors p (seq + 1) nodes bs v

  -- ---- what is written

  -- The leaf has its first set, with all that was pending, in the bucket.
  pub record HasLeafIn (before : ℕ) (g : Geometry) (p : Plan) (node : NewNode) (b : HeldBucket)
      (leaf : Leaf) (v : View cache_facts backing_facts) : Type 0 where
    pub old : Leaf
    pub comes : ComesIn p node old
    pub appended : IsAppended g old leaf
    pub none : old.taken ≡ 0
    pub at : old.ptr ≡ b.to
    pub draft : FromEach (world cache_facts backing_facts v)
        (IsDraftLeaf (leaf_node (slot_of p node) (b.bucket - before) g old)
        (seen_set g true (pending_set old)))

  -- so has the inner node, with its children
  pub record HasInnerIn (before : ℕ) (g : Geometry) (b : HeldBucket) (n : Inner)
      (v : View cache_facts backing_facts) : Type 0 where
    pub old : Inner
    pub taken : HasTaken (set_sectors g (children_set old)) old n
    pub at : old.ptr ≡ b.to
    pub draft : FromEach (world cache_facts backing_facts v)
        (IsDraftInner (inner_node (b.bucket - before) g old)
        (seen_set g false (children_set old)))

  pub record IsThere (before : ℕ) (g : Geometry) (p : Plan) (node : NewNode) (b : HeldBucket)
      (v : View cache_facts backing_facts) : Type 0 where
    pub brings : Brings p node
    pub purpose : b.purpose ≡ list.Tree
    pub leaf : (leaf : Leaf) → IsLeafOf p node leaf → HasLeafIn before g p node b leaf v
    pub inner : (n : Inner) → IsInnerOf p node n → HasInnerIn before g b n v

  abbrev pub AreThere : ℕ → Geometry → Plan → List NewNode → List HeldBucket
      → View cache_facts backing_facts → Type 0
  AreThere before g p [] [] v = Unit {0}
  AreThere before g p [] (b ∷ bs) v = ⊥
  AreThere before g p (node ∷ nodes) [] v = ⊥
  AreThere before g p (node ∷ nodes) (b ∷ bs) v =
      IsThere before g p node b v × AreThere before g p nodes bs v

  -- ---- all of them

  -- The tree is in hand, of which it is noted that it changes. Of each of these nodes it is known that
  -- it can be written to the bucket at its place, which the seat holds, and no others are new.
  pub record CanWriteEach (h : Hand C B) (sectors before : ℕ) (p : Plan) (nodes : List NewNode)
      (bs : List HeldBucket) (rooms : List (Vec ℕ Global)) (v : View cache_facts backing_facts) :
      Type 0 where
    pub spine : SpinePart
    pub in_hand : h.spine ≡ Some spine
    pub changing : spine.changing ≡ true
    pub fits : Fits spine.spine p
    pub numbered : spine.next_seq + length bs < 2 ^ 64
    pub as_many : length nodes ≡ length bs
    pub once : AreOnce nodes
    pub to_write : AreToWrite before spine.spine.geometry sectors p spine.next_seq nodes bs v
    pub held : (b : HeldBucket) → Contains bs b
        → FromEach (world cache_facts backing_facts v) (IsHeldFor v.first b)
    pub only : FromEach (world cache_facts backing_facts v) (HasOnly p.leaves nodes bs)
    pub divided : FromEach (world cache_facts backing_facts v) (IsDividedBy spine.spine.geometry)
    pub points : FromEach (world cache_facts backing_facts v) (ChildrenPoint spine.spine.geometry p)
    pub rooms_are : AreRooms spine.spine.geometry rooms
    pub rooms_many : length rooms ≡ length bs

  -- They are written, and so many of them numbers are used; the plan is the same but for that.
  pub record HaveDoneEach (before : ℕ) (spine : SpinePart) (nodes : List NewNode)
      (bs : List HeldBucket) (p q : Plan) (old new : Hand C B)
      (v w : View cache_facts backing_facts) : Type 0 where
    pub wrote : HaveWritten cache_facts backing_facts before spine.spine.geometry nodes bs p q v w
    pub hand : counted old spine (length bs) new
    pub fits : Fits spine.spine q
    pub leaves : q.leaves ≡ p.leaves
    pub nodes_are : nodes_of q ≡ nodes_of p
    pub there : AreThere before spine.spine.geometry q nodes bs w
    pub only : FromEach (world cache_facts backing_facts w) (HasOnly p.leaves nodes bs)
    pub divided : FromEach (world cache_facts backing_facts w) (IsDividedBy spine.spine.geometry)
    pub points : FromEach (world cache_facts backing_facts w) (ChildrenPoint spine.spine.geometry p)

  -- These were written, and then it came no further.
  pub record HaveStoppedAt (e : StepError) (before : ℕ) (nodes : List NewNode)
      (bs : List HeldBucket) (p q : Plan) (spine : SpinePart) (old new : Hand C B)
      (v w : View cache_facts backing_facts) : Type 0 where
    pub these : List NewNode
    pub more : List NewNode
    pub nodes_are : nodes ≡ these ++ more
    pub full : List HeldBucket
    pub rest : List HeldBucket
    pub buckets_are : bs ≡ full ++ rest
    pub between : View cache_facts backing_facts
    pub wrote : HaveWritten cache_facts backing_facts before spine.spine.geometry these full p q v
        between
    pub used : ℕ
    pub why : IsCutBy cache_facts backing_facts e before spine.spine.geometry more rest
        (length full) used q between w
    pub hand : counted old spine used new
