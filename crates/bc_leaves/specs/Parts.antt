-- The parts above the records: leaves with their pending keys, inner nodes, and one change of the
-- tree under way.
use Rattle.std.specs.Prelude.{ℕ, suc, ◌<◌, ◌≤◌, Bool, true, false, List, [], ◌∷◌, ◌++◌, if◌then◌else◌, nat_le}
use Rattle.bc_key.specs.declared.key.Key.{Key}
use Rattle.bc_key.specs.Key.{start_of}
use Rattle.bc_meta.specs.Facts.{In}
use Rattle.bc_meta.specs.Tree.{Owner, set_keys}
use Rattle.bc_meta.specs.Records.{Node, Records, Stage, Nothing, Fixed, Ready, Sent, Safe}

-- a key that no set of its leaf holds yet, with the number of the entry that holds it
pub record Pending : Type 0 where
  pub number : ℕ
  pub key : Key

-- A slot is of no node, of a draft that nothing names, of a node of the tree, of one that a change
-- takes away, or of one that it brings.
pub data Role : Type 0 where
  NoNode Draft Free Leaving Coming : Role

-- a leaf of the sectors from the first to before the end
pub record Leaf : Type 0 where
  pub first : ℕ
  pub end : ℕ
  pub bucket : ℕ
  -- of the pointer to it
  pub word : ℕ
  pub role : Role
  -- it was read from the device, so this run puts no set behind its sets
  pub loaded : Bool
  -- the keys since its last set was written, newest first
  pub pending : List Pending

-- an inner node, whose children are leaves where its height is 0, and else inner nodes of one less
pub record InnerNode : Type 0 where
  pub first : ℕ
  pub end : ℕ
  pub bucket : ℕ
  pub word : ℕ
  pub height : ℕ
  pub role : Role
  pub loaded : Bool

-- Of a change: there is none; it is begun, so its new nodes are stable and its leaves are held; the
-- set of the inner node in a slot is written that makes it; that write failed, and no more comes of
-- the change; the entry with this number is sealed, which names its new root.
pub data Change : Type 0 where
  NoChange : Change
  Begun : Change
  BySet : (slot : ℕ) → Change
  Lost : Change
  ByRoot : (number : ℕ) → Change

pub record State : Type 0 where
  -- what bc_meta knows of the journal and the nodes
  pub records : Records
  -- by slot
  pub leaves : ℕ → Leaf
  pub inner_nodes : ℕ → InnerNode
  -- where the root's range ends
  pub end : ℕ
  pub change : Change
  -- by bucket, the keys of a leaf's set that is sent and not yet stable; no event asks for them
  pub sent : ℕ → List Pending

-- ---- pending keys

abbrev pub keys_of : List Pending → List Key
keys_of [] = []
keys_of (x ∷ xs) = x.key ∷ keys_of xs

-- those of entries after n, and the rest
abbrev pub beyond : ℕ → List Pending → List Pending
beyond n [] = []
beyond n (x ∷ xs) = if nat_le x.number n then [] else x ∷ beyond n xs

abbrev pub up_to : ℕ → List Pending → List Pending
up_to n [] = []
up_to n (x ∷ xs) = if nat_le x.number n then x ∷ xs else up_to n xs

abbrev pub AllFrom : ℕ → List Pending → Type 0
AllFrom n xs = (x : Pending) → In x xs → n ≤ x.number

abbrev pub AllUpTo : ℕ → List Pending → Type 0
AllUpTo n xs = (x : Pending) → In x xs → x.number ≤ n

-- the number of the entry that was sealed last, where the durable one has number n
abbrev pub sealed_number : Stage → ℕ → ℕ
sealed_number Nothing n = n
sealed_number Fixed n = suc n
sealed_number Ready n = suc n
sealed_number Sent n = suc n
sealed_number Safe n = suc n

-- and of the last one behind whose seal a barrier was made
abbrev pub ready_number : Stage → ℕ → ℕ
ready_number Nothing n = n
ready_number Fixed n = n
ready_number Ready n = suc n
ready_number Sent n = suc n
ready_number Safe n = suc n

-- the number of the entry that waiting keys will be in
abbrev pub next_number : Records → ℕ
next_number r = suc (sealed_number r.stage r.newest.number)

-- ---- leaves and inner nodes

abbrev pub InRange : Leaf → ℕ → Type 0
InRange x s = (x.first ≤ s) × (s < x.end)

abbrev pub IsWithin : Leaf → Key → Type 0
IsWithin x key = (x.first ≤ start_of key) × (key.end ≤ x.end)

-- what each is read with
abbrev pub leaf_owner : Leaf → Owner
leaf_owner x = record { word = x.word; leaf = true }

abbrev pub inner_owner : InnerNode → Owner
inner_owner x = record { word = x.word; leaf = false }

-- the node of a leaf, and of an inner node
abbrev pub node_of : State → ℕ → Node
node_of st i = st.records.nodes (st.leaves i).bucket

abbrev pub inner_node_of : State → ℕ → Node
inner_node_of st x = st.records.nodes (st.inner_nodes x).bucket

-- the keys of a leaf, newest first: pending, sent, and in its sets
abbrev pub keys_in_leaf : State → ℕ → List Key
keys_in_leaf st i = keys_of (st.leaves i).pending ++ (keys_of (st.sent (st.leaves i).bucket) ++ set_keys (node_of st i).sets)

-- of a node of the tree, and of one that is there after the change
abbrev pub IsLive : Role → Type 0
IsLive NoNode = ⊥
IsLive Draft = ⊥
IsLive Free = Unit {0}
IsLive Leaving = Unit {0}
IsLive Coming = Unit {0}

abbrev pub Stays : Role → Type 0
Stays NoNode = ⊥
Stays Draft = ⊥
Stays Free = Unit {0}
Stays Leaving = ⊥
Stays Coming = Unit {0}
