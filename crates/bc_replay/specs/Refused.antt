-- Which pointers point where they may not, and which of them is the first: those of the nodes' keys come before those of keys of data, and of
-- a key the pointers in their order.
use Rattle.std.specs.Prelude.{◌≡◌, ◌⊎◌, ℕ, ◌<◌, ◌≤◌, ◌^◌, Bool, true, false, List, [], ◌∷◌, All, Option, MatchOption}
use Rattle.bc_disk.specs.declared.geometry.Geometry.{Geometry}
use Rattle.bc_image.specs.Pointers.{LiesInData}
use Rattle.bc_image.specs.Sound.{IsDataKey, IsNodeKey}
use Rattle.bc_key.specs.Key.{ptr_at}
use Rattle.bc_key.specs.Words.{ptr_word}
use Rattle.bc_key.specs.declared.key.Key.{Key}
use Rattle.bc_key.specs.declared.ptr.Ptr.{Ptr}
use Rattle.bc_walk.specs.Rule.{Rule}
use Rattle.bc_walk.specs.declared.visit.Visit.{Visit}
use Rattle.bc_walk.specs.declared.visit.Visit.TheVariants as visits

-- the first pointer of a key that may not be so, as its word
pub record IsFirstPtr (May : Ptr → Type 0) (key : Key) (word : ℕ) : Type 0 where
  pub place : ℕ
  pub within : place < key.count
  pub before : (i : ℕ) → i < place → May (ptr_at key i)
  pub refused : ¬ (May (ptr_at key place))
  pub is : word ≡ ptr_word (ptr_at key place)

-- ---- the keys of nodes

-- the key of the root ends behind the last sector that there may be
abbrev pub Ends : Bool → Key → Type 0
Ends true key = key.end ≡ 2 ^ 40
Ends false key = Unit {0}

-- the key's size is a node's, and a node lies whole in a data bucket by the pointer
pub record MayBeNode (g : Geometry) (root : Bool) (key : Key) (ptr : Ptr) : Type 0 where
  pub size : key.size ≡ g.node_sectors
  pub end : Ends root key
  pub lies : LiesInData g ptr key.size

-- a key without pointers counts as one with a pointer of word 0
abbrev pub IsNodeWord : Geometry → Bool → Key → ℕ → Type 0
IsNodeWord g root key word = ((key.count ≡ 0) × (word ≡ 0)) ⊎ IsFirstPtr (MayBeNode g root key) key word

-- the key of a node that may be read
pub record MayBeRead (g : Geometry) (root : Bool) (key : Key) : Type 0 where
  pub some : 0 < key.count
  pub ptrs : (i : ℕ) → i < key.count → MayBeNode g root key (ptr_at key i)

-- A walk read nodes at keys that nodes have, and passed by no others than those that may not be read. The first key may be the root's.
abbrev pub TellTrue : Geometry → Bool → List Visit → Type 0
TellTrue g root [] = Unit {0}
TellTrue g root (visits.Met level from key ∷ seen) = IsNodeKey g key × TellTrue g false seen
TellTrue g root (visits.Again key ∷ seen) = IsNodeKey g key × TellTrue g false seen
TellTrue g root (visits.Barred key ∷ seen) = ¬ (MayBeRead g root key) × TellTrue g false seen

-- of the nodes that a walk didn't read since their keys may not be so, the first, as the word of its key's first refused pointer
abbrev pub IsFirstNode : Geometry → Bool → List Visit → ℕ → Type 0
IsFirstNode g root [] word = ⊥
IsFirstNode g root (visits.Met level from key ∷ seen) word = IsFirstNode g false seen word
IsFirstNode g root (visits.Again key ∷ seen) word = IsFirstNode g false seen word
IsFirstNode g root (visits.Barred key ∷ seen) word = IsNodeWord g root key word

-- the walk read a node at each key, but where it had read it before
abbrev pub NoneBarred : List Visit → Type 0
NoneBarred [] = Unit {0}
NoneBarred (visits.Met level from key ∷ seen) = NoneBarred seen
NoneBarred (visits.Again key ∷ seen) = NoneBarred seen
NoneBarred (visits.Barred key ∷ seen) = ⊥

-- ---- the keys of data

-- the key ends on the backing device, and its sectors lie whole in a data bucket by the pointer
pub record MayBeData (r : Rule) (key : Key) (ptr : Ptr) : Type 0 where
  pub end : key.end ≤ r.size
  pub lies : LiesInData r.geometry ptr key.size

abbrev pub IsDataWord : Rule → Key → ℕ → Type 0
IsDataWord r key word = IsFirstPtr (MayBeData r key) key word

abbrev pub AreData : Rule → List Key → Type 0
AreData r keys = All (IsDataKey r.geometry r.size) keys

-- the first key of which a pointer is refused, as the word of the first such
abbrev pub IsFirstData : Rule → List Key → ℕ → Type 0
IsFirstData r [] word = ⊥
IsFirstData r (key ∷ keys) word = IsDataWord r key word ⊎ (IsDataKey r.geometry r.size key × IsFirstData r keys word)

-- the word that is kept while keys come: that of the first refused pointer so far
abbrev pub KeepsWord : Rule → List Key → Option ℕ → Type 0
KeepsWord r keys word = MatchOption word (AreData r keys) (IsFirstData r keys)

-- ---- all of them

pub record MayPoint (r : Rule) (seen : List Visit) (keys : List Key) : Type 0 where
  pub nodes : NoneBarred seen
  pub data_keys : AreData r keys

abbrev pub IsFirstPointer : Rule → List Visit → List Key → ℕ → Type 0
IsFirstPointer r seen keys word = IsFirstNode r.geometry true seen word ⊎ (NoneBarred seen × IsFirstData r keys word)
