-- Children of an inner node, of which some give way to others.
use Rattle.std.specs.Prelude.{◌≡◌, ℕ, ◌+◌, ◌-◌, ◌<◌, ◌≤◌, List, [], ◌∷◌, ◌++◌, length, take, drop, slice_index_or, All, AllPairs}
use Rattle.bc_key.specs.declared.key.Key.{Key}

-- the one child ends before the other
abbrev pub EndsBefore : Key → Key → Type 0
EndsBefore a b = a.end < b.end

-- children in the order of their ends
abbrev pub AreByEnd : List Key → Type 0
AreByEnd children = AllPairs EndsBefore children

-- the children with others in the place of some
abbrev pub children_after : List Key → ℕ → ℕ → List Key → List Key
children_after children at gone come = take at children ++ come ++ drop (at + gone) children

-- a child can be found by the key: it has a pointer
abbrev pub HasPointer : Key → Type 0
HasPointer key = 0 < key.count

-- the last of these ends where the child does that is the last to go
pub record EndsAlike (children : List Key) (at gone : ℕ) (come : List Key) : Type 0 where
  pub before : List Key
  pub last : Key
  pub are : come ≡ before ++ last ∷ []
  pub ends : (d : Key) → last.end ≡ (slice_index_or children (at + gone - 1) d).end

-- some children can give way to others by one more set: the others have the same sectors
pub record CanGiveWay (children : List Key) (at gone : ℕ) (come : List Key) : Type 0 where
  pub some : 0 < gone
  pub within : at + gone ≤ length children
  pub order : AreByEnd children
  pub after : AreByEnd (children_after children at gone come)
  pub live : All HasPointer come
  pub ends : EndsAlike children at gone come
  -- where several go, one comes that ends behind all of them but the last
  pub behind : All (λ child. All (EndsBefore child) come) (take (gone - 1) (drop at children))

-- the keys, without pointers, take these children away
abbrev pub TakeAway : List Key → List Key → Type 0
TakeAway [] [] = Unit {0}
TakeAway [] (key ∷ keys) = ⊥
TakeAway (child ∷ children) [] = ⊥
TakeAway (child ∷ children) (key ∷ keys) =
    (key.count ≡ 0) × (key.end ≡ child.end) × TakeAway children keys
