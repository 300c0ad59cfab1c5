-- The children of an inner node, in the order of their ends. Of the keys of its sets, set after set, a later one takes the place of the
-- earlier one with its end, and one without pointers takes that one away.
use Rattle.std.specs.Prelude.{ℕ, Bool, List, [], ◌∷◌, Option, Some, None, nat_lt, not, ◌==◌, if◌then◌else◌}
use Rattle.std.specs.Option.{option_or}
use Rattle.bc_key.specs.declared.key.Key.{Key}

-- it has no pointer
abbrev pub is_bare : Key → Bool
is_bare key = not (nat_lt 0 key.count)

-- the child in front of others, unless it only takes one away
abbrev pub child_before : Key → List Key → List Key
child_before key children = if is_bare key then children else key ∷ children

abbrev pub with_child : Key → List Key → List Key
with_child key [] = child_before key []
with_child key (child ∷ children) =
    if nat_lt key.end child.end then child_before key (child ∷ children)
    else if key.end == child.end then child_before key children
    else child ∷ with_child key children

abbrev pub with_children : List Key → List Key → List Key
with_children [] children = children
with_children (key ∷ keys) children = with_children keys (with_child key children)

abbrev pub children_of : List Key → List Key
children_of keys = with_children keys []

-- ---- what that comes to

-- the last key of a list with this end
abbrev pub last_ending : List Key → ℕ → Option Key
last_ending [] end = None
last_ending (key ∷ keys) end = option_or (last_ending keys end) (if key.end == end then Some key else None)

-- the key, where it has a pointer
abbrev pub unless_bare : Option Key → Option Key
unless_bare None = None
unless_bare (Some key) = if is_bare key then None else Some key
