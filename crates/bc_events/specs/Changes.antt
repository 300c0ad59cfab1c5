-- Changes of the tree, as the events name them.
use Rattle.std.specs.Prelude.{ℕ, Bool, false, List, [], ◌∷◌, ◌++◌, if◌then◌else◌, ◌&&◌, ◌||◌, nat_le, nat_lt, max}
use Rattle.bc_books.specs.Books.{Step}
use Rattle.bc_books.specs.Books as book
use Rattle.bc_books.specs.Index.{Index, put}
use Rattle.bc_leaves.specs.Parts.{Role, NoNode, Draft, Free, Leaving, Coming}
use Rattle.bc_leaves.specs.Parts as parts
use Rattle.bc_leaves.specs.After.{has}
use Rattle.bc_events.specs.declared.event.Change.{Change}

-- the buckets of these leaves, and of these inner nodes
abbrev pub leaf_buckets : parts.State → List ℕ → List ℕ
leaf_buckets st [] = []
leaf_buckets st (i ∷ is) = (st.leaves i).bucket ∷ leaf_buckets st is

abbrev pub inner_buckets : parts.State → List ℕ → List ℕ
inner_buckets st [] = []
inner_buckets st (i ∷ is) = (st.inner_nodes i).bucket ∷ inner_buckets st is

-- what the change takes away, and what it brings
abbrev pub buckets_gone : parts.State → Change → List ℕ
buckets_gone st c = leaf_buckets st c.gone.items ++ inner_buckets st c.old.items

abbrev pub buckets_come : parts.State → Change → List ℕ
buckets_come st c = leaf_buckets st c.come.items ++ inner_buckets st c.new.items

-- no crash image's tree has a node in these buckets once more, or from now on one may have
abbrev pub without : (ℕ → Bool) → List ℕ → ℕ → Bool
without unused buckets q = if has buckets q then false else unused q

abbrev pub with : (ℕ → Bool) → List ℕ → ℕ → Bool
with unused buckets q = has buckets q || unused q

-- ---- what an install is to the books

-- the greatest count of insertions of these leaves
abbrev pub greatest : (ℕ → ℕ) → List ℕ → ℕ
greatest changed [] = 0
greatest changed (i ∷ is) = max (changed i) (greatest changed is)

-- the leaf among these that has the sector, or the one that had it
abbrev pub leaf_among : (ℕ → parts.Leaf) → List ℕ → ℕ → ℕ → ℕ
leaf_among leaves [] old s = old
leaf_among leaves (i ∷ is) old s =
    if nat_le (leaves i).first s && nat_lt s (leaves i).end then i else leaf_among leaves is old s

-- new leaves have the counts of the ones that they replace, the greatest of them
abbrev pub changed_for : (ℕ → ℕ) → List ℕ → ℕ → ℕ → ℕ
changed_for changed [] n l = changed l
changed_for changed (i ∷ is) n l = put (changed_for changed is n) i n l

-- leaves come where leaves were; their sectors count as walked
abbrev pub regroup : Index → (ℕ → parts.Leaf) → Change → Step
regroup x leaves c = book.Regroup (λ s. leaf_among leaves c.come.items (x.leaf s) s)
    (changed_for x.changed c.come.items (greatest x.changed c.gone.items))
    (λ s. nat_le c.low s && nat_lt s c.high)
    (greatest x.changed c.gone.items)

-- these buckets become nodes, and those are no nodes any more
abbrev pub made : ℕ → List ℕ → List Step
made seat [] = []
made seat (b ∷ bs) = book.MakeNode seat b ∷ made seat bs

abbrev pub dropped : List ℕ → List Step
dropped [] = []
dropped (b ∷ bs) = book.DropNode b ∷ dropped bs
