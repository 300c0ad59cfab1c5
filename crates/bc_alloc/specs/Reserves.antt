-- The four lists, and the buckets that were raised and aren't on one yet.
use Rattle.std.specs.Prelude.{◌≡◌, ℕ, ◌+◌, ◌-◌, ◌≤◌, ◌/◌, List, [], ◌∷◌, length, fold, min, max, sum_by, drop, slice_index_or, slice_set, if◌then◌else◌}
use Rattle.bc_disk.specs.declared.geometry.Geometry.{Geometry}
use Rattle.bc_disk.specs.Chain.{sets_in_chain}
use Rattle.bc_alloc.specs.declared.purpose.Purpose.{Purpose}
use Rattle.bc_alloc.specs.declared.purpose.Purpose.TheVariants as purposes
use Rattle.bc_alloc.specs.Reserve.{Reserve, no_reserve, has_room, free, appended, prepended, times}

-- what a `Reserves` is seen as
pub record Reserves : Type 0 where
  -- the buckets of the device
  pub count : ℕ
  -- the lists priorities, moving, tree and plain, in the order in which they are filled
  pub lists : List Reserve
  -- raised ones, which go to the lists once their generations are durable, the first one first
  pub raised : List ℕ

abbrev pub place_of : Purpose → ℕ
place_of purposes.Priorities = 0
place_of purposes.Moving = 1
place_of purposes.Tree = 2
place_of purposes.Plain = 3

abbrev pub list_of : Purpose → Reserves → Reserve
list_of p r = slice_index_or r.lists (place_of p) no_reserve

abbrev pub room_for : Geometry → Purpose → ℕ
room_for g purposes.Priorities = sets_in_chain g
room_for g purposes.Moving = 4
room_for g purposes.Tree = 8
room_for g purposes.Plain = min (max (g.nbuckets / 1024) 8) 1024

abbrev pub empty_list : Geometry → Purpose → Reserve
empty_list g p = record { room = room_for g p; buckets = [] }

-- before any bucket is on a list
abbrev pub empty : Geometry → Reserves
empty g =
    record {
      count = g.nbuckets;
      lists = empty_list g purposes.Priorities ∷ empty_list g purposes.Moving ∷ empty_list g purposes.Tree ∷ empty_list g purposes.Plain ∷ [];
      raised = [];
    }

-- how often a bucket stands on the lists and among the raised ones
abbrev pub times_listed : Reserves → ℕ → ℕ
times_listed r k = sum_by (λ l. times k l.buckets) r.lists + times k r.raised

-- there are four lists, none longer than its room, and each bucket of the device stands on one of
-- them or among the raised ones, once, or nowhere
pub record IsInOrder (r : Reserves) : Type 0 where
  pub four : length r.lists ≡ 4
  pub short : (i : ℕ) → length (slice_index_or r.lists i no_reserve).buckets ≤ (slice_index_or r.lists i no_reserve).room
  pub once : (k : ℕ) → times_listed r k ≤ 1
  pub below : (k : ℕ) → r.count ≤ k → times_listed r k ≡ 0

abbrev pub plain_unless_empty : List ℕ → Purpose → Purpose
plain_unless_empty [] p = p
plain_unless_empty (k ∷ ks) p = purposes.Plain

-- the list from which a bucket is taken
abbrev pub serving : Purpose → Reserves → Purpose
serving p r = plain_unless_empty (list_of purposes.Plain r).buckets p

-- one list has become another
abbrev pub with_list : Purpose → List ℕ → Reserves → Reserves
with_list p ks r = record r { lists = slice_set r.lists (place_of p) (record (list_of p r) { buckets = ks }) }

-- the first bucket of a list was taken, and nothing else has changed
pub record TakesFirst (p : Purpose) (k : ℕ) (old new : Reserves) : Type 0 where
  pub first : (list_of p old).buckets ≡ k ∷ (list_of p new).buckets
  pub others : new ≡ with_list p (list_of p new).buckets old

-- a bucket goes to the end of the first list that has room, or nowhere
abbrev pub stored : ℕ → List Reserve → List Reserve
stored k [] = []
stored k (l ∷ ls) = if has_room l then appended k l ∷ ls else l ∷ stored k ls

abbrev pub stored_all : List ℕ → List Reserve → List Reserve
stored_all ks ls = fold (λ (ls : List Reserve) k. stored k ls) ls ks

-- a bucket goes to the end of the list priorities, which is the first, or nowhere
abbrev pub returned : ℕ → List Reserve → List Reserve
returned k [] = []
returned k (l ∷ ls) = (if has_room l then appended k l else l) ∷ ls

abbrev pub returned_all : List ℕ → List Reserve → List Reserve
returned_all ks ls = fold (λ (ls : List Reserve) k. returned k ls) ls ks

-- a bucket goes to the front of the list priorities, or nowhere
abbrev pub put_back : ℕ → List Reserve → List Reserve
put_back k [] = []
put_back k (l ∷ ls) = (if has_room l then prepended k l else l) ∷ ls

-- how many more buckets the lists would take, once they have the raised ones
abbrev pub wanted : Reserves → ℕ
wanted r = sum_by (λ l. free l) r.lists - length r.raised

-- the buckets that were raised from one state to the other
abbrev pub newly_raised : Reserves → Reserves → List ℕ
newly_raised old new = drop (length old.raised) new.raised
