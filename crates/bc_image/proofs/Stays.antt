-- What is read of a cache device rests on its journal, the chain's buckets and the nodes alone.
use Rattle.std.proofs.Common.{◌≡◌, ℕ, zero, suc, ◌+◌, List, [], ◌∷◌, ◌++◌, subst, ◌∙◌, arith, length-append}
use Rattle.std.specs.Prelude.{All}
use Rattle.std.proofs.lemmas.List.{get_or_append_left}
use Rattle.std.proofs.lemmas.List.Elements.{All-head, All-tail}
use Rattle.bc_model.specs.Sector.{Image}
use Rattle.bc_disk.specs.declared.geometry.Geometry.{Geometry}
use Rattle.bc_key.specs.declared.key.Key.{Key}
use Rattle.bc_key.specs.Words.{ptr_word}
use Rattle.bc_record.specs.Sectors.{AgreeOn}
use Rattle.bc_set.specs.declared.set.Set.{Set}
use Rattle.bc_set.proofs.NodeSets.{node_stays}
use Rattle.bc_jset.specs.Entries.{FoundEntry, AreEntries, bucket_start}
use Rattle.bc_jset.proofs.Entries.{entries_stay, stay_newest}
use Rattle.bc_prio.proofs.Found.{chain_stays}
use Rattle.bc_image.specs.Children.{children_of}
use Rattle.bc_image.specs.Tree.{Node, node_of, kind_at, set_keys, AreSetsAt, AreWalks, IsWalk}
use Rattle.bc_image.specs.Reading.{Reading, IsReading}
use Rattle.bc_image.specs.Rests.{SameNode, SameRest}

pub all_left : {A : Type 0} → (P : A → Type 0) (xs ys : List A) → All P (xs ++ ys) → All P xs
all_left P xs ys all k d inside = subst P (get_or_append_left xs ys d k inside) (all k d (omega (arith, length-append xs ys, inside)))

pub all_right : {A : Type 0} → (P : A → Type 0) (xs ys : List A) → All P (xs ++ ys) → All P ys
all_right P [] ys all = all
all_right P (x ∷ xs) ys all = all_right P xs ys (All-tail P x (xs ++ ys) all)

module _ (g : Geometry) (a b : Image) where
  sets_stay : (level from : ℕ) (key : Key) (sets : List Set) → SameNode g a b (node_of level from key sets) → AreSetsAt g a level key sets → AreSetsAt g b level key sets
  sets_stay level from key sets same p = record {
    ptr = p.ptr;
    points = p.points;
    stand = node_stays g (ptr_word p.ptr) (kind_at level) a b (p.ptr.offset + g.node_sectors) p.ptr.offset sets (same p.ptr p.points) p.stand;
    some = p.some;
  }

  walks_stay : (x y : ℕ → Key → List Node → Type 0) → ((from : ℕ) (key : Key) (ns : List Node) → All (SameNode g a b) ns → x from key ns → y from key ns)
      → (from : ℕ) (children : List Key) (ns : List Node) → All (SameNode g a b) ns → AreWalks x from children ns → AreWalks y from children ns
  walks_stay x y stay from [] ns same p = p
  walks_stay x y stay from (child ∷ children) ns same p =
      let parts : All (SameNode g a b) (p.0 ++ p.1) = subst (λ (xs : List Node). All (SameNode g a b) xs) p.4 same in (
        p.0,
        p.1,
        stay from child p.0 (all_left (SameNode g a b) p.0 p.1 parts) p.2,
        walks_stay x y stay child.end children p.1 (all_right (SameNode g a b) p.0 p.1 parts) p.3,
        p.4,
      )

  pub walk_stays : (level from : ℕ) (key : Key) (ns : List Node) → All (SameNode g a b) ns → IsWalk g a level from key ns → IsWalk g b level from key ns
  walk_stays zero from key ns same p =
      let here : All (SameNode g a b) (node_of zero from key p.0 ∷ []) = subst (λ (xs : List Node). All (SameNode g a b) xs) p.2 same in
      (p.0, sets_stay zero from key p.0 (All-head (SameNode g a b) (node_of zero from key p.0) [] here) p.1, p.2)
  walk_stays (suc level) from key ns same p =
      let parts : All (SameNode g a b) (node_of (suc level) from key p.0 ∷ p.1) = subst (λ (xs : List Node). All (SameNode g a b) xs) p.4 same in (
        p.0,
        p.1,
        sets_stay (suc level) from key p.0 (All-head (SameNode g a b) (node_of (suc level) from key p.0) p.1 parts) p.2,
        walks_stay (IsWalk g a level) (IsWalk g b level) (walk_stays level) from (children_of (set_keys p.0)) p.1 (All-tail (SameNode g a b) (node_of (suc level) from key p.0) p.1 parts) p.3,
        p.4,
      )

  -- other entries, and the rest as it was
  pub reading_with : (r : Reading) (entries : List FoundEntry) → (e : AreEntries g b entries) → e.newest ≡ r.newest → IsReading g a r → SameRest g a b r → IsReading g b (record r { entries = entries })
  reading_with r entries e newest p same = record {
    entries = e;
    newest = newest;
    gens = chain_stays g a b r.newest.item.prio r.gens p.gens same.gens;
    nodes = walk_stays r.newest.item.level 0 r.newest.item.root r.nodes same.nodes p.nodes;
  }

  pub reading_stays : (r : Reading) → IsReading g a r → AgreeOn a b (bucket_start g 0) (bucket_start g g.journal) → SameRest g a b r → IsReading g b r
  reading_stays r p journal same = record {
    entries = entries_stay g a b r.entries p.entries journal;
    newest = stay_newest g a b r.entries p.entries journal ∙ p.newest;
    gens = chain_stays g a b r.newest.item.prio r.gens p.gens same.gens;
    nodes = walk_stays r.newest.item.level 0 r.newest.item.root r.nodes same.nodes p.nodes;
  }
