-- A further set of a node.
use Rattle.std.proofs.Common.{◌≡◌, ◌+◌, ◌<◌, Bool, true, false, List, refl, sym, subst}
use Rattle.std.specs.Prelude.{◌&&◌, Result, Ok, Err, OnErr, OnOk, nat_le, nat_lt, not}
use Rattle.std.proofs.lemmas.Bool.{and_parts, leb-true, ltb-true}
use Rattle.bc_disk.specs.declared.geometry.Geometry.{Geometry}
use Rattle.bc_inner.specs.Inner.{FitsBehind, HasTaken, Inner}
use Rattle.bc_key.specs.declared.key.Key.{Key}
use Rattle.bc_node.specs.Writing.{set_of}
use Rattle.bc_record.specs.Sectors.{in_blocks}
use Rattle.bc_set.specs.Records.{set_sectors}
use Rattle.bc_tree.specs.Append.{HasMoreIf}
use Rattle.bc_tree.specs.Needs.{has_room, set_bytes, words}
use Rattle.bc_tree.specs.Same.{SameShape}

not_loaded : (b : Bool) → not b ≡ true → b ≡ false
not_loaded true is = sym is
not_loaded false is = refl

-- what it is to have room
pub room_says : (g : Geometry) (node : Inner) (keys : List Key) → has_room g node (words keys) ≡ true → (node.loaded ≡ false) × (0 < node.taken) × FitsBehind g node (set_of node.seq keys)
room_says g node keys room =
    let first = and_parts (not node.loaded && nat_lt 0 node.taken) (nat_le (node.taken + in_blocks g.block (set_bytes (words keys))) g.node_sectors) room in
    let front = and_parts (not node.loaded) (nat_lt 0 node.taken) first.0 in
    (not_loaded node.loaded front.0, ltb-true 0 node.taken front.1, leb-true (node.taken + in_blocks g.block (set_bytes (words keys))) g.node_sectors first.1)

pub more_if : {E : Type 0} (r : Result (Unit {0}) E) (g : Geometry) (keys : List Key) (old new : Inner) → OnOk r (HasTaken (old.taken + set_sectors g (set_of old.seq keys)) old new) → OnErr r (new ≡ old) → HasMoreIf r g keys old new
more_if (Ok x) g keys old new taken kept = taken
more_if (Err e) g keys old new taken kept = kept

pub more_shape : {E : Type 0} (r : Result (Unit {0}) E) (g : Geometry) (keys : List Key) (old new : Inner) → HasMoreIf r g keys old new → SameShape old new
more_shape (Ok x) g keys old new is = record { level = is.level; from = is.from; end = is.end; ptr = is.ptr; children_are = is.children }
more_shape (Err e) g keys old new is = subst (λ (n : Inner). SameShape old n) (sym is) (record { level = refl; from = refl; end = refl; ptr = refl; children_are = refl })
