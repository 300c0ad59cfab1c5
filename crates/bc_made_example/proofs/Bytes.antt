-- The bytes of nodes in bucket 20 of the small pair: of a root with the child that the root has,
-- and of a leaf with a key of eight sectors.
use Rattle.std.proofs.Common.{◌≡◌, inr, ℕ, Bool, true, false, zero, suc, ◌+◌, ◌<◌, List, [], ◌∷◌}
use Rattle.std.proofs.Common.{◌++◌, get_or, Some, replicate, refl, sym, ap, ◌∙◌, subst, lit<, lit≤}
use Rattle.std.proofs.Common.{arith}
use Rattle.std.proofs.lemmas.List.{append-nil}
use Rattle.std.proofs.lemmas.List.Elements.{All-nil, All-cons}
use Rattle.bc_bytes.specs.Checksum.{message, dividend, checksum}
use Rattle.bc_bytes.specs.Division.{remainder}
use Rattle.bc_bytes.specs.Fields.{number_at}
use Rattle.bc_model.specs.Sector.{Value}
use Rattle.bc_disk.specs.declared.geometry.Geometry.{Geometry}
use Rattle.bc_record.proofs.Parts.{sector_of_whole}
use Rattle.bc_key.specs.declared.key.Key.{Key}
use Rattle.bc_key.specs.Key.{IsExtent, ptr_at}
use Rattle.bc_key.specs.Words.{Spells, ReadsAsPtr, words_of}
use Rattle.bc_keys.specs.Spelling.{words_at}
use Rattle.bc_keys.proofs.OnePointer.{one_pointer_key, ptr_to}
use Rattle.bc_set.specs.declared.set.SetKind.TheVariants.{Children, Extents}
use Rattle.bc_set.specs.declared.set.Set.{Set}
use Rattle.bc_set.specs.SetBytes as sets
use Rattle.bc_set.specs.SetBytes.{IsSet}
use Rattle.bc_meta.specs.Tree.{NodeSet, Owner}
use Rattle.bc_image.proofs.Examples.{geometry}
use Rattle.bc_image.proofs.NewPair.{leaf_key, root_set}
use Rattle.bc_facts.specs.Seen.{seen_set}
use Rattle.bc_facts.specs.Whole.{bytes_of_values}
use Rattle.bc_facts.proofs.Made.{is_layout, made}

abbrev pub small : Geometry
small = geometry 8 (lit≤ tt)

-- how a node in bucket 20 is read
abbrev pub owner : Bool → Owner
owner leaf = record { word = 0x50000; leaf = leaf }

abbrev pub node_sector : List ℕ
node_sector =
    (0x8b ∷ 0xfb ∷ 0x8d ∷ 0xa5 ∷ 0xdf ∷ 0xef ∷ 0xc1 ∷ 0x22
    ∷ 0xf4 ∷ 0x07 ∷ 0x9e ∷ 0xb9 ∷ 0x78 ∷ 0x5c ∷ 0x13 ∷ 0x90
    ∷ 0x01 ∷ 0x00 ∷ 0x01 ∷ 0x00 ∷ 0x00 ∷ 0x00 ∷ 0x00 ∷ 0x00
    ∷ 0x01 ∷ 0x00 ∷ 0x00 ∷ 0x00 ∷ 0x03 ∷ 0x00 ∷ 0x00 ∷ 0x00
    ∷ 0x00 ∷ 0x00 ∷ 0x00 ∷ 0x04 ∷ 0x00 ∷ 0x00 ∷ 0x00 ∷ 0x90
    ∷ 0x00 ∷ 0x00 ∷ 0x00 ∷ 0x00 ∷ 0x00 ∷ 0x01 ∷ 0x00 ∷ 0x00
    ∷ 0x00 ∷ 0x00 ∷ 0x03 ∷ [])
    ++ (replicate 461 0)

node_sum : sets.HasChecksum 0x50000 node_sector
unfolding number_at checksum dividend message remainder
node_sum = refl

leaf_ptrs : (i : ℕ) → i < 1
    → ReadsAsPtr (get_or (sets.words_in node_sector) (2 + i) 0) (ptr_at leaf_key i)
unfolding number_at words_at
leaf_ptrs zero h = record { generation = refl; offset = refl; dev = refl }
leaf_ptrs (suc i) h = absurd (omega arith)

leaf_spelled : Spells (sets.words_in node_sector) leaf_key
unfolding number_at words_at
leaf_spelled = record {
  long = lit≤ tt;
  high = record { inode = refl; size = refl; dirty = refl; csum = refl; count = refl };
  end = refl;
  ptrs = leaf_ptrs;
}

node_is : IsSet 0x50000 1 Children node_sector root_set
unfolding number_at words_at
node_is = record {
  whole = record {
    header = record { room = lit≤ tt; magic = refl; version = inr refl };
    long = lit≤ tt;
    checksum = node_sum;
  };
  seq = refl;
  version = refl;
  keys = (leaf_spelled, refl);
  proper = record { each = tt; order = λ i j d low high. absurd (omega arith) };
}

abbrev pub node_set : NodeSet
node_set = seen_set small false root_set

abbrev pub front : List Value
front = node_sector ∷ []

pub front_spelled : (made small).sets.spelled (owner false) front ≡ Some node_set
unfolding words_of
front_spelled =
    let bytes : bytes_of_values front ≡ node_sector =
    ap (λ (v : List ℕ). v ++ []) (sector_of_whole node_sector refl) ∙ append-nil node_sector in
    ((is_layout small).sets.spelled (owner false) front node_set).1 (
      root_set,
      (subst (λ (bs : List ℕ). IsSet 0x50000 1 Children bs root_set) (sym bytes) node_is, refl),
      refl,
    )

pub set_long : (made small).sets.len node_set ≡ 1
unfolding words_of
set_long = refl

-- ---- a leaf

-- sectors 0 to 7, in bucket 30
abbrev pub data_key : Key
data_key = one_pointer_key 8 8 false (ptr_to 1920 0 (lit< tt) (lit< tt)) (lit< tt) (lit< tt)

abbrev pub data_set : Set
data_set = record { seq = 65537; version = 1; keys = data_key ∷ [] }

abbrev pub leaf_sector : List ℕ
leaf_sector =
    (0x5c ∷ 0x96 ∷ 0xbf ∷ 0xed ∷ 0x48 ∷ 0xd8 ∷ 0x9b ∷ 0xe4
    ∷ 0xf4 ∷ 0x07 ∷ 0x9e ∷ 0xb9 ∷ 0x78 ∷ 0x5c ∷ 0x13 ∷ 0x90
    ∷ 0x01 ∷ 0x00 ∷ 0x01 ∷ 0x00 ∷ 0x00 ∷ 0x00 ∷ 0x00 ∷ 0x00
    ∷ 0x01 ∷ 0x00 ∷ 0x00 ∷ 0x00 ∷ 0x03 ∷ 0x00 ∷ 0x00 ∷ 0x00
    ∷ 0x00 ∷ 0x00 ∷ 0x80 ∷ 0x00 ∷ 0x00 ∷ 0x00 ∷ 0x00 ∷ 0x90
    ∷ 0x08 ∷ 0x00 ∷ 0x00 ∷ 0x00 ∷ 0x00 ∷ 0x00 ∷ 0x00 ∷ 0x00
    ∷ 0x00 ∷ 0x80 ∷ 0x07 ∷ [])
    ++ (replicate 461 0)

leaf_sum : sets.HasChecksum 0x50000 leaf_sector
unfolding number_at checksum dividend message remainder
leaf_sum = refl

data_ptrs : (i : ℕ) → i < 1
    → ReadsAsPtr (get_or (sets.words_in leaf_sector) (2 + i) 0) (ptr_at data_key i)
unfolding number_at words_at
data_ptrs zero h = record { generation = refl; offset = refl; dev = refl }
data_ptrs (suc i) h = absurd (omega arith)

data_spelled : Spells (sets.words_in leaf_sector) data_key
unfolding number_at words_at
data_spelled = record {
  long = lit≤ tt;
  high = record { inode = refl; size = refl; dirty = refl; csum = refl; count = refl };
  end = refl;
  ptrs = data_ptrs;
}

leaf_is : IsSet 0x50000 1 Extents leaf_sector data_set
unfolding number_at words_at
leaf_is = record {
  whole = record {
    header = record { room = lit≤ tt; magic = refl; version = inr refl };
    long = lit≤ tt;
    checksum = leaf_sum;
  };
  seq = refl;
  version = refl;
  keys = (data_spelled, refl);
  proper = record {
    each = All-cons IsExtent data_key [] (lit≤ tt) (All-nil IsExtent);
    order = λ i j d low high. absurd (omega arith);
  };
}

abbrev pub leaf_set : NodeSet
leaf_set = seen_set small true data_set

abbrev pub leaf_front : List Value
leaf_front = leaf_sector ∷ []

pub leaf_front_spelled : (made small).sets.spelled (owner true) leaf_front ≡ Some leaf_set
unfolding words_of
leaf_front_spelled =
    let bytes : bytes_of_values leaf_front ≡ leaf_sector =
    ap (λ (v : List ℕ). v ++ []) (sector_of_whole leaf_sector refl) ∙ append-nil leaf_sector in
    ((is_layout small).sets.spelled (owner true) leaf_front leaf_set).1 (
      data_set,
      (subst (λ (bs : List ℕ). IsSet 0x50000 1 Extents bs data_set) (sym bytes) leaf_is, refl),
      refl,
    )

pub leaf_set_long : (made small).sets.len leaf_set ≡ 1
unfolding words_of
leaf_set_long = refl
