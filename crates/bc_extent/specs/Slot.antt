-- How a key is kept: in a front of three words, and a tail with the pointers behind the first one.
use Rattle.std.specs.Prelude.{◌≡◌, ◌⊎◌, ◌/◌, ◌%◌, List, [], ◌∷◌, length}
use Rattle.std.proofs.Common.{refl}
use Rattle.bc_key.specs.declared.key.Key.{Key}
use Rattle.bc_extent.specs.declared.slot.Front.{Front}
use Rattle.bc_extent.specs.declared.slot.Tail.{Tail}
use Rattle.bc_extent.specs.Ptrs.{ptrs_in, none_behind}
use Rattle.bc_extent.specs.PtrLaws.{csum_small, count_small}

-- the key of a front and a tail
abbrev pub key_in : Front → Tail → Key
key_in front tail = record {
  inode = front.inode;
  end = front.end;
  size = front.size;
  dirty = front.dirty;
  csum = front.tags % 4;
  count = front.tags / 4;
  ptrs = ptrs_in (front.tags / 4) front.word tail.second tail.third tail.fourth tail.fifth tail.sixth;
  inode_fits = front.inode_fits;
  end_fits = front.end_fits;
  size_fits = front.size_fits;
  csum_fits = csum_small front.tags;
  count_fits = count_small front.tags front.tags_fit;
  six_places = refl;
  no_more_ptrs = none_behind (front.tags / 4) front.word tail.second tail.third tail.fourth tail.fifth tail.sixth;
}

-- the tail of a key that has one pointer at most
abbrev pub no_tail : Tail
no_tail = record { second = 0; third = 0; fourth = 0; fifth = 0; sixth = 0 }

-- the keys of fronts, and of tails as far as there are any
abbrev pub keys_in : List Front → List Tail → List Key
keys_in [] tails = []
keys_in (front ∷ fronts) [] = key_in front no_tail ∷ keys_in fronts []
keys_in (front ∷ fronts) (tail ∷ tails) = key_in front tail ∷ keys_in fronts tails

-- there are none, or there are those of all places
abbrev pub AreAll : List Tail → Type 0
AreAll tails = (tails ≡ []) ⊎ (length tails ≡ 512)
