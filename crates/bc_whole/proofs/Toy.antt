-- A layout with records of few numbers, which serves all machines: entries and sets are named by
-- numbers, and a priority set is read off its values.
use Rattle.std.proofs.Common.{◌≢◌, ℕ, zero, suc, ◌+◌, ◌*◌, ◌<◌, ◌≤◌, ◌^◌, true, false, List, [], ◌∷◌, Option, Some, None, refl, sym, subst, arith, if◌then◌else◌, ◌==◌, nat_le, replicate, lit<, lit≤, ◌≡◌}
use Rattle.bc_model.specs.Sector.{Value}
use Rattle.bc_key.specs.declared.key.Key.{Key}
use Rattle.bc_key.specs.declared.ptr.Ptr.{Ptr}
use Rattle.bc_key.specs.Ptr.{IsZero, IsZeroFrom, no_ptr}
use Rattle.std.proofs.lemmas.List.{get_or-replicate}
use Rattle.bc_meta.specs.Facts.{Facts}
use Rattle.bc_meta.specs.Entries.{Entry}
use Rattle.bc_meta.specs.Tree.{Child, NodeSet, Owner}
use Rattle.bc_meta.specs.Layout.{Layout}
use Rattle.bc_meta.proofs.Example.{no_more, one_long, one_back, one_stays, one_fits, at_list, one_blank}
use Rattle.bc_meta.proofs.Example as toy
use Rattle.bc_model.specs.Pattern.{zeros}

-- ---- records

-- a key of sector 0, whose data lies in this sector of the cache device
abbrev pub data_ptr : (offset : ℕ) → offset < 2 ^ 43 → Ptr
data_ptr offset fits = record {
  dev = 0;
  offset = offset;
  generation = 45;
  dev_fits = lit< tt;
  offset_fits = fits;
  generation_fits = lit< tt;
}

abbrev pub key_to : (offset : ℕ) → offset < 2 ^ 43 → Key
key_to offset fits = record {
  inode = 0;
  end = 1;
  size = 1;
  dirty = true;
  csum = 0;
  count = 1;
  ptrs = data_ptr offset fits ∷ replicate 5 no_ptr;
  inode_fits = lit< tt;
  end_fits = lit< tt;
  size_fits = lit< tt;
  csum_fits = lit< tt;
  count_fits = lit≤ tt;
  six_places = refl;
  no_more_ptrs = no_more (data_ptr offset fits);
}

-- the one that the run stores, and one that no books have
abbrev pub stored_key : Key
stored_key = key_to 28 (lit< tt)

abbrev pub false_key : Key
false_key = key_to 29 (lit< tt)

-- a key without pointers, of sector 5
pub no_ptrs : IsZeroFrom 0 (replicate 6 no_ptr)
no_ptrs i d from below = subst IsZero (sym (get_or-replicate 6 i no_ptr d below)) (refl, refl, refl)

abbrev pub gap_key : Key
gap_key = record {
  inode = 0;
  end = 6;
  size = 1;
  dirty = false;
  csum = 0;
  count = 0;
  ptrs = replicate 6 no_ptr;
  inode_fits = lit< tt;
  end_fits = lit< tt;
  size_fits = lit< tt;
  csum_fits = lit< tt;
  count_fits = lit≤ tt;
  six_places = refl;
  no_more_ptrs = no_ptrs;
}

abbrev pub entry_1 : Entry
entry_1 = record {
  number = 1;
  last_seq = 1;
  root = 8;
  word = 32;
  level = 1;
  prio = 3;
  keys = [];
  rest = [];
}

-- with a new root and a new chain, and with a key
abbrev pub entry_2 : Entry
entry_2 = record {
  number = 2;
  last_seq = 1;
  root = 6;
  word = 24;
  level = 1;
  prio = 4;
  keys = [];
  rest = [];
}

abbrev pub entry_3 : Entry
entry_3 = record {
  number = 3;
  last_seq = 1;
  root = 6;
  word = 24;
  level = 1;
  prio = 4;
  keys = stored_key ∷ [];
  rest = [];
}

abbrev pub false_entry : Entry
false_entry = record {
  number = 3;
  last_seq = 1;
  root = 6;
  word = 24;
  level = 1;
  prio = 4;
  keys = false_key ∷ [];
  rest = [];
}

abbrev pub entry_4 : Entry
entry_4 = record {
  number = 4;
  last_seq = 1;
  root = 6;
  word = 24;
  level = 1;
  prio = 4;
  keys = gap_key ∷ [];
  rest = [];
}

abbrev pub entry_read : Unit {0} → Value → Option Entry
entry_read o (suc zero ∷ []) = Some entry_1
entry_read o (suc (suc zero) ∷ []) = Some entry_2
entry_read o (suc (suc (suc zero)) ∷ []) = Some entry_3
entry_read o (suc (suc (suc (suc zero))) ∷ []) = Some false_entry
entry_read o (suc (suc (suc (suc (suc zero)))) ∷ []) = Some entry_4
entry_read o _ = None

abbrev pub child : ℕ → ℕ → Child
child end bucket = record { end = end; bucket = bucket; word = 4 * bucket; gone = false }

abbrev pub root_set : NodeSet
root_set = record { seq = 6; keys = []; children = child 8 2 ∷ []; rest = [] }

abbrev pub leaf_set : NodeSet
leaf_set = record { seq = 5; keys = []; children = []; rest = [] }

abbrev pub new_leaf_set : NodeSet
new_leaf_set = record { seq = 7; keys = []; children = []; rest = [] }

abbrev pub new_root_set : NodeSet
new_root_set = record { seq = 8; keys = []; children = child 8 5 ∷ []; rest = [] }

abbrev pub further_set : NodeSet
further_set = record { seq = 7; keys = stored_key ∷ []; children = []; rest = [] }

-- of a draft that is given up, of the leaf that comes next, and of its parent
abbrev pub draft_set : NodeSet
draft_set = record { seq = 9; keys = []; children = []; rest = [] }

abbrev pub moved_set : NodeSet
moved_set = record { seq = 10; keys = stored_key ∷ []; children = []; rest = [] }

abbrev pub parent_set : NodeSet
parent_set = record { seq = 8; keys = []; children = child 8 10 ∷ []; rest = [] }

abbrev pub set_named : ℕ → Option NodeSet
set_named (suc zero) = Some root_set
set_named (suc (suc zero)) = Some leaf_set
set_named (suc (suc (suc zero))) = Some new_leaf_set
set_named (suc (suc (suc (suc zero)))) = Some new_root_set
set_named (suc (suc (suc (suc (suc zero))))) = Some further_set
set_named (suc (suc (suc (suc (suc (suc zero)))))) = Some draft_set
set_named (suc (suc (suc (suc (suc (suc (suc zero))))))) = Some moved_set
set_named (suc (suc (suc (suc (suc (suc (suc (suc zero)))))))) = Some parent_set
set_named _ = None

-- a set begins with the word of the pointer to its node
abbrev pub set_read : Owner → Value → Option NodeSet
set_read o (word ∷ n ∷ []) = if word == o.word then set_named n else None
set_read o _ = None

-- a record of one sector, read by what its value says
abbrev if_one : {O A : Type 0} → (O → Value → Option A) → O → List Value → Option A
if_one read o (v ∷ []) = read o v
if_one read o vs = None

abbrev one_sector : {O A : Type 0} → (O → Value → Option A) → Facts 1 O A
one_sector read = record {
  len = λ e. 1;
  some = λ e. omega arith;
  whole = λ e. (1, refl);
  spelled = if_one read;
  long = one_long read;
  found = λ image o end p. if nat_le (suc p) end then read o (image p) else None;
  fits = one_fits read;
  reads_back = one_back read;
  stays = one_stays read;
}

pub no_set : (o : Owner) → set_read o zeros ≡ None
unfolding zeros
no_set o = refl

-- ---- buckets of four sectors: 0 and 1 are the journal's, 2 has the leaf, 3 the chain, 4 is spare,
-- 5, 6, 9 and 10 are kept for nodes, 7 has nothing, and 8 has the root

pub apart : (a b t : ℕ) → a < 11 → b < 11 → a ≢ b → 4 * a ≤ t → t < 4 * a + 4 → 4 * b ≤ t
    → t < 4 * b + 4 → ⊥
apart a b t la lb ne x y z u = ne (omega arith)

-- a node begins at the word of the pointer to it
abbrev pub layout : Layout
layout = record {
  buckets = 11;
  journal = 2;
  first = λ b. 4 * b;
  bucket_sectors = 4;
  block = 1;
  node_sectors = 4;
  begins = λ o. o.word;
  journal_within = omega arith;
  apart = apart;
  entries = one_sector entry_read;
  sets = one_sector set_read;
  blank = one_blank set_read no_set;
  prios = toy.layout.prios;
  fills = λ e. refl;
  chain_sets = 1;
}
