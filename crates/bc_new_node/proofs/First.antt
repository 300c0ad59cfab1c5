-- The first set of a new node, with zeros behind it, as the core sees what was written.
use Rattle.std.proofs.Common.{◌≡◌, ℕ, zero, suc, ◌+◌, ◌-◌, ◌*◌, ◌<◌, ◌≤◌, List, ◌∷◌, ◌++◌, length, take, drop, replicate, Some, refl, sym, ap, ◌∙◌, subst, arith}
use Rattle.std.proofs.lemmas.List.{drop-take, ext_get_or, get_or-drop, get_or-replicate, length-drop, length-replicate, length-take-le, take-append-drop, take-take}
use Rattle.bc_disk.specs.declared.geometry.Geometry.{Geometry}
use Rattle.bc_facts.proofs.Written.{first_written, set_written}
use Rattle.bc_facts.specs.Layout.{IsLayoutOf}
use Rattle.bc_facts.specs.Seen.{kind_of, seen_set}
use Rattle.bc_meta.specs.Layout.{Layout, set_len}
use Rattle.bc_meta.specs.Places.{IsFirstWrite}
use Rattle.bc_meta.specs.Tree.{Owner}
use Rattle.bc_model.proofs.Sectors.{values_whole}
use Rattle.bc_model.specs.Sector.{Value, sectors, values_of}
use Rattle.bc_node.specs.Writing.{HasSet}
use Rattle.bc_record.proofs.Blocks.{blocks_hold}
use Rattle.bc_set.specs.Records.{set_sectors}
use Rattle.bc_set.specs.SetBytes.{AreSetKeys, IsSet, bytes_of}
use Rattle.bc_set.specs.declared.set.Set.{Set}

-- the first values are those of the first bytes
take_sectors : (n m : ℕ) (bytes : List ℕ) → take n (sectors (n + m) bytes)
    ≡ sectors n (take (512 * n) bytes)
take_sectors zero m bytes = refl
take_sectors (suc k) m bytes =
    let all : suc k + m ≡ suc (k + m) = omega arith in
    let some : 512 * suc k ≡ 512 + 512 * k = omega arith in
    ap (λ j. take (suc k) (sectors j bytes)) all
    ∙ ap (λ (vs : List Value). take 512 bytes ∷ vs) (take_sectors k m (drop 512 bytes))
    ∙ ap (λ (v : Value). v ∷ sectors k (take (512 * k) (drop 512 bytes)))
    (sym (take-take 512 (512 * suc k) bytes (omega arith)))
    ∙ ap (λ (xs : List ℕ). take 512 (take (512 * suc k) bytes) ∷ sectors k xs)
    (sym (ap (λ j. drop 512 (take j bytes)) some ∙ drop-take 512 (512 * k) bytes))

module _ (g : Geometry) (w : Layout) (divided : IsLayoutOf g w) (o : Owner) (s : Set)
    (bytes : List ℕ) (some : 0 < g.block) (set : HasSet g o.word s bytes)
    (proper : AreSetKeys (kind_of o.leaf) s.keys) (whole : length bytes ≡ 512 * g.node_sectors)
    (fits : set_sectors g s ≤ g.node_sectors) where
  abbrev n : ℕ
  n = set_sectors g s

  abbrev m : ℕ
  m = g.node_sectors - set_sectors g s

  abbrev front : List ℕ
  front = take (512 * n) bytes

  front_long : length front ≡ 512 * n
  front_long = length-take-le (512 * n) bytes (omega (arith, whole, fits))

  front_is : IsSet o.word g.set_magic (kind_of o.leaf) front s
  front_is = set.part (kind_of o.leaf) proper

  -- what lies behind is zeros
  behind : drop (512 * n) bytes ≡ replicate (512 * m) 0
  behind = ext_get_or 0 (drop (512 * n) bytes) (replicate (512 * m) 0)
      (let long = length-drop (512 * n) bytes in
      let short = length-replicate {A = ℕ} (512 * m) 0 in omega (arith, long, short, whole, fits))
      (λ i inside. get_or-drop (512 * n) bytes i 0
      ∙ set.zeros (512 * n + i) (let hold = blocks_hold g.block (bytes_of s) some in omega (arith, hold))
      ∙ sym (get_or-replicate (512 * m) i 0 0
      (let long = length-drop (512 * n) bytes in omega (arith, inside, long, whole, fits))))

  bytes_are : bytes ≡ front ++ replicate (512 * m) 0
  bytes_are = sym (take-append-drop (512 * n) bytes)
      ∙ ap (λ (xs : List ℕ). front ++ xs) behind

  pub first_write : IsFirstWrite w o (seen_set g o.leaf s) (values_of bytes)
  first_write = subst (λ (xs : List ℕ). IsFirstWrite w o (seen_set g o.leaf s) (values_of xs))
      (sym bytes_are) (first_written g w divided o front s front_long front_is fits)

  -- so many values at the front spell the set
  pub front_spelled : w.sets.spelled o (take n (values_of bytes)) ≡ Some (seen_set g o.leaf s)
  front_spelled =
      let both : n + m ≡ g.node_sectors = omega (arith, fits) in
      ap (λ (vs : List Value). w.sets.spelled o vs)
      (ap (λ (vs : List Value). take n vs) (values_whole g.node_sectors bytes whole
      ∙ ap (λ j. sectors j bytes) (sym both))
      ∙ take_sectors n m bytes ∙ sym (values_whole n front front_long))
      ∙ set_written g w divided o front s front_long front_is

  pub long : set_len w (seen_set g o.leaf s) ≡ set_sectors g s
  long = divided.sets.long o s
