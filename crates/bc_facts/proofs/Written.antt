-- Bytes in whole sectors, as values and back.
use Rattle.std.proofs.Common.{subst, ◌≡◌, ℕ, zero, suc, ◌*◌, List, [], ◌∷◌, ◌++◌, length, take, drop, Some, refl, sym, ap, ◌∙◌, arith, ◌+◌, ◌-◌, ◌≤◌, replicate, length-append}
use Rattle.std.proofs.lemmas.List.{length-drop, length-take-le, take-append-drop, take_all, take-append-le, drop-append-le, take-replicate, drop-replicate, length-replicate}
use Rattle.bc_model.specs.Sector.{Value, sectors, values_of}
use Rattle.bc_model.proofs.Sectors.{length_sectors, values_whole}
use Rattle.bc_disk.specs.declared.geometry.Geometry.{Geometry}
use Rattle.bc_record.proofs.Parts.{sector_of_whole}
use Rattle.bc_jset.specs.declared.entry.JEntry.{JEntry}
use Rattle.bc_jset.specs.EntryBytes.{IsEntry}
use Rattle.bc_jset.specs.Records.{entry_sectors}
use Rattle.bc_set.specs.declared.set.Set.{Set}
use Rattle.bc_set.specs.SetBytes as set
use Rattle.bc_set.specs.Records.{set_sectors}
use Rattle.bc_disk.specs.Chain.{bucket_bytes}
use Rattle.bc_prio.specs.Set as prio
use Rattle.bc_meta.specs.Layout.{Layout, set_len}
use Rattle.bc_meta.specs.Tree.{Owner}
use Rattle.bc_facts.specs.Whole.{bytes_of_values}
use Rattle.bc_facts.specs.Seen.{kind_of, seen_entry, seen_prio, seen_set}
use Rattle.bc_facts.specs.Layout.{IsLayoutOf}
use Rattle.bc_facts.proofs.Made.{bucket_whole}
use Rattle.bc_model.specs.Pattern.{zeros}
use Rattle.bc_meta.specs.Places.{IsFirstWrite}

turned : (n : ℕ) (bytes : List ℕ) → length bytes ≡ 512 * n → bytes_of_values (sectors n bytes) ≡ bytes
turned zero [] whole = refl
turned zero (x ∷ xs) whole = absurd (omega arith)
turned (suc n) bytes whole =
    let one = length-take-le 512 bytes (omega (arith, whole)) in
    let rest : length (drop 512 bytes) ≡ 512 * n = omega (arith, length-drop 512 bytes, whole) in
    ap (λ (v : List ℕ). v ++ bytes_of_values (sectors n (drop 512 bytes))) (sector_of_whole (take 512 bytes) one)
    ∙ ap (λ (bs : List ℕ). take 512 bytes ++ bs) (turned n (drop 512 bytes) rest)
    ∙ take-append-drop 512 bytes

values_back : (n : ℕ) (bytes : List ℕ) → length bytes ≡ 512 * n → bytes_of_values (values_of bytes) ≡ bytes
values_back n bytes whole = ap bytes_of_values (values_whole n bytes whole) ∙ turned n bytes whole

values_long : (n : ℕ) (bytes : List ℕ) → length bytes ≡ 512 * n → n ≡ length (values_of bytes)
values_long n bytes whole = sym (ap (λ (vs : List Value). length vs) (values_whole n bytes whole) ∙ length_sectors n bytes)

pub entry_written : (g : Geometry) (w : Layout) → IsLayoutOf g w → (bytes : List ℕ) (e : JEntry) → length bytes ≡ 512 * entry_sectors g e → IsEntry g.set_magic bytes e → w.entries.spelled tt (values_of bytes) ≡ Some (seen_entry g e)
entry_written g w layout bytes e whole is =
    (layout.entries.spelled tt (values_of bytes) (seen_entry g e)).1
    (e, (subst (λ (bs : List ℕ). IsEntry g.set_magic bs e) (sym (values_back (entry_sectors g e) bytes whole)) is, values_long (entry_sectors g e) bytes whole), refl)

pub set_written : (g : Geometry) (w : Layout) → IsLayoutOf g w → (o : Owner) (bytes : List ℕ) (s : Set) → length bytes ≡ 512 * set_sectors g s → set.IsSet o.word g.set_magic (kind_of o.leaf) bytes s
    → w.sets.spelled o (values_of bytes) ≡ Some (seen_set g o.leaf s)
set_written g w layout o bytes s whole is =
    (layout.sets.spelled o (values_of bytes) (seen_set g o.leaf s)).1
    (s, (subst (λ (bs : List ℕ). set.IsSet o.word g.set_magic (kind_of o.leaf) bs s) (sym (values_back (set_sectors g s) bytes whole)) is, values_long (set_sectors g s) bytes whole), refl)

pub prio_written : (g : Geometry) (w : Layout) → IsLayoutOf g w → (part : ℕ) (bytes : List ℕ) → prio.IsSet g part bytes → w.prios.spelled part (values_of bytes) ≡ Some (seen_prio g part bytes)
prio_written g w layout part bytes is =
    let whole = is.whole in
    let same : take (bucket_bytes g) (bytes_of_values (values_of bytes)) ≡ bytes = ap (take (bucket_bytes g)) (values_back g.bucket bytes whole) ∙ take_all (bucket_bytes g) bytes (omega (arith, whole)) in
    (layout.prios.spelled part (values_of bytes) (seen_prio g part bytes)).1
    (bytes, ((is, same), bucket_whole g ∙ values_long g.bucket bytes whole), refl)

-- ---- a node's first set, and zeros behind it

sectors_both : (n m : ℕ) (xs ys : List ℕ) → length xs ≡ 512 * n → sectors (n + m) (xs ++ ys) ≡ sectors n xs ++ sectors m ys
sectors_both zero m [] ys h = let a : 0 + m ≡ m = omega arith in ap (λ k. sectors k ys) a
sectors_both zero m (x ∷ xs) ys h = absurd (omega arith)
sectors_both (suc n) m xs ys h =
    let a : suc n + m ≡ suc (n + m) = omega arith in
    let low : 512 ≤ length xs = omega arith in
    let rest : length (drop 512 xs) ≡ 512 * n = omega (arith, length-drop 512 xs) in
    ap (λ k. sectors k (xs ++ ys)) a
    ∙ ap (λ (v : Value). v ∷ sectors (n + m) (drop 512 (xs ++ ys))) (take-append-le 512 xs ys low)
    ∙ ap (λ (zs : List ℕ). take 512 xs ∷ sectors (n + m) zs) (drop-append-le 512 xs ys low)
    ∙ ap (λ (vs : List Value). take 512 xs ∷ vs) (sectors_both n m (drop 512 xs) ys rest)

-- the values of zero bytes
all_zeros : (m size : ℕ) → size ≡ 512 * m → sectors m (replicate size 0) ≡ replicate m zeros
unfolding zeros
all_zeros zero size is = refl
all_zeros (suc m) size is =
    ap (λ (v : Value). v ∷ sectors m (drop 512 (replicate size 0))) (take-replicate 512 size 0 (omega (arith, is)))
    ∙ ap (λ (bs : List ℕ). replicate 512 0 ∷ sectors m bs) (drop-replicate 512 size 0)
    ∙ ap (λ (vs : List Value). replicate 512 0 ∷ vs) (all_zeros m (size - 512) (omega (arith, is)))

pub first_written : (g : Geometry) (w : Layout) → IsLayoutOf g w → (o : Owner) (bytes : List ℕ) (s : Set) → length bytes ≡ 512 * set_sectors g s → set.IsSet o.word g.set_magic (kind_of o.leaf) bytes s → set_sectors g s ≤ g.node_sectors
    → IsFirstWrite w o (seen_set g o.leaf s) (values_of (bytes ++ replicate (512 * (g.node_sectors - set_sectors g s)) 0))
first_written g w layout o bytes s whole is fits =
    let n = set_sectors g s in
    let m = g.node_sectors - set_sectors g s in
    let zs : List ℕ = replicate (512 * (g.node_sectors - set_sectors g s)) 0 in
    let tail = length-replicate {A = ℕ} (512 * (g.node_sectors - set_sectors g s)) 0 in
    let all : length (bytes ++ replicate (512 * (g.node_sectors - set_sectors g s)) 0) ≡ 512 * (set_sectors g s + (g.node_sectors - set_sectors g s)) =
    length-append bytes (replicate (512 * (g.node_sectors - set_sectors g s)) 0) ∙ omega (arith, whole, tail) in
    let count : g.node_sectors - set_sectors g s ≡ w.node_sectors - set_len w (seen_set g o.leaf s) =
    omega (arith, layout.node_sectors, layout.sets.long o s) in
    record {
      front = values_of bytes;
      spelled = set_written g w layout o bytes s whole is;
      values_are =
          values_whole (set_sectors g s + (g.node_sectors - set_sectors g s)) (bytes ++ replicate (512 * (g.node_sectors - set_sectors g s)) 0) all
          ∙ sectors_both (set_sectors g s) (g.node_sectors - set_sectors g s) bytes (replicate (512 * (g.node_sectors - set_sectors g s)) 0) whole
          ∙ ap (λ (vs : List Value). vs ++ sectors (g.node_sectors - set_sectors g s) (replicate (512 * (g.node_sectors - set_sectors g s)) 0)) (sym (values_whole (set_sectors g s) bytes whole))
          ∙ ap (λ (vs : List Value). values_of bytes ++ vs) (all_zeros (g.node_sectors - set_sectors g s) (512 * (g.node_sectors - set_sectors g s)) refl ∙ ap (λ k. replicate k zeros) count);
    }
