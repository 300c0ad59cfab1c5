-- A set with zeros behind it.
use Rattle.std.proofs.Common.{◌≡◌, ◌⊎◌, inl, inr, ℕ, ◌+◌, ◌*◌, ◌<◌, ◌≤◌, List, ◌++◌, length, take, drop, replicate, slice_index, refl, sym, subst, ap, ◌∙◌, arith}
use Rattle.std.proofs.lemmas.Bool.{cases_lt}
use Rattle.std.proofs.lemmas.List.{get_or-drop, get_or-replicate, get_or_past, length-replicate, take-append-drop, take-take}
use Rattle.bc_bytes.specs.Fields.{number_at, SameOutside}
use Rattle.bc_disk.specs.declared.geometry.Geometry.{Geometry}
use Rattle.bc_record.proofs.Blocks.{blocks_hold, block_some}
use Rattle.bc_set.specs.declared.set.Set.{Set}
use Rattle.bc_set.specs.declared.set.SetKind.{SetKind}
use Rattle.bc_set.specs.SetBytes.{IsSet, AreSetKeys, bytes_of}
use Rattle.bc_set.specs.Records.{set_sectors}
use Rattle.bc_node.specs.Writing.{HasSet, BeginsWith}

byte_at : (xs : List ℕ) (k : ℕ) → number_at 1 xs k ≡ slice_index xs k
unfolding number_at
byte_at xs k = let moved : k + 0 ≡ k = omega arith in omega (arith, get_or-drop k xs 0 0 ∙ ap (slice_index xs) moved)

byte_of_zeros : (n : ℕ) (xs : List ℕ) (k : ℕ) → xs ≡ replicate n 0 → slice_index xs k ≡ 0
byte_of_zeros n xs k is = ap (λ (ys : List ℕ). slice_index ys k) is ∙ go (cases_lt k n)
  where
    go : (k < n) ⊎ (n ≤ k) → slice_index (replicate n 0) k ≡ 0
    go (inl inside) = get_or-replicate n k 0 0 inside
    go (inr past) = get_or_past (replicate n 0) k 0 (let long : length (replicate n 0) ≡ n = length-replicate {A = ℕ} n 0 in omega arith)

-- bytes whose front is the set's begin with it
begins : (g : Geometry) (word : ℕ) (s : Set) (bytes new : List ℕ) (end : ℕ) → take end bytes ≡ take end new → ((kind : SetKind) (rest : List ℕ) → AreSetKeys kind s.keys → IsSet word g.set_magic kind (take end new ++ rest) s)
    → BeginsWith g word s bytes
begins g word s bytes new end same written kind keys =
    subst (λ (bs : List ℕ). IsSet word g.set_magic kind bs s) (ap (λ (xs : List ℕ). xs ++ drop end bytes) (sym same) ∙ take-append-drop end bytes) (written kind (drop end bytes) keys)

pub has_set : (g : Geometry) (word : ℕ) (s : Set) (n end : ℕ) (old new : List ℕ) → old ≡ replicate n 0 → end ≡ bytes_of s → SameOutside end old new 0
    → ((kind : SetKind) (rest : List ℕ) → AreSetKeys kind s.keys → IsSet word g.set_magic kind (take end new ++ rest) s) → HasSet g word s new
has_set g word s n end old new blank is same written =
    let held = blocks_hold g.block (bytes_of s) (block_some g) in record {
      whole = begins g word s new new end refl written;
      part = begins g word s (take (512 * set_sectors g s) new) new end (take-take end (512 * set_sectors g s) new (omega (arith, held, is))) written;
      zeros = λ k behind. sym (byte_at new k) ∙ same.numbers 1 k (inr (omega (arith, behind, is))) ∙ byte_at old k ∙ byte_of_zeros n old k blank;
    }
