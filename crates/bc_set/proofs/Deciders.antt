-- Bytes begin with a set, or with none.
use Rattle.std.proofs.Common.{subst, ◌≡◌, ◌⊎◌, inl, inr, ℕ, zero, suc, ◌+◌, ◌*◌, ◌<◌, ◌≤◌, List, [], ◌∷◌, length, slice_range, refl, sym, arith}
use Rattle.std.specs.Prelude.{All, bit_xor}
use Rattle.bc_bytes.specs.Checksum.{checksum}
use Rattle.bc_bytes.specs.Fields.{number_at}
use Rattle.bc_key.specs.declared.key.Key.{Key}
use Rattle.bc_key.specs.Key.{IsExtent, start_of}
use Rattle.bc_keys.proofs.KeyLists.{one_list}
use Rattle.bc_keys.proofs.Deciders.{IsOrNot, given, equal, at_most, below, keys_are_or_not, all_or_none}
use Rattle.bc_set.specs.declared.set.Set.{Set}
use Rattle.bc_set.specs.declared.set.SetKind.{SetKind}
use Rattle.bc_set.specs.declared.set.SetKind.TheVariants.{Extents, Children}
use Rattle.bc_set.specs.SetBytes.{IsVersion, start_by, IsSet, Follows, AreOfKind, AreInOrder, version_in, end_in, words_in}

follows_or_not : (kind : SetKind) (a b : Key) → IsOrNot (Follows kind a b)
follows_or_not Extents a b = at_most a.end (start_of b)
follows_or_not Children a b = below a.end b.end

of_kind_or_not : (kind : SetKind) (keys : List Key) → IsOrNot (AreOfKind kind keys)
of_kind_or_not Extents keys = all_or_none IsExtent (λ key. at_most key.size key.end) keys
of_kind_or_not Children keys = inl tt

in_order_or_not : (kind : SetKind) (keys : List Key) → IsOrNot (AreInOrder kind keys)
in_order_or_not kind [] = inl (λ i j d lt inside. absurd (omega arith))
in_order_or_not kind (x ∷ xs) = go (all_or_none (Follows kind x) (follows_or_not kind x) xs) (in_order_or_not kind xs)
  where
    both : All (Follows kind x) xs → AreInOrder kind xs → AreInOrder kind (x ∷ xs)
    both head tail i zero d lt inside = absurd (omega arith)
    both head tail zero (suc j) d lt inside = head j d (omega arith)
    both head tail (suc i) (suc j) d lt inside = tail i j d (omega arith) (omega arith)

    go : IsOrNot (All (Follows kind x) xs) → IsOrNot (AreInOrder kind xs) → IsOrNot (AreInOrder kind (x ∷ xs))
    go (inr none) r = inr (λ h. none (λ k d lt. h 0 (suc k) d (omega arith) (omega arith)))
    go (inl p) (inr none) = inr (λ h. none (λ i j d lt inside. h (suc i) (suc j) d (omega arith) (omega arith)))
    go (inl p) (inl ps) = inl (both p ps)

version_or_not : (n : ℕ) → IsOrNot (IsVersion n)
version_or_not n = go (equal n 0) (equal n 1)
  where
    go : IsOrNot (n ≡ 0) → IsOrNot (n ≡ 1) → IsOrNot (IsVersion n)
    go (inl e) r = inl (inl e)
    go (inr other) (inl e) = inl (inr e)
    go (inr other) (inr none) = inr (λ h. elim h [ inl e ↦ other e | inr e ↦ none e ])

pub set_or_none : (start magic : ℕ) (kind : SetKind) (bytes : List ℕ) → IsOrNot ((s : Set) × IsSet start magic kind bytes s)
set_or_none start magic kind bytes =
    given (at_most 32 (length bytes)) (λ k. k.1.whole.header.room) (λ room.
    given (equal (number_at 8 bytes 8) (bit_xor magic 0x9013_5c78_b99e_07f5)) (λ k. k.1.whole.header.magic) (λ is_magic.
    given (version_or_not (version_in bytes)) (λ k. k.1.whole.header.version) (λ version.
    given (at_most (end_in bytes) (length bytes)) (λ k. k.1.whole.long) (λ long.
    given (equal (number_at 8 bytes 0) (checksum (start_by (version_in bytes) start) (slice_range bytes 8 (end_in bytes)))) (λ k. k.1.whole.checksum) (λ sum.
    given (keys_are_or_not (words_in bytes)) (λ k. (k.0.keys, k.1.keys)) (λ keys.
    given (of_kind_or_not kind keys.0) (λ k. subst (λ (ks : List Key). AreOfKind kind ks) (one_list (words_in bytes) k.0.keys keys.0 k.1.keys keys.1) k.1.proper.each) (λ each.
    given (in_order_or_not kind keys.0) (λ k. subst (λ (ks : List Key). AreInOrder kind ks) (one_list (words_in bytes) k.0.keys keys.0 k.1.keys keys.1) k.1.proper.order) (λ order.
    inl (
      record { seq = number_at 8 bytes 16; version = version_in bytes; keys = keys.0 },
      record { whole = record { header = record { room = room; magic = is_magic; version = version }; long = long; checksum = sum }; seq = refl; version = refl; keys = keys.1; proper = record { each = each; order = order } },
    )))))))))
