-- Sets as records like any others.
use Rattle.std.proofs.Common.{◌≡◌, ◌⊎◌, ◌↔◌, inl, inr, ℕ, suc, ◌+◌, ◌-◌, ◌*◌, ◌<◌, ◌≤◌, List, length, take, drop, refl, sym, subst, ap, ◌∙◌, arith}
use Rattle.std.proofs.lemmas.Bool.Decides.{eqb_tells}
use Rattle.std.proofs.lemmas.List.{length-take, take_all}
use Rattle.bc_bytes.specs.Checksum.{checksum}
use Rattle.bc_bytes.specs.Fields.{number_at}
use Rattle.bc_model.specs.Sector.{Image}
use Rattle.bc_disk.specs.declared.geometry.Geometry.{Geometry}
use Rattle.bc_disk.specs.declared.gens.BucketRecord.{BucketRecord}
use Rattle.bc_record.specs.Codec.{Decided, IsCodec}
use Rattle.bc_record.specs.Sectors.{bytes_in, bytes_to}
use Rattle.bc_record.proofs.Blocks.{block_some}
use Rattle.bc_record.proofs.Parts.{length-bytes_in}
use Rattle.bc_disk.specs.Chain.{bucket_bytes, sets_in_chain}
use Rattle.bc_prio.specs.Set.{IsSet, HoldsPart, HasCount, HasMagic, HasChecksum, magic_of, next_in}
use Rattle.bc_prio.specs.Records.{bucket_in, part_kind, SetFound, IsReadIn}

equal : (a b : ℕ) → Decided (a ≡ b)
equal a b = elim (eqb_tells a b) [ inl t ↦ inl t.1 | inr t ↦ inr t.1 ]

given : {A B : Type 0} → Decided A → (B → A) → (A → Decided B) → Decided B
given (inl a) need next = next a
given (inr none) need next = inr (λ b. none (need b))

same_or_not : {A B : Type 0} → Decided A → Decided B → Decided (A ↔ B)
same_or_not (inl a) (inl b) = inl ((λ _. b), (λ _. a))
same_or_not (inl a) (inr none) = inr (λ same. none (same.0 a))
same_or_not (inr none) (inl b) = inr (λ same. none (same.1 b))
same_or_not (inr none) (inr never) = inl ((λ a. absurd (none a)), (λ b. absurd (never b)))

set_or_none : (g : Geometry) (part : ℕ) (bytes : List ℕ) → Decided (IsSet g part bytes)
set_or_none g part bytes =
    given (equal (length bytes) (bucket_bytes g)) (λ s. s.whole) (λ whole.
    given (equal (number_at 8 bytes 8) (magic_of g)) (λ s. s.magic) (λ is_magic.
    given (equal (number_at 8 bytes 0) (checksum 0xffff_ffff_ffff_ffff (drop 8 bytes))) (λ s. s.checksum) (λ sum.
    given (same_or_not (equal (next_in bytes) 0) (equal (part + 1) (sets_in_chain g))) (λ s. s.count) (λ count.
    inl (record { whole = whole; magic = is_magic; checksum = sum; count = count })))))

part_or_none : (g : Geometry) (part : ℕ) (bytes : List ℕ) → Decided ((e : List ℕ) × (IsSet g part e × (take (bucket_bytes g) bytes ≡ e)))
part_or_none g part bytes = given (set_or_none g part (take (bucket_bytes g) bytes)) (λ k. subst (λ (e : List ℕ). IsSet g part e) (sym k.1.1) k.1.0) (λ set. inl (take (bucket_bytes g) bytes, (set, refl)))

pub part_codec : (g : Geometry) (part : ℕ) → IsCodec (part_kind g part)
part_codec g part = record {
  block = block_some g;
  some = λ e. (let from = g.bucket_from in omega (arith, from));
  decide = part_or_none g part;
  one = λ bytes d e p q. sym p.1 ∙ q.1;
  fits = λ bytes e p. (let whole = p.0.whole in omega (arith, whole, length-take (bucket_bytes g) bytes, ap (λ (bs : List ℕ). length bs) p.1));
  stays = λ old new e p same. (p.0, same ∙ p.1);
}

-- a reader that looks no further than the bucket's end has all its bytes
bucket_bytes_in : (g : Geometry) (image : Image) (bucket : ℕ) → take (bucket_bytes g) (bytes_to image (g.bucket * bucket + g.bucket) (g.bucket * bucket)) ≡ bucket_in g image bucket
bucket_bytes_in g image bucket =
    let width : g.bucket * bucket + g.bucket - g.bucket * bucket ≡ g.bucket = omega arith in
    ap (λ n. take (bucket_bytes g) (bytes_in image (g.bucket * bucket) n)) width
    ∙ take_all (bucket_bytes g) (bucket_in g image bucket) (omega (arith, length-bytes_in image (g.bucket * bucket) g.bucket))

pub set_is_read : (g : Geometry) (image : Image) (bucket part next : ℕ) (records : List BucketRecord)
    → SetFound g image bucket part next records ↔ (IsReadIn g image bucket part (bucket_in g image bucket) × (next_in (bucket_in g image bucket) ≡ next) × HoldsPart g records part (bucket_in g image bucket))
set_is_read g image bucket part next records = (
  (λ found. ((found.set, bucket_bytes_in g image bucket), found.names, found.holds)),
  (λ read. record { set = read.0.0; names = read.1; holds = read.2 }),
)
