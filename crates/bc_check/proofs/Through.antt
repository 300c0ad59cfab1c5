-- A pair that needs no cache device, byte by byte.
use Rattle.std.proofs.Common.{◌≡◌, ◌∷◌, inl, replicate, refl, arith, lit≤, lit<}
use Rattle.bc_bytes.specs.Checksum.{message, dividend, checksum}
use Rattle.bc_bytes.specs.Division.{remainder}
use Rattle.bc_bytes.specs.Fields.{number_at}
use Rattle.bc_model.specs.Pattern.{zeros}
use Rattle.bc_record.specs.Sectors.{bytes_in}
use Rattle.bc_super.specs.Super.{HasNoFeatures, IsSuper, HasChecksum, backing_of, fields_in}
use Rattle.bc_super.specs.declared.backing.BackingSuper.{BackingSuper}
use Rattle.bc_image.specs.Pair.{super_bytes, HasBacking}
use Rattle.bc_check.specs.Through.{through_pair}
use Rattle.bc_check.specs.Verdict.{IsVerdict}
use Rattle.bc_check.specs.declared.verdict.Verdict.TheVariants as verdicts

abbrev backing : BackingSuper
backing = record { version = 1; uuid = replicate 16 0; set_uuid = 1 ∷ replicate 15 0; label = replicate 32 0; flags = 3; seq = 0; block = 1; last_mount = 0; data_offset = 16 }

backing_sum : HasChecksum (super_bytes through_pair.backing)
unfolding bytes_in zeros number_at checksum dividend message remainder
backing_sum = refl

backing_head : IsSuper (super_bytes through_pair.backing)
unfolding bytes_in zeros number_at
backing_head = record { has_magic = refl; place = refl; count = lit≤ tt; checksum = backing_sum }

backing_spelled : backing ≡ backing_of (fields_in (super_bytes through_pair.backing))
unfolding bytes_in zeros number_at
backing_spelled = refl

backing_features : HasNoFeatures 6 (fields_in (super_bytes through_pair.backing))
unfolding bytes_in zeros number_at
backing_features six = refl

has_backing : HasBacking through_pair backing
has_backing = (
  lit≤ tt,
  record {
    super = backing_head;
    spelled = backing_spelled;
    features = backing_features;
    usable = record { version = inl refl; fixed = λ _. refl; data_offset = (lit≤ tt, lit< tt); state = λ same. absurd (omega (arith, same)) };
  },
)

pub passes_through : IsVerdict through_pair verdicts.PassThrough
passes_through = (backing, has_backing, (refl, refl))
