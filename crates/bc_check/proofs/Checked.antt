-- From what the calls of a check say of the devices in between to what it says of them as they were.
use Rattle.std.proofs.Common.{◌≡◌, Bool, true, false, List, [], Option, Some, None, refl, subst}
use Rattle.std.specs.Bool.{MatchBool}
use Rattle.bc_disk.specs.Disk.{DiskFacts, IfTold}
use Rattle.bc_image.specs.Pair.{Pair}
use Rattle.bc_image.specs.Sound.{ServesAlone}
use Rattle.bc_model.specs.Sector.{Image}
use Rattle.bc_pair.specs.Found.{pair_of}
use Rattle.bc_replay.specs.Causes.{OfHeld}
use Rattle.bc_replay.specs.Survey.{IsFirst, IsSurveyCause}
use Rattle.bc_replay.specs.declared.error.OpenError.{OpenError}
use Rattle.bc_replay.specs.declared.error.OpenError.TheVariants as errors
use Rattle.bc_check.specs.Calls.{BothKept, check_of}
use Rattle.bc_check.specs.Verdict.{DecidesAlone, IsCheckCause, IsRefusal, IsVerdict, ListsIf}
use Rattle.bc_check.specs.declared.lines.BucketLine.{BucketLine}
use Rattle.bc_check.specs.declared.verdict.Verdict.TheVariants as verdicts
use Rattle.bc_check.proofs.Pairs.{held_back, held_map, held_two}

module _ (cache backing : DiskFacts) where
  -- the pair that is held serves alone, or it doesn't
  pub alone_held : (alone : Bool) → DecidesAlone backing alone → OfHeld (λ p. MatchBool alone (ServesAlone p) (¬ (ServesAlone p))) cache backing
  alone_held alone decides = go cache.holds backing.holds decides
    where
      go : (x y : Option Image) → IfTold y (λ image. (p : Pair) → p.backing ≡ image → p.backing_sectors ≡ backing.sectors → MatchBool alone (ServesAlone p) (¬ (ServesAlone p)))
          → IfTold x (λ c. IfTold y (λ b. MatchBool alone (ServesAlone (pair_of cache backing c b)) (¬ (ServesAlone (pair_of cache backing c b)))))
      go None y decides = tt
      go (Some c) None decides = tt
      go (Some c) (Some b) decides = decides (pair_of cache backing c b) refl refl

  pub passes : (alone : Bool) → alone ≡ true → DecidesAlone backing alone → OfHeld ServesAlone cache backing
  passes alone is decides = subst (λ (b : Bool). OfHeld (λ p. MatchBool b (ServesAlone p) (¬ (ServesAlone p))) cache backing) is (alone_held alone decides)

  module _ (cache' backing' : DiskFacts) (kept : BothKept cache cache' backing backing') where
    -- a refusal behind a look at the backing device
    pub cause_so : (alone : Bool) → alone ≡ false → DecidesAlone backing alone → (why : OpenError) → IsSurveyCause cache' backing' why → IsCheckCause cache backing (check_of why)
    cause_so alone is decides (errors.Fault d) cause = tt
    cause_so alone is decides errors.Memory cause = tt
    cause_so alone is decides why cause = (
      tt,
      held_two (λ p. ¬ (ServesAlone p)) (λ p. IsFirst p why) (λ p. IsRefusal p why) cache backing (λ p not first. (not, first))
          (subst (λ (b : Bool). OfHeld (λ p. MatchBool b (ServesAlone p) (¬ (ServesAlone p))) cache backing) is (alone_held alone decides))
          (held_back (λ p. IsFirst p why) cache cache' backing backing' kept cause),
    )

    module _ (last left : DiskFacts) (then : BothKept cache last backing left) (P : Pair → Type 0) (survey : OfHeld P cache' backing') where
      pub verdict_so : (Q : Pair → Type 0) → OfHeld (λ p. P p → Q p) last left → OfHeld Q cache backing
      verdict_so Q says = held_two P (λ p. P p → Q p) Q cache backing (λ p has so. so has) (held_back P cache cache' backing backing' kept survey) (held_back (λ p. P p → Q p) cache last backing left then says)

-- ---- the lines of buckets

none_listed : (list : Bool) (p : Pair) (lines : List BucketLine) → lines ≡ [] → ListsIf list p verdicts.PassThrough lines
none_listed true p lines none = none
none_listed false p lines none = none

pub through_so : (cache backing : DiskFacts) (list : Bool) (lines : List BucketLine) → lines ≡ [] → OfHeld ServesAlone cache backing → OfHeld (λ p. IsVerdict p verdicts.PassThrough × ListsIf list p verdicts.PassThrough lines) cache backing
through_so cache backing list lines none held =
    held_map ServesAlone (λ p. IsVerdict p verdicts.PassThrough × ListsIf list p verdicts.PassThrough lines) cache backing (λ p x y alone. (alone, none_listed list p lines none)) held

pub with_lines : (P Q L : Pair → Type 0) (cache backing : DiskFacts) → ((p : Pair) → P p → L p) → OfHeld (λ p. P p → Q p) cache backing → OfHeld (λ p. P p → Q p × L p) cache backing
with_lines P Q L cache backing lines held = held_map (λ p. P p → Q p) (λ p. P p → Q p × L p) cache backing (λ p x y so has. (so has, lines p has)) held

pub verdict_alone : (Q L : Pair → Type 0) (cache backing : DiskFacts) → OfHeld (λ p. Q p × L p) cache backing → OfHeld Q cache backing
verdict_alone Q L cache backing held = held_map (λ p. Q p × L p) Q cache backing (λ p x y so. so.0) held
