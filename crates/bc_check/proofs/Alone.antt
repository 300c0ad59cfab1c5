-- Whether the backing device of a pair serves alone, by its superblock as it is read.
use Rattle.std.proofs.Common.{◌≡◌, ◌≢◌, ℕ, ◌<◌, ◌≤◌, inl, inr, Bool, true, false, List, Option, Some, None, refl, sym, subst, ◌∙◌, arith, IsTrue}
use Rattle.std.specs.Bool.{MatchBool}
use Rattle.std.specs.Prelude.{◌↔◌, Result, Ok, Err, IfOk, MatchResult, OnOk}
use Rattle.std.proofs.lemmas.Bool.{cases_lt}
use Rattle.bc_disk.specs.declared.disk.Device.TheVariants as device
use Rattle.bc_check.specs.declared.verdict.CheckError.{CheckError}
use Rattle.bc_check.specs.declared.verdict.CheckError.TheVariants as checks
use Rattle.bc_disk.specs.Disk.{DiskFacts, IfTold, IsCounted}
use Rattle.bc_image.specs.Pair.{Pair, super_bytes, HasBacking}
use Rattle.bc_image.specs.Sound.{ServesAlone}
use Rattle.bc_image.proofs.Supers.{backing_read}
use Rattle.bc_image.proofs.Unique.{one_backing}
use Rattle.bc_model.specs.Sector.{Image, Gives, values_of}
use Rattle.bc_record.specs.Sectors.{Has}
use Rattle.bc_record.proofs.Parts.{bytes_in-has}
use Rattle.bc_super.specs.Division.{IsPassThrough}
use Rattle.bc_super.specs.Reading.{IsCause, ReadsRefused, ReadsSuper, call_of}
use Rattle.bc_super.specs.Super.{IsRefused}
use Rattle.bc_super.specs.declared.backing.BackingSuper.{BackingSuper}
use Rattle.bc_super.specs.declared.error.SuperError.{SuperError}
use Rattle.bc_super.specs.declared.error.SuperError.TheVariants as super
use Rattle.bc_super.proofs.Readings.{apart}
use Rattle.bc_check.specs.Verdict.{DecidesAlone}

if_held : (P : Image → Type 0) (o : Option Image) → ((image : Image) → o ≡ Some image → P image) → IfTold o P
if_held P None f = tt
if_held P (Some image) f = f image refl

module _ (d : DiskFacts) where
  by_super : (b : BackingSuper) (alone : Bool) → 16 ≤ d.sectors → ReadsSuper d b → IsTrue alone ↔ IsPassThrough b → (p : Pair) → d.holds ≡ Some p.backing → p.backing_sectors ≡ d.sectors → MatchBool alone (ServesAlone p) (¬ (ServesAlone p))
  by_super b alone large reads tells p told size = go alone tells
    where
      has : HasBacking p b
      has = backing_read d p b told (sym size) (omega (arith, large, size)) reads

      go : (t : Bool) → IsTrue t ↔ IsPassThrough b → MatchBool t (ServesAlone p) (¬ (ServesAlone p))
      go true so = (b, has, so.0 refl)
      go false so = λ alone_. absurd (let true_ = so.1 (subst IsPassThrough (one_backing p alone_.0 b alone_.1 has) alone_.2) in cc)

  pub alone_told : (b : BackingSuper) (alone : Bool) → 16 ≤ d.sectors → ReadsSuper d b → IsTrue alone ↔ IsPassThrough b → DecidesAlone d alone
  alone_told b alone large reads tells =
      if_held (λ image. (p : Pair) → p.backing ≡ image → p.backing_sectors ≡ d.sectors → MatchBool alone (ServesAlone p) (¬ (ServesAlone p))) d.holds
      (λ image told p is size. by_super b alone large reads tells p (told ∙ (λ i. Some (sym is i))) size)

  refused_there : (why : SuperError) → ReadsRefused d why → (p : Pair) → d.holds ≡ Some p.backing → p.backing_sectors ≡ d.sectors → ¬ (ServesAlone p)
  refused_there why (bytes, there, refused) p told size (b, has, through) =
      let at : Has p.backing 8 (values_of bytes) = subst (λ (o : Option Image). IfTold o (λ held. Gives 8 (values_of bytes) (λ s v. v ≡ held s))) told there.read in
      let same : super_bytes p.backing ≡ bytes = bytes_in-has p.backing 8 5 bytes there.whole at in
      let one = subst (λ (bs : List ℕ). IsRefused bs d.sectors why) (sym same) refused in
      apart (super_bytes p.backing) p.backing_sectors b why has.1 (subst (λ n. IsRefused (super_bytes p.backing) n why) (sym size) one)

  by_cause : (why : SuperError) → why ≢ super.Fault → IsCause d why → (p : Pair) → d.holds ≡ Some p.backing → p.backing_sectors ≡ d.sectors → ¬ (ServesAlone p)
  by_cause super.DeviceSmall not small p told size = λ alone. (let large = alone.1.0 in absurd (omega (arith, small, size, large)))
  by_cause super.Fault not cause p told size = absurd (not refl)
  by_cause why not cause p told size = refused_there why cause p told size

  pub refused_told : (why : SuperError) → why ≢ super.Fault → IsCause d why → DecidesAlone d false
  refused_told why not cause =
      if_held (λ image. (p : Pair) → p.backing ≡ image → p.backing_sectors ≡ d.sectors → ¬ (ServesAlone p)) d.holds
      (λ image told p is size. by_cause why not cause p (told ∙ (λ i. Some (sym is i))) size)

  -- ---- a superblock that is refused

  abbrev Refused : SuperError → Result Bool CheckError → Type 0
  Refused why r = MatchResult r (λ alone. (alone ≡ false) × (why ≢ super.Fault)) (λ e. (e ≡ checks.Fault device.Backing) × (why ≡ super.Fault))

  pub refused_so : (why : SuperError) (r : Result Bool CheckError) → Refused why r → IsCause d why → IfOk r (DecidesAlone d)
  refused_so why (Ok alone) so cause = subst (DecidesAlone d) (sym so.0) (refused_told why so.1 cause)
  refused_so why (Err e) so cause = tt

  none_failed : (d' : DiskFacts) (why : SuperError) → why ≢ super.Fault → IsCounted (call_of {T = BackingSuper} (Err why)) d d' → d'.faults ≡ d.faults
  none_failed d' super.Fault not counted = absurd (not refl)
  none_failed d' why not counted = counted.1

  pub good_so : (d' : DiskFacts) (why : SuperError) (r : Result Bool CheckError) → Refused why r → (16 ≤ d.sectors → IsCounted (call_of {T = BackingSuper} (Err why)) d d') → (d.sectors < 16 → d'.faults ≡ d.faults) → OnOk r (d'.faults ≡ d.faults)
  good_so d' why (Ok alone) so counted small = elim (cases_lt d.sectors 16) [ inl low ↦ small low | inr large ↦ none_failed d' why so.1 (counted large) ]
  good_so d' why (Err e) so counted small = tt

  -- one that is refused doesn't serve alone
  pub refused_other : (P : Type 0) (why : SuperError) (r : Result Bool CheckError) → Refused why r → IfOk r (λ alone. alone ≡ true → P)
  refused_other P why (Ok alone) so = λ yes. (let no = so.0 in absurd (cc))
  refused_other P why (Err e) so = tt
