-- What is said of the pair that a device holds, of one that kept what it held.
use Rattle.std.proofs.Common.{◌≡◌, ℕ, zero, suc, ◌-◌, List, [], ◌∷◌, ◌++◌, length, Option, Some, None, refl, sym, ap, ◌∙◌, subst, arith, length-append}
use Rattle.std.specs.Prelude.{slice_get}
use Rattle.bc_disk.specs.Disk.{BothTold, DiskFacts, IfTold, IsKept}
use Rattle.bc_disk.specs.declared.disk.Device.TheVariants as device
use Rattle.bc_image.specs.Pair.{Pair}
use Rattle.bc_jset.specs.Entries.{FoundEntry}
use Rattle.bc_loaded.specs.Loaded.{IsLoadCause}
use Rattle.bc_model.specs.Sector.{Image}
use Rattle.bc_recover.specs.Read.{IsReadOf}
use Rattle.bc_regrow.specs.Tree.{IsTreeCause, OfRead}
use Rattle.bc_replay.specs.declared.error.OpenError.{OpenError}
use Rattle.bc_replay.specs.declared.error.OpenError.TheVariants as errors
use Rattle.bc_replay.specs.declared.held.Survey.{Survey}
use Rattle.bc_regrow.proofs.Told.{refuse_level}
use Rattle.bc_replay.proofs.Behind.{told_back}
use Rattle.bc_resume.specs.Resume.{HasNoLevel}

told_on : (P : Image → Type 0) (a b : DiskFacts) → IsKept a b → IfTold a.holds P → IfTold b.holds P
told_on P a b kept so = go a.holds b.holds kept.holds so
  where
    go : (x y : Option Image) → BothTold (λ (p q : Image). (s : _) → q s ≡ p s) x y → IfTold x P
        → IfTold y P
    go None None both p = tt
    go None (Some y) both p = absurd both
    go (Some x) None both p = absurd both
    go (Some x) (Some y) both p = let same : y ≡ x = (λ i. λ s. both s i) in subst P (sym same) p

module _ (s : Survey) (old new : DiskFacts) (kept : IsKept old new) where
  pub read_on : (P : (p : Pair) → IsReadOf s p → Type 0) → OfRead s old P → OfRead s new P
  read_on P so = told_on (λ image. (p : Pair) → (h : IsReadOf s p) → p.cache ≡ image → P p h)
      old new kept so

  read_back : (P : (p : Pair) → IsReadOf s p → Type 0) → OfRead s new P → OfRead s old P
  read_back P so = told_back (λ image. (p : Pair) → (h : IsReadOf s p) → p.cache ≡ image → P p h)
      old new kept so

  pub cause_back : (e : OpenError) → IsTreeCause s new e → IsTreeCause s old e
  cause_back (errors.Fault device.Cache) so = tt
  cause_back errors.Memory so = tt
  cause_back e so = read_back (λ p h. ⊥) so

-- no call of the device failed
pub load_cause : (s : Survey) (d : DiskFacts) (e : OpenError) → IsTreeCause s d e
    → ((k : _) → e ≡ errors.Fault k → ⊥) → IsLoadCause s d e
load_cause s d (errors.Fault k) cause other = absurd (other k refl)
load_cause s d errors.Memory cause other = tt
load_cause s d e cause other = cause

-- ---- the journal's newest entry

last_at : (xs : List FoundEntry) (e : FoundEntry) (k : ℕ) → k ≡ length xs
    → slice_get (xs ++ e ∷ []) k ≡ Some e
last_at [] e zero is = refl
last_at [] e (suc k) is = absurd (omega (arith, is))
last_at (x ∷ xs) e zero is = absurd (omega (arith, is))
last_at (x ∷ xs) e (suc k) is = last_at xs e k (omega (arith, is))

-- of a pair that was read it tells a level
pub no_level : (s : Survey) (d : DiskFacts) → HasNoLevel s.journal
    → IsTreeCause s d errors.NoJournal
no_level s d h =
    let es = s.journal.entries in
    let long = ap (λ (xs : List FoundEntry). length xs) h.parts in
    let both = length-append h.older (h.newest ∷ []) in
    let size : length es - 1 ≡ length h.older = omega (arith, long, both) in
    refuse_level s d h.newest
    (ap (λ (xs : List FoundEntry). slice_get xs (length es - 1)) h.parts
    ∙ last_at h.older h.newest (length es - 1) size) errors.NoJournal h.level
