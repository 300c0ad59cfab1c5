-- What stands behind the superblocks, of a device that was read several times.
use Rattle.std.proofs.Common.{◌≡◌, ℕ, zero, suc, ◌-◌, List, [], ◌∷◌, ◌++◌, length, true, false, Option, Some, None, refl, sym, subst, ap, ◌∙◌, arith, length-append}
use Rattle.std.specs.Prelude.{slice_get}
use Rattle.bc_model.specs.Sector.{Image}
use Rattle.bc_disk.specs.Disk.{DiskFacts, IfTold, BothTold, IsKept}
use Rattle.bc_disk.specs.Gens.{Gens}
use Rattle.bc_disk.specs.declared.disk.Device.TheVariants as device
use Rattle.bc_disk.specs.declared.geometry.Geometry.{Geometry}
use Rattle.bc_entries.specs.Journal.{Journal, HasJournal, IsRefused as IsJournalRefused}
use Rattle.bc_entries.specs.Reading.{HoldsJournal}
use Rattle.bc_entries.specs.declared.error.JournalError.TheVariants as journal
use Rattle.bc_jset.specs.Entries.{FoundEntry}
use Rattle.bc_jset.proofs.Entries.{newest_is_last}
use Rattle.bc_prio.specs.Records.{ChainIn, RefusedIn}
use Rattle.bc_replay.specs.declared.error.OpenError.{OpenError}
use Rattle.bc_replay.specs.declared.error.OpenError.TheVariants as errors
use Rattle.bc_replay.specs.Heads.{NamesDevice}
use Rattle.bc_replay.specs.Behind.{HasBehind, IsBehindFirst, IsBehindCause, IsChainCause}
use Rattle.bc_replay.specs.Causes.{DecidesNames}

-- what holds of an image that a device has after it kept all held of the one before
pub told_back : (P : Image → Type 0) (a b : DiskFacts) → IsKept a b → IfTold b.holds P → IfTold a.holds P
told_back P a b kept so = go a.holds b.holds kept.holds so
  where
    go : (x y : Option Image) → BothTold (λ (p q : Image). (s : ℕ) → q s ≡ p s) x y → IfTold y P → IfTold x P
    go None y both p = tt
    go (Some x) None both p = elim both [ ]
    go (Some x) (Some y) both p = let same : y ≡ x = (λ i. λ s. both s i) in subst P same p

two_told : (P Q R : Image → Type 0) (o : Option Image) → ((image : Image) → P image → Q image → R image) → IfTold o P → IfTold o Q → IfTold o R
two_told P Q R None f p q = tt
two_told P Q R (Some image) f p q = f image p q

last_of : (xs : List FoundEntry) (n : FoundEntry) (k : ℕ) → k ≡ length xs → slice_get (xs ++ n ∷ []) k ≡ Some n
last_of [] n zero is = refl
last_of [] n (suc k) is = absurd (omega (arith, is))
last_of (x ∷ xs) n zero is = absurd (omega (arith, is))
last_of (x ∷ xs) n (suc k) is = last_of xs n k (omega (arith, is))

pub newest_at : (g : Geometry) (image : Image) (j : Journal) (has : HasJournal g image j) (newest : FoundEntry) → slice_get j.entries (length j.entries - 1) ≡ Some newest → has.entries.newest ≡ newest
newest_at g image j has newest at =
    let last = newest_is_last g image j.entries has.entries in
    let size : length j.entries - 1 ≡ length last.0 =
    (let long = ap (λ (xs : List FoundEntry). length xs) last.1 in let both = length-append last.0 (has.entries.newest ∷ []) in omega (arith, long, both)) in
    let here : slice_get j.entries (length j.entries - 1) ≡ Some has.entries.newest = ap (λ (xs : List FoundEntry). slice_get xs (length j.entries - 1)) last.1 ∙ last_of last.0 has.entries.newest (length j.entries - 1) size in
    same (slice_get j.entries (length j.entries - 1)) has.entries.newest newest here at
  where
    same : (o : Option FoundEntry) (a b : FoundEntry) → o ≡ Some a → o ≡ Some b → a ≡ b
    same o a b p q = cc

pub none_in : (g : Geometry) (image : Image) (j : Journal) → length j.entries ≡ 0 → HasJournal g image j → ⊥
none_in g image j none has =
    let last = newest_is_last g image j.entries has.entries in
    let long = ap (λ (xs : List FoundEntry). length xs) last.1 in
    let both = length-append last.0 (has.entries.newest ∷ []) in
    absurd (omega (arith, long, both, none))

pub none_left : (g : Geometry) (d : DiskFacts) (uuid : List ℕ) (j : Journal) → length j.entries ≡ 0 → HoldsJournal g d j → IsBehindCause d g uuid errors.NoJournal
none_left g d uuid j none holds = two_told (λ image. HasJournal g image j) (λ image. Unit {0}) (λ image. IsJournalRefused g image journal.NoJournal) d.holds (λ image has _. absurd (empty image has)) holds (all d.holds)
  where
    all : (o : Option Image) → IfTold o (λ image. Unit {0})
    all None = tt
    all (Some image) = tt

    empty : (image : Image) → HasJournal g image j → ⊥
    empty image has =
        let last = newest_is_last g image j.entries has.entries in
        let long = ap (λ (xs : List FoundEntry). length xs) last.1 in
        let both = length-append last.0 (has.entries.newest ∷ []) in
        absurd (omega (arith, long, both, none))

module _ (g : Geometry) (d : DiskFacts) (uuid : List ℕ) (j : Journal) (newest : FoundEntry) (at : slice_get j.entries (length j.entries - 1) ≡ Some newest) (holds : HoldsJournal g d j) where
  pub chain_up : (mid : DiskFacts) (e : OpenError) → IsKept d mid → IsChainCause mid g newest.item.prio e → IsBehindCause d g uuid e
  chain_up mid (errors.Prio why) kept cause =
      two_told (λ image. HasJournal g image j) (λ image. RefusedIn g image newest.item.prio why) (IsBehindFirst g uuid (errors.Prio why)) d.holds
      (λ image has refused. (j, (has, subst (λ (x : FoundEntry). RefusedIn g image x.item.prio why) (sym (newest_at g image j has newest at)) refused)))
      holds (told_back (λ image. RefusedIn g image newest.item.prio why) d mid kept cause)
  chain_up mid (errors.Fault device.Cache) kept cause = tt
  chain_up mid (errors.Fault device.Backing) kept cause = elim cause [ ]
  chain_up mid errors.Memory kept cause = tt
  chain_up mid (errors.Super k why) kept cause = elim cause [ ]
  chain_up mid errors.NoJournal kept cause = elim cause [ ]
  chain_up mid (errors.JournalGap from to) kept cause = elim cause [ ]
  chain_up mid (errors.JournalEnd seq) kept cause = elim cause [ ]
  chain_up mid errors.Uuid kept cause = elim cause [ ]
  chain_up mid (errors.Node bucket why) kept cause = elim cause [ ]
  chain_up mid (errors.PointerRange word) kept cause = elim cause [ ]
  chain_up mid (errors.TwoUses bucket) kept cause = elim cause [ ]
  chain_up mid (errors.NoSpare found) kept cause = elim cause [ ]

  -- the generations that the newest entry names
  abbrev WithChain : Gens → Image → Type 0
  WithChain gens image = (has : HasJournal g image j) × ChainIn g image has.entries.newest.item.prio gens

  with_chain : (mid : DiskFacts) (gens : Gens) → IsKept d mid → IfTold mid.holds (λ image. ChainIn g image newest.item.prio gens) → IfTold d.holds (WithChain gens)
  with_chain mid gens kept chain =
      two_told (λ image. HasJournal g image j) (λ image. ChainIn g image newest.item.prio gens) (WithChain gens) d.holds
      (λ image has c. (has, subst (λ (x : FoundEntry). ChainIn g image x.item.prio gens) (sym (newest_at g image j has newest at)) c))
      holds (told_back (λ image. ChainIn g image newest.item.prio gens) d mid kept chain)

  pub table_up : (mid last : DiskFacts) (gens : Gens) → IsKept d mid → IsKept d last → IfTold mid.holds (λ image. ChainIn g image newest.item.prio gens)
      → DecidesNames last g newest.item.uuid_bucket uuid false → IsBehindCause d g uuid errors.Uuid
  table_up mid last gens kept stays chain names =
      two_told (WithChain gens) (λ image. ¬ (NamesDevice g image newest.item.uuid_bucket uuid)) (IsBehindFirst g uuid errors.Uuid) d.holds
      (λ image so none. (j, (so.0, (gens, so.1, subst (λ (x : FoundEntry). ¬ (NamesDevice g image x.item.uuid_bucket uuid)) (sym (newest_at g image j so.0 newest at)) none))))
      (with_chain mid gens kept chain) (told_back (λ image. ¬ (NamesDevice g image newest.item.uuid_bucket uuid)) d last stays names)

  pub behind_so : (mid last : DiskFacts) (gens : Gens) → IsKept d mid → IsKept d last → IfTold mid.holds (λ image. ChainIn g image newest.item.prio gens)
      → DecidesNames last g newest.item.uuid_bucket uuid true → IfTold d.holds (λ image. HasBehind g image uuid j gens)
  behind_so mid last gens kept stays chain names =
      two_told (WithChain gens) (λ image. NamesDevice g image newest.item.uuid_bucket uuid) (λ image. HasBehind g image uuid j gens) d.holds
      (λ image so named. record { journal = so.0; chain = so.1; uuids = subst (λ (x : FoundEntry). NamesDevice g image x.item.uuid_bucket uuid) (sym (newest_at g image j so.0 newest at)) named })
      (with_chain mid gens kept chain) (told_back (λ image. NamesDevice g image newest.item.uuid_bucket uuid) d last stays names)
