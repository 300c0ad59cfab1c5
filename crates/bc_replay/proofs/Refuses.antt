-- What a survey answers, of two devices.
use Rattle.std.proofs.Common.{◌≡◌, ℕ, List, ◌++◌, Option, Some, None, refl, sym, subst, ap, ◌∙◌}
use Rattle.std.specs.Prelude.{Ok, Err}
use Rattle.bc_disk.specs.Disk.{DiskFacts, IfTold, IsKept}
use Rattle.bc_disk.specs.Device.{next_count}
use Rattle.bc_disk.specs.Gens.{Gens}
use Rattle.bc_disk.specs.declared.disk.Device.TheVariants as device
use Rattle.bc_disk.specs.declared.geometry.Geometry.{Geometry}
use Rattle.bc_entries.specs.Journal.{Journal, HasJournal}
use Rattle.bc_image.specs.Pair.{Pair}
use Rattle.bc_jset.specs.Entries.{FoundEntry}
use Rattle.bc_key.specs.declared.key.Key.{Key}
use Rattle.bc_model.specs.Sector.{Image}
use Rattle.bc_node.specs.declared.error.NodeError.{NodeError}
use Rattle.bc_pair.specs.Found.{pair_of}
use Rattle.bc_super.specs.Super.{data_sectors}
use Rattle.bc_super.specs.declared.backing.BackingSuper.{BackingSuper}
use Rattle.bc_super.specs.declared.cache.CacheSuper.{CacheSuper}
use Rattle.bc_walk.specs.Rule.{Rule}
use Rattle.bc_walk.specs.Seen.{found_of}
use Rattle.bc_walk.specs.Walk.{IsIndexSearch}
use Rattle.bc_walk.specs.declared.visit.Visit.{Visit}
use Rattle.bc_walk.specs.declared.error.WalkError.TheVariants as walks
use Rattle.bc_replay.specs.declared.error.OpenError.{OpenError}
use Rattle.bc_replay.specs.declared.error.OpenError.TheVariants as errors
use Rattle.bc_replay.specs.declared.uses.Use.{Use}
use Rattle.bc_replay.specs.Causes.{OfHeld, IsOpenCause, CountsFault, RisesWith}
use Rattle.bc_replay.specs.First.{IsFirstHead}
use Rattle.bc_replay.specs.Heads.{HasHeads}
use Rattle.bc_replay.specs.Index.{rule_by}
use Rattle.bc_replay.specs.Judge.{IsKnown, IsJudged, IsFirstOf, IsJudgedCause, held_of}
use Rattle.bc_replay.specs.Replay.{IsIndex, HasIndex, IsIndexCause, entry_keys}
use Rattle.bc_replay.specs.Used.{Held}
use Rattle.bc_replay.specs.Survey.{Indexed, OfIndex, IsFirst, IsSurveyCause, HasSurvey}
use Rattle.bc_replay.proofs.Behind.{told_back}
use Rattle.bc_replay.proofs.Surveyed.{known, surveyed}

-- ---- what holds of the pair that two devices hold

pub held_map : (P Q : Pair → Type 0) (cache backing : DiskFacts) → ((p : Pair) → P p → Q p) → OfHeld P cache backing → OfHeld Q cache backing
held_map P Q cache backing so held = go cache.holds backing.holds held
  where
    go : (x y : Option Image) → IfTold x (λ c. IfTold y (λ b. P (pair_of cache backing c b))) → IfTold x (λ c. IfTold y (λ b. Q (pair_of cache backing c b)))
    go None y held = tt
    go (Some c) None held = tt
    go (Some c) (Some b) held = so (pair_of cache backing c b) held

pub two_held : (P : Pair → Type 0) (C : Image → Type 0) (Q : Pair → Type 0) (cache backing : DiskFacts) → ((p : Pair) → p.backing_sectors ≡ backing.sectors → P p → C p.cache → Q p) → OfHeld P cache backing → IfTold cache.holds C → OfHeld Q cache backing
two_held P C Q cache backing so held told = go cache.holds backing.holds held told
  where
    go : (x y : Option Image) → IfTold x (λ c. IfTold y (λ b. P (pair_of cache backing c b))) → IfTold x C → IfTold x (λ c. IfTold y (λ b. Q (pair_of cache backing c b)))
    go None y held told = tt
    go (Some c) None held told = tt
    go (Some c) (Some b) held told = so (pair_of cache backing c b) refl held told

-- ---- refusals

pub open_cause : (cache backing : DiskFacts) (e : OpenError) → IsOpenCause cache backing e → IsSurveyCause cache backing e
open_cause cache backing (errors.Fault d) cause = tt
open_cause cache backing errors.Memory cause = tt
open_cause cache backing (errors.Node bucket why) cause = held_map (λ p. IsFirstHead p (errors.Node bucket why)) (λ p. IsFirst p (errors.Node bucket why)) cache backing (λ p none. absurd none) cause
open_cause cache backing (errors.PointerRange word) cause = held_map (λ p. IsFirstHead p (errors.PointerRange word)) (λ p. IsFirst p (errors.PointerRange word)) cache backing (λ p none. absurd none) cause
open_cause cache backing (errors.TwoUses bucket) cause = held_map (λ p. IsFirstHead p (errors.TwoUses bucket)) (λ p. IsFirst p (errors.TwoUses bucket)) cache backing (λ p none. absurd none) cause
open_cause cache backing (errors.NoSpare found) cause = held_map (λ p. IsFirstHead p (errors.NoSpare found)) (λ p. IsFirst p (errors.NoSpare found)) cache backing (λ p none. absurd none) cause
open_cause cache backing (errors.Super d why) cause = cause
open_cause cache backing errors.NoJournal cause = cause
open_cause cache backing (errors.JournalGap from to) cause = cause
open_cause cache backing (errors.JournalEnd seq) cause = cause
open_cause cache backing (errors.Prio why) cause = cause
open_cause cache backing errors.Uuid cause = cause

module _ (cache backing mid : DiskFacts) (b : BackingSuper) (c : CacheSuper) (g : Geometry) (j : Journal) (gens : Gens) (kept : IsKept cache mid) (held : OfHeld (λ p. HasHeads p b c g j gens) cache backing) where
  abbrev Heads : Pair → Type 0
  Heads p = HasHeads p b c g j gens

  none_held : (Q : Pair → Type 0) → IfTold mid.holds (λ image. HasJournal g image j → ⊥) → OfHeld Q cache backing
  none_held Q none = two_held Heads (λ image. HasJournal g image j → ⊥) Q cache backing (λ p size heads no. absurd (no heads.journal)) held (told_back (λ image. HasJournal g image j → ⊥) cache mid kept none)

  node_first : (p : Pair) (bucket : ℕ) (why : NodeError) → HasHeads p b c g j gens
      → ((has : HasJournal g p.cache j) → IsIndexSearch g p.cache has.entries.newest.item.level has.entries.newest.item.root (Err (walks.Node bucket why))) → IsFirst p (errors.Node bucket why)
  node_first p bucket why heads search = (
    record { backing = b; geometry = g; entries = j.entries; newest = heads.journal.entries.newest; gens = gens; way = Err (walks.Node bucket why) },
    record { cache = c; journal = j; heads = heads; entries = refl; newest = refl; search = search heads.journal },
    refl,
  )

  pub index_cause : (e : OpenError) → IsIndexCause mid g j e → IsSurveyCause cache backing e
  index_cause (errors.Node bucket why) cause =
      let C : Image → Type 0 = λ image. (has : HasJournal g image j) → IsIndexSearch g image has.entries.newest.item.level has.entries.newest.item.root (Err (walks.Node bucket why)) in
      two_held Heads C (λ p. IsFirst p (errors.Node bucket why)) cache backing (λ p size heads search. node_first p bucket why heads search) held (told_back C cache mid kept cause)
  index_cause (errors.Fault device.Cache) cause = tt
  index_cause (errors.Fault device.Backing) cause = tt
  index_cause errors.Memory cause = tt
  index_cause errors.NoJournal cause = none_held (λ p. IsFirst p errors.NoJournal) cause
  index_cause (errors.Super k why) cause = absurd cause
  index_cause (errors.JournalGap from to) cause = absurd cause
  index_cause (errors.JournalEnd seq) cause = absurd cause
  index_cause (errors.Prio why) cause = absurd cause
  index_cause errors.Uuid cause = absurd cause
  index_cause (errors.PointerRange word) cause = absurd cause
  index_cause (errors.TwoUses bucket) cause = absurd cause
  index_cause (errors.NoSpare found) cause = absurd cause

  pub no_entries : IfTold mid.holds (λ image. HasJournal g image j → ⊥) → IsSurveyCause cache backing errors.NoJournal
  no_entries none = none_held (λ p. IsFirst p errors.NoJournal) none

  module _ (newest : FoundEntry) (at : (image : Image) (has : HasJournal g image j) → has.entries.newest ≡ newest) (seen : List Visit) (index : List Key) (word : Option ℕ)
      (found : HasIndex mid (rule_by g (data_sectors backing.sectors b)) j seen index word) where
    abbrev rule : Rule
    rule = rule_by g (data_sectors backing.sectors b)

    abbrev Of : Image → Type 0
    Of image = HasJournal g image j → IsIndex rule image j seen index word

    -- what was known of the pair, and which keys
    record Known (p : Pair) : Type 0 where
      heads : HasHeads p b c g j gens
      size : data_sectors backing.sectors b ≡ data_sectors p.backing_sectors b
      index_of : IsIndex rule p.cache j seen index word
      is_known : IsKnown rule gens newest.item.uuid_bucket seen (index_of.keys ++ entry_keys j.entries) index word
      search : IsIndexSearch g p.cache heads.journal.entries.newest.item.level heads.journal.entries.newest.item.root (Ok (found_of seen index_of.keys))
      same : heads.journal.entries.newest ≡ newest

    known_of : (p : Pair) → p.backing_sectors ≡ backing.sectors → HasHeads p b c g j gens → Of p.cache → Known p
    known_of p size heads of =
        let i = of heads.journal in
        let is : data_sectors backing.sectors b ≡ data_sectors p.backing_sectors b = ap (λ n. data_sectors n b) (sym size) in
        record {
          heads = heads;
          size = is;
          index_of = i;
          is_known = subst (λ (e : FoundEntry). IsKnown rule gens e.item.uuid_bucket seen (i.keys ++ entry_keys j.entries) index word) (at p.cache heads.journal) (known p b c g j gens heads (data_sectors backing.sectors b) is seen index word i);
          search = subst (λ (e : FoundEntry). IsIndexSearch g p.cache e.item.level e.item.root (Ok (found_of seen i.keys))) (at p.cache i.journal ∙ sym (at p.cache heads.journal)) i.search;
          same = at p.cache heads.journal;
        }

    with_known : (Q : Pair → Type 0) → ((p : Pair) → Known p → Q p) → OfHeld Q cache backing
    with_known Q so = two_held Heads Of Q cache backing (λ p size heads of. so p (known_of p size heads of)) held (told_back Of cache mid kept found)

    of_index : (p : Pair) (k : Known p) (P : Rule → Held → Type 0) → P rule (held_of rule gens newest.item.uuid_bucket seen (k.index_of.keys ++ entry_keys j.entries)) → OfIndex p P
    of_index p k P holds =
        let i : Indexed = record { backing = b; geometry = g; entries = j.entries; newest = newest; gens = gens; way = Ok (found_of seen k.index_of.keys) } in (
          i,
          found_of seen k.index_of.keys,
          record {
            cache = c;
            journal = j;
            heads = k.heads;
            entries = refl;
            newest = k.same;
            search = subst (λ (e : FoundEntry). IsIndexSearch g p.cache e.item.level e.item.root (Ok (found_of seen k.index_of.keys))) k.same k.search;
          },
          refl,
          subst (λ n. P (rule_by g n) (held_of (rule_by g n) gens newest.item.uuid_bucket seen (k.index_of.keys ++ entry_keys j.entries))) k.size holds,
        )

    abbrev Judges : OpenError → Type 0
    Judges e = (keys : List Key) → IsKnown rule gens newest.item.uuid_bucket seen keys index word → IsFirstOf rule (held_of rule gens newest.item.uuid_bucket seen keys) e

    here : (e : OpenError) (p : Pair) (k : Known p) → Judges e → IsFirstOf rule (held_of rule gens newest.item.uuid_bucket seen (k.index_of.keys ++ entry_keys j.entries)) e
    here e p k judges = judges (k.index_of.keys ++ entry_keys j.entries) k.is_known

    pub judged_cause : (e : OpenError) → IsJudgedCause rule gens newest.item.uuid_bucket seen index word e → IsSurveyCause cache backing e
    judged_cause (errors.PointerRange word) judges = with_known (λ p. IsFirst p (errors.PointerRange word)) (λ p k. of_index p k (λ r h. IsFirstOf r h (errors.PointerRange word)) (here (errors.PointerRange word) p k judges))
    judged_cause (errors.TwoUses bucket) judges = with_known (λ p. IsFirst p (errors.TwoUses bucket)) (λ p k. of_index p k (λ r h. IsFirstOf r h (errors.TwoUses bucket)) (here (errors.TwoUses bucket) p k judges))
    judged_cause (errors.NoSpare found) judges = with_known (λ p. IsFirst p (errors.NoSpare found)) (λ p k. of_index p k (λ r h. IsFirstOf r h (errors.NoSpare found)) (here (errors.NoSpare found) p k judges))
    judged_cause (errors.Fault d) judges = tt
    judged_cause errors.Memory judges = tt
    judged_cause (errors.Super d why) judges = absurd judges
    judged_cause errors.NoJournal judges = with_known (λ p. IsFirst p errors.NoJournal) (λ p k. absurd (here errors.NoJournal p k judges))
    judged_cause (errors.JournalGap from to) judges = with_known (λ p. IsFirst p (errors.JournalGap from to)) (λ p k. absurd (here (errors.JournalGap from to) p k judges))
    judged_cause (errors.JournalEnd seq) judges = with_known (λ p. IsFirst p (errors.JournalEnd seq)) (λ p k. absurd (here (errors.JournalEnd seq) p k judges))
    judged_cause (errors.Prio why) judges = with_known (λ p. IsFirst p (errors.Prio why)) (λ p k. absurd (here (errors.Prio why) p k judges))
    judged_cause errors.Uuid judges = with_known (λ p. IsFirst p errors.Uuid) (λ p k. absurd (here errors.Uuid p k judges))
    judged_cause (errors.Node bucket why) judges = with_known (λ p. IsFirst p (errors.Node bucket why)) (λ p k. absurd (here (errors.Node bucket why) p k judges))

    pub survey_held : (table : List Use) → ((keys : List Key) → IsKnown rule gens newest.item.uuid_bucket seen keys index word → IsJudged rule (held_of rule gens newest.item.uuid_bucket seen keys) table)
        → OfHeld (λ p. HasSurvey p b c g j gens seen index table) cache backing
    survey_held table judges = with_known (λ p. HasSurvey p b c g j gens seen index table) (λ p k.
        surveyed p b c g j gens k.heads (data_sectors backing.sectors b) k.size seen k.index_of.keys index table k.search k.index_of.last.last
        (subst (λ (e : FoundEntry). IsJudged rule (held_of rule gens e.item.uuid_bucket seen (k.index_of.keys ++ entry_keys j.entries)) table) (sym k.same) (judges (k.index_of.keys ++ entry_keys j.entries) k.is_known)))

-- ---- counts of faults

pub counts_index : (T : Type 0) (d : DiskFacts) (g : Geometry) (j : Journal) (e : OpenError) (cache mid last backing after : DiskFacts) → IsIndexCause d g j e → mid.faults ≡ cache.faults → after.faults ≡ backing.faults
    → RisesWith {T = T} (Err e) mid.faults last.faults → CountsFault e cache last backing after
counts_index T d g j (errors.Fault device.Cache) cache mid last backing after cause same other rises = (subst (λ n. last.faults ≡ next_count n) same rises, other)
counts_index T d g j (errors.Fault device.Backing) cache mid last backing after cause same other rises = absurd cause
counts_index T d g j e cache mid last backing after cause same other rises = (subst (λ n. last.faults ≡ n) same rises, other)

pub counts_judged : (r : Rule) (gens : Gens) (uuid_bucket : Key) (seen : List Visit) (index : List Key) (word : Option ℕ) (e : OpenError) (cache last backing after : DiskFacts) → IsJudgedCause r gens uuid_bucket seen index word e
    → last.faults ≡ cache.faults → after.faults ≡ backing.faults → CountsFault e cache last backing after
counts_judged r gens uuid_bucket seen index word (errors.Fault d) cache last backing after cause same other = absurd cause
counts_judged r gens uuid_bucket seen index word e cache last backing after cause same other = (same, other)

pub counts_none : (cache last backing after : DiskFacts) → last.faults ≡ cache.faults → after.faults ≡ backing.faults → CountsFault errors.NoJournal cache last backing after
counts_none cache last backing after same other = (same, other)
