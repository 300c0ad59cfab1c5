-- The keys of the journal behind those of the tree.
use Rattle.std.proofs.Common.{◌≡◌, ℕ, zero, suc, ◌-◌, ◌+◌, ◌<◌, List, [], ◌∷◌, ◌++◌, length, take, get_or, Option, Some, None, refl, sym, subst, ap, ◌∙◌, arith}
use Rattle.std.specs.Prelude.{All, Ok, Err, slice_get}
use Rattle.std.specs.List.{flat_map}
use Rattle.std.proofs.lemmas.Grind.{flat_map-append}
use Rattle.std.proofs.lemmas.List.{append-nil}
use Rattle.std.proofs.lemmas.List.Elements.{All-head, All-tail}
use Rattle.bc_disk.specs.Disk.{DiskFacts, IfTold}
use Rattle.bc_disk.specs.declared.disk.Device.TheVariants as device
use Rattle.bc_disk.specs.declared.geometry.Geometry.{Geometry}
use Rattle.bc_entries.specs.Journal.{Journal, HasJournal}
use Rattle.bc_image.proofs.Unique.{some_same}
use Rattle.bc_jset.specs.Entries.{FoundEntry, AreEntries}
use Rattle.bc_jset.proofs.Entries.{stand_in_journal}
use Rattle.bc_key.specs.Key.{IsExtent}
use Rattle.bc_key.specs.declared.key.Key.{Key}
use Rattle.bc_model.specs.Sector.{Image}
use Rattle.bc_node.specs.Leaf.{AreAdded}
use Rattle.bc_node.proofs.LastKeys.{added_more}
use Rattle.bc_walk.specs.Seen.{found_of}
use Rattle.bc_walk.specs.Walk.{IsIndexSearch}
use Rattle.bc_walk.specs.declared.visit.Visit.{Visit}
use Rattle.bc_walk.specs.declared.error.WalkError.TheVariants as walks
use Rattle.bc_replay.specs.declared.error.OpenError.{OpenError}
use Rattle.bc_replay.specs.declared.error.OpenError.TheVariants as errors
use Rattle.bc_replay.specs.Index.{HasTree, IsTreeCause, IsIndexed, rule_by}
use Rattle.bc_replay.specs.Refused.{KeepsWord}
use Rattle.bc_replay.specs.Replay.{AddsEntries, HaveExtents, HasIndex, IsIndexCause, entry_keys}
use Rattle.bc_replay.proofs.Behind.{newest_at, none_in}

have_extents : (g : Geometry) (image : Image) (es : List FoundEntry) → AreEntries g image es → HaveExtents es
have_extents g image es are k d low = (stand_in_journal g image es are k d low).4.extents

told_so : (o : Option Image) (P Q : Image → Type 0) → ((image : Image) → P image → Q image) → IfTold o P → IfTold o Q
told_so None P Q so p = tt
told_so (Some image) P Q so p = so image p

module _ (d : DiskFacts) (g : Geometry) (j : Journal) (newest : FoundEntry) (at : slice_get j.entries (length j.entries - 1) ≡ Some newest) where
  pub has_index : (size : ℕ) (visits : List Visit) (tree index : List Key) (old new : Option ℕ) → HasTree d (rule_by g size) newest.item.level newest.item.root visits tree old → AddsEntries j.entries tree index
      → ((seen : List Key) → KeepsWord (rule_by g size) seen old → KeepsWord (rule_by g size) (seen ++ entry_keys j.entries) new) → HasIndex d (rule_by g size) j visits index new
  has_index size visits tree index old new has adds words =
      told_so d.holds (λ image. (keys : List Key) × IsIndexed (rule_by g size) keys tree old × IsIndexSearch g image newest.item.level newest.item.root (Ok (found_of visits keys))) _
      (λ image so journal. record {
        journal = journal;
        keys = so.0;
        search = subst (λ (e : FoundEntry). IsIndexSearch g image e.item.level e.item.root (Ok (found_of visits so.0))) (sym (newest_at g image j journal newest at)) so.2;
        last = record { last = adds (have_extents g image j.entries journal.entries) so.0 so.1.last; first = words so.0 so.1.first };
      }) has

  pub index_cause : (e : OpenError) → IsTreeCause d g newest.item.level newest.item.root e → IsIndexCause d g j e
  index_cause (errors.Node bucket why) cause =
      told_so d.holds (λ image. IsIndexSearch g image newest.item.level newest.item.root (Err (walks.Node bucket why))) _
      (λ image so journal. subst (λ (e : FoundEntry). IsIndexSearch g image e.item.level e.item.root (Err (walks.Node bucket why))) (sym (newest_at g image j journal newest at)) so) cause
  index_cause (errors.Fault device.Cache) cause = tt
  index_cause (errors.Fault device.Backing) cause = elim cause [ ]
  index_cause errors.Memory cause = tt
  index_cause (errors.Super k why) cause = elim cause [ ]
  index_cause errors.NoJournal cause = elim cause [ ]
  index_cause (errors.JournalGap from to) cause = elim cause [ ]
  index_cause (errors.JournalEnd seq) cause = elim cause [ ]
  index_cause (errors.Prio why) cause = elim cause [ ]
  index_cause errors.Uuid cause = elim cause [ ]
  index_cause (errors.PointerRange word) cause = elim cause [ ]
  index_cause (errors.TwoUses bucket) cause = elim cause [ ]
  index_cause (errors.NoSpare found) cause = elim cause [ ]

pub no_journal : (d : DiskFacts) (g : Geometry) (j : Journal) → length j.entries ≡ 0 → IsIndexCause d g j errors.NoJournal
no_journal d g j none = told_so d.holds (λ image. Unit {0}) (λ image. HasJournal g image j → ⊥) (λ image u has. none_in g image j none has) (all d.holds)
  where
    all : (o : Option Image) → IfTold o (λ image. Unit {0})
    all None = tt
    all (Some image) = tt

-- one entry more
pub more_entries : (more before : List FoundEntry) (e : FoundEntry) (old now new : List Key) → more ≡ before ++ e ∷ [] → AreAdded (entry_keys before) old now → AreAdded e.item.keys now new → AreAdded (entry_keys more) old new
more_entries more before e old now new is p q =
    added_more (entry_keys before) e.item.keys (entry_keys more) old now new p q
    (ap entry_keys is ∙ flat_map-append (λ (x : FoundEntry). x.item.keys) before (e ∷ []) ∙ ap (λ (ks : List Key). entry_keys before ++ ks) (append-nil e.item.keys))

pub taken_next : (es : List FoundEntry) (i : ℕ) (e : FoundEntry) → slice_get es i ≡ Some e → take (i + 1) es ≡ take i es ++ e ∷ []
taken_next es i e is = ap (λ n. take n es) one ∙ go es i is
  where
    one : i + 1 ≡ suc i
    one = omega arith

    go : (xs : List FoundEntry) (k : ℕ) → slice_get xs k ≡ Some e → take (suc k) xs ≡ take k xs ++ e ∷ []
    go [] k here = absurd (cc)
    go (x ∷ xs) zero here = ap (λ (y : FoundEntry). y ∷ []) (some_same x e here)
    go (x ∷ xs) (suc k) here = ap (λ (ys : List FoundEntry). x ∷ ys) (go xs k here)

pub extents_at : (es : List FoundEntry) (i : ℕ) (e : FoundEntry) → slice_get es i ≡ Some e → HaveExtents es → All IsExtent e.item.keys
extents_at [] i e here have = absurd (cc)
extents_at (x ∷ es) zero e here have = subst (λ (y : FoundEntry). All IsExtent y.item.keys) (some_same x e here) (All-head (λ y. All IsExtent y.item.keys) x es have)
extents_at (x ∷ es) (suc i) e here have = extents_at es i e here (All-tail (λ y. All IsExtent y.item.keys) x es have)
