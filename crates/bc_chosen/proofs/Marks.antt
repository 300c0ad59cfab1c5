-- Marks by all keys, as the machine has them.
use Rattle.std.proofs.Common.{subst, ◌≡◌, ◌≢◌, ◌⊎◌, inl, inr, ℕ, ◌<◌, ◌≤◌, Bool, true, false, refl, sym, ap, ◌∙◌, arith, if◌then◌else◌, nat_lt}
use Rattle.std.proofs.lemmas.List.Elements.{All-contains}
use Rattle.bc_books.specs.Marks as books
use Rattle.bc_bucket.specs.Buckets.{Buckets, bucket_of}
use Rattle.bc_bucket.specs.declared.bucket.Mark.{Mark}
use Rattle.bc_bucket.specs.declared.bucket.Mark.TheVariants as marks
use Rattle.bc_disk.specs.declared.geometry.Geometry.{Geometry}
use Rattle.bc_extent.proofs.LastKeys.{last_key_found}
use Rattle.bc_facts.specs.Reads.{back}
use Rattle.bc_facts.proofs.Place.{by_lt}
use Rattle.bc_image.specs.Reading.{Reading, keys_of}
use Rattle.bc_image.specs.Sound.{HasOneUse, HasPointers, IsDataKey}
use Rattle.bc_image.specs.Uses.{Data, IsLiveDirty, IsUsedFor, Journal, Node, Priority, Super, Use, Uuid}
use Rattle.bc_image.proofs.Places.{lies_in_bucket}
use Rattle.bc_opening.specs.Choices as choices
use Rattle.bc_recover.specs.Known.{AreKnown, IsMarkOf, IsMetadata}
use Rattle.bc_replay.proofs.Used.{live_some}
use Rattle.bc_chosen.specs.Marks.{LawMarks, mark_at, mark_of}

-- both ways to say that a bucket has something of the cache itself
of_metadata : (g : Geometry) (r : Reading) (k : ℕ) → IsMetadata g r k → choices.IsMetadata g r k
of_metadata g r k (inl u) = (Super, (λ e. cc), u)
of_metadata g r k (inr (inl u)) = (Journal, (λ e. cc), u)
of_metadata g r k (inr (inr (inl u))) = (Priority, (λ e. cc), u)
of_metadata g r k (inr (inr (inr (inl u)))) = (Uuid, (λ e. cc), u)
of_metadata g r k (inr (inr (inr (inr u)))) = (Node, (λ e. cc), u)

mark_back : (m : Mark) → mark_of m ≡ books.Metadata → m ≡ marks.Metadata
mark_back marks.None e = absurd (cc)
mark_back marks.Reclaimable e = absurd (cc)
mark_back marks.Dirty e = absurd (cc)
mark_back marks.Metadata e = refl

module _ (g : Geometry) (size : ℕ) (r : Reading) (buckets : Buckets) (known : AreKnown g r buckets) (once : HasOneUse g r) (pointers : HasPointers g size r) where
  within : (k : ℕ) → IsLiveDirty g r k → k < g.nbuckets
  within k (sector, key, lies, dirty) =
      let found = last_key_found (keys_of r) sector key lies.last in
      let own = All-contains (IsDataKey g size) (keys_of r) key pointers.data_keys found.0 in
      let in_data = own.ptrs 0 (live_some g r.gens key lies.live) in
      subst (λ n. n < g.nbuckets) (sym (lies_in_bucket g key 0 sector in_data found.1).1 ∙ lies.place)
      in_data.bucket.1

  used_by : (k : ℕ) → IsLiveDirty g r k → IsUsedFor g r Data k
  used_by k live = (live.0, live.1, live.2)

  -- the mark of a bucket of the cache itself, and of one with data that is all there is
  metadata_mark : (k : ℕ) (mark : Mark) (what : Use) → what ≢ Data → IsUsedFor g r what k → IsMarkOf g r k mark → mark ≡ marks.Metadata
  metadata_mark k marks.Metadata what other used is = refl
  metadata_mark k marks.Dirty what other used is = absurd (other (once.one k what Data used (used_by k is)))
  metadata_mark k marks.Reclaimable what other used is = absurd (other (once.one k what Data used is.0))
  metadata_mark k marks.None what other used is = absurd (is what used)

  dirty_mark : (k : ℕ) (mark : Mark) → IsLiveDirty g r k → IsMarkOf g r k mark → mark ≡ marks.Dirty
  dirty_mark k marks.Metadata live is = absurd (let m = of_metadata g r k is in m.1 (once.one k m.0 Data m.2 (used_by k live)))
  dirty_mark k marks.Dirty live is = refl
  dirty_mark k marks.Reclaimable live is = absurd (is.1 live)
  dirty_mark k marks.None live is = absurd (is Data (used_by k live))

  abbrev own : ℕ → Mark
  own q = (bucket_of buckets (back g q)).mark

  own_is : (q : ℕ) → back g q < g.nbuckets → IsMarkOf g r (back g q) (own q)
  own_is q inside = (known.known (back g q) inside).mark

  pub law : choices.AreMarks g r (mark_at g buckets)
  law = record {
    metadata = λ q is. by_lt (back g q) g.nbuckets (λ b. (if b then mark_of (own q) else books.Metadata) ≡ books.Metadata)
        (λ inside. elim is [
          | inl u ↦ ap mark_of (metadata_mark (back g q) (own q) u.0 u.1 u.2 (own_is q inside))
          | inr high ↦ absurd (omega (arith, inside, high))
        ])
        (λ high. refl);
    dirty = λ q live. by_lt (back g q) g.nbuckets (λ b. (if b then mark_of (own q) else books.Metadata) ≡ books.Dirtied)
        (λ inside. ap mark_of (dirty_mark (back g q) (own q) live (own_is q inside)))
        (λ high. absurd (let low = within (back g q) live in omega (arith, low, high)));
    only = λ q. by_lt (back g q) g.nbuckets (λ b. (if b then mark_of (own q) else books.Metadata) ≡ books.Metadata → choices.IsMetadata g r (back g q) ⊎ (g.nbuckets ≤ back g q))
        (λ inside e. inl (of_metadata g r (back g q) (subst (IsMarkOf g r (back g q)) (mark_back (own q) e) (own_is q inside))))
        (λ high e. inr high);
  }

pub law_marks : LawMarks
law_marks g size r buckets known once pointers = law g size r buckets known once pointers
