-- What is left of both devices, exit by exit.
use Rattle.std.proofs.Common.{◌≡◌, ◌⊎◌, inl, inr, ℕ, List, Option, Some, refl, sym, ap, ◌∙◌, subst}
use Rattle.bc_model.specs.Sector.{Image, Value, values_of}
use Rattle.bc_disk.specs.Disk.{DiskFacts, IfTold, IsKept, Overwritten, Torn}
use Rattle.bc_disk.specs.declared.geometry.Geometry.{Geometry}
use Rattle.bc_entered.specs.Enter.{HasEntered, IsHeldStill, KeepsThePair, TearsNone, WasRead}
use Rattle.bc_entered.specs.Laws.{IsMarked, IsSameImage, ShowsTheSame}
use Rattle.bc_entered.proofs.Law.{law_left}
use Rattle.bc_entered.proofs.Next.{law_next}
use Rattle.bc_enter.specs.Next.{IsNext}
use Rattle.bc_entries.specs.Journal.{HasJournal, Journal as Entries}
use Rattle.bc_image.specs.Pair.{Pair}
use Rattle.bc_image.specs.Reading.{IsView, View}
use Rattle.bc_image.specs.Sound.{HasSoundParts}
use Rattle.bc_image.proofs.Supers.{backing_read}
use Rattle.bc_image.proofs.Unique.{one_backing, one_view}
use Rattle.bc_journal.specs.Journal.{Journal}
use Rattle.bc_journal.specs.Sealed.{AreBytesOf, Sealed, sector_at}
use Rattle.bc_pair.specs.Found.{pair_of}
use Rattle.bc_recover.specs.Read.{IsReadOf}
use Rattle.bc_replay.specs.Causes.{OfHeld}
use Rattle.bc_replay.specs.declared.held.Survey.{Survey}
use Rattle.bc_replay.proofs.Pairs.{of_both}
use Rattle.bc_state.specs.State.{super_in}
use Rattle.bc_super.specs.Reading.{ReadsSuper}
use Rattle.bc_super.specs.Writing.{IsBackingSector}
use Rattle.bc_super.specs.declared.backing.BackingSuper.{BackingSuper}
use Rattle.bc_super.specs.declared.state.BackingState.{BackingState}
use Rattle.bc_open.specs.Left.{ChangesState, IsStill, LeavesThePair, SaysState, ShowsOn, TearsNoEntry}
use Rattle.bc_open.proofs.States.{everywhere, later_of, over_torn, same_held, told_of}

-- ---- images that are the same

module _ (p : Pair) (v : View) where
  pub with_backing : (c b : Image) → ShowsTheSame p v (record p { cache = c })
      → IsSameImage p.backing b → ShowsTheSame p v (record p { cache = c; backing = b })
  with_backing c b shows same =
      subst (λ (x : Image). ShowsTheSame p v (record p { cache = c; backing = x }))
      (sym (everywhere p.backing b same)) shows

  pub as_it_was : IsView p v → HasSoundParts p v → (c : Image) → IsSameImage p.cache c
      → ShowsTheSame p v (record p { cache = c })
  as_it_was view sound c same =
      subst (λ (x : Image). ShowsTheSame p v (record p { cache = x })) (sym (everywhere p.cache c same))
      (record { later = v; geometry = refl; view = view; sound = sound; shows = λ s. refl })

  -- a pair that was read is the one that is seen
  pub was_read : (s : Survey) → IsView p v → IsReadOf s p
      → (v.geometry ≡ s.supers.geometry) × WasRead p v s.journal
  was_read s view h =
      let same : v ≡ h.view = one_view p v h.view view h.is_view in
      let geometry = ap (λ (x : View). x.geometry) same ∙ h.geometry in (
        geometry,
        record {
          journal = subst (λ (g : Geometry). HasJournal g p.cache s.journal) (sym geometry) h.journal;
          entries = sym (ap (λ (x : View). x.reading.entries) same ∙ h.entries);
        },
      )

-- ---- an entry that stands there in part, and whichever state

module _ (p : Pair) (v : View) (read : Entries) (s : Sealed) (bytes : List ℕ) where
  abbrev Keeps : Geometry → Type 0
  Keeps g = IsNext g read s → AreBytesOf g s.entry bytes → TearsNone g p.cache read
      → (c b : Image) → Torn (sector_at g s.place) (values_of bytes) p.cache c
      → IsSameImage p.backing b ⊎ IsMarked p v b
      → ShowsTheSame p v (record p { cache = c; backing = b })

  keeps : IsView p v → HasSoundParts p v → WasRead p v read → Keeps v.geometry
  keeps view sound was next are tears c b torn changed =
      law_left p v s.entry s.place.bucket (sector_at v.geometry s.place) (values_of bytes) view sound
      (law_next v.geometry p.cache v.reading read s bytes view.reading was.journal was.entries next are
      (tears s bytes next are))
      (record p { cache = c; backing = b })
      (record { cache = torn; backing = changed; cache_sectors = refl; backing_sectors = refl })

-- ---- of two devices that tell what they hold

module _ (cache backing : DiskFacts) (still : IsStill cache) (rests : IsStill backing)
    (c0 b0 : Image) (tells : cache.holds ≡ Some c0) (told : backing.holds ≡ Some b0) where
  abbrev pub pair : Pair
  pair = pair_of cache backing c0 b0

  same_cache : (c : Image) → cache.may_leave c → IsSameImage c0 c
  same_cache = told_of (λ held. (image : Image) → cache.may_leave image → IsSameImage held image)
      cache.holds c0 tells still

  same_backing : (b : Image) → backing.may_leave b → IsSameImage b0 b
  same_backing = told_of (λ held. (image : Image) → backing.may_leave image → IsSameImage held image)
      backing.holds b0 told rests

  of_pair : (P : Pair → Type 0) → OfHeld P cache backing → P pair
  of_pair P so = told_of (λ b. P (pair_of cache backing c0 b)) backing.holds b0 told
      (told_of (λ c. IfTold backing.holds (λ b. P (pair_of cache backing c b))) cache.holds c0 tells so)

  -- nothing was written
  kept_shows : (cache' backing' : DiskFacts) → IsKept cache cache' → IsKept backing backing'
      → ShowsOn cache' backing' pair
  kept_shows cache' backing' kept keeps v view sound tears c b may can =
      with_backing pair v c b
      (as_it_was pair v view sound c (same_cache c ((kept.leaves c).0 may)))
      (same_backing b ((keeps.leaves b).0 can))

  module _ (s : Survey) (read : OfHeld (IsReadOf s) cache backing) (mid cache' : DiskFacts)
      (kept : IsKept cache mid) where
    of_read : IsReadOf s pair
    of_read = of_pair (IsReadOf s) read

    held_still : IsHeldStill pair mid
    held_still = record {
      holds = same_held cache.holds mid.holds c0 tells kept.holds;
      still = λ image may. same_cache image ((kept.leaves image).0 may);
    }

    tears_none : (v : View) → IsView pair v → TearsNoEntry pair v
        → TearsNone s.supers.geometry pair.cache s.journal
    tears_none v view tears =
        let was = was_read pair v s view of_read in
        subst (λ (g : Geometry). TearsNone g pair.cache s.journal) was.0 (tears s.journal was.1)

    -- the entry was begun, in part or whole
    entered_shows : (backing' : DiskFacts) → KeepsThePair s.supers.geometry s.journal mid cache'
        → IsKept backing backing' → ShowsOn cache' backing' pair
    entered_shows backing' keeps same v view sound tears c b may can =
        let was = was_read pair v s view of_read in
        with_backing pair v c b
        (keeps pair v held_still view sound was.0 was.1 (tears_none v view tears) c may)
        (same_backing b ((same.leaves b).0 can))

    -- it stands there, and the state may be another one
    module _ (May : BackingState → Type 0) (b : BackingSuper) (reads : ReadsSuper backing b)
        (journal : Journal)
        (entered : HasEntered s.supers.geometry s.journal mid cache' journal) where
      torn_by : (c : Image) → cache'.may_leave c
          → Torn (sector_at s.supers.geometry entered.next.sealed.place) (values_of entered.bytes) c0 c
      torn_by c may =
          let at = sector_at s.supers.geometry entered.next.sealed.place in
          let values = values_of entered.bytes in
          let l = later_of (Overwritten at values) mid.holds cache'.holds c0 held_still.holds
          entered.stored.holds in
          let same = told_of (λ held. (image : Image) → cache'.may_leave image
          → (n : ℕ) → image n ≡ held n) cache'.holds l.image l.is entered.stored.leaves c may in
          over_torn at values c0 c (subst (λ (x : Image). Overwritten at values c0 x)
          (sym (everywhere l.image c same)) l.related)

      super_is : (v : View) → IsView pair v → v.backing ≡ b
      super_is v view = one_backing pair v.backing b view.backing
          (backing_read backing pair b told refl view.backing.0 reads)

      marked : (v : View) → IsView pair v → (image : Image)
          → IsSameImage b0 image ⊎ SaysState May b b0 image
          → IsSameImage pair.backing image ⊎ IsMarked pair v image
      marked v view image (inl same) = inl same
      marked v view image (inr says) = inr (record {
        state = says.state;
        cached = says.cached;
        bytes = says.bytes;
        sector = subst (λ (x : BackingSuper). IsBackingSector says.bytes (super_in says.state x))
            (sym (super_is v view)) says.sector;
        image = says.same;
      })

      pub state_shows : (backing' : DiskFacts) → ChangesState May b backing backing'
          → ShowsOn cache' backing' pair
      state_shows backing' changes v view sound tears c i may can =
          let was = was_read pair v s view of_read in
          let changed = told_of (λ held. (image : Image) → backing'.may_leave image
          → IsSameImage held image ⊎ SaysState May b held image) backing.holds b0 told changes i can in
          subst (λ (g : Geometry). Keeps pair v s.journal entered.next.sealed entered.bytes g) was.0
          (keeps pair v s.journal entered.next.sealed entered.bytes view sound was.1)
          entered.begun.entry entered.are (tears_none v view tears) c i (torn_by c may)
          (marked v view i changed)

-- ---- of all devices

module _ (cache cache' backing backing' : DiskFacts) where
  abbrev Leaves : Type 0
  Leaves = LeavesThePair cache cache' backing backing'

  pub kept_leaves : IsKept cache cache' → IsKept backing backing' → Leaves
  kept_leaves kept keeps still rests = of_both (ShowsOn cache' backing') cache backing
      (λ c0 b0 tells told. kept_shows cache backing still rests c0 b0 tells told cache' backing' kept keeps)

  pub entered_leaves : (s : Survey) (mid : DiskFacts) → OfHeld (IsReadOf s) cache backing
      → IsKept cache mid → KeepsThePair s.supers.geometry s.journal mid cache'
      → IsKept backing backing' → Leaves
  entered_leaves s mid read kept keeps same still rests = of_both (ShowsOn cache' backing') cache backing
      (λ c0 b0 tells told. entered_shows cache backing still rests c0 b0 tells told s read mid cache' kept
      backing' keeps same)

  pub state_leaves : (s : Survey) (mid : DiskFacts) → OfHeld (IsReadOf s) cache backing
      → IsKept cache mid → (May : BackingState → Type 0) (b : BackingSuper) → ReadsSuper backing b
      → (journal : Journal) → HasEntered s.supers.geometry s.journal mid cache' journal
      → ChangesState May b backing backing' → Leaves
  state_leaves s mid read kept May b reads journal entered changes still rests =
      of_both (ShowsOn cache' backing') cache backing (λ c0 b0 tells told. state_shows cache backing still
      rests c0 b0 tells told s read mid cache' kept May b reads journal entered backing' changes)
