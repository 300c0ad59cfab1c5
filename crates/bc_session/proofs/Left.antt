-- What is left of both devices of a pair that is opened.
use Rattle.std.proofs.Common.{◌≡◌, ◌⊎◌, inl, inr, Some, refl, sym, ◌∙◌, subst}
use Rattle.bc_disk.specs.Disk.{DiskFacts, IfTold}
use Rattle.bc_disk.specs.declared.geometry.Geometry.{Geometry}
use Rattle.bc_open.specs.bc_entered.Enter.{IsHeldStill, KeepsThePair, TearsNone}
use Rattle.bc_open.specs.bc_entered.Laws.{IsMarked, IsSameImage, ShowsTheSame}
use Rattle.bc_image.specs.Pair.{Pair}
use Rattle.bc_image.specs.Reading.{IsView, View}
use Rattle.bc_image.proofs.Supers.{backing_read}
use Rattle.bc_image.proofs.Unique.{one_backing}
use Rattle.bc_model.specs.Sector.{Image}
use Rattle.bc_open.specs.Left.{ChangesState, IsStill, LeavesThePair, SaysState, ShowsOn, TearsNoEntry}
use Rattle.bc_open.proofs.Left.{was_read, with_backing}
use Rattle.bc_open.proofs.States.{everywhere, told_of}
use Rattle.bc_pair.specs.Found.{pair_of}
use Rattle.bc_recover.specs.Read.{IsReadOf}
use Rattle.bc_replay.specs.Causes.{OfHeld}
use Rattle.bc_replay.specs.declared.held.Survey.{Survey}
use Rattle.bc_replay.proofs.Pairs.{of_both}
use Rattle.bc_state.specs.State.{super_in, view_in, with_sector}
use Rattle.bc_state.proofs.State.{law_state}
use Rattle.bc_super.specs.Reading.{ReadsSuper}
use Rattle.bc_super.specs.Writing.{IsBackingSector}
use Rattle.bc_super.specs.declared.backing.BackingSuper.{BackingSuper}
use Rattle.bc_super.specs.declared.state.BackingState.{BackingState}

-- a pair that shows the same shows it in another state too
with_state : (p : Pair) (v : View) (c i : Image) → IsView p v
    → ShowsTheSame p v (record p { cache = c })
    → IsSameImage p.backing i ⊎ IsMarked p v i
    → ShowsTheSame p v (record p { cache = c; backing = i })
with_state p v c i view shows (inl same) = with_backing p v c i shows same
with_state p v c i view shows (inr m) =
    let q : Pair = record p { cache = c } in
    let super = one_backing q shows.later.backing v.backing shows.view.backing view.backing in
    let same = law_state q shows.later m.state m.bytes m.cached shows.view shows.sound
    (subst (λ (x : BackingSuper). IsBackingSector m.bytes (super_in m.state x)) (sym super) m.sector)
    in
    subst (λ (x : Image). ShowsTheSame p v (record p { cache = c; backing = x }))
    (sym (everywhere (with_sector p m.bytes).backing i m.image)) (record {
      later = view_in m.state shows.later;
      geometry = shows.geometry;
      view = same.view;
      sound = same.sound;
      shows = λ s. same.shows s ∙ shows.shows s;
    })

-- ---- of two devices that tell what they hold

module _ (cache backing : DiskFacts) (still : IsStill cache) (rests : IsStill backing)
    (c0 b0 : Image) (tells : cache.holds ≡ Some c0) (told : backing.holds ≡ Some b0)
    (s : Survey) (read : OfHeld (IsReadOf s) cache backing) (b : BackingSuper)
    (reads : ReadsSuper backing b) where
  abbrev pair : Pair
  pair = pair_of cache backing c0 b0

  of_read : IsReadOf s pair
  of_read = told_of (λ i. IsReadOf s (pair_of cache backing c0 i)) backing.holds b0 told
      (told_of (λ i. IfTold backing.holds (λ d. IsReadOf s (pair_of cache backing i d)))
      cache.holds c0 tells read)

  held_still : IsHeldStill pair cache
  held_still = record {
    holds = tells;
    still = told_of (λ held. (image : Image) → cache.may_leave image → IsSameImage held image)
        cache.holds c0 tells still;
  }

  tears_none : (v : View) → IsView pair v → TearsNoEntry pair v
      → TearsNone s.supers.geometry pair.cache s.journal
  tears_none v view tears =
      let was = was_read pair v s view of_read in
      subst (λ (g : Geometry). TearsNone g pair.cache s.journal) was.0 (tears s.journal was.1)

  super_is : (v : View) → IsView pair v → v.backing ≡ b
  super_is v view = one_backing pair v.backing b view.backing
      (backing_read backing pair b told refl view.backing.0 reads)

  marked : (May : BackingState → Type 0) (v : View) → IsView pair v → (image : Image)
      → IsSameImage b0 image ⊎ SaysState May b b0 image
      → IsSameImage pair.backing image ⊎ IsMarked pair v image
  marked May v view image (inl same) = inl same
  marked May v view image (inr says) = inr (record {
    state = says.state;
    cached = says.cached;
    bytes = says.bytes;
    sector = subst (λ (x : BackingSuper). IsBackingSector says.bytes (super_in says.state x))
        (sym (super_is v view)) says.sector;
    image = says.same;
  })

  shows : (cache' backing' : DiskFacts) (May : BackingState → Type 0)
      → KeepsThePair s.supers.geometry s.journal cache cache'
      → ChangesState May b backing backing' → ShowsOn cache' backing' pair
  shows cache' backing' May keeps changes v view sound tears c i may can =
      let was = was_read pair v s view of_read in
      let changed = told_of (λ held. (image : Image) → backing'.may_leave image
      → IsSameImage held image ⊎ SaysState May b held image) backing.holds b0 told changes i can in
      with_state pair v c i view
      (keeps pair v held_still view sound was.0 was.1 (tears_none v view tears) c may)
      (marked May v view i changed)

-- ---- of all devices

pub both_left : (cache cache' backing backing' : DiskFacts) (s : Survey) (b : BackingSuper)
    (May : BackingState → Type 0) → OfHeld (IsReadOf s) cache backing → ReadsSuper backing b
    → KeepsThePair s.supers.geometry s.journal cache cache' → ChangesState May b backing backing'
    → LeavesThePair cache cache' backing backing'
both_left cache cache' backing backing' s b May read reads keeps changes still rests =
    of_both (ShowsOn cache' backing') cache backing (λ c0 b0 tells told.
    shows cache backing still rests c0 b0 tells told s read b reads cache' backing' May keeps changes)
