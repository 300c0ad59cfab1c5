-- What a seat knew before it took parts it knows with them in hand.
use Rattle.std.proofs.Common.{◌≡◌, ℕ, [], length, None, Some, Option, sym, ap, ◌∙◌, subst}
use Rattle.std.specs.Prelude.{Err, IfErr, IfOk, OnErr, OnOk, Ok, Result}
use Rattle.bc_disk.specs.Disk.{DiskFacts}
use Rattle.bc_install.proofs.Keeping.{keeps_none}
use Rattle.bc_install.proofs.of_bc_append.of_bc_place.Keeping.{keeps_both}
use Rattle.bc_install.proofs.of_bc_change.Seated.{holds_spine}
use Rattle.bc_install.proofs.of_bc_hand.Knowing.{View, m}
use Rattle.bc_install.specs.Ended.{AreEndsOf}
use Rattle.bc_install.specs.Step.{HasInstalled, MayInstall}
use Rattle.bc_install.specs.bc_append.bc_place.Written.{KeepsPlaces}
use Rattle.bc_install.specs.bc_change.Ready.{IsReadyFor}
use Rattle.bc_install.specs.bc_deed.Flushed.{HasDone}
use Rattle.bc_install.specs.bc_hand.Seats.{Did, Works, world}
use Rattle.bc_install.specs.bc_hand.declared.hand.Hand.{Hand}
use Rattle.bc_install.specs.bc_machine.World.{FromEach, World}
use Rattle.bc_install.specs.bc_machine.declared.part.BucketsPart.{BucketsPart}
use Rattle.bc_install.specs.bc_machine.declared.part.CorePart.{CorePart}
use Rattle.bc_install.specs.bc_machine.declared.part.SpinePart.{SpinePart}
use Rattle.bc_install.proofs.of_bc_deed.Sequence.{done_one}
use Rattle.bc_parts.specs.Seat.{Holds, PartsView}
use Rattle.bc_seats.specs.Seats.{Waited}
use Rattle.bc_tree.specs.declared.plan.Plan.{Plan}
use Rattle.bc_by_root.proofs.Handed.{SameTree, install_as, may_as}
use Rattle.bc_by_root.proofs.Later.{as_done, fixed_waited, made_waited, ready_waited, same_world, twice_done}
use Rattle.bc_by_root.specs.Done.{HasInstalledIn, IsToInstall, MayAgain}
use Rattle.bc_by_root.specs.declared.error.ByRootError.{ByRootError}
use Rattle.bc_by_root.specs.declared.error.ByRootError.TheVariants as error
use Rattle.bc_by_root.specs.declared.prepare.Installing.{Installing}

module _ {C B : Type 0} (cache_facts : C → DiskFacts) (backing_facts : B → DiskFacts) where
  abbrev seen : View cache_facts backing_facts → World
  seen v = world cache_facts backing_facts v

  pub holds_tree : (p : PartsView (CorePart C B)) (v : View cache_facts backing_facts)
      (h : Hand C B) → Works cache_facts backing_facts p v h → (s : SpinePart) → h.spine ≡ Some s
      → Holds v.parts 0
  holds_tree p v h works s is = subst (λ ks. Holds ks 0) (sym works.parts) (holds_spine h s is)

  -- places that a seat keeps while it takes parts and gives them back
  pub keeps_around : (t u v w : View cache_facts backing_facts)
      → HasDone cache_facts backing_facts [] t u → KeepsPlaces cache_facts backing_facts u v
      → HasDone cache_facts backing_facts [] v w → KeepsPlaces cache_facts backing_facts t w
  keeps_around t u v w first keeps last = keeps_both cache_facts backing_facts t v w
      (keeps_both cache_facts backing_facts t u v
      (keeps_none cache_facts backing_facts t u first) keeps)
      (keeps_none cache_facts backing_facts v w last)

  pub taken_done : (t u v : View cache_facts backing_facts)
      → Waited (m cache_facts backing_facts) t u → Waited (m cache_facts backing_facts) u v
      → HasDone cache_facts backing_facts [] t v
  taken_done t u v first then = twice_done cache_facts backing_facts t u v
      (as_done cache_facts backing_facts t u first) (as_done cache_facts backing_facts u v then)

  -- a part was taken, and put into the hand
  module _ (p : PartsView (CorePart C B)) (t u v : View cache_facts backing_facts) (h : Hand C B)
      (works : Works cache_facts backing_facts p t h) (s : SpinePart) (is : h.spine ≡ Some s)
      (first : Waited (m cache_facts backing_facts) t u)
      (second : Waited (m cache_facts backing_facts) u v) (same : v.seen ≡ u.seen) where
    holds : Holds t.parts 0
    holds = holds_tree p t h works s is

    pub first_is : v.first ≡ t.first
    first_is = second.same.first ∙ first.same.first

    world_is : seen v ≡ seen u
    world_is = same_world cache_facts backing_facts u v second same

    pub ready_both : (plan : Plan) → FromEach (seen t) (IsReadyFor t.first plan)
        → FromEach (seen v) (IsReadyFor v.first plan)
    ready_both plan ready = subst (λ n. FromEach (seen v) (IsReadyFor n plan)) (sym first_is)
        (subst (λ (x : World). FromEach x (IsReadyFor t.first plan)) (sym world_is)
        (ready_waited cache_facts backing_facts t u holds works.seat.seat.live first plan ready))

    -- a change may still be installed
    module _ (plan : Plan) (given : Installing)
        (may : IsToInstall h (length p.run.start) t.first plan given (seen t))
        (b : BucketsPart) where
      abbrev it : MayInstall (record h { buckets = Some b }) (length p.run.start) t.first
          given.first plan given.change given.come given.gone (seen t)
      it = may b

      later : MayInstall (record h { buckets = Some b }) (length p.run.start) t.first
          given.first plan given.change given.come given.gone (seen u)
      later = record {
        at = it.at;
        gone_are = it.gone_are;
        its_part = it.its_part;
        how = it.how;
        up = it.up;
        proper = it.proper;
        counts = fixed_waited cache_facts backing_facts t u holds works.seat.seat.live first
            (λ o. o.opening.machine.before ≡ given.first) it.counts;
        made = made_waited cache_facts backing_facts t u holds works.seat.seat.live first
            it.at.spine.spine plan given.change it.how it.made;
        ends = fixed_waited cache_facts backing_facts t u holds works.seat.seat.live first
            (λ o. AreEndsOf o.opening.machine it.at.spine.spine plan given.come.items
            given.gone.items) it.ends;
      }

      pub install_both : (k : Hand C B) → k ≡ record h { buckets = Some b }
          → MayInstall k (length p.run.start) v.first given.first plan given.change given.come
          given.gone (seen v)
      install_both k k_is = subst (λ (a : Hand C B). MayInstall a (length p.run.start) v.first
          given.first plan given.change given.come given.gone (seen v)) (sym k_is)
          (subst (λ n. MayInstall (record h { buckets = Some b }) (length p.run.start) n
          given.first plan given.change given.come given.gone (seen v)) (sym first_is)
          (subst (λ (x : World). MayInstall (record h { buckets = Some b }) (length p.run.start)
          t.first given.first plan given.change given.come given.gone x) (sym world_is) later))

  -- ---- the hand

  pub buckets_in : (a b c : Hand C B) (q : BucketsPart) → b ≡ record a { buckets = None }
      → c ≡ record b { buckets = Some q } → c ≡ record a { buckets = Some q }
  buckets_in a b c q first second =
      second ∙ ap (λ (h : Hand C B). record h { buckets = Some q }) first

  pub buckets_back : (a c d : Hand C B) (q : BucketsPart) → a.buckets ≡ None
      → c ≡ record a { buckets = Some q } → d ≡ record c { buckets = None } → d ≡ a
  buckets_back a c d q none first second =
      second ∙ ap (λ (h : Hand C B). record h { buckets = None }) first
      ∙ ap (λ (o : Option BucketsPart). record a { buckets = o }) (sym none)

  -- ---- an install with the buckets in hand, and without

  module _ (t u v w : View cache_facts backing_facts)
      (first : HasDone cache_facts backing_facts [] t u)
      (last : HasDone cache_facts backing_facts [] v w) (h c d k : Hand C B) (q : BucketsPart)
      (c_is : c ≡ record h { buckets = Some q }) (k_is : k ≡ record d { buckets = None })
      (count : ℕ) (plan : Plan) (given : Installing) where
    pub installed_around : {E : Type 0} (r : Result (Unit {0}) E)
        → OnOk r (HasInstalled cache_facts backing_facts count plan given.change given.first
        given.come given.gone c d u v)
        → OnOk r (HasInstalledIn cache_facts backing_facts count plan given h k t w)
    installed_around (Ok a) h_in = record {
      from = u;
      to = v;
      before = first;
      taken = q;
      with_them = d;
      installed = subst (λ (x : Hand C B). HasInstalled cache_facts backing_facts count plan
          given.change given.first given.come given.gone x d u v) c_is h_in;
      is = k_is;
      since = last;
    }
    installed_around (Err e) none = tt

    pub nothing_around : {A E : Type 0} (r : Result A E)
        → OnErr r (Did cache_facts backing_facts None u v)
        → OnErr r (HasDone cache_facts backing_facts [] t w)
    nothing_around (Ok a) none = tt
    nothing_around (Err e) did = twice_done cache_facts backing_facts t v w
        (twice_done cache_facts backing_facts t u v first
        (done_one cache_facts backing_facts None u v did)) last

  -- ---- may be tried again, with what was taken given back

  module _ (p : PartsView (CorePart C B)) (u v w : View cache_facts backing_facts)
      (h k : Hand C B) (works : Works cache_facts backing_facts p u h)
      (first : Waited (m cache_facts backing_facts) u v)
      (second : Waited (m cache_facts backing_facts) v w) (seen_is : w.seen ≡ v.seen)
      (same : SameTree h k) (plan : Plan) where
    again_on : (e : ByRootError)
        → MayAgain e h (length p.run.start) u.first plan (world cache_facts backing_facts u)
        → MayAgain e k (length p.run.start) w.first plan (world cache_facts backing_facts w)
    again_on (error.NotBegun why) may = may_as h k (length p.run.start) u.first w.first plan
        (seen u) (seen w) same may
        (ready_both p u v w h works may.spine may.is_spine first second seen_is plan may.ready)
    again_on (error.Entry e) may = tt
    again_on (error.Install e) may = tt

    pub again_around : {A : Type 0} (r : Result A ByRootError)
        → IfErr r (λ e. MayAgain e h (length p.run.start) u.first plan
        (world cache_facts backing_facts u))
        → IfErr r (λ e. MayAgain e k (length p.run.start) w.first plan
        (world cache_facts backing_facts w))
    again_around (Ok a) may = tt
    again_around (Err e) may = again_on e may

  -- ---- may be installed, as the whole knows it

  pub may_around : {E : Type 0} (h k : Hand C B) (n i j : ℕ) (plan : Plan) (x y : World)
      → SameTree h k → j ≡ i → y ≡ x → (r : Result Installing E)
      → IfOk r (λ s. IsToInstall k n i plan s x) → IfOk r (λ s. IsToInstall h n j plan s y)
  may_around h k n i j plan x y same number there (Ok s) may =
      subst (λ a. IsToInstall h n a plan s y) (sym number)
      (subst (λ (z : World). IsToInstall h n i plan s z) (sym there)
      (install_as k h n i plan s x same may))
  may_around h k n i j plan x y same number there (Err e) may = tt
