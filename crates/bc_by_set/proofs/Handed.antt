-- What a seat has in hand while it changes the tree by a set.
use Rattle.std.proofs.Common.{◌≡◌, ℕ, true, Bool, Option, None, Some, sym, ap, ◌∙◌, subst}
use Rattle.std.specs.Prelude.{All, IfErr, Result, is_some}
use Rattle.bc_by_root.proofs.Handed.{SameTree}
use Rattle.bc_by_root.specs.bc_install.bc_change.Ready.{IsReadyFor}
use Rattle.bc_by_root.specs.bc_install.bc_entry.Entry.{HasJournalAndCache}
use Rattle.bc_by_root.specs.bc_install.bc_hand.Seats.{HasNoneBehindCache, HasNoneBehindLeaves, Kinds, kinds}
use Rattle.bc_by_root.specs.bc_install.bc_hand.declared.hand.Hand.{Hand}
use Rattle.bc_by_root.specs.bc_install.bc_machine.World.{FromEach, World}
use Rattle.bc_by_root.specs.bc_install.bc_machine.declared.part.SpinePart.{SpinePart}
use Rattle.bc_by_set.specs.Done.{KeepsPromisesSet, MayAgainSet}
use Rattle.bc_by_set.specs.Given.{HasTreeToSet, MayChangeBySet}
use Rattle.bc_by_set.specs.declared.error.BySetError.{BySetError}
use Rattle.bc_by_set.specs.declared.error.BySetError.TheVariants as error
use Rattle.bc_by_set.specs.declared.error.NoSet.{NoSet}
use Rattle.bc_facts.specs.Layout.{IsLayoutOf}
use Rattle.bc_journal.specs.Journal.{Journal}
use Rattle.bc_by_root.specs.bc_install.bc_parent_set.BySet.{NamesThis}
use Rattle.bc_by_root.specs.bc_install.bc_parent_set.Write.{PointsTo}
use Rattle.bc_tree.specs.declared.plan.Plan.{Plan}

-- promises are as many before and behind
pub kept_around : {A : Type 0} (r : Result A BySetError) (a b c d : ℕ) → b ≡ a → d ≡ c
    → IfErr r (λ e. KeepsPromisesSet e b c) → IfErr r (λ e. KeepsPromisesSet e a d)
kept_around r a b c d first last h = subst (λ n. IfErr r (λ e. KeepsPromisesSet e n d)) first
    (subst (λ n. IfErr r (λ e. KeepsPromisesSet e b n)) (sym last) h)

-- nothing has changed from step to step
pub same_four : (a b c d e : ℕ) → b ≡ a → c ≡ b → d ≡ c → e ≡ d → e ≡ a
same_four a b c d e one two three four = four ∙ three ∙ two ∙ one

none_some : {A : Type 0} (o : Option A) → is_some o ≡ true → o ≡ None → ⊥
none_some None some is = absurd (cc)
none_some (Some a) some is = cc

module _ {C B : Type 0} where
  -- the same may be done with another hand, and in another state
  pub may_as : (h k : Hand C B) (parts i n : ℕ) (plan : Plan) (x y : World) → SameTree h k
      → (may : MayChangeBySet h parts i plan x) → FromEach y (IsReadyFor n plan)
      → FromEach y (λ o st. IsLayoutOf may.spine.spine.geometry o.opening.machine.layout)
      → FromEach y (λ o st. All (PointsTo may.spine.spine.geometry o) may.put)
      → FromEach y (NamesThis may.spine.spine.root) → MayChangeBySet k parts n plan y
  may_as h k parts i n plan x y same may ready divided points named = record {
    keys = may.keys;
    spine = may.spine;
    is_spine = same.spine ∙ may.is_spine;
    changing = may.changing;
    leaves = may.leaves;
    are_leaves = same.leaves ∙ may.are_leaves;
    at = may.at;
    taker = may.taker;
    put = may.put;
    by = may.by;
    proper = may.proper;
    gone = may.gone;
    same = may.same;
    ready = ready;
    divided = divided;
    points = points;
    named = named;
  }

  -- where no set was begun, and nothing has changed since
  pub again_not : (why : NoSet) (h : Hand C B) (parts i : ℕ) (plan : Plan) (x : World)
      → MayChangeBySet h parts i plan x → MayAgainSet (error.NotBegun why) h parts i plan x
  again_not why h parts i plan x may = may

  pub tree_to_set : (h : Hand C B) (parts i : ℕ) (plan : Plan) (x : World)
      → MayChangeBySet h parts i plan x → HasTreeToSet h plan
  tree_to_set h parts i plan x may = record {
    spine = may.spine;
    is_spine = may.is_spine;
    leaves = may.leaves;
    are_leaves = may.are_leaves;
    fits = may.by.fits;
    at = may.at;
    taker = may.taker;
    put = may.put;
    takes = may.by.takes;
  }

  -- the cache device is in hand still
  pub behind_cache : (a b : Hand C B) → kinds b ≡ kinds a → is_some a.cache ≡ true
      → b.cache ≡ None → HasNoneBehindCache b
  behind_cache a b same there none =
      absurd (none_some b.cache (ap (λ (x : Kinds). x.cache) same ∙ there) none)

  -- as many parts are in hand
  pub both_still : (e f : Hand C B) → kinds f ≡ kinds e → HasJournalAndCache e
      → HasJournalAndCache f
  both_still e f kinds_are both = record {
    journal = ap (λ (x : Kinds). x.journal) kinds_are ∙ both.journal;
    cache = ap (λ (x : Kinds). x.cache) kinds_are ∙ both.cache;
  }

  -- only the tree and the device have changed
  pub rest_by : (h k : Hand C B) (s : Option SpinePart)
      → k ≡ record h { spine = s; cache = k.cache }
      → k ≡ record h { spine = k.spine; cache = k.cache }
  rest_by h k s is = is ∙ ap (λ (o : Option SpinePart). record h { spine = o; cache = k.cache })
      (sym (ap (λ (x : Hand C B). x.spine) is))

  pub rest_same : (h k : Hand C B) → k ≡ h → k ≡ record h { spine = k.spine; cache = k.cache }
  rest_same h k is = rest_by h k h.spine
      (is ∙ ap (λ (o : Option C). record h { cache = o }) (sym (ap (λ (x : Hand C B). x.cache) is)))

  pub rest_then : (h k l : Hand C B) → k ≡ record h { spine = k.spine; cache = k.cache }
      → l ≡ record k { cache = l.cache } → l ≡ record h { spine = l.spine; cache = l.cache }
  rest_then h k l first then = rest_by h l k.spine
      (then ∙ ap (λ (x : Hand C B). record x { cache = l.cache }) first)

  -- a part was taken, and put into the hand
  pub journal_tree : (a b c : Hand C B) (j : Journal) → b ≡ record a { journal = None }
      → c ≡ record b { journal = Some j } → SameTree a c
  journal_tree a b c j first second = record {
    spine = ap (λ (h : Hand C B). h.spine) second ∙ ap (λ (h : Hand C B). h.spine) first;
    leaves = ap (λ (h : Hand C B). h.leaves) second ∙ ap (λ (h : Hand C B). h.leaves) first;
  }

  pub cache_tree : (a b c : Hand C B) (x : C) → b ≡ record a { cache = None }
      → c ≡ record b { cache = Some x } → SameTree a c
  cache_tree a b c x first second = record {
    spine = ap (λ (h : Hand C B). h.spine) second ∙ ap (λ (h : Hand C B). h.spine) first;
    leaves = ap (λ (h : Hand C B). h.leaves) second ∙ ap (λ (h : Hand C B). h.leaves) first;
  }

  -- the journal and the cache device were taken
  module _ (a b c d e : Hand C B) (j : Journal) (x : C) (first : b ≡ record a { journal = None })
      (second : c ≡ record b { journal = Some j }) (third : d ≡ record c { cache = None })
      (fourth : e ≡ record d { cache = Some x }) where
    taken_is : e ≡ record a { journal = Some j; cache = Some x }
    taken_is = fourth ∙ ap (λ (h : Hand C B). record h { cache = Some x }) third
        ∙ ap (λ (h : Hand C B). record h { cache = Some x }) second
        ∙ ap (λ (h : Hand C B). record h { journal = Some j; cache = Some x }) first

    pub taken_both : e ≡ record a { journal = e.journal; cache = e.cache }
    taken_both = taken_is
        ∙ ap (λ (o : Option Journal). record a { journal = o; cache = Some x })
        (sym (ap (λ (h : Hand C B). h.journal) taken_is))
        ∙ ap (λ (o : Option C). record a { journal = e.journal; cache = o })
        (sym (ap (λ (h : Hand C B). h.cache) taken_is))

  -- both were taken, a set was written or not, and both are given back
  module _ (h e f k : Hand C B) (none : HasNoneBehindLeaves h)
      (taken : e ≡ record h { journal = e.journal; cache = e.cache })
      (gave : k ≡ record f { journal = None; cache = None }) where
    pub back_with : (s : Option SpinePart) → record f { cache = e.cache } ≡ record e { spine = s }
        → k ≡ record h { spine = s }
    back_with s is = gave
        ∙ ap (λ (x : Hand C B). record x { journal = None; cache = None }) is
        ∙ ap (λ (x : Hand C B). record x { spine = s; journal = None; cache = None }) taken
        ∙ ap (λ (o : Option Journal). record h { spine = s; journal = o; cache = None })
        (sym none.journal)
        ∙ ap (λ (o : Option C). record h { spine = s; cache = o }) (sym none.cache)

    pub first_tree : SameTree h e
    first_tree = record {
      spine = ap (λ (x : Hand C B). x.spine) taken;
      leaves = ap (λ (x : Hand C B). x.leaves) taken;
    }

    pub last_tree : SameTree f k
    last_tree = record {
      spine = ap (λ (x : Hand C B). x.spine) gave;
      leaves = ap (λ (x : Hand C B). x.leaves) gave;
    }

    pub back_same : record f { cache = e.cache } ≡ e → k ≡ h
    back_same is = back_with h.spine
        (is ∙ ap (λ (o : Option SpinePart). record e { spine = o }) first_tree.spine)

    module _ (rest : f ≡ record e { spine = f.spine; cache = f.cache })
        (kinds_are : kinds f ≡ kinds e) where
      pub but_spine : k ≡ record h { spine = f.spine }
      but_spine = back_with f.spine (ap (λ (x : Hand C B). record x { cache = e.cache }) rest)

      pub kinds_back : kinds k ≡ kinds h
      kinds_back = ap (λ (x : Hand C B). kinds x) but_spine
          ∙ ap (λ (b : Bool). record (kinds h) { spine = b })
          (ap (λ (x : Kinds). x.spine) kinds_are
          ∙ ap (λ (o : Option SpinePart). is_some o) first_tree.spine)

      pub none_back : HasNoneBehindLeaves k
      none_back = record {
        flight = ap (λ (x : Hand C B). x.flight) but_spine ∙ none.flight;
        buckets = ap (λ (x : Hand C B). x.buckets) but_spine ∙ none.buckets;
        journal = ap (λ (x : Hand C B). x.journal) but_spine ∙ none.journal;
        cache = ap (λ (x : Hand C B). x.cache) but_spine ∙ none.cache;
        backing = ap (λ (x : Hand C B). x.backing) but_spine ∙ none.backing;
      }
