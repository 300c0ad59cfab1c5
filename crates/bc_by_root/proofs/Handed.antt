-- What a seat has in hand while it changes the tree.
use Rattle.std.proofs.Common.{◌≡◌, ℕ, true, Option, None, Some, refl, sym, ap, ◌∙◌, subst}
use Rattle.std.specs.Prelude.{IfErr, Result, is_some}
use Rattle.bc_install.specs.bc_change.Ready.{IsReadyFor}
use Rattle.bc_install.specs.bc_entry.Entry.{HasJournalAndCache}
use Rattle.bc_install.specs.bc_hand.Seats.{HasNoneBehindLeaves}
use Rattle.bc_install.specs.bc_hand.declared.hand.Hand.{Hand}
use Rattle.bc_install.specs.bc_machine.World.{FromEach, World}
use Rattle.bc_journal.specs.Journal.{Journal}
use Rattle.bc_tree.specs.declared.plan.Plan.{Plan}
use Rattle.bc_by_root.specs.Done.{IsToInstall, KeepsPromises, MayAgain}
use Rattle.bc_by_root.specs.declared.error.ByRootError.{ByRootError}
use Rattle.bc_by_root.specs.declared.error.ByRootError.TheVariants as error
use Rattle.bc_by_root.specs.declared.error.NotBegun.{NotBegun}
use Rattle.bc_by_root.specs.Given.{HasTreeFor, MayChange}
use Rattle.bc_by_root.specs.declared.prepare.Installing.{Installing}

pub some_of : {A : Type 0} (o : Option A) → is_some o ≡ true → (a : A) × (o ≡ Some a)
some_of None is = absurd (cc)
some_of (Some a) is = (a, refl)

-- promises are as many before and behind
pub kept_around : {A : Type 0} (r : Result A ByRootError) (a b c d : ℕ) → b ≡ a → d ≡ c
    → IfErr r (λ e. KeepsPromises e b c) → IfErr r (λ e. KeepsPromises e a d)
kept_around r a b c d first last h = subst (λ n. IfErr r (λ e. KeepsPromises e n d)) first
    (subst (λ n. IfErr r (λ e. KeepsPromises e b n)) (sym last) h)

module _ {C B : Type 0} where
  -- the same tree and leaves are in another hand
  pub record SameTree (h k : Hand C B) : Type 0 where
    pub spine : k.spine ≡ h.spine
    pub leaves : k.leaves ≡ h.leaves

  pub may_as : (h k : Hand C B) (parts i n : ℕ) (plan : Plan) (x y : World) → SameTree h k
      → MayChange h parts i plan x → FromEach y (IsReadyFor n plan) → MayChange k parts n plan y
  may_as h k parts i n plan x y same may ready = record {
    keys = may.keys;
    spine = may.spine;
    is_spine = same.spine ∙ may.is_spine;
    changing = may.changing;
    leaves = may.leaves;
    are_leaves = same.leaves ∙ may.are_leaves;
    root = may.root;
    up = may.up;
    level = may.level;
    proper = may.proper;
    gone = may.gone;
    same = may.same;
    ready = ready;
  }

  -- where no entry was begun, and nothing has changed since
  pub again_not : (why : NotBegun) (h : Hand C B) (parts i : ℕ) (plan : Plan) (x : World)
      → MayChange h parts i plan x → MayAgain (error.NotBegun why) h parts i plan x
  again_not why h parts i plan x may = may

  pub install_as : (h k : Hand C B) (parts i : ℕ) (plan : Plan) (s : Installing) (x : World)
      → SameTree k h → IsToInstall h parts i plan s x → IsToInstall k parts i plan s x
  install_as h k parts i plan s x same may b = let it = may b in record {
    at = record {
      spine = it.at.spine;
      is_spine = sym same.spine ∙ it.at.is_spine;
      leaves = it.at.leaves;
      are_leaves = sym same.leaves ∙ it.at.are_leaves;
      buckets = b;
      are_buckets = refl;
      fits = it.at.fits;
    };
    gone_are = it.gone_are;
    its_part = it.its_part;
    how = it.how;
    up = it.up;
    proper = it.proper;
    counts = it.counts;
    made = it.made;
    ends = it.ends;
  }

  pub tree_for : (h : Hand C B) (parts i : ℕ) (plan : Plan) (x : World)
      → MayChange h parts i plan x → HasTreeFor h plan
  tree_for h parts i plan x may = record {
    spine = may.spine;
    is_spine = may.is_spine;
    leaves = may.leaves;
    are_leaves = may.are_leaves;
    fits = may.up.fits;
    root = may.root;
    brings = may.up.brings;
  }

  -- the journal and the cache device were taken
  module _ (a b c d e : Hand C B) (j : Journal) (x : C) (first : b ≡ record a { journal = None })
      (second : c ≡ record b { journal = Some j }) (third : d ≡ record c { cache = None })
      (fourth : e ≡ record d { cache = Some x }) where
    both_is : e ≡ record a { journal = Some j; cache = Some x }
    both_is = fourth ∙ ap (λ (h : Hand C B). record h { cache = Some x }) third
        ∙ ap (λ (h : Hand C B). record h { cache = Some x }) second
        ∙ ap (λ (h : Hand C B). record h { journal = Some j; cache = Some x }) first

    pub same_tree : SameTree a e
    same_tree = record {
      spine = ap (λ (h : Hand C B). h.spine) both_is;
      leaves = ap (λ (h : Hand C B). h.leaves) both_is;
    }

    pub have_both : HasJournalAndCache e
    have_both = record {
      journal = ap (λ (h : Hand C B). is_some h.journal) both_is;
      cache = ap (λ (h : Hand C B). is_some h.cache) both_is;
    }

    -- and given back
    pub restored : (f g k : Hand C B) → HasNoneBehindLeaves a
        → f ≡ record e { journal = f.journal; cache = f.cache } → g ≡ record f { cache = None }
        → k ≡ record g { journal = None } → k ≡ a
    restored f g k none rest fifth sixth = sixth
        ∙ ap (λ (h : Hand C B). record h { journal = None }) fifth
        ∙ ap (λ (h : Hand C B). record h { journal = None; cache = None }) rest
        ∙ ap (λ (h : Hand C B). record h { journal = None; cache = None }) both_is
        ∙ ap (λ (o : Option Journal). record a { journal = o; cache = None }) (sym none.journal)
        ∙ ap (λ (o : Option C). record a { cache = o }) (sym none.cache)
