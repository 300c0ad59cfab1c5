-- Whether the set may be written, as the parts in hand tell.
use Rattle.std.proofs.Common.{◌≡◌, ℕ, Bool, false, List, Some, sym, ap, ◌∙◌, subst}
use Rattle.std.specs.Prelude.{◌↔◌, Err, IfOk, IsTrue, Ok, Result}
use Rattle.bc_by_root.proofs.Waiting.{never_both, same_some}
use Rattle.bc_by_root.specs.bc_install.bc_hand.declared.hand.Hand.{Hand}
use Rattle.bc_by_root.specs.bc_install.bc_machine.declared.part.SpinePart.{SpinePart}
use Rattle.bc_by_set.specs.Done.{IsOutside}
use Rattle.bc_by_set.specs.Given.{HasTreeToSet, LiesWithin}
use Rattle.bc_by_set.specs.Prepared.{IsPreparedSet}
use Rattle.bc_by_set.specs.declared.prepare.PreparedSet.{PreparedSet}
use Rattle.bc_disk.specs.declared.geometry.Geometry.{Geometry}
use Rattle.bc_inner.specs.Inner.{Inner}
use Rattle.bc_journal.specs.Journal.{Journal}
use Rattle.bc_key.specs.declared.key.Key.{Key}
use Rattle.bc_by_root.specs.bc_install.bc_parent_set.Takes.{IsTaker}
use Rattle.bc_tree.specs.Plan.{Fits}
use Rattle.bc_tree.specs.declared.plan.Plan.{Plan}

module _ {C B : Type 0} (h : Hand C B) (plan : Plan) where
  module _ (t : HasTreeToSet h plan) (ps pr : SpinePart) (ps_is : h.spine ≡ Some ps)
      (pr_is : pr ≡ ps) where
    same : t.spine ≡ pr
    same = same_some h.spine t.spine ps t.is_spine ps_is ∙ sym pr_is

    pub taker_in : (at : ℕ) × (taker : Inner) × (put : List Key)
        × IsTaker pr.spine plan at taker put
    taker_in = (
      t.at,
      t.taker,
      t.put,
      subst (λ (s : SpinePart). IsTaker s.spine plan t.at t.taker t.put) same t.takes,
    )

    pub fits_in : Fits pr.spine plan
    fits_in = subst (λ (s : SpinePart). Fits s.spine plan) same t.fits

  module _ (b : Bool) (m n : ℕ) (ps pr : SpinePart) (ps_is : h.spine ≡ Some ps) (pr_is : pr ≡ ps)
      (m_is : m ≡ n) (says : (at : ℕ) (taker : Inner) (put : List Key)
      → IsTaker pr.spine plan at taker put → IsTrue b ↔ LiesWithin m pr.spine taker) where
    one : (p : SpinePart) → h.spine ≡ Some p → p ≡ pr
    one p p_is = same_some h.spine p ps p_is ps_is ∙ sym pr_is

    told_of : (p : SpinePart) → h.spine ≡ Some p → (at : ℕ) (taker : Inner) (put : List Key)
        → IsTaker p.spine plan at taker put → IsTrue b ↔ LiesWithin n p.spine taker
    told_of p p_is at taker put takes =
        subst (λ k. IsTrue b ↔ LiesWithin k p.spine taker) m_is
        (subst (λ (s : SpinePart). IsTrue b ↔ LiesWithin m s.spine taker) (sym (one p p_is))
        (says at taker put (subst (λ (s : SpinePart). IsTaker s.spine plan at taker put)
        (one p p_is) takes)))

    pub outside : b ≡ false → IsOutside n h plan
    outside off p p_is at taker put takes within =
        never_both b off ((told_of p p_is at taker put takes).1 within)

    pub inside : IsTrue b → (p : SpinePart) → h.spine ≡ Some p → (at : ℕ) (taker : Inner)
        (put : List Key) → IsTaker p.spine plan at taker put → LiesWithin n p.spine taker
    inside on p p_is at taker put takes = (told_of p p_is at taker put takes).0 on

  -- what was prepared of the parts that were read is so of those in hand
  pub prepared_of : {E : Type 0} (r : Result PreparedSet E) (g : Geometry) (js : Journal)
      (ps pr : SpinePart) → h.journal ≡ Some js → h.spine ≡ Some ps → pr ≡ ps
      → g ≡ js.ring.geometry
      → IfOk r (λ x. (at : ℕ) (taker : Inner) (put : List Key)
      → IsTaker pr.spine plan at taker put → IsPreparedSet g pr.spine plan taker x)
      → IfOk r (λ x. (s : SpinePart) (j : Journal) (at : ℕ) (taker : Inner) (put : List Key)
      → h.spine ≡ Some s → h.journal ≡ Some j → IsTaker s.spine plan at taker put
      → IsPreparedSet j.ring.geometry s.spine plan taker x)
  prepared_of (Ok x) g js ps pr js_is ps_is pr_is g_is all = λ s j at taker put s_is j_is takes.
      let spine : pr ≡ s = pr_is ∙ same_some h.spine ps s ps_is s_is in
      let ring : g ≡ j.ring.geometry = g_is ∙ ap (λ (q : Journal). q.ring.geometry)
      (same_some h.journal js j js_is j_is) in
      subst (λ (k : Geometry). IsPreparedSet k s.spine plan taker x) ring
      (subst (λ (q : SpinePart). IsPreparedSet g q.spine plan taker x) spine
      (all at taker put (subst (λ (q : SpinePart). IsTaker q.spine plan at taker put) (sym spine)
      takes)))
  prepared_of (Err e) g js ps pr js_is ps_is pr_is g_is all = tt
