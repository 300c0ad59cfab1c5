-- A walk goes one way at most.
use Rattle.std.proofs.Common.{◌≡◌, inl, inr, ℕ, zero, suc, List, [], ◌∷◌, sym, subst, ap, ◌∙◌}
use Rattle.std.specs.Prelude.{Ok, Err}
use Rattle.bc_disk.specs.declared.geometry.Geometry.{Geometry}
use Rattle.bc_model.specs.Sector.{Image}
use Rattle.bc_image.specs.Children.{children_of}
use Rattle.bc_image.specs.Pointers.{PointsInto}
use Rattle.bc_image.specs.Tree.{set_keys}
use Rattle.bc_image.proofs.Unique.{one_sets, some_same}
use Rattle.bc_key.specs.declared.key.Key.{Key}
use Rattle.bc_key.specs.declared.ptr.Ptr.{Ptr}
use Rattle.bc_record.specs.Places.{bucket_at}
use Rattle.bc_node.specs.declared.error.NodeError.{NodeError}
use Rattle.bc_set.specs.declared.set.Set.{Set}
use Rattle.bc_walk.specs.declared.error.WalkError.TheVariants as errors
use Rattle.bc_walk.specs.declared.visit.Visit.{Visit}
use Rattle.bc_walk.specs.Walk.{Found, Way, IsVisited, IsMetAgain, IsNew, IsWhole, IsStep, GoesOn, AreSearches, IsSearch, IsIndexSearch, with_node, nothing}
use Rattle.bc_walk.specs.Walk.IsStep.{barred, again, faulty, met}
use Rattle.bc_walk.proofs.OneFault.{one_fault, no_fault}

pub one_place : (g : Geometry) (key : Key) (a b : ℕ) → PointsInto g key a → PointsInto g key b → a ≡ b
one_place g key a b p q = sym p.2 ∙ ap (λ (x : Ptr). bucket_at g x.offset) (some_same p.0 q.0 (sym p.1 ∙ q.1)) ∙ q.2

not_both : (g : Geometry) (seen : List Visit) (key : Key) (bucket : ℕ) → IsMetAgain g seen key → IsNew g seen key bucket → ⊥
not_both g seen key bucket p q = q.free (subst (λ n. IsVisited g seen n) (one_place g key p.bucket bucket p.place q.place) p.taken)

abbrev IsOne : (Found → Way → Type 0) → Type 0
IsOne goes = (old : Found) (a b : Way) → goes old a → goes old b → a ≡ b

module _ (g : Geometry) (image : Image) (level from : ℕ) (key : Key) (below : List Key → Found → Way → Type 0) (one : (children : List Key) → IsOne (below children)) where
  one_met : (old : Found) (a b : Way) (ss ts : List Set) → IsWhole g image level from key ss → IsWhole g image level from key ts → below (children_of (set_keys ss)) (with_node old level from key ss) a
      → below (children_of (set_keys ts)) (with_node old level from key ts) b → a ≡ b
  one_met old a b ss ts p q x y =
      one (children_of (set_keys ts)) (with_node old level from key ts) a b
      (subst (λ (us : List Set). below (children_of (set_keys us)) (with_node old level from key us) a) (one_sets g image level key ss ts p.stand q.stand) x) y

  one_step : IsOne (IsStep g image level from key below)
  one_step old a b (barred p x) (barred q y) = x ∙ sym y
  one_step old a b (barred p x) (again q y) = absurd (p q.proper)
  one_step old a b (barred p x) (faulty k why q fault y) = absurd (p q.proper)
  one_step old a b (barred p x) (met k ss q whole y) = absurd (p q.proper)
  one_step old a b (again p x) (barred q y) = absurd (q p.proper)
  one_step old a b (again p x) (again q y) = x ∙ sym y
  one_step old a b (again p x) (faulty k why q fault y) = absurd (not_both g old.visits key k p q)
  one_step old a b (again p x) (met k ss q whole y) = absurd (not_both g old.visits key k p q)
  one_step old a b (faulty k why p fault x) (barred q y) = absurd (q p.proper)
  one_step old a b (faulty k why p fault x) (again q y) = absurd (not_both g old.visits key k q p)
  one_step old a b (faulty k why p fault x) (faulty m cause q other y) =
      x ∙ ap (λ n. Err (errors.Node n why)) (one_place g key k m p.place q.place) ∙ ap (λ (e : NodeError). Err (errors.Node m e)) (one_fault g image level from key why cause fault other) ∙ sym y
  one_step old a b (faulty k why p fault x) (met m ss q whole y) = absurd (no_fault g image level from key why ss whole fault)
  one_step old a b (met k ss p whole x) (barred q y) = absurd (q p.proper)
  one_step old a b (met k ss p whole x) (again q y) = absurd (not_both g old.visits key k q p)
  one_step old a b (met k ss p whole x) (faulty m why q fault y) = absurd (no_fault g image level from key why ss whole fault)
  one_step old a b (met k ss p whole x) (met m ts q other y) = one_met old a b ss ts whole other x y

goes_once : (on : Found → Type 0) (more : Found → Type 0) (a b : Way) → ((found : Found) → on found → more found → a ≡ b) → (here : Way) → GoesOn on here a → GoesOn more here b → a ≡ b
goes_once on more a b one (Ok found) p q = one found p q
goes_once on more a b one (Err e) p q = p ∙ sym q

one_searches : (search : ℕ → Key → Found → Way → Type 0) → ((from : ℕ) (key : Key) → IsOne (search from key)) → (from : ℕ) (children : List Key) → IsOne (AreSearches search from children)
one_searches search one from [] old a b p q = p ∙ sym q
one_searches search one from (child ∷ children) old a b p q =
    let here : q.0 ≡ p.0 = one from child old q.0 p.0 q.1 p.1 in
    goes_once (λ found. AreSearches search child.end children found a) (λ found. AreSearches search child.end children found b) a b
    (λ found x y. one_searches search one child.end children found a b x y) p.0 p.2 (subst (λ (w : Way). GoesOn (λ found. AreSearches search child.end children found b) w b) here q.2)

pub one_search : (g : Geometry) (image : Image) (level from : ℕ) (key : Key) → IsOne (IsSearch g image level from key)
one_search g image zero from key = one_step g image zero from key (λ children found next. next ≡ Ok found) (λ children old a b p q. p ∙ sym q)
one_search g image (suc level) from key =
    one_step g image (suc level) from key (AreSearches (IsSearch g image level) from) (λ children. one_searches (IsSearch g image level) (one_search g image level) from children)

pub one_index : (g : Geometry) (image : Image) (level : ℕ) (root : Key) (a b : Way) → IsIndexSearch g image level root a → IsIndexSearch g image level root b → a ≡ b
one_index g image level root a b (inl p) (inl q) = p.1 ∙ sym q.1
one_index g image level root a b (inl p) (inr q) = absurd (p.0 q.0)
one_index g image level root a b (inr p) (inl q) = absurd (q.0 p.0)
one_index g image level root a b (inr p) (inr q) = one_search g image level 0 root nothing a b p.1 q.1
