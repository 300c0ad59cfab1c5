-- What the tests of the code tell.
use Rattle.std.proofs.Common.{◌≡◌, ◌⊎◌, inl, inr, Bool, true, false, ◌&&◌, ◌||◌, Option, Some, None, refl, sym, ap, ◌∙◌, subst, IsTrue}
use Rattle.std.specs.Prelude.{◌↔◌}
use Rattle.std.specs.Cmp.Lexicographic.{pointwise}
use Rattle.std.proofs.Math.Dec.{eqb}
use Rattle.std.proofs.lemmas.Bool.Decides.{Decides-eqb}
use Rattle.std.proofs.lemmas.Slice.Eq.{slice_eq-Decides}
use Rattle.bc_model.specs.Sector.{Value, unless}

-- the test of two values
pub equals : (a b : Value) (r : Bool) → r ≡ pointwise eqb a b → IsTrue r ↔ (a ≡ b)
equals a b r is = slice_eq-Decides Decides-eqb a b r is

pub both : {A B C : Type 0} (a b : Bool) → IsTrue a ↔ A → IsTrue b ↔ B → C ↔ (A × B) → IsTrue (a && b) ↔ C
both true true p q r = ((λ t. r.1 (p.0 refl, q.0 refl)), (λ h. refl))
both true false p q r = ((λ t. absurd (cc)), (λ h. q.1 (r.0 h).1))
both false b p q r = ((λ t. absurd (cc)), (λ h. p.1 (r.0 h).0))

pub either : {A B C : Type 0} (a b : Bool) → IsTrue a ↔ A → IsTrue b ↔ B → C ↔ (A ⊎ B) → IsTrue (a || b) ↔ C
either {A = A} {B = B} true b p q r = ((λ t. r.1 (inl (p.0 refl))), (λ h. refl))
either {A = A} {B = B} false b p q r = ((λ t. r.1 (inr (q.0 t))), (λ h. back (r.0 h)))
  where
    back : A ⊎ B → IsTrue b
    back (inl h) = absurd (let not : IsTrue false = p.1 h in cc)
    back (inr h) = q.1 h

-- a sector was given this value, or none
pub given_tells : (v new next before : Value) (o : Option Value) (test : Bool) → o ≡ Some new → test ≡ pointwise eqb new v → next ≡ unless o before → IsTrue test ↔ (v ≡ next)
given_tells v new next before o test some is more =
    let same : next ≡ new = more ∙ ap (λ (p : Option Value). unless p before) some in
    let told = equals new v test is in
    ((λ t. sym (told.0 t) ∙ sym same), (λ e. told.1 (sym (e ∙ same))))

pub kept_tells : (v next before : Value) (o : Option Value) (old test : Bool) → o ≡ None → test ≡ old → next ≡ unless o before → IsTrue old ↔ (v ≡ before) → IsTrue test ↔ (v ≡ next)
kept_tells v next before o old test none is more told =
    let same : next ≡ before = more ∙ ap (λ (p : Option Value). unless p before) none in
    ((λ t. told.0 (sym is ∙ t) ∙ sym same), (λ e. is ∙ told.1 (e ∙ same)))

pub chained : {A C : Type 0} (a : Bool) → IsTrue a ↔ A → C ↔ A → IsTrue a ↔ C
chained a p r = ((λ t. r.1 (p.0 t)), (λ h. p.1 (r.0 h)))

-- what was told before, or that it was this value
pub some_tells : {A C : Type 0} (v given : Value) (o : Option Value) (old test new : Bool) → o ≡ Some given → test ≡ pointwise eqb given v → new ≡ (old || test) → IsTrue old ↔ A → C ↔ (A ⊎ (o ≡ Some v)) → IsTrue new ↔ C
some_tells {A = A} {C = C} v given o old test new some is either_is told more =
    let same = equals given v test is in
    let this : IsTrue test ↔ (o ≡ Some v) = ((λ t. some ∙ ap Some (same.0 t)), (λ e. same.1 (cc))) in
    subst (λ b. IsTrue b ↔ C) (sym either_is) (either old test told this more)

pub none_tells : {A C : Type 0} (v : Value) (o : Option Value) (old new : Bool) → o ≡ None → new ≡ old → IsTrue old ↔ A → C ↔ (A ⊎ (o ≡ Some v)) → IsTrue new ↔ C
none_tells {A = A} {C = C} v o old new none is told more = ((λ t. more.1 (inl (told.0 (sym is ∙ t)))), (λ h. is ∙ told.1 (first (more.0 h))))
  where
    first : A ⊎ (o ≡ Some v) → A
    first (inl a) = a
    first (inr e) = absurd (cc)
