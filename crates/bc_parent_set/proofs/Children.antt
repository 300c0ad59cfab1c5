-- The children of a node behind a further set, as memory has them and as the core does.
use Rattle.std.proofs.Common.{◌≡◌, ◌⊎◌, inl, inr, ℕ, ◌<◌, ◌≤◌, Bool, true, false, List, [], ◌∷◌, refl, sym, ap, ◌∙◌, subst, arith, if◌then◌else◌, ◌==◌, nat_le, nat_lt}
use Rattle.std.specs.Prelude.{map}
use Rattle.std.proofs.lemmas.Bool.{cases_lt, lt-ltb, le-ltb}
use Rattle.bc_change.specs.bc_machine.Containers.{child_of}
use Rattle.bc_image.specs.Children.{is_bare, child_before, with_child, with_children}
use Rattle.bc_key.specs.declared.key.Key.{Key}
use Rattle.bc_meta.specs.Tree.{Child, put_child, put_children}
use Rattle.bc_meta.proofs.Lists.{by_test, by_le}
use Rattle.bc_whole.specs.State.{Opening}

abbrev before : Child → List Child → List Child
before c ks = if c.gone then ks else c ∷ ks

by_lt : (a b : ℕ) (P : Bool → Type 0) → (a < b → P true) → (b ≤ a → P false) → P (nat_lt a b)
by_lt a b P yes_ no_ = go (cases_lt a b)
  where
    go : (a < b) ⊎ (b ≤ a) → P (nat_lt a b)
    go (inl lt) = subst P (sym (lt-ltb a b lt)) (yes_ lt)
    go (inr ge) = subst P (sym (le-ltb a b ge)) (no_ ge)

module _ (w : Opening) where
  abbrev seen : Key → Child
  seen key = child_of w key

  before_is : (c : Key) (ks : List Key) → before (seen c) (map seen ks) ≡ map seen (child_before c ks)
  before_is c ks = go (is_bare c)
    where
      go : (b : Bool) → (if b then map seen ks else seen c ∷ map seen ks)
          ≡ map seen (if b then ks else c ∷ ks)
      go true = refl
      go false = refl

  put_is : (c : Key) (ks : List Key) → put_child (seen c) (map seen ks) ≡ map seen (with_child c ks)
  put_is c [] = before_is c []
  put_is c (k ∷ ks) =
      let here = before_is c ks in
      let front = before_is c (k ∷ ks) in
      let ih = put_is c ks in
      by_lt c.end k.end (λ lt. put_child (seen c) (seen k ∷ map seen ks)
      ≡ map seen (if lt then child_before c (k ∷ ks)
      else (if c.end == k.end then child_before c ks else k ∷ with_child c ks)))
      (λ lt. by_test k.end c.end (λ e. (if e then before (seen c) (map seen ks)
      else (if nat_le c.end k.end then before (seen c) (seen k ∷ map seen ks)
      else seen k ∷ put_child (seen c) (map seen ks))) ≡ map seen (child_before c (k ∷ ks)))
      (λ same. absurd (omega (arith, same, lt)))
      (λ ne. by_le c.end k.end (λ le. (if le then before (seen c) (seen k ∷ map seen ks)
      else seen k ∷ put_child (seen c) (map seen ks)) ≡ map seen (child_before c (k ∷ ks)))
      (λ _. front) (λ over. absurd (omega (arith, over, lt)))))
      (λ ge. by_test c.end k.end (λ e. put_child (seen c) (seen k ∷ map seen ks)
      ≡ map seen (if e then child_before c ks else k ∷ with_child c ks))
      (λ same. by_test k.end c.end (λ e. (if e then before (seen c) (map seen ks)
      else (if nat_le c.end k.end then before (seen c) (seen k ∷ map seen ks)
      else seen k ∷ put_child (seen c) (map seen ks))) ≡ map seen (child_before c ks))
      (λ _. here) (λ ne. absurd (ne (sym same))))
      (λ other. by_test k.end c.end (λ e. (if e then before (seen c) (map seen ks)
      else (if nat_le c.end k.end then before (seen c) (seen k ∷ map seen ks)
      else seen k ∷ put_child (seen c) (map seen ks))) ≡ map seen (k ∷ with_child c ks))
      (λ same. absurd (other (sym same)))
      (λ _. by_le c.end k.end (λ le. (if le then before (seen c) (seen k ∷ map seen ks)
      else seen k ∷ put_child (seen c) (map seen ks)) ≡ map seen (k ∷ with_child c ks))
      (λ le. absurd (other (omega (arith, ge, le))))
      (λ _. ap (λ (l : List Child). seen k ∷ l) ih))))

  pub puts_are : (cs ks : List Key) → put_children (map seen cs) (map seen ks)
      ≡ map seen (with_children cs ks)
  puts_are [] ks = refl
  puts_are (c ∷ cs) ks = ap (put_children (map seen cs)) (put_is c ks) ∙ puts_are cs (with_child c ks)
