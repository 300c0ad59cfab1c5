-- As many buckets as a chain asks for stay on the list priorities, or are held for a chain.
use Rattle.std.proofs.Common.{◌≡◌, inl, inr, ℕ, suc, ◌≤◌, Bool, true, List, [], ◌∷◌, Option, Some, None, if◌then◌else◌, ◌==◌, refl, sym, ap, ◌∙◌, subst, arith}
use Rattle.bc_books.specs.Index.{put}
use Rattle.bc_books.specs.Shelves.{Purpose, Priorities, Moving, Tree, Plain, Shelf, Loose, Listed, Raised, Open, Held, taken_to, put_back, by_room, back}
use Rattle.bc_books.specs.Chains.{Chains, Many, given_up, at_ready}
use Rattle.bc_books.specs.Books.{Setup, Books, Step, Take, Shut, LetGo, BeginNode, MakeNode, Raise, MakeReady, ReadyChain, SealChain, opened}
use Rattle.bc_books.specs.Enabled.{CanStep}
use Rattle.bc_books.specs.After.{after, IsRun, fold}
use Rattle.bc_books.specs.Invariant.{IsInOrder}
use Rattle.bc_collect.specs.Spare.{IsForChain, IsRoomy, AllRoomy, LawReserve}
use Rattle.bc_model.proofs.Cases.{by_test}
use Rattle.bc_books.proofs.Cases.{by_bool, put_cases}
use Rattle.bc_books.proofs.Known.{keep}
use Rattle.bc_books.proofs.Opening.{kept_opened, chain_at}
use Rattle.bc_collect.proofs.Spare.{many_map}

-- neither on the list priorities nor taken from it
not_for_chain : (x y : Shelf) → x ≡ y → (y ≡ Listed Priorities → ⊥) → ((i : ℕ) → y ≡ Held i Priorities → ⊥)
    → IsForChain x → ⊥
not_for_chain x y is list held (inl e) = list (sym is ∙ e)
not_for_chain x y is list held (inr h) = held h.0 (sym is ∙ h.1)

for_taken : (i : ℕ) (p : Purpose) (x : Shelf) → x ≡ Listed p → IsForChain x → IsForChain (taken_to i p)
for_taken i Priorities x is h = inr (i, refl)
for_taken i Moving x is h = absurd (not_for_chain x (Listed Moving) is (λ e. cc) (λ j e. cc) h)
for_taken i Tree x is h = absurd (not_for_chain x (Listed Tree) is (λ e. cc) (λ j e. cc) h)
for_taken i Plain x is h = absurd (not_for_chain x (Listed Plain) is (λ e. cc) (λ j e. cc) h)

-- each chain from the one that was made ready last has its buckets
pub record HasReserve (w : Setup) (k : Books) : Type 0 where
  pub near : Many w.sets (λ b. IsForChain (k.shelf b))
  pub chains : (c : ℕ) → k.chains.ready ≤ c → c ≤ k.chains.sealed → Many w.sets (λ b. k.chains.of b ≡ Some c)

module _ (w : Setup) (k : Books) (f : IsInOrder w k) (h : HasReserve w k) where
  abbrev AllChains : Chains → Type 0
  AllChains chains = (c : ℕ) → chains.ready ≤ c → c ≤ chains.sealed → Many w.sets (λ b. chains.of b ≡ Some c)

  pub chains_step : (x : Step) → CanStep w k x → AllChains (after w k x).chains
  chains_step (ReadyChain room) on = λ c low high. many_map w.sets (λ b. k.chains.of b ≡ Some c) (λ b. given_up k.chains.ready (k.chains.of b) ≡ Some c)
      (λ b e. subst (λ o. given_up k.chains.ready o ≡ Some c) (sym e) (by_test c k.chains.ready (λ z. (if z then None else Some c) ≡ Some c) (λ is. absurd (omega arith)) (λ _. refl))) (h.chains c (omega arith) high)
  chains_step (SealChain i versions chain) on = λ c low high. by_test c (suc k.chains.sealed) (λ _. Many w.sets (λ b. (if chain b then Some (suc k.chains.sealed) else k.chains.of b) ≡ Some c))
      (λ is. many_map w.sets (λ b. chain b ≡ true) (λ b. (if chain b then Some (suc k.chains.sealed) else k.chains.of b) ≡ Some c)
      (λ b e. ap (λ (z : Bool). if◌then◌else◌ {A = Option ℕ} z (Some (suc k.chains.sealed)) (k.chains.of b)) e
      ∙ ap (λ (n : ℕ). Some n) (sym is)) on.sets)
      (λ ne. many_map w.sets (λ b. k.chains.of b ≡ Some c) (λ b. (if chain b then Some (suc k.chains.sealed) else k.chains.of b) ≡ Some c)
      (λ b e. by_bool (chain b) (λ z. (if z then Some (suc k.chains.sealed) else k.chains.of b) ≡ Some c) (λ is. let x = (on.held b is).1 in absurd (cc)) (λ _. e)) (h.chains c low (omega arith)))
  chains_step x on = h.chains

  near_put : (b : ℕ) (x : Shelf) → (IsForChain (k.shelf b) → IsForChain x)
      → Many w.sets (λ c. IsForChain (put k.shelf b x c))
  near_put b x go = many_map w.sets (λ c. IsForChain (k.shelf c)) (λ c. IsForChain (put k.shelf b x c)) (λ c e. put_cases k.shelf b c x IsForChain (λ _. e) (λ is. go (subst (λ d. IsForChain (k.shelf d)) is e))) h.near

  pub near_step : (x : Step) → CanStep w k x → IsRoomy w k x → Many w.sets (λ b. IsForChain ((after w k x).shelf b))
  near_step (Take i p b) on roomy = near_put b (taken_to i p) (λ e. elim on [
    | inl x ↦ absurd (not_for_chain (k.shelf b) (Listed Plain) x (λ y. cc) (λ j y. cc) e)
    | inr (inl x) ↦ for_taken i p (k.shelf b) x e
    | inr (inr x) ↦ absurd (not_for_chain (k.shelf b) (Listed Moving) x.1 (λ y. cc) (λ j y. cc) e)
  ])
  near_step (Shut b) on roomy = near_put b Loose (λ e. absurd (not_for_chain (k.shelf b) Open on (λ y. cc) (λ j y. cc) e))
  near_step (LetGo i b room) on roomy = elim roomy [
    | inl has ↦ near_put b (put_back room (k.shelf b)) (λ e. elim e [
      | inl x ↦ (let y = on.0.1 in absurd (cc))
      | inr x ↦ inl (ap (put_back room) x.1 ∙ ap back has)
    ])
    | inr many ↦ many_map w.sets (λ c. put k.shelf b (put_back room (k.shelf b)) c ≡ Listed Priorities) (λ c. IsForChain (put k.shelf b (put_back room (k.shelf b)) c)) (λ c e. inl e) many
  ]
  near_step (BeginNode i b) on roomy = near_put b (Held i Tree) (λ e. absurd (elim on.0 [ inl x ↦ not_for_chain (k.shelf b) (Held i Moving) x (λ y. cc) (λ j y. cc) e | inr x ↦ not_for_chain (k.shelf b) (Held i Tree) x (λ y. cc) (λ j y. cc) e ]))
  near_step (MakeNode i b) on roomy = near_put b Loose (λ e. absurd (not_for_chain (k.shelf b) (Held i Tree) on (λ y. cc) (λ j y. cc) e))
  near_step (Raise b) on roomy = near_put b Raised (λ e. absurd (not_for_chain (k.shelf b) Loose on.1 (λ y. cc) (λ j y. cc) e))
  near_step (MakeReady b room) on roomy = near_put b (by_room room) (λ e. absurd (not_for_chain (k.shelf b) Raised on.0 (λ y. cc) (λ j y. cc) e))
  near_step (ReadyChain room) on roomy = elim roomy [
    | inl has ↦ many_map w.sets (λ b. k.chains.of b ≡ Some k.chains.ready) (λ b. IsForChain (at_ready k.chains.ready (k.chains.of b) (room b) (k.shelf b)))
        (λ b e. subst (λ o. IsForChain (at_ready k.chains.ready o (room b) (k.shelf b))) (sym e)
        (by_test k.chains.ready k.chains.ready (λ z. IsForChain (if z then back (room b) else (if k.chains.ready == suc k.chains.ready then Loose else k.shelf b))) (λ _. inl (ap back (has b))) (λ ne. absurd (ne refl))))
        (h.chains k.chains.ready (omega arith) (let x = f.chained.durable in let y = f.chained.sealed in omega arith))
    | inr many ↦ many_map w.sets (λ b. at_ready k.chains.ready (k.chains.of b) (room b) (k.shelf b) ≡ Listed Priorities) (λ b. IsForChain (at_ready k.chains.ready (k.chains.of b) (room b) (k.shelf b))) (λ b e. inl e) many
  ]
  near_step x on roomy = h.near

reserve_run : (w : Setup) (k : Books) (xs : List Step) → IsInOrder w k → HasReserve w k → IsRun w k xs → AllRoomy w k xs
    → Many w.sets (λ b. IsForChain ((fold w k xs).shelf b))
reserve_run w k [] f h run roomy = h.near
reserve_run w k (x ∷ xs) f h run roomy = reserve_run w (after w k x) xs (keep w k f x run.0) (record { near = near_step w k f h x run.0 roomy.0; chains = chains_step w k f h x run.0 }) run.1 roomy.1

pub law_reserve : LawReserve
law_reserve w xs sound run roomy = reserve_run w (opened w) xs (kept_opened w sound) (record {
  near = many_map w.sets (λ b. w.listed b ≡ Some Priorities) (λ b. IsForChain (by_room (w.listed b))) (λ b e. inl (ap by_room e)) sound.next;
  chains = λ c low high. let is : c ≡ 0 = omega arith in subst (λ n. Many w.sets (λ b. (opened w).chains.of b ≡ Some n)) (sym is) (many_map w.sets (λ b. w.chain b ≡ true) (λ b. (opened w).chains.of b ≡ Some 0) (λ b e. chain_at w sound b e) sound.sets);
}) run roomy
