-- The opening meets the invariant, and so does each state of a run.
use Rattle.std.proofs.Common.{◌≡◌, ◌⊎◌, inl, inr, ℕ, Bool, true, false, List, [], ◌∷◌, ◌++◌, Option, Some, None, if◌then◌else◌, refl, sym, ap, ◌∙◌, arith}
use Rattle.bc_books.specs.Shelves.{Purpose, Loose, Fresh, Spent, IsPinned, IsUnwritten, by_room}
use Rattle.bc_books.specs.Marks.{Metadata}
use Rattle.bc_books.specs.Books.{Setup, Books, Step, is_listed, unused, opened, IsSound}
use Rattle.bc_books.specs.Enabled.{IsFresh}
use Rattle.bc_books.specs.After.{after, IsRun, fold}
use Rattle.bc_books.specs.Invariant.{IsMetadata, IsInOrder}
use Rattle.bc_books.specs.Laws.{LawOpened, LawKept}
use Rattle.bc_books.proofs.Cases.{by_bool, or_left, or_right, some_number}
use Rattle.bc_books.proofs.Known.{keep}

pub law_kept : LawKept
law_kept w k x f on = keep w k f x on

module _ (w : Setup) (sound : IsSound w) where
  -- what has no data at the opening
  pub fresh_at : (b : ℕ) → unused w b ≡ true → IsFresh w.bucket (opened w).owner b
  fresh_at b e t is = ap (λ (z : Bool). if z then Fresh else Spent) (ap (unused w) is ∙ e)

  pub listed_unused : (b : ℕ) (p : Purpose) → w.listed b ≡ Some p → unused w b ≡ true
  listed_unused b p e = or_left _ _ (ap is_listed e)

  pub chain_unused : (b : ℕ) → w.chain b ≡ true → unused w b ≡ true
  chain_unused b e = or_right (is_listed (w.listed b)) _ (or_left _ _ e)

  fixed_unused : (b : ℕ) → w.fixed b ≡ true → unused w b ≡ true
  fixed_unused b e = or_right (is_listed (w.listed b)) _ (or_right (w.chain b) _ (or_left _ _ e))

  node_unused : (b : ℕ) → w.node b ≡ true → unused w b ≡ true
  node_unused b e = or_right (is_listed (w.listed b)) _ (or_right (w.chain b) _ (or_right (w.fixed b) _ e))

  unpinned : (z : Bool) → IsPinned (if z then Fresh else Spent) → ⊥
  unpinned true p = p
  unpinned false p = p

  unwritten : (b : ℕ) (o : Option Purpose) → w.listed b ≡ o → IsUnwritten (by_room o)
      → IsFresh w.bucket (opened w).owner b
  unwritten b None e u = absurd u
  unwritten b (Some p) e u = fresh_at b (listed_unused b p e)

  loose_at : (b : ℕ) → w.listed b ≡ None → by_room (w.listed b) ≡ Loose
  loose_at b e = ap by_room e

  pub chain_at : (b : ℕ) → w.chain b ≡ true → (opened w).chains.of b ≡ Some 0
  chain_at b e = ap (λ (z : Bool). if◌then◌else◌ {A = Option ℕ} z (Some 0) None) e

  pub no_chain_at : (b : ℕ) → w.chain b ≡ false → (opened w).chains.of b ≡ None
  no_chain_at b e = ap (λ (z : Bool). if◌then◌else◌ {A = Option ℕ} z (Some 0) None) e

  chain_from : (b c : ℕ) → (if w.chain b then Some 0 else None) ≡ Some c → (w.chain b ≡ true) × (c ≡ 0)
  chain_from b c e = by_bool (w.chain b) (λ z. (if z then Some 0 else None) ≡ Some c → (z ≡ true)
      × (c ≡ 0)) (λ _ h. (refl, sym (some_number 0 c h))) (λ _ h. absurd (cc)) e

  abbrev IsNode : ℕ → Type 0
  IsNode b = (w.fixed b ≡ true) ⊎ (w.node b ≡ true)

  marked_at : (b : ℕ) → IsMetadata w.fixed w.node (opened w).chains b → w.mark b ≡ Metadata
  marked_at b (inl e) = (sound.fixed b e).3
  marked_at b (inr (inl e)) = (sound.node b e).2
  marked_at b (inr (inr e)) = (sound.chain b (chain_from b 0 e).0).1

  only_at : (b : ℕ) → w.mark b ≡ Metadata → IsMetadata w.fixed w.node (opened w).chains b
  only_at b m = by_bool (w.fixed b) (λ _. IsMetadata w.fixed w.node (opened w).chains b) (λ e. inl e)
      (λ no_fixed. by_bool (w.node b) (λ _. IsMetadata w.fixed w.node (opened w).chains b) (λ e. inr (inl e))
      (λ no_node. by_bool (w.chain b) (λ _. IsMetadata w.fixed w.node (opened w).chains b) (λ e. inr (inr (chain_at b e)))
      (λ no_chain. absurd (sound.plain b no_fixed no_node no_chain m))))

  loose_node : (b : ℕ) → IsNode b → by_room (w.listed b) ≡ Loose
  loose_node b (inl e) = loose_at b (sound.fixed b e).0
  loose_node b (inr e) = loose_at b (sound.node b e).0

  no_chain_node : (b : ℕ) → IsNode b → (opened w).chains.of b ≡ None
  no_chain_node b (inl e) = no_chain_at b (sound.fixed b e).1
  no_chain_node b (inr e) = no_chain_at b (sound.node b e).1

  fresh_node : (b : ℕ) → IsNode b → IsFresh w.bucket (opened w).owner b
  fresh_node b (inl e) = fresh_at b (fixed_unused b e)
  fresh_node b (inr e) = fresh_at b (node_unused b e)

  pub kept_opened : IsInOrder w (opened w)
  kept_opened = record {
    counted = record { durable = omega arith; sealed = omega arith; leaves = λ l. omega arith; walk = omega arith };
    dated = record { sealed = λ b. omega arith; version = λ b. omega arith; ahead = λ b. omega arith; settled = λ b _. refl; oldest = λ b. (sound.window b).0; window = λ b. (sound.window b).1 };
    placed = record { calm = λ t p. absurd (unpinned (unused w (w.bucket t)) p); unwritten = λ b. unwritten b (w.listed b) refl };
    chained = record {
      durable = omega arith;
      sealed = omega arith;
      links = λ b c e. let h = chain_from b c e in let is = h.1 in record {
        low = omega arith;
        high = omega arith;
        loose = λ _. loose_at b (sound.chain b h.0).0;
        held = λ lt. absurd (omega arith);
        fresh = fresh_at b (chain_unused b h.0);
      };
    };
    marked = record { marked = marked_at; only = only_at; one_use = λ b e. (sound.fixed b e).2; loose = loose_node; no_chain = no_chain_node; fresh = fresh_node };
    known = record {
      keys = λ n s le r e. let i = sound.inside s r e in record {
        inside = i.0;
        oldest = i.1;
        durable = i.2;
        marked = λ d. (sound.dirty s r e d).0;
        live = λ d. (sound.dirty s r e d).1;
        spent = λ v. ap (λ (z : Bool). if z then Fresh else Spent) (sound.spare s r e v);
      };
    };
    still = record { still = λ n s le. refl };
    tracked = record { tracked = λ s e. absurd (cc) };
    within = record { low = λ s r e. absurd (cc); high = λ s r e. absurd (cc) };
  }

pub law_opened : LawOpened
law_opened w sound = kept_opened w sound

pub kept_run : (w : Setup) (k : Books) (xs : List Step) → IsInOrder w k → IsRun w k xs → IsInOrder w (fold w k xs)
kept_run w k [] f run = f
kept_run w k (x ∷ xs) f run = kept_run w (after w k x) xs (keep w k f x run.0) run.1

-- at the end of a run from a sound opening
pub kept_at : (w : Setup) (xs : List Step) → IsSound w → IsRun w (opened w) xs → IsInOrder w (fold w (opened w) xs)
kept_at w xs sound run = kept_run w (opened w) xs (kept_opened w sound) run

pub fold_on : (w : Setup) (k : Books) (xs ys : List Step) → fold w k (xs ++ ys) ≡ fold w (fold w k xs) ys
fold_on w k [] ys = refl
fold_on w k (x ∷ xs) ys = fold_on w (after w k x) xs ys

pub run_on : (w : Setup) (k : Books) (xs ys : List Step) → IsRun w k (xs ++ ys) → IsRun w k xs
    × IsRun w (fold w k xs) ys
run_on w k [] ys run = (tt, run)
run_on w k (x ∷ xs) ys run = let r = run_on w (after w k x) xs ys run.1 in ((run.0, r.0), r.1)
