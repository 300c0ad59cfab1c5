-- Keys of the records beside those of the books.
use Rattle.std.proofs.Common.{◌≡◌, ℕ, suc, ◌≤◌, Bool, List, [], ◌∷◌, ◌++◌, Option, Some, None, refl, sym, ap, ◌∙◌, arith, if◌then◌else◌}
use Rattle.bc_key.specs.declared.key.Key.{Key}
use Rattle.bc_books.specs.Index.{Pointer, Index, hit, over, inserted}
use Rattle.bc_books.specs.Index as books
use Rattle.bc_books.specs.Books.{Journal}
use Rattle.bc_meta.specs.Keys.{Ref, last_ref}
use Rattle.bc_meta.specs.Records.{Stage, Nothing, Fixed, Ready, Sent, Safe, after_barrier}
use Rattle.bc_meta.proofs.Lists.{by_le}
use Rattle.bc_leaves.specs.Keys.{last_said, ref_said}
use Rattle.bc_leaves.proofs.Said.{or_else, last_append, said_ref}
use Rattle.bc_whole.specs.Together.{ref_of, said_of, SayTheSame}
use Rattle.bc_whole.specs.Linked.{HaveOneIndex, if_sealed}

-- what keys in front of others let a sector point to
said_over : (o : Option (Option Pointer)) (later : Option (Option Ref)) (old : Option Pointer)
    → ref_said later ≡ ref_of old → ref_said (or_else (said_of o) later) ≡ ref_of (over o old)
said_over None later old h = h
said_over (Some o) later old h = refl

pub ahead : (keys rest : List Key) (ks : List books.Key) (old : ℕ → Option Pointer)
    → SayTheSame keys ks → ((s : ℕ) → last_ref rest s ≡ ref_of (old s))
    → (s : ℕ) → last_ref (keys ++ rest) s ≡ ref_of (over (hit ks s) (old s))
ahead keys rest ks old same h s =
    sym (said_ref (keys ++ rest) s) ∙ ap ref_said (last_append keys rest s)
    ∙ ap (λ o. ref_said (or_else o (last_said rest s))) (same s)
    ∙ said_over (hit ks s) (last_said rest s) (old s) (said_ref rest s ∙ h s)

-- the index at the new insertion, and at those before
pub at_new : (leaf : ℕ) (ks : List books.Key) (x : Index) (s : ℕ)
    → (inserted leaf ks x).at (suc x.count) s ≡ over (hit ks s) (x.at x.count s)
at_new leaf ks x s = by_le (suc x.count) (suc x.count)
    (λ t. (if t then (λ s. over (hit ks s) (x.at x.count s)) else x.at (suc x.count)) s
    ≡ over (hit ks s) (x.at x.count s)) (λ _. refl) (λ gt. absurd (omega arith))

pub at_old : (leaf : ℕ) (ks : List books.Key) (x : Index) (n s : ℕ) → n ≤ x.count
    → (inserted leaf ks x).at n s ≡ x.at n s
at_old leaf ks x n s le = by_le (suc x.count) n
    (λ t. (if t then (λ s. over (hit ks s) (x.at x.count s)) else x.at n) s ≡ x.at n s)
    (λ up. absurd (omega arith)) (λ _. refl)

append_same : (a b c : List Key) → a ++ (b ++ c) ≡ (a ++ b) ++ c
append_same [] b c = refl
append_same (x ∷ a) b c = ap (λ l. x ∷ l) (append_same a b c)

-- keys come in
pub insert_keys : (keys : List Key) (leaf : ℕ) (ks : List books.Key) (stage : Stage)
    (waiting sealed durable : List Key) (x : Index) (journal : Journal)
    → SayTheSame keys ks → journal.durable ≤ x.count → journal.sealed ≤ x.count
    → HaveOneIndex stage waiting sealed durable x journal
    → HaveOneIndex stage (keys ++ waiting) sealed durable (inserted leaf ks x) journal
insert_keys keys leaf ks stage waiting sealed durable x journal same low mid h = record {
  durable_keys = λ s. h.durable_keys s ∙ ap ref_of (sym (at_old leaf ks x journal.durable s low));
  sealed_keys = λ s. h.sealed_keys s ∙ ap ref_of (sym (at_old leaf ks x journal.sealed s mid));
  all_keys = λ s. ap (λ l. last_ref l s)
      (sym (append_same keys waiting (if_sealed stage sealed ++ durable)))
      ∙ ahead keys (waiting ++ (if_sealed stage sealed ++ durable)) ks (x.at x.count) same
      h.all_keys s ∙ ap ref_of (sym (at_new leaf ks x s));
}

-- an entry takes all keys that wait
pub seal_keys : (stage : Stage) (waiting sealed durable : List Key) (x : Index) (journal : Journal)
    (w : Bool) → stage ≡ Nothing → HaveOneIndex stage waiting sealed durable x journal
    → HaveOneIndex Fixed [] waiting durable x
    (record { sealed = x.count; durable = journal.durable; waiting = w })
seal_keys Nothing waiting sealed durable x journal w is h = record {
  durable_keys = h.durable_keys;
  sealed_keys = h.all_keys;
  all_keys = h.all_keys;
}
seal_keys Fixed waiting sealed durable x journal w is h = absurd (cc)
seal_keys Ready waiting sealed durable x journal w is h = absurd (cc)
seal_keys Sent waiting sealed durable x journal w is h = absurd (cc)
seal_keys Safe waiting sealed durable x journal w is h = absurd (cc)

-- and is durable
pub durable_keys : (stage : Stage) (waiting sealed durable : List Key) (x : Index)
    (journal : Journal) (w : Bool) → stage ≡ Safe
    → HaveOneIndex stage waiting sealed durable x journal
    → HaveOneIndex Nothing waiting sealed (sealed ++ durable) x
    (record { sealed = journal.sealed; durable = journal.sealed; waiting = w })
durable_keys Safe waiting sealed durable x journal w is h = record {
  durable_keys = h.sealed_keys;
  sealed_keys = h.sealed_keys;
  all_keys = h.all_keys;
}
durable_keys Nothing waiting sealed durable x journal w is h = absurd (cc)
durable_keys Fixed waiting sealed durable x journal w is h = absurd (cc)
durable_keys Ready waiting sealed durable x journal w is h = absurd (cc)
durable_keys Sent waiting sealed durable x journal w is h = absurd (cc)

-- a barrier, or a write of the entry, leaves it sealed
pub same_sealed : (stage next : Stage) (waiting sealed durable : List Key) (x : Index)
    (journal : Journal) → if_sealed next sealed ≡ if_sealed stage sealed
    → HaveOneIndex stage waiting sealed durable x journal
    → HaveOneIndex next waiting sealed durable x journal
same_sealed stage next waiting sealed durable x journal is h = record {
  durable_keys = h.durable_keys;
  sealed_keys = λ s. ap (λ l. last_ref (l ++ durable) s) is ∙ h.sealed_keys s;
  all_keys = λ s. ap (λ l. last_ref (waiting ++ (l ++ durable)) s) is ∙ h.all_keys s;
}

pub barrier_sealed : (stage : Stage) (sealed : List Key)
    → if_sealed (after_barrier stage) sealed ≡ if_sealed stage sealed
barrier_sealed Nothing sealed = refl
barrier_sealed Fixed sealed = refl
barrier_sealed Ready sealed = refl
barrier_sealed Sent sealed = refl
barrier_sealed Safe sealed = refl
