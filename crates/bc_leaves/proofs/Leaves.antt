-- How the keys of a leaf keep in step with the journal.
use Rattle.std.proofs.Common.{◌≡◌, ◌≢◌, ◌⊎◌, inl, inr, ℕ, suc, ◌≤◌, List, [], ◌∷◌, ◌++◌, Option, Some, None, refl, sym, ap, ◌∙◌, subst, arith, append_assoc, if◌then◌else◌}
use Rattle.bc_key.specs.declared.key.Key.{Key}
use Rattle.bc_key.specs.Key.{pointer_of}
use Rattle.bc_meta.specs.Entries.{Entry, live}
use Rattle.bc_meta.specs.Records.{Fixed, IsReady, Nothing, Stage}
use Rattle.bc_meta.specs.Facts.{In}
use Rattle.bc_meta.specs.Tree.{NodeSet, set_keys}
use Rattle.bc_meta.specs.Keys.{Ref, covers, ref_by}
use Rattle.bc_meta.proofs.Ring.{Count, in_live}
use Rattle.bc_meta.proofs.Lists.{by_le}
use Rattle.bc_meta.proofs.Keep.{ready_some}
use Rattle.bc_leaves.specs.Parts.{AllFrom, AllUpTo, InRange, Leaf, Pending, beyond, keys_of, sealed_number, up_to}
use Rattle.bc_leaves.specs.Keys.{AnySpeaks, Speaks, last_said, ref_said}
use Rattle.bc_leaves.specs.Fits.{Journal, LeafKeys, Ordered}
use Rattle.bc_leaves.proofs.Pend.{append_none, append_seen, beyond_head, beyond_later, hit_of, in_either, in_upto, keys_split, not_both, ordered_in, ordered_more, ordered_upto, top_le, top_some, upto_head, upto_later, upto_upto}

-- a key elsewhere
pub keys_waiting : (j : Journal) (sets : List NodeSet) (sent : List Pending) (x : Leaf) (waiting : List Key)
    → ((s : ℕ) → InRange x s → last_said waiting s ≡ last_said j.waiting s) → LeafKeys j sets sent x → LeafKeys (record j { waiting = waiting }) sets sent x
keys_waiting j sets sent x waiting same k = record {
  waiting = λ s r. same s r ∙ k.waiting s r;
  sealed = k.sealed;
  index = k.index;
  ordered = k.ordered;
  kept = λ y i. let h = k.kept y i in (h.0, h.1, h.2, h.3);
  low = k.low;
  sent_low = k.sent_low;
}

pub keys_insert : (j : Journal) (sets : List NodeSet) (sent : List Pending) (x : Leaf) (key : Key)
    → (j.stage ≢ Nothing → j.entry.last_seq ≤ suc j.newest.number) → LeafKeys j sets sent x
    → LeafKeys (record j { waiting = key ∷ j.waiting }) sets sent (record x { pending = record { number = suc (sealed_number j.stage j.newest.number); key = key } ∷ x.pending })
keys_insert j sets sent x key low k =
    let t : ℕ = sealed_number j.stage j.newest.number in
    let y : Pending = record { number = suc t; key = key } in
    let d : ℕ = j.newest.number in
    let dt : d ≤ t = top_le j.stage j.newest.number in
    record {
      waiting = λ s r.
          ap (λ (o : Option (Option Ref)). if covers key s then Some (ref_by key s (pointer_of key)) else o) (k.waiting s r)
          ∙ ap (λ (l : List Pending). last_said (keys_of l) s) (sym (beyond_later t y x.pending (omega arith)));
      sealed = λ ne s r.
          let ts : t ≡ suc d = top_some j.stage j.newest.number ne in
          k.sealed ne s r ∙ ap (λ (l : List Pending). last_said (keys_of (beyond d l)) s) (sym (upto_later (suc d) y x.pending (omega arith)));
      index = λ s r. k.index s r ∙ ap (λ (l : List Pending). ref_said (last_said (keys_of l ++ (keys_of sent ++ set_keys sets)) s)) (sym (upto_later d y x.pending (omega arith)));
      ordered = (omega arith, k.ordered);
      kept = λ z i. let h = k.kept z (elim i [ inl a ↦ inl (subst (λ (l : List Pending). In z l) (upto_later d y x.pending (omega arith)) a) | inr b ↦ inr b ]) in (h.0, h.1, h.2, h.3);
      low = λ ne z i.
          elim i [
            | inl e ↦ (let n = ap (λ (p : Pending). p.number) e in let l = low ne in let ts : t ≡ suc d = top_some j.stage j.newest.number ne in omega arith)
            | inr b ↦ k.low ne z b
          ];
      sent_low = k.sent_low;
    }

pub keys_seal : (j : Journal) (sets : List NodeSet) (sent : List Pending) (x : Leaf) (last_seq prio : ℕ) (rest : List ℕ) (root word level : ℕ)
    → j.stage ≡ Nothing → AllFrom last_seq x.pending → LeafKeys j sets sent x
    → LeafKeys (record { waiting = []; entry = record { number = suc j.newest.number; last_seq = last_seq; root = root; word = word; level = level; prio = prio; keys = j.waiting; rest = rest }; stage = Fixed; newest = j.newest; older = j.older; index = j.index }) sets sent x
keys_seal j sets sent x last_seq prio rest root word level is from k =
    let d : ℕ = j.newest.number in
    let t : sealed_number j.stage d ≡ d = ap (λ (g : Stage). sealed_number g d) is in
    let o : Ordered (suc d) x.pending = subst (λ (n : ℕ). Ordered (suc n) x.pending) t k.ordered in
    let all : AllUpTo (suc d) x.pending = λ y i. ordered_in (suc d) x.pending y o i in
    record {
      waiting = λ s r. ap (λ (l : List Pending). last_said (keys_of l) s) (sym (beyond_head (suc d) x.pending all));
      sealed = λ ne s r.
          k.waiting s r ∙ ap (λ (n : ℕ). last_said (keys_of (beyond n x.pending)) s) t
          ∙ ap (λ (l : List Pending). last_said (keys_of (beyond d l)) s) (sym (upto_head (suc d) x.pending all));
      index = k.index;
      ordered = ordered_more (suc d) (suc (suc d)) x.pending (omega arith) o;
      kept = λ y i. let h = k.kept y i in (h.0, h.1, h.2, h.3);
      low = λ ne. from;
      sent_low = λ r. absurd r;
    }

-- the stage goes on, and what is sent may be stable
pub keys_stage : (j : Journal) (sets later : List NodeSet) (sent rest : List Pending) (x : Leaf) (g : Stage)
    → sealed_number g j.newest.number ≡ sealed_number j.stage j.newest.number → (g ≢ Nothing → j.stage ≢ Nothing)
    → ((s : ℕ) → last_said (keys_of sent ++ set_keys sets) s ≡ last_said (keys_of rest ++ set_keys later) s) → ((y : Pending) → In y rest → In y sent)
    → (IsReady g → AllFrom j.entry.last_seq rest)
    → LeafKeys j sets sent x → LeafKeys (record j { stage = g }) later rest x
keys_stage j sets later sent rest x g same some below fewer sent_low k =
    let d : ℕ = j.newest.number in
    record {
      waiting = λ s r. k.waiting s r ∙ ap (λ (n : ℕ). last_said (keys_of (beyond n x.pending)) s) (sym same);
      sealed = λ ne. k.sealed (some ne);
      index = λ s r. k.index s r ∙ append_seen (keys_of (up_to d x.pending)) (keys_of sent ++ set_keys sets) (keys_of (up_to d x.pending)) (keys_of rest ++ set_keys later) s refl (ap ref_said (below s));
      ordered = subst (λ (n : ℕ). Ordered (suc n) x.pending) (sym same) k.ordered;
      kept = λ y i. let h = k.kept y (elim i [ inl a ↦ inl a | inr b ↦ inr (fewer y b) ]) in (h.0, h.1, h.2, h.3);
      low = λ ne. k.low (some ne);
      sent_low = sent_low;
    }

pub keys_sealed : (j : Journal) (sets : List NodeSet) (sent : List Pending) (x : Leaf)
    → j.stage ≢ Nothing → IsReady j.stage → j.entry.number ≡ suc j.newest.number → Count j.newest.last_seq (j.newest ∷ j.older) (suc j.newest.number)
    → ((s : ℕ) → (InRange x s → ⊥) → last_said (keys_of x.pending) s ≡ None)
    → LeafKeys j sets sent x
    → LeafKeys (record { waiting = j.waiting; entry = j.entry; stage = Nothing; newest = j.entry; older = live j.entry.last_seq (j.newest ∷ j.older); index = j.entry.keys ++ j.index }) sets sent x
keys_sealed j sets sent x some ready number count inside k =
    let d : ℕ = j.newest.number in
    let p : List Pending = x.pending in
    let t : sealed_number j.stage d ≡ suc d = top_some j.stage d some in
    let e : sealed_number j.stage d ≡ j.entry.number = t ∙ sym number in
    let below : List Key = keys_of sent ++ set_keys sets in
    let u : List Pending = up_to (suc d) p in
    let cut : keys_of u ≡ keys_of (beyond d u) ++ keys_of (up_to d p) = keys_split d u ∙ ap (λ (l : List Pending). keys_of (beyond d u) ++ keys_of l) (upto_upto d (suc d) p (omega arith)) in
    record {
      waiting = λ s r. k.waiting s r ∙ ap (λ (n : ℕ). last_said (keys_of (beyond n x.pending)) s) e;
      sealed = λ ne. absurd (ne refl);
      index = λ s r.
          append_seen j.entry.keys j.index (keys_of (beyond d u)) (keys_of (up_to d p) ++ below) s (k.sealed some s r) (k.index s r)
          ∙ ap ref_said (regroup (keys_of (beyond d u)) (keys_of (up_to d p)) below s)
          ∙ ap (λ (l : List Key). ref_said (last_said (l ++ below) s)) (sym cut)
          ∙ ap (λ (n : ℕ). ref_said (last_said (keys_of (up_to n p) ++ below) s)) (sym number);
      ordered = subst (λ (n : ℕ). Ordered (suc n) x.pending) e k.ordered;
      kept = λ y i. elim i [
        | inl a ↦ of_pending y (subst (λ (n : ℕ). In y (up_to n p)) number a)
        | inr b ↦ old y (inr b) (k.sent_low ready y b)
      ];
      low = λ ne. absurd (ne refl);
      sent_low = λ r. absurd r;
    }
  where
    regroup : (a b c : List Key) (s : ℕ) → last_said (a ++ (b ++ c)) s ≡ last_said ((a ++ b) ++ c) s
    regroup a b c s = ap (λ (l : List Key). last_said l s) (sym (append_assoc a b c))

    old : (y : Pending) → In y (up_to j.newest.number x.pending) ⊎ In y sent → j.entry.last_seq ≤ y.number → (e : Entry) × In e (j.entry ∷ live j.entry.last_seq (j.newest ∷ j.older)) × (y.number ≤ e.number) × ((s : ℕ) → Speaks y.key s → AnySpeaks e.keys s)
    old y i l =
        let h = k.kept y i in
        let h2 = h.2 in
        elim (in_live j.newest.last_seq j.entry.last_seq (j.newest ∷ j.older) (suc j.newest.number) h.0 count h.1) [
          | inl lt ↦ absurd (omega arith)
          | inr q ↦ (h.0, inr q, h.2, h.3)
        ]

    of_new : (y : Pending) → In y (beyond j.newest.number (up_to (suc j.newest.number) x.pending)) → In y (up_to (suc j.newest.number) x.pending) → (e : Entry) × In e (j.entry ∷ live j.entry.last_seq (j.newest ∷ j.older)) × (y.number ≤ e.number) × ((s : ℕ) → Speaks y.key s → AnySpeaks e.keys s)
    of_new y i m =
        let le = ordered_upto (suc j.newest.number) (suc (sealed_number j.stage j.newest.number)) x.pending y k.ordered m in
        (j.entry, inl refl, omega arith, λ s c. covered s c)
      where
        range : (s : ℕ) → Speaks y.key s → (InRange x s → ⊥) → ⊥
        range s c out = let h = hit_of x.pending y s (in_upto (suc j.newest.number) x.pending y m) c in not_both _ h.0 h.1 (inside s out)

        covered : (s : ℕ) → Speaks y.key s → AnySpeaks j.entry.keys s
        covered s c =
            let h = hit_of (beyond j.newest.number (up_to (suc j.newest.number) x.pending)) y s i c in
            elim (in_or_out x s) [
              | inl r ↦ (h.0, k.sealed some s r ∙ h.1)
              | inr out ↦ absurd (range s c out)
            ]
          where
            in_or_out : (x : Leaf) (s : ℕ) → InRange x s ⊎ (InRange x s → ⊥)
            in_or_out x s = by_le x.first s (λ t. InRange x s ⊎ (InRange x s → ⊥)) (λ a. by_le x.end s (λ t. InRange x s ⊎ (InRange x s → ⊥)) (λ b. inr (λ r. let r1 = r.1 in omega arith)) (λ b. inl (a, omega arith))) (λ a. inr (λ r. let r0 = r.0 in omega arith))

    of_pending : (y : Pending) → In y (up_to (suc j.newest.number) x.pending) → (e : Entry) × In e (j.entry ∷ live j.entry.last_seq (j.newest ∷ j.older)) × (y.number ≤ e.number) × ((s : ℕ) → Speaks y.key s → AnySpeaks e.keys s)
    of_pending y m =
        elim (in_either j.newest.number (up_to (suc j.newest.number) x.pending) y m) [
          | inl a ↦ of_new y a m
          | inr b ↦ (let b2 = subst (λ (l : List Pending). In y l) (upto_upto j.newest.number (suc j.newest.number) x.pending (omega arith)) b in old y (inl b2) (k.low some y (in_upto j.newest.number x.pending y b2)))
        ]

-- a further set is sent: all pending keys, which are durable
pub keys_write : (j : Journal) (sets : List NodeSet) (sent : List Pending) (x : Leaf)
    → AllUpTo j.newest.number x.pending → ((s : ℕ) → last_said (keys_of sent) s ≡ None) → LeafKeys j sets sent x → LeafKeys j sets x.pending (record x { pending = [] })
keys_write j sets sent x durable none_ k =
    let d : ℕ = j.newest.number in
    let p : List Pending = x.pending in
    let le : d ≤ sealed_number j.stage d = top_le j.stage d in
    record {
      waiting = λ s r. k.waiting s r ∙ ap (λ (l : List Pending). last_said (keys_of l) s) (beyond_head (sealed_number j.stage d) p (λ y i. let h = durable y i in omega arith));
      sealed = λ ne s r.
          k.sealed ne s r
          ∙ ap (λ (l : List Pending). last_said (keys_of (beyond d l)) s) (upto_head (suc d) p (λ y i. let h = durable y i in omega arith))
          ∙ ap (λ (l : List Pending). last_said (keys_of l) s) (beyond_head d p durable);
      index = λ s r.
          k.index s r
          ∙ append_seen (keys_of (up_to d p)) (keys_of sent ++ set_keys sets) (keys_of p) (set_keys sets) s
          (ap (λ (l : List Pending). last_said (keys_of l) s) (upto_head d p durable)) (ap ref_said (append_none (keys_of sent) (set_keys sets) s (none_ s)));
      ordered = tt;
      kept = λ y i. elim i [ inl a ↦ absurd a | inr b ↦ k.kept y (inl (subst (λ (l : List Pending). In y l) (sym (upto_head d p durable)) b)) ];
      low = λ ne y i. absurd i;
      sent_low = λ r. k.low (ready_some j.stage r);
    }
