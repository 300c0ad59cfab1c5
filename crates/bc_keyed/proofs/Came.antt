-- Keys that come in one by one, the newest of them last.
use Rattle.std.proofs.Common.{◌≡◌, ℕ, List, [], ◌∷◌, refl, sym, ap, ◌∙◌, subst}
use Rattle.std.specs.Prelude.{if◌then◌else◌}
use Rattle.bc_key.specs.declared.key.Key.{Key}
use Rattle.bc_known.proofs.Keyed.{acts_join, fold_join, parts_join}
use Rattle.bc_leaves.specs.After.{with_pending}
use Rattle.bc_leaves.specs.After as parts_step
use Rattle.bc_leaves.specs.Events as parts_event
use Rattle.bc_leaves.specs.Laws.{Step, acts_of, parts_of}
use Rattle.bc_leaves.specs.Parts.{Leaf, Pending, next_number}
use Rattle.bc_leaves.specs.Parts as parts
use Rattle.bc_meta.specs.Acts as meta
use Rattle.bc_meta.specs.Events as event
use Rattle.bc_meta.specs.Layout.{Layout}
use Rattle.bc_meta.proofs.Lists.{by_test}
use Rattle.bc_shares.specs.Shares.{Entries}
use Rattle.bc_whole.specs.Together.{inserted, step}
use Rattle.bc_keyed.specs.Came.{HaveCome, LawCame, with_keys}

abbrev one_key : ℕ → Key → List Step
one_key slot key = step (meta.Plain (event.AddKey key)) (parts_event.Insert slot key)

abbrev pended : ℕ → Key → Leaf → Leaf
pended number key x = with_pending (record { number = number; key = key } ∷ x.pending) x

one_more : (slot : ℕ) (key : Key) (keys : List Key) (a q : parts.State) → HaveCome slot keys a q
    → HaveCome slot (key ∷ keys) a (parts_step.after q (parts_event.Insert slot key))
one_more slot key keys a q h = record {
  there = by_test slot slot (λ b. with_pending (if b then record {
    number = next_number q.records;
    key = key;
  } ∷ (q.leaves slot).pending else (q.leaves slot).pending) (q.leaves slot)
      ≡ with_keys (next_number a.records) (key ∷ keys) (a.leaves slot))
      (λ same. ap (λ n. pended n key (q.leaves slot)) h.number
      ∙ ap (λ (x : Leaf). pended (next_number a.records) key x) h.there)
      (λ other. absurd (other refl));
  others = λ k ne. by_test k slot (λ b. with_pending (if b then record {
    number = next_number q.records;
    key = key;
  } ∷ (q.leaves k).pending else (q.leaves k).pending) (q.leaves k) ≡ a.leaves k)
      (λ same. absurd (ne same)) (λ other. h.others k ne);
  entries = ap (λ (x : Entries). record x { waiting = key ∷ x.waiting }) h.entries;
  number = h.number;
  nodes = h.nodes;
  unused = h.unused;
  inner_nodes = h.inner_nodes;
  end = h.end;
  change = h.change;
}

came : (slot : ℕ) (a : parts.State) (keys : List Key)
    → HaveCome slot keys a (parts_of a (inserted slot keys))
came slot a [] = record {
  there = refl;
  others = λ k ne. refl;
  entries = refl;
  number = refl;
  nodes = refl;
  unused = refl;
  inner_nodes = refl;
  end = refl;
  change = refl;
}
came slot a (key ∷ keys) = subst (λ (s : parts.State). HaveCome slot (key ∷ keys) a s)
    (sym (parts_join a (inserted slot keys) (one_key slot key)))
    (one_more slot key keys a (parts_of a (inserted slot keys)) (came slot a keys))

pub law_came : LawCame
law_came w st i act slot keys = came slot st.whole.parts keys

-- the ring stays
pub ring_stays : (w : Layout) (m : meta.State) (slot : ℕ) (keys : List Key)
    → (meta.fold w m (acts_of (inserted slot keys))).places.ring_next ≡ m.places.ring_next
ring_stays w m slot [] = refl
ring_stays w m slot (key ∷ keys) =
    ap (λ (l : List meta.Act). (meta.fold w m l).places.ring_next)
    (acts_join (inserted slot keys) (one_key slot key))
    ∙ ap (λ (s : meta.State). s.places.ring_next)
    (fold_join w m (acts_of (inserted slot keys)) (acts_of (one_key slot key)))
    ∙ ring_stays w m slot keys
