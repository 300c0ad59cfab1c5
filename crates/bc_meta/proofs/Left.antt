-- The opened state has the invariant, and the invariant gives what a crash may leave.
use Rattle.std.proofs.Common.{◌≡◌, ◌≢◌, ◌⊎◌, inl, inr, ℕ, suc, ◌<◌, ◌≤◌, Bool, true, false, List, ◌∷◌, ◌++◌, refl, sym, ap, ◌∙◌, subst, arith, if◌then◌else◌}
use Rattle.bc_key.specs.declared.key.Key.{Key}
use Rattle.bc_meta.specs.Keys.{Alike, last_ref}
use Rattle.bc_meta.specs.Facts.{In}
use Rattle.bc_meta.specs.Entries.{Entry, all_keys, live}
use Rattle.bc_meta.specs.Tree.{IsNamed, Keeps, NodeSets, Other, Owner, Whole, tree_list}
use Rattle.bc_meta.specs.Records.{HasRoom, IsReadable, IsReady, MayRead, Records, no_set, opened_records, owners, put, settled_node}
use Rattle.bc_meta.proofs.Lists.{by_test}
use Rattle.bc_meta.proofs.Tree.{Used, used_of, used_tree, used_walk}
use Rattle.bc_meta.proofs.Good.{ready_choice, named_along, named_same, settled_owner}
use Rattle.bc_meta.proofs.Ring.{count_in, count_one, live_in, in_live, down_of, count_of}
use Rattle.bc_meta.proofs.Keep.{Inv, ready_some, sealed_count, in_put, put_in}

-- what a crash may leave in the journal buckets: what stands firm is found, and what is found was once written
pub record RingLeft (st : Records) (all : List Entry) : Type 0 where
  pub firm : (b : ℕ) (x : Entry) → In x (st.ring b) → In x all
  pub written : (x : Entry) → In x all → (x.number < st.floor) ⊎ In x st.log

-- read as sound, and with these last keys
pub record IsRead (all : List Entry) (c : NodeSets) (newest : Entry) (older : List Entry) (index : List Key) (unused : ℕ → Bool) : Type 0 where
  pub sound : IsReadable all c newest older
  pub room : (ring : ℕ → List Entry) × HasRoom all newest older ring
  pub same : Alike (all_keys (newest ∷ older) ++ tree_list c newest.level newest.root) index
  pub keeps : Keeps unused c newest.level newest.root

pub inv_opened : (owners : ℕ → Owner) (all : List Entry) (c : NodeSets) (newest : Entry) (older : List Entry) (ring : ℕ → List Entry) (bucket : ℕ) (unused : ℕ → Bool)
    → IsReadable all c newest older → HasRoom all newest older ring → Keeps unused c newest.level newest.root → IsNamed owners c newest.level newest.root newest.word → Inv (opened_records owners c newest older ring bucket unused)
inv_opened owners all c newest older ring bucket unused sound room keeps named = record {
  durable = record {
    same = λ d h s. ap (λ (l : List Key). (last_ref (all_keys (newest ∷ older) ++ l) s)) (sym (used_tree unused c d (there d h) newest.level newest.root (used_of unused c newest.level newest.root keeps)));
    whole = λ d h. used_walk unused Whole c d (there d h) newest.level newest.root (used_of unused c newest.level newest.root keeps) sound.whole;
    keeps = λ d h p is. used_walk unused (Other p) c d (there d h) newest.level newest.root (used_of unused c newest.level newest.root keeps) (keeps p is);
    named = λ d h. named_along owners owners c d (Used unused) (λ q used. (there d h q used, refl)) newest.level newest.root newest.word (used_of unused c newest.level newest.root keeps) named;
  };
  sealed = λ ne. absurd (ne refl);
  follows = λ ne. absurd (ne refl);
  count = count_of all newest.last_seq (newest ∷ older) (suc newest.number) sound.entries.down;
  floor = omega arith;
  ringed = room.kept;
  log = λ x i. inr (inl i);
}
  where
    there : (d : NodeSets) → MayRead (opened_records owners c newest older ring bucket unused).nodes d → (x : ℕ) → (unused x ≡ true → ⊥) → c x ≡ d x
    there d h x used = go (h x)
      where
        no_true : false ≡ true → ⊥
        no_true e = cc

        go : (unused x ≡ true) ⊎ (d x ≡ c x) ⊎ (((false ≡ true) ⊎ (false ≡ true)) × (d x ≡ no_set ∷ c x)) → c x ≡ d x
        go (inl e) = absurd (used e)
        go (inr (inl e)) = sym e
        go (inr (inr e)) = absurd (elim e.0 [ inl x ↦ no_true x | inr x ↦ no_true x ])

pub put_out : (ring : ℕ → List Entry) (b k : ℕ) (x e : Entry) → In x (put ring b (e ∷ ring b) k) → (x ≡ e) ⊎ In x (ring k)
put_out ring b k x e = by_test k b (λ t. In x (if t then e ∷ ring b else ring k) → (x ≡ e) ⊎ In x (ring k)) (λ is i. elim i [ inl y ↦ inl y | inr r ↦ inr (subst (λ (n : ℕ). In x (ring n)) (sym is) r) ]) (λ _ i. inr i)

module _ (st : Records) (inv : Inv st) (all : List Entry) (c : NodeSets) (left : RingLeft st all) (choice : MayRead st.nodes c) where
  number_of : (x y : Entry) → x ≡ y → x.number ≡ y.number
  number_of x y is = ap (λ (z : Entry). z.number) is

  logged : (x : Entry) → In x all → (x.number < st.newest.last_seq) ⊎ In x (st.newest ∷ st.older) ⊎ ((x ≡ st.entry) × IsReady st.stage)
  logged x i = let f = inv.floor in elim (left.written x i) [ inl lt ↦ inl (omega arith) | inr k ↦ inv.log x k ]

  low_le : st.newest.last_seq ≤ st.newest.number
  low_le = inv.count.1

  there : (e : Entry) → In e (st.newest ∷ st.older) → In e all
  there e i = let k = inv.ringed e i in left.firm k.0 e k.1

  -- the sealed entry isn't found
  pub read_durable : ((x : Entry) → In x all → x.number ≢ suc st.newest.number) → IsRead all c st.newest st.older st.index st.unused
  read_durable none_ = record {
    sound = record {
      entries = record {
        greatest = λ x i. let l = low_le in elim (known x i) [ inl lt ↦ omega arith | inr k ↦ (let r = (count_in st.newest.last_seq (st.newest ∷ st.older) (suc st.newest.number) x inv.count k).1 in omega arith) ];
        down = down_of all st.newest.last_seq (st.newest ∷ st.older) (suc st.newest.number) inv.count there
            (λ e x i k n. let r = (count_in st.newest.last_seq (st.newest ∷ st.older) (suc st.newest.number) e inv.count i).0 in
            elim (known x k) [ inl lt ↦ absurd (omega arith) | inr m ↦ count_one st.newest.last_seq (st.newest ∷ st.older) (suc st.newest.number) x e inv.count m i n ]);
      };
      whole = inv.durable.whole c choice;
    };
    room = (st.ring, record { stands = left.firm; kept = inv.ringed });
    same = inv.durable.same c choice;
    keeps = inv.durable.keeps c choice;
  }
    where
      known : (x : Entry) → In x all → (x.number < st.newest.last_seq) ⊎ In x (st.newest ∷ st.older)
      known x i =
          elim (logged x i) [
            | inl lt ↦ inl lt
            | inr (inl k) ↦ inr k
            | inr (inr k) ↦ absurd (none_ x i (number_of x st.entry k.0 ∙ (inv.follows (ready_some st.stage k.1)).number))
          ]

  pub read_sealed : In st.entry all → IsReady st.stage → IsRead all c st.entry (live st.entry.last_seq (st.newest ∷ st.older)) (st.entry.keys ++ st.index) st.unused
  read_sealed found ready =
      let some = ready_some st.stage ready in
      let f = inv.follows some in
      let g = inv.sealed some in
      let es : List Entry = live st.entry.last_seq (st.newest ∷ st.older) in
      let n : st.entry.number ≡ suc st.newest.number = f.number in
      let low : st.newest.last_seq ≤ st.entry.last_seq = f.low in
      let cnt = sealed_count st inv some in
      record {
        sound = record {
          entries = record {
            greatest = λ x i. let l = low_le in elim (logged x i) [
              | inl lt ↦ omega arith
              | inr (inl k) ↦ (let r = (count_in st.newest.last_seq (st.newest ∷ st.older) (suc st.newest.number) x inv.count k).1 in omega arith)
              | inr (inr k) ↦ (let m = number_of x st.entry k.0 in omega arith)
            ];
            down = down_of all st.entry.last_seq (st.entry ∷ live st.entry.last_seq (st.newest ∷ st.older)) (suc st.entry.number) cnt
                (λ e i. elim i [ inl is ↦ subst (λ (y : Entry). In y all) (sym is) found | inr k ↦ there e (live_in st.entry.last_seq (st.newest ∷ st.older) e k) ])
                (λ e x i k m.
                let r = (count_in st.entry.last_seq (st.entry ∷ live st.entry.last_seq (st.newest ∷ st.older)) (suc st.entry.number) e cnt i).0 in
                elim (logged x k) [
                  | inl lt ↦ absurd (omega arith)
                  | inr (inl a) ↦ elim (in_live st.newest.last_seq st.entry.last_seq (st.newest ∷ st.older) (suc st.newest.number) x inv.count a) [
                    | inl lt ↦ absurd (omega arith)
                    | inr b ↦ count_one st.entry.last_seq (st.entry ∷ live st.entry.last_seq (st.newest ∷ st.older)) (suc st.entry.number) x e cnt (inr b) i m
                  ]
                  | inr (inr a) ↦ count_one st.entry.last_seq (st.entry ∷ live st.entry.last_seq (st.newest ∷ st.older)) (suc st.entry.number) x e cnt (inl a.0) i m
                ]);
          };
          whole = g.whole c (ready_choice st.stage st.nodes c ready choice);
        };
        room = (
          put st.ring st.bucket (st.entry ∷ st.ring st.bucket),
          record {
            stands = λ b x i. elim (put_out st.ring st.bucket b x st.entry i) [ inl is ↦ subst (λ (y : Entry). In y all) (sym is) found | inr k ↦ left.firm b x k ];
            kept = λ x i. elim i [
              | inl is ↦ (st.bucket, subst (λ (y : Entry). In y (put st.ring st.bucket (st.entry ∷ st.ring st.bucket) st.bucket)) (sym is) (put_in st.ring st.bucket st.entry))
              | inr r ↦ (let k = inv.ringed x (live_in st.entry.last_seq (st.newest ∷ st.older) x r) in (k.0, in_put st.ring st.bucket k.0 x st.entry k.1))
            ];
          },
        );
        same = g.same c (ready_choice st.stage st.nodes c ready choice);
        keeps = g.keeps c (ready_choice st.stage st.nodes c ready choice);
      }

-- the names of the durable tree, and of the sealed one
module _ (st : Records) (inv : Inv st) (c : NodeSets) (may : MayRead st.nodes c) where
  pub durable_named : IsNamed (owners st.nodes) c st.newest.level st.newest.root st.newest.word
  durable_named = inv.durable.named c may

  pub sealed_named : IsReady st.stage → IsNamed (owners st.nodes) c st.entry.level st.entry.root st.entry.word
  sealed_named ready = named_same (owners (λ q. settled_node st.stage (st.nodes q))) (owners st.nodes) c (λ q. sym (settled_owner st.stage (st.nodes q))) st.entry.level st.entry.root st.entry.word ((inv.sealed (ready_some st.stage ready)).named c (ready_choice st.stage st.nodes c ready may))
