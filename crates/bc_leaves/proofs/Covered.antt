-- What entries say of a sector, so says the index; no event of nodes changes that.
use Rattle.std.proofs.Common.{◌≡◌, ◌≢◌, inl, inr, ℕ, suc, List, [], ◌∷◌, ◌++◌, Option, Some, refl, sym, ap, ◌∙◌, if◌then◌else◌, append_assoc}
use Rattle.bc_key.specs.declared.key.Key.{Key}
use Rattle.bc_meta.specs.Keys.{Alike, Ref}
use Rattle.bc_meta.specs.Entries.{Entry, all_keys, live}
use Rattle.bc_meta.specs.Records.{MayRead, Node, Nothing, Records, settled_node}
use Rattle.bc_meta.specs.Tree.{NodeSets, tree_list}
use Rattle.bc_meta.proofs.Ring.{Count}
use Rattle.bc_meta.proofs.Keep.{Inv}
use Rattle.bc_meta.proofs.Lists.{by_le}
use Rattle.bc_leaves.specs.Keys.{last_said, ref_said}
use Rattle.bc_leaves.proofs.Said.{last_append, or_else, said_ref}

pub record Covered (j : Records) : Type 0 where
  pub count : Count j.newest.last_seq (j.newest ∷ j.older) (suc j.newest.number)
  pub durable : (s : ℕ) (r : Option Ref) → last_said (all_keys (j.newest ∷ j.older)) s ≡ Some r → ref_said (Some r) ≡ ref_said (last_said j.index s)
  pub sealed : j.stage ≢ Nothing → (s : ℕ) (r : Option Ref) → last_said (all_keys (j.entry ∷ live j.entry.last_seq (j.newest ∷ j.older))) s ≡ Some r → ref_said (Some r) ≡ ref_said (last_said (j.entry.keys ++ j.index) s)
  pub live : (later s : ℕ) (r : Option Ref) → last_said (all_keys (live later (j.newest ∷ j.older))) s ≡ Some r → ref_said (Some r) ≡ ref_said (last_said j.index s)

live_split : (later : ℕ) (es : List Entry) → (rest : List Key) × (all_keys es ≡ all_keys (live later es) ++ rest)
live_split later [] = ([], refl)
live_split later (e ∷ es) =
    let ih = live_split later es in
    by_le later e.number (λ b. (rest : List Key) × (e.keys ++ all_keys es ≡ all_keys (if b then e ∷ live later es else []) ++ rest))
    (λ _. (ih.0, ap (λ (l : List Key). e.keys ++ l) ih.1 ∙ sym (append_assoc e.keys (all_keys (live later es)) ih.0))) (λ _. (e.keys ++ all_keys es, refl))

-- contents that are always possible
sets_choice : (nodes : ℕ → Node) → MayRead nodes (λ p. (nodes p).sets)
sets_choice nodes p = inr (inl refl)

front_same : (xs ys : List Key) (s : ℕ) (r : Option Ref) → last_said xs s ≡ Some r → last_said (xs ++ ys) s ≡ Some r
front_same xs ys s r h = last_append xs ys s ∙ ap (λ (o : Option (Option Ref)). or_else o (last_said ys s)) h

alike_said : (xs ys : List Key) → Alike xs ys → (s : ℕ) → ref_said (last_said xs s) ≡ ref_said (last_said ys s)
alike_said xs ys h s = said_ref xs s ∙ h s ∙ sym (said_ref ys s)

durable_covers : (st : Records) → Inv st → (s : ℕ) (r : Option Ref) → last_said (all_keys (st.newest ∷ st.older)) s ≡ Some r → ref_said (Some r) ≡ ref_said (last_said st.index s)
durable_covers st inv s r e =
    let c : NodeSets = λ p. (st.nodes p).sets in
    sym (ap ref_said (front_same (all_keys (st.newest ∷ st.older)) (tree_list c st.newest.level st.newest.root) s r e))
    ∙ alike_said (all_keys (st.newest ∷ st.older) ++ tree_list c st.newest.level st.newest.root) st.index (inv.durable.same c (sets_choice st.nodes)) s

sealed_covers : (st : Records) → Inv st → st.stage ≢ Nothing → (s : ℕ) (r : Option Ref) → last_said (all_keys (st.entry ∷ live st.entry.last_seq (st.newest ∷ st.older))) s ≡ Some r → ref_said (Some r) ≡ ref_said (last_said (st.entry.keys ++ st.index) s)
sealed_covers st inv ne s r e =
    let c : NodeSets = λ p. (settled_node st.stage (st.nodes p)).sets in
    sym (ap ref_said (front_same (all_keys (st.entry ∷ live st.entry.last_seq (st.newest ∷ st.older))) (tree_list c st.entry.level st.entry.root) s r e))
    ∙ alike_said (all_keys (st.entry ∷ live st.entry.last_seq (st.newest ∷ st.older)) ++ tree_list c st.entry.level st.entry.root) (st.entry.keys ++ st.index) ((inv.sealed ne).same c (sets_choice (λ p. settled_node st.stage (st.nodes p)))) s

live_covers : (st : Records) (later : ℕ) → Inv st → (s : ℕ) (r : Option Ref) → last_said (all_keys (live later (st.newest ∷ st.older))) s ≡ Some r → ref_said (Some r) ≡ ref_said (last_said st.index s)
live_covers st later inv s r e =
    let k = live_split later (st.newest ∷ st.older) in
    durable_covers st inv s r (ap (λ (l : List Key). last_said l s) k.1 ∙ front_same (all_keys (live later (st.newest ∷ st.older))) k.0 s r e)

pub covered : (j : Records) → Inv j → Covered j
covered j inv = record { count = inv.count; durable = durable_covers j inv; sealed = λ ne. sealed_covers j inv ne; live = λ later. live_covers j later inv }
