-- A leaf's keys say what the index says, in its range.
use Rattle.std.proofs.Common.{◌≡◌, ◌≢◌, ℕ, suc, Bool, true, false, List, [], ◌++◌, refl, sym, ap, ◌∙◌, subst, arith, append_assoc, if◌then◌else◌}
use Rattle.bc_key.specs.declared.key.Key.{Key}
use Rattle.bc_books.specs.Index.{latest}
use Rattle.bc_meta.specs.Tree.{NodeSet, set_keys}
use Rattle.bc_meta.specs.Records.{Records, Stage, Nothing, Fixed, Ready, Sent, Safe}
use Rattle.bc_leaves.specs.Keys.{last_said, ref_said}
use Rattle.bc_leaves.specs.Parts.{Role, NoNode, Draft, Free, Leaving, Coming, Pending, Leaf, InRange, IsLive, keys_of, beyond, up_to}
use Rattle.bc_leaves.specs.Parts as parts
use Rattle.bc_leaves.specs.Fits.{Journal, journal_of, LeafKeys, last_keys}
use Rattle.bc_leaves.proofs.Said.{said_ref}
use Rattle.bc_leaves.proofs.Pend.{keys_split, upto_upto, append_both, append_seen}
use Rattle.bc_whole.specs.State as whole
use Rattle.bc_whole.specs.State.{Opening}
use Rattle.bc_whole.specs.Together.{ref_of}
use Rattle.bc_whole.specs.Linked.{if_sealed}
use Rattle.bc_whole.proofs.Kept.{Inv}
use Rattle.bc_shares.specs.Shares.{leaf_share, written_sets}
use Rattle.bc_machine.specs.Containers.{IsInTree}
use Rattle.bc_looks.specs.Looks.{said_by}

pub in_tree_live : (r : Role) → IsInTree r → IsLive r
in_tree_live NoNode h = h
in_tree_live Draft h = h
in_tree_live Free h = tt
in_tree_live Leaving h = tt
in_tree_live Coming h = tt

-- the sets that were written, with the one that no barrier followed
written_keys : (b : Bool) (last : NodeSet) (sets : List NodeSet)
    → set_keys (written_sets b last sets) ≡ (if b then last.keys else []) ++ set_keys sets
written_keys true last sets = refl
written_keys false last sets = refl

module _ (j : Journal) (sets : List NodeSet) (sent : List Pending) (x : Leaf) (s : ℕ)
    (keys : LeafKeys j sets sent x) (within : InRange x s) where
  abbrev pub rest : List Key
  rest = keys_of sent ++ set_keys sets

  abbrev pub below : List Key
  below = keys_of (up_to j.newest.number x.pending)

  durable : ref_said (last_said j.index s) ≡ ref_said (last_said (below ++ rest) s)
  durable = keys.index s within

  none_sealed : j.stage ≡ Nothing
      → ref_said (last_said (j.waiting ++ j.index) s)
      ≡ ref_said (last_said (keys_of x.pending ++ rest) s)
  none_sealed none =
      let first = keys_of (beyond j.newest.number x.pending) in
      append_seen j.waiting j.index first (below ++ rest) s
      (keys.waiting s within ∙ ap (λ g. last_said (keys_of (beyond (parts.sealed_number g j.newest.number) x.pending)) s) none)
      durable
      ∙ ap (λ ks. ref_said (last_said ks s)) (sym (append_assoc first below rest)
      ∙ ap (λ ks. ks ++ rest) (sym (keys_split j.newest.number x.pending)))

  one_sealed : (g : Stage) → j.stage ≡ g → g ≢ Nothing
      → parts.sealed_number g j.newest.number ≡ suc j.newest.number
      → ref_said (last_said (j.waiting ++ (j.entry.keys ++ j.index)) s)
      ≡ ref_said (last_said (keys_of x.pending ++ rest) s)
  one_sealed g is some number =
      let n = j.newest.number in
      let first = keys_of (beyond (suc n) x.pending) in
      let mid = keys_of (beyond n (up_to (suc n) x.pending)) in
      append_seen j.waiting (j.entry.keys ++ j.index) first (mid ++ (below ++ rest)) s
      (keys.waiting s within
      ∙ ap (λ h. last_said (keys_of (beyond (parts.sealed_number h n) x.pending)) s) is
      ∙ ap (λ m. last_said (keys_of (beyond m x.pending)) s) number)
      (append_seen j.entry.keys j.index mid (below ++ rest) s
      (keys.sealed (λ none. some (sym is ∙ none)) s within) durable)
      ∙ ap (λ ks. ref_said (last_said ks s)) (ap (λ ks. first ++ ks) (sym (append_assoc mid below rest))
      ∙ sym (append_assoc first (mid ++ below) rest)
      ∙ ap (λ ks. ks ++ rest) (sym (keys_split (suc n) x.pending
      ∙ ap (λ ks. first ++ ks) (keys_split n (up_to (suc n) x.pending)
      ∙ ap (λ p. mid ++ keys_of p) (upto_upto n (suc n) x.pending (omega arith))))))

  pub all_keys : (g : Stage) → j.stage ≡ g
      → ref_said (last_said (j.waiting ++ (if_sealed g j.entry.keys ++ j.index)) s)
      ≡ ref_said (last_said (keys_of x.pending ++ rest) s)
  all_keys Nothing is = none_sealed is
  all_keys Fixed is = one_sealed Fixed is (λ e. cc) refl
  all_keys Ready is = one_sealed Ready is (λ e. cc) refl
  all_keys Sent is = one_sealed Sent is (λ e. cc) refl
  all_keys Safe is = one_sealed Safe is (λ e. cc) refl

-- so says the leaf with what was written of its node
pub leaf_says : (w : Opening) (st : whole.State) → Inv w st → (k s : ℕ)
    → IsInTree (st.parts.leaves k).role → InRange (st.parts.leaves k) s
    → said_by (leaf_share st.parts k) s ≡ ref_of (latest st.flow.books.index s)
leaf_says w st inv k s tree within =
    let r = st.parts.records in
    let x = st.parts.leaves k in
    let n = r.nodes x.bucket in
    let live = in_tree_live x.role tree in
    let sent = st.parts.sent x.bucket in
    let node = inv.fits.leaves.node k live in
    let sets : last_said (set_keys (written_sets n.sent n.last n.sets)) s
    ≡ last_said (keys_of sent ++ set_keys n.sets) s
    = ap (λ ks. last_said ks s) (written_keys n.sent n.last n.sets)
    ∙ append_both (last_keys n) (set_keys n.sets) (keys_of sent) (set_keys n.sets) s
    (node.last s) refl in
    let all : (q : Records) → r ≡ q → ref_said (last_said (q.waiting ++ (if_sealed q.stage q.entry.keys ++ q.index)) s)
    ≡ ref_said (last_said (keys_of x.pending ++ (keys_of sent ++ set_keys n.sets)) s)
    = λ q is. subst (λ (z : Records). ref_said (last_said (z.waiting ++ (if_sealed z.stage z.entry.keys ++ z.index)) s)
    ≡ ref_said (last_said (keys_of x.pending ++ (keys_of sent ++ set_keys n.sets)) s)) is
    (all_keys (journal_of r) n.sets sent x s (inv.fits.leaves.keys k live) within r.stage refl) in
    let q = st.store.places.records in
    ap ref_said (append_both (keys_of x.pending) (set_keys (written_sets n.sent n.last n.sets))
    (keys_of x.pending) (keys_of sent ++ set_keys n.sets) s refl sets)
    ∙ sym (all q inv.same)
    ∙ said_ref (q.waiting ++ (if_sealed q.stage q.entry.keys ++ q.index)) s
    ∙ inv.link.index.all_keys s
