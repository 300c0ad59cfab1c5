-- Where the next set of a node goes that this run wrote.
use Rattle.std.proofs.Common.{◌≡◌, inl, inr, ℕ, ◌+◌, Bool, true, false, List, [], ◌∷◌, refl, ap, ◌∙◌, arith, if◌then◌else◌}
use Rattle.bc_disk.specs.Device.{Content}
use Rattle.bc_model.specs.Sector.{Image}
use Rattle.bc_meta.specs.Facts.{In, Stand}
use Rattle.bc_meta.specs.Layout.{Layout, set_at, set_len}
use Rattle.bc_meta.specs.Records.{Node}
use Rattle.bc_meta.specs.Tree.{NodeSet, Owner}
use Rattle.bc_meta.proofs.Place.{OwnNode, of_seq_some}
use Rattle.bc_shares.specs.Shares.{node_share, written_sets}
use Rattle.bc_looks.specs.bc_machine.Containers.{sets_len}

-- sets that stand one behind the other take their lengths, and have one number
stand_len : (w : Layout) (z : Image) (o : Owner) (seq start : ℕ) (sets : List NodeSet) (next : ℕ)
    → Stand (set_len w) (set_at w z o seq) start sets next → next ≡ start + sets_len w sets
stand_len w z o seq start [] next stand = omega (arith, stand)
stand_len w z o seq start (e ∷ es) next stand =
    let before = stand_len w z o seq start es stand.0 stand.1 in
    let here = stand.3 in omega (arith, before, here)

stand_seq : (w : Layout) (z : Image) (o : Owner) (seq start : ℕ) (sets : List NodeSet) (next : ℕ)
    → Stand (set_len w) (set_at w z o seq) start sets next → (e : NodeSet) → In e sets
    → e.seq ≡ seq
stand_seq w z o seq start [] next stand e i = absurd i
stand_seq w z o seq start (x ∷ xs) next stand e (inl is) =
    ap (λ (y : NodeSet). y.seq) is ∙ (of_seq_some seq _ x stand.2).1
stand_seq w z o seq start (x ∷ xs) next stand e (inr i) =
    stand_seq w z o seq start xs stand.0 stand.1 e i

module _ (w : Layout) (d : Content) (n : Node) (q next seq : ℕ) (log : List (ℕ × ℕ × NodeSet))
    (own : OwnNode w d n q next seq log) where
  pub own_number : (e : NodeSet) → In e (node_share n).sets → e.seq ≡ seq
  own_number e = go n.sent refl
    where
      go : (sent : Bool) → n.sent ≡ sent → In e (written_sets sent n.last n.sets) → e.seq ≡ seq
      go false is i = stand_seq w own.stands.0 n.owner seq (w.begins n.owner) n.sets next
          own.stands.1 e i
      go true is (inl last) = ap (λ (y : NodeSet). y.seq) last ∙ (own.sent is).0
      go true is (inr i) = stand_seq w own.stands.0 n.owner seq (w.begins n.owner) n.sets next
          own.stands.1 e i

  pub own_next : (if n.sent then next + set_len w n.last else next)
      ≡ w.begins n.owner + sets_len w (node_share n).sets
  own_next = go n.sent
    where
      here : next ≡ w.begins n.owner + sets_len w n.sets
      here = stand_len w own.stands.0 n.owner seq (w.begins n.owner) n.sets next own.stands.1

      go : (sent : Bool) → (if sent then next + set_len w n.last else next)
          ≡ w.begins n.owner + sets_len w (written_sets sent n.last n.sets)
      go false = here
      go true = omega (arith, here)
