-- The sets of a node: each image has one list of them.
use Rattle.std.proofs.Common.{subst, ◌≡◌, ◌≢◌, ◌⊎◌, inl, inr, ℕ, ◌+◌, ◌*◌, ◌<◌, ◌≤◌, List, [], ◌∷◌, ◌++◌, refl, sym, ap, ◌∙◌, arith}
use Rattle.bc_model.specs.Sector.{Image}
use Rattle.bc_disk.specs.declared.geometry.Geometry.{Geometry}
use Rattle.bc_keys.proofs.Deciders.{IsOrNot, equal}
use Rattle.bc_record.specs.Sectors.{bytes_to, AgreeOn}
use Rattle.bc_record.specs.Codec.{IsCodec}
use Rattle.bc_record.specs.Kind.{Kind, sectors_of, IsFound, NoneFound, AreFound, behind}
use Rattle.bc_record.proofs.Found.{run_exists, one_run, one_found, run_stays, run_goes_on}
use Rattle.bc_set.specs.declared.set.Set.{Set}
use Rattle.bc_set.specs.declared.set.SetKind.{SetKind}
use Rattle.bc_set.specs.SetBytes.{IsSet}
use Rattle.bc_set.specs.Records.{set_kind, numbered_kind, AreNodeSets}
use Rattle.bc_set.proofs.Deciders.{set_or_none}
use Rattle.bc_set.proofs.Records.{set_codec}

numbered_or_none : (g : Geometry) (start : ℕ) (kind : SetKind) (seq : ℕ) (bytes : List ℕ) → IsOrNot ((s : Set) × (IsSet start g.set_magic kind bytes s × (s.seq ≡ seq)))
numbered_or_none g start kind seq bytes = go (set_or_none start g.set_magic kind bytes)
  where
    same : (s : Set) → IsSet start g.set_magic kind bytes s → IsOrNot (s.seq ≡ seq) → IsOrNot ((t : Set) × (IsSet start g.set_magic kind bytes t × (t.seq ≡ seq)))
    same s is (inl e) = inl (s, (is, e))
    same s is (inr ne) = inr (λ k. ne (ap (λ (x : Set). x.seq) ((set_codec g start kind).one bytes s k.0 is k.1.0) ∙ k.1.1))

    go : IsOrNot ((s : Set) × IsSet start g.set_magic kind bytes s) → IsOrNot ((s : Set) × (IsSet start g.set_magic kind bytes s × (s.seq ≡ seq)))
    go (inl k) = same k.0 k.1 (equal k.0.seq seq)
    go (inr none) = inr (λ k. none (k.0, k.1.0))

pub numbered_codec : (g : Geometry) (start : ℕ) (kind : SetKind) (seq : ℕ) → IsCodec (numbered_kind g start kind seq)
numbered_codec g start kind seq =
    let c = set_codec g start kind in
    record {
      block = c.block;
      some = c.some;
      decide = numbered_or_none g start kind seq;
      one = λ bytes d e p q. c.one bytes d e p.0 q.0;
      fits = λ bytes e p. c.fits bytes e p.0;
      stays = λ old new e p same. (c.stays old new e p.0 same, p.1);
    }

abbrev SomeSets : Geometry → ℕ → SetKind → Image → ℕ → ℕ → Type 0
SomeSets g start kind image end place = (ss : List Set) × AreNodeSets g start kind image end place ss

pub node_exists : (g : Geometry) (start : ℕ) (kind : SetKind) (image : Image) (end place n : ℕ) → end ≡ place + g.block * n → SomeSets g start kind image end place
node_exists g start kind image end place n ends = go (set_or_none start g.set_magic kind (bytes_to image end place))
  where
    first_is : (s : Set) → IsSet start g.set_magic kind (bytes_to image end place) s → (rs : List Set) → AreFound (numbered_kind g start kind s.seq) image end place rs → SomeSets g start kind image end place
    first_is s is [] none = absurd (none s (is, refl))
    first_is s is (r ∷ rs) are = (r ∷ rs, subst (λ (m : ℕ). AreFound (numbered_kind g start kind m) image end place (r ∷ rs)) (sym are.0.1) are)

    go : IsOrNot ((s : Set) × IsSet start g.set_magic kind (bytes_to image end place) s) → SomeSets g start kind image end place
    go (inr none) = ([], λ e is. none (e, is))
    go (inl k) =
        let r = run_exists (numbered_kind g start kind k.0.seq) (numbered_codec g start kind k.0.seq) image end place n ends in
        first_is k.0 k.1 r.0 r.1

pub one_node : (g : Geometry) (start : ℕ) (kind : SetKind) (image : Image) (end place : ℕ) (ss ts : List Set) → AreNodeSets g start kind image end place ss → AreNodeSets g start kind image end place ts → ss ≡ ts
one_node g start kind image end place [] [] p q = refl
one_node g start kind image end place [] (t ∷ ts) p q = absurd (p t q.0.0)
one_node g start kind image end place (s ∷ ss) [] p q = absurd (q s p.0.0)
one_node g start kind image end place (s ∷ ss) (t ∷ ts) p q =
    let same : s ≡ t = one_found (set_kind g start kind) (set_codec g start kind) image end place s t p.0.0 q.0.0 in
    one_run (numbered_kind g start kind s.seq) (numbered_codec g start kind s.seq) image end place (s ∷ ss) (t ∷ ts) p
    (subst (λ (n : ℕ). AreFound (numbered_kind g start kind n) image end place (t ∷ ts)) (sym (ap (λ (x : Set). x.seq) same)) q)

-- it rests on the node's sectors
pub node_stays : (g : Geometry) (start : ℕ) (kind : SetKind) (a b : Image) (end place : ℕ) (ss : List Set) → AgreeOn a b place end → AreNodeSets g start kind a end place ss → AreNodeSets g start kind b end place ss
node_stays g start kind a b end place [] same p = run_stays (set_kind g start kind) (set_codec g start kind) a b place end place [] (omega arith) same p
node_stays g start kind a b end place (s ∷ ss) same p = run_stays (numbered_kind g start kind s.seq) (numbered_codec g start kind s.seq) a b place end place (s ∷ ss) (omega arith) same p

-- sets that stand firm, and what is found behind them
pub node_goes_on : (g : Geometry) (start : ℕ) (kind : SetKind) (a b : Image) (end place : ℕ) (s : Set) (ss more rest : List Set)
    → AreNodeSets g start kind a end place (s ∷ ss ++ more) → AgreeOn a b place (behind (set_kind g start kind) place (s ∷ ss)) → behind (set_kind g start kind) place (s ∷ ss) ≤ end
    → AreFound (numbered_kind g start kind s.seq) b end (behind (set_kind g start kind) place (s ∷ ss)) rest → AreNodeSets g start kind b end place (s ∷ ss ++ rest)
node_goes_on g start kind a b end place s ss more rest p same inside found =
    let there : behind (set_kind g start kind) place (s ∷ ss) ≡ behind (numbered_kind g start kind s.seq) place (s ∷ ss) = same_behind place (s ∷ ss) in
    run_goes_on (numbered_kind g start kind s.seq) (numbered_codec g start kind s.seq) a b end place (s ∷ ss) more rest p
    (subst (λ n. AgreeOn a b place n) there same) (subst (λ n. n ≤ end) there inside) (subst (λ n. AreFound (numbered_kind g start kind s.seq) b end n rest) there found)
  where
    same_behind : (q : ℕ) (xs : List Set) → behind (set_kind g start kind) q xs ≡ behind (numbered_kind g start kind s.seq) q xs
    same_behind q [] = refl
    same_behind q (x ∷ xs) = same_behind (q + sectors_of (set_kind g start kind) x) xs

-- a set alone: one is found at the first sector, and none behind it
pub alone : (g : Geometry) (start : ℕ) (kind : SetKind) (image : Image) (end place : ℕ) (s : Set) → IsFound (set_kind g start kind) image end place s
    → NoneFound (set_kind g start kind) image end (place + sectors_of (set_kind g start kind) s) → AreNodeSets g start kind image end place (s ∷ [])
alone g start kind image end place s found none = ((found, refl), (λ t is. none t is.0))
