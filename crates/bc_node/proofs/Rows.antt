-- Sets that follow each other in a node, and one more behind them.
use Rattle.std.proofs.Common.{◌≡◌, ◌⊎◌, inl, inr, ℕ, ◌+◌, ◌-◌, ◌*◌, ◌/◌, ◌<◌, ◌≤◌, List, [], ◌∷◌, ◌++◌, refl, sym, subst, ap, ◌∙◌, arith}
use Rattle.std.proofs.lemmas.List.{append-nil}
use Rattle.bc_model.specs.Sector.{Image}
use Rattle.bc_disk.specs.declared.geometry.Geometry.{Geometry}
use Rattle.bc_record.specs.Kind.{Kind, sectors_of, IsFound, NoneFound, AreFound, behind}
use Rattle.bc_record.specs.Codec.{IsCodec}
use Rattle.bc_record.specs.Sectors.{AgreeOn}
use Rattle.bc_record.proofs.Blocks.{node_blocks}
use Rattle.bc_record.proofs.Found.{found_fits, next_blocks, takes_some, run_exists}
use Rattle.bc_set.specs.declared.set.Set.{Set}
use Rattle.bc_set.specs.declared.set.SetKind.{SetKind}
use Rattle.bc_set.specs.Records.{set_kind, numbered_kind, SetFound, AreNodeSets}
use Rattle.bc_set.proofs.NodeSets.{numbered_codec, one_node, node_goes_on}
use Rattle.bc_node.specs.Sets.{AreSetsFrom, MayLeave, behind_sets, taken_by}

module _ {A : Type 0} (kind : Kind A) (codec : IsCodec kind) where
  -- whole blocks are left behind them
  pub left_behind : (image : Image) (end place n : ℕ) (es : List A) → end ≡ place + kind.block * n → AreFound kind image end place es
      → (k : ℕ) × (end ≡ behind kind place es + kind.block * k)
  left_behind image end place n [] ends p = (n, ends)
  left_behind image end place n (e ∷ es) ends p =
      let next = next_blocks kind codec e end place n ends (found_fits kind codec image end place n e ends p.0) in
      left_behind image end (place + sectors_of kind e) next.0 es next.1 p.1

  -- a record is found at the first block alone, and is this one
  abbrev pub OnlyThis : Image → ℕ → ℕ → A → Type 0
  OnlyThis image end place more = (block : ℕ) (e : A) → IsFound kind image end (place + kind.block * block) e → (block ≡ 0) × (e ≡ more)

  -- none is found behind it
  pub none_behind : (image : Image) (end place : ℕ) (more e : A) → OnlyThis image end place more → NoneFound kind image end (place + sectors_of kind e)
  none_behind image end place more e only f found =
      let k = (kind.bytes e + (512 * kind.block - 1)) / (512 * kind.block) in
      let first : k ≡ 0 = (only k f found).0 in
      let some : 0 < kind.block * k = takes_some kind codec e in
      omega (arith, some, ap (λ j. kind.block * j) first)

  pub rest_is : (image : Image) (end place : ℕ) (rest : List A) (more : A) → OnlyThis image end place more → AreFound kind image end place rest → (rest ≡ []) ⊎ (rest ≡ more ∷ [])
  rest_is image end place [] more only p = inl refl
  rest_is image end place (e ∷ []) more only p =
      let here : place ≡ place + kind.block * 0 = omega arith in
      inr (ap (λ (x : A). x ∷ []) (only 0 e (subst (λ q. IsFound kind image end q e) here p.0)).1)
  rest_is image end place (e ∷ f ∷ fs) more only p = absurd (none_behind image end place more e only f p.1.0)

same_behind : (g : Geometry) (word : ℕ) (kind : SetKind) (seq place : ℕ) (ss : List Set) → behind (numbered_kind g word kind seq) place ss ≡ behind (set_kind g word kind) place ss
same_behind g word kind seq place [] = refl
same_behind g word kind seq place (s ∷ ss) = same_behind g word kind seq (place + sectors_of (set_kind g word kind) s) ss

abbrev BlocksBehind : Geometry → ℕ → SetKind → ℕ → List Set → Type 0
BlocksBehind g word kind at ss = (k : ℕ) × (at + g.node_sectors ≡ behind_sets g word kind at ss + g.block * k)

blocks_behind : (g : Geometry) (word : ℕ) (kind : SetKind) (at : ℕ) (image : Image) (ss : List Set) → AreSetsFrom g word kind at image ss → BlocksBehind g word kind at ss
blocks_behind g word kind at image [] p =
    let b = node_blocks g in
    (b.0, ap (λ n. at + n) b.1)
blocks_behind g word kind at image (s ∷ ss) p =
    let b = node_blocks g in
    let l = left_behind (numbered_kind g word kind s.seq) (numbered_codec g word kind s.seq) image (at + g.node_sectors) at b.0 (s ∷ ss) (ap (λ n. at + n) b.1) p in
    (l.0, l.1 ∙ ap (λ n. n + g.block * l.0) (same_behind g word kind s.seq at (s ∷ ss)))

-- ---- how many sectors they take

pub behind_is : (g : Geometry) (word : ℕ) (kind : SetKind) (place : ℕ) (ss : List Set) → behind (set_kind g word kind) place ss ≡ place + taken_by g ss
behind_is g word kind place [] = omega arith
behind_is g word kind place (s ∷ ss) =
    let rest = behind_is g word kind (place + sectors_of (set_kind g word kind) s) ss in
    omega (arith, rest)

-- those that a reader of the bytes finds from a place on
pub run_short : (g : Geometry) (word : ℕ) (kind : SetKind) (seq : ℕ) (image : Image) (place blocks : ℕ) (ss : List Set) → g.node_sectors ≡ place + g.block * blocks
    → AreFound (numbered_kind g word kind seq) image g.node_sectors place ss → place + taken_by g ss ≤ g.node_sectors
run_short g word kind seq image place blocks ss whole found =
    let l = left_behind (numbered_kind g word kind seq) (numbered_codec g word kind seq) image g.node_sectors place blocks ss whole found in
    let is : behind (numbered_kind g word kind seq) place ss ≡ place + taken_by g ss = same_behind g word kind seq place ss ∙ behind_is g word kind place ss in
    omega (arith, l.1, is)

pub sets_within : (g : Geometry) (word : ℕ) (kind : SetKind) (at : ℕ) (image : Image) (ss : List Set) → AreSetsFrom g word kind at image ss → behind_sets g word kind at ss ≤ at + g.node_sectors
sets_within g word kind at image ss p =
    let b = blocks_behind g word kind at image ss p in
    omega (arith, b.1)

-- ---- one more set

-- what is found behind the sets follows them
pub followed : (g : Geometry) (word : ℕ) (kind : SetKind) (at : ℕ) (a b : Image) (s : Set) (ss rest : List Set) → AreSetsFrom g word kind at a (s ∷ ss) → AgreeOn a b at (behind_sets g word kind at (s ∷ ss))
    → AreFound (numbered_kind g word kind s.seq) b (at + g.node_sectors) (behind_sets g word kind at (s ∷ ss)) rest → AreSetsFrom g word kind at b (s ∷ ss ++ rest)
followed g word kind at a b s ss rest p stay found =
    let end = at + g.node_sectors in
    let same : ss ≡ ss ++ [] = sym (append-nil ss) in
    node_goes_on g word kind a b end at s ss [] rest (subst (λ (xs : List Set). AreNodeSets g word kind a end at (s ∷ xs)) same p) stay (sets_within g word kind at a (s ∷ ss) p) found

only_more : (g : Geometry) (word : ℕ) (kind : SetKind) (at : ℕ) (a b : Image) (s : Set) (ss : List Set) (more : Set) → more.seq ≡ s.seq → MayLeave g word kind at (s ∷ ss) more a b
    → OnlyThis (numbered_kind g word kind s.seq) (numbered_codec g word kind s.seq) b (at + g.node_sectors) (behind_sets g word kind at (s ∷ ss)) more
only_more g word kind at a b s ss more number leaves block e found = leaves.no_chance block e (found.0, found.1 ∙ sym number)

pub sets_left : (g : Geometry) (word : ℕ) (kind : SetKind) (at : ℕ) (a b : Image) (s : Set) (ss found : List Set) (more : Set) → AreSetsFrom g word kind at a (s ∷ ss) → more.seq ≡ s.seq
    → MayLeave g word kind at (s ∷ ss) more a b → AreSetsFrom g word kind at b found → (found ≡ s ∷ ss) ⊎ (found ≡ (s ∷ ss) ++ more ∷ [])
sets_left g word kind at a b s ss found more p number leaves q =
    let end = at + g.node_sectors in
    let place = behind_sets g word kind at (s ∷ ss) in
    let blocks = blocks_behind g word kind at a (s ∷ ss) p in
    let numbered = numbered_kind g word kind s.seq in
    let codec = numbered_codec g word kind s.seq in
    let r = run_exists numbered codec b end place blocks.0 blocks.1 in
    let is : found ≡ s ∷ ss ++ r.0 = one_node g word kind b end at found (s ∷ ss ++ r.0) q (followed g word kind at a b s ss r.0 p leaves.stay r.1) in
    elim (rest_is numbered codec b end place r.0 more (only_more g word kind at a b s ss more number leaves) r.1) [
      | inl none ↦ inl (is ∙ ap (λ (xs : List Set). s ∷ ss ++ xs) none ∙ ap (λ (xs : List Set). s ∷ xs) (append-nil ss))
      | inr one ↦ inr (is ∙ ap (λ (xs : List Set). s ∷ ss ++ xs) one)
    ]

pub sets_written : (g : Geometry) (word : ℕ) (kind : SetKind) (at : ℕ) (a b : Image) (s : Set) (ss : List Set) (more : Set) → AreSetsFrom g word kind at a (s ∷ ss) → more.seq ≡ s.seq
    → MayLeave g word kind at (s ∷ ss) more a b → SetFound g word kind b (at + g.node_sectors) (behind_sets g word kind at (s ∷ ss)) more → AreSetsFrom g word kind at b ((s ∷ ss) ++ more ∷ [])
sets_written g word kind at a b s ss more p number leaves new =
    followed g word kind at a b s ss (more ∷ []) p leaves.stay (
      (new, number),
      none_behind (numbered_kind g word kind s.seq) (numbered_codec g word kind s.seq) b (at + g.node_sectors) (behind_sets g word kind at (s ∷ ss)) more more (only_more g word kind at a b s ss more number leaves),
    )
