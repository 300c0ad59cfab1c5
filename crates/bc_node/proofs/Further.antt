-- One more set, whole or torn, behind those of a node.
use Rattle.std.proofs.Common.{◌≡◌, ◌⊎◌, inl, inr, ℕ, ◌+◌, ◌*◌, ◌<◌, ◌≤◌, ◌==◌, Bool, true, false, List, [], ◌∷◌, ◌++◌, Option, Some, None, length, take, if◌then◌else◌, refl, sym, subst, ap, ◌∙◌, arith}
use Rattle.std.proofs.lemmas.Bool.{eqb-true}
use Rattle.std.proofs.lemmas.List.{length-take-le}
use Rattle.bc_model.specs.Pattern.{zeros}
use Rattle.bc_model.specs.Sector.{Image, Value, at_run, unless, values_of}
use Rattle.bc_model.proofs.Sectors.{values_whole}
use Rattle.bc_disk.specs.Disk.{Overwritten, Torn}
use Rattle.bc_disk.specs.declared.geometry.Geometry.{Geometry}
use Rattle.bc_disk.proofs.Sectors.{at_run-below, at_run-above, length-sectors}
use Rattle.bc_record.specs.Kind.{NoneFound}
use Rattle.bc_record.specs.Sectors.{AgreeOn, Has}
use Rattle.bc_record.proofs.Blocks.{some_blocks, block_some}
use Rattle.bc_set.specs.declared.set.Set.{Set}
use Rattle.bc_set.specs.declared.set.SetKind.{SetKind}
use Rattle.bc_set.specs.SetBytes.{AreSetKeys, bytes_of}
use Rattle.bc_set.specs.Records.{set_kind, set_sectors, numbered_kind, SetFound}
use Rattle.bc_node.specs.Sets.{AreSetsFrom, HasSets, IsClear, NoneByChance, behind_sets, taken_by}
use Rattle.bc_node.specs.Writing.{HasSet, put_sectors, put_values}
use Rattle.bc_node.proofs.Rows.{behind_is, followed, sets_left}
use Rattle.bc_node.proofs.Written.{found_written, first_written, clear_first, none_where_clear}

-- ---- what a write does to an image

pub overwritten_has : (at : ℕ) (values : List Value) (a b : Image) → Overwritten at values a b → Has b at values
overwritten_has at values a b over = λ s v is. sym (over s ∙ ap (λ (o : Option Value). unless o (a s)) is)

below_stays : (at to : ℕ) (values : List Value) (a b : Image) → Torn to values a b → AgreeOn a b at to
below_stays at to values a b torn = λ s low high. elim (torn s) [
  | inl same ↦ sym same
  | inr new ↦ (let none = at_run-below to values s high in absurd (cc))
]

over_is_torn : (at : ℕ) (values : List Value) (a b : Image) → Overwritten at values a b → Torn at values a b
over_is_torn at values a b over = λ s. go s (at_run at values s) refl
  where
    go : (s : ℕ) (o : Option Value) → at_run at values s ≡ o → (b s ≡ a s) ⊎ (at_run at values s ≡ Some (b s))
    go s None is = inl (over s ∙ ap (λ (o : Option Value). unless o (a s)) is)
    go s (Some v) is = inr (is ∙ ap Some (sym (over s ∙ ap (λ (o : Option Value). unless o (a s)) is)))

-- ---- how much is written

pub put_first : (g : Geometry) (taken : ℕ) (s : Set) → taken ≡ 0 → put_sectors g taken s ≡ g.node_sectors
put_first g taken s none = ap (λ n. if n == 0 then g.node_sectors else set_sectors g s) none

pub put_more : (g : Geometry) (taken : ℕ) (s : Set) → 0 < taken → put_sectors g taken s ≡ set_sectors g s
put_more g taken s some = go (taken == 0) refl
  where
    go : (b : Bool) → (taken == 0) ≡ b → (if b then g.node_sectors else set_sectors g s) ≡ set_sectors g s
    go false is = refl
    go true is = absurd (let zero : taken ≡ 0 = eqb-true taken 0 is in omega (arith, zero, some))

pub put_some : (g : Geometry) (taken : ℕ) (s : Set) → 0 < put_sectors g taken s
put_some g taken s = go (taken == 0)
  where
    go : (b : Bool) → 0 < (if b then g.node_sectors else set_sectors g s)
    go true = let size = g.node_is_one in let bucket = g.bucket_from in omega (arith, size, bucket)
    go false = some_blocks g.block (bytes_of s) (block_some g) (omega arith)

taken_some : (g : Geometry) (s : Set) (ss : List Set) → 0 < taken_by g (s ∷ ss)
taken_some g s ss =
    let some = some_blocks g.block (bytes_of s) (block_some g) (omega arith) in
    omega (arith, some)

taken_more : (g : Geometry) (ss : List Set) (more : Set) → taken_by g (ss ++ more ∷ []) ≡ taken_by g ss + set_sectors g more
taken_more g [] more = omega arith
taken_more g (s ∷ ss) more = let rest = taken_more g ss more in omega (arith, rest)

-- ---- the sets afterwards

pub first_read : (g : Geometry) (word : ℕ) (kind : SetKind) (at : ℕ) (a b : Image) (s : Set) (bytes : List ℕ) → length bytes ≡ 512 * g.node_sectors → HasSet g word s bytes → AreSetKeys kind s.keys
    → Overwritten at (values_of bytes) a b → HasSets g word kind at s.seq (set_sectors g s) b (s ∷ []) × IsClear g at (set_sectors g s) b
first_read g word kind at a b s bytes whole set keys over =
    let has = overwritten_has at (values_of bytes) a b over in (
      record { found = first_written g word kind at b s bytes whole set keys has; number = refl; size = omega arith },
      clear_first g word at b s bytes whole set has,
    )

module _ (g : Geometry) (word : ℕ) (kind : SetKind) (at taken seq : ℕ) (a b : Image) (s : Set) (ss : List Set) (more : Set) (bytes : List ℕ) (before : HasSets g word kind at seq taken a (s ∷ ss)) where
  stays : (values : List Value) → Torn (at + taken) values a b → AgreeOn a b at (behind_sets g word kind at (s ∷ ss))
  stays values torn =
      let is : at + taken ≡ behind_sets g word kind at (s ∷ ss) = ap (λ n. at + n) before.size ∙ sym (behind_is g word kind at (s ∷ ss)) in
      subst (λ n. AgreeOn a b at n) is (below_stays at (at + taken) values a b torn)

  pub torn_left : (found : List Set) → more.seq ≡ seq → Torn (at + taken) (put_values g taken more bytes) a b
      → NoneByChance g word kind at (s ∷ ss) more b → AreSetsFrom g word kind at b found → (found ≡ s ∷ ss) ⊎ (found ≡ (s ∷ ss) ++ more ∷ [])
  torn_left found number torn chance q =
      sets_left g word kind at a b s ss found more before.found (number ∙ sym before.number)
      (record { stay = stays (put_values g taken more bytes) torn; no_chance = chance }) q

  pub further_read : IsClear g at taken a → more.seq ≡ seq → HasSet g word more bytes → AreSetKeys kind more.keys → length bytes ≡ 512 * g.node_sectors → taken + set_sectors g more ≤ g.node_sectors
      → Overwritten (at + taken) (put_values g taken more bytes) a b
      → HasSets g word kind at seq (taken + set_sectors g more) b ((s ∷ ss) ++ more ∷ []) × IsClear g at (taken + set_sectors g more) b
  further_read clear number set keys whole fits over =
      let size = set_sectors g more in
      let part = take (512 * size) bytes in
      let some : 0 < taken = (let first = taken_some g s ss in omega (arith, first, before.size)) in
      let over = subst (λ (vs : List Value). Overwritten (at + taken) vs a b) (ap (λ n. values_of (take (512 * n) bytes)) (put_more g taken more some)) over in
      let long : length part ≡ 512 * size = length-take-le (512 * size) bytes (omega (arith, whole, fits)) in
      let run : length (values_of part) ≡ size = ap (λ (vs : List Value). length vs) (values_whole size part long) ∙ length-sectors size part in
      let new = found_written g word kind b (at + g.node_sectors) (at + taken) more bytes set keys (omega (arith, whole, fits)) (overwritten_has (at + taken) (values_of part) a b over) (omega (arith, fits)) in
      let after : IsClear g at (taken + size) b = λ sector low high.
      over sector ∙ ap (λ (o : Option Value). unless o (a sector)) (at_run-above (at + taken) (values_of part) sector (omega (arith, run, low))) ∙ clear sector (omega (arith, low)) high in
      let none = none_where_clear g word kind at (taken + size) b after in
      let place : at + taken ≡ behind_sets g word kind at (s ∷ ss) = ap (λ n. at + n) before.size ∙ sym (behind_is g word kind at (s ∷ ss)) in
      let next : at + (taken + size) ≡ behind_sets g word kind at (s ∷ ss) + size = omega (arith, place) in
      let found = followed g word kind at a b s ss (more ∷ []) before.found (stays (values_of part) (over_is_torn (at + taken) (values_of part) a b over)) (
        (subst (λ n. SetFound g word kind b (at + g.node_sectors) n more) place new, number ∙ sym before.number),
        (λ t is. subst (λ n. NoneFound (set_kind g word kind) b (at + g.node_sectors) n) next none t is.0),
      ) in (
        record { found = found; number = before.number; size = (let all = taken_more g (s ∷ ss) more in omega (arith, all, before.size)) },
        after,
      )
