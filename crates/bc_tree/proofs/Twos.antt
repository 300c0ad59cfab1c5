-- Two nodes above leaves that have the children of others between them.
use Rattle.std.proofs.Common.{◌≡◌, ℕ, ◌+◌, ◌-◌, ◌*◌, ◌%◌, ◌<◌, ◌≤◌, List, [], ◌∷◌, ◌++◌, length, get_or, take, drop, refl, sym, subst, ap, ◌∙◌, append-nil, arith}
use Rattle.std.specs.Prelude.{All}
use Rattle.std.proofs.lemmas.List.{take-append-drop, length-take-le, length-drop}
use Rattle.std.proofs.lemmas.List.Elements.{All-cons, All-nil}
use Rattle.bc_disk.specs.declared.geometry.Geometry.{Geometry}
use Rattle.bc_inner.specs.Inner.{CoverRange, Inner}
use Rattle.bc_key.specs.declared.key.Key.{Key}
use Rattle.bc_key.specs.declared.ptr.Ptr.{Ptr}
use Rattle.bc_keys.proofs.KeyLists.{length-words_of}
use Rattle.bc_tree.specs.Children.{HasPointer}
use Rattle.bc_tree.specs.Group.{AreNeighbours, AreTwo, IsFresh}
use Rattle.bc_tree.specs.Needs.{words}
use Rattle.bc_tree.specs.Plan.{Names}
use Rattle.bc_tree.specs.Spine.{Covers, IsProper, NameNodes, Rise, children_in, last_end}
use Rattle.bc_tree.proofs.Nexts.{drop_all_of, take_all_of}
use Rattle.bc_tree.proofs.Proper.{words_append, words_cons}
use Rattle.bc_tree.proofs.Spines.{cover_ends, cover_rises, end_more}
use Rattle.bc_tree.proofs.Splices.{end_drop, end_least, live_words, rise_covers, rise_drop, rise_take}

-- ---- ends that rise

rise_some : (from : ℕ) (xs : List Key) → Rise from xs → 0 < length xs → from < last_end from xs
rise_some from [] rise some = absurd (omega (arith, some))
rise_some from (x ∷ xs) rise some = omega (arith, rise.0, end_least x.end xs rise.2)

pub rise_cut : (from : ℕ) (xs : List Key) → Rise from xs → 0 < length xs → last_end from xs % 256 ≡ 0
rise_cut from [] rise some = absurd (omega (arith, some))
rise_cut from (x ∷ []) rise some = rise.1
rise_cut from (x ∷ (y ∷ xs)) rise some = rise_cut x.end (y ∷ xs) rise.2 (omega arith)

-- ---- the two

long_take : (cut : ℕ) (all : List Key) → 0 < cut → cut < length all → 0 < length (take cut all)
long_take cut all some more = omega (arith, some, length-take-le cut all (omega (arith, more)))

long_drop : (cut : ℕ) (all : List Key) → cut < length all → 0 < length (drop cut all)
long_drop cut all more = omega (arith, more, length-drop cut all)

pub low_part : (from end cut : ℕ) (all : List Key) → CoverRange from end all → 0 < cut → cut < length all → CoverRange from (last_end from (take cut all)) (take cut all)
low_part from end cut all cover some more = rise_covers from (last_end from (take cut all)) (take cut all) (rise_take cut from all (cover_rises from end all cover)) (long_take cut all some more) refl

pub high_part : (from end cut : ℕ) (all : List Key) → CoverRange from end all → cut < length all → CoverRange (last_end from (take cut all)) end (drop cut all)
high_part from end cut all cover more =
    rise_covers (last_end from (take cut all)) end (drop cut all) (rise_drop cut from all (cover_rises from end all cover)) (long_drop cut all more) (end_drop cut from all ∙ cover_ends from end all cover)

-- the first half ends where its last child does
pub cut_ends : (from cut : ℕ) (all : List Key) (d : Key) → 0 < cut → cut < length all → last_end from (take cut all) ≡ (get_or all (cut - 1) d).end
cut_ends from cut all d some more =
    let same : cut ≡ cut - 1 + 1 = omega (arith, some) in
    ap (λ n. last_end from (take n all)) same ∙ end_more from all (cut - 1) d (omega (arith, some, more))

pub fresh_covers : (level from end : ℕ) (children : List Key) (to : Ptr) (seq : ℕ) (node : Inner) → IsFresh level from end children to seq node → CoverRange from end children → Covers node
fresh_covers level from end children to seq node is cover =
    subst (CoverRange node.from node.end) (sym is.children_are) (subst (λ n. CoverRange n node.end children) (sym is.begins) (subst (λ n. CoverRange from n children) (sym is.ends) cover))

module _ (from end cut : ℕ) (all : List Key) (to : List Ptr) (seq : ℕ) (low high : Inner) (cover : CoverRange from end all) (some : 0 < cut) (more : cut < length all) (two : AreTwo from end cut all to seq low high) where
  middle : ℕ
  middle = last_end from (take cut all)

  rises : Rise from all
  rises = cover_rises from end all cover

  low_cover : CoverRange from (last_end from (take cut all)) (take cut all)
  low_cover = low_part from end cut all cover some more

  high_cover : CoverRange (last_end from (take cut all)) end (drop cut all)
  high_cover = high_part from end cut all cover more

  pub two_cover : All Covers (low ∷ high ∷ [])
  two_cover =
      All-cons Covers low (high ∷ []) (fresh_covers 1 from (last_end from (take cut all)) (take cut all) two.low_ptr seq low two.low_is low_cover)
      (All-cons Covers high [] (fresh_covers 1 (last_end from (take cut all)) end (drop cut all) two.high_ptr _ high two.high_is high_cover) (All-nil Covers))

  pub two_children : children_in (low ∷ high ∷ []) ≡ all
  two_children =
      ap (λ ks. ks ++ (high.children ++ [])) two.low_is.children_are ∙ ap (λ ks. take cut all ++ ks) (append-nil high.children ∙ two.high_is.children_are) ∙ take-append-drop cut all

  pub two_named : (ka kb : Key) → Names ka low → Names kb high → NameNodes from (ka ∷ kb ∷ []) (low ∷ high ∷ [])
  two_named ka kb one other = (
    two.low_is.level_is,
    two.low_is.begins,
    sym one.end,
    sym one.ptr,
    (two.high_is.level_is, two.high_is.begins ∙ sym (one.end ∙ two.low_is.ends), sym other.end, sym other.ptr, tt),
  )

  pub two_beside : AreNeighbours from end low high
  two_beside =
      let a = rise_some from (take cut all) (rise_take cut from all rises) (long_take cut all some more) in
      let b = rise_some (last_end from (take cut all)) (drop cut all) (rise_drop cut from all rises) (long_drop cut all more) in
      let c = end_drop cut from all ∙ cover_ends from end all cover in
      record {
        begins = omega (arith, a, two.low_is.ends);
        middle = ap (λ n. n % 256) two.low_is.ends ∙ rise_cut from (take cut all) (rise_take cut from all rises) (long_take cut all some more);
        rises = omega (arith, b, c, two.low_is.ends, two.high_is.ends);
        ends = two.high_is.ends;
        multiple = ap (λ n. n % 256) (sym (cover_ends from end all cover)) ∙ rise_cut from all rises (omega (arith, more));
      }

  pub two_proper : (g : Geometry) → All HasPointer all → 32 + 8 * words (take cut all) ≤ 512 * g.node_sectors → 32 + 8 * words (drop cut all) ≤ 512 * g.node_sectors → All (IsProper g) (low ∷ high ∷ [])
  two_proper g live few other =
      All-cons (IsProper g) low (high ∷ []) (record { live = subst (All HasPointer) (sym two.low_is.children_are) (take_all_of HasPointer cut all live); fits = omega (arith, few, ap words two.low_is.children_are) })
      (All-cons (IsProper g) high [] (record { live = subst (All HasPointer) (sym two.high_is.children_are) (drop_all_of HasPointer cut all live); fits = omega (arith, other, ap words two.high_is.children_are) }) (All-nil (IsProper g)))

-- ---- their keys in their parent

pub pair_words : (ka kb : Key) → ka.count ≡ 1 → kb.count ≡ 1 → words (ka ∷ kb ∷ []) ≡ 6
pair_words ka kb one other = omega (arith, words_cons ka (kb ∷ []), words_cons kb [], length-words_of ka, length-words_of kb, one, other)

pub pair_live : (ka kb : Key) → ka.count ≡ 1 → kb.count ≡ 1 → All HasPointer (ka ∷ kb ∷ [])
pair_live ka kb one other = All-cons HasPointer ka (kb ∷ []) (omega (arith, one)) (All-cons HasPointer kb [] (omega (arith, other)) (All-nil HasPointer))

-- they rise from where the first begins
pub pair_rises : (from end : ℕ) (low high : Inner) (ka kb : Key) → AreNeighbours from end low high → Names ka low → Names kb high → Rise from (ka ∷ kb ∷ [])
pair_rises from end low high ka kb is one other = (
  omega (arith, is.begins, one.end),
  ap (λ n. n % 256) one.end ∙ is.middle,
  (omega (arith, is.rises, one.end, other.end), ap (λ n. n % 256) (other.end ∙ is.ends) ∙ is.multiple, tt),
)

-- a half of what is three words too large fits
pub halves_fit : (all : List Key) (cut size most : ℕ) → All HasPointer all → 0 < cut → cut < length all → words all ≤ size + 3 → 32 + 8 * size ≤ most → (32 + 8 * words (take cut all) ≤ most) × (32 + 8 * words (drop cut all) ≤ most)
halves_fit all cut size most live some more few fits =
    let both = words_append (take cut all) (drop cut all) in
    let whole = ap words (take-append-drop cut all) in
    let front = live_words (take cut all) (take_all_of HasPointer cut all live) in
    let rest = live_words (drop cut all) (drop_all_of HasPointer cut all live) in
    (omega (arith, both, whole, rest, few, fits, long_drop cut all more), omega (arith, both, whole, front, few, fits, long_take cut all some more))
