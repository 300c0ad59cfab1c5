-- The newest entry of a list, and readings that have it.
use Rattle.std.proofs.Common.{◌≡◌, ℕ, zero, suc, ◌-◌, List, [], ◌∷◌, ◌++◌, length, Some, None, refl, sym, subst, ap, ◌∙◌, arith, length-append}
use Rattle.std.specs.Prelude.{slice_get}
use Rattle.bc_model.specs.Sector.{Image}
use Rattle.bc_disk.specs.Gens.{Gens}
use Rattle.bc_disk.specs.declared.geometry.Geometry.{Geometry}
use Rattle.bc_jset.specs.Entries.{FoundEntry, AreEntries}
use Rattle.bc_jset.proofs.Entries.{newest_is_last}
use Rattle.bc_prio.specs.Records.{ChainIn}
use Rattle.bc_image.specs.Tree.{Node, IsWalk}
use Rattle.bc_image.specs.Reading.{Reading, IsReading}
use Rattle.bc_image.proofs.Unique.{same_newest}

at_end : (older : List FoundEntry) (e : FoundEntry) (n : ℕ) → n ≡ length older → slice_get (older ++ e ∷ []) n ≡ Some e
at_end [] e zero is = refl
at_end [] e (suc n) is = absurd (omega (arith, is))
at_end (x ∷ older) e zero is = absurd (omega (arith, is))
at_end (x ∷ older) e (suc n) is = at_end older e n (omega (arith, is))

pub last_is : (g : Geometry) (image : Image) (es : List FoundEntry) (p : AreEntries g image es) → slice_get es (length es - 1) ≡ Some p.newest
last_is g image es p =
    let k = newest_is_last g image es p in
    ap (λ (xs : List FoundEntry). slice_get xs (length xs - 1)) k.1 ∙ at_end k.0 p.newest (length (k.0 ++ p.newest ∷ []) - 1) (omega (arith, length-append k.0 (p.newest ∷ [])))

pub some_same : (a b : FoundEntry) → Some a ≡ Some b → a ≡ b
some_same a b e = cc

-- each reading has the last of the entries as its newest one
pub newest_read : (g : Geometry) (image : Image) (es : List FoundEntry) (newest : FoundEntry) (p : AreEntries g image es) → newest ≡ p.newest → (r : Reading) → IsReading g image r → r.newest ≡ newest
newest_read g image es newest p is r q = sym q.newest ∙ same_newest g image r.entries es q.entries p ∙ sym is

pub no_chain : (g : Geometry) (image : Image) (es : List FoundEntry) (newest : FoundEntry) (p : AreEntries g image es) → newest ≡ p.newest → ((gens : Gens) → ChainIn g image newest.item.prio gens → ⊥) → (r : Reading) → IsReading g image r → ⊥
no_chain g image es newest p is none r q =
    none r.gens (subst (λ (e : FoundEntry). ChainIn g image e.item.prio r.gens) (newest_read g image es newest p is r q) q.gens)

pub no_walk : (g : Geometry) (image : Image) (es : List FoundEntry) (newest : FoundEntry) (p : AreEntries g image es) → newest ≡ p.newest → ((nodes : List Node) → IsWalk g image newest.item.level 0 newest.item.root nodes → ⊥) → (r : Reading) → IsReading g image r → ⊥
no_walk g image es newest p is none r q =
    none r.nodes (subst (λ (e : FoundEntry). IsWalk g image e.item.level 0 e.item.root r.nodes) (newest_read g image es newest p is r q) q.nodes)

pub no_last : (g : Geometry) (image : Image) (es : List FoundEntry) → AreEntries g image es → slice_get es (length es - 1) ≡ None → ⊥
no_last g image es p none = let there = last_is g image es p in cc

pub last_same : (g : Geometry) (image : Image) (es : List FoundEntry) (p : AreEntries g image es) (last : FoundEntry) → slice_get es (length es - 1) ≡ Some last → last ≡ p.newest
last_same g image es p last there = some_same last p.newest (sym there ∙ last_is g image es p)

pub copy_is : (g : Geometry) (image : Image) (es xs : List FoundEntry) (p : AreEntries g image es) (newest last : FoundEntry) → xs ≡ es → Some last ≡ slice_get xs (length xs - 1) → newest ≡ last → newest ≡ p.newest
copy_is g image es xs p newest last same there copied =
    copied ∙ last_same g image es p last (ap (λ (ys : List FoundEntry). slice_get ys (length ys - 1)) (sym same) ∙ sym there)
