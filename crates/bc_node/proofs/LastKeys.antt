-- The last keys of more and more keys.
use Rattle.std.proofs.Common.{◌≡◌, ℕ, ◌<◌, Bool, true, false, List, [], ◌∷◌, ◌++◌, Some, None, refl, sym, subst, ap, ◌∙◌, append_assoc, if◌then◌else◌}
use Rattle.std.specs.Prelude.{nat_lt}
use Rattle.std.proofs.lemmas.Bool.{lt-ltb}
use Rattle.std.proofs.lemmas.List.{append-nil}
use Rattle.bc_extent.specs.LastKey.{covers, last_key}
use Rattle.bc_extent.specs.Extents.{IsInOrder, Shows, erased}
use Rattle.bc_extent.specs.Calls.{inserted, changed, with_pointer, live}
use Rattle.bc_extent.proofs.LastKeys.{last_key-push}
use Rattle.bc_extent.proofs.Looks.{insert_composed, live_bare}
use Rattle.bc_extent.proofs.Composed.{erase_composed}
use Rattle.bc_extent.proofs.Shown.{shows_same}
use Rattle.bc_key.specs.Key.{start_of, IsExtent}
use Rattle.bc_key.specs.declared.key.Key.{Key}
use Rattle.bc_node.specs.Leaf.{AreLast, AreLastOfAll, GoOn, ArePut, AreAdded}

live_push : (list : List Key) (key : Key) (sector : ℕ) → 0 < key.count → changed (inserted key) (live (last_key list)) sector ≡ live (last_key (list ++ key ∷ [])) sector
live_push list key sector some = sym (ap with_pointer (last_key-push list key sector) ∙ go (covers key sector))
  where
    test : nat_lt 0 key.count ≡ true
    test = lt-ltb 0 key.count some

    go : (b : Bool) → with_pointer (if b then Some key else last_key list sector) ≡ (if b then Some key else with_pointer (last_key list sector))
    go true = ap (λ (c : Bool). if c then Some key else None) test
    go false = refl

pub put_live : (key : Key) (old new : List Key) → 0 < key.count → Shows (last_key (old ++ key ∷ [])) new → IsInOrder new → ArePut (key ∷ []) old new
put_live key old new some shows order list last = record {
  order = order;
  shown = shows_same (changed (inserted key) (live (last_key list))) (live (last_key (list ++ key ∷ []))) new (λ sector. live_push list key sector some)
      (insert_composed (live (last_key list)) old new key last.order last.shown shows);
}

pub put_bare : (key : Key) (first count : ℕ) (old new : List Key) → IsExtent key → key.count ≡ 0 → first ≡ start_of key → count ≡ key.size → Shows (erased first count (last_key old)) new → IsInOrder new → ArePut (key ∷ []) old new
put_bare key first count old new extent none at size shows order list last = record {
  order = order;
  shown = shows_same (erased first count (live (last_key list))) (live (last_key (list ++ key ∷ []))) new
      (λ sector. ap (λ n. erased n count (live (last_key list)) sector) at ∙ ap (λ n. erased (start_of key) n (live (last_key list)) sector) size
      ∙ sym (ap with_pointer (last_key-push list key sector) ∙ live_bare (last_key list) key sector extent none))
      (erase_composed (live (last_key list)) old new first count last.order last.shown shows);
}

pub added : (key : Key) (old new : List Key) → Shows (last_key (old ++ key ∷ [])) new → IsInOrder new → AreAdded (key ∷ []) old new
added key old new shows order list last = record {
  order = order;
  shown = shows_same (changed (inserted key) (last_key list)) (last_key (list ++ key ∷ [])) new (λ sector. sym (last_key-push list key sector))
      (insert_composed (last_key list) old new key last.order last.shown shows);
}

-- ---- one after another

module _ (Last : List Key → List Key → Type 0) where
  pub on_none : (keys : List Key) → GoOn Last [] keys keys
  on_none keys list last = subst (λ (xs : List Key). Last xs keys) (sym (append-nil list)) last

  pub on_more : (more next all old now new : List Key) → GoOn Last more old now → GoOn Last next now new → all ≡ more ++ next → GoOn Last all old new
  on_more more next all old now new p q is list last =
      subst (λ (xs : List Key). Last xs new) (append_assoc list more next ∙ ap (λ (xs : List Key). list ++ xs) (sym is)) (q (list ++ more) (p list last))

pub put_none : (keys : List Key) → ArePut [] keys keys
put_none = on_none AreLast

pub put_more : (more next all old now new : List Key) → ArePut more old now → ArePut next now new → all ≡ more ++ next → ArePut all old new
put_more = on_more AreLast

pub added_none : (keys : List Key) → AreAdded [] keys keys
added_none = on_none AreLastOfAll

pub added_more : (more next all old now new : List Key) → AreAdded more old now → AreAdded next now new → all ≡ more ++ next → AreAdded all old new
added_more = on_more AreLastOfAll
