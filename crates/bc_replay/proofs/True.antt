-- A walk passes by no other nodes than those that may not be read.
use Rattle.std.proofs.Common.{◌≡◌, ◌≢◌, inl, inr, ℕ, zero, suc, ◌<◌, ◌^◌, Bool, true, false, List, [], ◌∷◌, ◌++◌, refl, sym, subst, ap, ◌∙◌}
use Rattle.std.specs.Prelude.{Ok, Err}
use Rattle.bc_disk.specs.declared.geometry.Geometry.{Geometry}
use Rattle.bc_model.specs.Sector.{Image}
use Rattle.bc_image.specs.Children.{children_of}
use Rattle.bc_image.specs.Pointers.{PointsInto}
use Rattle.bc_image.specs.Sound.{IsNodeKey}
use Rattle.bc_image.specs.Tree.{set_keys}
use Rattle.bc_key.specs.Key.{ptr_at}
use Rattle.bc_key.specs.declared.key.Key.{Key}
use Rattle.bc_record.specs.Places.{bucket_at}
use Rattle.bc_walk.specs.declared.error.WalkError.{WalkError}
use Rattle.bc_walk.specs.declared.error.WalkError.TheVariants as walks
use Rattle.bc_walk.specs.declared.visit.Visit.{Visit}
use Rattle.bc_walk.specs.declared.visit.Visit.TheVariants as visits
use Rattle.bc_walk.specs.Tree.{AreMet}
use Rattle.bc_walk.specs.Walk.{Found, Way, IsStep, GoesOn, AreSearches, IsSearch, IsIndexSearch, with_visit, with_node, nothing}
use Rattle.bc_walk.specs.Walk.IsStep.{barred, again, faulty, met}
use Rattle.bc_replay.specs.Refused.{TellTrue, MayBeRead, NoneBarred}
use Rattle.bc_replay.specs.Used.{IsMetTwice}
use Rattle.bc_replay.proofs.Names.{pointer_some}

ok_same : (a b : Found) → (let P : Way = Ok a in P) ≡ Ok b → a ≡ b
ok_same a b is = cc

no_error : (a : Found) (e : WalkError) → (let P : Way = Ok a in P) ≡ Err e → ⊥
no_error a e is = cc

module _ (g : Geometry) where
  true_append : (xs ys : List Visit) → TellTrue g false xs → TellTrue g false ys → TellTrue g false (xs ++ ys)
  true_append [] ys p q = q
  true_append (visits.Met level from key ∷ xs) ys p q = (p.0, true_append xs ys p.1 q)
  true_append (visits.Again key ∷ xs) ys p q = (p.0, true_append xs ys p.1 q)
  true_append (visits.Barred key ∷ xs) ys p q = (p.0, true_append xs ys p.1 q)

  node_read : (root : Bool) (key : Key) → MayBeRead g root key → IsNodeKey g key
  node_read root key may = record { size = (may.ptrs 0 may.some).size; some = may.some; ptrs = λ i low. (may.ptrs i low).lies }

  true_root : (xs : List Visit) → TellTrue g false xs → TellTrue g true xs
  true_root [] p = tt
  true_root (visits.Met level from key ∷ xs) p = p
  true_root (visits.Again key ∷ xs) p = p
  true_root (visits.Barred key ∷ xs) p = (λ may. p.0 (record { some = may.some; ptrs = λ i low. record { size = (may.ptrs i low).size; end = tt; lies = (may.ptrs i low).lies } }), p.1)

  module _ (image : Image) where
    step_true : (level from : ℕ) (key : Key) (below : List Key → Found → Way → Type 0) (old found : Found) → ((children : List Key) (mid : Found) → below children mid (Ok found) → TellTrue g false mid.visits → TellTrue g false found.visits)
        → IsStep g image level from key below old (Ok found) → TellTrue g false old.visits → TellTrue g false found.visits
    step_true level from key below old found on (barred p is) told =
        subst (λ (f : Found). TellTrue g false f.visits) (sym (ok_same found (with_visit old (visits.Barred key)) is)) (true_append old.visits (visits.Barred key ∷ []) told ((λ may. p (node_read false key may)), tt))
    step_true level from key below old found on (again p is) told =
        subst (λ (f : Found). TellTrue g false f.visits) (sym (ok_same found (with_visit old (visits.Again key)) is)) (true_append old.visits (visits.Again key ∷ []) told (p.proper, tt))
    step_true level from key below old found on (faulty bucket why p fault is) told = absurd (no_error found (walks.Node bucket why) is)
    step_true level from key below old found on (met bucket ss p whole goes) told =
        on (children_of (set_keys ss)) (with_node old level from key ss) goes (true_append old.visits (visits.Met level from key ∷ []) told (p.proper, tt))

    abbrev TrueBy : (ℕ → Key → Found → Way → Type 0) → Type 0
    TrueBy search = (from : ℕ) (key : Key) (old found : Found) → search from key old (Ok found) → TellTrue g false old.visits → TellTrue g false found.visits

    children_true : (search : ℕ → Key → Found → Way → Type 0) → TrueBy search → (from : ℕ) (children : List Key) (old found : Found) → AreSearches search from children old (Ok found) → TellTrue g false old.visits → TellTrue g false found.visits
    children_true search one from [] old found p told = subst (λ (f : Found). TellTrue g false f.visits) (sym (ok_same found old p)) told
    children_true search one from (child ∷ children) old found p told = go (λ mid way now. children_true search one child.end children mid found way now) p.0 p.1 p.2
      where
        go : ((mid : Found) → AreSearches search child.end children mid (Ok found) → TellTrue g false mid.visits → TellTrue g false found.visits) → (here : Way) → search from child old here
            → GoesOn (λ mid. AreSearches search child.end children mid (Ok found)) here (Ok found) → TellTrue g false found.visits
        go more (Err e) searched rest = absurd (no_error found e rest)
        go more (Ok mid) searched way = more mid way (one from child old mid searched told)

    search_true : (level : ℕ) → TrueBy (IsSearch g image level)
    search_true zero from key old found p told =
        step_true zero from key (λ children now next. next ≡ Ok now) old found (λ children mid is now. subst (λ (f : Found). TellTrue g false f.visits) (sym (ok_same found mid is)) now) p told
    search_true (suc level) from key old found p told =
        step_true (suc level) from key (AreSearches (IsSearch g image level) from) old found (λ children mid goes now. children_true (IsSearch g image level) (search_true level) from children mid found goes now) p told

    pub index_true : (level : ℕ) (root : Key) (found : Found) → IsIndexSearch g image level root (Ok found) → TellTrue g true found.visits
    index_true level root found (inl p) =
        subst (λ (f : Found). TellTrue g true f.visits) (sym (ok_same found (with_visit nothing (visits.Barred root)) p.1)) ((λ may. p.0 (may.ptrs 0 may.some).end), tt)
    index_true level root found (inr p) = true_root found.visits (search_true level 0 root nothing found p.1 tt)

  -- where none was barred and none met twice, each was met
  pub all_met : (root : Bool) (seen : List Visit) → TellTrue g root seen → NoneBarred seen → ((b : ℕ) → IsMetTwice g seen b → ⊥) → AreMet seen
  all_met root [] told none once = tt
  all_met root (visits.Met level from key ∷ seen) told none once = all_met false seen told.1 none once
  all_met root (visits.Again key ∷ seen) told none once = once (bucket_at g (ptr_at key 0).offset) (inl (ptr_at key 0, pointer_some key told.0.some, refl))
  all_met root (visits.Barred key ∷ seen) told none once = none
