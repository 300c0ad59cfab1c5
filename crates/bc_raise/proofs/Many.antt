-- Victims that are raised one behind the other.
use Rattle.std.proofs.Common.{◌≡◌, ℕ, ◌+◌, ◌-◌, ◌<◌, ◌≤◌, List, [], ◌∷◌, ◌++◌, length, get_or, drop, take, Option, Some, None, refl, sym, ap, ◌∙◌, subst, arith}
use Rattle.std.proofs.lemmas.List.{append-nil, append_assoc, drop_more, take_all, take_more}
use Rattle.std.proofs.lemmas.List.Sums.{fold_more}
use Rattle.bc_alloc.proofs.OneByOne.{one_by_one}
use Rattle.bc_alloc.specs.Buckets.{all_changed}
use Rattle.bc_alloc.specs.Reserves.{Reserves}
use Rattle.bc_alloc.specs.Victims.{AreVictims, IsCandidate}
use Rattle.bc_bucket.specs.Bucket.{raised}
use Rattle.bc_bucket.specs.Buckets.{Buckets, changed}
use Rattle.bc_disk.specs.Disk.{DiskFacts}
use Rattle.bc_events.specs.declared.event.Deed.{Deed}
use Rattle.bc_events.specs.declared.event.Deed.TheVariants as deed
use Rattle.bc_held.proofs.of_bc_deed.Sequence.{done_then}
use Rattle.bc_held.proofs.of_bc_hand.Knowing.{View}
use Rattle.bc_held.specs.bc_deed.Flushed.{HasDone}
use Rattle.bc_held.specs.bc_hand.Seats.{Did}
use Rattle.bc_held.specs.bc_machine.Containers.{SameRest}
use Rattle.bc_held.specs.bc_machine.declared.part.BucketsPart.{BucketsPart}
use Rattle.bc_held.specs.bc_hand.declared.hand.Hand.{Hand}
use Rattle.bc_raise.specs.Raise.{HasRaisedIn, HasRaisedSome, raises}
use Rattle.bc_renew.specs.Raised.{HasRaised}
use Rattle.bc_raise.proofs.InHand.{same_some}

-- the first of them may be raised
pub first_may : (p : BucketsPart) (n : ℕ) (ns : List ℕ) → AreVictims p.reserves p.buckets (n ∷ ns)
    → IsCandidate p.reserves p.buckets n
first_may p n ns are = are.chosen 0 (omega arith)

-- and the others are the victims then
pub others_may : (p q : BucketsPart) (n : ℕ) (ns : List ℕ)
    → AreVictims p.reserves p.buckets (n ∷ ns) → HasRaised p (n ∷ []) q
    → AreVictims q.reserves q.buckets ns
others_may p q n ns are f = subst (λ (r : Reserves). AreVictims r q.buckets ns) (sym f.reserves)
    (subst (λ (b : Buckets). AreVictims
    (record p.reserves { raised = p.reserves.raised ++ n ∷ [] }) b ns) (sym f.buckets)
    (one_by_one p.reserves p.buckets n ns are))

-- what else is in hand stays
pub rest_then : (p q r : BucketsPart) → SameRest p q → SameRest q r → SameRest p r
rest_then p q r a b = record {
  chain = b.chain ∙ a.chain;
  renewing = b.renewing ∙ a.renewing;
  round = b.round ∙ a.round;
  served = b.served ∙ a.served;
}

-- one more
pub raised_more : (p q r : BucketsPart) (ns : List ℕ) (i n : ℕ) → i < length ns
    → n ≡ get_or ns i 0 → HasRaised p (take i ns) q → HasRaised q (n ∷ []) r
    → HasRaised p (take (i + 1) ns) r
raised_more p q r ns i n below is a b = record {
  reserves = b.reserves
      ∙ ap (λ (x : Reserves). record x { raised = x.raised ++ n ∷ [] }) a.reserves
      ∙ ap (λ (ks : List ℕ). record p.reserves { raised = ks })
      (append_assoc p.reserves.raised (take i ns) (n ∷ [])
      ∙ ap (λ (ks : List ℕ). p.reserves.raised ++ ks) (sym more));
  buckets = b.buckets ∙ ap (λ (x : Buckets). changed raised n x) a.buckets
      ∙ ap (λ j. changed raised j (all_changed raised (take i ns) p.buckets)) is
      ∙ sym (fold_more (λ (d : Buckets) k. changed raised k d) p.buckets ns i 0 below);
  fill = b.fill ∙ a.fill;
  rest = rest_then p q r a.rest b.rest;
}
  where
    more : take (i + 1) ns ≡ take i ns ++ n ∷ []
    more = take_more ns i 0 below ∙ ap (λ j. take i ns ++ j ∷ []) (sym is)

map_append : (before : ℕ) (xs : List ℕ) (n : ℕ)
    → raises before (xs ++ n ∷ []) ≡ raises before xs ++ deed.Raise (n - before) ∷ []
map_append before [] n = refl
map_append before (x ∷ xs) n = ap (λ (ds : List Deed). deed.Raise (x - before) ∷ ds)
    (map_append before xs n)

pub raises_more : (before : ℕ) (ns : List ℕ) (i n : ℕ) → i < length ns → n ≡ get_or ns i 0
    → raises before (take (i + 1) ns)
    ≡ raises before (take i ns) ++ deed.Raise (n - before) ∷ []
raises_more before ns i n below is =
    ap (raises before) (take_more ns i 0 below ∙ ap (λ j. take i ns ++ j ∷ []) (sym is))
    ∙ map_append before (take i ns) n

-- ---- the loop

-- the first so many are raised, and the others may be
abbrev pub AreRaisedTo : {C B : Type 0} → List ℕ → ℕ → Hand C B → Hand C B → Type 0
AreRaisedTo ns i h g = (p q : BucketsPart) × (h.buckets ≡ Some p)
    × (g ≡ record h { buckets = Some q }) × HasRaised p (take i ns) q
    × AreVictims q.reserves q.buckets (drop i ns)

pub raised_none : {C B : Type 0} (ns : List ℕ) (h : Hand C B) (p : BucketsPart)
    → h.buckets ≡ Some p → AreVictims p.reserves p.buckets ns → AreRaisedTo ns 0 h h
raised_none ns h p is are = (
  p,
  p,
  is,
  ap (λ (o : Option BucketsPart). record h { buckets = o }) is,
  record {
    reserves = ap (λ (ks : List ℕ). record p.reserves { raised = ks })
        (sym (append-nil p.reserves.raised));
    buckets = refl;
    fill = refl;
    rest = record { chain = refl; renewing = refl; round = refl; served = refl };
  },
  are,
)

-- the one that is next
pub next_may : {C B : Type 0} (ns : List ℕ) (i n : ℕ) (h g : Hand C B)
    → i < length ns → n ≡ get_or ns i 0 → AreRaisedTo ns i h g
    → (p : BucketsPart) × (g.buckets ≡ Some p) × IsCandidate p.reserves p.buckets n
next_may ns i n h g below is at = (
  at.1,
  ap (λ (x : Hand _ _). x.buckets) at.3,
  first_may at.1 n (drop (i + 1) ns)
      (subst (AreVictims at.1.reserves at.1.buckets)
      (drop_more ns i 0 below ∙ ap (λ j. j ∷ drop (i + 1) ns) (sym is)) at.5),
)

pub raised_next : {C B : Type 0} (ns : List ℕ) (i n : ℕ) (h g x : Hand C B)
    → i < length ns → n ≡ get_or ns i 0 → AreRaisedTo ns i h g
    → HasRaisedIn g (n ∷ []) x → AreRaisedTo ns (i + 1) h x
raised_next ns i n h g x below is at did =
    let same : did.0 ≡ at.1 = same_some g.buckets did.0 at.1 did.2
    (ap (λ (y : Hand _ _). y.buckets) at.3) in
    let one : HasRaised at.1 (n ∷ []) did.1 =
    subst (λ (p : BucketsPart). HasRaised p (n ∷ []) did.1) same did.4 in (
      at.0,
      did.1,
      at.2,
      did.3 ∙ ap (λ (y : Hand _ _). record y { buckets = Some did.1 }) at.3,
      raised_more at.0 at.1 did.1 ns i n below is at.4 one,
      others_may at.1 did.1 n (drop (i + 1) ns)
          (subst (AreVictims at.1.reserves at.1.buckets)
          (drop_more ns i 0 below ∙ ap (λ j. j ∷ drop (i + 1) ns) (sym is)) at.5) one,
    )

-- all of them
pub raised_all : {C B : Type 0} (ns : List ℕ) (i : ℕ) (h g : Hand C B) → length ns ≤ i
    → AreRaisedTo ns i h g → HasRaisedIn h ns g
raised_all ns i h g all at = (
  at.0,
  at.1,
  at.2,
  at.3,
  subst (λ ks. HasRaised at.0 ks at.1) (take_all i ns all) at.4,
)

-- ---- deeds

module _ {C B : Type 0} (cache_facts : C → DiskFacts) (backing_facts : B → DiskFacts) where
  pub done_more : (before : ℕ) (ns : List ℕ) (i n : ℕ) (u v w : View cache_facts backing_facts)
      → i < length ns → n ≡ get_or ns i 0
      → HasDone cache_facts backing_facts (raises before (take i ns)) u v
      → Did cache_facts backing_facts (Some (deed.Raise (n - before))) v w
      → HasDone cache_facts backing_facts (raises before (take (i + 1) ns)) u w
  done_more before ns i n u v w below is a b = subst (λ ds. HasDone cache_facts backing_facts ds u
      w)
      (sym (raises_more before ns i n below is))
      (done_then cache_facts backing_facts (raises before (take i ns))
      (Some (deed.Raise (n - before))) u v w a b)

  -- a step that only waited adds nothing
  pub done_waited : (ds : List Deed) (u v w : View cache_facts backing_facts)
      → HasDone cache_facts backing_facts ds u v → Did cache_facts backing_facts None v w
      → HasDone cache_facts backing_facts ds u w
  done_waited ds u v w a b = subst (λ xs. HasDone cache_facts backing_facts xs u w) (append-nil ds)
      (done_then cache_facts backing_facts ds None u v w a b)

  pub raised_some : (before : ℕ) (ns : List ℕ) (i : ℕ) (h g x : Hand C B)
      (u v w : View cache_facts backing_facts) → i < length ns → AreRaisedTo ns i h g
      → HasDone cache_facts backing_facts (raises before (take i ns)) u v
      → Did cache_facts backing_facts None v w → x ≡ g
      → HasRaisedSome cache_facts backing_facts before h ns x u w
  raised_some before ns i h g x u v w less at done waited same = record {
    count = i;
    less = less;
    part = (at.0, at.1, at.2, same ∙ at.3, at.4);
    done = done_waited (raises before (take i ns)) u v w done waited;
  }
